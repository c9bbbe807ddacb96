-- How many of the numbers below n, or of a list, pass a test. Assumes nothing.
use Prim.Native.Nat.{ℕ, zero, suc, ◌+◌, ◌≤◌, ◌<◌}
use mathlib.Core.Path.{◌≡◌, refl, sym, ap, ◌∙◌}
use mathlib.Core.Bool.{Bool, true, false, cond}
use mathlib.Core.List.{List, [], ◌∷◌, ◌++◌}
use native.Mathlib.Omega.{arith}
use lib.ListN.{length, get_or}
use Rattle.model.specs.Lists.{below, run, keep}
use Rattle.laws.proofs.Runs.{below_last}
use Rattle.laws.proofs.Tests.{never}

-- a list with one number more
count_more : (f : ℕ → Bool) (xs : List ℕ) (y : ℕ) → length (keep f (xs ++ y ∷ [])) ≡ length (keep f xs) + cond (f y) 1 0
unfolding keep
count_more f [] y = go (f y)
  where
    go : (b : Bool) → length (cond b (y ∷ []) []) ≡ 0 + cond b 1 0
    go true = refl
    go false = refl
count_more f (x ∷ xs) y = go (f x) (count_more f xs y)
  where
    go : (b : Bool) → length (keep f (xs ++ y ∷ [])) ≡ length (keep f xs) + cond (f y) 1 0
        → length (cond b (x ∷ keep f (xs ++ y ∷ [])) (keep f (xs ++ y ∷ []))) ≡ length (cond b (x ∷ keep f xs) (keep f xs)) + cond (f y) 1 0
    go true e = omega (arith, e)
    go false e = e

pub count_last : (f : ℕ → Bool) (n : ℕ) → length (keep f (below (suc n))) ≡ length (keep f (below n)) + cond (f n) 1 0
count_last f n = ap (λ (l : List ℕ). length (keep f l)) (below_last n) ∙ count_more f (below n) n

-- tests that agree below n
pub count_same : (f g : ℕ → Bool) (n : ℕ) → ((i : ℕ) → i < n → f i ≡ g i) → length (keep f (below n)) ≡ length (keep g (below n))
unfolding below run keep
count_same f g zero h = refl
count_same f g (suc n) h =
    let last : ◌≡◌ {A = ℕ} (cond (f n) 1 0) (cond (g n) 1 0) = ap (λ (b : Bool). cond b 1 0) (h n (omega arith)) in
    omega (arith, count_last f n, count_last g n, count_same f g n (λ i l. h i (omega arith)), last)

pub count_none : (f : ℕ → Bool) (n : ℕ) → ((i : ℕ) → i < n → f i ≡ false) → length (keep f (below n)) ≡ 0
unfolding below run keep
count_none f zero h = refl
count_none f (suc n) h =
    let last : ◌≡◌ {A = ℕ} (cond (f n) 1 0) 0 = ap (λ (b : Bool). cond b 1 0) (h n (omega arith)) in
    omega (arith, count_last f n, count_none f n (λ i l. h i (omega arith)), last)

pub count_most : (f : ℕ → Bool) (n : ℕ) → length (keep f (below n)) ≤ n
unfolding below run keep
count_most f zero = omega arith
count_most f (suc n) = omega (arith, count_last f n, count_most f n, few (f n))
  where
    few : (b : Bool) → cond b 1 0 ≤ 1
    few true = omega arith
    few false = omega arith

-- ---- of a list

module _ {A : Type 0} (f : A → Bool) (d : A) where
  kept_some : (xs : List A) (i : ℕ) → i < length xs → f (get_or xs i d) ≡ true → 0 < length (keep f xs)
  unfolding keep
  kept_some [] i h e = absurd (omega arith)
  kept_some (x ∷ xs) zero h e = ap_at e
    where
      ap_at : f x ≡ true → 0 < length (cond (f x) (x ∷ keep f xs) (keep f xs))
      ap_at q = rw q (omega arith)
  kept_some (x ∷ xs) (suc i) h e = go (f x) (kept_some xs i (omega arith) e)
    where
      go : (b : Bool) → 0 < length (keep f xs) → 0 < length (cond b (x ∷ keep f xs) (keep f xs))
      go true k = omega arith
      go false k = k

  none_kept : (xs : List A) → length xs ≡ 0 → xs ≡ []
  none_kept [] e = refl
  none_kept (x ∷ xs) e = absurd (omega (arith, e))

  -- where one alone passes it is the one that does
  pub one_kept : (xs : List A) (i : ℕ) → i < length xs → f (get_or xs i d) ≡ true → length (keep f xs) ≡ 1 → keep f xs ≡ get_or xs i d ∷ []
  unfolding keep
  one_kept [] i h e l = absurd (omega arith)
  one_kept (x ∷ xs) zero h e l = go (f x) e l
    where
      go : (b : Bool) → b ≡ true → length (cond b (x ∷ keep f xs) (keep f xs)) ≡ 1 → cond b (x ∷ keep f xs) (keep f xs) ≡ x ∷ []
      go true q k = ap (λ (l : List A). x ∷ l) (none_kept (keep f xs) (omega (arith, k)))
      go false q k = never q refl
  one_kept (x ∷ xs) (suc i) h e l = go (f x) (kept_some xs i (omega arith) e) (one_kept xs i (omega arith) e) l
    where
      go : (b : Bool) → 0 < length (keep f xs) → (length (keep f xs) ≡ 1 → keep f xs ≡ get_or xs i d ∷ []) → length (cond b (x ∷ keep f xs) (keep f xs)) ≡ 1 → cond b (x ∷ keep f xs) (keep f xs) ≡ get_or xs i d ∷ []
      go true k ih m = absurd (omega (arith, k, m))
      go false k ih m = ih m
