-- Sums of f 0, f 1, .. , f (n - 1). Assumes nothing.
use Prim.Native.Nat.{ℕ, zero, suc, ◌+◌, ◌*◌, ◌≤◌, ◌<◌}
use mathlib.Core.Path.{◌≡◌, refl, ap, ◌∙◌}
use mathlib.Core.Bool.{Bool, cond}
use mathlib.Core.Logic.{◌⊎◌, inl, inr, ◌≢◌}
use mathlib.Core.List.{List, [], ◌∷◌, ◌++◌, map}
use native.Mathlib.Nat.{suc-mul}
use native.Mathlib.Omega.{arith}
use lib.Dec.{eqb}
use borrow.Author.Tests.{eq-eqb, ne_eqb}
use Rattle.model.specs.Lists.{below, run, total}
use Rattle.laws.proofs.Runs.{below_last}
use Rattle.laws.proofs.Tests.{same_or_not}

total_more : (f : ℕ → ℕ) (xs : List ℕ) (y : ℕ) → total (map f (xs ++ y ∷ [])) ≡ total (map f xs) + f y
unfolding total
total_more f [] y = omega arith
total_more f (x ∷ xs) y = omega (arith, total_more f xs y)

pub total_last : (f : ℕ → ℕ) (n : ℕ) → total (map f (below (suc n))) ≡ total (map f (below n)) + f n
total_last f n = ap (λ (l : List ℕ). total (map f l)) (below_last n) ∙ total_more f (below n) n

pub total_zero : (f : ℕ → ℕ) → total (map f (below 0)) ≡ 0
unfolding total below run
total_zero f = refl

-- parts that agree
pub total_same : (f g : ℕ → ℕ) (n : ℕ) → ((p : ℕ) → p < n → f p ≡ g p) → total (map f (below n)) ≡ total (map g (below n))
total_same f g zero h = omega (arith, total_zero f, total_zero g)
total_same f g (suc n) h = omega (arith, total_last f n, total_last g n, h n (omega arith), total_same f g n (λ p l. h p (omega arith)))

-- no part is above k
pub total_most : (f : ℕ → ℕ) (k n : ℕ) → ((p : ℕ) → p < n → f p ≤ k) → total (map f (below n)) ≤ n * k
total_most f k zero h = omega (arith, total_zero f)
total_most f k (suc n) h = omega (arith, total_last f n, h n (omega arith), suc-mul n k, total_most f k n (λ p l. h p (omega arith)))

-- one part has grown, and the others are the same
pub total_grows : (f g : ℕ → ℕ) (p n : ℕ) → p < n → ((q : ℕ) → q ≢ p → f q ≡ g q) → suc (f p) ≤ g p
    → suc (total (map f (below n))) ≤ total (map g (below n))
total_grows f g p zero l h k = absurd (omega arith)
total_grows f g p (suc n) l h k = go (λ (m : p < n). total_grows f g p n m h k) (same_or_not p n)
  where
    go : (p < n → suc (total (map f (below n))) ≤ total (map g (below n))) → (p ≡ n) ⊎ (p ≢ n)
        → suc (total (map f (below (suc n)))) ≤ total (map g (below (suc n)))
    go ih (inl e) =
        let fp : f p ≡ f n = ap f e in
        let gp : g p ≡ g n = ap g e in
        omega (arith, total_last f n, total_last g n, k, fp, gp, total_same f g n (λ q m. h q (λ (d : q ≡ p). omega arith)))
    go ih (inr d) = omega (arith, total_last f n, total_last g n, ih (omega arith), h n (λ (e : n ≡ p). omega arith))

-- one part is one more
pub total_one_more : (f g : ℕ → ℕ) (p n : ℕ) → p < n → ((q : ℕ) → g q ≡ f q + cond (eqb p q) 1 0)
    → total (map g (below n)) ≡ suc (total (map f (below n)))
total_one_more f g p zero l h = absurd (omega arith)
total_one_more f g p (suc n) l h = go (λ (m : p < n). total_one_more f g p n m h) (same_or_not p n)
  where
    off : (q : ℕ) → p ≢ q → f q ≡ g q
    off q d = let b : ◌≡◌ {A = ℕ} (cond (eqb p q) 1 0) 0 = ap (λ (b : Bool). cond b 1 0) (ne_eqb p q d) in omega (arith, b, h q)

    go : (p < n → total (map g (below n)) ≡ suc (total (map f (below n)))) → (p ≡ n) ⊎ (p ≢ n)
        → total (map g (below (suc n))) ≡ suc (total (map f (below (suc n))))
    go ih (inl e) =
        let b : ◌≡◌ {A = ℕ} (cond (eqb p n) 1 0) 1 = ap (λ (b : Bool). cond b 1 0) (eq-eqb p n e) in
        omega (arith, total_last f n, total_last g n, b, h n, total_same f g n (λ q m. off q (λ (d : p ≡ q). omega arith)))
    go ih (inr d) = omega (arith, total_last f n, total_last g n, off n d, ih (omega arith))
