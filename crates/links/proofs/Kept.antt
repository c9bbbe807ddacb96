-- The numbers that a test keeps are a rising list, where the test passes for those of the list and for no other. Assumes nothing.
use Prim.Native.Nat.{ℕ, zero, suc, ◌+◌, ◌≤◌, ◌<◌}
use mathlib.Core.Bool.{Bool, true, false, cond}
use mathlib.Core.Path.{◌≡◌, refl, ap, ◌∙◌}
use mathlib.Core.Logic.{◌⊎◌, inl, inr, ◌≢◌}
use mathlib.Core.List.{List, [], ◌∷◌}
use native.Mathlib.Omega.{arith}
use Rattle.model.specs.Lists.{run, keep}
use Rattle.laws.proofs.Tests.{never, true_or_false, same_or_not}
use Rattle.links.proofs.Places.{OneOf}

-- rising numbers from a on, all below e
abbrev pub Rising : ℕ → ℕ → List ℕ → Type 0
Rising e a [] = Unit
Rising e a (x ∷ xs) = (a ≤ x) × (x < e) × Rising e (suc x) xs

rising_from : (e a : ℕ) (xs : List ℕ) → Rising e a xs → (p : ℕ) → OneOf p xs → a ≤ p
rising_from e a [] r p m = absurd m
rising_from e a (x ∷ xs) (h, l, r) p (inl q) = omega arith
rising_from e a (x ∷ xs) (h, l, r) p (inr m) = omega (arith, rising_from e (suc x) xs r p m)

module _ (f : ℕ → Bool) (e : ℕ) where
  pub keep_is : (n a : ℕ) (xs : List ℕ) → a + n ≡ e → Rising e a xs → ((p : ℕ) → a ≤ p → p < e → f p ≡ true → OneOf p xs) → ((p : ℕ) → OneOf p xs → f p ≡ true)
      → keep f (run a n) ≡ xs
  unfolding keep run
  keep_is zero a [] q r to from = refl
  keep_is zero a (x ∷ xs) q (h, l, r) to from = absurd (omega arith)
  keep_is (suc n) a [] q r to from = go (true_or_false (f a)) (keep_is n (suc a) [] (omega arith) tt (λ p h l. to p (omega arith) l) from)
    where
      go : (f a ≡ true) ⊎ (f a ≡ false) → keep f (run (suc a) n) ≡ [] → cond (f a) (a ∷ keep f (run (suc a) n)) (keep f (run (suc a) n)) ≡ []
      go (inl t) ih = absurd (to a (omega arith) (omega arith) t)
      go (inr t) ih = rw t ih
  keep_is (suc n) a (x ∷ xs) q (h, l, r) to from = go (same_or_not a x) (true_or_false (f a)) (keep_is n (suc a) xs (omega arith)) (keep_is n (suc a) (x ∷ xs) (omega arith))
    where
      Kept : List ℕ → Type 0
      Kept ys = Rising e (suc a) ys → ((p : ℕ) → suc a ≤ p → p < e → f p ≡ true → OneOf p ys) → ((p : ℕ) → OneOf p ys → f p ≡ true) → keep f (run (suc a) n) ≡ ys

      -- past the first
      rest : a ≡ x → (p : ℕ) → suc a ≤ p → OneOf p (x ∷ xs) → OneOf p xs
      rest s p b (inl g) = absurd (omega arith)
      rest s p b (inr m) = m

      go : (a ≡ x) ⊎ (a ≢ x) → (f a ≡ true) ⊎ (f a ≡ false) → Kept xs → Kept (x ∷ xs) → cond (f a) (a ∷ keep f (run (suc a) n)) (keep f (run (suc a) n)) ≡ x ∷ xs
      go (inl s) (inl t) ih ih' = rw t (λ i. s i ∷ ih (rw s r) (λ p b c d. rest s p b (to p (omega arith) c d)) (λ p m. from p (inr m)) i)
      go (inl s) (inr t) ih ih' = never (ap f s ∙ from x (inl refl)) t
      go (inr s) (inl t) ih ih' = absurd (s (omega (arith, rising_from e x (x ∷ xs) (omega arith, l, r) a (to a (omega arith) (omega arith) t))))
      go (inr s) (inr t) ih ih' = rw t (ih' (omega arith, l, r) (λ p b c d. to p (omega arith) c d) from)
