-- The numbers from x up to n, taken one at a time, and tests over the numbers below n. Assumes nothing.
use Prim.Native.Nat.{ℕ, zero, suc, ◌+◌, ◌-◌, ◌≤◌, ◌<◌}
use mathlib.Core.Path.{◌≡◌, refl, ap, ◌∙◌}
use mathlib.Core.Bool.{Bool, true, false, not, ◌&&◌, ◌||◌}
use mathlib.Core.List.{List, [], ◌∷◌, map}
use native.Mathlib.Numerals.{add-one}
use native.Mathlib.Omega.{arith}
use Rattle.std.specs.List.{list_any, range_with_len}
use Rattle.model.specs.Lists.{run, below, every, some}

-- the numbers from x up to n
abbrev pub up_to : ℕ → ℕ → List ℕ
up_to x n = run x (n - x)

pub up_to_next : (x n : ℕ) → x < n → up_to x n ≡ x ∷ up_to (x + 1) n
unfolding run
up_to_next x n h =
    let e : n - x ≡ suc (n - (x + 1)) = omega arith in
    ap (run x) e ∙ ap (λ (y : ℕ). x ∷ run y (n - (x + 1))) (rw add-one)

pub up_to_none : (x n : ℕ) → n ≤ x → up_to x n ≡ []
unfolding run
up_to_none x n h = let e : n - x ≡ 0 = omega arith in ap (run x) e

-- ---- tests over what f makes of the numbers below n, as the library has them over a range

module _ {A : Type 0} (f : ℕ → A) (p : A → Bool) where
  any_run : (a n : ℕ) → list_any (λ x. p (f x)) (range_with_len a n) ≡ some p (map f (run a n))
  unfolding run some
  any_run a zero = refl
  any_run a (suc n) = rw (add-one a) (ap (λ (b : Bool). p (f a) || b) (any_run (suc a) n))

  pub any_below : (n : ℕ) → list_any (λ x. p (f x)) (range_with_len 0 n) ≡ some p (map f (below n))
  unfolding below
  any_below n = any_run 0 n

  any_not_run : (a n : ℕ) → list_any (λ x. not (p (f x))) (range_with_len a n) ≡ not (every p (map f (run a n)))
  unfolding run every
  any_not_run a zero = refl
  any_not_run a (suc n) = rw (add-one a) (ap (λ (b : Bool). not (p (f a)) || b) (any_not_run (suc a) n) ∙ or_not (p (f a)) (every p (map f (run (suc a) n))))
    where
      or_not : (a b : Bool) → (not a || not b) ≡ not (a && b)
      or_not true b = refl
      or_not false b = refl

  pub any_not_below : (n : ℕ) → list_any (λ x. not (p (f x))) (range_with_len 0 n) ≡ not (every p (map f (below n)))
  unfolding below
  any_not_below n = any_not_run 0 n
