-- A row that a pivot row was eliminated from, left of the pivot's column, in it and right of it. Assumes nothing.
use Prim.Native.Nat.{ℕ, ◌<◌, compare, Ordering}
use mathlib.Core.Bool.{true, false}
use mathlib.Core.Path.{◌≡◌, refl}
use native.Mathlib.Omega.{arith}
use lib.Dec.{is_le, compare_is_eq}
use lib.Ieee.{Float}
use borrow.Author.Tests.{eq-eqb, ne_eqb, le-leb, lt-leb}
use Rattle.model.specs.Num.{update, quotient}
use Rattle.model.specs.Column.{sides, eliminated}
use Rattle.laws.proofs.Tests.{never}

sides_lt : (o : Ordering) (x y z : Float) → is_le o ≡ true → compare_is_eq o ≡ false → sides o x y z ≡ x
sides_lt Ordering.lt x y z h g = refl
sides_lt Ordering.eq x y z h g = never refl g
sides_lt Ordering.gt x y z h g = never h refl

sides_eq : (o : Ordering) (x y z : Float) → compare_is_eq o ≡ true → sides o x y z ≡ y
sides_eq Ordering.lt x y z h = never h refl
sides_eq Ordering.eq x y z h = refl
sides_eq Ordering.gt x y z h = never h refl

sides_gt : (o : Ordering) (x y z : Float) → is_le o ≡ false → sides o x y z ≡ z
sides_gt Ordering.lt x y z h = never refl h
sides_gt Ordering.eq x y z h = never refl h
sides_gt Ordering.gt x y z h = refl

module _ (c q : ℕ) (u x : ℕ → Float) where
  pub elim_lt : q < c → eliminated c u x q ≡ x q
  unfolding eliminated
  elim_lt h = sides_lt (compare q c) _ _ _ (le-leb q c (omega arith)) (ne_eqb q c (λ (z : q ≡ c). omega arith))

  pub elim_eq : q ≡ c → eliminated c u x q ≡ quotient (x c) (u c)
  unfolding eliminated
  elim_eq h = sides_eq (compare q c) _ _ _ (eq-eqb q c h)

  pub elim_gt : c < q → eliminated c u x q ≡ update (x q) (quotient (x c) (u c)) (u q)
  unfolding eliminated
  elim_gt h = sides_gt (compare q c) _ _ _ (lt-leb q c h)
