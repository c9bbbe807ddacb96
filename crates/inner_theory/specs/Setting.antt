-- What the theory knows of numbers and of the lower tile's rows. No law of the reals: results are compared bit for bit. Assumes nothing.
use Rattle.std.specs.Prelude.{Bool, true, ◌≡◌}
use Rattle.std.proofs.Math.Option.{Option}

pub record Setting : Type 1 where
  pub Num : Type 0
  -- +0
  pub nought : Num
  -- a zero of either sign
  pub is_zero : Num → Bool
  pub finite : Num → Bool
  -- x is updated by the multiplier m and the number y
  pub update : Num → Num → Num → Num
  pub quotient : Num → Num → Num
  -- the rows of the lower tile: the numbers below t
  pub Row : Type 0
  pub same : Row → Row → Bool
  -- the pivot search among the upper tile's diagonal element (none) and the lower rows: the winner, and whether its magnitude is zero
  pub winner : (Option Row → Num) → Option Row
  pub flat : (Option Row → Num) → Bool

-- What is asked of them.
pub record Laws (N : Setting) : Type 0 where
  pub nought_zero : N.is_zero N.nought ≡ true
  pub nought_finite : N.finite N.nought ≡ true
  pub zero_update : (x m y : N.Num) → N.is_zero m ≡ true → N.update x m y ≡ x
  pub same_refl : (r : N.Row) → N.same r r ≡ true
  pub same_eq : (r s : N.Row) → N.same r s ≡ true → r ≡ s
  -- where the largest magnitude is zero, every candidate is a zero
  pub flat_zero : (f : Option N.Row → N.Num) → ((o : Option N.Row) → N.finite (f o) ≡ true) → N.flat f ≡ true → (o : Option N.Row) → N.is_zero (f o) ≡ true
