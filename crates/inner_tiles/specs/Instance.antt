-- binary64 numbers and t lower rows, as a setting of the theory of inner blocks. Assumes nothing.
use Rattle.std.specs.Prelude.{ℕ, zero, suc, Bool, true, false, List, map, ◌≡◌, refl, eqb, ltb, Float}
use Rattle.std.proofs.Math.Option.{Option, none, some}
use Rattle.inner_theory.specs.Setting.{Setting}
use Rattle.model.specs.Lists.{below}
use Rattle.model.specs.Num.{plus_zero, finite, is_zero, update, quotient}
use Rattle.model.specs.Column.{search}

abbrev pub Row : ℕ → Type 0
Row t = (r : ℕ) × (ltb r t ≡ true)

unfoldable pub row : (t r : ℕ) (b : Bool) → ltb r t ≡ b → Option (Row t)
row t r true e = some (r, e)
row t r false e = none

-- the lower row that a list entry names
unfoldable pub named : (t : ℕ) → ℕ → Option (Row t)
named t zero = none
named t (suc r) = row t r (ltb r t) refl

-- the candidates by list entry, 0 to t
unfoldable pub listed : (t : ℕ) → (Option (Row t) → Float) → List Float
listed t f = map (λ e. f (named t e)) (below (suc t))

abbrev pub ieee : ℕ → Setting
ieee t = record {
  Num = Float;
  nought = plus_zero;
  is_zero = is_zero;
  finite = finite;
  update = update;
  quotient = quotient;
  Row = Row t;
  same = λ r s. eqb r.0 s.0;
  winner = λ f. named t (search (listed t f)).place;
  flat = λ f. is_zero (search (listed t f)).magnitude;
}
