-- The laws of that setting, and that an update of a number that isn't finite isn't. Assumes nothing.
use Prim.Native.Nat.{ℕ, suc, ◌+◌, ◌≤◌, ◌<◌}
use mathlib.Core.Bool.{Bool, true, false, cond, Bool-set}
use mathlib.Core.Option.{Option, none, some}
use mathlib.Core.Path.{◌≡◌, refl, sym, ap, ◌∙◌}
use mathlib.Core.HLevel.{Σ_prop_path}
use native.Mathlib.Omega.{arith}
use lib.Dec.{ltb}
use lib.IntN.{pos}
use lib.Ieee.{Float, binary64, sub, mul}
use borrow.Author.Tests.{eqb-true, eq-eqb, ltb-true}
use Rattle.model.specs.Lists.{run, below}
use Rattle.model.specs.Num.{finite, is_zero, update}
use Rattle.model.specs.Column.{search}
use Rattle.laws.proofs.Tests.{never}
use Rattle.float_laws.proofs.Finite.{zero_is_zero, difference_of_finite}
use Rattle.inner_theory.specs.Setting.{Laws}
use Rattle.inner_theory.specs.Clean.{Keeps}
use Rattle.inner_tiles.specs.Instance.{Row, row, named, listed, ieee}
use Rattle.inner_tiles.proofs.Pivots.{zeros_below}

-- ---- rows

pub same_row : (t : ℕ) (r s : Row t) → r.0 ≡ s.0 → r ≡ s
same_row t r s e = Σ_prop_path (λ n. Bool-set (ltb n t) true) e

row_is : (t r : ℕ) (b : Bool) (e : ltb r t ≡ b) (h : ltb r t ≡ true) → row t r b e ≡ some (r, h)
unfolding row
row_is t r true e h = ap some (same_row t (r, e) (r, h) refl)
row_is t r false e h = never h e

pub named_row : (t : ℕ) (r : Row t) → named t (suc r.0) ≡ some r
unfolding named
named_row t r = row_is t r.0 (ltb r.0 t) refl r.1

-- ---- the laws

module _ (t : ℕ) (f : Option (Row t) → Float) (fine : (o : Option (Row t)) → finite (f o) ≡ true) (h : is_zero (search (listed t f)).magnitude ≡ true) where
  zeros : (is_zero (f none) ≡ true) × ((i : ℕ) → 1 ≤ i → i < 1 + t → is_zero (f (named t i)) ≡ true)
  unfolding listed below run named
  zeros = zeros_below (f none) (λ e. f (named t e)) 1 t (λ i a b. fine (named t i)) h

  all_zeros : (o : Option (Row t)) → is_zero (f o) ≡ true
  all_zeros none = zeros.0
  all_zeros (some r) = let l : r.0 < t = ltb-true r.0 t r.1 in ap (λ (o : Option (Row t)). is_zero (f o)) (sym (named_row t r)) ∙ zeros.1 (suc r.0) (omega arith) (omega arith)

pub laws : (t : ℕ) → Laws (ieee t)
unfolding finite update
laws t = record {
  nought_zero = zero_is_zero false (pos 0);
  nought_finite = refl;
  zero_update = λ x m y h. rw h;
  same_refl = λ r. eq-eqb r.0 r.0 refl;
  same_eq = λ r s h. same_row t r s (eqb-true r.0 s.0 h);
  flat_zero = all_zeros t;
}

pub keeps : (t : ℕ) → Keeps (ieee t)
unfolding update
keeps t x m y = go (is_zero m)
  where
    go : (b : Bool) → finite (cond b x (sub binary64 x (mul binary64 m y))) ≡ true → finite x ≡ true
    go true h = h
    go false h = (difference_of_finite x (mul binary64 m y) h).0
