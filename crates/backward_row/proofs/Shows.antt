-- A number computed for a backward row that isn't finite shows in the row's quotient. Assumes nothing.
use mathlib.Core.Path.{◌≡◌, refl, sym, ◌∙◌, ap}
use mathlib.Core.Bool.{Bool, true, false, cond, ◌&&◌}
use mathlib.Core.List.{List, [], ◌∷◌}
use Prim.Native.Nat.{ℕ}
use lib.ListN.{get_or}
use lib.Ieee.{Float, nan, binary64, sub, mul}
use Rattle.std.specs.Prelude.{Option, Some, None}
use Rattle.model.specs.Lists.{every}
use Rattle.model.specs.Num.{finite, is_zero, update, update_computes, quotient}
use Rattle.model.specs.Column.{beyond}
use Rattle.model.specs.Plan.{Plan, order}
use Rattle.model.specs.Buffer.{Buffers}
use Rattle.model.specs.Solve.{coefficient, row_left, row_computed, row_value, row}
use Rattle.laws.proofs.Tests.{and_intro}
use Rattle.float_laws.proofs.Finite.{difference_of_finite, quotient_of_finite, computed_shows}
use Rattle.laws.proofs.Every.{every_append}

-- an updated number is finite only where the number was
before_update : (d u v : Float) → finite (update d u v) ≡ true → finite d ≡ true
unfolding update
before_update d u v h = go (is_zero u) h
  where
    go : (b : Bool) → finite (cond b d (sub binary64 d (mul binary64 u v))) ≡ true → finite d ≡ true
    go true e = e
    go false e = (difference_of_finite d (mul binary64 u v) e).0

module _ (z : Plan) (s : Buffers) (x : ℕ) (y : List Float) where
  -- what is left is finite only where it began so, and where every number computed is
  left_shows : (qs : List ℕ) (d : Float) → finite (row_left z s x y qs d) ≡ true → (finite d ≡ true) × (every finite (row_computed z s x y qs d) ≡ true)
  unfolding row_left row_computed every
  left_shows [] d h = (h, refl)
  left_shows (q ∷ qs) d h =
      let u = coefficient z s x q in
      let v = get_or y q nan in
      let (f, e) = left_shows qs (update d u v) h in
      let b = before_update d u v f in
      (b, every_append finite (update_computes d u v) (row_computed z s x y qs (update d u v)) ∙ and_intro (every finite (update_computes d u v)) (every finite (row_computed z s x y qs (update d u v))) (computed_shows d u v b ∙ f) e)

  -- the row by its quotient v alone, where the diagonal is finite
  module _ (diagonal : finite (coefficient z s x x) ≡ true) (v : Float) (is : v ≡ row_value z s x y) where
    pub row_number_lem : finite v ≡ true → Some v ≡ row z s x y
    unfolding row row_value
    row_number_lem h =
        let left = row_left z s x y (beyond (order z) x) (get_or y x nan) in
        let f = (quotient_of_finite left (coefficient z s x x) diagonal (ap finite (sym is) ∙ h)).0 in
        let all = (left_shows (beyond (order z) x) (get_or y x nan) f).1 in
        rw (all, ap finite (sym is) ∙ h, row) (ap Some is)

    pub row_not_finite : finite v ≡ false → None ≡ row z s x y
    unfolding row row_value
    row_not_finite h = go (every finite (row_computed z s x y (beyond (order z) x) (get_or y x nan))) (ap finite (sym is) ∙ h)
      where
        go : (b : Bool) → finite (quotient (row_left z s x y (beyond (order z) x) (get_or y x nan)) (coefficient z s x x)) ≡ false
            → ◌≡◌ {A = Option Float} None (elim (b && finite (quotient (row_left z s x y (beyond (order z) x) (get_or y x nan)) (coefficient z s x x))) [
              | true ↦ Some (quotient (row_left z s x y (beyond (order z) x) (get_or y x nan)) (coefficient z s x x))
              | false ↦ None
            ])
        go true e = rw e
        go false e = refl
