-- `fill_coupled` meets its contract: the three fills one after the other. Assumes nothing.
use mathlib.Core.Path.{◌≡◌, ◌∙◌, ap}
use mathlib.Core.List.{List}
use Prim.Native.Nat.{ℕ, ◌*◌}
use lib.Ieee.{Float, of_bits}
use Rattle.model.specs.Lists.{part, with_part}
use Rattle.model.specs.Tile.{zeros, upper_filled}
use Rattle.couple_fills.proofs.fill_coupled.Goals as goal

upper_after : (t u : ℕ) (x y z : List Float) → y ≡ x → z ≡ with_part u (t * t) (upper_filled t (part u (t * t) y)) y
    → z ≡ with_part u (t * t) (upper_filled t (part u (t * t) x)) x
upper_after t u x y z e f = f ∙ ap (λ (a : List Float). with_part u (t * t) (upper_filled t (part u (t * t) a)) a) e

pub returns : goal.returns
unfolding zeros of_bits
returns c =
    let a = c.args in
    record { matrix_after = upper_after a.t a.u _ _ _ c.fill_part.ensures c.fill_upper.ensures; lists_after = c.fill_part-2.ensures }
