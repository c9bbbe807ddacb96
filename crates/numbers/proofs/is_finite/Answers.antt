-- `numbers::is_finite` meets its contract: between the two infinities stand the finite numbers alone. Assumes nothing.
use mathlib.Core.Path.{◌≡◌, refl}
use mathlib.Core.Bool.{true, false, ◌&&◌}
use lib.Ieee.{Float, nan, inf, fin, lt, of_bits}
use Rattle.model.specs.Num.{finite}
use Rattle.numbers.proofs.is_finite.Goals as goal

between : (x : Float) → (lt (inf true) x && lt x (inf false)) ≡ finite x
unfolding lt finite
between nan = refl
between (inf true) = refl
between (inf false) = refl
between (fin s m e) = refl

pub returns : goal.returns
unfolding of_bits
returns c =
    between c.args.x
