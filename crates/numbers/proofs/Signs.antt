-- What std's `abs` gives is the magnitude. Assumes nothing.
use mathlib.Core.Path.{◌≡◌, refl}
use mathlib.Core.Bool.{false}
use lib.Ieee.{Float, nan, inf, fin}
use Rattle.std.specs.Float.{float_with_sign}
use Rattle.model.specs.Num.{magnitude}

pub abs_is_magnitude : (x : Float) → float_with_sign false x ≡ magnitude x
unfolding float_with_sign magnitude
abs_is_magnitude nan = refl
abs_is_magnitude (inf s) = refl
abs_is_magnitude (fin s m e) = refl
