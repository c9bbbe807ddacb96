-- The tests are those of the definition. Assumes nothing.
use mathlib.Core.Bool.{Bool, true, false, not, ◌&&◌, ◌||◌}
use mathlib.Core.Path.{◌≡◌, refl}
use lib.Dec.{leb}
use Rattle.model.specs.declared.Sizes.{Sizes}
use Rattle.model.specs.Limits.{most_tiles, most_side, most_workers}
use Rattle.model.specs.Refusal.{inside, bad_sizes}
use Rattle.model.specs.Text.{bad_shape}
use Rattle.checks.proofs.bad_sizes.Goals as goal

either_not : (a b : Bool) → (not a || not b) ≡ not (a && b)
either_not true b = refl
either_not false b = refl

-- N or t outside its range, or W outside its own

either_bad : (z : Sizes) (b : Bool) → b ≡ bad_shape z.tiles z.side → (b || not (leb 1 z.workers && leb z.workers most_workers)) ≡ bad_sizes z
unfolding bad_sizes bad_shape inside
either_bad z b e = rw e (either_not (inside most_tiles z.tiles && inside most_side z.side) (inside most_workers z.workers))

pub returns : goal.returns
returns c =
    either_bad _ _ c.bad_shape.ensures
