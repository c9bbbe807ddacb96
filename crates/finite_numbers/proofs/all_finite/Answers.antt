-- The flag is the test of the numbers passed. Assumes nothing.
use mathlib.Core.Path.{refl, ap, ◌∙◌}
use native.Mathlib.Numerals.{add-one}
use native.Mathlib.Omega.{arith}
use lib.Ieee.{nan}
use lib.Seq.{take_all}
use Rattle.model.specs.Lists.{every}
use Rattle.model.specs.Num.{finite}
use Rattle.model.specs.Tile.{all_finite}
use Rattle.laws.proofs.Every.{every_more}
use Rattle.finite_numbers.proofs.all_finite.Goals as goal

pub loop-number-init : goal.loop-number-init
unfolding every
loop-number-init c =
    refl

pub loop-number-preserved : goal.loop-number-preserved
loop-number-preserved c =
    let k = c.loop-number.number-index in
    let numbers = c.args.numbers.now in
    rw add-one (cc (every_more finite numbers k nan (omega arith)))

pub returns : goal.returns
unfolding all_finite
returns c =
    c.loop-number.invariant ∙ ap (every finite) (take_all c.loop-number.number-index c.args.numbers.now (omega arith))
