-- The flag is the test of the numbers passed. Assumes nothing.
use mathlib.Core.Path.{◌≡◌}
use lib.ListN.{take}
use Rattle.model.specs.Lists.{every}
use Rattle.model.specs.Num.{finite}
use Rattle.finite_numbers.proofs.all_finite.Given as goal

abbrev pub invariant-loop-number : goal.invariant-loop-number
invariant-loop-number l = l.good ≡ every finite (take l.number-index l.numbers)
