-- The first from x on is the first of all. Assumes nothing.
use mathlib.Core.Path.{◌≡◌}
use Rattle.model.specs.Lists.{first_or}
use Rattle.model.specs.Num.{is_zero}
use Rattle.model.specs.Plan.{plan_of}
use Rattle.model.specs.Buffer.{element}
use Rattle.model.specs.Loops.{zero_rows}
use Rattle.std.specs.Prelude.{Some, None}
use Rattle.unfinished.proofs.First.{first_from}
use Rattle.failures.proofs.first_zero_row.Given as goal

abbrev pub invariant-loop-x : goal.invariant-loop-x
invariant-loop-x l = first_from (λ y. is_zero (element l.z.tiles l.z.side l.matrix y y)) l.order l.x ≡ first_or (zero_rows (plan_of l.z) l.matrix) Some None
