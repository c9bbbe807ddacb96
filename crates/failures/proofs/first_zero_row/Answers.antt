-- The first from x on is the first of all. Assumes nothing.
use mathlib.Core.Path.{sym, ap, ◌∙◌}
use native.Mathlib.Omega.{arith}
use lib.Ieee.{of_bits}
use Rattle.model.specs.Num.{is_zero}
use Rattle.model.specs.Plan.{plan, order}
use Rattle.model.specs.Loops.{zero_rows}
use Rattle.checks.proofs.Laws.{small}
use Rattle.unfinished.proofs.First.{first_begins, first_stops, first_goes_on, first_ends}
use Rattle.failures.proofs.first_zero_row.Goals as goal

pub overflow_mul-order : goal.overflow_mul-order
overflow_mul-order c =
    omega (arith, small _ _ c.requires.0.few_tiles c.requires.0.small_side)

pub loop-x-init : goal.loop-x-init
unfolding zero_rows order plan
loop-x-init c =
    first_begins _ _

pub returns-then-diagonal : goal.returns-then-diagonal
unfolding of_bits is_zero
returns-then-diagonal c =
    first_stops _ _ _ _ c.loop-x.invariant c.loop-x-test.true
    (ap is_zero (sym c.diagonal.ensures) ∙ c.if-diagonal.true)

pub loop-x-preserved : goal.loop-x-preserved
unfolding of_bits is_zero
loop-x-preserved c =
    first_goes_on _ _ _ _ c.loop-x.invariant c.loop-x-test.true
    (ap is_zero (sym c.diagonal.ensures) ∙ c.if-diagonal.false)

pub returns : goal.returns
returns c =
    first_ends _ _ _ _ c.loop-x.invariant (omega arith)
