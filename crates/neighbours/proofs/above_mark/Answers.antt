-- The task above stands a row before it. Assumes nothing.
use native.Mathlib.Omega.{arith}
use Rattle.neighbours.proofs.Laws.{small, above_at, no_above, one_above}
use Rattle.neighbours.proofs.above_mark.Goals as goal

pub returns-then-i-k : goal.returns-then-i-k
returns-then-i-k c =
    no_above _ _ _ _ _ _ c.requires _ c.if-i-k.true

pub overflow_sub-p : goal.overflow_sub-p
overflow_sub-p c =
    omega (arith, above_at _ _ _ _ _ _ c.requires c.if-i-k.false)

pub mark_of-requires : goal.mark_of-requires
mark_of-requires c =
    omega (arith, small _ _ _ _ _ _ c.requires)

pub returns : goal.returns
returns c =
    one_above _ _ _ _ _ _ c.requires _ c.if-i-k.false _ _ (omega (arith, above_at _ _ _ _ _ _ c.requires c.if-i-k.false)) c.mark_of.ensures
