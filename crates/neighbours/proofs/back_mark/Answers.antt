-- From the stage before it the task stands n + (n - k)² before the number p + 1 + i. Assumes nothing.
use native.Mathlib.Omega.{arith}
use Rattle.neighbours.proofs.Laws.{small, back_at, no_back, one_back}
use Rattle.neighbours.proofs.back_mark.Goals as goal

pub returns-then-k-eq0 : goal.returns-then-k-eq0
returns-then-k-eq0 c =
    no_back _ _ _ _ _ _ c.requires _ c.if-k-eq0.true

pub overflow_add-p : goal.overflow_add-p
overflow_add-p c =
    omega (arith, small _ _ _ _ _ _ c.requires)

pub overflow_add-p-2 : goal.overflow_add-p-2
overflow_add-p-2 c =
    omega (arith, small _ _ _ _ _ _ c.requires)

pub overflow_sub-p : goal.overflow_sub-p
overflow_sub-p c =
    omega (arith, back_at _ _ _ _ _ _ c.requires c.if-k-eq0.false)

pub mark_of-requires : goal.mark_of-requires
mark_of-requires c =
    omega (arith, small _ _ _ _ _ _ c.requires)

pub returns : goal.returns
returns c =
    one_back _ _ _ _ _ _ c.requires _ c.if-k-eq0.false _ _
    (omega (arith, back_at _ _ _ _ _ _ c.requires c.if-k-eq0.false)) c.mark_of.ensures
