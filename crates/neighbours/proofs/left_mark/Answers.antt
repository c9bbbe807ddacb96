-- The first of the row stands j - k before the task. Assumes nothing.
use native.Mathlib.Omega.{arith}
use Rattle.neighbours.proofs.Laws.{small, left_at, no_left, one_left}
use Rattle.neighbours.proofs.left_mark.Goals as goal

pub returns-then-j-k : goal.returns-then-j-k
returns-then-j-k c =
    no_left _ _ _ _ _ _ c.requires _ c.if-j-k.true

pub overflow_sub-p : goal.overflow_sub-p
overflow_sub-p c =
    omega (arith, left_at _ _ _ _ _ _ c.requires)

pub mark_of-requires : goal.mark_of-requires
mark_of-requires c =
    omega (arith, small _ _ _ _ _ _ c.requires)

pub returns : goal.returns
returns c =
    one_left _ _ _ _ _ _ c.requires _ c.if-j-k.false _ _ (omega (arith, left_at _ _ _ _ _ _ c.requires)) c.mark_of.ensures
