-- The one looked at is the first that is busy, or idle like those before. Assumes nothing.
use native.Mathlib.Omega.{arith}
use Rattle.turns_from.proofs.Rounds.{none_and_here}
use Rattle.turns_from.proofs.first_busy.Goals as goal

pub loop-v-init : goal.loop-v-init
loop-v-init c = (omega arith, λ x a b. absurd (omega (arith, a, b)))

pub returns-then-workers-v : goal.returns-then-workers-v
returns-then-workers-v c =
    record { not_before = c.loop-v.invariant.0; below = omega arith; busy = c.if-workers-v.true; none_before = c.loop-v.invariant.1 }

pub loop-v-preserved : goal.loop-v-preserved
loop-v-preserved c = (omega (arith, c.loop-v.invariant.0), none_and_here _ _ _ c.loop-v.invariant.1 c.if-workers-v.false)

pub returns : goal.returns
returns c = λ x a b. c.loop-v.invariant.1 x a (omega (arith, b))
