-- `refusal_written::write_refusal` meets its contract. Assumes nothing.
use native.Mathlib.Omega.{arith}
use Rattle.refusal_written.proofs.Answers.{refusal_short, refusal_written}
use Rattle.refusal_written.proofs.write_refusal.Goals as goal

pub returns-then-text-lt9 : goal.returns-then-text-lt9
returns-then-text-lt9 c =
    rw c.at.ensures (refusal_short _ _ _ c.if-text-lt9.true)

pub put_refusal-requires : goal.put_refusal-requires
put_refusal-requires c =
    omega arith

pub shape_of-text : goal.shape_of-text
shape_of-text c =
    omega arith

pub returns : goal.returns
returns c =
    refusal_written _ _ _ _ c.if-text-lt9.false c.put_refusal.ensures
