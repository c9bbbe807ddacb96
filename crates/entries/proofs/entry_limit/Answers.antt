-- The three cases of a list's place. Assumes nothing.
use Rattle.entries.proofs.Laws.{limit_diagonal, limit_below, limit_above}
use Rattle.entries.proofs.entry_limit.Goals as goal

pub returns-then-i-j : goal.returns-then-i-j
returns-then-i-j c =
    limit_diagonal c.args.z _ _ c.if-i-j.true

pub returns-then-j-i : goal.returns-then-j-i
returns-then-j-i c =
    limit_below c.args.z _ _ c.if-i-j.false c.if-j-i.true

pub returns : goal.returns
returns c =
    limit_above c.args.z _ _ c.if-i-j.false c.if-j-i.false
