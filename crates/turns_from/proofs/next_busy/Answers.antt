-- Those from w on are looked at, and then those below w. Assumes nothing.
use Rattle.turns_from.proofs.Rounds.{next_above, after_round}
use Rattle.turns_from.proofs.next_busy.Goals as goal

pub returns-in-Some-clause-next : goal.returns-in-Some-clause-next
returns-in-Some-clause-next c = next_above c.args.workers.now _ _ c.requires.0 _ c.in-Some.ensures

pub returns-clause-next : goal.returns-clause-next
returns-clause-next c = after_round c.args.workers.now _ _ c.requires.0 c.in_default.ensures _ c.first_busy-2.ensures
