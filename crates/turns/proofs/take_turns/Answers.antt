-- The whole run is what is done from the first turn on. Assumes nothing.
use Rattle.turns.proofs.Starts.{starts, whole}
use Rattle.turns.proofs.take_turns.Goals as goal

pub turns_from-requires : goal.turns_from-requires
turns_from-requires c =
    starts _ _ _ _ _ c.args.workers c.requires

pub returns : goal.returns
returns c =
    let t = c.turns_from.ensures in
    record { workers_after = whole _ _ _ _ t.workers_after; others_kept = t.others_kept }
