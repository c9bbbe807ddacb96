-- A refusal leaves everything; else the turns are the whole run. Assumes nothing.
use mathlib.Core.Path.{refl, sym, ◌∙◌}
use Rattle.runs.proofs.Replies.{refused, accepted_lem}
use Rattle.runs.proofs.run.Goals as goal

pub returns-in-Err : goal.returns-in-Err
returns-in-Err c =
    record { workers_after = refused _ _ _ _ c.run_answer-answer.ensures _ c.in-Err.is; others_kept = record { same_count = refl; same_slots = refl } }

pub take_turns-requires : goal.take_turns-requires
take_turns-requires c =
    sym c.run_answer-answer.ensures ∙ c.in_default.is

pub returns : goal.returns
returns c =
    let t = c.take_turns.ensures in
    record { workers_after = t.workers_after ∙ accepted_lem _ _ _ _ c.run_answer-answer.ensures c.in_default.is; others_kept = t.others_kept }
