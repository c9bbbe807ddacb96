-- A refusal leaves everything; else the worker's column is done. Assumes nothing.
use mathlib.Core.Path.{refl}
use Rattle.working.proofs.Laws.{refused, works_then, worked}
use Rattle.working.proofs.column.Goals as goal

pub returns-then-not-accepted : goal.returns-then-not-accepted
returns-then-not-accepted c =
    record { workers_after = refused c.args.z _ _ _ c.args.workers.slots c.args.workers.count c.args.workers.number _ _ c.column_answer-answer.ensures _ c.accepted.ensures c.if-not-accepted.true; others_kept = record { same_count = refl; same_slots = refl } }

pub advance_worker-left-requires : goal.advance_worker-left-requires
advance_worker-left-requires c =
    works_then c.args.z _ _ _ c.args.workers.slots c.args.workers.count c.args.workers.number _ _ c.column_answer-answer.ensures _ c.accepted.ensures c.if-not-accepted.false

pub returns : goal.returns
returns c =
    record { workers_after = worked c.args.z _ _ _ c.args.workers.slots c.args.workers.count c.args.workers.number _ _ c.column_answer-answer.ensures _ c.accepted.ensures c.if-not-accepted.false _ c.advance_worker-left.ensures.result_after; others_kept = c.advance_worker-left.ensures.others_kept }
