-- A refusal leaves everything; else each part is as the definition has it. Assumes nothing.
use mathlib.Core.Path.{refl}
use native.Mathlib.Omega.{arith}
use Rattle.opening.proofs.Laws.{checked_then, refused, accepted_lem}
use Rattle.opening.proofs.open.Goals as goal

pub returns-then-not-accepted : goal.returns-then-not-accepted
returns-then-not-accepted c =
    record { workers_after = refused _ _ _ _ c.args.workers.slots c.args.workers.count c.args.workers.number _ (c.open_answer-answer.ensures c.args.workers.slots c.args.workers.number) _ c.accepted.ensures c.if-not-accepted.true; others_kept = record { same_count = refl; same_slots = refl } }

pub number_records-requires : goal.number_records-requires
number_records-requires c =
    let k = checked_then _ _ _ _ c.args.workers.slots c.args.workers.count c.args.workers.number _ (c.open_answer-answer.ensures c.args.workers.slots c.args.workers.number)
    _ c.accepted.ensures c.if-not-accepted.false in
    (k.sizes, k.fit.records_fit)

pub idle_workers-left-requires : goal.idle_workers-left-requires
idle_workers-left-requires c =
    let k = checked_then _ _ _ _ c.args.workers.slots c.args.workers.count c.args.workers.number _ (c.open_answer-answer.ensures c.args.workers.slots c.args.workers.number)
    _ c.accepted.ensures c.if-not-accepted.false in
    omega (arith, k.counted, k.sizes.few_workers)

pub returns : goal.returns
returns c =
    record {
      workers_after = accepted_lem _ _ _ _ c.args.workers.slots c.args.workers.count c.args.workers.number _ (c.open_answer-answer.ensures c.args.workers.slots c.args.workers.number)
          _ c.accepted.ensures c.if-not-accepted.false
          _ _ _ _ _ (c.fill.ensures.after (λ y e. e)) c.number_records.ensures c.idle_workers-left.ensures.count_value.0 c.idle_workers-left.ensures.count_value.1;
      others_kept = c.idle_workers-left.ensures.others_kept;
    }
