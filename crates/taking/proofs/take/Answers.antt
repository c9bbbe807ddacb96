-- A refusal leaves everything; else the record and the worker are as the definition has them. Assumes nothing.
use mathlib.Core.Path.{refl}
use native.Mathlib.Omega.{arith}
use lib.Seq.{drop-set-lt}
use Rattle.task_counts.proofs.Laws.{few_tasks}
use Rattle.call_laws.proofs.Undamaged.{number_small}
use Rattle.records.proofs.Laws.{length_slots}
use Rattle.taking.proofs.Laws.{refused, accepts_then, taken_by}
use Rattle.taking.proofs.take.Goals as goal

pub returns-then-not-accepted : goal.returns-then-not-accepted
returns-then-not-accepted c =
    record { workers_after = refused c.args.z _ _ _ c.args.workers.slots c.args.workers.count c.args.workers.number _ _ _ c.take_answer-answer.ensures _ c.accepted.ensures c.if-not-accepted.true; others_kept = record { same_count = refl; same_slots = refl } }

pub overflow_add-number : goal.overflow_add-number
overflow_add-number c =
    let a = accepts_then c.args.z _ _ _ c.args.workers.slots c.args.workers.count c.args.workers.number _ _ _ c.take_answer-answer.ensures _ c.accepted.ensures c.if-not-accepted.false in
    omega (arith, number_small c.args.z _ _ _ c.args.workers.slots c.args.workers.number a.state.sizes a.state.undamaged)

pub take_record-requires : goal.take_record-requires
take_record-requires c =
    let a = accepts_then c.args.z _ _ _ c.args.workers.slots c.args.workers.count c.args.workers.number _ _ _ c.take_answer-answer.ensures _ c.accepted.ensures c.if-not-accepted.false in
    omega (arith, a.task_exists, a.state.lengths.records_fit)

pub offset_bounds-slots-w : goal.offset_bounds-slots-w
offset_bounds-slots-w c =
    let a = accepts_then c.args.z _ _ _ c.args.workers.slots c.args.workers.count c.args.workers.number _ _ _ c.take_answer-answer.ensures _ c.accepted.ensures c.if-not-accepted.false in
    omega (arith, a.worker_exists, a.state.sizes)

pub bounds-slots-w : goal.bounds-slots-w
bounds-slots-w c =
    let a = accepts_then c.args.z _ _ _ c.args.workers.slots c.args.workers.count c.args.workers.number _ _ _ c.take_answer-answer.ensures _ c.accepted.ensures c.if-not-accepted.false in
    omega (arith, a.worker_exists, a.state.sizes)

pub overflow_cast-p : goal.overflow_cast-p
overflow_cast-p c =
    let a = accepts_then c.args.z _ _ _ c.args.workers.slots c.args.workers.count c.args.workers.number _ _ _ c.take_answer-answer.ensures _ c.accepted.ensures c.if-not-accepted.false in
    omega (arith, a.task_exists, few_tasks _ a.state.sizes.few_tiles)

pub offset_bounds-slots-w-2 : goal.offset_bounds-slots-w-2
offset_bounds-slots-w-2 c =
    let a = accepts_then c.args.z _ _ _ c.args.workers.slots c.args.workers.count c.args.workers.number _ _ _ c.take_answer-answer.ensures _ c.accepted.ensures c.if-not-accepted.false in
    omega (arith, a.worker_exists, a.state.sizes)

pub bounds-slots-w-2 : goal.bounds-slots-w-2
bounds-slots-w-2 c =
    let a = accepts_then c.args.z _ _ _ c.args.workers.slots c.args.workers.count c.args.workers.number _ _ _ c.take_answer-answer.ensures _ c.accepted.ensures c.if-not-accepted.false in
    omega (arith, a.worker_exists, a.state.sizes)

pub returns : goal.returns
returns c =
    let answered = c.take_answer-answer.ensures in
    let tested = c.accepted.ensures in
    let passed = c.if-not-accepted.false in
    let a = accepts_then c.args.z _ _ _ c.args.workers.slots c.args.workers.count c.args.workers.number _ _ _ answered _ tested passed in record { workers_after = taken_by c.args.z _ _ _ c.args.workers.slots c.args.workers.count c.args.workers.number _ _ _ answered _ tested passed (length_slots c.args.workers _ c.well_formed.1.1.1.1.0.1.1.0.1.0.1) _ _ c.take_record.ensures.records_after c.take.ensures; others_kept = record { same_count = refl; same_slots = drop-set-lt c.args.workers.count _ c.args.w _ (omega (arith, a.counted, a.worker_exists)) } }
