-- The invariant: what is left to do from here ends as all from the first turn on. A turn of the loop is a call, of this worker or of the next busy one.
-- Assumes nothing.
use native.Mathlib.Omega.{arith}
use Rattle.records.proofs.Laws.{length_slots}
use Rattle.turns_from.proofs.Going.{OnTurn, starts, few_calls, few_records, searched, take_goes, pass_turn, keep_turn, run_over, column_due, work_goes, run_ends, recounted, others_kept}
use Rattle.turns_from.proofs.turns_from.Goals as goal
use Rattle.turns_from.proofs.turns_from.Goals.{then-not-left-w+else-from-records+in-Some, else-not-left-w}

pub loop-n-init : goal.loop-n-init
loop-n-init c =
    starts _ _ _ _ _ c.args.workers _ _ _ (length_slots c.args.workers _ c.well_formed.1.1.1.1.0.1.1.0.1.0.1) c.requires

-- ---- an idle worker takes a task

pub lowest_ready-from-requires : goal.lowest_ready-from-requires
lowest_ready-from-requires c =
    searched c.loop-n.invariant

pub overflow_add-number : goal.overflow_add-number
overflow_add-number c =
    omega (arith, few_calls c.loop-n.invariant)

pub take_task-requires : goal.take_task-requires
take_task-requires c =
    (c.if-from-records.true, omega (arith, c.if-from-records.true, few_records c.loop-n.invariant))

pub loop-n-preserved-then-from-records : goal.loop-n-preserved-then-from-records
loop-n-preserved-then-from-records c =
    let t = c.take_task.ensures in
    take_goes c.loop-n.invariant _ c.lowest_ready-from.ensures c.if-not-left-w.true c.if-from-records.true c.loop-n-test.true
    _ t.value _ t.records_after t.records_len_unchanged _ c.worker_after-w.ensures

-- ---- or no worker is busy

pub returns-in_default : goal.returns-in_default
returns-in_default c =
    let i = c.loop-n.invariant in
    record {
      workers_after = recounted _ _ _ c.args.workers c.requires.accepted i _ _ _ _ (run_over i _ c.lowest_ready-from.ensures c.if-not-left-w.true c.if-from-records.false c.in_default.ensures.next);
      others_kept = others_kept _ _ _ c.args.workers c.requires.accepted i;
    }

-- ---- a busy worker does a column

pub overflow_add-number-in-loop-n : goal.overflow_add-number-in-loop-n
overflow_add-number-in-loop-n c =
    omega (arith, few_calls c.loop-n.invariant)

pub advance-g-requires : goal.advance-g-requires
advance-g-requires c =
    let i = c.loop-n.invariant in
    let t : OnTurn c.args.z c.args.budget _ c.args.workers.slots c.loop-n.matrix c.loop-n.lists c.loop-n.records c.loop-n.left c.loop-n.number c.loop-n.n c.if-not-left-w.w c.if-not-left-w.from = elim c.if-not-left-w.branch [
      | then-not-left-w+else-from-records+in-Some v ↦ pass_turn i _ v.lowest_ready-from.ensures v.if-not-left-w.true v.if-from-records.false _ v.in-Some.ensures.next _ _ v.w-is v.from-is
      | else-not-left-w v ↦ keep_turn i v.if-not-left-w.false _ _ v.w-is v.from-is
    ] in
    (column_due t.going t.busy, omega (arith, t.going.turn_of, t.going.few))

pub loop-n-preserved : goal.loop-n-preserved
loop-n-preserved c =
    let i = c.loop-n.invariant in
    let t : OnTurn c.args.z c.args.budget _ c.args.workers.slots c.loop-n.matrix c.loop-n.lists c.loop-n.records c.loop-n.left c.loop-n.number c.loop-n.n c.if-not-left-w.w c.if-not-left-w.from = elim c.if-not-left-w.branch [
      | then-not-left-w+else-from-records+in-Some v ↦ pass_turn i _ v.lowest_ready-from.ensures v.if-not-left-w.true v.if-from-records.false _ v.in-Some.ensures.next _ _ v.w-is v.from-is
      | else-not-left-w v ↦ keep_turn i v.if-not-left-w.false _ _ v.w-is v.from-is
    ] in
    work_goes t.going t.busy c.advance-g.ensures c.loop-n-test.true _ c.search_start-from.ensures _ c.worker_after-w-in-loop-n.ensures

-- ---- the budget is spent

pub returns : goal.returns
returns c =
    let i = c.loop-n.invariant in
    record {
      workers_after = recounted _ _ _ c.args.workers c.requires.accepted i _ _ _ _ (run_ends i c.loop-n-test.false _ c.answer_after.ensures);
      others_kept = others_kept _ _ _ c.args.workers c.requires.accepted i;
    }
