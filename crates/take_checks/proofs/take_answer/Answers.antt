-- The shared refusals, then the take's own in the table's order. Assumes nothing.
use mathlib.Core.Path.{refl, sym, ap, ◌∙◌}
use native.Mathlib.Omega.{arith}
use Rattle.std.specs.Prelude.{Err}
use Rattle.laws.proofs.Refusals.{passed_on}
use Rattle.answers.proofs.Refusals.{accepts_ok, accepts_err}
use Rattle.call_laws.proofs.Undamaged.{recorded}
use Rattle.take_checks.proofs.Laws.{state_stops, is_sound, no_worker_lem, busy_worker, no_task, not_ready, is_ready}
use Rattle.take_checks.proofs.take_answer.Goals as goal

pub returns-in_err-state_answer : goal.returns-in_err-state_answer
returns-in_err-state_answer c =
    passed_on _ _ _ c.from_residual.ensures.1 c.in_err-state_answer.was ∙ sym c.in_err-state_answer.was
    ∙ state_stops c.args.z _ _ _ c.args.workers.slots c.args.workers.count c.args.workers.number c.args.w c.args.p _ c.state_answer.ensures _ refl (accepts_err _ _ c.in_err-state_answer.was)

pub returns-then-z-w : goal.returns-then-z-w
returns-then-z-w c =
    ap Err c.at.ensures ∙ no_worker_lem c.args.z _ _ _ c.args.workers.slots c.args.workers.count c.args.workers.number c.args.w c.args.p _ c.state_answer.ensures _ refl (accepts_ok _ _ c.in_ok-state_answer.was) c.if-z-w.true

pub offset_bounds-slots-w : goal.offset_bounds-slots-w
offset_bounds-slots-w c =
    omega (arith, (is_sound c.args.z _ _ _ c.args.workers.slots c.args.workers.count c.args.workers.number c.args.w c.args.p _ c.state_answer.ensures _ refl (accepts_ok _ _ c.in_ok-state_answer.was)).sizes)

pub bounds-slots-w : goal.bounds-slots-w
bounds-slots-w c =
    omega (arith, (is_sound c.args.z _ _ _ c.args.workers.slots c.args.workers.count c.args.workers.number c.args.w c.args.p _ c.state_answer.ensures _ refl (accepts_ok _ _ c.in_ok-state_answer.was)).sizes)

pub returns-then-h : goal.returns-then-h
returns-then-h c =
    ap Err c.at-then-h.ensures ∙ busy_worker c.args.z _ _ _ c.args.workers.slots c.args.workers.count c.args.workers.number c.args.w c.args.p _ c.state_answer.ensures _ refl (accepts_ok _ _ c.in_ok-state_answer.was) c.if-z-w.false c.if-h.true

pub task_count-requires : goal.task_count-requires
task_count-requires c =
    (is_sound c.args.z _ _ _ c.args.workers.slots c.args.workers.count c.args.workers.number c.args.w c.args.p _ c.state_answer.ensures _ refl (accepts_ok _ _ c.in_ok-state_answer.was)).sizes.few_tiles

pub returns-then-task_count-p : goal.returns-then-task_count-p
returns-then-task_count-p c =
    ap Err c.at-then-task_count-p.ensures ∙ no_task c.args.z _ _ _ c.args.workers.slots c.args.workers.count c.args.workers.number c.args.w c.args.p _ c.state_answer.ensures _ refl (accepts_ok _ _ c.in_ok-state_answer.was) c.if-z-w.false c.if-h.false _ c.task_count.ensures c.if-task_count-p.true

pub is_ready-requires : goal.is_ready-requires
is_ready-requires c =
    let s = is_sound c.args.z _ _ _ c.args.workers.slots c.args.workers.count c.args.workers.number c.args.w c.args.p _ c.state_answer.ensures _ refl (accepts_ok _ _ c.in_ok-state_answer.was) in
    recorded c.args.z c.args.matrix.now c.args.lists.now _ c.args.workers.slots c.args.workers.number s.sizes s.lengths.records_fit s.undamaged _ (omega (arith, c.task_count.ensures))

pub returns-then-not-is_ready : goal.returns-then-not-is_ready
returns-then-not-is_ready c =
    ap Err c.at-then-not-is_ready.ensures ∙ not_ready c.args.z _ _ _ c.args.workers.slots c.args.workers.count c.args.workers.number c.args.w c.args.p _ c.state_answer.ensures _ refl (accepts_ok _ _ c.in_ok-state_answer.was) c.if-z-w.false c.if-h.false _ c.task_count.ensures c.if-task_count-p.false _ c.is_ready.ensures c.if-not-is_ready.true

pub returns : goal.returns
returns c =
    is_ready c.args.z _ _ _ c.args.workers.slots c.args.workers.count c.args.workers.number c.args.w c.args.p _ c.state_answer.ensures _ refl (accepts_ok _ _ c.in_ok-state_answer.was) c.if-z-w.false c.if-h.false _ c.task_count.ensures c.if-task_count-p.false _ c.is_ready.ensures c.if-not-is_ready.false
