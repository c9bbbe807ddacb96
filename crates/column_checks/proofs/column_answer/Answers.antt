-- The shared refusals, then the worker, then the tiles of its task. Assumes nothing.
use Rattle.laws.proofs.Refusals.{passed_on}
use Rattle.answers.proofs.Refusals.{accepts_ok, accepts_err}
use Rattle.std.specs.Prelude.{Err}
use mathlib.Core.Path.{sym, ap, ◌∙◌, subst, refl}
use mathlib.Core.Bool.{not}
use native.Mathlib.Omega.{arith}
use borrow.Author.Tests.{not-true, not-false}
use Rattle.model.specs.declared.TaskRecord.{TaskRecord}
use Rattle.model.specs.Plan.{plan_of}
use Rattle.model.specs.Buffer.{finite_tiles}
use Rattle.checks.specs.Checks.{Inside, task_from}
use Rattle.column_checks.proofs.Laws.{state_stops, is_sound, no_worker_lem, idle_worker, task_exists, tiles_there, tiles_bad, tiles_good}
use Rattle.column_checks.proofs.column_answer.Goals as goal

pub returns-in_err-state_answer : goal.returns-in_err-state_answer
returns-in_err-state_answer c =
    passed_on _ _ _ c.from_residual.ensures.1 c.in_err-state_answer.was ∙ sym c.in_err-state_answer.was
    ∙ state_stops c.args.z _ _ _ c.args.workers.slots c.args.workers.count c.args.workers.number c.args.w _ c.state_answer.ensures _ refl (accepts_err _ _ c.in_err-state_answer.was)

pub returns-then-z-w : goal.returns-then-z-w
returns-then-z-w c =
    ap Err c.at.ensures ∙ no_worker_lem c.args.z _ _ _ c.args.workers.slots c.args.workers.count c.args.workers.number c.args.w _ c.state_answer.ensures _ refl (accepts_ok _ _ c.in_ok-state_answer.was) c.if-z-w.true

pub offset_bounds-slots-w : goal.offset_bounds-slots-w
offset_bounds-slots-w c =
    omega (arith, (is_sound c.args.z _ _ _ c.args.workers.slots c.args.workers.count c.args.workers.number c.args.w _ c.state_answer.ensures _ refl (accepts_ok _ _ c.in_ok-state_answer.was)).sizes)

pub bounds-slots-w : goal.bounds-slots-w
bounds-slots-w c =
    omega (arith, (is_sound c.args.z _ _ _ c.args.workers.slots c.args.workers.count c.args.workers.number c.args.w _ c.state_answer.ensures _ refl (accepts_ok _ _ c.in_ok-state_answer.was)).sizes)

pub returns-then-not-h : goal.returns-then-not-h
returns-then-not-h c =
    ap Err c.at-then-not-h.ensures ∙ idle_worker c.args.z _ _ _ c.args.workers.slots c.args.workers.count c.args.workers.number c.args.w _ c.state_answer.ensures _ refl (accepts_ok _ _ c.in_ok-state_answer.was) c.if-z-w.false (not-true _ c.if-not-h.true)

pub record_at-requires : goal.record_at-requires
record_at-requires c =
    omega (arith, task_exists c.args.z _ _ _ c.args.workers.slots c.args.workers.count c.args.workers.number c.args.w _ c.state_answer.ensures _ refl (accepts_ok _ _ c.in_ok-state_answer.was) c.if-z-w.false (not-false _ c.if-not-h.false), (is_sound c.args.z _ _ _ c.args.workers.slots c.args.workers.count c.args.workers.number c.args.w _ c.state_answer.ensures _ refl (accepts_ok _ _ c.in_ok-state_answer.was)).lengths.records_fit)

pub bad_tiles-requires : goal.bad_tiles-requires
bad_tiles-requires c =
    let s = is_sound c.args.z _ _ _ c.args.workers.slots c.args.workers.count c.args.workers.number c.args.w _ c.state_answer.ensures _ refl (accepts_ok _ _ c.in_ok-state_answer.was) in
    (s.sizes, s.lengths.buffers.matrix_fits, subst (λ (r : TaskRecord). Inside c.args.z.tiles r) (sym c.record_at.ensures) (tiles_there c.args.z _ _ _ c.args.workers.slots c.args.workers.count c.args.workers.number c.args.w _ c.state_answer.ensures _ refl (accepts_ok _ _ c.in_ok-state_answer.was) c.if-z-w.false (not-false _ c.if-not-h.false)))

pub returns-then-bad_tiles : goal.returns-then-bad_tiles
returns-then-bad_tiles c =
    ap Err c.at-then-bad_tiles.ensures ∙ tiles_bad c.args.z _ _ _ c.args.workers.slots c.args.workers.count c.args.workers.number c.args.w _ c.state_answer.ensures _ refl (accepts_ok _ _ c.in_ok-state_answer.was) c.if-z-w.false (not-false _ c.if-not-h.false) _
    (c.bad_tiles.ensures _ ∙ ap (λ (r : TaskRecord). not (finite_tiles (plan_of c.args.z) (task_from r) (record { matrix = c.args.matrix.now; lists = c.args.lists.now }))) c.record_at.ensures) c.if-bad_tiles.true

pub returns : goal.returns
returns c =
    tiles_good c.args.z _ _ _ c.args.workers.slots c.args.workers.count c.args.workers.number c.args.w _ c.state_answer.ensures _ refl (accepts_ok _ _ c.in_ok-state_answer.was) c.if-z-w.false (not-false _ c.if-not-h.false) _
    (c.bad_tiles.ensures _ ∙ ap (λ (r : TaskRecord). not (finite_tiles (plan_of c.args.z) (task_from r) (record { matrix = c.args.matrix.now; lists = c.args.lists.now }))) c.record_at.ensures) c.if-bad_tiles.false
