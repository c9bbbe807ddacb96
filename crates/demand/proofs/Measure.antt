-- What is left to do: t + 1 calls for each waiting task and, for each busy worker, its columns from the next on. A move lowers it, so
-- a run with as large a budget finishes.
-- Assumes nothing.
use Prim.Native.Nat.{ℕ, zero, suc, ◌+◌, ◌-◌, ◌*◌, ◌≤◌, ◌<◌}
use mathlib.Core.Bool.{Bool, true, false, cond}
use mathlib.Core.Path.{◌≡◌, refl, sym, ap, subst}
use mathlib.Core.List.{List, [], ◌∷◌, map}
use native.Mathlib.Omega.{arith}
use lib.Dec.{eqb}
use lib.Ieee.{Float}
use lib.ListN.{length, get_or, set, replicate}
use borrow.Author.Tests.{ne_eqb}
use Rattle.model.specs.declared.Sizes.{Sizes}
use Rattle.model.specs.declared.TaskRecord.{TaskRecord}
use Rattle.worker.specs.declared.Worker.{Worker}
use Rattle.std.specs.Prelude.{Ok}
use Rattle.model.specs.declared.RunStop.TheVariants.{Finished}
use Rattle.model.specs.Task.{Task, t_1, tasks}
use Rattle.model.specs.Plan.{plan, plan_of}
use Rattle.model.specs.Links.{mark, finished}
use Rattle.model.specs.Calls.{Lent, RunEnd, marks_of, record_of, with_take, with_column, changed, worker, opened, took, column_of, advanced, run_from}
use Rattle.worker.specs.Holding.{idle, holding}
use Rattle.cells.proofs.Machine.{count, column_ends_lem}
use Rattle.demand.proofs.Totals.{total, total_set}
use Rattle.demand.proofs.Whole.{AtWork, Whole, in_range, mark_at}
use Rattle.demand.proofs.Steps.{ready_waits}
use Rattle.demand.proofs.Moves.{Move, takes, works, move_whole}
use Rattle.demand.proofs.Progress.{next_moves}
use Rattle.demand.proofs.Turns.{Turns, ends, spends, turns, apart}

module _ (t : ℕ) where
  abbrev task_left : TaskRecord → ℕ
  task_left r = cond (eqb r.mark 0) (t + 1) 0

  abbrev worker_left : Worker → ℕ
  worker_left h = cond h.busy (t - h.column) 0

module _ (z : Sizes) where
  abbrev t : ℕ
  t = z.side

  unfoldable pub left : Lent → ℕ
  left s = total (task_left z.side) s.records + total (worker_left z.side) s.workers

  -- ---- a move

  module _ (s : Lent) (h : Whole z s) where
    abbrev old : ℕ → TaskRecord
    old p = get_or s.records p (record_of (t_1 0))

    records_left : (p : ℕ) (new : TaskRecord) → p < count z
        → total (task_left t) (set s.records p new) + cond (eqb (mark (marks_of s) p) 0) (t + 1) 0 ≡ total (task_left t) s.records + cond (eqb new.mark 0) (t + 1) 0
    records_left p new l =
        subst (λ (k : ℕ). total (task_left t) (set s.records p new) + cond (eqb k 0) (t + 1) 0 ≡ total (task_left t) s.records + cond (eqb new.mark 0) (t + 1) 0)
        (sym (mark_at s p)) (total_set (task_left t) s.records p new (record_of (t_1 0)) (subst (λ (k : ℕ). p < k) (sym h.stated.records) l))

    workers_left : (w : ℕ) (x : Worker) → w < z.workers
        → total (worker_left t) (set s.workers w x) + worker_left t (worker s w) ≡ total (worker_left t) s.workers + worker_left t x
    unfolding worker
    workers_left w x l = total_set (worker_left t) s.workers w x idle (subst (λ (k : ℕ). w < k) (sym h.stated.workers) l)

  pub move_lowers : {s s' : Lent} {p : ℕ} → Whole z s → Move z s s' p → left s' < left s
  unfolding left took advanced changed with_take with_column
  move_lowers {s} h (takes w p hw hb hp hr) =
      let a = records_left s h p (with_take (suc s.number) (old s h p)) hp in
      let b = workers_left s h w (holding p 0) hw in
      let c : cond (eqb (mark (marks_of s) p) 0) (t + 1) 0 ≡ t + 1 = ap (λ (k : ℕ). cond (eqb k 0) (t + 1) 0) (ready_waits z s p hr) in
      let d : worker_left t (worker s w) ≡ 0 = ap (λ (x : Bool). cond x (t - (worker s w).column) 0) hb in
      omega (arith, a, b, c, d)
  move_lowers {s} h (works w hw hb) =
      let a : AtWork z s w = h.held w hw hb in
      let p = (worker s w).task in
      let c = (worker s w).column in
      let m = (column_of (plan_of z) s p c).mark in
      let next = cond (finished m) idle (holding p (suc c)) in
      let begun : 1 ≤ m = (column_ends_lem z s h.stated p c a.task).begun in
      let n = (column_of (plan_of z) s p c).ties in
      let x = records_left s h p (with_column w (suc s.number) m n (old s h p)) a.task in
      let y = workers_left s h w next hw in
      let f : cond (eqb (mark (marks_of s) p) 0) (t + 1) 0 ≡ 0 = ap (λ (k : ℕ). cond (eqb k 0) (t + 1) 0) a.mark in
      let g : cond (eqb m 0) (t + 1) 0 ≡ 0 = ap (λ (b : Bool). cond b (t + 1) 0) (ne_eqb m 0 (λ e. omega arith)) in
      let k : worker_left t (worker s w) ≡ t - c = ap (λ (b : Bool). cond b (t - c) 0) hb in
      let l : worker_left t next ≤ t - suc c = after (finished m) p c in
      let q : c < t = a.column in
      omega (arith, x, y, f, g, k, l, q)
    where
      after : (b : Bool) (p c : ℕ) → worker_left t (cond b idle (holding p (suc c))) ≤ t - suc c
      after true p c = omega arith
      after false p c = omega arith

  -- ---- an opening

  records_opened : (ts : List Task) → total (task_left t) (map record_of ts) ≡ (t + 1) * length ts
  unfolding total record_of
  records_opened [] = omega arith
  records_opened (a ∷ ts) = omega (arith, records_opened ts)

  workers_opened : (n : ℕ) → total (worker_left t) (replicate n idle) ≡ 0
  unfolding total
  workers_opened zero = refl
  workers_opened (suc n) = omega (arith, workers_opened n)

  pub opened_left : (m : List Float) → left (opened (plan_of z) z.workers m) ≡ (t + 1) * count z
  unfolding left opened plan
  opened_left m = omega (arith, records_opened (tasks z.tiles), workers_opened z.workers)

  -- ---- a run with the budget that is left to do

  turns_finish : {b c : ℕ} {s : Lent} {ps : List ℕ} {e : RunEnd} → Whole z s → left s ≤ b → Turns z b c s ps e → (n : ℕ) × (e.answer ≡ Ok (Finished n))
  turns_finish {c = c} h l (ends f) = (c, refl)
  turns_finish {s = s} h l (spends f) =
      absurd (omega (arith, move_lowers h (next_moves z s h f 0 (in_range z h.fit).some_workers)))
  turns_finish h l (turns f m t) = turns_finish (move_whole h m) (omega (arith, move_lowers h m)) t

  pub enough : (budget : ℕ) (s : Lent) → Whole z s → left s ≤ budget → (n : ℕ) × ((run_from (plan_of z) z.workers budget 0 0 s).answer ≡ Ok (Finished n))
  enough budget s h l = turns_finish h l (apart z budget 0 0 (in_range z h.fit).some_workers s h).turns
