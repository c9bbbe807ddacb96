-- What is lent but for what tells the order of work: the records are determined by marks and tie sums, and once all tasks are finished every worker is idle.
-- Assumes nothing.
use Prim.Native.Nat.{ℕ, suc, ◌+◌, ◌<◌}
use mathlib.Core.Bool.{Bool, true, false, cond}
use mathlib.Core.Path.{◌≡◌, refl, sym, ap, ◌∙◌, subst}
use mathlib.Core.Logic.{◌⊎◌, inl, inr, ◌≢◌}
use mathlib.Core.List.{List, map}
use native.Mathlib.Omega.{arith}
use lib.ListN.{length, get_or, replicate, length-map, length-replicate, get_or-map}
use lib.Seq.{ext_get_or}
use Rattle.model.specs.declared.Sizes.{Sizes}
use Rattle.model.specs.declared.TaskRecord.{TaskRecord}
use Rattle.worker.specs.declared.Worker.{Worker}
use Rattle.worker.specs.Holding.{idle, holding}
use Rattle.model.specs.Answer.{accepted}
use Rattle.model.specs.Lists.{below}
use Rattle.model.specs.Task.{Task, t_1, kind_of, k_of, i_of, j_of, tasks}
use Rattle.model.specs.Plan.{plan_of}
use Rattle.model.specs.Links.{task, mark, finished}
use Rattle.model.specs.Buffer.{Ended}
use Rattle.model.specs.Calls.{Lent, marks_of, ties_of, record_of, with_take, with_column, without_calls, changed, worker, opened, took, advanced, column_of, all_finished}
use Rattle.model.specs.Refusal.{open_call}
use Rattle.model.specs.History.{Call}
use Rattle.laws.proofs.Runs.{length_map_below, get_or_map_run}
use Rattle.laws.proofs.Every.{every_at}
use Rattle.laws.proofs.Tests.{never, same_or_not}
use Rattle.run_laws.proofs.Undamaged.{Due}
use Rattle.cells.proofs.Elements.{get_or_same}
use Rattle.cells.proofs.Machine.{record_at, length_marks}
use Rattle.demand.specs.Demand.{end}
use Rattle.demand.specs.Numbered.{records_with}
use Rattle.demand.proofs.Whole.{Whole, mark_at}
use Rattle.demand.proofs.Checks.{sum_at}
use Rattle.demand.proofs.Stores.{worker_here, worker_there}
use Rattle.demand.proofs.Moves.{Move, takes, works, move_whole}
use Rattle.demand.proofs.Opening.{Opened, opened_by, left_whole}
use Rattle.demand.proofs.Calls.{calls_keep}

-- ---- records

-- the record of task a with the mark m and n ties
abbrev with : Task → ℕ → ℕ → TaskRecord
with a m n = record { kind = kind_of a; k = k_of a; i = i_of a; j = j_of a; mark = m; worker = 0; ties = n; took = 0; ended = 0 }

due_is : (a : Task) (r : TaskRecord) (m n : ℕ) → Due a r → m ≡ r.mark → n ≡ r.ties → without_calls r ≡ with a m n
unfolding without_calls
due_is a r m n h e f =
    λ i. record { kind = h.kind_is i; k = h.k_is i; i = h.i_is i; j = h.j_is i; mark = sym e i; worker = 0; ties = sym f i; took = 0; ended = 0 }

pub records_with_lem : (z : Sizes) (s : Lent) → Whole z s → map without_calls s.records ≡ records_with (tasks z.tiles) (marks_of s) (ties_of s)
unfolding records_with below without_calls record_of
records_with_lem z s h =
    ext_get_or (without_calls (record_of (t_1 0))) (map without_calls s.records) (records_with (tasks z.tiles) (marks_of s) (ties_of s))
    (length-map s.records without_calls ∙ h.stated.records ∙ sym (length_map_below _ (length (tasks z.tiles))))
    (λ p l.
    let k : p < length (tasks z.tiles) = omega (arith, length-map s.records without_calls, h.stated.records) in
    let e : 0 + p ≡ p = omega arith in
    get_or-map without_calls s.records p (record_of (t_1 0))
    ∙ due_is (task (tasks z.tiles) p) _ _ _ (h.records p k) (mark_at s p) (sum_at z s p)
    ∙ sym (get_or_map_run (λ q. with (task (tasks z.tiles) q) (mark (marks_of s) q) (get_or (ties_of s) q 0)) 0 (length (tasks z.tiles)) p (without_calls (record_of (t_1 0))) k
    ∙ ap (λ (q : ℕ). with (task (tasks z.tiles) q) (mark (marks_of s) q) (get_or (ties_of s) q 0)) e))

-- ---- workers

-- a worker that is not busy is idle, with no task and column left behind
record Free (z : Sizes) (s : Lent) : Type 0 where
  pub whole : Whole z s
  pub free : (w : ℕ) → w < z.workers → (worker s w).busy ≡ false → worker s w ≡ idle

module _ (z : Sizes) where
  free_move : {s s' : Lent} {p : ℕ} → Free z s → Move z s s' p → Free z s'
  unfolding took advanced changed
  free_move {s} r (takes w p hw hb hp hr) = record {
    whole = move_whole r.whole (takes w p hw hb hp hr);
    free = λ v hv e. go v hv e (same_or_not v w);
  }
    where
      new : TaskRecord
      new = with_take (suc s.number) (record_at z s p)

      go : (v : ℕ) → v < z.workers → (worker (took (plan_of z) w p s) v).busy ≡ false → (v ≡ w) ⊎ (v ≢ w) → worker (took (plan_of z) w p s) v ≡ idle
      go v hv e (inl f) =
          let here = ap (worker (took (plan_of z) w p s)) f ∙ worker_here z s r.whole s.buffers p new w (holding p 0) hp hw in
          never (ap (λ (h : Worker). h.busy) here) e
      go v hv e (inr d) =
          let there = worker_there z s r.whole s.buffers p new w (holding p 0) hp hw v d in
          there ∙ r.free v hv (sym (ap (λ (h : Worker). h.busy) there) ∙ e)
  free_move {s} r (works w hw hb) = record {
    whole = move_whole r.whole (works w hw hb);
    free = λ v hv e. go v hv e (same_or_not v w);
  }
    where
      p : ℕ
      p = (worker s w).task

      e : Ended
      e = column_of (plan_of z) s p (worker s w).column

      new : TaskRecord
      new = with_column w (suc s.number) e.mark e.ties (record_at z s p)

      next : Worker
      next = cond (finished e.mark) idle (holding p (suc (worker s w).column))

      or_idle : (b : Bool) → (cond {A = Worker} b idle (holding p (suc (worker s w).column))).busy ≡ false → cond {A = Worker} b idle (holding p (suc (worker s w).column)) ≡ idle
      or_idle true f = refl
      or_idle false f = never refl f

      go : (v : ℕ) → v < z.workers → (worker (advanced (plan_of z) w s) v).busy ≡ false → (v ≡ w) ⊎ (v ≢ w) → worker (advanced (plan_of z) w s) v ≡ idle
      go v hv f (inl g) =
          let here = ap (worker (advanced (plan_of z) w s)) g ∙ worker_here z s r.whole e.left p new w next (r.whole.held w hw hb).task hw in
          here ∙ or_idle (finished e.mark) (sym (ap (λ (h : Worker). h.busy) here) ∙ f)
      go v hv f (inr d) =
          let there = worker_there z s r.whole e.left p new w next (r.whole.held w hw hb).task hw v d in
          there ∙ r.free v hv (sym (ap (λ (h : Worker). h.busy) there) ∙ f)

  module _ (s : Lent) (cs : List Call) (e : (open_call z s).answer ≡ accepted) where
    o : Opened z s
    o = opened_by z s e

    first : Free z (open_call z s).left
    unfolding worker opened
    first = record { whole = left_whole z s o; free = λ w h b. ap (λ (x : Lent). worker x w) o.left ∙ get_or_same z.workers w idle }

    last : Free z (end z s cs)
    last = calls_keep z 0 (λ n. Free z) (record { whole = λ r. r.whole; moves = λ r m. free_move r m }) cs 0 (open_call z s).left first

    pub end_whole : Whole z (end z s cs)
    end_whole = last.whole

    not_busy : all_finished (plan_of z) (end z s cs) ≡ true → (w : ℕ) → w < z.workers → (b : Bool) → (worker (end z s cs) w).busy ≡ b → b ≡ false
    unfolding all_finished mark finished
    not_busy f w h false b = refl
    not_busy f w h true b =
        let a = last.whole.held w h b in
        let g : finished (mark (marks_of (end z s cs)) (worker (end z s cs) w).task) ≡ true = unfold mark in
        every_at finished (marks_of (end z s cs)) 0 (worker (end z s cs) w).task f
        (subst (λ (k : ℕ). (worker (end z s cs) w).task < k) (sym (length_marks z (end z s cs) last.whole.stated)) a.task) in
        sym g ∙ ap finished a.mark

    pub all_idle : all_finished (plan_of z) (end z s cs) ≡ true → (end z s cs).workers ≡ replicate z.workers idle
    unfolding worker
    all_idle f =
        ext_get_or idle (end z s cs).workers (replicate z.workers idle) (last.whole.stated.workers ∙ sym (length-replicate z.workers idle))
        (λ w l.
        let h : w < z.workers = subst (λ (k : ℕ). w < k) last.whole.stated.workers l in
        last.free w h (unfold worker in not_busy f w h _ refl) ∙ sym (get_or_same z.workers w idle))
