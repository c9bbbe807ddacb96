-- A take and a column keep what a run asks of what is lent.
-- Assumes nothing.
use Prim.Native.Nat.{ℕ, suc, ◌+◌, ◌*◌, ◌≤◌, ◌<◌}
use mathlib.Core.Bool.{Bool, true, false, cond, ◌&&◌}
use mathlib.Core.Path.{◌≡◌, refl, sym, ap, ◌∙◌, subst}
use native.Mathlib.Nat.{mul-suc, mul-le-mul_left}
use native.Mathlib.Omega.{arith}
use lib.Dec.{eqb}
use lib.ListN.{length}
use borrow.Author.Tests.{eqb-true, eqb-false}
use Rattle.model.specs.declared.Sizes.{Sizes}
use Rattle.model.specs.declared.TaskRecord.{TaskRecord}
use Rattle.model.specs.Task.{tasks}
use Rattle.model.specs.Plan.{plan, plan_of}
use Rattle.model.specs.Links.{task, mark, finished, ready}
use Rattle.model.specs.Links as ML
use Rattle.model.specs.Buffer.{Buffers, Ended, worked, filled, column_ties, sound, column_ends}
use Rattle.model.specs.Calls.{Lent, marks_of, with_take, with_column, changed, worker, took, column_of, advanced}
use Rattle.worker.specs.Holding.{idle, holding}
use Rattle.model.specs.Refusal.{holds, next_column, tie_limit, call_limit}
use Rattle.order_free.specs.Graph.{Mark, spoils}
use Rattle.order_free.specs.Graph as G
use Rattle.order_free.specs.Loops.{TaskEnd}
use Rattle.order_free.specs.Machine.{perform}
use Rattle.laws.proofs.Tests.{never, and_left}
use Rattle.cells.specs.Cells.{Val, view}
use Rattle.run_laws.proofs.Undamaged.{CallsFit, next_of}
use Rattle.run_laws.proofs.Ties.{ties_most}
use Rattle.demand.proofs.Single.{Single, single_kept}
use Rattle.demand.proofs.Totals.{limit_for, calls_for}
use Rattle.cells.proofs.Choices.{either}
use Rattle.cells.proofs.Valid.{Valid, tasks_valid, task_valid}
use Rattle.cells.proofs.View.{Sized, tile_cell, length_tile}
use Rattle.cells.proofs.Kept.{Tiles, Rows, Long, worked_rows, worked_tiles}
use Rattle.cells.proofs.Fills.{filled_rows, spoiled_tiles, failed_tiles}
use Rattle.cells.proofs.Marks.{to_mark}
use Rattle.cells.proofs.Machine.{S, count, record_at, took_stated, advanced_stated, column_ends_lem}
use Rattle.demand.proofs.Whole.{AtWork, Whole, in_range}
use Rattle.demand.proofs.Stores.{holds_busy, holds_task, busy_holds, Suits, rests, works, stored_whole}

module _ (z : Sizes) where
  -- ---- take

  pub ready_waits : (s : Lent) (p : ℕ) → ready (tasks z.tiles) (marks_of s) p ≡ true → mark (marks_of s) p ≡ 0
  unfolding ready
  ready_waits s p e = eqb-true (mark (marks_of s) p) 0 (and_left (eqb (mark (marks_of s) p) 0) _ e)

  pub took_whole : (s : Lent) → Whole z s → (w p : ℕ) → w < z.workers → (worker s w).busy ≡ false → p < count z
      → ready (tasks z.tiles) (marks_of s) p ≡ true → Whole z (took (plan_of z) w p s)
  unfolding took changed with_take limit_for calls_for finished
  took_whole s h w p hw hb hp hr =
      stored_whole z s h s.buffers p (with_take (suc s.number) (record_at z s p)) w (holding p 0) hp hw
      (works refl refl refl (in_range z h.fit).some_side)
      (λ j d l e. let m = (h.held j l (holds_busy p (worker s j) e)).mark in
      let k : mark (marks_of s) p ≡ 1 = ap (mark (marks_of s)) (sym (holds_task p (worker s j) e)) ∙ m in
      let f : mark (marks_of s) p ≡ 0 = ready_waits s p hr in
      omega arith)
      (λ q e. never (holds_busy q (worker s w) e) hb)
      (let r = h.records p hp in unfold with_take in record { kind_is = r.kind_is; k_is = r.k_is; i_is = r.i_is; j_is = r.j_is; mark_most = omega arith })
      (let l : tie_limit (plan_of z) s p ≡ 0 = unfold tie_limit plan in ap (λ (m : ℕ). limit_for z.side m (next_column s p)) (ready_waits s p hr) in
      unfold with_take in omega (arith, h.sums p hp, l))
      (let a = h.calls p hp in
      unfold with_take in record { took_most = omega arith; ended_most = omega (arith, a.ended_most); worker_below = a.worker_below })
      (let l : call_limit (plan_of z) s p ≡ 0 = unfold call_limit plan finished in ap (λ (m : ℕ). calls_for z.side m (next_column s p)) (ready_waits s p hr) in
      unfold with_take in omega (arith, l))
      (unfold took changed in took_stated z s h.stated w p) h.rows h.tiles

  -- ---- column

  -- a task stays taken only where a column is left
  column_suits : (s : Lent) (p c : ℕ) → c < z.side
      → Suits z p (column_of (plan_of z) s p c).mark (cond (finished (column_of (plan_of z) s p c).mark) idle (holding p (suc c)))
  unfolding column_of column_ends plan finished
  column_suits s p c hc =
      let fine : Ended → Type 0 = λ e. Suits z p e.mark (cond (finished e.mark) idle (holding p (suc c))) in
      either fine (eqb c 0 && ML.spoils (tasks z.tiles) (marks_of s) p) _ _ (rests refl (λ e. omega arith))
      (either fine (sound (plan_of z) (task (tasks z.tiles) p) c s.buffers) _ _ (last (eqb (suc c) z.side) refl) (rests refl (λ e. omega arith)))
    where
      last : (b : Bool) → eqb (suc c) z.side ≡ b → Suits z p (cond b 2 1) (cond (finished (cond b 2 1)) idle (holding p (suc c)))
      last true e = rests refl (λ f. omega arith)
      last false e = let d = eqb-false (suc c) z.side e in works refl refl refl (omega arith)

  -- k ties before column c are within the limit, and so are those after it
  column_fits : (s : Lent) (p c k : ℕ) → c < z.side → k ≤ z.side * c
      → k + (column_of (plan_of z) s p c).ties
      ≤ limit_for z.side (column_of (plan_of z) s p c).mark (cond (finished (column_of (plan_of z) s p c).mark) idle (holding p (suc c))).column
  unfolding column_of column_ends plan finished limit_for
  column_fits s p c k hc hk = go (eqb c 0 && ML.spoils (tasks z.tiles) (marks_of s) p) refl
    where
      t : ℕ
      t = z.side

      fine : Ended → Type 0
      fine e = k + e.ties ≤ limit_for t e.mark (cond (finished e.mark) idle (holding p (suc c))).column

      good : Ended
      good = record {
        left = worked (plan_of z) (task (tasks z.tiles) p) c s.buffers;
        mark = cond (eqb (suc c) t) 2 1;
        ties = column_ties (plan_of z) (task (tasks z.tiles) p) c s.buffers;
      }

      bad : Ended
      bad = record { left = filled (plan_of z) (task (tasks z.tiles) p) (worked (plan_of z) (task (tasks z.tiles) p) c s.buffers); mark = 3; ties = 0 }

      spoilt : Ended
      spoilt = record { left = filled (plan_of z) (task (tasks z.tiles) p) s.buffers; mark = 4; ties = 0 }

      most : column_ties (plan_of z) (task (tasks z.tiles) p) c s.buffers ≤ t
      most = ties_most (plan_of z) (task (tasks z.tiles) p) c s.buffers

      up : t * c + t ≡ t * suc c
      up = omega (arith, mul-suc t c)

      fits : (b : Bool) → eqb (suc c) t ≡ b → k + column_ties (plan_of z) (task (tasks z.tiles) p) c s.buffers
          ≤ limit_for t (cond b 2 1) (cond (finished (cond b 2 1)) idle (holding p (suc c))).column
      fits true e = let f : t * suc c ≡ t * t = ap (λ (i : ℕ). t * i) (eqb-true (suc c) t e) in omega (arith, most, up, f)
      fits false e = omega (arith, most, up)

      go : (b : Bool) → (eqb c 0 && ML.spoils (tasks z.tiles) (marks_of s) p) ≡ b
          → fine (elim b as (λ q. Ended) [
            | true ↦ spoilt
            | false ↦ elim (sound (plan_of z) (task (tasks z.tiles) p) c s.buffers) as (λ q. Ended) [ true ↦ good | false ↦ bad ]
          ])
      go true e =
          let f : t * c ≡ t * 0 = ap (λ (i : ℕ). t * i) (eqb-true c 0 (and_left (eqb c 0) _ e)) in
          omega (arith, f)
      go false e = either fine (sound (plan_of z) (task (tasks z.tiles) p) c s.buffers) good bad (fits (eqb (suc c) t) refl)
          (let l : c ≤ t = omega arith in let m : t * c ≤ t * t = mul-le-mul_left t l in omega (arith, m))

  long : (b : Buffers) → Sized z.tiles z.side b → Long z.tiles z.side (view z.tiles z.side b)
  long b d i j hi hj = ap length (tile_cell z.tiles z.side b i j hi hj) ∙ length_tile z.tiles z.side b d i j hi hj

  -- the cells that a column leaves, by which of its three ways it goes
  performed_kept : (p c : ℕ) → p < count z → c < z.side → (m : ℕ → Mark) (σ : ℕ → Val) → Tiles z.tiles z.side σ → Rows z.tiles z.side σ
      → Long z.tiles z.side σ
      → Tiles z.tiles z.side (perform (S z) p c m σ).cells × Rows z.tiles z.side (perform (S z) p c m σ).cells
  unfolding perform
  performed_kept p c hp hc m σ f r l = go (eqb c 0 && spoils (S z) m p) ((S z).ok p c σ) refl
    where
      N : ℕ
      N = z.tiles

      t : ℕ
      t = z.side

      v : Valid N (task (tasks N) p)
      v = task_valid N (tasks N) (tasks_valid N) p hp

      on : TaskEnd (S z)
      on = record { cells = (S z).col p c σ; mark = cond (eqb (suc c) t) G.done G.taken }

      off : TaskEnd (S z)
      off = record { cells = (S z).fill p ((S z).col p c σ); mark = G.failed }

      spoilt : TaskEnd (S z)
      spoilt = record { cells = (S z).fill p σ; mark = G.spoiled }

      go : (b o : Bool) → (S z).ok p c σ ≡ o → Tiles N t (cond b spoilt (cond o on off)).cells × Rows N t (cond b spoilt (cond o on off)).cells
      go true o e = (spoiled_tiles N t (task (tasks N) p) v σ f l, filled_rows N t (task (tasks N) p) v σ r)
      go false true e = (worked_tiles N t (task (tasks N) p) v c hc σ f r l e, worked_rows N t (task (tasks N) p) v c hc σ r)
      go false false e = (
        failed_tiles N t (task (tasks N) p) v c hc σ f l,
        filled_rows N t (task (tasks N) p) v _
            (worked_rows N t (task (tasks N) p) v c hc σ r),
      )

  -- the limit of a held task's sum
  limit_before : (s : Lent) (p c : ℕ) → mark (marks_of s) p ≡ 1 → next_column s p ≡ c → tie_limit (plan_of z) s p ≡ z.side * c
  unfolding tie_limit plan limit_for
  limit_before s p c m e = (λ i. limit_for z.side (m i) (next_column s p)) ∙ ap (λ (i : ℕ). z.side * i) e

  calls_before : (s : Lent) (p c : ℕ) → mark (marks_of s) p ≡ 1 → next_column s p ≡ c → call_limit (plan_of z) s p ≡ suc c
  unfolding call_limit plan calls_for finished
  calls_before s p c m e = (λ i. calls_for z.side (m i) (next_column s p)) ∙ ap suc e

  -- one call more is within the task's limit
  column_calls : (s : Lent) (p c : ℕ) → c < z.side
      → suc (suc c) ≤ calls_for z.side (column_of (plan_of z) s p c).mark (cond (finished (column_of (plan_of z) s p c).mark) idle (holding p (suc c))).column
  unfolding column_of column_ends plan finished calls_for
  column_calls s p c hc =
      let fine : Ended → Type 0 = λ e. suc (suc c) ≤ calls_for z.side e.mark (cond (finished e.mark) idle (holding p (suc c))).column in
      either fine (eqb c 0 && ML.spoils (tasks z.tiles) (marks_of s) p) _ _ (omega arith)
      (either fine (sound (plan_of z) (task (tasks z.tiles) p) c s.buffers) _ _ (last (eqb (suc c) z.side)) (omega arith))
    where
      last : (b : Bool) → suc (suc c) ≤ calls_for z.side (cond b 2 1) (cond (finished (cond b 2 1)) idle (holding p (suc c))).column
      last true = omega arith
      last false = omega arith

  -- the call numbers and the worker that a column leaves
  column_written : (w k m x : ℕ) (r : TaskRecord) → w < z.workers → CallsFit r k z.workers → CallsFit (with_column w (suc k) m x r) (suc k) z.workers
  unfolding with_column
  column_written w k m x r hw a = record { took_most = omega (arith, a.took_most); ended_most = late (finished m); worker_below = ours (finished m) }
    where
      late : (b : Bool) → cond b (suc k) r.ended ≤ suc k
      late true = omega arith
      late false = omega (arith, a.ended_most)

      ours : (b : Bool) → cond b w r.worker < z.workers
      ours true = hw
      ours false = a.worker_below

  pub advanced_whole : (s : Lent) → Whole z s → (w : ℕ) → w < z.workers → (worker s w).busy ≡ true → Whole z (advanced (plan_of z) w s)
  unfolding advanced changed with_column
  advanced_whole s h w hw hb =
      let N = z.tiles in
      let t = z.side in
      let a : AtWork z s w = h.held w hw hb in
      let p = (worker s w).task in
      let c = (worker s w).column in
      let en = column_ends_lem z s h.stated p c a.task in
      let x = performed_kept p c a.task a.column (λ q. to_mark (mark (marks_of s) q)) (view N t s.buffers) h.tiles h.rows
      (long s.buffers h.stated.sized) in
      let one : Single (holds p) idle s.workers = h.holder p a.task a.mark in
      let here : w < length s.workers = subst (λ (k : ℕ). w < k) (sym h.stated.workers) hw in
      let mine : w ≡ one.place = unfold worker in
      (one.alone w (subst (λ (k : ℕ). w < k) (sym h.stated.workers) hw) (busy_holds p (worker s w) hb refl)) in
      let e = column_of (plan_of z) s p c in
      let r = h.records p a.task in
      let next : next_column s p ≡ c = next_of s p w here (busy_holds p (worker s w) hb refl) (single_kept (holds p) idle s.workers one) in
      let before : tie_limit (plan_of z) s p ≡ z.side * c = limit_before s p c a.mark next in
      let calls : call_limit (plan_of z) s p ≡ suc c = calls_before s p c a.mark next in
      stored_whole z s h e.left p (with_column w (suc s.number) e.mark e.ties (record_at z s p)) w _ a.task hw
      (unfold with_column in column_suits s p c a.column)
      (λ j d l e. d (one.alone j (subst (λ (k : ℕ). j < k) (sym h.stated.workers) l) (unfold worker in e) ∙ sym mine))
      (λ q e. sym (holds_task q (worker s w) e))
      (unfold with_column in record { kind_is = r.kind_is; k_is = r.k_is; i_is = r.i_is; j_is = r.j_is; mark_most = en.most })
      (unfold with_column in column_fits s p c (record_at z s p).ties a.column (subst (λ (k : ℕ). (record_at z s p).ties ≤ k) before (h.sums p a.task)))
      (column_written w s.number e.mark e.ties (record_at z s p) hw (h.calls p a.task))
      (unfold with_column in subst (λ (k : ℕ). suc k ≤ calls_for t e.mark (cond (finished e.mark) idle (holding p (suc c))).column) (sym calls) (column_calls s p c a.column))
      (unfold advanced changed in advanced_stated z s h.stated w a.task)
      (subst (Rows N t) (sym en.left.1) x.1) (subst (Tiles N t) (sym en.left.1) x.0)
