-- A run at what is lent s: what each turn leaves to do, and when a run is over. Assumes nothing.
use Prim.Native.Nat.{ℕ, zero, suc, ◌+◌, ◌%◌, ◌<◌}
use mathlib.Core.Bool.{Bool, true, false, cond}
use mathlib.Core.Path.{◌≡◌, refl, sym, ap, ◌∙◌, subst}
use mathlib.Core.Logic.{◌⊎◌, inl, inr}
use lib.ListN.{length}
use Rattle.model.specs.declared.Sizes.{Sizes}
use Rattle.std.specs.Prelude.{Ok}
use Rattle.model.specs.declared.RunStop.TheVariants.{Finished, Spent}
use Rattle.model.specs.Task.{tasks}
use Rattle.model.specs.Plan.{plan, plan_of}
use Rattle.model.specs.Links.{mark, finished, ready}
use Rattle.model.specs.Calls.{Lent, RunEnd, marks_of, worker, took, advanced, all_finished, has_work, turn, next_worker, run_from}
use Rattle.laws.proofs.Tests.{never, false_if, true_or_false}
use Rattle.run_laws.proofs.Pointer.{NoneReady}
use Rattle.run_laws.proofs.NextWorker.{lowest, can_take, only_busy, busy_works, next_here, next_after}
use Rattle.laws.proofs.Every.{every_at}
use Rattle.cells.proofs.Machine.{count, length_marks}
use Rattle.demand.proofs.Whole.{Whole}
use Rattle.demand.proofs.Steps.{ready_waits}
use Rattle.demand.proofs.Progress.{Goes, can_work, can_take as can-start, goes}

module _ (z : Sizes) (s : Lent) (h : Whole z s) where
  abbrev W : ℕ
  W = z.workers

  -- ---- a task that waits or is taken is unfinished

  unfinished : (p m : ℕ) → p < count z → mark (marks_of s) p ≡ m → finished m ≡ false → all_finished (plan_of z) s ≡ false
  unfolding all_finished mark
  unfinished p m l e f =
      false_if (all_finished (plan_of z) s)
      (λ a. never (every_at finished (marks_of s) 0 p a (subst (λ (k : ℕ). p < k) (sym (length_marks z s h.stated)) l)) (ap finished e ∙ f))

  ready_unfinished : (p : ℕ) → p < count z → ready (tasks z.tiles) (marks_of s) p ≡ true → all_finished (plan_of z) s ≡ false
  ready_unfinished p l e = unfinished p 0 l (ready_waits z s p e) (unfold finished in refl)

  busy_unfinished : (w : ℕ) → w < W → (worker s w).busy ≡ true → all_finished (plan_of z) s ≡ false
  busy_unfinished w l e = unfinished (worker s w).task 1 (h.held w l e).task (h.held w l e).mark (unfold finished in refl)

  -- ---- what a turn leaves to do

  -- the next worker is v
  turned : (b n w v : ℕ) → all_finished (plan_of z) s ≡ false → next_worker (plan_of z) W w s ≡ v
      → run_from (plan_of z) W (suc b) n w s ≡ run_from (plan_of z) W b (suc n) (suc v % W) (turn (plan_of z) v s)
  unfolding run_from
  turned b n w v f e = rw (f, run_from) (ap (λ (x : ℕ). run_from (plan_of z) W b (suc n) (suc x % W) (turn (plan_of z) x s)) e)

  -- an idle worker takes the lowest ready task
  pub takes : (b n w p : ℕ) → w < W → (worker s w).busy ≡ false → p < count z → ready (tasks z.tiles) (marks_of s) p ≡ true
      → NoneReady (tasks z.tiles) (marks_of s) p
      → run_from (plan_of z) W (suc b) n w s ≡ run_from (plan_of z) W b (suc n) (suc w % W) (took (plan_of z) w p s)
  unfolding turn plan
  takes b n w p hw hb hp hr none =
      turned b n w w (ready_unfinished p hp hr) (next_here (plan_of z) s W w hw (can_take (plan_of z) s p hp hr none w))
      ∙ ap (run_from (plan_of z) W b (suc n) (suc w % W)) (rw (hb, turn) (ap (λ (q : ℕ). took (plan_of z) w q s) (lowest (plan_of z) s p hp hr none)))

  -- a busy worker does a column
  pub works : (b n w : ℕ) → w < W → (worker s w).busy ≡ true
      → run_from (plan_of z) W (suc b) n w s ≡ run_from (plan_of z) W b (suc n) (suc w % W) (advanced (plan_of z) w s)
  unfolding turn
  works b n w hw hb =
      turned b n w w (busy_unfinished w hw hb) (next_here (plan_of z) s W w hw (busy_works (plan_of z) s w hb))
      ∙ ap (run_from (plan_of z) W b (suc n) (suc w % W)) (rw (hb, turn))

  -- where no task is ready, turns pass to the next busy worker
  module _ (none : NoneReady (tasks z.tiles) (marks_of s) (count z)) where
    none_in_plan : NoneReady (plan_of z).tasks (marks_of s) (length (plan_of z).tasks)
    unfolding plan
    none_in_plan = none

    works_as_busy : (v : ℕ) (b : Bool) → (worker s v).busy ≡ b → has_work (plan_of z) s v ≡ b
    works_as_busy v b e = only_busy (plan_of z) s none_in_plan v ∙ e

    pub passes : (b n w d : ℕ) → d < W → (worker s ((w + d) % W)).busy ≡ true → (w + d) % W < W
        → ((e : ℕ) → e < d → (worker s ((w + e) % W)).busy ≡ false)
        → run_from (plan_of z) W b n ((w + d) % W) s ≡ run_from (plan_of z) W b n w s
    unfolding run_from
    passes zero n w d hd hb hv before = refl
    passes (suc b) n w d hd hb hv before =
        let v = (w + d) % W in
        let f = busy_unfinished v hv hb in
        turned b n v v f (next_here (plan_of z) s W v hv (works_as_busy v true hb))
        ∙ sym (turned b n w v f (next_after (plan_of z) s W w d hd (works_as_busy v true hb) (λ e l. works_as_busy ((w + e) % W) false (before e l))))

    -- and where no worker is busy either, every task is finished
    pub over : ((v : ℕ) → v < W → (worker s v).busy ≡ false) → all_finished (plan_of z) s ≡ true
    over quiet = go (true_or_false (all_finished (plan_of z) s))
      where
        stuck : Goes z s h → ⊥
        stuck (can_work w l b) = never b (quiet w l)
        stuck (can-start p l r q) = never r (none p l)

        go : (all_finished (plan_of z) s ≡ true) ⊎ (all_finished (plan_of z) s ≡ false) → all_finished (plan_of z) s ≡ true
        go (inl e) = e
        go (inr e) = absurd (stuck (goes z s h e))

-- ---- the end of a run

module _ (z : Sizes) (s : Lent) where
  abbrev end : Bool → ℕ → RunEnd
  end f n = record { answer = cond f (Ok (Finished n)) (Ok (Spent n)); left = s }

  pub finishes : (b n w : ℕ) → all_finished (plan_of z) s ≡ true → run_from (plan_of z) z.workers b n w s ≡ end true n
  unfolding run_from
  finishes zero n w e = rw (e, run_from)
  finishes (suc b) n w e = rw (e, run_from)

  pub ends : (n w : ℕ) (f : Bool) → f ≡ all_finished (plan_of z) s → run_from (plan_of z) z.workers 0 n w s ≡ end f n
  unfolding run_from
  ends n w f e = rw e
