-- A run is accepted exactly where what is lent is whole; and there a take of a ready task by an idle worker, and a column of a busy one.
-- Assumes nothing.
use Prim.Native.Nat.{ℕ, ◌*◌, ◌<◌}
use mathlib.Core.Bool.{true, false, not, ◌||◌}
use mathlib.Core.Path.{◌≡◌, refl, sym, ap, subst}
use mathlib.Core.List.{map}
use native.Mathlib.Omega.{arith}
use lib.ListN.{length, get_or}
use borrow.Author.Tests.{lt-leb, ltb-true, ltb-false, not-false}
use Rattle.model.specs.declared.Sizes.{Sizes}
use Rattle.worker.specs.declared.Worker.{Worker}
use Rattle.model.specs.Answer.{accepted}
use Rattle.model.specs.declared.Rule.TheVariants.{BadSizes, BadLengths, Damaged, WrongWorker, NoTask, NotReady}
use Rattle.model.specs.Lists.{below, some, total}
use Rattle.model.specs.Tile.{all_finite}
use Rattle.model.specs.Task.{tasks}
use Rattle.model.specs.Plan.{plan, plan_of}
use Rattle.model.specs.Links.{ready}
use Rattle.model.specs.Calls.{Lent, marks_of, worker}
use Rattle.worker.specs.Holding.{idle}
use Rattle.model.specs.Refusal.{bad_sizes, no_worker, bad_lengths, bad_record, bad_hold, bad_ties, bad_calls, call_limit, bad_number, bad_worker, bad_entry, damaged, take_answer, column_answer, run_answer}
use Rattle.laws.proofs.Refusals.{passed}
use Rattle.laws.proofs.Tests.{never, false_if, or_false, false_or, fails_below}
use Rattle.cells.proofs.Members.{some_elim, none_below, member_index, index_member}
use Rattle.cells.proofs.Machine.{count, Stated}
use Rattle.demand.proofs.Whole.{Whole, tiles_finite}
use Rattle.demand.proofs.Checks.{passes, fails, lengths, good_lengths, recorded, good_record, few_ties, good_ties, few_calls, good_calls, one_holder, good_hold, at_work, good_worker}
use Rattle.demand.proofs.Limits.{in_limits, good_entry, finite_matrix, good_tiles}

module _ (z : Sizes) (s : Lent) where
  pub run_whole : run_answer z s ≡ accepted → Whole z s
  unfolding run_answer damaged plan
  run_whole e =
      let a = passed BadSizes 0 (bad_sizes z) _ e in
      let b = passed BadLengths 0 (bad_lengths (plan_of z) z.workers s) _ a.1 in
      let c = passed Damaged 0 (damaged (plan_of z) s || not (all_finite s.buffers.matrix)) accepted b.1 in
      let d = or_false (damaged (plan_of z) s) (not (all_finite s.buffers.matrix)) c.0 in
      let rs = some (bad_record (plan_of z) s) (below (count z)) in
      let hs = some (bad_hold (plan_of z) s) (below (count z)) in
      let ws = some (bad_worker (plan_of z) s) s.workers in
      let ns = some (bad_ties (plan_of z) s) (below (count z)) in
      let cs = some (bad_calls (plan_of z) s) (below (count z)) in
      let of_records = rs || hs || ns || cs || bad_number (plan_of z) s in
      let f = or_false (of_records || ws) _ d.0 in
      let g = or_false of_records ws f.0 in
      let n = or_false (rs || hs || ns || cs) (bad_number (plan_of z) s) g.0 in
      let c = or_false (rs || hs || ns) cs n.0 in
      let k = or_false (rs || hs) ns c.0 in
      let h = or_false rs hs k.0 in
      let l : Stated z s = lengths z s b.0 in
      record {
        fit = a.0;
        stated = l;
        records = λ p k. recorded z s l p k (fails_below (bad_record (plan_of z) s) (count z) p h.0 k);
        sums = λ p l. few_ties z s p (fails_below (bad_ties (plan_of z) s) (count z) p k.1 l);
        calls = λ p k. few_calls z s l p k (fails_below (bad_calls (plan_of z) s) (count z) p c.1 k);
        number = unfold bad_number plan in ltb-false _ _ n.1;
        holder = λ p k m. one_holder z s p (fails_below (bad_hold (plan_of z) s) (count z) p h.1 k) m;
        held = λ w k m. at_work z s w (unfold worker in fails (bad_worker (plan_of z) s) s.workers (get_or s.workers w idle) g.1
            (index_member idle s.workers w (subst (λ (n : ℕ). w < n) (sym l.workers) k))) m;
        rows = in_limits z s l.sized (λ x k. fails_below (bad_entry (plan_of z) s) (z.tiles * z.tiles * z.side) x f.1 k);
        tiles = tiles_finite z.tiles z.side s.buffers (not-false (all_finite s.buffers.matrix) d.1);
      }

  module _ (h : Whole z s) where
    good_workers : some (bad_worker (plan_of z) s) s.workers ≡ false
    good_workers = false_if (some (bad_worker (plan_of z) s) s.workers) (λ e.
        let (x, m, q) = some_elim (bad_worker (plan_of z) s) s.workers e in
        let (w, l, k) = member_index idle s.workers x m in
        never (subst (λ (y : Worker). bad_worker (plan_of z) s y ≡ true) (sym k) q)
        (unfold worker in (good_worker z s w (h.held w (subst (λ (n : ℕ). w < n) h.stated.workers l)))))

    good_number : bad_number (plan_of z) s ≡ false
    unfolding bad_number plan
    good_number = false_if _ (λ e. omega (arith, h.number, ltb-true (total (map (call_limit (plan_of z) s) (below (count z)))) s.number e))

    undamaged : damaged (plan_of z) s ≡ false
    unfolding damaged plan
    undamaged =
        false_or _ _ (false_or _ _ (false_or _ _ (false_or _ _ (false_or _ _ (false_or _ _
        (none_below (bad_record (plan_of z) s) (count z) (λ p l. good_record z s h.stated p l (h.records p l)))
        (none_below (bad_hold (plan_of z) s) (count z) (λ p l. good_hold z s p (h.holder p l))))
        (none_below (bad_ties (plan_of z) s) (count z) (λ p l. good_ties z s p (h.sums p l))))
        (none_below (bad_calls (plan_of z) s) (count z) (λ p l. good_calls z s h.stated p l (h.calls p l)))) good_number) good_workers)
        (none_below (bad_entry (plan_of z) s) (z.tiles * z.tiles * z.side) (good_entry z s h.stated.sized h.rows))

    is_worker : (w : ℕ) → w < z.workers → no_worker w s ≡ false
    unfolding no_worker
    is_worker w l = lt-leb (length s.workers) w (subst (λ (k : ℕ). w < k) (sym h.stated.workers) l)

    pub run_accepted : run_answer z s ≡ accepted
    unfolding run_answer
    run_accepted =
        passes BadSizes 0 _ _ h.fit (passes BadLengths 0 _ _ (good_lengths z s h.stated)
        (passes Damaged 0 _ _ (false_or _ _ undamaged (ap not (finite_matrix z s h.stated.sized h.tiles))) refl))

    pub take_accepted : (w p : ℕ) → w < z.workers → (worker s w).busy ≡ false → p < count z → ready (tasks z.tiles) (marks_of s) p ≡ true
        → take_answer z w p s ≡ accepted
    unfolding take_answer plan
    take_accepted w p hw hb hp hr =
        passes BadSizes 0 _ _ h.fit (passes BadLengths 0 _ _ (good_lengths z s h.stated) (passes Damaged 0 _ _ undamaged
        (passes WrongWorker w _ _ (false_or _ _ (is_worker w hw) hb) (passes NoTask 0 _ _ (lt-leb (count z) p hp) (passes NotReady p _ _ (ap not hr) refl)))))

    pub column_accepted : (w : ℕ) → w < z.workers → (worker s w).busy ≡ true → column_answer z w s ≡ accepted
    unfolding column_answer
    column_accepted w hw hb =
        passes BadSizes 0 _ _ h.fit (passes BadLengths 0 _ _ (good_lengths z s h.stated)
        (passes Damaged 0 _ _ (false_or _ _ undamaged (good_tiles z s h.stated.sized h.tiles w (h.held w hw hb).task))
        (passes WrongWorker w _ _ (false_or _ _ (is_worker w hw) (ap not hb)) refl)))
