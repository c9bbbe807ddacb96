-- Demand 3: any list of calls after an accepted opening.
-- Assumes nothing.
use Prim.Native.Nat.{ℕ, ◌+◌, ◌*◌, ◌≤◌, ◌<◌}
use mathlib.Core.Bool.{true, false}
use mathlib.Core.Path.{◌≡◌, refl, sym, ap, ◌∙◌, subst, fun_ext}
use mathlib.Core.List.{List, []}
use native.Mathlib.Omega.{arith}
use lib.Ieee.{Float}
use lib.ListN.{length, length-map}
use lib.Seq.{ext_get_or}
use Rattle.model.specs.declared.Sizes.{Sizes}
use Rattle.model.specs.Answer.{accepted}
use Rattle.model.specs.Task.{tasks}
use Rattle.model.specs.Plan.{plan, plan_of}
use Rattle.model.specs.Links.{mark}
use Rattle.model.specs.Links as ML
use Rattle.model.specs.Loops.{outcome}
use Rattle.model.specs.Loops as M
use Rattle.model.specs.Calls.{Lent, marks_of, ties_of, state_of, all_finished, opened}
use Rattle.model.specs.Refusal.{open_call}
use Rattle.model.specs.History.{Call, spent_on}
use Rattle.demand.specs.Demand.{SomeCall, a_take, a_column, Demand3, end}
use Rattle.order_free.specs.Graph.{finished}
use Rattle.order_free.specs.Loops.{loops}
use Rattle.order_free.specs.Machine.{after}
use Rattle.order_free.specs.Theorem as T
use Rattle.order_free.proofs.OrderFree.{order_free}
use Rattle.cells.specs.Cells.{Val, view}
use Rattle.order_free.specs.Sums.{loop_gain}
use Rattle.order_free.proofs.Sums.{Sums, start_sums}
use Rattle.laws.proofs.Every.{every_at}
use Rattle.cells.proofs.Instance.{system_laws}
use Rattle.cells.proofs.Valid.{tasks_valid}
use Rattle.cells.proofs.View.{same_buffers}
use Rattle.cells.proofs.Marks.{to_mark, finished_is, finished_most, mark_same}
use Rattle.cells.proofs.Loops.{Matches, σ₀, loops_match, Summed, loops_sums}
use Rattle.cells.proofs.Machine.{S, count, abs, sums_fn, tie_gain, length_marks, opened_is}
use Rattle.demand.proofs.Whole.{Whole, in_range, opened_untouched}
use Rattle.demand.proofs.Checks.{sum_at}
use Rattle.demand.proofs.Answers.{run_accepted, take_accepted, column_accepted}
use Rattle.demand.proofs.Progress.{Goes, can_work, can_take, goes}
use Rattle.demand.proofs.Reach.{Reach, move_reach}
use Rattle.demand.proofs.Opening.{Opened, opened_by, left_whole}
use Rattle.demand.proofs.Calls.{calls_keep}

-- ---- the opening's tie sums

pub opened_sums : (z : Sizes) (m : List Float) (hm : length m ≡ z.tiles * z.tiles * (z.side * z.side))
    → Sums (S z) (tie_gain z) z.workers (σ₀ z.tiles z.side m) (abs z (opened (plan_of z) z.workers m))
    (sums_fn z (opened (plan_of z) z.workers m))
unfolding opened plan
opened_sums z m hm =
    subst (λ (u : ℕ → ℕ). Sums (S z) (tie_gain z) z.workers (σ₀ z.tiles z.side m) (abs z (opened (plan_of z) z.workers m)) u)
    (sym (fun_ext (λ p. (opened_untouched (tasks z.tiles) p).no_ties)))
    (subst (λ k. Sums (S z) (tie_gain z) z.workers (σ₀ z.tiles z.side m) k (λ p. 0)) (sym (opened_is z m hm))
    (start_sums (S z) (tie_gain z) z.workers (σ₀ z.tiles z.side m)))

-- what an opening leaves is reached, by no call
pub opened_reach : (z : Sizes) (s : Lent) → Opened z s → (q : ℕ) → Reach z (σ₀ z.tiles z.side s.buffers.matrix) q 0 (open_call z s).left
unfolding after
opened_reach z s o q = record {
  whole = left_whole z s o;
  calls = [];
  is = ap (abs z) o.left ∙ opened_is z s.buffers.matrix o.long;
  sums = subst (λ (l : Lent). Sums (S z) (tie_gain z) z.workers (σ₀ z.tiles z.side s.buffers.matrix) (abs z l) (sums_fn z l)) (sym o.left)
      (opened_sums z s.buffers.matrix o.long);
  made = omega arith;
}

-- ---- the end

module _ (z : Sizes) (m : List Float) (hm : length m ≡ z.tiles * z.tiles * (z.side * z.side)) where
  abbrev N : ℕ
  N = z.tiles

  abbrev t : ℕ
  t = z.side

  -- where every task is finished, order_free's theorem gives the cells and the marks
  the_end : (q n : ℕ) (s : Lent) → Reach z (σ₀ N t m) q n s → all_finished (plan_of z) s ≡ true → state_of s ≡ M.loops (plan_of z) m
  unfolding state_of all_finished abs mark
  the_end q n s r e = λ i. record {
    buffers = same_buffers N t s.buffers (M.loops (plan_of z) m).buffers r.whole.stated.sized
        match.cells.0 same_view i;
    marks = same_list i;
    ties = same_sums i;
  }
    where
      match : Matches N t (tasks N) (M.loops (plan_of z) m) (loops (S z) (count z) (σ₀ N t m))
      match = unfold plan in (loops_match N t (tasks N) (tasks_valid N) m hm)

      theorem : T.OrderFree (S z) z.workers (σ₀ N t m) r.calls
      theorem = order_free (S z) (system_laws N t (tasks N) (tasks_valid N) (in_range z r.whole.fit).some_side) z.workers (σ₀ N t m) r.calls

      long : length (marks_of s) ≡ count z
      long = length_marks z s r.whole.stated

      done : (p : ℕ) → p < count z → ML.finished (mark (marks_of s) p) ≡ true
      done p h = every_at ML.finished (marks_of s) 0 p e (subst (λ (k : ℕ). p < k) (sym long) h)

      ended : (p : ℕ) → p < count z → finished ((T.end (S z) z.workers (σ₀ N t m) r.calls).marks p) ≡ true
      ended p h = ap (λ x. finished (x.marks p)) (sym r.is) ∙ finished_is (mark (marks_of s) p) ∙ done p h

      same_view : view N t s.buffers ≡ view N t (M.loops (plan_of z) m).buffers
      same_view = ap (λ x. x.cells) r.is ∙ (λ i q. theorem.same_cells ended q i) ∙ sym match.cells.1

      same_mark : (p : ℕ) → p < count z → to_mark (mark (marks_of s) p) ≡ to_mark (mark (M.loops (plan_of z) m).marks p)
      same_mark p h = ap (λ x. x.marks p) r.is ∙ theorem.same_marks ended p h ∙ sym (λ i. match.marks i p)

      same_list : marks_of s ≡ (M.loops (plan_of z) m).marks
      same_list = ext_get_or 0 (marks_of s) (M.loops (plan_of z) m).marks (long ∙ sym match.long) (λ p l.
          let h : p < count z = subst (λ (k : ℕ). p < k) long l in
          let x = mark (marks_of s) p in
          let y = mark (M.loops (plan_of z) m).marks p in
          let f : ML.finished y ≡ true = sym (finished_is y) ∙ ap finished (sym (same_mark p h)) ∙ finished_is x ∙ done p h in
          mark_same x y (finished_most x (done p h)) (finished_most y f) (same_mark p h))

      summed : Summed N t (tasks N) (tasks_valid N) m hm (count z) (M.loops (plan_of z) m)
      summed = unfold plan in (loops_sums N t (tasks N) (tasks_valid N) m hm)

      -- a finished task has the loops' tie sum
      sum_same : (p : ℕ) → p < count z → sums_fn z s p ≡ loop_gain (S z) (tie_gain z) (σ₀ N t m) p
      sum_same p h = r.sums.ends p h refl (unfold abs in (finished_is (mark (marks_of s) p) ∙ done p h))

      long_sums : length (ties_of s) ≡ count z
      long_sums = unfold ties_of in (length-map s.records (λ r. r.ties) ∙ r.whole.stated.records)

      same_sums : ties_of s ≡ (M.loops (plan_of z) m).ties
      same_sums = ext_get_or 0 (ties_of s) (M.loops (plan_of z) m).ties (long_sums ∙ sym summed.long) (λ p l.
          let h : p < count z = subst (λ (k : ℕ). p < k) long_sums l in
          sum_at z s p ∙ sum_same p h ∙ sym (summed.sums p h))

-- ---- the demand

module _ (z : Sizes) (s : Lent) (cs : List Call) (e : (open_call z s).answer ≡ accepted) where
  o : Opened z s
  o = opened_by z s e

  cells : ℕ → Val
  cells = σ₀ z.tiles z.side s.buffers.matrix

  -- what any calls leave is reached
  reached : (q : ℕ) → Reach z cells q (0 + spent_on q cs (open_call z s).left) (end z s cs)
  unfolding cells
  reached q = calls_keep z q (Reach z cells q) (record { whole = λ r. r.whole; moves = λ r m. move_reach z cells q r m }) cs 0 (open_call z s).left
      (unfold cells in opened_reach z s o q)

  some_call : all_finished (plan_of z) (end z s cs) ≡ false → SomeCall z (end z s cs)
  some_call f = go (reached 0).whole (goes z (end z s cs) (reached 0).whole f)
    where
      go : (h : Whole z (end z s cs)) → Goes z (end z s cs) h → SomeCall z (end z s cs)
      go h (can_work w hw hb) = a_column w (column_accepted z (end z s cs) h w hw hb)
      go h (can_take p hp hr quiet) = let l = (in_range z h.fit).some_workers in a_take 0 p (take_accepted z (end z s cs) h 0 p l (quiet 0 l) hp hr)

  few_calls : (q : ℕ) → spent_on q cs (open_call z s).left ≤ z.side + 1
  few_calls q =
      let r = reached q in
      let laws = system_laws z.tiles z.side (tasks z.tiles) (tasks_valid z.tiles) (in_range z o.fit).some_side in
      let b = (order_free (S z) laws z.workers cells r.calls).at_most q in
      omega (arith, r.made, b)

  pub demand_3 : Demand3 z s cs
  unfolding cells
  demand_3 = record {
    same = λ f. the_end z s.buffers.matrix o.long 0 _ (end z s cs) (reached 0) f;
    same_outcome = λ f. ap (outcome (plan_of z)) (the_end z s.buffers.matrix o.long 0 _ (end z s cs) (reached 0) f);
    goes_on = some_call;
    few = few_calls;
    runs = run_accepted z (end z s cs) (reached 0).whole;
  }
