-- The checks of refusals 2 and 4 as facts, each way: lengths, records, tie sums, and who holds what.
-- Assumes nothing.
use Prim.Native.Nat.{ℕ, ◌*◌, ◌≤◌, ◌<◌}
use mathlib.Core.Bool.{Bool, true, false, not, ◌&&◌}
use mathlib.Core.Path.{◌≡◌, refl, sym, ap, ◌∙◌, subst}
use mathlib.Core.List.{List}
use native.Mathlib.Nat.{mul-mul-mul_comm}
use native.Mathlib.Omega.{arith}
use lib.Dec.{eqb, ltb}
use native.Mathlib.Omega.{arith}
use lib.ListN.{length, get_or, get_or-map}
use borrow.Author.Tests.{eqb-true, eq-eqb, ltb-true, ltb-false, lt-ltb, le-leb, not-false}
use Rattle.model.specs.declared.Rule.{Rule}
use Rattle.model.specs.declared.Sizes.{Sizes}
use Rattle.model.specs.declared.TaskRecord.{TaskRecord}
use Rattle.std.specs.Prelude.{Ok, Err}
use Rattle.model.specs.Answer.{Answer, accepted}
use Rattle.model.specs.Lists.{some, keep}
use Rattle.model.specs.Task.{Task, t_1, tasks}
use Rattle.model.specs.Plan.{plan, plan_of, order}
use Rattle.model.specs.Links.{task, mark}
use Rattle.model.specs.Calls.{Lent, marks_of, ties_of, record_of, worker}
use Rattle.worker.specs.Holding.{idle}
use Rattle.model.specs.Refusal.{refuse, replied, holds, bad_lengths, bad_record, bad_hold, tie_limit, bad_ties, bad_calls, bad_worker}
use Rattle.laws.proofs.Every.{get_d_any}
use Rattle.laws.proofs.Tests.{never, and_left, and_right, and_intro, false_if, and_true_not}
use Rattle.run_laws.proofs.Undamaged.{Due, due_of, CallsFit, calls_of_lem}
use Rattle.cells.proofs.Members.{Member, some_intro}
use Rattle.demand.proofs.Single.{Single, single_kept, kept_single}
use Rattle.cells.proofs.Machine.{count, Stated}
use Rattle.demand.proofs.Whole.{AtWork}

-- ---- a chain of refusals

pub passes : (n : Rule) (x : ℕ) (b : Bool) (r : Answer) → b ≡ false → r ≡ accepted → refuse n x b r ≡ accepted
unfolding refuse
passes n x true r e f = never refl e
passes n x false r e f = f

-- an accepted call leaves what it does
pub accepted_new : (a : Answer) (old new : Lent) → a ≡ accepted → (replied a old new).left ≡ new
unfolding replied
accepted_new (Ok _) old new e = refl
accepted_new (Err why) old new e = let y : ◌≡◌ {A = ℕ} 0 1 = cc in absurd (omega arith)

-- no member passes a test that none does
pub fails : {A : Type 0} (f : A → Bool) (xs : List A) (x : A) → some f xs ≡ false → Member x xs → f x ≡ false
fails f xs x e m = false_if (f x) (λ q. never (some_intro f xs x m q) e)

-- ---- lengths

pub lengths : (z : Sizes) (s : Lent) → bad_lengths (plan_of z) z.workers s ≡ false → Stated z s
unfolding bad_lengths plan order
lengths z s e =
    let m = eqb (length s.buffers.matrix) (z.tiles * z.side * (z.tiles * z.side)) in
    let l = eqb (length s.buffers.lists) (z.tiles * z.tiles * z.side) in
    let r = eqb (length s.records) (count z) in
    let w = eqb (length s.workers) z.workers in
    let a = not-false (m && l && r && w) e in
    let b = and_left (m && l && r) w a in
    let c = and_left (m && l) r b in
    record {
      sized = record {
        matrix = eqb-true _ _ (and_left m l c) ∙ mul-mul-mul_comm z.tiles z.side z.tiles z.side;
        lists = eqb-true _ _
            (and_right m l c);
      };
      records = eqb-true _ _ (and_right (m && l) r b);
      workers = eqb-true _ _ (and_right (m && l && r) w a);
    }

pub good_lengths : (z : Sizes) (s : Lent) → Stated z s → bad_lengths (plan_of z) z.workers s ≡ false
unfolding bad_lengths plan order
good_lengths z s g = ap not (and_intro _ _ (and_intro _ _ (and_intro _ _
    (eq-eqb _ _ (g.sized.matrix ∙ sym (mul-mul-mul_comm z.tiles z.side z.tiles z.side))) (eq-eqb _ _ g.sized.lists))
    (eq-eqb _ _ g.records)) (eq-eqb _ _ g.workers))

module _ (z : Sizes) (s : Lent) where
  abbrev N : ℕ
  N = z.tiles

  abbrev t : ℕ
  t = z.side

  abbrev tk : ℕ → Task
  tk p = task (tasks N) p

  -- ---- records

  pub recorded : Stated z s → (p : ℕ) → p < count z → bad_record (plan_of z) s p ≡ false → Due (tk p) (get_or s.records p (record_of (t_1 0)))
  unfolding bad_record plan
  recorded g p h e =
      let r = get_or s.records p (record_of (tk p)) in
      subst (Due (tk p)) (get_d_any s.records p (record_of (tk p)) (record_of (t_1 0)) (subst (λ (k : ℕ). p < k) (sym g.records) h)) (due_of (tk p) r e)

  pub good_record : Stated z s → (p : ℕ) → p < count z → Due (tk p) (get_or s.records p (record_of (t_1 0))) → bad_record (plan_of z) s p ≡ false
  unfolding bad_record plan
  good_record g p h x =
      let a : Due (tk p) (get_or s.records p (record_of (tk p))) = subst (Due (tk p))
      (get_d_any s.records p (record_of (t_1 0)) (record_of (tk p)) (subst (λ (k : ℕ). p < k) (sym g.records) h)) x in
      ap not (and_intro _ _ (and_intro _ _ (and_intro _ _ (and_intro _ _ (eq-eqb _ _ a.kind_is) (eq-eqb _ _ a.k_is)) (eq-eqb _ _ a.i_is))
      (eq-eqb _ _ a.j_is)) (le-leb _ _ a.mark_most))

  -- ---- tie sums

  pub sum_at : (p : ℕ) → get_or (ties_of s) p 0 ≡ (get_or s.records p (record_of (t_1 0))).ties
  unfolding ties_of record_of
  sum_at p = get_or-map (λ r. r.ties) s.records p (record_of (t_1 0))

  pub few_ties : (p : ℕ) → bad_ties (plan_of z) s p ≡ false → (get_or s.records p (record_of (t_1 0))).ties ≤ tie_limit (plan_of z) s p
  unfolding bad_ties
  few_ties p e = omega (arith, sum_at p, ltb-false (tie_limit (plan_of z) s p) (get_or (ties_of s) p 0) e)

  pub good_ties : (p : ℕ) → (get_or s.records p (record_of (t_1 0))).ties ≤ tie_limit (plan_of z) s p → bad_ties (plan_of z) s p ≡ false
  unfolding bad_ties
  good_ties p h = false_if _ (λ e. omega (arith, sum_at p, h, ltb-true (tie_limit (plan_of z) s p) (get_or (ties_of s) p 0) e))

  -- ---- call numbers

  pub few_calls : Stated z s → (p : ℕ) → p < count z → bad_calls (plan_of z) s p ≡ false → CallsFit (get_or s.records p (record_of (t_1 0))) s.number z.workers
  unfolding bad_calls plan
  few_calls g p h e =
      subst (CallsFit (get_or s.records p (record_of (t_1 0))) s.number) g.workers
      (subst (λ (r : TaskRecord). CallsFit r s.number (length s.workers))
      (get_d_any s.records p (record_of (tk p)) (record_of (t_1 0)) (subst (λ (k : ℕ). p < k) (sym g.records) h))
      (calls_of_lem (get_or s.records p (record_of (tk p))) s.number (length s.workers) e))

  pub good_calls : Stated z s → (p : ℕ) → p < count z → CallsFit (get_or s.records p (record_of (t_1 0))) s.number z.workers → bad_calls (plan_of z) s p ≡ false
  unfolding bad_calls plan
  good_calls g p h x =
      let a : CallsFit (get_or s.records p (record_of (tk p))) s.number (length s.workers) =
      subst (CallsFit (get_or s.records p (record_of (tk p))) s.number) (sym g.workers)
      (subst (λ (r : TaskRecord). CallsFit r s.number z.workers)
      (get_d_any s.records p (record_of (t_1 0)) (record_of (tk p)) (subst (λ (k : ℕ). p < k) (sym g.records) h)) x) in
      ap not (and_intro _ _ (and_intro _ _ (le-leb _ _ a.took_most) (le-leb _ _ a.ended_most)) (lt-ltb _ _ a.worker_below))

  -- ---- who holds what

  pub one_holder : (p : ℕ) → bad_hold (plan_of z) s p ≡ false → mark (marks_of s) p ≡ 1 → Single (holds p) idle s.workers
  unfolding bad_hold
  one_holder p e m =
      let a = eqb (mark (marks_of s) p) 1 in
      let k = eqb (length (keep (holds p) s.workers)) 1 in
      kept_single (holds p) idle s.workers (eqb-true _ 1 (and_true_not a k (eq-eqb (mark (marks_of s) p) 1 m) e))

  pub good_hold : (p : ℕ) → (mark (marks_of s) p ≡ 1 → Single (holds p) idle s.workers) → bad_hold (plan_of z) s p ≡ false
  unfolding bad_hold
  good_hold p h = go (eqb (mark (marks_of s) p) 1) refl
    where
      go : (b : Bool) → eqb (mark (marks_of s) p) 1 ≡ b → (b && not (eqb (length (keep (holds p) s.workers)) 1)) ≡ false
      go false e = refl
      go true e = ap not (eq-eqb _ 1 (single_kept (holds p) idle s.workers (h (eqb-true (mark (marks_of s) p) 1 e))))

  abbrev works : ℕ → Bool
  works w = ltb (worker s w).task (count z) && eqb (mark (marks_of s) (worker s w).task) 1 && ltb (worker s w).column t

  pub at_work : (w : ℕ) → bad_worker (plan_of z) s (worker s w) ≡ false → (worker s w).busy ≡ true → AtWork z s w
  unfolding bad_worker plan
  at_work w e b =
      let x = ltb (worker s w).task (count z) in
      let y = eqb (mark (marks_of s) (worker s w).task) 1 in
      let v = ltb (worker s w).column t in
      let f : works w ≡ true = not-false (works w) (subst (λ (c : Bool). (c && not (works w)) ≡ false) b e) in
      record {
        task = ltb-true _ _ (and_left x y (and_left (x && y) v f));
        mark = eqb-true _ _ (and_right x y (and_left (x && y) v f));
        column = ltb-true _ _ (and_right (x && y) v f);
      }

  pub good_worker : (w : ℕ) → ((worker s w).busy ≡ true → AtWork z s w) → bad_worker (plan_of z) s (worker s w) ≡ false
  unfolding bad_worker plan
  good_worker w h = go (worker s w).busy refl
    where
      go : (b : Bool) → (worker s w).busy ≡ b → (b && not (works w)) ≡ false
      go false e = refl
      go true e = let a = h e in ap not (and_intro _ _ (and_intro _ _ (lt-ltb _ _ a.task) (eq-eqb _ _ a.mark)) (lt-ltb _ _ a.column))
