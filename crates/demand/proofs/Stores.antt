-- A mark for one task and a worker in one place, stored: when they keep records, marks and workers as a run asks for them.
-- Assumes nothing.
use Prim.Native.Nat.{ℕ, suc, ◌≤◌, ◌<◌}
use mathlib.Core.Bool.{true, false}
use mathlib.Core.Path.{◌≡◌, sym, ap, ◌∙◌, subst}
use mathlib.Core.Logic.{◌⊎◌, inl, inr, ◌≢◌}
use lib.Dec.{eqb}
use lib.ListN.{length, get_or, length-set}
use lib.ListN as L
use lib.Seq.{get_or-set_same, get_or-set_other}
use borrow.Author.Tests.{eqb-true, eq-eqb}
use Rattle.model.specs.declared.Sizes.{Sizes}
use Rattle.model.specs.declared.TaskRecord.{TaskRecord}
use Rattle.worker.specs.declared.Worker.{Worker}
use Rattle.model.specs.Task.{t_1, tasks}
use Rattle.model.specs.Lists.{total}
use Rattle.model.specs.Lists as ML
use mathlib.Core.List.{map}
use Rattle.model.specs.Links.{task, mark}
use Rattle.model.specs.Buffer.{Buffers}
use Rattle.model.specs.Plan.{plan, plan_of}
use Rattle.model.specs.Calls.{Lent, marks_of, record_of, worker}
use Rattle.worker.specs.Holding.{idle}
use Rattle.model.specs.Refusal.{holds, next_column, tie_limit, call_limit}
use Rattle.laws.proofs.Tests.{never, and_left, and_right, and_intro, same_or_not, false_if}
use Rattle.cells.specs.Cells.{view}
use Rattle.demand.proofs.Single.{Single, single_kept}
use Rattle.demand.proofs.Totals.{total_set, column_in, next_total, not_in, limit_for, limit_other, calls_for, calls_other}
use native.Mathlib.Omega.{arith}
use Rattle.cells.proofs.Kept.{Tiles, Rows}
use Rattle.cells.proofs.Machine.{count, Stated}
use Rattle.laws.proofs.Totals.{total_grows}
use Rattle.run_laws.proofs.Undamaged.{Due, CallsFit, next_of}
use Rattle.demand.proofs.Whole.{AtWork, Whole, mark_at}

pub holds_busy : (p : ℕ) (h : Worker) → holds p h ≡ true → h.busy ≡ true
unfolding holds
holds_busy p h e = and_left h.busy (eqb h.task p) e

pub holds_task : (p : ℕ) (h : Worker) → holds p h ≡ true → h.task ≡ p
unfolding holds
holds_task p h e = eqb-true h.task p (and_right h.busy (eqb h.task p) e)

pub busy_holds : (p : ℕ) (h : Worker) → h.busy ≡ true → h.task ≡ p → holds p h ≡ true
unfolding holds
busy_holds p h b e = and_intro h.busy (eqb h.task p) b (eq-eqb h.task p e)

-- the mark v for task p fits the worker x: taken where x holds it, and else not
pub data Suits (z : Sizes) (p v : ℕ) (x : Worker) : Type 0 where
  rests : x.busy ≡ false → (v ≡ 1 → ⊥) → Suits z p v x
  works : x.busy ≡ true → x.task ≡ p → v ≡ 1 → x.column < z.side → Suits z p v x

module _ (z : Sizes) (s : Lent) (h : Whole z s) (b : Buffers) (p : ℕ) (new : TaskRecord) (w : ℕ) (x : Worker) (hp : p < count z) (hw : w < z.workers) where
  -- what is lent, with that record, that worker, the buffers b, and one call more
  abbrev pub stored : Lent
  stored = record { buffers = b; records = L.set s.records p new; workers = L.set s.workers w x; number = suc s.number }

  abbrev v : ℕ
  v = new.mark

  -- ---- what is read afterwards

  abbrev none : TaskRecord
  none = record_of (t_1 0)

  pub record_here : get_or (L.set s.records p new) p none ≡ new
  record_here = get_or-set_same s.records p _ none (subst (λ (k : ℕ). p < k) (sym h.stated.records) hp)

  pub record_there : (q : ℕ) → (q ≡ p → ⊥) → get_or (L.set s.records p new) q none ≡ get_or s.records q none
  record_there q d = get_or-set_other s.records p q _ none d

  pub mark_here : mark (marks_of stored) p ≡ v
  mark_here = mark_at stored p ∙ ap (λ (r : TaskRecord). r.mark) record_here

  pub mark_there : (q : ℕ) → (q ≡ p → ⊥) → mark (marks_of stored) q ≡ mark (marks_of s) q
  mark_there q d = mark_at stored q ∙ ap (λ (r : TaskRecord). r.mark) (record_there q d) ∙ sym (mark_at s q)

  pub worker_here : worker stored w ≡ x
  unfolding worker
  worker_here = get_or-set_same s.workers w x idle (subst (λ (k : ℕ). w < k) (sym h.stated.workers) hw)

  pub worker_there : (u : ℕ) → (u ≡ w → ⊥) → worker stored u ≡ worker s u
  unfolding worker
  worker_there u d = get_or-set_other s.workers w u x idle d

  records_kept : Due (task (tasks z.tiles) p) new → (q : ℕ) → q < count z → Due (task (tasks z.tiles) q) (get_or (L.set s.records p new) q none)
  records_kept d q hq = go (same_or_not q p)
    where
      go : (q ≡ p) ⊎ (q ≢ p) → Due (task (tasks z.tiles) q) (get_or (L.set s.records p new) q none)
      go (inl e) =
          subst (λ (k : ℕ). Due (task (tasks z.tiles) k) (get_or (L.set s.records p new) k none)) (sym e)
          (subst (Due (task (tasks z.tiles) p)) (sym record_here) d)
      go (inr n) = subst (Due (task (tasks z.tiles) q)) (sym (record_there q n)) (h.records q hq)

  -- ---- who holds what, where no other worker held p, and w no other task

  module _ (y : Suits z p v x) (free : (j : ℕ) → (j ≡ w → ⊥) → j < z.workers → holds p (worker s j) ≡ true → ⊥)
      (own : (q : ℕ) → holds q (worker s w) ≡ true → q ≡ p) where
    below : {j : ℕ} → j < length (L.set s.workers w x) → j < z.workers
    below {j} l = subst (λ (k : ℕ). j < k) (length-set s.workers w x ∙ h.stated.workers) l

    above : {j : ℕ} → j < z.workers → j < length (L.set s.workers w x)
    above {j} l = subst (λ (k : ℕ). j < k) (sym (length-set s.workers w x ∙ h.stated.workers)) l

    old_below : {j : ℕ} → j < z.workers → j < length s.workers
    old_below {j} l = subst (λ (k : ℕ). j < k) (sym h.stated.workers) l

    only : (q j : ℕ) → holds q (worker stored j) ≡ true → ((j ≡ w) × (q ≡ p)) ⊎ ((j ≢ w) × (holds q (worker s j) ≡ true))
    only q j e = go (same_or_not j w)
      where
        task_of : Suits z p v x → holds q x ≡ true → q ≡ p
        task_of (rests n m) f = never (holds_busy q x f) n
        task_of (works n m k c) f = sym (holds_task q x f) ∙ m

        go : (j ≡ w) ⊎ (j ≢ w) → ((j ≡ w) × (q ≡ p)) ⊎ ((j ≢ w) × (holds q (worker s j) ≡ true))
        go (inl d) = inl (d, task_of y (subst (λ (k : Worker). holds q k ≡ true) (ap (worker stored) d ∙ worker_here) e))
        go (inr d) = inr (d, subst (λ (k : Worker). holds q k ≡ true) (worker_there j d) e)

    holder_kept : (q : ℕ) → q < count z → mark (marks_of stored) q ≡ 1 → Single (holds q) idle (L.set s.workers w x)
    unfolding worker
    holder_kept q hq e = go (same_or_not q p)
      where
        taken : Suits z p v x → v ≡ 1 → holds p x ≡ true
        taken (rests n m) f = absurd (m f)
        taken (works n m k c) f = busy_holds p x n m

        own_single : q ≡ p → Single (holds q) idle (L.set s.workers w x)
        own_single d = record {
          place = w;
          below = above hw;
          passes = subst (λ (k : ℕ). holds k (worker stored w) ≡ true) (sym d)
              (subst (λ (k : Worker). holds p k ≡ true) (sym worker_here) (taken y (sym mark_here ∙ ap (mark (marks_of stored)) (sym d) ∙ e)));
          alone = λ j l f. pick j l (only q j f);
        }
          where
            pick : (j : ℕ) → j < length (L.set s.workers w x) → ((j ≡ w) × (q ≡ p)) ⊎ ((j ≢ w) × (holds q (worker s j) ≡ true)) → j ≡ w
            pick j l (inl k) = k.0
            pick j l (inr k) = absurd (free j k.0 (below l) (subst (λ (k : ℕ). holds k (worker s j) ≡ true) d k.1))

        other_single : (q ≢ p) → Single (holds q) idle s.workers → Single (holds q) idle (L.set s.workers w x)
        other_single d i =
            let away : i.place ≢ w = λ f. d (own q (subst (λ (k : ℕ). holds q (worker s k) ≡ true) f i.passes)) in
            record {
              place = i.place;
              below = above (subst (λ (k : ℕ). i.place < k) h.stated.workers i.below);
              passes = subst (λ (k : Worker). holds q k ≡ true) (sym (worker_there i.place away)) i.passes;
              alone = λ j l f. pick j l (only q j f);
            }
          where
            pick : (j : ℕ) → j < length (L.set s.workers w x) → ((j ≡ w) × (q ≡ p)) ⊎ ((j ≢ w) × (holds q (worker s j) ≡ true)) → j ≡ i.place
            pick j l (inl k) = absurd (d k.1)
            pick j l (inr k) = i.alone j (old_below (below l)) k.1

        go : (q ≡ p) ⊎ (q ≢ p) → Single (holds q) idle (L.set s.workers w x)
        go (inl d) = own_single d
        go (inr d) = other_single d (h.holder q hq (sym (mark_there q d) ∙ e))

    held_kept : (u : ℕ) → u < z.workers → (worker stored u).busy ≡ true → AtWork z stored u
    held_kept u hu e = go (same_or_not u w)
      where
        here : Suits z p v x → x.busy ≡ true → AtWork z stored w
        here (rests n m) f = never f n
        here (works n m k c) f = record {
          task = subst (λ (a : Worker). a.task < count z) (sym worker_here) (subst (λ (a : ℕ). a < count z) (sym m) hp);
          mark = ap (λ (a : Worker). mark (marks_of stored) a.task) worker_here ∙ ap (mark (marks_of stored)) m ∙ mark_here ∙ k;
          column = subst (λ (a : Worker). a.column < z.side) (sym worker_here) c;
        }

        there : (u ≢ w) → AtWork z s u → (worker s u).busy ≡ true → AtWork z stored u
        there d a f =
            let n : (worker s u).task ≢ p = λ g. free u d hu (busy_holds p (worker s u) f g) in
            record {
              task = subst (λ (k : Worker). k.task < count z) (sym (worker_there u d)) a.task;
              mark = ap (λ (k : Worker). mark (marks_of stored) k.task) (worker_there u d) ∙ mark_there (worker s u).task n ∙ a.mark;
              column = subst (λ (k : Worker). k.column < z.side) (sym (worker_there u d)) a.column;
            }

        go : (u ≡ w) ⊎ (u ≢ w) → AtWork z stored u
        go (inl d) = subst (AtWork z stored) (sym d) (here y (ap (λ (k : Worker). k.busy) (sym worker_here ∙ ap (worker stored) (sym d)) ∙ e))
        go (inr d) = let f : (worker s u).busy ≡ true = ap (λ (k : Worker). k.busy) (sym (worker_there u d)) ∙ e in there d (h.held u hu f) f

    -- ---- the tie sums

    -- the worker that holds p holds its next column
    next_here : v ≡ 1 → next_column stored p ≡ x.column
    next_here e =
        next_of stored p w (above hw) (held_new y) (single_kept (holds p) idle stored.workers (holder_kept p hp (mark_here ∙ e)))
        ∙ ap (λ (a : Worker). a.column) worker_here
      where
        held_new : Suits z p v x → holds p (worker stored w) ≡ true
        held_new (rests n m) = absurd (m e)
        held_new (works n m k c) = subst (λ (a : Worker). holds p a ≡ true) (sym worker_here) (busy_holds p x n m)

    next_there : (q : ℕ) → (q ≡ p → ⊥) → next_column stored q ≡ next_column s q
    unfolding next_column worker
    next_there q d =
        let a = total_set (column_in q) s.workers w x idle (old_below hw) in
        let f : column_in q (get_or s.workers w idle) ≡ 0 = not_in q (get_or s.workers w idle) (false_if _ (λ e. d (own q e))) in
        let g : column_in q x ≡ 0 = not_in q x (false_if _ (λ e. d (mine y e))) in
        omega (arith, a, f, g, next_total q s.workers, next_total q (L.set s.workers w x))
      where
        mine : Suits z p v x → holds q x ≡ true → q ≡ p
        mine (rests n m) f = never (holds_busy q x f) n
        mine (works n m k c) f = sym (holds_task q x f) ∙ m

    -- a limit by the mark and the next column
    module _ (f : ℕ → ℕ → ℕ) (other : (m c d : ℕ) → (m ≡ 1 → ⊥) → f m c ≡ f m d) where
      limit_here : f v x.column ≡ f (mark (marks_of stored) p) (next_column stored p)
      limit_here = go (same_or_not v 1)
        where
          go : (v ≡ 1) ⊎ (v ≢ 1) → f v x.column ≡ f (mark (marks_of stored) p) (next_column stored p)
          go (inl e) = λ i. f (sym mark_here i) (sym (next_here e) i)
          go (inr n) = other v x.column (next_column stored p) n ∙ (λ i. f (sym mark_here i) (next_column stored p))

      limit_there : (q : ℕ) → q ≢ p → f (mark (marks_of s) q) (next_column s q) ≡ f (mark (marks_of stored) q) (next_column stored q)
      limit_there q d = λ i. f (sym (mark_there q d) i) (sym (next_there q d) i)

    sums_kept : new.ties ≤ limit_for z.side v x.column → (q : ℕ) → q < count z
        → (get_or (L.set s.records p new) q none).ties ≤ tie_limit (plan_of z) stored q
    unfolding tie_limit plan limit_for
    sums_kept l q hq = go (same_or_not q p)
      where
        go : (q ≡ p) ⊎ (q ≢ p) → (get_or (L.set s.records p new) q none).ties ≤ tie_limit (plan_of z) stored q
        go (inl e) = subst (λ (k : ℕ). (get_or (L.set s.records p new) k none).ties ≤ tie_limit (plan_of z) stored k) (sym e)
            (subst (λ (r : TaskRecord). r.ties ≤ tie_limit (plan_of z) stored p) (sym record_here)
            (subst (λ (k : ℕ). new.ties ≤ k) (limit_here (limit_for z.side) (limit_other z.side)) l))
        go (inr d) = subst (λ (r : TaskRecord). r.ties ≤ tie_limit (plan_of z) stored q) (sym (record_there q d))
            (subst (λ (k : ℕ). (get_or s.records q none).ties ≤ k) (limit_there (limit_for z.side) (limit_other z.side) q d) (h.sums q hq))

    -- ---- the calls

    calls_kept : CallsFit new (suc s.number) z.workers → (q : ℕ) → q < count z → CallsFit (get_or (L.set s.records p new) q none) (suc s.number) z.workers
    calls_kept l q hq = go (same_or_not q p)
      where
        go : (q ≡ p) ⊎ (q ≢ p) → CallsFit (get_or (L.set s.records p new) q none) (suc s.number) z.workers
        go (inl e) = subst (λ (k : ℕ). CallsFit (get_or (L.set s.records p new) k none) (suc s.number) z.workers) (sym e)
            (subst (λ (r : TaskRecord). CallsFit r (suc s.number) z.workers) (sym record_here) l)
        go (inr d) =
            let a = h.calls q hq in
            subst (λ (r : TaskRecord). CallsFit r (suc s.number) z.workers) (sym (record_there q d))
            (record { took_most = omega (arith, a.took_most); ended_most = omega (arith, a.ended_most); worker_below = a.worker_below })

    number_kept : suc (call_limit (plan_of z) s p) ≤ calls_for z.side v x.column → suc s.number ≤ total (map (call_limit (plan_of z) stored) (ML.below (count z)))
    unfolding call_limit plan calls_for
    number_kept l =
        let here = limit_here (calls_for z.side) (calls_other z.side) in
        let a = total_grows (call_limit (plan_of z) s) (call_limit (plan_of z) stored) p (count z) hp (limit_there (calls_for z.side) (calls_other z.side))
        (subst (λ (k : ℕ). suc (call_limit (plan_of z) s p) ≤ k) here l) in
        omega (arith, a, h.number)

    pub stored_whole : Due (task (tasks z.tiles) p) new → new.ties ≤ limit_for z.side v x.column → CallsFit new (suc s.number) z.workers
        → suc (call_limit (plan_of z) s p) ≤ calls_for z.side v x.column → Stated z stored
        → Rows z.tiles z.side (view z.tiles z.side b) → Tiles z.tiles z.side (view z.tiles z.side b) → Whole z stored
    stored_whole d l c n g r f = record {
      fit = h.fit;
      stated = g;
      records = records_kept d;
      sums = sums_kept l;
      calls = calls_kept c;
      number = number_kept n;
      holder = holder_kept;
      held = held_kept;
      rows = r;
      tiles = f;
    }
