-- What accepted takes and columns do to what is lent is what order_free's machine does.
-- Assumes nothing.
use Prim.Native.Nat.{ℕ, zero, suc, ◌+◌, ◌*◌, ◌≤◌, ◌<◌}
use mathlib.Core.Bool.{Bool, true, false, cond, ◌&&◌}
use mathlib.Core.Path.{◌≡◌, refl, sym, ap, ◌∙◌, subst, fun_ext}
use mathlib.Core.Logic.{◌⊎◌, inl, inr, ◌≢◌}
use mathlib.Core.List.{List, map}
use native.Mathlib.Omega.{arith}
use lib.Dec.{eqb}
use lib.Ieee.{Float}
use lib.ListN.{length, get_or, length-set, length-map, length-replicate}
use lib.ListN as L
use lib.Seq.{get_or-set_same, get_or-set_other}
use Rattle.model.specs.declared.Sizes.{Sizes}
use Rattle.model.specs.declared.TaskRecord.{TaskRecord}
use Rattle.worker.specs.declared.Worker as MW
use Rattle.model.specs.Task.{t_1, tasks}
use Rattle.model.specs.Plan.{plan, plan_of}
use Rattle.model.specs.Links.{task, mark}
use Rattle.model.specs.Links as ML
use Rattle.model.specs.Buffer.{sound, column_ends}
use Rattle.model.specs.Loops.{start}
use Rattle.model.specs.Calls.{Lent, marks_of, record_of, with_take, with_column, changed, worker, opened, took, column_of, advanced}
use Rattle.worker.specs.Holding.{holding}
use Rattle.worker.specs.Holding as MH
use Rattle.order_free.specs.Below.{set}
use Rattle.order_free.specs.System.{System}
use Rattle.order_free.specs.Graph.{Mark, spoils}
use Rattle.order_free.specs.Graph as G
use Rattle.order_free.specs.Machine.{Worker, idle, busy, State, take, column, next, perform, advance, effect}
use Rattle.order_free.specs.Machine as OM
use Rattle.order_free.specs.Sums.{Gain, gained, credit, summed}
use Rattle.order_free.proofs.Tests.{set_here, set_there}
use Rattle.laws.proofs.Tests.{same_or_not}
use Rattle.cells.specs.Cells.{Val, view, system, ties}
use Rattle.cells.proofs.Elements.{map_set, get_or_same}
use Rattle.cells.proofs.Valid.{tasks_valid}
use Rattle.cells.proofs.View.{Sized, Same}
use Rattle.cells.proofs.Columns.{worked_same, filled_same, sound_same, ties_same}
use Rattle.cells.proofs.Marks.{to_mark, big, marks_set, opened_marks}
use Rattle.cells.proofs.Spoils.{spoils_is}
use Rattle.cells.proofs.Loops.{Ends, either_ends, either_ties, σ₀, start_same}

-- ---- what is lent, as the machine's state

-- the system of all tasks, and how many they are
abbrev pub S : Sizes → System
S z = system z.tiles z.side (tasks z.tiles)

abbrev pub count : Sizes → ℕ
count z = length (tasks z.tiles)

abbrev pub worker_of : MW.Worker → Worker
worker_of h = cond h.busy (busy h.task h.column) idle

pub busy_of : (h : MW.Worker) → h.busy ≡ true → worker_of h ≡ busy h.task h.column
busy_of h e = rw e

unfoldable pub abs : (z : Sizes) → Lent → State (S z)
abs z s = record {
  cells = view z.tiles z.side s.buffers;
  marks = λ p. to_mark (mark (marks_of s) p);
  workers = λ w. worker_of (worker s w);
}

-- what is lent has the lengths that the sizes ask for
pub record Stated (z : Sizes) (s : Lent) : Type 0 where
  pub sized : Sized z.tiles z.side s.buffers
  pub records : length s.records ≡ count z
  pub workers : length s.workers ≡ z.workers

pub length_marks : (z : Sizes) (s : Lent) → Stated z s → length (marks_of s) ≡ count z
unfolding marks_of
length_marks z s g = length-map s.records (λ r. r.mark) ∙ g.records

-- the list read as a function, after a store
list_view : {A B : Type 0} (f : A → B) (d : A) (l : List A) (i : ℕ) (v : A) → i < length l
    → (λ (j : ℕ). f (get_or (L.set l i v) j d)) ≡ set (λ (j : ℕ). f (get_or l j d)) i (f v)
list_view {A} {B} f d l i v h = fun_ext (λ j. go j (same_or_not i j))
  where
    go : (j : ℕ) → (i ≡ j) ⊎ (i ≢ j) → f (get_or (L.set l i v) j d) ≡ set (λ (j : ℕ). f (get_or l j d)) i (f v) j
    go j (inl e) = rw (← e) (ap f (get_or-set_same l i v d h) ∙ sym (set_here (λ (j : ℕ). f (get_or l j d)) i (f v)))
    go j (inr e) = ap f (get_or-set_other l i j v d (λ q. e (sym q))) ∙ sym (set_there (λ (j : ℕ). f (get_or l j d)) i (f v) j e)

module _ (z : Sizes) where
  abbrev marks_fn : Lent → ℕ → Mark
  marks_fn s q = to_mark (mark (marks_of s) q)

  abbrev pub record_at : Lent → ℕ → TaskRecord
  record_at s p = get_or s.records p (record_of (t_1 0))

  -- the tie sums, by task
  abbrev pub sums_fn : Lent → ℕ → ℕ
  sums_fn s p = (record_at s p).ties

  -- task p's record is changed by f: the marks, and the sums
  changed_view : (s : Lent) → Stated z s → (p : ℕ) (f : TaskRecord → TaskRecord) → p < count z
      → (λ (q : ℕ). to_mark (mark (map (λ r. r.mark) (changed p f s.records)) q)) ≡ set (marks_fn s) p (to_mark (f (record_at s p)).mark)
  unfolding changed marks_of
  changed_view s g p f h =
      ap (λ (ms : List ℕ). λ (q : ℕ). to_mark (mark ms q)) (map_set (λ r. r.mark) s.records p (f (record_at s p)))
      ∙ marks_set (marks_of s) p (f (record_at s p)).mark (subst (λ (k : ℕ). p < k) (sym (length_marks z s g)) h)

  changed_sums : (s : Lent) → Stated z s → (p : ℕ) (f : TaskRecord → TaskRecord) → p < count z
      → (λ (q : ℕ). (get_or (changed p f s.records) q (record_of (t_1 0))).ties) ≡ set (sums_fn s) p (f (record_at s p)).ties
  unfolding changed
  changed_sums s g p f h = list_view (λ (r : TaskRecord). r.ties) (record_of (t_1 0)) s.records p (f (record_at s p)) (subst (λ (k : ℕ). p < k) (sym g.records) h)

  length_changed : (s : Lent) → Stated z s → (p : ℕ) (f : TaskRecord → TaskRecord) → length (changed p f s.records) ≡ count z
  unfolding changed
  length_changed s g p f = length-set s.records p _ ∙ g.records

  -- the ties as order_free's gain
  abbrev pub tie_gain : Gain (S z)
  tie_gain = ties z.tiles z.side (tasks z.tiles)

  -- ---- take

  pub took_stated : (s : Lent) → Stated z s → (w p : ℕ) → Stated z (took (plan_of z) w p s)
  unfolding took
  took_stated s g w p = record { sized = g.sized; records = length_changed s g p _; workers = length-set s.workers w (holding p 0) ∙ g.workers }

  pub took_is : (s : Lent) → Stated z s → (w p : ℕ) → w < z.workers → p < count z → abs z (took (plan_of z) w p s) ≡ effect (S z) (take w p) (abs z s)
  unfolding abs took effect marks_of worker with_take
  took_is s g w p h l = λ i. record {
    cells = view z.tiles z.side s.buffers;
    marks = changed_view s g p (with_take (suc s.number)) l i;
    workers = list_view worker_of MH.idle s.workers w (holding p 0) (subst (λ (k : ℕ). w < k) (sym g.workers) h) i;
  }

  -- a take changes no sum
  pub took_sums : (s : Lent) → Stated z s → (w p : ℕ) → p < count z → sums_fn (took (plan_of z) w p s) ≡ summed (S z) tie_gain (take w p) (abs z s) (sums_fn s)
  unfolding took summed with_take
  took_sums s g w p h = changed_sums s g p (with_take (suc s.number)) h ∙ fun_ext (λ q. go q (same_or_not p q))
    where
      go : (q : ℕ) → (p ≡ q) ⊎ (p ≢ q) → set (sums_fn s) p (sums_fn s p) q ≡ sums_fn s q
      go q (inl e) = rw (← e) (set_here (sums_fn s) p (sums_fn s p))
      go q (inr d) = set_there (sums_fn s) p (sums_fn s p) q d

  -- ---- column

  goes_on : (b : Bool) → (to_mark (cond b 2 1) ≡ cond b G.done G.taken) × (1 ≤ cond b 2 1) × (cond b 2 1 ≤ 4)
  goes_on true = (refl, omega arith, omega arith)
  goes_on false = (refl, omega arith, omega arith)

  pub column_ends_lem : (s : Lent) → Stated z s → (p c : ℕ) → p < count z
      → Ends z.tiles z.side (tasks z.tiles) (column_of (plan_of z) s p c)
      (perform (S z) p c (marks_fn s) (view z.tiles z.side s.buffers))
  unfolding column_of column_ends perform plan
  column_ends_lem s g p c h =
      let N = z.tiles in
      let t = z.side in
      let ts = tasks N in
      let va = tasks_valid N in
      let σ : ℕ → Val = view N t s.buffers in
      let w : Same N t s.buffers σ = (g.sized, refl) in
      let w' = worked_same N t ts va p h s.buffers σ w c in
      let on = goes_on (eqb (suc c) t) in
      either_ends N t ts (eqb c 0 && ML.spoils ts (marks_of s) p) (eqb c 0 && spoils (S z) (marks_fn s) p)
      (ap (λ (b : Bool). eqb c 0 && b) (sym (spoils_is N t ts va (marks_of s) p h)))
      _ _ (record { cells = (S z).fill p σ; mark = G.spoiled }) _
      (record { left = filled_same N t ts va p h _ _ w; mark = refl; begun = omega arith; most = omega arith })
      (either_ends N t ts (sound (plan N t) (task ts p) c s.buffers) ((S z).ok p c σ) (sound_same N t ts va p h s.buffers σ w c)
      _ _ (record { cells = (S z).col p c σ; mark = cond (eqb (suc c) t) G.done G.taken }) (record { cells = (S z).fill p ((S z).col p c σ); mark = G.failed })
      (record { left = w'; mark = on.0; begun = on.1; most = on.2 })
      (record { left = filled_same N t ts va p h _ _ w'; mark = refl; begun = omega arith; most = omega arith }))

  -- its ties
  column_ties_lem : (s : Lent) → Stated z s → (p c : ℕ) → p < count z
      → (column_of (plan_of z) s p c).ties ≡ gained (S z) tie_gain p c (marks_fn s) (view z.tiles z.side s.buffers)
  unfolding column_of column_ends gained plan
  column_ties_lem s g p c h =
      let N = z.tiles in
      let t = z.side in
      let ts = tasks N in
      let va = tasks_valid N in
      let σ : ℕ → Val = view N t s.buffers in
      let w : Same N t s.buffers σ = (g.sized, refl) in
      either_ties N t ts (eqb c 0 && ML.spoils ts (marks_of s) p) (eqb c 0 && spoils (S z) (marks_fn s) p)
      (ap (λ (b : Bool). eqb c 0 && b) (sym (spoils_is N t ts va (marks_of s) p h))) _ _ 0 _ refl
      (either_ties N t ts (sound (plan N t) (task ts p) c s.buffers) ((S z).ok p c σ) (sound_same N t ts va p h s.buffers σ w c) _ _ _ 0
      (ties_same N t ts va p h s.buffers σ w c) refl)

  -- the worker stays with its task or is freed alike
  worker_next : (m p c : ℕ) → 1 ≤ m → worker_of (cond (ML.finished m) MH.idle (holding p (suc c))) ≡ next (to_mark m) p c
  unfolding ML.finished
  worker_next zero p c h = absurd (omega arith)
  worker_next (suc zero) p c h = refl
  worker_next (suc (suc zero)) p c h = refl
  worker_next (suc (suc (suc zero))) p c h = refl
  worker_next (suc (suc (suc (suc zero)))) p c h = refl
  worker_next (suc (suc (suc (suc (suc n))))) p c h = rw (big n 2 (omega arith), big n 3 (omega arith), big n 4 (omega arith)) refl

  module _ (s : Lent) (g : Stated z s) (w : ℕ) (hp : (worker s w).task < count z) where
    pub advanced_stated : Stated z (advanced (plan_of z) w s)
    unfolding advanced
    advanced_stated =
        let en = column_ends_lem s g (worker s w).task (worker s w).column hp in
        record { sized = en.left.0; records = length_changed s g _ _; workers = length-set s.workers w _ ∙ g.workers }

    pub advanced_is : w < z.workers → (worker s w).busy ≡ true → abs z (advanced (plan_of z) w s) ≡ effect (S z) (column w) (abs z s)
    unfolding abs advanced effect advance marks_of worker with_column
    advanced_is hw hb =
        let q = (worker s w).task in
        let d = (worker s w).column in
        let e = column_of (plan_of z) s q d in
        let en = column_ends_lem s g q d hp in
        let x : abs z (advanced (plan_of z) w s) ≡ advance (S z) w (busy q d) (abs z s) = unfold abs advanced advance marks_of worker with_column in (λ i. record {
          cells = en.left.1 i;
          marks = (changed_view s g q (with_column w (suc s.number) e.mark e.ties) hp ∙ (λ k. set (marks_fn s) q (en.mark k))) i;
          workers = (list_view worker_of MH.idle s.workers w (cond (ML.finished e.mark) MH.idle (holding q (suc d)))
              (subst (λ (k : ℕ). w < k) (sym g.workers) hw)
              ∙ ap (λ (y : Worker). set (λ (j : ℕ). worker_of (get_or s.workers j MH.idle)) w y)
              (worker_next e.mark q d en.begun ∙ (λ k. next (en.mark k) q d))) i;
        }) in
        x ∙ ap (λ (y : Worker). advance (S z) w y (abs z s)) (sym (busy_of (worker s w) hb))

    -- the sums are those that the machine's column leaves
    pub advanced_sums : (worker s w).busy ≡ true → sums_fn (advanced (plan_of z) w s) ≡ summed (S z) tie_gain (column w) (abs z s) (sums_fn s)
    unfolding abs advanced summed credit with_column
    advanced_sums hb =
        let q = (worker s w).task in
        let d = (worker s w).column in
        let e = column_of (plan_of z) s q d in
        let x : sums_fn (advanced (plan_of z) w s) ≡ credit (S z) tie_gain (busy q d) (abs z s) (sums_fn s) = unfold abs advanced credit with_column in
        (changed_sums s g q (with_column w (suc s.number) e.mark e.ties) hp ∙ (λ i. set (sums_fn s) q (sums_fn s q + column_ties_lem s g q d hp i))) in
        x ∙ ap (λ (y : Worker). credit (S z) tie_gain y (abs z s) (sums_fn s)) (sym (busy_of (worker s w) hb))

  -- ---- opening

  module _ (m : List Float) (hm : length m ≡ z.tiles * z.tiles * (z.side * z.side)) where
    pub opened_stated : Stated z (opened (plan_of z) z.workers m)
    unfolding opened plan
    opened_stated = record {
      sized = (start_same z.tiles z.side m hm).0;
      records = length-map (tasks z.tiles) record_of;
      workers = length-replicate
          z.workers MH.idle;
    }

    pub opened_is : abs z (opened (plan_of z) z.workers m) ≡ OM.start (S z) (σ₀ z.tiles z.side m)
    unfolding abs opened plan OM.start σ₀ marks_of worker
    opened_is = λ i. record {
      cells = view z.tiles z.side (start (plan_of z) m).buffers;
      marks = λ p. to_mark (opened_marks (tasks z.tiles) p i);
      workers = λ w. worker_of (get_or_same z.workers w MH.idle i);
    }
