-- What a run asks of what is lent: sizes and lengths as told, records as numbered, workers and marks that fit, list entries in range and
-- finite tiles. An opening leaves it so.
-- Assumes nothing.
use Prim.Native.Nat.{ℕ, zero, suc, ◌+◌, ◌*◌, ◌≤◌, ◌<◌}
use mathlib.Core.Bool.{true, false, ◌&&◌}
use mathlib.Core.Path.{◌≡◌, refl, sym, ap, ◌∙◌, subst}
use mathlib.Core.List.{List, [], ◌∷◌, map}
use native.Mathlib.Omega.{arith}
use lib.Dec.{eqb}
use lib.Ieee.{Float}
use lib.ListN.{length, get_or, replicate, take, drop, get_or-map}
use borrow.Author.Tests.{eqb-true, leb-true, not-false}
use Rattle.model.specs.declared.Sizes.{Sizes}
use Rattle.model.specs.declared.TaskRecord.{TaskRecord}
use Rattle.model.specs.Lists.{every, below, total}
use Rattle.model.specs.Num.{finite}
use Rattle.model.specs.Tile.{all_finite}
use Rattle.model.specs.Task.{Task, t_1, tasks}
use Rattle.model.specs.Plan.{plan, plan_of}
use Rattle.model.specs.Links.{task, mark}
use Rattle.model.specs.Buffer.{Buffers, tile_of, tile, rows_of, rows}
use Rattle.model.specs.Loops.{start}
use Rattle.model.specs.Calls.{Lent, marks_of, record_of, worker, opened}
use Rattle.worker.specs.Holding.{idle}
use Rattle.model.specs.Refusal.{inside, bad_sizes, holds, tie_limit, call_limit}
use Rattle.laws.proofs.Tests.{never, and_left, and_right}
use Rattle.run_laws.proofs.Undamaged.{Due, CallsFit}
use Rattle.cells.specs.Cells.{view, list_at}
use Rattle.laws.proofs.Every.{every_take, every_drop}
use Rattle.cells.proofs.Elements.{get_or_same}
use Rattle.demand.proofs.Single.{Single}
use Rattle.cells.proofs.View.{tile_cell, rows_cell}
use Rattle.cells.proofs.Kept.{Tiles, Rows}
use Rattle.cells.proofs.Marks.{opened_marks}
use Rattle.cells.proofs.Machine.{count, Stated, opened_stated}

-- worker w is at work on task p: the task exists and is taken, and a column of it is next
pub record AtWork (z : Sizes) (s : Lent) (w : ℕ) : Type 0 where
  pub task : (worker s w).task < count z
  pub mark : mark (marks_of s) (worker s w).task ≡ 1
  pub column : (worker s w).column < z.side

pub record Whole (z : Sizes) (s : Lent) : Type 0 where
  pub fit : bad_sizes z ≡ false
  pub stated : Stated z s
  pub records : (p : ℕ) → p < count z → Due (task (tasks z.tiles) p) (get_or s.records p (record_of (t_1 0)))
  -- a tie sum is within its limit
  pub sums : (p : ℕ) → p < count z → (get_or s.records p (record_of (t_1 0))).ties ≤ tie_limit (plan_of z) s p
  -- call numbers are at most the run's, finishing workers are among those lent, and the run's number is within its limit
  pub calls : (p : ℕ) → p < count z → CallsFit (get_or s.records p (record_of (t_1 0))) s.number z.workers
  pub number : s.number ≤ total (map (call_limit (plan_of z) s) (below (count z)))
  -- a taken task is held by one worker, and a busy worker is at work
  pub holder : (p : ℕ) → p < count z → mark (marks_of s) p ≡ 1 → Single (holds p) idle s.workers
  pub held : (w : ℕ) → w < z.workers → (worker s w).busy ≡ true → AtWork z s w
  pub rows : Rows z.tiles z.side (view z.tiles z.side s.buffers)
  pub tiles : Tiles z.tiles z.side (view z.tiles z.side s.buffers)

-- ---- sizes in range

pub record InRange (z : Sizes) : Type 0 where
  pub some_tiles : 1 ≤ z.tiles
  pub some_side : 1 ≤ z.side
  pub some_workers : 1 ≤ z.workers

pub in_range : (z : Sizes) → bad_sizes z ≡ false → InRange z
unfolding bad_sizes inside
in_range z e =
    let n = inside 16 z.tiles in
    let t = inside 16 z.side in
    let w = inside 32 z.workers in
    let a = not-false (n && t && w) e in
    let b = and_left (n && t) w a in
    record {
      some_tiles = leb-true 1 z.tiles (and_left _ _ (and_left n t b));
      some_side = leb-true 1 z.side (and_left _ _ (and_right n t b));
      some_workers = leb-true 1 z.workers (and_left _ _ (and_right (n && t) w a));
    }

-- ---- marks and records

pub mark_at : (s : Lent) (p : ℕ) → mark (marks_of s) p ≡ (get_or s.records p (record_of (t_1 0))).mark
unfolding mark marks_of record_of
mark_at s p = get_or-map (λ r. r.mark) s.records p (record_of (t_1 0))

pub mark_most : (z : Sizes) (s : Lent) → Whole z s → (p : ℕ) → p < count z → mark (marks_of s) p ≤ 4
mark_most z s h p l = subst (λ (k : ℕ). k ≤ 4) (sym (mark_at s p)) (h.records p l).mark_most

-- ---- opening

opened_records : (ts : List Task) (p : ℕ) → p < length ts → Due (task ts p) (get_or (map record_of ts) p (record_of (t_1 0)))
unfolding record_of task
opened_records [] p h = absurd (omega arith)
opened_records (a ∷ ts) zero h = record { kind_is = refl; k_is = refl; i_is = refl; j_is = refl; mark_most = omega arith }
opened_records (a ∷ ts) (suc p) h = opened_records ts p (omega arith)

-- what a record has that no call has been about
pub record Untouched (r : TaskRecord) : Type 0 where
  pub no_ties : r.ties ≡ 0
  pub no_take : r.took ≡ 0
  pub no_end : r.ended ≡ 0
  pub no_worker_lem : r.worker ≡ 0

pub opened_untouched : (ts : List Task) (p : ℕ) → Untouched (get_or (map record_of ts) p (record_of (t_1 0)))
unfolding record_of
opened_untouched [] p = record { no_ties = refl; no_take = refl; no_end = refl; no_worker_lem = refl }
opened_untouched (a ∷ ts) zero = record { no_ties = refl; no_take = refl; no_end = refl; no_worker_lem = refl }
opened_untouched (a ∷ ts) (suc p) = opened_untouched ts p

zeros_zero : (n : ℕ) → every (λ x. eqb x 0) (replicate n 0) ≡ true
unfolding every
zeros_zero zero = refl
zeros_zero (suc n) = zeros_zero n

zero_list : (xs : List ℕ) → every (λ x. eqb x 0) xs ≡ true → (e : ℕ) → ◌≡◌ {A = ℕ} (get_or xs e 0) 0
unfolding every
zero_list [] h e = refl
zero_list (x ∷ xs) h zero = eqb-true x 0 (and_left (eqb x 0) (every (λ y. eqb y 0) xs) h)
zero_list (x ∷ xs) h (suc e) = zero_list xs (and_right (eqb x 0) (every (λ y. eqb y 0) xs) h) e

module _ (N t : ℕ) where
  zero_rows_lem : (m : List Float) (i j e : ℕ) → ◌≡◌ {A = ℕ} (get_or (view N t (record { matrix = m; lists = replicate (N * N * t) 0 }) (list_at N i j)).bytes e 0) 0
  unfolding rows_of rows plan
  zero_rows_lem m i j e =
      ap (λ l. get_or l e 0) (rows_cell N t (record { matrix = m; lists = replicate (N * N * t) 0 }) i j)
      ∙ zero_list (take t (drop ((i * N + j) * t) (replicate (N * N * t) 0)))
      (every_take (λ x. eqb x 0) t (drop ((i * N + j) * t) (replicate (N * N * t) 0))
      (every_drop (λ x. eqb x 0) ((i * N + j) * t) (replicate (N * N * t) 0) (zeros_zero (N * N * t)))) e

  -- tiles of a finite matrix
  pub tiles_finite : (b : Buffers) → all_finite b.matrix ≡ true → Tiles N t (view N t b)
  unfolding tile_of tile plan all_finite
  tiles_finite b f i j hi hj = subst (λ a. every finite a ≡ true) (sym (tile_cell N t b i j hi hj))
      (every_take finite (t * t) (drop ((i * N + j) * (t * t)) b.matrix) (every_drop finite ((i * N + j) * (t * t)) b.matrix f))

pub opened_whole : (z : Sizes) (m : List Float) → bad_sizes z ≡ false → length m ≡ z.tiles * z.tiles * (z.side * z.side) → all_finite m ≡ true
    → Whole z (opened (plan_of z) z.workers m)
unfolding opened plan start marks_of worker
opened_whole z m fit hm f = record {
  fit = fit;
  stated = unfold opened plan start in opened_stated z m hm;
  records = opened_records (tasks z.tiles);
  sums = λ p l. omega (arith, (opened_untouched (tasks z.tiles) p).no_ties);
  calls = λ p l.
      let r = opened_untouched (tasks z.tiles) p in
      record {
        took_most = omega (arith, r.no_take);
        ended_most = omega (arith, r.no_end);
        worker_below = omega (arith, r.no_worker_lem, (in_range z fit).some_workers);
      };
  number = omega arith;
  holder = λ p h e. let q : ◌≡◌ {A = ℕ} 0 1 = sym (opened_marks (tasks z.tiles) p) ∙ e in absurd (omega arith);
  held = λ w h e. never e (ap (λ x. x.busy) (get_or_same z.workers w idle));
  rows = λ i j hi hj e. omega (arith, zero_rows_lem z.tiles z.side m i j e);
  tiles = tiles_finite z.tiles z.side _ f;
}
