-- The order of the numbers is the order of the triples, and every number below the count is the number of one triple.
-- Assumes nothing.
use Prim.Native.Nat.{ℕ, zero, suc, ◌+◌, ◌-◌, ◌*◌, ◌/◌, ◌%◌, ◌≤◌, ◌<◌}
use mathlib.Core.Bool.{true, false, cond}
use mathlib.Core.Path.{◌≡◌, refl, sym, ap, ◌∙◌}
use mathlib.Core.Logic.{◌⊎◌, inl, inr, ◌≢◌}
use native.Mathlib.Nat.{mul-le-mul_right, div-add-mod', mod-lt, div-lt_iff_lt-mul}
use native.Mathlib.Omega.{arith}
use lib.Dec.{ltb}
use lib.ListN.{length}
use borrow.Author.Tests.{ltb-true, ltb-false}
use Rattle.model.specs.Task.{Task, t_1, t_2, t_3, t_4, tasks, task_count}
use Rattle.model.specs.Links.{task}
use Rattle.links.specs.Closed.{Key, key, In, task_at, key_of, offset, squares, number, key_from, key_at, Before, by_stage, by_row, by_column}
use Rattle.laws.proofs.Blocks.{in_block}
use Rattle.laws.proofs.Tests.{true_or_false, same_or_not, Order, less, equal, more, order}
use Rattle.links.proofs.Numbering.{same_key, Kind, is_T_1, is_T_2, is_T_3, is_T_4, kind, key_of_task, task_is, count}

-- ---- the order of the numbers is the order of the triples

module _ (N : ℕ) where
  offset_mono : (k l : ℕ) → k ≤ l → offset N k ≤ offset N l
  unfolding offset
  offset_mono k zero h = let e : k ≡ 0 = omega arith in rw e (omega arith)
  offset_mono k (suc l) h = go (offset_mono k l) (same_or_not k (suc l))
    where
      go : (k ≤ l → offset N k ≤ offset N l) → (k ≡ suc l) ⊎ (k ≢ suc l) → offset N k ≤ offset N (suc l)
      go ih (inl e) = rw e (omega arith)
      go ih (inr e) = omega (arith, ih (omega arith))

  pub in_stage : (a : Key) → In N a → number N a < offset N (suc a.k)
  unfolding number offset
  in_stage a v = go (omega arith) (omega arith)
    where
      go : a.i - a.k < N - a.k → a.j - a.k < N - a.k → number N a < offset N (suc a.k)
      go hx hy = omega (arith, in_block (N - a.k) (N - a.k) (a.i - a.k) (a.j - a.k) hx hy)

  pub number_mono : (a b : Key) → In N a → In N b → Before a b → number N a < number N b
  unfolding number
  number_mono a b v w (by_stage h) = omega (arith, in_stage a v, offset_mono (suc a.k) b.k h)
  number_mono a b v w (by_row e h) =
      let up : suc (a.i - b.k) ≤ b.i - b.k = omega arith in
      let hy : a.j - b.k < N - b.k = omega arith in
      rw e (omega (arith, mul-le-mul_right (N - b.k) up))
  number_mono a b v w (by_column e f h) = let hy : a.j - b.k < b.j - b.k = omega arith in rw (e, f) (omega arith)

-- two triples stand one before the other, or are one
pub data Line (a b : Key) : Type 0 where
  ahead : Before a b → Line a b
  level : a ≡ b → Line a b
  behind : Before b a → Line a b

pub line : (a b : Key) → Line a b
line a b = stages (order a.k b.k) (order a.i b.i) (order a.j b.j)
  where
    columns : a.k ≡ b.k → a.i ≡ b.i → Order a.j b.j → Line a b
    columns e f (less h) = ahead (by_column e f h)
    columns e f (equal g) = level (same_key a b e f g)
    columns e f (more h) = behind (by_column (sym e) (sym f) h)

    rows' : a.k ≡ b.k → Order a.i b.i → Order a.j b.j → Line a b
    rows' e (less h) o = ahead (by_row e h)
    rows' e (equal f) o = columns e f o
    rows' e (more h) o = behind (by_row (sym e) h)

    stages : Order a.k b.k → Order a.i b.i → Order a.j b.j → Line a b
    stages (less h) o q = ahead (by_stage h)
    stages (equal e) o q = rows' e o q
    stages (more h) o q = behind (by_stage h)

module _ (N : ℕ) (a b : Key) (v : In N a) (w : In N b) where
  pub before_of_number : number N a < number N b → Before a b
  before_of_number h = go (line a b)
    where
      go : Line a b → Before a b
      go (ahead r) = r
      go (level e) = absurd (omega (arith, ap (number N) e))
      go (behind r) = absurd (omega (arith, number_mono N b a w v r))

  pub number_injective : number N a ≡ number N b → a ≡ b
  number_injective h = go (line a b)
    where
      go : Line a b → a ≡ b
      go (ahead r) = absurd (omega (arith, number_mono N a b v w r))
      go (level e) = e
      go (behind r) = absurd (omega (arith, number_mono N b a w v r))

-- ---- every number below the count is the number of a task

squares_suc : (m : ℕ) → squares (suc m) ≡ squares m + suc m * suc m
unfolding squares
squares_suc m = refl

module _ (N : ℕ) where
  pub offset_squares : (k : ℕ) → k ≤ N → offset N k + squares (N - k) ≡ squares N
  unfolding offset
  offset_squares zero h = let e : N - 0 ≡ N = omega arith in rw e (omega arith)
  offset_squares (suc k) h = go (N - suc k) (omega arith) (offset_squares k (omega arith))
    where
      go : (m : ℕ) → N - k ≡ suc m → offset N k + squares (N - k) ≡ squares N → offset N k + (N - k) * (N - k) + squares m ≡ squares N
      go m e ih = let r : offset N k + (squares m + suc m * suc m) ≡ squares N = rw (e, squares_suc m) at ih in rw e (omega arith)

pub six_squares : (N : ℕ) → 6 * squares N ≡ N * (N + 1) * (2 * N + 1)
unfolding squares
six_squares zero = refl
six_squares (suc N) = omega (arith, six_squares N)

pub count_is : (N : ℕ) → offset N N ≡ task_count N
unfolding task_count squares
count_is N = let z : N - N ≡ 0 = omega arith in omega (arith, six_squares N, rw z at (offset_squares N N (omega arith)))

pub offset_suc : (N k w : ℕ) → N - k ≡ w → offset N (suc k) ≡ offset N k + w * w
unfolding offset
offset_suc N k w e = rw e

pub number_at : (N k x y w : ℕ) → N - k ≡ w → number N (key k (k + x) (k + y)) ≡ offset N k + (x * w + y)
unfolding number
number_at N k x y w e = let a : k + x - k ≡ x = omega arith in let b : k + y - k ≡ y = omega arith in rw (a, b, e)

module _ (N : ℕ) where
  back_from : (m k p : ℕ) → k + m ≡ N → p < squares m → In N (key_from m k p) × (number N (key_from m k p) ≡ offset N k + p)
  unfolding key_from squares
  back_from zero k p e h = absurd (omega arith)
  back_from (suc m) k p e h = go (back_from m (suc k) (p - suc m * suc m) (omega arith)) (true_or_false (ltb p (suc m * suc m)))
    where
      here : ℕ → ℕ → Key
      here x y = key k (k + x) (k + y)

      inside : (x y : ℕ) → x < suc m → y < suc m → x * suc m + y ≡ p → In N (here x y) × (number N (here x y) ≡ offset N k + p)
      inside x y hx hy q = (record { row = omega arith; column = omega arith; row_fits = omega arith; column_fits = omega arith }, number_at N k x y (suc m) (omega arith) ∙ ap (λ (z : ℕ). offset N k + z) q)

      go : (p - suc m * suc m < squares m → In N (key_from m (suc k) (p - suc m * suc m)) × (number N (key_from m (suc k) (p - suc m * suc m)) ≡ offset N (suc k) + (p - suc m * suc m)))
          → (ltb p (suc m * suc m) ≡ true) ⊎ (ltb p (suc m * suc m) ≡ false)
          → In N (cond (ltb p (suc m * suc m)) (here (p / suc m) (p % suc m)) (key_from m (suc k) (p - suc m * suc m)))
          × (number N (cond (ltb p (suc m * suc m)) (here (p / suc m) (p % suc m)) (key_from m (suc k) (p - suc m * suc m))) ≡ offset N k + p)
      go ih (inl t) = rw t (inside (p / suc m) (p % suc m) ((div-lt_iff_lt-mul (omega arith)).1 (ltb-true p (suc m * suc m) t)) (mod-lt p (omega arith)) (div-add-mod' p (suc m)))
      go ih (inr t) =
          let l : suc m * suc m ≤ p = ltb-false p (suc m * suc m) t in
          let (v, q) = ih (omega arith) in
          rw t (v, omega (arith, q, offset_suc N k (suc m) (omega arith)))

  -- the number p is that of one task
  pub back : (p : ℕ) → p < task_count N → In N (key_at N p) × (number N (key_at N p) ≡ p)
  unfolding key_at offset
  back p h =
      let z : N - N ≡ 0 = omega arith in
      let e : offset N N ≡ task_count N = count_is N in
      let (v, q) = back_from N 0 p (omega arith) (omega (arith, offset_squares N N (omega arith))) in
      (v, omega (arith, q))

  pub number_fits : (a : Key) → In N a → number N a < task_count N
  number_fits a v = omega (arith, in_stage N a v, offset_mono N (suc a.k) N (omega arith), count_is N)

  pub forth : (a : Key) → In N a → key_at N (number N a) ≡ a
  forth a v = let (w, q) = back (number N a) (number_fits a v) in number_injective N (key_at N (number N a)) a w v q

  pub length_tasks : length (tasks N) ≡ task_count N
  length_tasks = count N ∙ count_is N

-- ---- task number p

-- the indices of the tasks of N by N tiles
pub data Within (N : ℕ) : Task → Type 0 where
  within_1 : (k : ℕ) → k < N → Within N (t_1 k)
  within_2 : (k j : ℕ) → k < j → j < N → Within N (t_2 k j)
  within_3 : (k i : ℕ) → k < i → i < N → Within N (t_3 k i)
  within_4 : (k i j : ℕ) → k < i → i < N → k < j → j < N → Within N (t_4 k i j)

within_kind : (N : ℕ) (a : Key) (t : Task) → In N a → Kind a t → Within N t
within_kind N a t v (is_T_1 e f) = within_1 a.k (omega arith)
within_kind N a t v (is_T_2 e f) = within_2 a.k a.j (omega arith) (omega arith)
within_kind N a t v (is_T_3 e f) = within_3 a.k a.i (omega arith) (omega arith)
within_kind N a t v (is_T_4 e f) = within_4 a.k a.i a.j (omega arith) (omega arith) (omega arith) (omega arith)

module _ (N p : ℕ) (h : p < task_count N) where
  pub task_at_lem : task (tasks N) p ≡ task_at (key_at N p)
  task_at_lem = let (v, q) = back N p h in rw q at (task_is N (key_at N p) v)

  pub key_at_lem : key_of (task (tasks N) p) ≡ key_at N p
  key_at_lem = ap key_of task_at_lem ∙ key_of_task (key_at N p)

  -- its indices are in range
  pub task_within : Within N (task (tasks N) p)
  task_within = let (v, q) = back N p h in rw task_at_lem (within_kind N (key_at N p) (task_at (key_at N p)) v (kind (key_at N p)))
