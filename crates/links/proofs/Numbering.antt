-- A stage of the numbering is a square of tasks, and the number of a triple in closed form is its task's place in the list of tasks.
-- Assumes nothing.
use Prim.Native.Nat.{ℕ, zero, suc, ◌+◌, ◌-◌, ◌*◌, ◌≤◌, ◌<◌}
use mathlib.Core.Path.{◌≡◌, refl, sym, ap, ◌∙◌}
use mathlib.Core.Logic.{◌⊎◌, inl, inr, ◌≢◌}
use mathlib.Core.List.{List, ◌∷◌, ◌++◌, map}
use native.Mathlib.Omega.{arith}
use lib.ListN.{length, get_or}
use borrow.Author.Tests.{eq-eqb, ne_eqb}
use Rattle.model.specs.Lists.{run, below, joined}
use Rattle.model.specs.Task.{Task, t_1, t_2, t_3, t_4, after, lower_row, stage, tasks}
use Rattle.model.specs.Links.{task}
use Rattle.laws.proofs.Blocks.{in_block}
use Rattle.laws.proofs.Runs.{length_map_run, get_or_map_run, map_run}
use Rattle.links.specs.Closed.{Key, key, In, task_at, key_of, offset, number}
use Rattle.laws.proofs.Tests.{same_or_not}
use Rattle.links.proofs.Rows.{rows, length_rows_suc, get_d_rows, length_rows}

-- ---- a task's triple

module _ (a : Key) where
  pub at_T_1 : a.i ≡ a.k → a.j ≡ a.k → task_at a ≡ t_1 a.k
  unfolding task_at
  at_T_1 e f = rw (eq-eqb a.i a.k e, eq-eqb a.j a.k f)

  pub at_T_2 : a.i ≡ a.k → a.j ≢ a.k → task_at a ≡ t_2 a.k a.j
  unfolding task_at
  at_T_2 e f = rw (eq-eqb a.i a.k e, ne_eqb a.j a.k f)

  pub at_T_3 : a.i ≢ a.k → a.j ≡ a.k → task_at a ≡ t_3 a.k a.i
  unfolding task_at
  at_T_3 e f = rw (ne_eqb a.i a.k e, eq-eqb a.j a.k f)

  pub at_T_4 : a.i ≢ a.k → a.j ≢ a.k → task_at a ≡ t_4 a.k a.i a.j
  unfolding task_at
  at_T_4 e f = rw (ne_eqb a.i a.k e, ne_eqb a.j a.k f)

pub same_key : (a b : Key) → a.k ≡ b.k → a.i ≡ b.i → a.j ≡ b.j → a ≡ b
same_key a b e f g = λ t. key (e t) (f t) (g t)

pub data Kind (a : Key) : Task → Type 0 where
  is_T_1 : a.i ≡ a.k → a.j ≡ a.k → Kind a (t_1 a.k)
  is_T_2 : a.i ≡ a.k → a.j ≢ a.k → Kind a (t_2 a.k a.j)
  is_T_3 : a.i ≢ a.k → a.j ≡ a.k → Kind a (t_3 a.k a.i)
  is_T_4 : a.i ≢ a.k → a.j ≢ a.k → Kind a (t_4 a.k a.i a.j)

pub kind : (a : Key) → Kind a (task_at a)
kind a = go (same_or_not a.i a.k) (same_or_not a.j a.k)
  where
    go : (a.i ≡ a.k) ⊎ (a.i ≢ a.k) → (a.j ≡ a.k) ⊎ (a.j ≢ a.k) → Kind a (task_at a)
    go (inl e) (inl f) = rw (at_T_1 a e f) (is_T_1 e f)
    go (inl e) (inr f) = rw (at_T_2 a e f) (is_T_2 e f)
    go (inr e) (inl f) = rw (at_T_3 a e f) (is_T_3 e f)
    go (inr e) (inr f) = rw (at_T_4 a e f) (is_T_4 e f)

pub key_of_kind : (a : Key) (t : Task) → Kind a t → key_of t ≡ a
unfolding key_of
key_of_kind a t (is_T_1 e f) = same_key (key a.k a.k a.k) a refl (sym e) (sym f)
key_of_kind a t (is_T_2 e f) = same_key (key a.k a.k a.j) a refl (sym e) refl
key_of_kind a t (is_T_3 e f) = same_key (key a.k a.i a.k) a refl refl (sym f)
key_of_kind a t (is_T_4 e f) = refl

pub key_of_task : (a : Key) → key_of (task_at a) ≡ a
key_of_task a = key_of_kind a (task_at a) (kind a)

-- ---- a stage is a square of tasks

unfoldable pub row_of : ℕ → ℕ → ℕ → List Task
row_of k w i = map (λ j. task_at (key k i j)) (run k w)

module _ (k m : ℕ) where
  lower : (i : ℕ) → suc k ≤ i → t_3 k i ∷ map (t_4 k i) (run (suc k) m) ≡ row_of k (suc m) i
  unfolding row_of run
  lower i l = λ t. one t ∷ rest t
    where
      one : t_3 k i ≡ task_at (key k i k)
      one = sym (at_T_3 (key k i k) (omega arith) refl)

      rest : map (t_4 k i) (run (suc k) m) ≡ map (λ j. task_at (key k i j)) (run (suc k) m)
      rest = map_run (t_4 k i) (λ j. task_at (key k i j)) (suc k) m (λ j g b. sym (at_T_4 (key k i j) (omega arith) (omega arith)))

  square : t_1 k ∷ map (t_2 k) (run (suc k) m) ++ rows (λ i. t_3 k i ∷ map (t_4 k i) (run (suc k) m)) (suc k) m ≡ rows (row_of k (suc m)) k (suc m)
  unfolding row_of run joined
  square = λ t. one t ∷ two t ++ joined (more t)
    where
      one : t_1 k ≡ task_at (key k k k)
      one = sym (at_T_1 (key k k k) refl refl)

      two : map (t_2 k) (run (suc k) m) ≡ map (λ j. task_at (key k k j)) (run (suc k) m)
      two = map_run (t_2 k) (λ j. task_at (key k k j)) (suc k) m (λ j g b. sym (at_T_2 (key k k j) refl (omega arith)))

      more : map (λ i. t_3 k i ∷ map (t_4 k i) (run (suc k) m)) (run (suc k) m) ≡ map (row_of k (suc m)) (run (suc k) m)
      more = map_run (λ i. t_3 k i ∷ map (t_4 k i) (run (suc k) m)) (row_of k (suc m)) (suc k) m (λ i g b. lower i g)

module _ (N k : ℕ) where
  pub stage_rows : k < N → stage N k ≡ rows (row_of k (N - k)) k (N - k)
  unfolding stage lower_row after
  stage_rows h = let e : N - k ≡ suc (N - suc k) = omega arith in rw e (square k (N - suc k))

  pub length_stage : k < N → length (stage N k) ≡ (N - k) * (N - k)
  unfolding row_of
  length_stage h = ap length (stage_rows h) ∙ length_rows (row_of k (N - k)) (N - k) k (N - k) (λ i. length_map_run (λ j. task_at (key k i j)) k (N - k))

-- ---- the place of a task

-- the task in row x and column y of the square
at_square : (k m x y : ℕ) (d : Task) → x < m → y < m → get_or (rows (row_of k m) k m) (x * m + y) d ≡ task_at (key k (k + x) (k + y))
unfolding row_of
at_square k m x y d hx hy =
    let wide : (i : ℕ) → length (row_of k m i) ≡ m = λ i. length_map_run (λ j. task_at (key k i j)) k m in
    rw (← (length_rows (row_of k m) m k x wide))
    (get_d_rows (row_of k m) k m x y d hx (rw (wide (k + x)) hy)
    ∙ get_or_map_run (λ j. task_at (key k (k + x) j)) k m y d hy)

module _ (N : ℕ) where
  pub length_stages : (x : ℕ) → x ≤ N → length (rows (stage N) 0 x) ≡ offset N x
  unfolding offset run joined
  length_stages zero h = refl
  length_stages (suc x) h =
      let z : 0 + x ≡ x = omega arith in
      length_rows_suc (stage N) 0 x ∙ rw (z, length_stages x (omega arith), length_stage N x h)

  pub count : length (tasks N) ≡ offset N N
  unfolding tasks below
  count = length_stages N (omega arith)

  pub place : (a : Key) → In N a → (d : Task) → get_or (tasks N) (number N a) d ≡ task_at a
  unfolding tasks below number
  place a v d = go (a.i - a.k) (a.j - a.k) (omega arith) (omega arith) (omega arith) (omega arith) (omega arith)
    where
      go : (x y : ℕ) → x < N - a.k → y < N - a.k → a.k < N → a.k + x ≡ a.i → a.k + y ≡ a.j
          → get_or (rows (stage N) 0 N) (offset N a.k + (x * (N - a.k) + y)) d ≡ task_at a
      go x y hx hy hk ei ej =
          let z : 0 + a.k ≡ a.k = omega arith in
          rw (← (length_stages a.k (omega arith)))
          (get_d_rows (stage N) 0 N a.k (x * (N - a.k) + y) d hk (rw (z, length_stage N a.k hk) (in_block (N - a.k) (N - a.k) x y hx hy))
          ∙ rw (z, stage_rows N a.k hk) (at_square a.k (N - a.k) x y d hx hy ∙ rw (ei, ej)))

  pub task_is : (a : Key) → In N a → task (tasks N) (number N a) ≡ task_at a
  unfolding task
  task_is a v = place a v (t_1 0)
