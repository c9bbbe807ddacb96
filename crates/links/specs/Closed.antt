-- The closed forms, for N by N tiles: a task as a triple, its number, the tasks linked to it, the latest writers of what it touches,
-- and the tests that code makes of marks. Assumes nothing.
use Rattle.std.specs.Prelude.{ℕ, zero, suc, ◌+◌, ◌-◌, ◌*◌, ◌/◌, ◌%◌, ◌≤◌, ◌<◌, Bool, cond, ◌&&◌, ◌||◌, List, [], ◌∷◌, ◌++◌, ◌≡◌, eqb, ltb}
use Rattle.model.specs.Task.{Task, t_1, t_2, t_3, t_4, Place, A, low, list}
use Rattle.model.specs.Links.{mark, done, waiting, finished, broken}

-- ---- a task as a triple

-- T-1(k) is (k,k,k), T-2(k,j) is (k,k,j), T-3(k,i) is (k,i,k), T-4(k,i,j) is (k,i,j)
pub record Key : Type 0 where
  pub k : ℕ
  pub i : ℕ
  pub j : ℕ

abbrev pub key : ℕ → ℕ → ℕ → Key
key k i j = record { k = k; i = i; j = j }

-- the triples of tasks: k ≤ i < N and k ≤ j < N
pub record In (N : ℕ) (a : Key) : Type 0 where
  pub row : a.k ≤ a.i
  pub column : a.k ≤ a.j
  pub row_fits : a.i < N
  pub column_fits : a.j < N

-- the task of a triple
unfoldable pub task_at : Key → Task
task_at a =
    cond (eqb a.i a.k)
    (cond (eqb a.j a.k) (t_1 a.k) (t_2 a.k a.j))
    (cond (eqb a.j a.k) (t_3 a.k a.i) (t_4 a.k a.i a.j))

-- the triple of a task
unfoldable pub key_of : Task → Key
key_of (t_1 k) = key k k k
key_of (t_2 k j) = key k k j
key_of (t_3 k i) = key k i k
key_of (t_4 k i j) = key k i j

-- ---- its number

-- how many tasks the stages before k have: stage k is a square of (N - k)² tasks
unfoldable pub offset : ℕ → ℕ → ℕ
offset N zero = 0
offset N (suc k) = offset N k + (N - k) * (N - k)

-- m² + (m - 1)² + .. + 1
unfoldable pub squares : ℕ → ℕ
squares zero = 0
squares (suc m) = squares m + suc m * suc m

-- the number of the task with this triple
unfoldable pub number : ℕ → Key → ℕ
number N a = offset N a.k + ((a.i - a.k) * (N - a.k) + (a.j - a.k))

-- the triple that stands p tasks after the start of stage k, where m = N - k stages are left
unfoldable pub key_from : ℕ → ℕ → ℕ → Key
key_from zero k p = key k k k
key_from (suc m) k p =
    let r : Key = key_from m (suc k) (p - suc m * suc m) in
    cond (ltb p (suc m * suc m)) (key k (k + p / suc m) (k + p % suc m)) r

-- the triple of task number p
unfoldable pub key_at : ℕ → ℕ → Key
key_at N p = key_from N 0 p

-- ---- order, clashes, links and latest writers

-- the order of the numbers: by k, then i, then j
pub data Before (a b : Key) : Type 0 where
  by_stage : a.k < b.k → Before a b
  by_row : a.k ≡ b.k → a.i < b.i → Before a b
  by_column : a.k ≡ b.k → a.i ≡ b.i → a.j < b.j → Before a b

-- a stands before b, and they clash
pub data Clash (a b : Key) : Type 0 where
  same_tile : a.k < b.k → a.i ≡ b.i → a.j ≡ b.j → Clash a b
  upper_tile : a.k < b.k → a.i ≡ b.k → a.j ≡ b.j → Clash a b
  left_tile : a.k < b.k → a.i ≡ b.i → a.j ≡ b.k → Clash a b
  down : a.k ≡ b.k → a.i < b.i → a.j ≡ b.j → Clash a b
  across : a.k ≡ b.k → a.i ≡ b.i → a.j ≡ a.k → a.j < b.j → Clash a b

-- a is linked to b: the task at the same tile one stage back; the first of b's row; the one above b
pub data Linked (a b : Key) : Type 0 where
  stage_back : suc a.k ≡ b.k → a.i ≡ b.i → a.j ≡ b.j → Linked a b
  row_first : a.k ≡ b.k → a.i ≡ b.i → a.j ≡ b.k → b.k < b.j → Linked a b
  row_above : a.k ≡ b.k → suc a.i ≡ b.i → a.j ≡ b.j → Linked a b

-- b touches x, and a is the latest task before b that writes x
pub data Last (a b : Key) (x : Place) : Type 0 where
  last_own : x ≡ A b.i b.j → suc a.k ≡ b.k → a.i ≡ b.i → a.j ≡ b.j → Last a b x
  last_upper : x ≡ A b.k b.j → a.k ≡ b.k → suc a.i ≡ b.i → a.j ≡ b.j → Last a b x
  last_left : x ≡ A b.i b.k → a.k ≡ b.k → a.i ≡ b.i → a.j ≡ b.k → b.k < b.j → b.k < b.i → Last a b x
  last_list : x ≡ list b.i b.k → a.k ≡ b.k → a.i ≡ b.i → a.j ≡ b.k → b.k < b.j → Last a b x
  last_own_low : x ≡ low b.i → b.i ≡ b.j → suc a.k ≡ b.k → a.i ≡ b.i → a.j ≡ b.j → Last a b x
  last_left_low : x ≡ low b.k → b.i ≡ b.k → a.k ≡ b.k → a.i ≡ b.k → a.j ≡ b.k → b.k < b.j → Last a b x

-- ---- the tasks linked to b, which are also the latest writers of what b touches

-- the one at the same tile one stage back, the one above it in its column and the first of its row
abbrev pub back_of : Key → Key
back_of b = key (b.k - 1) b.i b.j

abbrev pub above_of : Key → Key
above_of b = key b.k (b.i - 1) b.j

abbrev pub left_of : Key → Key
left_of b = key b.k b.i b.k

module _ (N : ℕ) where
  -- the number of each, where there is such a task
  unfoldable pub back_link : Key → List ℕ
  back_link b = cond (eqb b.k 0) [] (number N (back_of b) ∷ [])

  unfoldable pub above_link : Key → List ℕ
  above_link b = cond (eqb b.i b.k) [] (number N (above_of b) ∷ [])

  unfoldable pub left_link : Key → List ℕ
  left_link b = cond (eqb b.j b.k) [] (number N (left_of b) ∷ [])

  -- all of them, rising
  unfoldable pub links_at : Key → List ℕ
  links_at b = back_link b ++ (above_link b ++ left_link b)

-- ---- the tests that code makes of the marks ms

module _ (N : ℕ) (ms : List ℕ) where
  -- their marks: done where there is no such task
  unfoldable pub back_mark : Key → ℕ
  back_mark b = cond (eqb b.k 0) done (mark ms (number N (back_of b)))

  unfoldable pub above_mark : Key → ℕ
  above_mark b = cond (eqb b.i b.k) done (mark ms (number N (above_of b)))

  unfoldable pub left_mark : Key → ℕ
  left_mark b = cond (eqb b.j b.k) done (mark ms (number N (left_of b)))

  -- b is ready
  unfoldable pub ready_at : Key → Bool
  ready_at b = eqb (mark ms (number N b)) waiting && (finished (back_mark b) && finished (above_mark b) && finished (left_mark b))

  -- b is spoiled at its first column
  unfoldable pub spoils_at : Key → Bool
  spoils_at b = broken (back_mark b) || broken (above_mark b) || broken (left_mark b)
