-- The lent matrix and row lists, cut into tiles and lists; one column of a task on them; what a failed or spoiled task leaves.
-- Assumes nothing.
use Rattle.std.specs.Prelude.{ℕ, suc, ◌+◌, ◌*◌, ◌/◌, ◌%◌, ◌≡◌, Bool, true, false, cond, ◌||◌, List, replicate, eqb, Float}
use Rattle.model.specs.declared.ColumnEnd.{ColumnEnd}
use Rattle.model.specs.declared.ColumnEnd.TheVariants.{GoesOn, Done, Failed, Spoiled}
use Rattle.model.specs.Lists.{every, part, with_part}
use Rattle.model.specs.Num.{finite}
use Rattle.model.specs.Tile.{at, all_finite, zeros, upper_filled}
use Rattle.model.specs.Column.{Factored, Coupled, Paired, factor_pivot, factor_column, factor_computes, apply_column, apply_computes, couple_pivot, couple_column, couple_computes, pair_column, pair_computes, column_open}
use Rattle.model.specs.Task.{Task, t_1, t_2, t_3, t_4, Place, is_list, touches}
use Rattle.model.specs.Links.{taken, done, failed, spoiled}
use Rattle.model.specs.Plan.{Plan, plan_open}

-- ---- parts of the lent slices

-- tile A(i,j) of the matrix m: the t² numbers from place (i·N + j)·t² on, in row order
unfoldable pub tile : ℕ → ℕ → List Float → ℕ → ℕ → List Float
tile N t m i j = part ((i * N + j) * (t * t)) (t * t) m

-- m with the tile a in that place
unfoldable pub put_tile : ℕ → ℕ → ℕ → ℕ → List Float → List Float → List Float
put_tile N t i j a m = with_part ((i * N + j) * (t * t)) (t * t) a m

-- row list (i,j) of the lists l, in the same order: t entries
unfoldable pub rows : ℕ → ℕ → List ℕ → ℕ → ℕ → List ℕ
rows N t l i j = part ((i * N + j) * t) t l

-- l with the row list p in that place
unfoldable pub put_rows : ℕ → ℕ → ℕ → ℕ → List ℕ → List ℕ → List ℕ
put_rows N t i j p l = with_part ((i * N + j) * t) t p l

-- element (x,y) of the whole matrix
unfoldable pub element : ℕ → ℕ → List Float → ℕ → ℕ → Float
element N t m x y = at t (tile N t m (x / t) (y / t)) (x % t) (y % t)

-- ---- what tasks work on

pub record Buffers : Type 0 where
  pub matrix : List Float
  pub lists : List ℕ

-- what a column or a task left, the task's mark then, and the ties of what it completed (K7)
pub record Ended : Type 0 where
  pub left : Buffers
  pub mark : ℕ
  pub ties : ℕ

-- the mark that a column's end gives its task
abbrev pub mark_after : ColumnEnd → ℕ
mark_after (GoesOn n) = taken
mark_after (Done n) = done
mark_after Failed = failed
mark_after Spoiled = spoiled

-- and the ties that it adds: a failing column isn't completed, and a spoiled task completes none
abbrev pub ties_after : ColumnEnd → ℕ
ties_after (GoesOn n) = n
ties_after (Done n) = n
ties_after Failed = 0
ties_after Spoiled = 0

-- e ends column c of a task of t columns, which was completed with n ties
pub record Completed (t c n : ℕ) (e : ColumnEnd) : Type 0 where
  pub mark : mark_after e ≡ cond (eqb (suc c) t) done taken
  pub ties : ties_after e ≡ n

-- what a column that ended so, and left b, is
abbrev pub ended_with : ColumnEnd → Buffers → Ended
ended_with e b = record { left = b; mark = mark_after e; ties = ties_after e }

module _ (z : Plan) where
  unfoldable pub tile_of : Buffers → ℕ → ℕ → List Float
  tile_of s i j = tile z.N z.t s.matrix i j

  unfoldable pub rows_of : Buffers → ℕ → ℕ → List ℕ
  rows_of s i j = rows z.N z.t s.lists i j

  unfoldable pub with_tile : ℕ → ℕ → List Float → Buffers → Buffers
  with_tile i j a s = record { matrix = put_tile z.N z.t i j a s.matrix; lists = s.lists }

  unfoldable pub with_rows : ℕ → ℕ → List ℕ → Buffers → Buffers
  with_rows i j p s = record { matrix = s.matrix; lists = put_rows z.N z.t i j p s.lists }

  -- ---- what each step reads of the buffers

  unfoldable pub factor_input : Buffers → ℕ → Factored
  factor_input s k = record { tile = tile_of s k k; rows = rows_of s k k }

  unfoldable pub couple_input : Buffers → ℕ → ℕ → Coupled
  couple_input s k i = record { upper = tile_of s k k; lower = tile_of s i k; rows = rows_of s i k }

  unfoldable pub pair_input : Buffers → ℕ → ℕ → ℕ → Paired
  pair_input s k i j = record { upper = tile_of s k j; lower = tile_of s i j }

  -- ---- column c of a task

  -- what it leaves where every number computed is finite
  unfoldable pub worked : Task → ℕ → Buffers → Buffers
  worked (t_1 k) c s =
      let r = factor_column z.t c (factor_input s k) in
      with_tile k k r.tile (with_rows k k r.rows s)
  worked (t_2 k j) c s = with_tile k j (apply_column z.t z.t c (tile_of s k k) (rows_of s k k) (tile_of s k j)) s
  worked (t_3 k i) c s =
      let r = couple_column z.t c (couple_input s k i) in
      with_tile k k r.upper (with_tile i k r.lower (with_rows i k r.rows s))
  worked (t_4 k i j) c s =
      let r = pair_column z.t z.t c (tile_of s i k) (rows_of s i k) (pair_input s k i j) in
      with_tile k j r.upper (with_tile i j r.lower s)

  -- the numbers that it computes: quotients, products and differences
  unfoldable pub computed : Task → ℕ → Buffers → List Float
  computed (t_1 k) c s = factor_computes z.t c (factor_input s k)
  computed (t_2 k j) c s = apply_computes z.t z.t c (tile_of s k k) (rows_of s k k) (tile_of s k j)
  computed (t_3 k i) c s = couple_computes z.t c (couple_input s k i)
  computed (t_4 k i j) c s = pair_computes z.t z.t c (tile_of s i k) (rows_of s i k) (pair_input s k i j)

  -- how many candidates of the column's pivot search tie with the winner (K7): only T-1 and T-3 search
  unfoldable pub column_ties : Task → ℕ → Buffers → ℕ
  column_ties (t_1 k) c s = (factor_pivot z.t c (tile_of s k k)).ties
  column_ties (t_2 k j) c s = 0
  column_ties (t_3 k i) c s = (couple_pivot z.t c (tile_of s k k) (tile_of s i k)).ties
  column_ties (t_4 k i j) c s = 0

  -- every number computed is finite
  unfoldable pub sound : Task → ℕ → Buffers → Bool
  sound a c s = every finite (computed a c s)

  -- a place is a list, or every number of its tile is finite, in both parts of a diagonal tile
  unfoldable pub finite_in : Buffers → Place → Bool
  finite_in s x = is_list x || all_finite (tile_of s x.row x.column)

  -- every element of a tile that the task touches is finite
  unfoldable pub finite_tiles : Task → Buffers → Bool
  finite_tiles a s = every (finite_in s) (touches a)

  -- ---- what a failed or spoiled task leaves: +0 in its tiles and 0 in its lists; in T-3's upper tile only the diagonal and above

  unfoldable pub fill_tile : ℕ → ℕ → Buffers → Buffers
  fill_tile i j s = with_tile i j (zeros (z.t * z.t)) s

  unfoldable pub fill_rows : ℕ → ℕ → Buffers → Buffers
  fill_rows i j s = with_rows i j (replicate z.t 0) s

  unfoldable pub fill_upper : ℕ → Buffers → Buffers
  fill_upper k s = with_tile k k (upper_filled z.t (tile_of s k k)) s

  -- document 01's fill
  unfoldable pub filled : Task → Buffers → Buffers
  filled (t_1 k) s = fill_tile k k (fill_rows k k s)
  filled (t_2 k j) s = fill_tile k j s
  filled (t_3 k i) s = fill_upper k (fill_tile i k (fill_rows i k s))
  filled (t_4 k i j) s = fill_tile k j (fill_tile i j s)

  -- ---- column c of a task that is not spoiled: failed where a number computed isn't finite, else done after column t - 1, else still taken

  unfoldable pub column_ends : Task → ℕ → Buffers → Ended
  column_ends a c s = elim (sound a c s) [
    | true ↦ record { left = worked a c s; mark = cond (eqb (suc c) z.t) done taken; ties = column_ties a c s }
    | false ↦ record { left = filled a (worked a c s); mark = failed; ties = 0 }
  ]

unfoldable pub buffer_open : Unit {0}
unfolding column_open plan_open tile put_tile rows put_rows element tile_of rows_of with_tile with_rows factor_input couple_input pair_input worked computed column_ties sound finite_in finite_tiles fill_tile fill_rows fill_upper filled column_ends
buffer_open = tt
