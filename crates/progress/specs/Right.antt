-- What the passing of a right side needs of its caller, and what it answers. Assumes nothing.
use Rattle.std.specs.Prelude.{ℕ, ◌+◌, ◌*◌, ◌<◌, ◌≤◌, ◌≡◌, Bool, true, false, List, length, get_or, Float, Result, Ok, Err}
use Rattle.model.specs.declared.Sizes.{Sizes}
use Rattle.model.specs.Lengths.{BuffersFit}
use Rattle.model.specs.Limits.{most_tiles, most_side}
use Rattle.model.specs.Lists.{below, in_turn}
use Rattle.model.specs.Tile.{all_finite}
use Rattle.model.specs.Task.{after}
use Rattle.model.specs.Plan.{Plan}
use Rattle.model.specs.Buffer.{Buffers}
use Rattle.model.specs.Solve.{Passed, going, stopped, applied, paired}
use Rattle.column_laws.specs.Steps.{list_start}

-- the factored matrix and its lists: as long as the sizes say, with entries in range
pub record Solvable (z : Sizes) (m : List Float) (l : List ℕ) : Type 0 where
  pub tiles_most : z.tiles ≤ most_tiles
  pub side_most : z.side ≤ most_side
  pub lengths : BuffersFit z m l
  pub diagonal_entries : (k x : ℕ) → k < z.tiles → x < z.side → get_or l (list_start z.tiles z.side k k + x) 0 < z.side
  pub lower_entries : (i k x : ℕ) → k < i → i < z.tiles → x < z.side → get_or l (list_start z.tiles z.side i k + x) 0 ≤ z.side

-- a right side of n finite numbers
pub record RightSide (z : Sizes) (y : List Float) : Type 0 where
  pub long : length y ≡ z.tiles * z.side
  pub all_finite_lem : all_finite y ≡ true

-- the right side as far as it has come, by what the code answers and what it left
unfoldable pub passed_of : Result (Unit {0}) ℕ → List Float → Passed
passed_of (Ok u) y = going y
passed_of (Err x) y = stopped x

-- one column at place x: on true the right side goes on and is finite, on false it stops there
pub record ColumnPassed (x : ℕ) (after : List Float) (answer : Bool) (whole : Passed) : Type 0 where
  pub goes : answer ≡ true → going after ≡ whole
  pub stops : answer ≡ false → stopped x ≡ whole
  pub finite_then : answer ≡ true → all_finite after ≡ true

-- several columns: a right side that goes on is finite
pub record Passing (r : Result (Unit {0}) ℕ) (after : List Float) (whole : Passed) : Type 0 where
  pub is : passed_of r after ≡ whole
  pub finite_then : r ≡ Ok tt → all_finite after ≡ true

-- ---- the tasks that touch the right side, stage by stage

module _ (z : Plan) (s : Buffers) where
  -- all columns of T-2(k), and of T-4(k,i)
  unfoldable pub apply_all : ℕ → Passed → Passed
  apply_all k p = in_turn (applied z s k) (below z.t) p

  unfoldable pub pair_all : ℕ → ℕ → Passed → Passed
  pair_all k i p = in_turn (paired z s k i) (below z.t) p

  -- T-2(k), then T-4(k,i) for i rising
  unfoldable pub stage_passed : ℕ → Passed → Passed
  stage_passed k p = in_turn (pair_all k) (after z.N k) (apply_all k p)
