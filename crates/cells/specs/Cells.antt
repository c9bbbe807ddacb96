-- The places that tasks share as numbered cells, and a list of tasks on them as a system of order_free. Tile (i,j) is cell i·N + j, the
-- strictly lower part of tile (k,k) is cell N² + k, and list (i,j) is cell N² + N + i·N + j. The cell of tile (k,k) holds the tile whole, and
-- that of its strictly lower part a copy: T-3 leaves that part as it is, so it writes the first and not the second. A column's arithmetic is
-- the model's own: here stands only which cells it gets and where its results go.
-- Assumes nothing.
use Rattle.std.specs.Prelude.{ℕ, zero, suc, ◌+◌, ◌-◌, ◌*◌, Bool, false, cond, List, [], length, replicate, eqb, ltb, Float}
use Rattle.model.specs.Lists.{every, some, part}
use Rattle.model.specs.Num.{finite}
use Rattle.model.specs.Tile.{zeros, upper_filled}
use Rattle.model.specs.Column.{Factored, Coupled, Paired, factor_pivot, factor_column, factor_computes, apply_column, apply_computes, couple_pivot, couple_column, couple_computes, pair_column, pair_computes}
use Rattle.model.specs.Task.{Task, t_1, t_2, t_3, t_4, Place, touches, writes}
use Rattle.model.specs.Links.{task}
use Rattle.model.specs.Plan.{Plan}
use Rattle.model.specs.Buffer.{Buffers, tile}
use Rattle.order_free.specs.Below.{set}
use Rattle.order_free.specs.System.{System}
use Rattle.order_free.specs.Sums.{Gain}

-- what a cell holds: the numbers of a tile or the entries of a row list, and nothing of the other
pub record Val : Type 0 where
  pub floats : List Float
  pub bytes : List ℕ

abbrev pub tile_val : List Float → Val
tile_val a = record { floats = a; bytes = [] }

abbrev pub rows_val : List ℕ → Val
rows_val p = record { floats = []; bytes = p }

-- ---- the cell of a place

module _ (N : ℕ) where
  -- the cells of tile (i,j), of tile (k,k)'s strictly lower part and of list (i,j), and of any of them by its sort
  abbrev pub tile_at : ℕ → ℕ → ℕ
  tile_at i j = i * N + j

  abbrev pub low_at : ℕ → ℕ
  low_at k = N * N + k

  abbrev pub list_at : ℕ → ℕ → ℕ
  list_at i j = N * N + N + (i * N + j)

  abbrev pub cell_at : ℕ → ℕ → ℕ → ℕ
  cell_at zero i j = tile_at i j
  cell_at (suc zero) i j = list_at i j
  cell_at (suc (suc n)) i j = low_at i

  abbrev pub cell_of : Place → ℕ
  cell_of x = cell_at x.sort x.row x.column

  -- one of the places lies in cell r
  unfoldable pub at_cell : List Place → ℕ → Bool
  at_cell xs r = some (λ x. eqb (cell_of x) r) xs

module _ (N t : ℕ) where
  -- what each cell holds of the lent buffers
  unfoldable pub view : Buffers → ℕ → Val
  view s r = record {
    floats = cond (ltb r (N * N)) (part (r * (t * t)) (t * t) s.matrix)
        (cond (ltb r (N * N + N)) (upper_filled t (tile N t s.matrix (r - N * N) (r - N * N))) []);
    bytes = cond (ltb r (N * N + N)) [] (part ((r - (N * N + N)) * t) t s.lists);
  }

  abbrev pub put_tile : ℕ → ℕ → List Float → (ℕ → Val) → ℕ → Val
  put_tile i j a σ = set σ (tile_at N i j) (tile_val a)

  abbrev pub put_rows : ℕ → ℕ → List ℕ → (ℕ → Val) → ℕ → Val
  put_rows i j p σ = set σ (list_at N i j) (rows_val p)

  -- the strictly lower part of the tile a, and +0 elsewhere, as that of tile (k,k); and of tile (i,j), where it is a diagonal tile
  abbrev pub put_low : ℕ → List Float → (ℕ → Val) → ℕ → Val
  put_low k a σ = set σ (low_at N k) (tile_val (upper_filled t a))

  abbrev pub put_low_of : ℕ → ℕ → List Float → (ℕ → Val) → ℕ → Val
  put_low_of i j a σ r = cond (eqb i j) (put_low i a σ r) (σ r)

  -- ---- what a column leaves, and the numbers that it computes

  abbrev pub put_factored : ℕ → Factored → (ℕ → Val) → ℕ → Val
  put_factored k r σ = put_tile k k r.tile (put_low k r.tile (put_rows k k r.rows σ))

  abbrev pub put_coupled : ℕ → ℕ → Coupled → (ℕ → Val) → ℕ → Val
  put_coupled k i r σ = put_tile k k r.upper (put_tile i k r.lower (put_rows i k r.rows σ))

  abbrev pub put_paired : ℕ → ℕ → ℕ → Paired → (ℕ → Val) → ℕ → Val
  put_paired k i j r σ = put_tile k j r.upper (put_tile i j r.lower (put_low_of i j r.lower σ))

  abbrev pub factor_in : ℕ → (ℕ → Val) → Factored
  factor_in k σ = record { tile = (σ (tile_at N k k)).floats; rows = (σ (list_at N k k)).bytes }

  abbrev pub couple_in : ℕ → ℕ → (ℕ → Val) → Coupled
  couple_in k i σ = record { upper = (σ (tile_at N k k)).floats; lower = (σ (tile_at N i k)).floats; rows = (σ (list_at N i k)).bytes }

  abbrev pub pair_in : ℕ → ℕ → ℕ → (ℕ → Val) → Paired
  pair_in k i j σ = record { upper = (σ (tile_at N k j)).floats; lower = (σ (tile_at N i j)).floats }

  unfoldable pub worked_at : Task → ℕ → (ℕ → Val) → ℕ → Val
  worked_at (t_1 k) c σ = put_factored k (factor_column t c (factor_in k σ)) σ
  worked_at (t_2 k j) c σ = put_tile k j (apply_column t t c (σ (low_at N k)).floats (σ (list_at N k k)).bytes (σ (tile_at N k j)).floats) σ
  worked_at (t_3 k i) c σ = put_coupled k i (couple_column t c (couple_in k i σ)) σ
  worked_at (t_4 k i j) c σ = put_paired k i j (pair_column t t c (σ (tile_at N i k)).floats (σ (list_at N i k)).bytes (pair_in k i j σ)) σ

  unfoldable pub computed_at : Task → ℕ → (ℕ → Val) → List Float
  computed_at (t_1 k) c σ = factor_computes t c (factor_in k σ)
  computed_at (t_2 k j) c σ = apply_computes t t c (σ (low_at N k)).floats (σ (list_at N k k)).bytes (σ (tile_at N k j)).floats
  computed_at (t_3 k i) c σ = couple_computes t c (couple_in k i σ)
  computed_at (t_4 k i j) c σ = pair_computes t t c (σ (tile_at N i k)).floats (σ (list_at N i k)).bytes (pair_in k i j σ)

  -- the ties of a column's pivot search
  unfoldable pub ties_at : Task → ℕ → (ℕ → Val) → ℕ
  ties_at (t_1 k) c σ = (factor_pivot t c (σ (tile_at N k k)).floats).ties
  ties_at (t_2 k j) c σ = 0
  ties_at (t_3 k i) c σ = (couple_pivot t c (σ (tile_at N k k)).floats (σ (tile_at N i k)).floats).ties
  ties_at (t_4 k i j) c σ = 0

  unfoldable pub sound_at : Task → ℕ → (ℕ → Val) → Bool
  sound_at a c σ = every finite (computed_at a c σ)

  -- ---- what a failed or spoiled task leaves

  abbrev pub put_zeros : ℕ → ℕ → (ℕ → Val) → ℕ → Val
  put_zeros i j σ = put_tile i j (zeros (t * t)) (put_rows i j (replicate t 0) σ)

  unfoldable pub filled_at : Task → (ℕ → Val) → ℕ → Val
  filled_at (t_1 k) σ = put_tile k k (zeros (t * t)) (put_low k (zeros (t * t)) (put_rows k k (replicate t 0) σ))
  filled_at (t_2 k j) σ = put_tile k j (zeros (t * t)) σ
  filled_at (t_3 k i) σ = put_tile k k (upper_filled t (put_zeros i k σ (tile_at N k k)).floats) (put_zeros i k σ)
  filled_at (t_4 k i j) σ = put_tile k j (zeros (t * t)) (put_tile i j (zeros (t * t)) (put_low_of i j (zeros (t * t)) σ))

  -- ---- a list of tasks

  -- the plan that has these tasks
  abbrev pub plan_for : List Task → Plan
  plan_for ts = record { N = N; t = t; tasks = ts }

  -- these tasks and their cells as order_free has them
  abbrev pub system : List Task → System
  system ts = record {
    Val = Val;
    cells = N * N + N + N * N;
    tasks = length ts;
    columns = λ p. t;
    omitted = λ p. false;
    touches = λ p r. at_cell N (touches (task ts p)) r;
    writes = λ p r. at_cell N (writes (task ts p)) r;
    col = λ p c σ. worked_at (task ts p) c σ;
    ok = λ p c σ. sound_at (task ts p) c σ;
    fill = λ p σ. filled_at (task ts p) σ;
  }

  -- the ties as order_free's gain: a failing column and spoiling add none
  abbrev pub ties : (ts : List Task) → Gain (system ts)
  ties ts = record { good = λ p c σ. ties_at (task ts p) c σ; failing = 0; spoiling = 0 }
