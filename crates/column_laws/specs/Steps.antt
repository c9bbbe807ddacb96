-- What one column does to blocks of a flat slice, each block given by where it starts: what the columns' inner functions promise.
-- The multiplier of row r is l r, wherever it stands, so that a right side in a slice of its own is worked like a tile. Assumes nothing.
use Rattle.std.specs.Prelude.{ℕ, ◌+◌, ◌*◌, ◌≡◌, Bool, true, cond, List, map, length, get_or, leb, Float}
use Rattle.std.specs.Float.{nan}
use Rattle.model.specs.Lists.{below, every, joined, part, with_part}
use Rattle.model.specs.Num.{finite, update}
use Rattle.model.specs.Tile.{at, block, exchanged}
use Rattle.model.specs.Column.{beyond, row_computes, eliminated, elimination_computes, upper_exchanged, lower_exchanged}

-- where tile (i,j) of N by N tiles of side t starts in the matrix, and its row list in the lists
abbrev pub tile_start : ℕ → ℕ → ℕ → ℕ → ℕ
tile_start N t i j = (i * N + j) * (t * t)

abbrev pub list_start : ℕ → ℕ → ℕ → ℕ → ℕ
list_start N t i j = (i * N + j) * t

-- ---- T-2: the rows of a block below row c, updated by row c

unfoldable pub applied_block : ℕ → ℕ → ℕ → (ℕ → Float) → List Float → List Float
applied_block t w c l b = block t w (λ r q. cond (leb r c) (at w b r q) (update (at w b r q) (l r) (at w b c q)))

unfoldable pub applied_computes : ℕ → ℕ → ℕ → (ℕ → Float) → List Float → List Float
applied_computes t w c l b = joined (map (λ r. row_computes w (l r) (at w b c) (at w b r)) (beyond t c))

-- the block at a, updated where every number computed is finite; else only numbers of the block are changed
pub record RowsApplied (t w c a : ℕ) (l : ℕ → Float) (before after : List Float) (answer : Bool) : Type 0 where
  pub long : length after ≡ length before
  pub sound : answer ≡ every finite (applied_computes t w c l (part a (t * w) before))
  pub whole : answer ≡ true → after ≡ with_part a (t * w) (applied_block t w c l (part a (t * w) before)) before
  pub frame : after ≡ with_part a (t * w) (part a (t * w) after) before

-- ---- T-4: all rows of the lower block d, updated by row c of the upper block u

unfoldable pub paired_block : ℕ → ℕ → ℕ → (ℕ → Float) → List Float → List Float → List Float
paired_block t w c l u d = block t w (λ r q. update (at w d r q) (l r) (at w u c q))

unfoldable pub paired_computes : ℕ → ℕ → ℕ → (ℕ → Float) → List Float → List Float → List Float
paired_computes t w c l u d = joined (map (λ r. row_computes w (l r) (at w u c) (at w d r)) (below t))

-- the blocks at u and d after the exchange that entry e asks for, from column f on
unfoldable pub upper_at : ℕ → ℕ → ℕ → ℕ → ℕ → ℕ → ℕ → List Float → List Float
upper_at t w f c e u d m = upper_exchanged t w f c e (part u (t * w) m) (part d (t * w) m)

unfoldable pub lower_at : ℕ → ℕ → ℕ → ℕ → ℕ → ℕ → ℕ → List Float → List Float
lower_at t w f c e u d m = lower_exchanged t w f c e (part u (t * w) m) (part d (t * w) m)

-- m with the blocks x and y at u and d
unfoldable pub with_two : ℕ → ℕ → ℕ → List Float → List Float → List Float → List Float
with_two n u d x y m = with_part u n x (with_part d n y m)

-- the blocks at u and d exchanged by entry e, and the lower one updated where every number computed is finite
pub record RowsPaired (t w c e u d : ℕ) (l : ℕ → Float) (before after : List Float) (answer : Bool) : Type 0 where
  pub long : length after ≡ length before
  pub sound : answer ≡ every finite (paired_computes t w c l (upper_at t w 0 c e u d before) (lower_at t w 0 c e u d before))
  pub whole : answer ≡ true
      → after ≡ with_two (t * w) u d (upper_at t w 0 c e u d before) (paired_block t w c l (upper_at t w 0 c e u d before) (lower_at t w 0 c e u d before)) before
  pub frame : after ≡ with_two (t * w) u d (upper_at t w 0 c e u d before) (part d (t * w) after) before

-- ---- T-1 and T-3: rows from which the pivot row is eliminated

unfoldable pub eliminated_rows : ℕ → ℕ → ℕ → (ℕ → Float) → List Float → List Float
eliminated_rows rows t c u b = block rows t (λ r. eliminated c u (at t b r))

unfoldable pub eliminated_computes : ℕ → ℕ → ℕ → (ℕ → Float) → List Float → List Float
eliminated_computes rows t c u b = joined (map (λ r. elimination_computes t c u (at t b r)) (below rows))

-- the rows of width t from `start` on, by the row at `top`
pub record RowsEliminated (rows t c start top : ℕ) (before after : List Float) (answer : Bool) : Type 0 where
  pub long : length after ≡ length before
  pub sound : answer ≡ every finite (eliminated_computes rows t c (λ q. get_or before (top + q) nan) (part start (rows * t) before))
  pub whole : answer ≡ true
      → after ≡ with_part start (rows * t) (eliminated_rows rows t c (λ q. get_or before (top + q) nan) (part start (rows * t) before)) before
  pub frame : after ≡ with_part start (rows * t) (part start (rows * t) after) before

-- T-1: the rows of the tile b below row c, by row c
unfoldable pub factored : ℕ → ℕ → List Float → List Float
factored t c b = block t t (λ r. cond (leb r c) (at t b r) (eliminated c (at t b c) (at t b r)))

unfoldable pub factored_computes : ℕ → ℕ → List Float → List Float
factored_computes t c b = joined (map (λ r. elimination_computes t c (at t b c) (at t b r)) (beyond t c))

-- the tile at a with rows c and y exchanged
unfoldable pub exchanged_at : ℕ → ℕ → ℕ → ℕ → List Float → List Float
exchanged_at t c y a m = exchanged t t c y (part a (t * t) m)

pub record TileFactored (t c y a : ℕ) (before after : List Float) (answer : Bool) : Type 0 where
  pub long : length after ≡ length before
  pub sound : answer ≡ every finite (factored_computes t c (exchanged_at t c y a before))
  pub whole : answer ≡ true → after ≡ with_part a (t * t) (factored t c (exchanged_at t c y a before)) before
  pub frame : after ≡ with_part a (t * t) (part a (t * t) after) before

-- T-3: all rows of the lower tile, by row c of the upper; both exchanged by entry e from column c on
pub record TilesCoupled (t c e u d : ℕ) (before after : List Float) (answer : Bool) : Type 0 where
  pub long : length after ≡ length before
  pub sound : answer ≡ every finite (eliminated_computes t t c (at t (upper_at t t c c e u d before) c) (lower_at t t c c e u d before))
  pub whole : answer ≡ true
      → after ≡ with_two (t * t) u d (upper_at t t c c e u d before) (eliminated_rows t t c (at t (upper_at t t c c e u d before) c) (lower_at t t c c e u d before)) before
  pub frame : after ≡ with_two (t * t) u d (upper_at t t c c e u d before) (part d (t * t) after) before
