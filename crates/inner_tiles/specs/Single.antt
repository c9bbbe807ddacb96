-- With b = 1 the columns of T-3 and T-4 with inner blocks are document 01's, bit for bit, and the slice is not touched.
-- Assumes nothing.
use Rattle.std.specs.Prelude.{ℕ, ◌*◌, ◌<◌, true, List, ◌≡◌, length, Float}
use Rattle.model.specs.Lists.{every}
use Rattle.model.specs.Num.{finite}
use Rattle.model.specs.Tile.{all_finite}
use Rattle.model.specs.Column.{Coupled, Paired, couple_column, couple_computes, pair_column, pair_computes}
use Rattle.inner_tiles.specs.Inner.{Inner, inner_couple_column, inner_couple_computes, inner_pair_column, inner_pair_computes}

-- the two tiles and the list
abbrev pub tiles_of : Inner → Coupled
tiles_of s = record { upper = s.upper; lower = s.lower; rows = s.rows }

-- T-3's column c. What it computes comes in another order: the quotients of all rows first
pub record CoupleSingle (t c : ℕ) (s : Inner) : Type 0 where
  pub column : tiles_of (inner_couple_column t 1 c s) ≡ couple_column t c (tiles_of s)
  pub slice : (inner_couple_column t 1 c s).slice ≡ s.slice
  pub computes : every finite (inner_couple_computes t 1 c s) ≡ every finite (couple_computes t c (tiles_of s))

-- T-4's column c, whatever the slice holds
pub record PairSingle (t w c : ℕ) (l sl : List Float) (p : List ℕ) (s : Paired) : Type 0 where
  pub column : inner_pair_column t w 1 c l sl p s ≡ pair_column t w c l p s
  pub computes : inner_pair_computes t w 1 c l sl p s ≡ pair_computes t w c l p s

-- A lower tile with a NaN is left out: a pivot of zero could stand over it, and a NaN is a multiplier where document 01 makes no update
pub record Single : Type 0 where
  pub couple : (t c : ℕ) → c < t → (s : Inner) → length s.upper ≡ t * t → length s.lower ≡ t * t → length s.slice ≡ t * 1 → length s.rows ≡ t
      → all_finite s.lower ≡ true → CoupleSingle t c s
  -- the slice stays, whatever the numbers are
  pub slice : (t c : ℕ) (s : Inner) → length s.slice ≡ t * 1 → (inner_couple_column t 1 c s).slice ≡ s.slice
  pub pair : (t w c : ℕ) (l sl : List Float) (p : List ℕ) (s : Paired) → PairSingle t w c l sl p s
