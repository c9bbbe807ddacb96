-- What the inner steps need of the blocks that they are given by where these start. Assumes nothing.
use Rattle.std.specs.Prelude.{ℕ, ◌+◌, ◌*◌, ◌<◌, ◌≤◌, List, ◌⊎◌, length, Float}
use Rattle.model.specs.Limits.{most_side}
use Rattle.laws.specs.Apart.{Apart}

-- t rows of width w from a on
pub record Block (t w a : ℕ) (m : List Float) : Type 0 where
  pub rows_most : t ≤ most_side
  pub width_most : w ≤ most_side
  pub few : length m ≤ 65536
  pub room : a + t * w ≤ length m

-- two such blocks that share no number
pub record TwoBlocks (t w u d : ℕ) (m : List Float) : Type 0 where
  pub rows_most : t ≤ most_side
  pub width_most : w ≤ most_side
  pub few : length m ≤ 65536
  pub upper_room : u + t * w ≤ length m
  pub lower_room : d + t * w ≤ length m
  pub apart : Apart (t * w) u d

-- rows of width t from `start` on, and the row at `top`, which is none of them
pub record Rows (rows t c start top : ℕ) (m : List Float) : Type 0 where
  pub rows_most : rows ≤ most_side
  pub width_most : t ≤ most_side
  pub column : c < t
  pub few : length m ≤ 65536
  pub room : start + rows * t ≤ length m
  pub top_room : top + t ≤ length m
  pub apart : (top + t ≤ start) ⊎ (start + rows * t ≤ top)
