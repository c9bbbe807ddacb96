-- What the tiles' lines of a checked text hold, by the places where they start. Assumes nothing.
use Rattle.std.specs.Prelude.{ℕ, ◌+◌, ◌*◌, ◌≤◌, ◌<◌, ◌≡◌, true, List, map, length, take, drop, Float}
use Rattle.std.specs.Float.{binary64}
use Rattle.std.specs.Float.Ieee.{of_bits}
use Rattle.model.specs.Lists.{below, joined, table}
use Rattle.model.specs.Num.{finite}
use Rattle.model.specs.Read.{field, digit_value}
use Rattle.lines_read.specs.Line.{LineOfDigits}

-- the values of the bytes from '0' to 'F'
unfoldable pub digit_values : List ℕ
digit_values = table 23 (λ x. digit_value (48 + x))

-- the L bytes of a text from place a on
abbrev pub line_at : ℕ → ℕ → List ℕ → List ℕ
line_at a L text = take L (drop a text)

-- how long the line of a tile with s numbers is
abbrev pub tile_size : ℕ → ℕ
tile_size s = 7 + 16 * s

-- ---- tiles

-- the first s numbers of a tile's line
unfoldable pub numbers_of : ℕ → List ℕ → List Float
numbers_of s l = map (λ x. of_bits binary64 (field (6 + 16 * x) 16 l)) (below s)

-- a checked line of s numbers
pub record TileLine (s : ℕ) (l : List ℕ) : Type 0 where
  pub size : length l ≡ tile_size s
  pub digits : LineOfDigits l
  pub finite_each : (x : ℕ) → x < s → finite (of_bits binary64 (field (6 + 16 * x) 16 l)) ≡ true

-- n such lines in a row from place a on
pub record TileLines (s n a : ℕ) (text : List ℕ) : Type 0 where
  pub room : a + n * tile_size s ≤ length text
  pub each : (q : ℕ) → q < n → TileLine s (line_at (a + q * tile_size s) (tile_size s) text)

unfoldable pub tiles_from : ℕ → ℕ → ℕ → List ℕ → List Float
tiles_from s n a text = joined (map (λ q. numbers_of s (line_at (a + q * tile_size s) (tile_size s) text)) (below n))
