-- What an accepted result's text holds, by the places where its parts start. Assumes nothing.
use Rattle.std.specs.Prelude.{Ok, ℕ, ◌+◌, ◌-◌, ◌*◌, ◌≤◌, List, length}
use Rattle.model.specs.declared.FileRead.TheVariants.{ResultRead}
use Rattle.model.specs.Limits.{most_tiles, most_side}
use Rattle.model.specs.Read.{ResultReading, outcome_in}
use Rattle.lines_read.specs.Line.{LineOfDigits}
use Rattle.numbers_read.specs.Decoded.{line_at, tile_size, TileLines, tiles_from}
use Rattle.entries_read.specs.Entries.{above, ListLines, lists_from}

-- the lists start after the header and the tiles
abbrev pub lists_start : ℕ → ℕ → ℕ
lists_start N t = 7 + N * N * tile_size (t * t)

-- the outcome's line is the last one
abbrev pub outcome_text : List ℕ → List ℕ
outcome_text text = line_at (length text - 9) (length text - (length text - 9)) text

-- a text whose lines are those of a result
pub record ResultLines (N t : ℕ) (text : List ℕ) : Type 0 where
  pub small : (N ≤ most_tiles) × (t ≤ most_side)
  pub tiles : TileLines (t * t) (N * N) 7 text
  pub lists : ListLines t (above N) (lists_start N t) text
  pub long : 9 ≤ length text
  pub outcome : LineOfDigits (outcome_text text)

-- what is read of such a text
unfoldable pub loaded_result : ℕ → ℕ → List ℕ → ResultReading
loaded_result N t text = record {
  answer = Ok (ResultRead N t (outcome_in (outcome_text text)));
  matrix = tiles_from (t * t) (N * N) 7 text;
  lists = lists_from N t (lists_start N t) text;
}
