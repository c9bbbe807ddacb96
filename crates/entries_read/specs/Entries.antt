-- What the lists' lines of a checked text hold, by the places where they start. Assumes nothing.
use Rattle.std.specs.Prelude.{ℕ, suc, ◌+◌, ◌*◌, ◌≤◌, ◌<◌, ◌≡◌, cond, List, map, leb, length, replicate}
use Rattle.model.specs.Lists.{below, joined}
use Rattle.model.specs.Read.{entries_in}
use Rattle.lines_read.specs.Line.{LineOfDigits}
use Rattle.numbers_read.specs.Decoded.{line_at}

-- how long the line of a list with t entries is
abbrev pub list_size : ℕ → ℕ
list_size t = 7 + 2 * t

-- a checked line of t entries
pub record ListLine (t : ℕ) (l : List ℕ) : Type 0 where
  pub size : length l ≡ list_size t
  pub digits : LineOfDigits l

-- how many lists there are with I ≥ J above row i
unfoldable pub above : ℕ → ℕ
above i = length (joined (map (λ r. below (suc r)) (below i)))

-- n such lines in a row from place a on
pub record ListLines (t n a : ℕ) (text : List ℕ) : Type 0 where
  pub room : a + n * list_size t ≤ length text
  pub each : (q : ℕ) → q < n → ListLine t (line_at (a + q * list_size t) (list_size t) text)

-- list (i,j), where those of row i start at place a: above the diagonal it is 0
unfoldable pub list_from : ℕ → ℕ → List ℕ → ℕ → ℕ → List ℕ
list_from t a text i j = cond (leb j i) (entries_in t (line_at (a + j * list_size t) (list_size t) text)) (replicate t 0)

unfoldable pub row_from : ℕ → ℕ → ℕ → List ℕ → ℕ → List ℕ
row_from N t a text i = joined (map (list_from t a text i) (below N))

unfoldable pub lists_from : ℕ → ℕ → ℕ → List ℕ → List ℕ
lists_from N t a text = joined (map (λ i. row_from N t (a + above i * list_size t) text i) (below N))
