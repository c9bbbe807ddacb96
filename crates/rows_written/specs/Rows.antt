-- The rows of tiles and lists as the loops write them, and the length of a text. Assumes nothing.
use Rattle.std.specs.Prelude.{ℕ, zero, suc, ◌+◌, ◌*◌, List, ◌++◌, map, Float}
use Rattle.model.specs.Lists.{below, joined, part}
use Rattle.model.specs.Text.{hex, bits, line}

-- row i of tiles, s numbers each
unfoldable pub tile_row : ℕ → ℕ → List Float → ℕ → List ℕ
tile_row N s m i = joined (map (λ j. line (hex 2 2 ++ hex 2 i ++ hex 2 j ++ joined (map bits (part ((i * N + j) * s) s m)))) (below N))

unfoldable pub tile_rows : ℕ → ℕ → List Float → List ℕ
tile_rows N s m = joined (map (tile_row N s m) (below N))

-- row i of the lists with I ≥ J, t entries each
unfoldable pub list_row : ℕ → ℕ → List ℕ → ℕ → List ℕ
list_row N t l i = joined (map (λ j. line (hex 2 3 ++ hex 2 i ++ hex 2 j ++ joined (map (hex 2) (part ((i * N + j) * t) t l)))) (below (i + 1)))

unfoldable pub list_rows : ℕ → ℕ → List ℕ → List ℕ
list_rows N t l = joined (map (list_row N t l) (below N))

-- 1 + 2 + .. + n
unfoldable pub triangle : ℕ → ℕ
triangle zero = 0
triangle (suc n) = triangle n + suc n

-- how many bytes the text of a system has, and of a result
unfoldable pub system_length : ℕ → ℕ → ℕ
system_length N t = 7 + N * (N * (7 + t * t * 16))

unfoldable pub result_length : ℕ → ℕ → ℕ
result_length N t = system_length N t + triangle N * (7 + t * 2) + 9
