-- What the theory of inner blocks sees of tiles, slices and row lists. Assumes nothing.
use Rattle.std.specs.Prelude.{ℕ, List, get_or, Float}
use Rattle.inner_theory.specs.Stack.{up, low}
use Rattle.inner_theory.specs.Columns
use Rattle.inner_theory.specs.Columns.{Tiles}
use Rattle.model.specs.Tile.{at}
use Rattle.model.specs.Column.{Coupled}
use Rattle.inner_tiles.specs.Inner.{Inner}
use Rattle.inner_tiles.specs.Instance.{ieee, named}

unfoldable pub stack : (t w : ℕ) → List Float → List Float → Tiles (ieee t)
stack t w u d (up i) q = at w u i q
stack t w u d (low r) q = at w d r.0 q

abbrev pub view₃ : (t : ℕ) → Coupled → Columns.Coupled (ieee t)
view₃ t s = record { tiles = stack t t s.upper s.lower; rows = λ c. named t (get_or s.rows c 0) }

abbrev pub viewᵇ : (t b : ℕ) → Inner → Columns.Blocked (ieee t)
viewᵇ t b s = record { tiles = stack t t s.upper s.lower; slice = λ i p. at b s.slice i p; rows = λ c. named t (get_or s.rows c 0) }
