-- The candidates of a pivot search on a flat matrix. Assumes nothing.
use Rattle.std.specs.Prelude.{ℕ, ◌+◌, ◌*◌, List, ◌∷◌, get_or, Float}
use Rattle.std.specs.Float.{nan}
use Rattle.model.specs.Lists.{table}

-- the number at `first`, then `count` numbers from `rest` on, `stride` apart
unfoldable pub candidates : List Float → ℕ → ℕ → ℕ → ℕ → List Float
candidates m first rest stride count = get_or m first nan ∷ table count (λ i. get_or m (rest + i * stride) nan)
