-- What a backward row's inner loop does, and what the rows need of their caller. Assumes nothing.
use Rattle.std.specs.Prelude.{ℕ, zero, suc, ◌*◌, ◌≤◌, ◌≡◌, true, List, length, Float}
use Rattle.model.specs.declared.Sizes.{Sizes}
use Rattle.model.specs.Lengths.{MatrixFits}
use Rattle.model.specs.Limits.{most_tiles, most_side}
use Rattle.model.specs.Num.{update}
use Rattle.model.specs.Tile.{all_finite}

-- what is left of d once u j · v j is subtracted for the n places from j on, in turn, skipped where u j is a zero
unfoldable pub subtracted : (ℕ → Float) → (ℕ → Float) → ℕ → ℕ → Float → Float
subtracted u v j zero d = d
subtracted u v j (suc n) d = subtracted u v (suc j) n (update d (u j) (v j))

-- a finite matrix, and a right side as long as its order
pub record BackwardFits (z : Sizes) (m y : List Float) : Type 0 where
  pub tiles_most : z.tiles ≤ most_tiles
  pub side_most : z.side ≤ most_side
  pub matrix_fits : MatrixFits z m
  pub all_finite_lem : all_finite m ≡ true
  pub long : length y ≡ z.tiles * z.side
