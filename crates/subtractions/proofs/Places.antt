-- Where the rows of tiles and the parts of a right side stand. Assumes nothing.
use Prim.Native.Nat.{ℕ, ◌+◌, ◌*◌, ◌<◌, ◌≤◌}
use mathlib.Core.List.{List}
use native.Mathlib.Nat.{mul-le-mul}
use native.Mathlib.Omega.{arith}
use lib.ListN.{length}
use lib.Ieee.{Float}
use Rattle.model.specs.declared.Sizes.{Sizes}
use Rattle.column_laws.specs.Steps.{tile_start}
use Rattle.column_laws.proofs.Places.{matrix_most}
use Rattle.laws.proofs.Blocks.{row_end, place_room, square_most}
use Rattle.subtractions.specs.Subtracted.{BackwardFits}

-- row r of tile (i,j), and part j of the right side
pub record Placed (z : Sizes) (m y : List Float) (i j r : ℕ) : Type 0 where
  pub room : tile_start z.tiles z.side i j + z.side * z.side ≤ length m
  pub row : r * z.side + z.side ≤ z.side * z.side
  pub square : z.side * z.side ≤ 256
  pub numbers_few : length m ≤ 65536
  pub part : j * z.side + z.side ≤ length y
  pub right_few : length y ≤ 256

pub placed : {z : Sizes} {m y : List Float} → BackwardFits z m y → (i j r : ℕ) → i < z.tiles → j < z.tiles → r < z.side → Placed z m y i j r
placed {z} {m} {y} u i j r hi hj hr =
    let few : z.tiles * z.side ≤ 256 = mul-le-mul u.tiles_most u.side_most in
    record {
      room = omega (arith, u.matrix_fits, place_room z.tiles (z.side * z.side) i j hi hj);
      row = row_end r z.side z.side hr;
      square = square_most z.side u.side_most;
      numbers_few = omega (arith, u.matrix_fits, matrix_most z.tiles z.side u.tiles_most u.side_most);
      part = omega (arith, u.long, row_end j z.tiles z.side hj);
      right_few = omega (arith, u.long);
    }
