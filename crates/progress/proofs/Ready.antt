-- Where tiles, lists and parts of the right side stand in what was lent. Assumes nothing.
use Prim.Native.Nat.{ℕ, ◌+◌, ◌*◌, ◌<◌, ◌≤◌}
use mathlib.Core.Path.{◌≡◌}
use mathlib.Core.List.{List}
use native.Mathlib.Nat.{mul-le-mul}
use native.Mathlib.Omega.{arith}
use lib.ListN.{length}
use lib.Ieee.{Float}
use Rattle.model.specs.declared.Sizes.{Sizes}
use Rattle.column_laws.specs.Steps.{tile_start, list_start}
use Rattle.column_laws.proofs.Places.{matrix_most, lists_most}
use Rattle.laws.proofs.Blocks.{row_end, place_room, square_most}
use Rattle.progress.specs.Right.{Solvable}

-- one tile, its list, and the numbers of a right side
pub record Ready (z : Sizes) (i k : ℕ) (m : List Float) (l : List ℕ) : Type 0 where
  pub square : z.side * z.side ≤ 256
  pub numbers_few : length m ≤ 65536
  pub lists_few : length l ≤ 4096
  pub room : tile_start z.tiles z.side i k + z.side * z.side ≤ length m
  pub list_room : list_start z.tiles z.side i k + z.side ≤ length l

pub ready : {z : Sizes} {m : List Float} {l : List ℕ} → Solvable z m l → (i k : ℕ) → i < z.tiles → k < z.tiles → Ready z i k m l
ready {z} {m} {l} s i k hi hk = record {
  square = square_most z.side s.side_most;
  numbers_few = omega (arith, s.lengths.matrix_fits, matrix_most z.tiles z.side s.tiles_most s.side_most);
  lists_few = omega (arith, s.lengths.lists_fit, lists_most z.tiles z.side s.tiles_most s.side_most);
  room = omega (arith, s.lengths.matrix_fits, place_room z.tiles (z.side * z.side) i k hi hk);
  list_room = omega (arith, s.lengths.lists_fit, place_room z.tiles z.side i k hi hk);
}

-- part i of the right side, and how long that is
pub right_room : (z : Sizes) (y : List Float) → length y ≡ z.tiles * z.side → (i : ℕ) → i < z.tiles → i * z.side + z.side ≤ length y
right_room z y e i h = omega (arith, row_end i z.tiles z.side h)

pub right_few : (z : Sizes) (y : List Float) → length y ≡ z.tiles * z.side → z.tiles ≤ 16 → z.side ≤ 16 → length y ≤ 256
right_few z y e hN ht = let b : z.tiles * z.side ≤ 256 = mul-le-mul hN ht in omega arith
