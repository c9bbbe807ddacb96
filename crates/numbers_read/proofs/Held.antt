-- Laws of what the tiles' lines of a checked text hold. Assumes nothing.
use Prim.Native.Nat.{ℕ, ◌+◌, ◌*◌}
use mathlib.Core.Path.{◌≡◌}
use mathlib.Core.List.{List}
use lib.ListN.{length}
use lib.Ieee.{binary64, of_bits}
use Rattle.model.specs.Read.{field}
use Rattle.laws.proofs.Runs.{length_map_below}
use Rattle.numbers_read.specs.Decoded.{numbers_of}

pub length_numbers : (s : ℕ) (l : List ℕ) → length (numbers_of s l) ≡ s
unfolding numbers_of
length_numbers s l = length_map_below (λ x. of_bits binary64 (field (6 + 16 * x) 16 l)) s
