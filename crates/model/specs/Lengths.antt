-- Lent slices that are as long as document 01 states. Assumes nothing.
use Rattle.std.specs.Prelude.{ℕ, ◌*◌, ◌≡◌, List, length, Float}
use Rattle.model.specs.declared.Sizes.{Sizes}
use Rattle.model.specs.Task.{tasks}

-- (N·t)² numbers, N²·t entries, and a record for each task
abbrev pub MatrixFits : Sizes → List Float → Type 0
MatrixFits z m = length m ≡ z.tiles * z.side * (z.tiles * z.side)

abbrev pub ListsFit : Sizes → List ℕ → Type 0
ListsFit z l = length l ≡ z.tiles * z.tiles * z.side

abbrev pub RecordsFit : Sizes → List (List ℕ) → Type 0
RecordsFit z r = length r ≡ length (tasks z.tiles)

-- the matrix and the lists together, and all three
pub record BuffersFit (z : Sizes) (m : List Float) (l : List ℕ) : Type 0 where
  pub matrix_fits : MatrixFits z m
  pub lists_fit : ListsFit z l

pub record LentFits (z : Sizes) (m : List Float) (l : List ℕ) (r : List (List ℕ)) : Type 0 where
  pub buffers : BuffersFit z m l
  pub records_fit : RecordsFit z r
