-- The limits of document 01: the largest N, t, W and n = N·t, the largest n that the program takes, and the number of tasks of the largest N.
-- Assumes nothing.
use Rattle.std.specs.Prelude.{ℕ}

abbrev pub most_tiles : ℕ
most_tiles = 16

abbrev pub most_side : ℕ
most_side = 16

abbrev pub most_workers : ℕ
most_workers = 32

abbrev pub most_order : ℕ
most_order = 256

abbrev pub program_order : ℕ
program_order = 48

abbrev pub most_tasks : ℕ
most_tasks = 1496
