-- How many bytes of a text decide what the program prints. Assumes nothing.
use Rattle.std.specs.Prelude.{Ok, Err, ℕ, ◌+◌, ◌*◌, List}
use Rattle.model.specs.Limits.{program_order}
use Rattle.header_read.specs.Heads.{Header, header_of}

-- a byte more than a system of N by N tiles has, t by t each
abbrev pub system_due : ℕ → ℕ → ℕ
system_due N t = 8 + N * (N * (7 + t * t * 16))

abbrev pub due_behind : Header → ℕ
due_behind (Ok h) = system_due h.tiles h.side
due_behind (Err why) = 7

unfoldable pub bytes_due : List ℕ → ℕ
bytes_due text = due_behind (header_of program_order text)
