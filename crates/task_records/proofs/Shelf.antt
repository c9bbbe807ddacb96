-- How long a task record's copy is. Assumes nothing.
use Prim.Native.Nat.{ℕ}

-- the bytes of a copy, `records::RECORD`
abbrev pub bytes : ℕ
bytes = 16
