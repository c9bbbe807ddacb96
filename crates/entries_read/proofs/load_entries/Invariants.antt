-- `entries_read::load_entries` meets its contract: after x turns the first x entries are written. Assumes nothing.
use Prim.Native.Nat.{ℕ, ◌+◌, ◌*◌}
use mathlib.Core.Path.{◌≡◌}
use mathlib.Core.List.{List}
use Rattle.model.specs.Read.{field}
use Rattle.numbers_read.proofs.Filled.{written}
use Rattle.entries_read.proofs.load_entries.Given as goal

abbrev pub entry : List ℕ → ℕ → ℕ
entry l x = field (6 + 2 * x) 2 l

abbrev pub invariant-loop-x : goal.invariant-loop-x
invariant-loop-x l = l.list ≡ written (entry l.line) l.initial.list l.x
