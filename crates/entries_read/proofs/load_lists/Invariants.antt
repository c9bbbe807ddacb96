-- `entries_read::load_lists` meets its contract: after i turns the first i rows of lists are written. Assumes nothing.
use Prim.Native.Nat.{ℕ, ◌+◌, ◌*◌}
use mathlib.Core.Path.{◌≡◌}
use mathlib.Core.List.{List}
use Rattle.entries_read.specs.Entries.{list_size, above, row_from}
use Rattle.numbers_read.proofs.Filled.{parted}
use Rattle.entries_read.proofs.load_lists.Given as goal

-- the lists of row i
abbrev pub held : List ℕ → ℕ → ℕ → ℕ → ℕ → List ℕ
held text at tiles t i = row_from tiles t (at + above i * list_size t) text i

abbrev pub invariant-loop-i : goal.invariant-loop-i
invariant-loop-i l = (l.a ≡ l.at + above l.i * list_size l.t) × (l.lists ≡ parted (l.tiles * l.t) (held l.text l.at l.tiles l.t) l.initial.lists l.i)
