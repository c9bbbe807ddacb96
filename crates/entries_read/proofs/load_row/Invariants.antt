-- `entries_read::load_row` meets its contract: after j turns the first j lists are written. Assumes nothing.
use mathlib.Core.Path.{◌≡◌}
use Rattle.entries_read.specs.Entries.{list_from}
use Rattle.numbers_read.proofs.Filled.{parted}
use Rattle.entries_read.proofs.load_row.Given as goal

abbrev pub invariant-loop-j : goal.invariant-loop-j
invariant-loop-j l = l.row ≡ parted l.t (list_from l.t l.at l.text l.i) l.initial.row l.j
