-- `digits_written::put_entries` meets its contract: after k turns the first k entries are written. Assumes nothing.
use mathlib.Core.List.{map}
use Prim.Native.Nat.{◌*◌}
use Rattle.model.specs.Lists.{joined, part}
use Rattle.model.specs.Text.{hex}
use Rattle.digits_written.proofs.Put.{Put}
use Rattle.digits_written.proofs.put_entries.Given as goal

abbrev pub invariant-loop-k : goal.invariant-loop-k
invariant-loop-k l = Put l.at (l.k * 2) (joined (map (hex 2) (part l.start l.k l.l))) l.initial.text l.text
