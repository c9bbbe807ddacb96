-- `digits_written::put_numbers` meets its contract: after k turns the first k numbers are written. Assumes nothing.
use mathlib.Core.List.{map}
use Prim.Native.Nat.{◌*◌}
use Rattle.model.specs.Lists.{joined, part}
use Rattle.model.specs.Text.{bits}
use Rattle.digits_written.proofs.Put.{Put}
use Rattle.digits_written.proofs.put_numbers.Given as goal

abbrev pub invariant-loop-k : goal.invariant-loop-k
invariant-loop-k l = Put l.at (l.k * 16) (joined (map bits (part l.start l.k l.m))) l.initial.text l.text
