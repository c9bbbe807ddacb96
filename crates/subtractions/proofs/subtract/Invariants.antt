-- What is left to subtract from j on is the whole. Assumes nothing.
use mathlib.Core.Path.{◌≡◌}
use Prim.Native.Nat.{◌+◌, ◌-◌}
use lib.ListN.{get_or}
use lib.Ieee.{nan}
use Rattle.subtractions.specs.Subtracted.{subtracted}
use Rattle.subtractions.proofs.subtract.Given as goal

abbrev pub invariant-loop-j : goal.invariant-loop-j
invariant-loop-j l = subtracted (λ k. get_or l.matrix (l.a + k) nan) (λ k. get_or l.y (l.b + k) nan) l.j (l.count - l.j) l.left ≡ subtracted (λ k. get_or l.matrix (l.a + k) nan) (λ k. get_or l.y (l.b + k) nan) 0 l.count l.d
