-- What is found so far, or in what is left, gives the whole search's answer. Assumes nothing.
use Prim.Native.Nat.{ℕ, ◌+◌, ◌-◌}
use mathlib.Core.Bool.{Bool, ◌||◌}
use mathlib.Core.List.{List}
use mathlib.Core.Path.{◌≡◌}
use lib.ListN.{get_or}
use lib.Dec.{ltb}
use Rattle.model.specs.Lists.{run, some}
use Rattle.entries.proofs.exceeded.Given as goal

-- entry x is above the limit
abbrev pub over : ℕ → List ℕ → ℕ → Bool
over limit lists x = ltb limit (get_or lists x 0)

abbrev pub invariant-loop-x : goal.invariant-loop-x
invariant-loop-x l = (l.bad || some (over l.limit l.lists) (run l.x (l.start + l.t - l.x))) ≡ some (over l.limit l.lists) (run l.start l.t)
