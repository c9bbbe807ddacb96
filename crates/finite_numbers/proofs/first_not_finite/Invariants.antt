-- What is left to search gives the whole search's answer. Assumes nothing.
use Prim.Native.Nat.{◌-◌}
use mathlib.Core.Bool.{cond}
use mathlib.Core.Path.{◌≡◌}
use lib.ListN.{length}
use Rattle.model.specs.Refusal.{first_not_finite}
use Rattle.model.specs.Tile.{all_finite}
use Rattle.model.specs.Lists.{run}
use Rattle.std.specs.Prelude.{Some, None}
use Rattle.finite_numbers.proofs.Laws.{is_broken, lowest}
use Rattle.finite_numbers.proofs.first_not_finite.Given as goal

abbrev pub invariant-loop-x : goal.invariant-loop-x
invariant-loop-x l = lowest (is_broken l.numbers) (run l.x (length l.numbers - l.x)) ≡ cond (all_finite l.numbers) None (Some (first_not_finite l.numbers))
