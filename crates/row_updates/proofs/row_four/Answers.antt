-- `row_four` meets its contract: a group whose multipliers are all the same. Assumes nothing.
use mathlib.Core.Path.{refl}
use native.Mathlib.Nat.{add-zero}
use Rattle.row_updates.proofs.Groups.{numbers_same, at_four}
use Rattle.row_updates.proofs.row_four.Goals as goal

pub returns : goal.returns
returns c = numbers_same _ _ _ _ _ _ _ (at_four _ _ (rw (add-zero c.args.y) refl) refl refl refl) c.update_group.ensures
