-- `column_four` meets its contract: a group whose upper numbers are all the same. Assumes nothing.
use mathlib.Core.Path.{refl}
use native.Mathlib.Nat.{add-zero, zero-mul, one-mul}
use Rattle.row_updates.proofs.Groups.{numbers_same, at_four}
use Rattle.row_updates.proofs.column_four.Goals as goal

pub returns : goal.returns
returns c = let s = c.args.stride in numbers_same _ _ _ _ _ _ _ (at_four _ _ (rw (zero-mul s, add-zero c.args.q)) (rw (one-mul s)) refl refl) c.update_group.ensures
