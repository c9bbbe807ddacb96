-- `column_one` meets its contract: a group of one. Assumes nothing.
use native.Mathlib.Nat.{add-zero, zero-mul}
use Rattle.row_updates.proofs.Groups.{numbers_same, at_one}
use Rattle.row_updates.proofs.column_one.Goals as goal

pub returns : goal.returns
returns c = numbers_same _ _ _ _ _ _ _ (at_one _ _ (rw (zero-mul 0, add-zero c.args.q))) c.update_group.ensures
