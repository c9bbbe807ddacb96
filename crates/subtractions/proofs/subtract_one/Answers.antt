-- Each arm returns what the update picks where the test is as the arm found it. Assumes nothing.
use lib.Ieee.{of_bits}
use Rattle.model.specs.Num.{is_zero, update}
use Rattle.subtractions.proofs.subtract_one.Goals as goal

pub returns-then-u : goal.returns-then-u
unfolding of_bits update is_zero
returns-then-u c =
    rw c.if-u.true

pub returns-else-u : goal.returns-else-u
unfolding of_bits update is_zero
returns-else-u c =
    rw c.if-u.false
