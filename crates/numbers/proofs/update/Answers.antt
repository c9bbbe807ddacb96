-- `numbers::update` meets its contract: each arm returns what `cond` picks where the test is as the arm found it. Assumes nothing.
use lib.Ieee.{of_bits}
use Rattle.model.specs.Num.{is_zero, update}
use Rattle.numbers.proofs.update.Goals as goal

pub returns-then-m : goal.returns-then-m
unfolding of_bits update is_zero
returns-then-m c =
    rw c.if-m.true

pub returns-else-m : goal.returns-else-m
unfolding of_bits update is_zero
returns-else-m c =
    rw c.if-m.false
