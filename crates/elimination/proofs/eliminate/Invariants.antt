-- `eliminate` meets its contract: what the loop over rows has done is `RowsGone`. Assumes nothing.
use Rattle.elimination.proofs.Eliminated.{RowsGone}
use Rattle.elimination.proofs.eliminate.Given as goal

abbrev pub invariant-loop-r : goal.invariant-loop-r
invariant-loop-r l = RowsGone l.rows l.t l.c l.start l.top l.initial.m l.r l.m
