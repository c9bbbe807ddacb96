-- `exchange` meets its contract: after i turns the first i pairs are exchanged. Assumes nothing.
use Rattle.exchanges.proofs.Swapped.{Swapped}
use Rattle.exchanges.proofs.exchange.Given as goal

abbrev pub invariant-loop-i : goal.invariant-loop-i
invariant-loop-i l = Swapped l.a l.b l.i l.initial.m l.m
