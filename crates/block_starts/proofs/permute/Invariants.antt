-- `permute` meets its contract: after c turns the exchanges of the entries from c on are left. Assumes nothing.
use Rattle.column_laws.proofs.Permutes.{Permuting}
use Rattle.block_starts.proofs.permute.Given as goal

abbrev pub invariant-loop-c : goal.invariant-loop-c
invariant-loop-c l = Permuting l.t l.w l.a l.p l.lists l.initial.m l.m l.c
