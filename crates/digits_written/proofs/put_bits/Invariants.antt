-- `digits_written::put_bits` meets its contract: the digits are written from the lowest on. Assumes nothing.
use Rattle.digits_written.proofs.Put.{Hexed}
use Rattle.digits_written.proofs.put_bits.Given as goal

abbrev pub invariant-loop-k : goal.invariant-loop-k
invariant-loop-k l = Hexed l.at 16 l.value l.initial.text l.k l.rest l.text
