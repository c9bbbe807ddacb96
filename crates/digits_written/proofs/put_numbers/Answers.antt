-- `digits_written::put_numbers` meets its contract: after k turns the first k numbers are written. Assumes nothing.
use mathlib.Core.Path.{refl}
use Prim.Native.Nat.{◌+◌, ◌*◌}
use native.Mathlib.Omega.{arith}
use lib.Ieee.{nan}
use Rattle.model.specs.Lists.{run, below, table}
use Rattle.model.specs.Text.{bits, digit}
use Rattle.digits_written.proofs.Pieces.{part_none, part_more, length_bits}
use Rattle.digits_written.proofs.put_numbers.Goals as goal

pub loop-k-init : goal.loop-k-init
loop-k-init c = part_none bits 16 length_bits _ c.args.start c.args.m.now _ (omega arith)

pub put_bits-requires-clause-digits_value : goal.put_bits-requires-clause-digits_value
unfolding run below table digit
put_bits-requires-clause-digits_value c = refl

pub loop-k-preserved : goal.loop-k-preserved
unfolding bits
loop-k-preserved c =
    let a = c.args in
    let k = c.loop-k.k in
    part_more bits 16 length_bits a.at a.start k (a.at + k * 16) a.m.now nan a.text.now _ _ c.loop-k.invariant (omega arith) refl (omega arith) (rw c.bits_of.ensures at c.put_bits.ensures)
