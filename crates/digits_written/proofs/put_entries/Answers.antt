-- `digits_written::put_entries` meets its contract: after k turns the first k entries are written. Assumes nothing.
use mathlib.Core.Path.{refl}
use Prim.Native.Nat.{◌+◌, ◌*◌}
use native.Mathlib.Omega.{arith}
use Rattle.model.specs.Text.{hex}
use Rattle.digits_written.proofs.Put.{length_hex}
use Rattle.digits_written.proofs.Pieces.{part_none, part_more}
use Rattle.digits_written.proofs.put_entries.Goals as goal

pub loop-k-init : goal.loop-k-init
loop-k-init c = part_none (hex 2) 2 (length_hex 2) _ c.args.start c.args.l.now _ (omega arith)

pub loop-k-preserved : goal.loop-k-preserved
loop-k-preserved c =
    let a = c.args in
    let k = c.loop-k.k in
    part_more (hex 2) 2 (length_hex 2) a.at a.start k (a.at + k * 2) a.l.now 0 a.text.now _ _ c.loop-k.invariant (omega arith) refl (omega arith) (rw c.from.ensures at c.put_hex.ensures)
