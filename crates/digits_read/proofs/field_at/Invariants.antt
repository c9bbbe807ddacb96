-- `digits_read::field_at` meets its contract. The loop's invariant: v is the field of the digits passed. Assumes nothing.
use mathlib.Core.Path.{◌≡◌}
use Rattle.model.specs.Read.{field}
use Rattle.digits_read.proofs.field_at.Given as goal

abbrev pub invariant-loop-k : goal.invariant-loop-k
invariant-loop-k l = l.v ≡ field l.p l.k l.line
