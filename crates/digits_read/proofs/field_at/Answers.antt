-- `digits_read::field_at` meets its contract. The loop's invariant: v is the field of the digits passed. Assumes nothing.
use Prim.Native.Nat.{◌<◌, ◌^◌}
use mathlib.Core.Path.{sym}
use native.Mathlib.Numerals.{add-one}
use native.Mathlib.Omega.{arith}
use Rattle.laws.proofs.Texts.{value_lt}
use Rattle.digits_read.proofs.Fields.{field_none, field_suc, field_room}
use Rattle.digits_read.proofs.field_at.Goals as goal

pub loop-k-init : goal.loop-k-init
loop-k-init c = sym (field_none _ _)

pub overflow_mul-v : goal.overflow_mul-v
overflow_mul-v c = let room : c.loop-k.v < 2 ^ 60 = rw c.loop-k.invariant (field_room _ _ _ _ c.requires c.loop-k-test.true) in omega arith

pub overflow_add-v : goal.overflow_add-v
overflow_add-v c =
    let room : c.loop-k.v < 2 ^ 60 = rw c.loop-k.invariant (field_room _ _ _ _ c.requires c.loop-k-test.true) in
    omega (arith, value_lt _ (c.requires.digits _ c.loop-k-test.true), c.digit_value.ensures)

pub loop-k-preserved : goal.loop-k-preserved
loop-k-preserved c =
    let a = c.args in
    rw add-one (cc (field_suc a.p c.loop-k.k a.line.now (omega (arith, c.requires.inside))))
