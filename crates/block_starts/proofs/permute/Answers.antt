-- `permute` meets its contract: after c turns the exchanges of the entries from c on are left. Assumes nothing.
use native.Mathlib.Omega.{arith}
use Prim.Native.Nat.{◌<◌}
use Rattle.column_laws.proofs.Permutes.{rows_exchangeable, permute_none, permute_more, permute_all}
use Rattle.laws.proofs.Blocks.{row_end}
use Rattle.block_starts.proofs.permute.Goals as goal

pub loop-c-init : goal.loop-c-init
loop-c-init c =
    let a = c.args in permute_none a.t a.w a.a a.p a.lists.now a.m.now c.requires.block.room c.requires.t_in_bounds.0

pub exchange-requires : goal.exchange-requires
exchange-requires c =
    let a = c.args in
    let long = c.loop-c.invariant.long in
    let b = c.requires.block in
    let entry : c.from-y.result < a.t = rw c.from-y.ensures (c.requires.t_in_bounds.2 c.loop-c.c c.loop-c-test.true) in (
      omega (arith, long, b.room, row_end c.loop-c.c a.t a.w c.loop-c-test.true),
      omega (arith, long, b.room, row_end c.from-y.result a.t a.w entry),
      rows_exchangeable a.w a.a c.loop-c.c c.from-y.result,
    )

pub loop-c-preserved : goal.loop-c-preserved
loop-c-preserved c =
    let a = c.args in
    let entry : c.from-y.result < a.t = rw c.from-y.ensures (c.requires.t_in_bounds.2 c.loop-c.c c.loop-c-test.true) in
    permute_more a.t a.w a.a a.p a.lists.now a.m.now c.requires.block.room c.requires.t_in_bounds.0 _ _ c.loop-c.invariant c.from-y.result _ c.loop-c-test.true entry c.from-y.ensures c.exchange.ensures

pub returns : goal.returns
returns c =
    let a = c.args in permute_all a.t a.w a.a a.p a.lists.now a.m.now c.requires.block.room c.requires.t_in_bounds.0 _ _ c.loop-c.invariant c.loop-c-test.false
