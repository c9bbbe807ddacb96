-- `exchange` meets its contract: after i turns the first i pairs are exchanged. Assumes nothing.
use mathlib.Core.Path.{◌≡◌}
use native.Mathlib.Omega.{arith}
use Rattle.exchanges.proofs.Swapped.{swapped_more, swapped_is}
use Rattle.exchanges.proofs.exchange.Goals as goal

pub loop-i-preserved : goal.loop-i-preserved
loop-i-preserved c =
    let p = c.requires in
    swapped_more _ _ _ p.2 _ _ _ c.loop-i.invariant c.loop-i-test.true p.0 p.1

pub returns : goal.returns
returns c =
    let p = c.requires in
    let l = c.loop-i in
    let e : l.i ≡ c.args.n = omega arith in
    swapped_is _ _ _ _ _ (rw e at l.invariant) p.0 p.1
