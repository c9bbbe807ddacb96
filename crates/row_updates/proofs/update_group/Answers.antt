-- `update_group` meets its contract: the numbers below k are stored and tested. Assumes nothing.
use mathlib.Core.Path.{◌∙◌, ap}
use mathlib.Core.Logic.{inr}
use native.Mathlib.Omega.{arith}
use lib.ListN.{get_or}
use lib.Ieee.{Float, nan}
use Rattle.model.specs.Num.{update}
use Rattle.row_updates.proofs.Groups.{numbers_none, numbers_more}
use Rattle.row_updates.proofs.update_group.Goals as goal

pub loop-k-init : goal.loop-k-init
loop-k-init g c = numbers_none _ _ _

pub loop-k-preserved : goal.loop-k-preserved
loop-k-preserved g c =
    let l = c.loop-k in
    numbers_more _ _ _ _ _ _ _ _ l.invariant (omega arith) (c.update-v.ensures ∙ ap (λ (x : Float). update x (get_or c.args.by l.k nan) (get_or c.args.upper l.k nan)) (l.invariant.outside _ (inr (omega arith)))) c.is_finite-good.ensures
