-- `demand::order_does_not_matter` meets its contract, which is the theorem.
-- Assumes nothing.
use Rattle.demand.proofs.Corollaries.{promise}
use Rattle.demand.proofs.order_does_not_matter.Goals as goal

pub returns : goal.returns
returns c =
    promise c.args.z
