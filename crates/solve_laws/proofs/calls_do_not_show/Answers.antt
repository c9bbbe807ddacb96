-- `calls_do_not_show` meets its contract, which is the theorem. Assumes nothing.
use Rattle.solve_laws.proofs.Laws.{solves_promise}
use Rattle.solve_laws.proofs.calls_do_not_show.Goals as goal

pub returns : goal.returns
returns c =
    solves_promise c.args.z
