-- `digits_read::is_digit` meets its contract, whose definition makes the same tests. Assumes nothing.
use mathlib.Core.Path.{refl}
use Rattle.model.specs.Read.{is_digit}
use Rattle.digits_read.proofs.is_digit.Goals as goal

pub returns : goal.returns
unfolding is_digit
returns c =
    refl
