-- `outcome_read::outcome_at` meets its contract, a law for each outcome. Assumes nothing.
use native.Mathlib.Omega.{arith}
use Rattle.digits_read.proofs.Fields.{field_lt}
use Rattle.lines_read.proofs.Tested.{field_in}
use Rattle.outcome_read.proofs.outcome_at.Goals as goal

pub overflow_cast-place : goal.overflow_cast-place
overflow_cast-place c =
    let f = field_in c.args.line.now 4 4 c.requires.line_of_digits (omega (arith, c.requires.line_len)) (omega arith) in
    omega (arith, c.field_at-place.ensures, field_lt 4 4 c.args.line.now f.inside f.digits)
