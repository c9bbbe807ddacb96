-- `digits_read::digit_value` meets its contract: a digit is in one of two ranges. Assumes nothing.
use mathlib.Core.Path.{◌∙◌}
use Rattle.digits_read.proofs.Fields.{value_by_bits}
use Rattle.digits_read.proofs.digit_value.Goals as goal

pub returns : goal.returns
returns c = c.from.ensures ∙ value_by_bits _ c.requires
