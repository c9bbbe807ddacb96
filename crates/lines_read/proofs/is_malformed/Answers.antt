-- `lines_read::is_malformed` meets its contract, a law for each return. Assumes nothing.
use mathlib.Core.Path.{sym, ◌∙◌}
use native.Mathlib.Omega.{arith}
use Rattle.model.specs.Read.{kind_in}
use Rattle.lines_read.proofs.Tested.{line_of_digits, field_in, list_line_lem, outcome_line_lem}
use Rattle.lines_read.proofs.is_malformed.Goals as goal

pub field_at-requires : goal.field_at-requires
field_at-requires c =
    field_in _ _ _ (line_of_digits _ c.requires.in_bounds (sym c.not_digits.ensures ∙ c.if-not_digits.false)) (omega (arith, c.requires.in_bounds)) (omega arith)

pub bad_entries-requires-clause-line_of_digits : goal.bad_entries-requires-clause-line_of_digits
bad_entries-requires-clause-line_of_digits c =
    line_of_digits _ c.requires.in_bounds (sym c.not_digits.ensures ∙ c.if-not_digits.false)

pub bad_outcome-requires : goal.bad_outcome-requires
bad_outcome-requires c =
    line_of_digits _ c.requires.in_bounds (sym c.not_digits.ensures ∙ c.if-not_digits.false)

pub returns-in-3 : goal.returns-in-3
unfolding kind_in
returns-in-3 c =
    c.bad_entries.ensures ∙ list_line_lem _ _ (sym c.not_digits.ensures ∙ c.if-not_digits.false) (sym c.field_at.ensures ∙ c.in-3.is)

pub returns-in-4 : goal.returns-in-4
unfolding kind_in
returns-in-4 c =
    c.bad_outcome.ensures ∙ outcome_line_lem _ _ (sym c.not_digits.ensures ∙ c.if-not_digits.false) (sym c.field_at.ensures ∙ c.in-4.is)
