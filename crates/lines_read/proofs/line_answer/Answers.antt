-- `lines_read::line_answer` meets its contract: the three refusals in turn. Assumes nothing.
use mathlib.Core.Path.{sym, ap, ◌∙◌}
use native.Mathlib.Omega.{arith}
use Rattle.std.specs.Prelude.{Err}
use Rattle.lines_read.proofs.Tested.{line_of_digits, length_above, well_formed, answer_12, answer_13, answer_3, answer_accepted}
use Rattle.lines_read.proofs.line_answer.Goals as goal

pub is_malformed-requires-clause-in_bounds : goal.is_malformed-requires-clause-in_bounds
is_malformed-requires-clause-in_bounds c =
    omega (arith, c.requires.line_len, length_above c.args.t c.args.due.kind)

pub returns-then-is_malformed : goal.returns-then-is_malformed
returns-then-is_malformed c =
    ap Err c.at.ensures ∙ answer_12 _ _ _ _ c.requires.line_len (sym c.is_malformed.ensures ∙ c.if-is_malformed.true)

pub wrong_frame-requires : goal.wrong_frame-requires
wrong_frame-requires c =
    line_of_digits _ (omega (arith, c.requires.line_len, length_above c.args.t c.args.due.kind)) (well_formed c.args.t _ (sym c.is_malformed.ensures ∙ c.if-is_malformed.false))

pub returns-then-wrong_frame : goal.returns-then-wrong_frame
returns-then-wrong_frame c =
    ap Err c.at-then-wrong_frame.ensures ∙ answer_13 _ _ _ _ c.requires.line_len (sym c.is_malformed.ensures ∙ c.if-is_malformed.false) (sym c.wrong_frame.ensures ∙ c.if-wrong_frame.true)

pub not_finite-requires-clause-line_of_digits : goal.not_finite-requires-clause-line_of_digits
not_finite-requires-clause-line_of_digits c =
    line_of_digits _ (omega (arith, c.requires.line_len, length_above c.args.t c.args.due.kind)) (well_formed c.args.t _ (sym c.is_malformed.ensures ∙ c.if-is_malformed.false))

pub returns-then-not_finite : goal.returns-then-not_finite
returns-then-not_finite c =
    ap Err c.at-then-not_finite.ensures ∙ answer_3 _ _ _ _ c.requires.line_len (sym c.is_malformed.ensures ∙ c.if-is_malformed.false) (sym c.wrong_frame.ensures ∙ c.if-wrong_frame.false) (sym c.not_finite.ensures ∙ c.if-not_finite.true)

pub returns : goal.returns
returns c =
    answer_accepted _ _ _ _ c.requires.line_len (sym c.is_malformed.ensures ∙ c.if-is_malformed.false) (sym c.wrong_frame.ensures ∙ c.if-wrong_frame.false) (sym c.not_finite.ensures ∙ c.if-not_finite.false)
