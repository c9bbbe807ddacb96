-- The answer is the first refusal that holds. Assumes nothing.
use mathlib.Core.Path.{sym, ap, ◌∙◌}
use Rattle.std.specs.Prelude.{Err}
use Rattle.checks.proofs.Laws.{sized}
use Rattle.open_checks.proofs.Laws.{answer_1, answer_2, answer_3, answer_4}
use Rattle.open_checks.proofs.open_answer.Goals as goal

pub returns-then-bad_sizes : goal.returns-then-bad_sizes
returns-then-bad_sizes c =
    λ slots number. ap Err c.at.ensures ∙ answer_1 _ _ _ _ slots _ number _ c.bad_sizes.ensures c.if-bad_sizes.true

pub bad_lengths-requires : goal.bad_lengths-requires
bad_lengths-requires c =
    sized _ (sym c.bad_sizes.ensures ∙ c.if-bad_sizes.false)

pub returns-then-bad_lengths : goal.returns-then-bad_lengths
returns-then-bad_lengths c =
    λ slots number. ap Err c.at-then-bad_lengths.ensures ∙ answer_2 _ _ _ _ slots _ number _ c.bad_sizes.ensures c.if-bad_sizes.false
    _ (c.bad_lengths.ensures slots number) c.if-bad_lengths.true

pub returns-in-Some : goal.returns-in-Some
returns-in-Some c =
    λ slots number. ap Err c.at-in-Some.ensures ∙ answer_3 _ _ _ _ slots _ number _ c.bad_sizes.ensures c.if-bad_sizes.false
    _ (c.bad_lengths.ensures slots number) c.if-bad_lengths.false
    _ _ c.first_not_finite-found.ensures c.in-Some.is

pub returns-in-None : goal.returns-in-None
returns-in-None c =
    λ slots number. answer_4 _ _ _ _ slots _ number _ c.bad_sizes.ensures c.if-bad_sizes.false
    _ (c.bad_lengths.ensures slots number) c.if-bad_lengths.false
    _ c.first_not_finite-found.ensures c.in-None.is
