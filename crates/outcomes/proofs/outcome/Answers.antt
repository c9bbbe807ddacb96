-- The first refusal that holds, else what was found. Assumes nothing.
use Rattle.std.specs.Prelude.{Err}
use mathlib.Core.Path.{sym, ◌∙◌, ap}
use Rattle.checks.proofs.Laws.{sized}
use Rattle.outcomes.proofs.Laws.{answer_1, answer_2, answer_3, answer_4, fits}
use Rattle.outcomes.proofs.outcome.Goals as goal

pub returns-then-bad_sizes : goal.returns-then-bad_sizes
returns-then-bad_sizes c =
    ap Err c.at.ensures ∙ answer_1 _ _ _ _ _ _ _ _ c.bad_sizes.ensures c.if-bad_sizes.true

pub bad_lengths-requires : goal.bad_lengths-requires
bad_lengths-requires c =
    sized _ (sym c.bad_sizes.ensures ∙ c.if-bad_sizes.false)

pub returns-then-bad_lengths : goal.returns-then-bad_lengths
returns-then-bad_lengths c =
    ap Err c.at-then-bad_lengths.ensures ∙ answer_2 _ _ _ _ _ _ _ _ c.bad_sizes.ensures c.if-bad_sizes.false _ (c.bad_lengths.ensures c.args.workers.slots c.args.workers.number) c.if-bad_lengths.true

pub outcome_of-requires : goal.outcome_of-requires
outcome_of-requires c =
    let f = fits _ _ _ _ c.args.workers.slots c.args.workers.count c.args.workers.number _ c.bad_sizes.ensures c.if-bad_sizes.false
    _ (c.bad_lengths.ensures c.args.workers.slots c.args.workers.number) c.if-bad_lengths.false in
    (sized _ (sym c.bad_sizes.ensures ∙ c.if-bad_sizes.false), f.buffers.matrix_fits, f.records_fit)

pub returns-in-Some : goal.returns-in-Some
returns-in-Some c =
    answer_3 _ _ _ _ _ _ _ _ c.bad_sizes.ensures c.if-bad_sizes.false
    _ (c.bad_lengths.ensures c.args.workers.slots c.args.workers.number) c.if-bad_lengths.false
    _ c.first_unfinished-task.ensures _ c.in-Some.is

pub returns-in-None : goal.returns-in-None
returns-in-None c =
    answer_4 _ _ _ _ _ _ _ _ c.bad_sizes.ensures c.if-bad_sizes.false
    _ (c.bad_lengths.ensures c.args.workers.slots c.args.workers.number) c.if-bad_lengths.false
    _ c.first_unfinished-task.ensures _ c.in-None.is (c.outcome_of.ensures _)
