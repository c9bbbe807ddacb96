-- The first refusal that holds, in the table's order. Assumes nothing.
use mathlib.Core.Path.{sym, ap, ◌∙◌}
use Rattle.std.specs.Prelude.{Err}
use Rattle.checks.proofs.Laws.{sized}
use Rattle.states.proofs.Laws.{answer_1, answer_2, answer_4, answer_0, checked}
use Rattle.states.proofs.state_answer.Goals as goal

pub returns-then-bad_sizes : goal.returns-then-bad_sizes
returns-then-bad_sizes c =
    ap Err c.at.ensures ∙ answer_1 _ _ _ _ _ _ _ _ c.bad_sizes.ensures c.if-bad_sizes.true

pub bad_lengths-requires : goal.bad_lengths-requires
bad_lengths-requires c =
    sized _ (sym c.bad_sizes.ensures ∙ c.if-bad_sizes.false)

pub returns-then-bad_lengths : goal.returns-then-bad_lengths
returns-then-bad_lengths c =
    ap Err c.at-then-bad_lengths.ensures ∙ answer_2 c.args.z _ _ _ c.args.workers.slots c.args.workers.count c.args.workers.number _ c.bad_sizes.ensures c.if-bad_sizes.false _ (c.bad_lengths.ensures c.args.workers.slots c.args.workers.number) c.if-bad_lengths.true

pub damaged-requires : goal.damaged-requires
damaged-requires c =
    let k = checked c.args.z _ _ _ c.args.workers.slots c.args.workers.count c.args.workers.number _ c.bad_sizes.ensures c.if-bad_sizes.false _ (c.bad_lengths.ensures c.args.workers.slots c.args.workers.number) c.if-bad_lengths.false in
    (k.0, k.1.buffers.lists_fit, k.1.records_fit)

pub returns-then-damaged : goal.returns-then-damaged
returns-then-damaged c =
    ap Err c.at-then-damaged.ensures ∙ answer_4 c.args.z _ _ _ c.args.workers.slots c.args.workers.count c.args.workers.number _ c.bad_sizes.ensures c.if-bad_sizes.false _ (c.bad_lengths.ensures c.args.workers.slots c.args.workers.number) c.if-bad_lengths.false _ (c.damaged.ensures c.args.matrix.now) c.if-damaged.true

pub returns : goal.returns
returns c =
    answer_0 c.args.z _ _ _ c.args.workers.slots c.args.workers.count c.args.workers.number _ c.bad_sizes.ensures c.if-bad_sizes.false _ (c.bad_lengths.ensures c.args.workers.slots c.args.workers.number) c.if-bad_lengths.false _ (c.damaged.ensures c.args.matrix.now) c.if-damaged.false
