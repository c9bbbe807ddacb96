-- The first refusal that holds, in the table's order. Assumes nothing.
use mathlib.Core.Path.{sym, ap, ◌∙◌}
use Rattle.std.specs.Prelude.{Err}
use native.Mathlib.Omega.{arith}
use Rattle.checks.proofs.Laws.{sized, small}
use Rattle.solve_checks.proofs.Laws.{solve_1, solve_2, checked, solve_right, solve_answers, solve_4, solve_elements, solve_rest}
use Rattle.solve_checks.proofs.solve_answer.Goals as goal

pub returns-then-bad_sizes : goal.returns-then-bad_sizes
returns-then-bad_sizes c =
    ap Err c.at.ensures ∙ solve_1 _ _ _ _ _ _ _ _ _ _ c.bad_sizes.ensures c.if-bad_sizes.true

pub bad_lengths-requires : goal.bad_lengths-requires
bad_lengths-requires c =
    sized _ (sym c.bad_sizes.ensures ∙ c.if-bad_sizes.false)

pub returns-then-bad_lengths : goal.returns-then-bad_lengths
returns-then-bad_lengths c =
    ap Err c.at-then-bad_lengths.ensures ∙ solve_2 c.args.z _ _ _ c.args.workers.slots c.args.workers.count c.args.workers.number _ _ _ c.bad_sizes.ensures c.if-bad_sizes.false _ (c.bad_lengths.ensures c.args.workers.slots c.args.workers.number) c.if-bad_lengths.true

pub overflow_mul-order : goal.overflow_mul-order
overflow_mul-order c =
    let s = sized c.args.z (sym c.bad_sizes.ensures ∙ c.if-bad_sizes.false) in
    omega (arith, small c.args.z.tiles c.args.z.side s.few_tiles s.small_side)

pub returns-then-right-order : goal.returns-then-right-order
returns-then-right-order c =
    ap Err c.at-then-right-order.ensures ∙ solve_right c.args.z _ _ _ c.args.workers.slots c.args.workers.count c.args.workers.number _ _ _ c.bad_sizes.ensures c.if-bad_sizes.false _ (c.bad_lengths.ensures c.args.workers.slots c.args.workers.number) c.if-bad_lengths.false c.if-right-order.true

pub returns-then-answers-order : goal.returns-then-answers-order
returns-then-answers-order c =
    ap Err c.at-then-answers-order.ensures ∙ solve_answers c.args.z _ _ _ c.args.workers.slots c.args.workers.count c.args.workers.number _ _ _ c.bad_sizes.ensures c.if-bad_sizes.false _ (c.bad_lengths.ensures c.args.workers.slots c.args.workers.number) c.if-bad_lengths.false c.if-right-order.false c.if-answers-order.true

pub damaged-requires : goal.damaged-requires
damaged-requires c =
    let k = checked c.args.z c.args.matrix.now _ _ c.args.workers.slots c.args.workers.count c.args.workers.number c.args.right.now c.args.answers.now _ c.bad_sizes.ensures c.if-bad_sizes.false _ (c.bad_lengths.ensures c.args.workers.slots c.args.workers.number) c.if-bad_lengths.false in
    (k.0, k.1.buffers.lists_fit, k.1.records_fit)

pub returns-then-damaged : goal.returns-then-damaged
returns-then-damaged c =
    ap Err c.at-then-damaged.ensures ∙ solve_4 c.args.z _ _ _ c.args.workers.slots c.args.workers.count c.args.workers.number _ _ _ c.bad_sizes.ensures c.if-bad_sizes.false _ (c.bad_lengths.ensures c.args.workers.slots c.args.workers.number) c.if-bad_lengths.false c.if-right-order.false c.if-answers-order.false _ (c.damaged.ensures c.args.matrix.now) c.if-damaged.true

pub returns-then-not-all_finite : goal.returns-then-not-all_finite
returns-then-not-all_finite c =
    ap Err c.at-then-not-all_finite.ensures ∙ solve_elements c.args.z _ _ _ c.args.workers.slots c.args.workers.count c.args.workers.number _ _ _ c.bad_sizes.ensures c.if-bad_sizes.false _ (c.bad_lengths.ensures c.args.workers.slots c.args.workers.number) c.if-bad_lengths.false c.if-right-order.false c.if-answers-order.false _ (c.damaged.ensures c.args.matrix.now) c.if-damaged.false
    _ c.all_finite.ensures c.if-not-all_finite.true

pub rest_answer-requires : goal.rest_answer-requires
rest_answer-requires c =
    let k = checked c.args.z c.args.matrix.now c.args.lists.now _ c.args.workers.slots c.args.workers.count c.args.workers.number c.args.right.now c.args.answers.now _ c.bad_sizes.ensures c.if-bad_sizes.false _ (c.bad_lengths.ensures c.args.workers.slots c.args.workers.number) c.if-bad_lengths.false in
    (k.0, k.1.buffers.matrix_fits, k.1.records_fit)

pub returns : goal.returns
returns c =
    solve_rest c.args.z _ _ _ c.args.workers.slots c.args.workers.count c.args.workers.number _ _ _ c.bad_sizes.ensures c.if-bad_sizes.false _ (c.bad_lengths.ensures c.args.workers.slots c.args.workers.number) c.if-bad_lengths.false c.if-right-order.false c.if-answers-order.false _ (c.damaged.ensures c.args.matrix.now) c.if-damaged.false
    _ c.all_finite.ensures c.if-not-all_finite.false _ (c.rest_answer.ensures c.args.lists.now c.args.workers.slots c.args.workers.count c.args.workers.number)
