-- `result_file::read_result_lines` meets its contract. Assumes nothing.
use mathlib.Core.Path.{sym, ap, ◌∙◌}
use native.Mathlib.Nat.{mul-le-mul}
use native.Mathlib.Omega.{arith}
use Rattle.frames_read.specs.Follow.{text_end}
use Rattle.laws.proofs.Refusals.{passed_on}
use Rattle.system_checked.proofs.Headers.{facts}
use Rattle.result_file.proofs.Results.{matrix_refused, lists_refused, lines_refused, result_read, result_lines_lem}
use Rattle.result_file.proofs.read_result_lines.Goals as goal

pub overflow_mul-order : goal.overflow_mul-order
overflow_mul-order c =
    let f = facts c.requires in omega (arith, mul-le-mul f.tiles.1 f.side.1)

pub overflow_mul-order-2 : goal.overflow_mul-order-2
overflow_mul-order-2 c =
    let f = facts c.requires in let b = mul-le-mul f.tiles.1 f.side.1 in omega (arith, mul-le-mul b b)

pub returns-then-matrix-order : goal.returns-then-matrix-order
returns-then-matrix-order c =
    rw c.at.ensures (matrix_refused _ _ _ _ _ c.requires c.if-matrix-order.true)

pub returns-then-lists-tiles : goal.returns-then-lists-tiles
returns-then-lists-tiles c =
    rw c.at-then-lists-tiles.ensures (lists_refused _ _ _ _ _ c.requires c.if-matrix-order.false c.if-lists-tiles.true)

pub check_result_lines-requires : goal.check_result_lines-requires
check_result_lines-requires c =
    let f = facts c.requires in (f.long, f.side.1)

pub load_result-requires : goal.load_result-requires
load_result-requires c =
    record {
      result_lines = result_lines_lem _ _ _ c.requires (sym (c.text_end.ensures ∙ ap (text_end _) c.check_result_lines.ensures) ∙ c.in_ok-text_end.was);
      matrix_len = (omega (arith, c.if-matrix-order.false), c.if-lists-tiles.false);
    }

pub returns-in_err-text_end : goal.returns-in_err-text_end
returns-in_err-text_end c =
    rw (passed_on _ _ _ c.from_residual.ensures.1 c.in_err-text_end.was)
    (lines_refused _ _ _ _ _ c.requires c.if-matrix-order.false c.if-lists-tiles.false _ (sym (c.text_end.ensures ∙ ap (text_end _) c.check_result_lines.ensures) ∙ c.in_err-text_end.was))

pub returns : goal.returns
returns c =
    c.load_result.ensures
    ∙ result_read _ _ _ _ _ c.requires c.if-matrix-order.false c.if-lists-tiles.false (sym (c.text_end.ensures ∙ ap (text_end _) c.check_result_lines.ensures) ∙ c.in_ok-text_end.was)
