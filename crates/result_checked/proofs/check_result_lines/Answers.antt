-- `result_checked::check_result_lines` meets its contract: the frames of a result in their three parts. Assumes nothing.
use mathlib.Core.Path.{sym, ◌∙◌}
use Rattle.laws.proofs.Refusals.{passed_on}
use Rattle.frames_read.proofs.Rows.{follow_placed}
use Rattle.system_checked.specs.Files.{start}
use Rattle.system_checked.proofs.Headers.{start_placed}
use Rattle.result_checked.proofs.Frames.{tiles_stop, lists_stop, to_outcome}
use Rattle.result_checked.proofs.check_result_lines.Goals as goal

pub returns-in_err-tiles_end : goal.returns-in_err-tiles_end
returns-in_err-tiles_end c =
    passed_on _ _ _ c.from_residual.ensures.1 c.in_err-tiles_end.was ∙ tiles_stop _ _ _ start _ (sym c.check_tiles.ensures ∙ c.in_err-tiles_end.was)

pub check_lists-requires : goal.check_lists-requires
check_lists-requires c =
    record { cursor_fits = follow_placed _ _ _ _ _ (start_placed c.args.text.now c.requires.0) (sym c.check_tiles.ensures ∙ c.in_ok-tiles_end.was); t_le_most_side = c.requires.1 }

pub returns-in_err-lists_end : goal.returns-in_err-lists_end
returns-in_err-lists_end c =
    passed_on _ _ _ c.from_residual-in_err-lists_end.ensures.1 c.in_err-lists_end.was
    ∙ lists_stop _ _ _ start _ (sym c.check_tiles.ensures ∙ c.in_ok-tiles_end.was) _ (sym c.check_lists.ensures ∙ c.in_err-lists_end.was)

pub check_line-requires : goal.check_line-requires
check_line-requires c =
    record {
      cursor_fits = follow_placed _ _ _ _ _ (follow_placed _ _ _ _ _ (start_placed c.args.text.now c.requires.0) (sym c.check_tiles.ensures ∙ c.in_ok-tiles_end.was)) (sym c.check_lists.ensures ∙ c.in_ok-lists_end.was);
      t_le_most_side = c.requires.1;
    }

pub returns : goal.returns
returns c =
    rw c.number.ensures at c.check_line.ensures
    ∙ to_outcome _ _ _ start _ (sym c.check_tiles.ensures ∙ c.in_ok-tiles_end.was) _ (sym c.check_lists.ensures ∙ c.in_ok-lists_end.was)
