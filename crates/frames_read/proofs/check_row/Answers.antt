-- `frames_read::check_row` meets its contract. The loop's invariant: following what is left from here is following the row. Assumes nothing.
use Prim.Native.Nat.{ℕ}
use mathlib.Core.Path.{◌≡◌, sym, ap, ◌∙◌}
use mathlib.Core.List.{List, map}
use native.Mathlib.Omega.{arith}
use Rattle.laws.proofs.Refusals.{passed_on}
use Rattle.model.specs.Lists.{below, run}
use Rattle.lines_read.specs.Line.{kind_number}
use Rattle.lines_read.proofs.Runs.{up_to}
use Rattle.cursors.specs.declared.Cursor.{Cursor}
use Rattle.cursors.proofs.Steps.{step_placed}
use Rattle.frames_read.specs.Follow.{follow, row_frames}
use Rattle.frames_read.proofs.Rows.{row_none, row_stops, row_goes_on}
use Rattle.frames_read.proofs.check_row.Invariants.{frame}
use Rattle.frames_read.proofs.check_row.Goals as goal

whole : (t : ℕ) (text : List ℕ) (kind i n : ℕ) (c : Cursor) → follow t text (map (frame kind i) (up_to 0 n)) c ≡ follow t text (row_frames kind n i) c
unfolding below
whole t text kind i n c = ap (λ (m : ℕ). follow t text (map (frame kind i) (run 0 m)) c) (omega arith)

pub loop-j-init : goal.loop-j-init
loop-j-init c =
    (c.requires.cursor_fits, whole _ _ _ _ _ _)

pub returns-in_err-here : goal.returns-in_err-here
returns-in_err-here c =
    let l = c.loop-j in
    let e = rw c.number-number.ensures at c.check_line.ensures in
    passed_on _ _ _ c.from_residual.ensures.1 c.in_err-here.was ∙ row_stops _ _ c.args.count l.j l.here c.loop-j-test.true (frame (kind_number c.args.kind) c.args.i) l.invariant.1 e _ c.in_err-here.was

pub loop-j-preserved : goal.loop-j-preserved
loop-j-preserved c =
    let l = c.loop-j in
    let e = rw c.number-number.ensures at c.check_line.ensures in (
      step_placed _ _ _ _ _ l.invariant.0 (sym c.check_line.ensures ∙ c.in_ok-here.was),
      row_goes_on _ _ c.args.count l.j l.here c.loop-j-test.true (frame (kind_number c.args.kind) c.args.i) l.invariant.1 e c.in_ok-here.was,
    )

pub returns : goal.returns
returns c =
    let l = c.loop-j in
    sym (row_none _ _ (frame (kind_number c.args.kind) c.args.i) l.j c.args.count l.here c.loop-j-test.false) ∙ l.invariant.1
