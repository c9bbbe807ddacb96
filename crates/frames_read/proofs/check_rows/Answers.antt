-- `frames_read::check_rows` meets its contract. The loop's invariant: following what is left from here is following all rows. Assumes nothing.
use Prim.Native.Nat.{ℕ}
use mathlib.Core.Path.{◌≡◌, sym, ap, ◌∙◌}
use mathlib.Core.List.{List, map}
use native.Mathlib.Omega.{arith}
use Rattle.laws.proofs.Refusals.{passed_on}
use Rattle.model.specs.Lists.{below, run, joined}
use Rattle.model.specs.Read.{Frame}
use Rattle.lines_read.specs.Line.{kind_number}
use Rattle.lines_read.proofs.Runs.{up_to}
use Rattle.cursors.specs.declared.Cursor.{Cursor}
use Rattle.frames_read.specs.Follow.{follow, row_frames}
use Rattle.frames_read.proofs.Rows.{follow_placed, rows_none, rows_stop, rows_go_on}
use Rattle.frames_read.proofs.check_rows.Invariants.{row}
use Rattle.frames_read.proofs.check_rows.Goals as goal

whole : (t : ℕ) (text : List ℕ) (r : ℕ → List Frame) (n : ℕ) (c : Cursor) → follow t text (joined (map r (up_to 0 n))) c ≡ follow t text (joined (map r (below n))) c
unfolding below
whole t text r n c = ap (λ (m : ℕ). follow t text (joined (map r (run 0 m))) c) (omega arith)

pub loop-i-init : goal.loop-i-init
loop-i-init g c =
    (c.requires.1.0, whole _ _ _ _ _)

pub returns-in_err-here : goal.returns-in_err-here
returns-in_err-here g c =
    let l = c.loop-i in
    let k = kind_number c.args.kind in
    let e = c.check_row.ensures ∙ ap (λ (n : ℕ). follow c.args.t c.args.text.now (row_frames k n l.i) l.here) (c.requires.1.1.1.1 l.i _ c.width.ensures) in
    passed_on _ _ _ c.from_residual.ensures.1 c.in_err-here.was ∙ rows_stop _ _ c.args.tiles l.i l.here c.loop-i-test.true (row k g.widths) l.invariant.1 e _ c.in_err-here.was

pub loop-i-preserved : goal.loop-i-preserved
loop-i-preserved g c =
    let l = c.loop-i in
    let k = kind_number c.args.kind in
    let e = c.check_row.ensures ∙ ap (λ (n : ℕ). follow c.args.t c.args.text.now (row_frames k n l.i) l.here) (c.requires.1.1.1.1 l.i _ c.width.ensures) in (
      follow_placed _ _ _ _ _ l.invariant.0 (sym c.check_row.ensures ∙ c.in_ok-here.was),
      rows_go_on _ _ c.args.tiles l.i l.here c.loop-i-test.true (row k g.widths) l.invariant.1 e c.in_ok-here.was,
    )

pub returns : goal.returns
returns g c =
    let l = c.loop-i in
    sym (rows_none _ _ (row (kind_number c.args.kind) g.widths) l.i c.args.tiles l.here c.loop-i-test.false) ∙ l.invariant.1
