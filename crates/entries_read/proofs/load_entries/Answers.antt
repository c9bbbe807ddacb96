-- `entries_read::load_entries` meets its contract: after x turns the first x entries are written. Assumes nothing.
use Prim.Native.Nat.{ℕ, ◌+◌, ◌*◌}
use mathlib.Core.Path.{◌≡◌, ap, ◌∙◌}
use mathlib.Core.List.{List}
use native.Mathlib.Omega.{arith}
use lib.ListN.{length, set}
use Rattle.model.specs.Read.{entries_in}
use Rattle.digits_read.specs.Digits.{FieldOfDigits}
use Rattle.digits_read.proofs.Fields.{field_lt}
use Rattle.lines_read.proofs.Tested.{field_in}
use Rattle.numbers_read.proofs.Filled.{written, written_none, written_next, written_all}
use Rattle.entries_read.proofs.load_entries.Invariants.{entry}
use Rattle.entries_read.proofs.load_entries.Goals as goal

pub loop-x-init : goal.loop-x-init
loop-x-init c =
    written_none _ _

pub overflow_cast-entry : goal.overflow_cast-entry
overflow_cast-entry c =
    let f : FieldOfDigits c.args.line.now (6 + 2 * c.loop-x.x) 2 = field_in _ _ _ c.requires.digits (omega (arith, c.requires.size)) (omega arith) in
    omega (arith, c.field_at.ensures, field_lt (6 + 2 * c.loop-x.x) 2 c.args.line.now f.inside f.digits)

pub loop-x-preserved : goal.loop-x-preserved
loop-x-preserved c =
    let l = c.loop-x in
    let line = c.args.line.now in
    let d = c.args.list.now in
    ap (λ (z : List ℕ). set z l.x c.field_at.result) l.invariant
    ∙ ap (set (written (entry line) d l.x) l.x) c.field_at.ensures
    ∙ written_next (entry line) 0 d l.x (omega arith)

pub returns : goal.returns
unfolding entries_in
returns c =
    let l = c.loop-x in
    let line = c.args.line.now in
    let d = c.args.list.now in
    let e : l.x ≡ length d = omega arith in
    l.invariant ∙ written_all (entry line) d l.x (omega arith) ∙ ap (λ (n : ℕ). entries_in n line) e
