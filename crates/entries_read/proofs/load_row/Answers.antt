-- `entries_read::load_row` meets its contract: after j turns the first j lists are written. Assumes nothing.
use Prim.Native.Nat.{ℕ, ◌≤◌, ◌+◌, ◌*◌}
use mathlib.Core.Path.{◌≡◌, ap, ◌∙◌}
use native.Mathlib.Omega.{arith}
use lib.ListN.{length}
use Rattle.laws.proofs.Blocks.{row_end}
use Rattle.entries_read.specs.Entries.{list_from, row_from}
use Rattle.numbers_read.proofs.Filled.{length_lent, parted, parted_none, turn, parted_all}
use Rattle.entries_read.proofs.Held.{length_list}
use Rattle.entries_read.proofs.load_row.Goals as goal

pub loop-j-init : goal.loop-j-init
loop-j-init c =
    parted_none _ _ (length_list _ _ _ _) _

pub loop-j-preserved : goal.loop-j-preserved
loop-j-preserved c =
    let a = c.args in
    let l = c.loop-j in
    let inside : l.j * a.t + a.t ≤ length l.row = omega (arith, c.requires.row_len, row_end l.j a.tiles a.t c.loop-j-test.true) in
    let g = list_from a.t a.at a.text.now a.i in
    turn a.t g (length_list a.t a.at a.text.now a.i) a.row.now l.row _ l.j l.invariant
    (c.load_list.ensures ∙ ap (λ (n : ℕ). list_from n a.at a.text.now a.i l.j) (length_lent (l.j * a.t) a.t l.row inside))

pub returns : goal.returns
unfolding row_from
returns c =
    let a = c.args in
    let l = c.loop-j in
    let e : l.j ≡ a.tiles = omega arith in
    let g = list_from a.t a.at a.text.now a.i in
    l.invariant ∙ ap (parted a.t g a.row.now) e ∙ parted_all a.t g (length_list a.t a.at a.text.now a.i) a.row.now a.tiles c.requires.row_len
