-- `entries_read::load_lists` meets its contract: after i turns the first i rows of lists are written. Assumes nothing.
use Prim.Native.Nat.{ℕ, suc, ◌+◌, ◌*◌}
use mathlib.Core.Path.{◌≡◌, ap, ◌∙◌}
use native.Mathlib.Numerals.{add-one}
use native.Mathlib.Omega.{arith}
use Rattle.model.specs.Lists.{below, run, joined}
use Rattle.entries_read.specs.Entries.{list_size, ListLines, above, row_from, lists_from}
use Rattle.numbers_read.proofs.Filled.{parted, parted_none, turn, parted_all}
use Rattle.entries_read.proofs.Held.{length_row, above_next, above_grows, further}
use Rattle.entries_read.proofs.load_lists.Invariants.{held}
use Rattle.entries_read.proofs.load_lists.Goals as goal

start : (at s : ℕ) → at ≡ at + above 0 * s
unfolding above below run joined
start at s = omega arith

pub loop-i-init : goal.loop-i-init
loop-i-init c =
    let a = c.args in
    (start a.at (list_size a.t), parted_none (a.tiles * a.t) (held a.text.now a.at a.tiles a.t) (λ i. length_row _ _ _ i _) _)

pub load_row-requires-clause-list_lines : goal.load_row-requires-clause-list_lines
load_row-requires-clause-list_lines c =
    let a = c.args in
    rw c.loop-i.invariant.0 (further a.t (above a.tiles) a.at (above c.loop-i.i) (suc c.loop-i.i) a.text.now c.requires.list_lines (above_grows c.loop-i.i a.tiles c.loop-i-test.true))

pub overflow_add-a-in-loop-i : goal.overflow_add-a-in-loop-i
overflow_add-a-in-loop-i c =
    let a = c.args in
    let lines : ListLines a.t (suc c.loop-i.i) c.loop-i.a a.text.now =
    rw c.loop-i.invariant.0 (further a.t (above a.tiles) a.at (above c.loop-i.i) (suc c.loop-i.i) a.text.now c.requires.list_lines (above_grows c.loop-i.i a.tiles c.loop-i-test.true)) in
    omega (arith, lines.room, c.well_formed)

-- the row below starts where this one ends
onwards : (at i s a : ℕ) → a ≡ at + above i * s → a + (i + 1) * s ≡ at + above (i + 1) * s
onwards at i s a e = rw (e, add-one i, above_next i) (omega arith)

pub loop-i-preserved : goal.loop-i-preserved
loop-i-preserved c =
    let a = c.args in
    let l = c.loop-i in (
      onwards a.at l.i (list_size a.t) l.a l.invariant.0,
      turn (a.tiles * a.t) (held a.text.now a.at a.tiles a.t) (λ i. length_row _ _ _ i _) a.lists.now l.lists _ l.i l.invariant.1
          (c.load_row.ensures ∙ ap (λ (p : ℕ). row_from a.tiles a.t p a.text.now l.i) l.invariant.0),
    )

pub returns : goal.returns
unfolding lists_from
returns c =
    let a = c.args in
    let l = c.loop-i in
    let e : l.i ≡ a.tiles = omega arith in
    let g = held a.text.now a.at a.tiles a.t in
    l.invariant.1 ∙ ap (parted (a.tiles * a.t) g a.lists.now) e ∙ parted_all (a.tiles * a.t) g (λ i. length_row _ _ _ i _) a.lists.now a.tiles c.requires.lists_len
