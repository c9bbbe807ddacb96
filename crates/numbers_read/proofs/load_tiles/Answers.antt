-- `numbers_read::load_tiles` meets its contract: after q turns the first q tiles are written. Assumes nothing.
use Prim.Native.Nat.{ℕ, ◌≤◌, ◌-◌, ◌+◌, ◌*◌}
use mathlib.Core.Path.{◌≡◌, ap, ◌∙◌}
use native.Mathlib.Nat.{add-sub_cancel_left}
use native.Mathlib.Omega.{arith}
use lib.ListN.{length, take, drop}
use Rattle.laws.proofs.Blocks.{row_end}
use Rattle.numbers_read.specs.Decoded.{tile_size, numbers_of, tiles_from}
use Rattle.numbers_read.proofs.Filled.{length_lent, parted, parted_none, turn, parted_all}
use Rattle.numbers_read.proofs.Held.{length_numbers}
use Rattle.numbers_read.proofs.load_tiles.Invariants.{held}
use Rattle.numbers_read.proofs.load_tiles.Goals as goal

pub loop-q-init : goal.loop-q-init
loop-q-init c =
    let a = c.args in parted_none a.s (held a.text.now a.at a.s) (λ q. length_numbers a.s _) _

pub loop-q-preserved : goal.loop-q-preserved
loop-q-preserved c =
    let a = c.args in
    let l = c.loop-q in
    let inside : l.q * a.s + a.s ≤ length l.matrix = omega (arith, c.requires.matrix_len, row_end l.q a.count a.s c.loop-q-test.true) in
    let from = a.at + l.q * tile_size a.s in
    turn a.s (held a.text.now a.at a.s) (λ q. length_numbers a.s _) a.matrix.now l.matrix _ l.q l.invariant
    (c.load_tile.ensures ∙ ap (λ (n : ℕ). numbers_of n (take (from + tile_size a.s - from) (drop from a.text.now))) (length_lent (l.q * a.s) a.s l.matrix inside)
    ∙ ap (λ (k : ℕ). numbers_of a.s (take k (drop from a.text.now))) (add-sub_cancel_left from (tile_size a.s)))

pub returns : goal.returns
unfolding tiles_from
returns c =
    let a = c.args in
    let l = c.loop-q in
    let e : l.q ≡ a.count = omega arith in
    let g = held a.text.now a.at a.s in
    l.invariant ∙ ap (parted a.s g a.matrix.now) e ∙ parted_all a.s g (λ q. length_numbers a.s _) a.matrix.now a.count c.requires.matrix_len
