-- The columns beside the diagonal in its tile, then the tiles further right, then the quotient. Assumes nothing.
use mathlib.Core.Path.{sym, ◌∙◌}
use native.Mathlib.Omega.{arith}
use Rattle.model.specs.Num.{quotient}
use Rattle.subtractions.proofs.Places.{Placed, placed}
use Rattle.backward_row.proofs.Whole.{value_is, diagonal_finite}
use Rattle.backward_row.proofs.Shows.{row_number_lem, row_not_finite}
use Rattle.backward_row.proofs.back_row.Goals as goal

pub subtract-beside-requires : goal.subtract-beside-requires
subtract-beside-requires c =
    let here : Placed c.args.z c.args.matrix.now c.args.y.now c.args.i c.args.i c.args.r = placed c.requires.backward_fits c.args.i c.args.i c.args.r c.requires.i_lt_tiles.0 c.requires.i_lt_tiles.0 c.requires.i_lt_tiles.1 in let p = here in
    let h = c.requires.i_lt_tiles.1 in
    (omega (arith, p.row, p.room, h, c.tile_start.ensures), omega (arith, p.part, h))

pub bounds-matrix-own : goal.bounds-matrix-own
bounds-matrix-own c =
    let here : Placed c.args.z c.args.matrix.now c.args.y.now c.args.i c.args.i c.args.r = placed c.requires.backward_fits c.args.i c.args.i c.args.r c.requires.i_lt_tiles.0 c.requires.i_lt_tiles.0 c.requires.i_lt_tiles.1 in let p = here in omega (arith, p.row, p.room, c.requires.i_lt_tiles.1, c.tile_start.ensures)

pub returns-then-is_finite : goal.returns-then-is_finite
unfolding quotient
returns-then-is_finite c =
    let here : Placed c.args.z c.args.matrix.now c.args.y.now c.args.i c.args.i c.args.r = placed c.requires.backward_fits c.args.i c.args.i c.args.r c.requires.i_lt_tiles.0 c.requires.i_lt_tiles.0 c.requires.i_lt_tiles.1 in λ lists.
    let a = c.args in
    let p = here in
    let e = c.tile_start.ensures in
    let b = rw e at c.subtract-beside.ensures in
    row_number_lem _ _ _ _ (diagonal_finite a.z a.matrix.now lists a.y.now a.i a.r c.requires.i_lt_tiles.1 c.requires.i_lt_tiles.0 p _ _ b (c.subtract_tiles-left.ensures lists) c.requires.backward_fits.all_finite_lem) _
    (rw e (value_is a.z a.matrix.now lists a.y.now a.i a.r c.requires.i_lt_tiles.1 c.requires.i_lt_tiles.0 p _ _ b (c.subtract_tiles-left.ensures lists)))
    (sym c.is_finite.ensures ∙ c.if-is_finite.true)

pub returns-else-is_finite : goal.returns-else-is_finite
unfolding quotient
returns-else-is_finite c =
    let here : Placed c.args.z c.args.matrix.now c.args.y.now c.args.i c.args.i c.args.r = placed c.requires.backward_fits c.args.i c.args.i c.args.r c.requires.i_lt_tiles.0 c.requires.i_lt_tiles.0 c.requires.i_lt_tiles.1 in λ lists.
    let a = c.args in
    let p = here in
    let e = c.tile_start.ensures in
    let b = rw e at c.subtract-beside.ensures in
    row_not_finite _ _ _ _ (diagonal_finite a.z a.matrix.now lists a.y.now a.i a.r c.requires.i_lt_tiles.1 c.requires.i_lt_tiles.0 p _ _ b (c.subtract_tiles-left.ensures lists) c.requires.backward_fits.all_finite_lem) _
    (rw e (value_is a.z a.matrix.now lists a.y.now a.i a.r c.requires.i_lt_tiles.1 c.requires.i_lt_tiles.0 p _ _ b (c.subtract_tiles-left.ensures lists)))
    (sym c.is_finite.ensures ∙ c.if-is_finite.false)
