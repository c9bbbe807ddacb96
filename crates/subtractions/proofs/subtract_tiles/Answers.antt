-- What is left from tile j on is the whole. Assumes nothing.
use native.Mathlib.Omega.{arith}
use Rattle.subtractions.proofs.Places.{Placed, placed}
use Rattle.subtractions.proofs.Tiles.{tiles_more, tiles_end}
use Rattle.subtractions.proofs.subtract_tiles.Goals as goal

pub subtract-left-requires : goal.subtract-left-requires
subtract-left-requires c =
    let a = c.args in
    let here : Placed a.z a.matrix.now a.y.now a.i c.loop-j.j a.r = placed c.requires.backward_fits a.i c.loop-j.j a.r c.requires.i_lt_tiles.0 c.loop-j-test.true c.requires.i_lt_tiles.1 in
    (omega (arith, here.room, here.row, c.tile_start.ensures), here.part)

pub loop-j-preserved : goal.loop-j-preserved
loop-j-preserved c =
    let a = c.args in
    let here : Placed a.z a.matrix.now a.y.now a.i c.loop-j.j a.r = placed c.requires.backward_fits a.i c.loop-j.j a.r c.requires.i_lt_tiles.0 c.loop-j-test.true c.requires.i_lt_tiles.1 in
    let e = c.tile_start.ensures in
    λ lists. tiles_more a.z a.matrix.now lists a.y.now a.i a.r c.requires.i_lt_tiles.1 _ _ _ _ c.loop-j-test.true here (c.loop-j.invariant lists)
    (rw e at c.subtract-left.ensures)

pub returns : goal.returns
returns c =
    let a = c.args in
    λ lists. tiles_end a.z a.matrix.now lists a.y.now a.i a.r c.requires.i_lt_tiles.1 _ _ _ (omega arith) (omega arith) (c.loop-j.invariant lists)
