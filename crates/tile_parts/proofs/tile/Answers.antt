-- `tile` meets its contract: the tile stands in the matrix. Assumes nothing.
use Prim.Native.Nat.{◌+◌, ◌*◌, ◌≤◌}
use native.Mathlib.Nat.{add-sub_cancel_left}
use native.Mathlib.Omega.{arith}
use lib.ListN.{length}
use Rattle.model.specs.Buffer.{tile}
use Rattle.laws.proofs.Blocks.{place_room}
use Rattle.tile_parts.proofs.tile.Goals as goal

pub slice_bounds-result-end : goal.slice_bounds-result-end
slice_bounds-result-end c =
    let room : c.tile_start-a.result + c.args.z.side * c.args.z.side ≤ length c.args.matrix.now = let a = c.args in
    omega (arith, c.tile_start-a.ensures, c.requires.4, place_room a.z.tiles (a.z.side * a.z.side) a.i a.j c.requires.2 c.requires.3) in omega (arith, room)

pub returns : goal.returns
unfolding tile
returns c =
    let e = c.tile_start-a.ensures in rw (e, add-sub_cancel_left)
