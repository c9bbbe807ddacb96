-- The t² numbers of the tile are filled where it stands. Assumes nothing.
use Prim.Native.Nat.{ℕ, ◌*◌}
use mathlib.Core.Path.{◌∙◌, ap}
use native.Mathlib.Omega.{arith}
use lib.Ieee.{of_bits}
use Rattle.model.specs.Lists.{with_part}
use Rattle.model.specs.Tile.{zeros}
use Rattle.model.specs.Buffer.{put_tile}
use Rattle.checks.proofs.Laws.{tile_fits}
use Rattle.filling.proofs.fill_tile.Goals as goal

pub fill_part-requires-clause-part_in_bounds : goal.fill_part-requires-clause-part_in_bounds
fill_part-requires-clause-part_in_bounds c =
    omega (arith, c.tile_start-start.ensures, c.requires.1, tile_fits c.args.z.tiles c.args.z.side c.args.i c.args.j c.requires.2 c.requires.3)

pub returns : goal.returns
unfolding put_tile zeros of_bits
returns c =
    c.fill_part.ensures
    ∙ ap (λ (s : ℕ). with_part s (c.args.z.side * c.args.z.side) (zeros (c.args.z.side * c.args.z.side)) c.args.matrix.now) c.tile_start-start.ensures
