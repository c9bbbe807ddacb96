-- The diagonal and the numbers above it are filled where the tile stands. Assumes nothing.
use Prim.Native.Nat.{ℕ, ◌*◌}
use mathlib.Core.Path.{◌∙◌, ap}
use native.Mathlib.Omega.{arith}
use Rattle.model.specs.Lists.{part, with_part}
use Rattle.model.specs.Buffer.{tile, put_tile}
use Rattle.model.specs.Tile.{upper_filled}
use Rattle.checks.proofs.Laws.{tile_fits}
use Rattle.filling.proofs.fill_upper_part.Goals as goal

pub fill_upper-requires : goal.fill_upper-requires
fill_upper-requires c =
    (c.requires.0.small_side, omega (arith, c.tile_start-start.ensures, c.requires.1, tile_fits c.args.z.tiles c.args.z.side c.args.k c.args.k c.requires.2 c.requires.2))

pub returns : goal.returns
unfolding put_tile tile
returns c =
    let n = c.args.z.side * c.args.z.side in
    c.fill_upper.ensures
    ∙ ap (λ (s : ℕ). with_part s n (upper_filled c.args.z.side (part s n c.args.matrix.now)) c.args.matrix.now) c.tile_start-start.ensures
