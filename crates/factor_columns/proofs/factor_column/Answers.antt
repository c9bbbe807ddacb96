-- `factor_column` meets its contract: a pivot of zero, and the two ways by whether every number computed is finite. Assumes nothing.
use mathlib.Core.Path.{◌≡◌, refl}
use mathlib.Core.Bool.{true, false}
use Prim.Native.Nat.{◌<◌}
use native.Mathlib.Omega.{arith}
use lib.Ieee.{of_bits}
use Rattle.model.specs.Num.{is_zero}
use Rattle.model.specs.Tile.{zeros}
use Rattle.column_laws.proofs.Pivots.{factor_row, factor_fine}
use Rattle.column_laws.proofs.Ends.{factor_skips, factor_ends, factor_fails}
use Rattle.column_laws.proofs.Ready.{factor_ready}
use Rattle.factor_columns.proofs.factor_column.Goals as goal

pub factor_pivot-found-requires : goal.factor_pivot-found-requires
factor_pivot-found-requires c =
    let r = factor_ready c.requires in
    rw c.tile_start-a.ensures (record { block = record { rows_most = r.side_most; width_most = r.side_most; few = r.few; room = r.room }; c_lt_t = (r.column, r.tile_finite) })

pub overflow_cast-lists : goal.overflow_cast-lists
overflow_cast-lists c =
    let in_tile : c.factor_pivot-found.result.place < c.args.z.side = let a = c.args in
    let r = factor_ready c.requires in
    let e = c.tile_start-a.ensures in
    factor_row a.z.side a.c c.tile_start-a.result r.column a.matrix.now (rw e r.room) (rw e r.tile_finite) c.factor_pivot-found.result c.factor_pivot-found.ensures in omega (arith, in_tile, (factor_ready c.requires).side_most)

pub bounds-lists-p : goal.bounds-lists-p
bounds-lists-p c =
    let r = factor_ready c.requires in omega (arith, r.column, r.list_room, r.lists_few, c.list_start-p.ensures)

pub returns-then-magnitude : goal.returns-then-magnitude
unfolding of_bits is_zero
returns-then-magnitude c =
    let zero : is_zero c.factor_pivot-found.result.magnitude ≡ true = c.if-magnitude.true in let a = c.args in
    let r = factor_ready c.requires in
    let p = c.list_start-p.ensures in
    factor_skips a.z.tiles a.z.side a.k a.c _ _ c.tile_start-a.ensures p r.column a.matrix.now a.lists.now _ (rw p r.list_room) c.factor_pivot-found.result c.factor_pivot-found.ensures refl _
    (zero) c.column_end.ensures

pub factor_rows-requires : goal.factor_rows-requires
unfolding of_bits is_zero
factor_rows-requires c =
    let in_tile : c.factor_pivot-found.result.place < c.args.z.side = let a = c.args in
    let r = factor_ready c.requires in
    let e = c.tile_start-a.ensures in
    factor_row a.z.side a.c c.tile_start-a.result r.column a.matrix.now (rw e r.room) (rw e r.tile_finite) c.factor_pivot-found.result c.factor_pivot-found.ensures in let nonzero : is_zero c.factor_pivot-found.result.magnitude ≡ false = c.if-magnitude.false in let a = c.args in
    let r = factor_ready c.requires in
    let t = a.z.side in
    let e = c.tile_start-a.ensures in
    let room = rw (← e) at r.room in record { block = record { rows_most = r.side_most; width_most = r.side_most; few = r.few; room = room }; c_lt_t = (r.column, in_tile, rw e r.tile_finite); by_index = factor_fine t a.c c.tile_start-a.result r.column a.matrix.now room (rw e r.tile_finite) c.factor_pivot-found.result c.factor_pivot-found.ensures (nonzero) }

pub returns-then-factor_rows : goal.returns-then-factor_rows
unfolding of_bits is_zero
returns-then-factor_rows c =
    let nonzero : is_zero c.factor_pivot-found.result.magnitude ≡ false = c.if-magnitude.false in let a = c.args in
    let r = factor_ready c.requires in
    let e = c.tile_start-a.ensures in
    let p = c.list_start-p.ensures in
    factor_ends a.z.tiles a.z.side a.k a.c _ _ e p r.column a.matrix.now a.lists.now _ (rw p r.list_room) c.factor_pivot-found.result c.factor_pivot-found.ensures refl
    (rw e r.room) (nonzero) _ _ c.factor_rows.ensures _ c.if-factor_rows.true c.column_end-then-factor_rows.ensures

pub fill_part-requires-clause-part_in_bounds : goal.fill_part-requires-clause-part_in_bounds
fill_part-requires-clause-part_in_bounds c =
    omega (arith, (factor_ready c.requires).room, c.tile_start-a.ensures, c.factor_rows.auto.m)

pub returns : goal.returns
unfolding zeros of_bits is_zero
returns c =
    let nonzero : is_zero c.factor_pivot-found.result.magnitude ≡ false = c.if-magnitude.false in let a = c.args in
    let r = factor_ready c.requires in
    let e = c.tile_start-a.ensures in
    let p = c.list_start-p.ensures in
    factor_fails a.z.tiles a.z.side a.k a.c _ _ e p r.column a.matrix.now a.lists.now _ (rw p r.list_room) c.factor_pivot-found.result c.factor_pivot-found.ensures refl
    (rw e r.room) (nonzero) _ _ c.factor_rows.ensures _ _ c.if-factor_rows.false c.fill_part.ensures c.fill_part-2.ensures
