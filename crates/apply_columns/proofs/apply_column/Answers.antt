-- `apply_column` meets its contract: the two ways by whether every number computed is finite. Assumes nothing.
use native.Mathlib.Omega.{arith}
use lib.Ieee.{of_bits}
use Rattle.model.specs.Tile.{zeros}
use Rattle.column_laws.proofs.Permutes.{started_long, started_finite}
use Rattle.column_laws.proofs.Ends.{apply_ends, apply_fails}
use Rattle.column_laws.proofs.Ready.{apply_ready}
use Rattle.apply_columns.proofs.apply_column.Goals as goal

pub start_block-requires : goal.start_block-requires
start_block-requires c =
    let r = apply_ready c.requires in
    rw (c.tile_start-a.ensures, c.list_start-p.ensures)
    (record { block = record { rows_most = r.side_most; width_most = r.side_most; few = r.few; room = r.room }; t_in_bounds = (r.list_room, omega (arith, r.lists_few), r.entries) })

pub apply_rows-requires : goal.apply_rows-requires
apply_rows-requires c =
    let a = c.args in
    let r = apply_ready c.requires in
    let t = a.z.side in
    let e = c.tile_start-a.ensures in
    let p = c.list_start-p.ensures in
    let x = c.start_block.ensures in
    let room = rw (← e) at r.room in
    let long = started_long t t a.c c.tile_start-a.result c.list_start-p.result a.lists.now a.matrix.now _ room x in record {
      block = record { rows_most = r.side_most; width_most = r.side_most; few = omega (arith, long, r.few); room = omega (arith, long, room) };
      c_lt_t = (
        r.column,
        rw (e, c.tile_start-f.ensures) r.mult_left,
        started_finite t t a.c c.tile_start-a.result c.list_start-p.result a.lists.now a.matrix.now _ room x (rw p r.list_room) (rw p r.entries) (rw e r.tile_finite),
      );
    }

pub returns-then-apply_rows : goal.returns-then-apply_rows
returns-then-apply_rows c =
    let a = c.args in
    let r = apply_ready c.requires in
    let e = c.tile_start-a.ensures in
    let f = c.tile_start-f.ensures in
    apply_ends a.z.tiles a.z.side a.k a.j a.c _ _ a.matrix.now a.lists.now e c.list_start-p.ensures (rw e r.room) _ f (rw (e, f) r.mult_left) _ _ _
    c.start_block.ensures c.apply_rows.ensures _ c.if-apply_rows.true c.column_end.ensures

pub fill_part-requires-clause-part_in_bounds : goal.fill_part-requires-clause-part_in_bounds
fill_part-requires-clause-part_in_bounds c =
    let r = apply_ready c.requires in
    omega (arith, r.room, c.tile_start-a.ensures, c.apply_rows.auto.m, c.start_block.auto.m)

pub returns : goal.returns
unfolding zeros of_bits
returns c =
    let a = c.args in
    let r = apply_ready c.requires in
    let e = c.tile_start-a.ensures in
    let f = c.tile_start-f.ensures in
    apply_fails a.z.tiles a.z.side a.k a.j a.c _ _ a.matrix.now a.lists.now e c.list_start-p.ensures (rw e r.room) _ f (rw (e, f) r.mult_left) _ _ _
    c.start_block.ensures c.apply_rows.ensures _ c.apply_rows.auto.m c.if-apply_rows.false c.fill_part.ensures
