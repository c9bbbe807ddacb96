-- `couple_column` meets its contract: a pivot of zero, and the two ways by whether every number computed is finite. Assumes nothing.
use mathlib.Core.Path.{◌≡◌, refl}
use mathlib.Core.Bool.{true, false}
use Prim.Native.Nat.{◌≤◌}
use native.Mathlib.Omega.{arith}
use lib.ListN.{length-set}
use lib.Ieee.{of_bits}
use Rattle.model.specs.Num.{is_zero}
use Rattle.column_laws.proofs.Pivots.{couple_entry, couple_fine}
use Rattle.column_laws.proofs.Ends.{couple_skips, couple_ends, couple_fails}
use Rattle.column_laws.proofs.Ready.{couple_ready}
use Rattle.couple_columns.proofs.couple_column.Goals as goal

pub couple_pivot-found-requires : goal.couple_pivot-found-requires
couple_pivot-found-requires c =
    let r = couple_ready c.requires in
    rw (c.tile_start-u.ensures, c.tile_start-d.ensures)
    (record { two_blocks = record { rows_most = r.side_most; width_most = r.side_most; few = r.few; upper_room = r.upper_room; lower_room = r.lower_room; apart = r.apart }; c_lt_t = (r.column, r.upper_finite, r.lower_finite) })

pub overflow_cast-lists : goal.overflow_cast-lists
overflow_cast-lists c =
    let in_range : c.couple_pivot-found.result.place ≤ c.args.z.side = let a = c.args in
    let r = couple_ready c.requires in
    let u = c.tile_start-u.ensures in
    let d = c.tile_start-d.ensures in
    couple_entry a.z.side a.c c.tile_start-u.result c.tile_start-d.result r.column a.matrix.now (rw u r.upper_room) (rw d r.lower_room) (rw u r.upper_finite) (rw d r.lower_finite) c.couple_pivot-found.result c.couple_pivot-found.ensures in omega (arith, in_range, (couple_ready c.requires).side_most)

pub bounds-lists-p : goal.bounds-lists-p
bounds-lists-p c =
    let r = couple_ready c.requires in omega (arith, r.column, r.list_room, r.lists_few, c.list_start-p.ensures)

pub returns-then-magnitude : goal.returns-then-magnitude
unfolding of_bits is_zero
returns-then-magnitude c =
    let zero : is_zero c.couple_pivot-found.result.magnitude ≡ true = c.if-magnitude.true in let a = c.args in
    let r = couple_ready c.requires in
    let p = c.list_start-p.ensures in
    couple_skips a.z.tiles a.z.side a.k a.i a.c _ _ _ c.tile_start-u.ensures c.tile_start-d.ensures p r.column a.matrix.now a.lists.now _ (rw p r.list_room)
    c.couple_pivot-found.result c.couple_pivot-found.ensures refl _ (zero) c.column_end.ensures

pub couple_rows-requires : goal.couple_rows-requires
unfolding of_bits is_zero
couple_rows-requires c =
    let in_range : c.couple_pivot-found.result.place ≤ c.args.z.side = let a = c.args in
    let r = couple_ready c.requires in
    let u = c.tile_start-u.ensures in
    let d = c.tile_start-d.ensures in
    couple_entry a.z.side a.c c.tile_start-u.result c.tile_start-d.result r.column a.matrix.now (rw u r.upper_room) (rw d r.lower_room) (rw u r.upper_finite) (rw d r.lower_finite) c.couple_pivot-found.result c.couple_pivot-found.ensures in let nonzero : is_zero c.couple_pivot-found.result.magnitude ≡ false = c.if-magnitude.false in let a = c.args in
    let r = couple_ready c.requires in
    let t = a.z.side in
    let u = c.tile_start-u.ensures in
    let d = c.tile_start-d.ensures in
    let ru = rw (← u) at r.upper_room in
    let rd = rw (← d) at r.lower_room in record { two_blocks = record { rows_most = r.side_most; width_most = r.side_most; few = r.few; upper_room = ru; lower_room = rd; apart = rw (u, d) r.apart }; c_lt_t = (r.column, in_range, rw u r.upper_finite, rw d r.lower_finite); by_index = couple_fine t a.c c.tile_start-u.result c.tile_start-d.result r.column a.matrix.now ru rd (rw u r.upper_finite) (rw d r.lower_finite) c.couple_pivot-found.result c.couple_pivot-found.ensures (nonzero) }

pub returns-then-couple_rows : goal.returns-then-couple_rows
unfolding of_bits is_zero
returns-then-couple_rows c =
    let nonzero : is_zero c.couple_pivot-found.result.magnitude ≡ false = c.if-magnitude.false in let a = c.args in
    let r = couple_ready c.requires in
    let u = c.tile_start-u.ensures in
    let d = c.tile_start-d.ensures in
    let p = c.list_start-p.ensures in
    couple_ends a.z.tiles a.z.side a.k a.i a.c _ _ _ u d p r.column a.matrix.now a.lists.now _ (rw p r.list_room) c.couple_pivot-found.result c.couple_pivot-found.ensures refl
    (rw u r.upper_room) (rw d r.lower_room) (rw (u, d) r.apart) (nonzero) _ _ c.couple_rows.ensures _ c.if-couple_rows.true c.column_end-then-couple_rows.ensures

pub fill_coupled-requires : goal.fill_coupled-requires
fill_coupled-requires c =
    let r = couple_ready c.requires in
    let u = c.tile_start-u.ensures in
    let d = c.tile_start-d.ensures in
    let p = c.list_start-p.ensures in
    let long = c.couple_rows.auto.m in
    (r.side_most, omega (arith, r.upper_room, u, long), omega (arith, r.lower_room, d, long), simp length-set (omega (arith, r.list_room, p)))

pub returns : goal.returns
unfolding of_bits is_zero
returns c =
    let nonzero : is_zero c.couple_pivot-found.result.magnitude ≡ false = c.if-magnitude.false in let a = c.args in
    let r = couple_ready c.requires in
    let u = c.tile_start-u.ensures in
    let d = c.tile_start-d.ensures in
    let p = c.list_start-p.ensures in
    couple_fails a.z.tiles a.z.side a.k a.i a.c _ _ _ u d p r.column a.matrix.now a.lists.now _ (rw p r.list_room) c.couple_pivot-found.result c.couple_pivot-found.ensures refl
    (rw u r.upper_room) (rw d r.lower_room) (rw (u, d) r.apart) (nonzero) _ _ c.couple_rows.ensures _ _ _ c.if-couple_rows.false refl c.fill_coupled.ensures.matrix_after c.fill_coupled.ensures.lists_after
