-- One column of T-2(k): the exchanges, then the update of the rows below. Assumes nothing.
use Prim.Native.Nat.{◌+◌, ◌*◌, ◌≤◌}
use native.Mathlib.Omega.{arith}
use lib.ListN.{length}
use Rattle.column_laws.proofs.Permutes.{started_finite}
use Rattle.progress.proofs.Ready.{ready, right_room}
use Rattle.progress.proofs.Stepped.{finite_whole}
use Rattle.right_sides.proofs.Applied.{column_applied}
use Rattle.right_sides.proofs.apply_right_column.Goals as goal

pub apply_right-requires-clause-block_2 : goal.apply_right-requires-clause-block_2
apply_right-requires-clause-block_2 c =
    let q = c.requires in
    let r = ready q.solvable c.args.k c.args.k q.k_lt_tiles.0 q.k_lt_tiles.0 in
    record { rows_most = q.solvable.side_most; width_most = q.solvable.side_most; few = r.numbers_few; room = rw c.tile_start-f.ensures r.room }

pub apply_right-requires-clause-c_lt_t : goal.apply_right-requires-clause-c_lt_t
apply_right-requires-clause-c_lt_t c =
    let a = c.args in
    let q = c.requires in
    let r = ready q.solvable a.k a.k q.k_lt_tiles.0 q.k_lt_tiles.0 in
    let t = a.z.side in
    let e = c.list_start-p.ensures in
    let room : a.k * t + t * 1 ≤ length a.y.now = omega (arith, right_room a.z a.y.now q.right_side.long a.k q.k_lt_tiles.0) in
    (q.k_lt_tiles.1, started_finite t 1 a.c (a.k * t) c.list_start-p.result a.lists.now a.y.now _ room c.start_block.ensures (rw e r.list_room) (rw e (λ i h. q.solvable.diagonal_entries a.k i q.k_lt_tiles.0 h)) (finite_whole (a.k * t) (t * 1) a.y.now room q.right_side.all_finite_lem))

pub returns : goal.returns
returns c =
    let a = c.args in
    let q = c.requires in
    let r = ready q.solvable a.k a.k q.k_lt_tiles.0 q.k_lt_tiles.0 in
    column_applied a.z a.matrix.now a.lists.now a.k a.c a.y.now (right_room a.z a.y.now q.right_side.long a.k q.k_lt_tiles.0) _ c.tile_start-f.ensures _ _ _
    (rw c.list_start-p.ensures at c.start_block.ensures) c.apply_right.ensures r.list_room (λ i h. q.solvable.diagonal_entries a.k i q.k_lt_tiles.0 h) q.right_side.all_finite_lem
