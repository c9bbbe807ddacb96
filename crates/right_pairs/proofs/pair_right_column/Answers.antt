-- One column of T-4(k,i): exchanged by the entry, then the lower part updated. Assumes nothing.
use mathlib.Core.Path.{◌∙◌, ap}
use Prim.Native.Nat.{◌+◌, ◌*◌, ◌<◌, ◌≤◌}
use native.Mathlib.Omega.{arith}
use lib.ListN.{length, get_or}
use Rattle.column_laws.proofs.Places.{slots_apart}
use Rattle.progress.proofs.Ready.{ready, right_room}
use Rattle.progress.proofs.Stepped.{finite_whole}
use Rattle.right_pairs.proofs.Paired.{column_paired}
use Rattle.right_pairs.proofs.pair_right_column.Goals as goal

pub bounds-lists-p : goal.bounds-lists-p
bounds-lists-p c =
    let k_lt_tiles : c.args.k < c.args.z.tiles = omega arith in
    let r = ready c.requires.solvable c.args.i c.args.k c.requires.k_lt_i.1 k_lt_tiles in
    omega (arith, r.list_room, c.list_start-p.ensures)

pub pair_right-requires-clause-block : goal.pair_right-requires-clause-block
pair_right-requires-clause-block c =
    let k_lt_tiles : c.args.k < c.args.z.tiles = omega arith in
    let r = ready c.requires.solvable c.args.i c.args.k c.requires.k_lt_i.1 k_lt_tiles in
    record { rows_most = c.requires.solvable.side_most; width_most = c.requires.solvable.side_most; few = r.numbers_few; room = rw c.tile_start-f.ensures r.room }

pub pair_right-requires-clause-y_value : goal.pair_right-requires-clause-y_value
pair_right-requires-clause-y_value c =
    let a = c.args in
    let t = a.z.side in
    let u = c.requires.right_side in
    let k_lt_tiles : a.k < a.z.tiles = omega arith in
    let upper : a.k * t + t * 1 ≤ length a.y.now = omega (arith, right_room a.z a.y.now u.long a.k k_lt_tiles) in
    let lower : a.i * t + t * 1 ≤ length a.y.now = omega (arith, right_room a.z a.y.now u.long a.i c.requires.k_lt_i.1) in
    (finite_whole (a.k * t) (t * 1) a.y.now upper u.all_finite_lem, finite_whole (a.i * t) (t * 1) a.y.now lower u.all_finite_lem)

pub returns : goal.returns
returns c =
    let a = c.args in
    let q = c.requires in
    let k_lt_tiles : a.k < a.z.tiles = omega arith in
    let r = ready q.solvable a.i a.k q.k_lt_i.1 k_lt_tiles in
    let entry : c.wide-e.result ≤ a.z.side = rw (c.wide-e.ensures, c.list_start-p.ensures) (q.solvable.lower_entries a.i a.k a.c q.k_lt_i.0 q.k_lt_i.1 q.k_lt_i.2) in
    column_paired a.z a.matrix.now a.lists.now a.k a.i a.c a.y.now q.k_lt_i.2 r.list_room _ (c.wide-e.ensures ∙ ap (λ x. get_or a.lists.now (x + a.c) 0) c.list_start-p.ensures)
    (right_room a.z a.y.now q.right_side.long a.k k_lt_tiles) (right_room a.z a.y.now q.right_side.long a.i q.k_lt_i.1) (slots_apart a.z.side a.k a.i q.k_lt_i.0) _ c.tile_start-f.ensures _ _
    c.pair_right.ensures entry q.right_side.all_finite_lem
