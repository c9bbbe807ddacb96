-- The rows below i·t are left. Assumes nothing.
use mathlib.Core.Path.{◌≡◌, refl, sym, ◌∙◌, ap}
use Prim.Native.Nat.{ℕ, suc, ◌+◌, ◌-◌, ◌*◌, ◌<◌}
use native.Mathlib.Nat.{mul-le-mul}
use native.Mathlib.Omega.{arith}
use Rattle.std.proofs.lemmas.Result.{err_from_is_err_and}
use Rattle.progress.specs.Right.{passed_of}
use Rattle.backward.specs.Rows.{lowest_done}
use Rattle.backward.proofs.Backs.{back_none, tile_goes, tile_stops, between_none, tile_between}
use Rattle.backward.proofs.back_rows.Goals as goal

-- the tile of row k - 1 ends where the next begins
tile_ends : (k t : ℕ) → 0 < k → (k - 1) * t + t ≡ k * t
tile_ends k t h =
    let one : suc (k - 1) ≡ k = omega arith in
    omega (arith, ap (λ (k : ℕ). k * t) one)

pub loop-i-init : goal.loop-i-init
loop-i-init c = (λ lists. refl, λ lists. between_none _ _ _ _)

pub loop-i-preserved : goal.loop-i-preserved
unfolding passed_of lowest_done
loop-i-preserved c =
    let i = c.loop-i.invariant in
    let b = c.back_tile.ensures in
    let goes = c.in_ok-back_tile.was in
    let e = tile_ends c.loop-i.i c.args.z.side c.loop-i-test.true in (
      λ lists. tile_goes _ _ _ _ _ _ (rw e at (b.by_index lists)) goes ∙ i.0 lists,
      λ lists. tile_between _ _ _ _ _ _ _ _ (rw (goes, e, lowest_done) at b.result_bound) (mul-le-mul c.loop-i.auto.i (omega arith)) (i.1 lists) (rw (goes, e, lowest_done) at (b.by_index_2 lists)),
    )

pub returns-in_err-back_tile : goal.returns-in_err-back_tile
unfolding passed_of lowest_done
returns-in_err-back_tile c =
    let i = c.loop-i.invariant in
    let b = c.back_tile.ensures in
    let stops = c.in_err-back_tile.was in
    let e = tile_ends c.loop-i.i c.args.z.side c.loop-i-test.true in
    let p = err_from_is_err_and c.from_residual.result c.from_residual.ensures.1 in
    rw (p.1, p.2) (record {
      by_index = λ lists. tile_stops _ _ _ _ _ _ (rw e at (b.by_index lists)) _ stops ∙ i.0 lists;
      by_index_2 = λ lists. tile_between _ _ _ _ _ _ _ _ (rw (stops, e, lowest_done) at b.result_bound) (mul-le-mul c.loop-i.auto.i (omega arith)) (i.1 lists) (rw (stops, e, lowest_done) at (b.by_index_2 lists));
    })

pub returns : goal.returns
unfolding passed_of lowest_done
returns c =
    let k : c.loop-i.i ≡ 0 = omega arith in
    let e : c.loop-i.i * c.args.z.side ≡ 0 = rw k (omega arith) in
    record { by_index = λ lists. sym (back_none _ _ _) ∙ (rw e at (c.loop-i.invariant.0 lists)); by_index_2 = λ lists. rw e at (c.loop-i.invariant.1 lists) }
