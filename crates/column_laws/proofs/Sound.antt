-- Where every number computed is finite, what the inner work of T-2 and T-4 leaves is finite. Assumes nothing.
use mathlib.Core.Path.{◌≡◌, refl}
use mathlib.Core.Bool.{Bool, true, false, cond}
use mathlib.Core.List.{List}
use Prim.Native.Nat.{ℕ, suc, ◌-◌, ◌*◌, ◌<◌}
use native.Mathlib.Omega.{arith}
use lib.Dec.{leb}
use lib.ListN.{length}
use lib.Ieee.{Float}
use borrow.Author.Tests.{leb-false}
use Rattle.model.specs.Lists.{below, every}
use Rattle.model.specs.Num.{finite, update}
use Rattle.model.specs.Tile.{at, all_finite}
use Rattle.model.specs.Column.{beyond, row_computes}
use Rattle.laws.proofs.Every.{every_of_joined}
use Rattle.laws.proofs.Finite.{finite_at, finite_block, row_finite}
use Rattle.column_laws.specs.Steps.{applied_block, applied_computes, paired_block, paired_computes}

module _ (t w c : ℕ) (l : ℕ → Float) where
  pub paired_all_finite : (u d : List Float) → length d ≡ t * w → all_finite d ≡ true → every finite (paired_computes t w c l u d) ≡ true → all_finite (paired_block t w c l u d) ≡ true
  unfolding paired_block paired_computes below
  paired_all_finite u d hd fd e =
      finite_block t w (λ r q. update (at w d r q) (l r) (at w u c q))
      (λ r q hr hq.
      row_finite w (l r) (at w u c) (at w d r) q hq (finite_at t w d r q fd hd hr hq)
      (every_of_joined finite (λ r. row_computes w (l r) (at w u c) (at w d r)) 0 t r (omega arith) (omega arith) e))

  applied_by : (b : List Float) → length b ≡ t * w → all_finite b ≡ true → every finite (applied_computes t w c l b) ≡ true → (r q : ℕ) → r < t → q < w → (z : Bool) → leb r c ≡ z
      → finite (cond z (at w b r q) (update (at w b r q) (l r) (at w b c q))) ≡ true
  unfolding applied_computes beyond
  applied_by b hb fb e r q hr hq true z = finite_at t w b r q fb hb hr hq
  applied_by b hb fb e r q hr hq false z =
      let h = leb-false r c z in
      row_finite w (l r) (at w b c) (at w b r) q hq (finite_at t w b r q fb hb hr hq)
      (every_of_joined finite (λ r. row_computes w (l r) (at w b c) (at w b r)) (suc c) (t - suc c) r (omega arith) (omega arith) e)

  pub applied_all_finite : (b : List Float) → length b ≡ t * w → all_finite b ≡ true → every finite (applied_computes t w c l b) ≡ true → all_finite (applied_block t w c l b) ≡ true
  unfolding applied_block
  applied_all_finite b hb fb e = finite_block t w _ (λ r q hr hq. applied_by b hb fb e r q hr hq (leb r c) refl)
