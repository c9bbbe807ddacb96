-- All columns of T-4 on blocks, with b and by document 01, follow the theory's: the same two blocks. Assumes nothing.
use Prim.Native.Nat.{ℕ, zero, suc, ◌*◌, ◌≤◌, ◌<◌}
use mathlib.Core.Bool.{Bool, true, false, cond}
use mathlib.Core.Option.{Option}
use mathlib.Core.Path.{◌≡◌, refl, sym, ap, ◌∙◌}
use native.Mathlib.Omega.{arith}
use lib.ListN.{get_or, length}
use borrow.Author.Tests.{lt-ltb}
use Rattle.inner_theory.specs.Stack.{Place, up, low, Column, exchanged, updated, panel}
use Rattle.inner_theory.specs.Columns
use Rattle.inner_theory.specs.Columns.{col, first, last, multipliers, held, run₄, columnᵇ₄, runᵇ₄}
use Rattle.inner_theory.specs.Sound.{Inside}
use Rattle.inner_theory.specs.Alike.{Alike}
use Rattle.inner_theory.specs.Theorem
use Rattle.inner_theory.specs.Theorem.{Good₃, Finite₃}
use Rattle.inner_theory.proofs.Alike.{exchanged_alike, updated_alike, panel_alike, held_alike, fits, Fits}
use Rattle.model.specs.Tile.{at}
use Rattle.model.specs.Column.{Coupled, Paired}
use Rattle.inner_tiles.specs.Instance.{Row, ieee, named}
use Rattle.inner_tiles.specs.Inner.{Inner, panel_paired, inner_pair_column, panel_start, panel_ends}
use Rattle.inner_tiles.specs.Views.{stack, view₃}
use Rattle.inner_tiles.specs.K5.{couple_columns, inner_couple_columns, pair_columns, inner_pair_columns, opened, Sized, Same₄}
use Rattle.inner_tiles.proofs.Fourth.{fourth_alike, panel_paired_alike}
use Rattle.inner_tiles.proofs.ThirdRuns.{third_sized, third_follows, third_sizedᵇ, inner_follows, theory}
use Rattle.inner_tiles.proofs.Exchanges.{same_block}
use Rattle.inner_tiles.proofs.Sizes.{fourth_size, inner_size}

multipliers_from : (t : ℕ) (x y : Column (ieee t)) → Alike (ieee t) t x y → Alike (ieee t) t (multipliers (ieee t) x) (multipliers (ieee t) y)
unfolding multipliers
multipliers_from t x y h (up i) hp = refl
multipliers_from t x y h (low r) hp = h (low r) tt

module _ (b k : ℕ) (pos : 0 < b) (s : Coupled) (size : Sized (k * b) s) (w : ℕ) (x : Paired) (q : ℕ) (hq : q < w) where
  abbrev pub t : ℕ
  t = k * b

  abbrev pub B : Coupled
  B = couple_columns t t s

  abbrev pub R : Columns.Coupled (ieee t)
  R = Columns.run₃ (ieee t) t (view₃ t s)

  abbrev pub K : Inner
  K = inner_couple_columns t b t (opened t b s)

  abbrev pub Q : Columns.Blocked (ieee t)
  Q = Columns.runᵇ₃ (ieee t) b t (Theorem.opened (ieee t) (view₃ t s))

  abbrev pub x₀ : Column (ieee t)
  x₀ = col (ieee t) (stack t w x.upper x.lower) q

  pub base_follows : (n : ℕ) → n ≤ t → Alike (ieee t) t (col (ieee t) (stack t w (pair_columns t w B.lower B.rows n x).upper (pair_columns t w B.lower B.rows n x).lower) q) (run₄ (ieee t) R.tiles R.rows n x₀)
  unfolding pair_columns run₄
  base_follows zero o p hp = refl
  base_follows (suc n) o p hp =
      fourth_alike t w n q B.upper B.lower B.rows (pair_columns t w B.lower B.rows n x) o hq ((third_sized t t s (omega arith) size).entries n o) p hp
      ∙ (ap (λ (e : Option (Row t)). updated (ieee t) n (multipliers (ieee t) (col (ieee t) (stack t t B.upper B.lower) n)) (exchanged (ieee t) n e here) p) ((third_follows t t s (omega arith) size).rows n o)
      ∙ updated_alike (ieee t) t n (multipliers (ieee t) (col (ieee t) (stack t t B.upper B.lower) n)) (multipliers (ieee t) (col (ieee t) R.tiles n)) (exchanged (ieee t) n (R.rows n) here) (exchanged (ieee t) n (R.rows n) (run₄ (ieee t) R.tiles R.rows n x₀)) o
      (multipliers_from t _ _ ((third_follows t t s (omega arith) size).tiles n o))
      (exchanged_alike (ieee t) t n (R.rows n) here (run₄ (ieee t) R.tiles R.rows n x₀) o (base_follows n (omega arith))) p hp)
    where
      here : Column (ieee t)
      here = col (ieee t) (stack t w (pair_columns t w B.lower B.rows n x).upper (pair_columns t w B.lower B.rows n x).lower) q

  pub inner_follows₄ : (n : ℕ) → n ≤ t → Alike (ieee t) t (col (ieee t) (stack t w (inner_pair_columns t w b K.lower K.slice K.rows n x).upper (inner_pair_columns t w b K.lower K.slice K.rows n x).lower) q) (runᵇ₄ (ieee t) b Q.tiles Q.slice Q.rows n x₀)
  unfolding inner_pair_columns runᵇ₄ inner_pair_column columnᵇ₄ panel_start first panel_ends last
  inner_follows₄ zero o p hp = refl
  inner_follows₄ (suc n) o p hp = go (fits (ieee t) b k n pos o) (panel_ends b n) (inner_follows₄ n (omega arith)) p hp
    where
      y : Paired
      y = inner_pair_columns t w b K.lower K.slice K.rows n x

      z : Column (ieee t)
      z = runᵇ₄ (ieee t) b Q.tiles Q.slice Q.rows n x₀

      go : Fits (ieee t) b t n → (v : Bool) → Alike (ieee t) t (col (ieee t) (stack t w y.upper y.lower) q) z
          → Alike (ieee t) t (col (ieee t) (stack t w (cond v (panel_paired t w 0 b K.lower K.slice K.rows (panel_start b n) y) y).upper (cond v (panel_paired t w 0 b K.lower K.slice K.rows (panel_start b n) y) y).lower) q) (cond v (panel (ieee t) Q.rows (held (ieee t) (panel_start b n) Q.tiles Q.slice) (panel_start b n) b z) z)
      go f false ih p hp = ih p hp
      go f true ih p hp =
          panel_paired_alike t w 0 b (panel_start b n) K.upper K.lower K.slice K.rows y q f.whole hq (omega arith) (λ c u. (third_sizedᵇ b k pos s size t (omega arith)).entries c (omega (arith, f.whole))) p hp
          ∙ panel_alike (ieee t) t (λ c. named t (get_or K.rows c 0)) Q.rows (held (ieee t) (panel_start b n) (stack t t K.upper K.lower) (λ i j. at b K.slice i j)) (held (ieee t) (panel_start b n) Q.tiles Q.slice) (panel_start b n) b (col (ieee t) (stack t w y.upper y.lower) q) z f.whole
          (λ c l u. (inner_follows b k pos s size t (omega arith)).rows c (omega (arith, f.whole)))
          (λ c l u. held_alike (ieee t) t (panel_start b n) b c (stack t t K.upper K.lower) Q.tiles (λ i j. at b K.slice i j) Q.slice l u (inner_follows b k pos s size t (omega arith)).slice ((inner_follows b k pos s size t (omega arith)).tiles c (omega (arith, f.whole))))
          ih p hp

  same_column : Finite₃ (ieee t) t (view₃ t s) → Good₃ (ieee t) t (view₃ t s) → (p : Place (Row t)) → Inside 0 t p
      → col (ieee t) (stack t w (inner_pair_columns t w b K.lower K.slice K.rows t x).upper (inner_pair_columns t w b K.lower K.slice K.rows t x).lower) q p ≡ col (ieee t) (stack t w (pair_columns t w B.lower B.rows t x).upper (pair_columns t w B.lower B.rows t x).lower) q p
  same_column known good p hp =
      inner_follows₄ t (omega arith) p hp
      ∙ (ap (λ (y : Column (ieee t)). y p) ((theory b k pos s size known good).fourth_same good x₀) ∙ sym (base_follows t (omega arith) p hp))

-- K5, T-4, for any width: t for a tile, 1 for the right side
pub same₄ : (b k w : ℕ) → 0 < b → (s : Coupled) → Sized (k * b) s → (x : Paired) → length x.upper ≡ k * b * w → length x.lower ≡ k * b * w
    → Finite₃ (ieee (k * b)) (k * b) (view₃ (k * b) s) → Good₃ (ieee (k * b)) (k * b) (view₃ (k * b) s) → Same₄ b (k * b) w s x
unfolding col stack
same₄ b k w pos s size x hu hl known good = record {
  upper = same_block (k * b) w _ _ (inner_size (k * b) w b _ _ _ (k * b) x hu hl).0 (fourth_size (k * b) w _ _ (k * b) x hu hl).0 (λ r q hr hq. same_column b k pos s size w x q hq known good (up r) (omega arith, omega arith));
  lower = same_block (k * b) w _ _ (inner_size (k * b) w b _ _ _ (k * b) x hu hl).1 (fourth_size (k * b) w _ _ (k * b) x hu hl).1 (λ r q hr hq. same_column b k pos s size w x q hq known good (low (r, lt-ltb r (k * b) hr)) tt);
}
