-- With b = 1 all columns of a T-3 on finite tiles, as long as no column fails, and all of a T-4, are document 01's. Assumes nothing.
use Prim.Native.Nat.{ℕ, zero, suc, ◌*◌, ◌≤◌, ◌<◌}
use mathlib.Core.Bool.{true}
use mathlib.Core.List.{List}
use mathlib.Core.Path.{◌≡◌, refl, ap, ◌∙◌}
use native.Mathlib.Omega.{arith}
use lib.ListN.{length}
use lib.Ieee.{Float}
use Rattle.model.specs.Lists.{every}
use Rattle.model.specs.Num.{finite}
use Rattle.model.specs.Column.{Coupled, Paired, couple_computes}
use Rattle.inner_tiles.specs.Inner.{Inner, inner_couple_column, inner_couple_computes, inner_pair_column}
use Rattle.laws.proofs.Finite.{finite_rows}
use Rattle.inner_tiles.specs.Single.{tiles_of, CoupleSingle}
use Rattle.inner_tiles.specs.K5.{couple_columns, inner_couple_columns, pair_columns, inner_pair_columns, Sized, FiniteBlock}
use Rattle.inner_tiles.proofs.Single.{single}
use Rattle.inner_tiles.proofs.ThirdRuns.{third_sized}
use Rattle.inner_tiles.proofs.ColumnSound.{couple_on}

module _ (t : ℕ) (s : Inner) (size : Sized t (tiles_of s)) (slice_long : length s.slice ≡ t * 1) (fu : FiniteBlock t t s.upper) (fd : FiniteBlock t t s.lower) where
  abbrev C : ℕ → Coupled
  C n = couple_columns t n (tiles_of s)

  -- none of the first n columns fails
  abbrev pub SoundTo : ℕ → Type 0
  SoundTo n = (c : ℕ) → c < n → every finite (couple_computes t c (couple_columns t c (tiles_of s))) ≡ true

  finite_to : (n : ℕ) → n ≤ t → SoundTo n → FiniteBlock t t (C n).upper × FiniteBlock t t (C n).lower
  unfolding couple_columns
  finite_to zero o h = (fu, fd)
  finite_to (suc n) o h = let x = finite_to n (omega arith) (λ c l. h c (omega arith)) in couple_on t n o (C n) x.0 x.1 (h n (omega arith))

  abbrev I : ℕ → Inner
  I n = record { upper = (C n).upper; lower = (C n).lower; slice = s.slice; rows = (C n).rows }

  at_column : (n : ℕ) → n < t → SoundTo n → CoupleSingle t n (I n)
  at_column n o h =
      let z = third_sized t n (tiles_of s) (omega arith) size in
      single.couple t n o (I n) z.upper z.lower slice_long z.rows (finite_rows t t (C n).lower z.lower (finite_to n (omega arith) h).1)

  pub columns_single : (n : ℕ) → n ≤ t → SoundTo n → inner_couple_columns t 1 n s ≡ I n
  unfolding inner_couple_columns couple_columns
  columns_single zero o h = refl
  columns_single (suc n) o h = ap (inner_couple_column t 1 n) (columns_single n (omega arith) before) ∙ whole (at_column n o before)
    where
      before : SoundTo n
      before c l = h c (omega arith)

      whole : CoupleSingle t n (I n) → inner_couple_column t 1 n (I n) ≡ I (suc n)
      whole x = λ i. record { upper = (x.column i).upper; lower = (x.column i).lower; slice = x.slice i; rows = (x.column i).rows }

  pub computes_single : (n : ℕ) → n < t → SoundTo n → every finite (inner_couple_computes t 1 n (inner_couple_columns t 1 n s)) ≡ every finite (couple_computes t n (C n))
  computes_single n o h = ap (λ (x : Inner). every finite (inner_couple_computes t 1 n x)) (columns_single n (omega arith) h) ∙ (at_column n o h).computes

module _ (t w : ℕ) (l sl : List Float) (p : List ℕ) where
  pub pairs_single : (n : ℕ) (x : Paired) → inner_pair_columns t w 1 l sl p n x ≡ pair_columns t w l p n x
  unfolding inner_pair_columns pair_columns
  pairs_single zero x = refl
  pairs_single (suc n) x = ap (inner_pair_column t w 1 n l sl p) (pairs_single n x) ∙ (single.pair t w n l sl p (pair_columns t w l p n x)).column
