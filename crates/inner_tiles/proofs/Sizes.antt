-- The lengths that columns and panels leave. Assumes nothing.
use Prim.Native.Nat.{ℕ, zero, suc, ◌+◌, ◌*◌}
use mathlib.Core.Bool.{Bool, true, false, cond}
use mathlib.Core.List.{List}
use mathlib.Core.Path.{◌≡◌, ◌∙◌}
use lib.ListN.{length, length-set, length-replicate}
use lib.Ieee.{Float}
use Rattle.model.specs.Num.{plus_zero, is_zero}
use Rattle.model.specs.Tile.{zeros}
use Rattle.model.specs.Column.{Coupled, Paired, couple_pivot, upper_exchanged, lower_exchanged, pair_exchanged, pair_column}
use Rattle.inner_tiles.specs.Inner.{panel_start, panel_ends, panel_exchanged, panel_upper, panel_lower, panel_paired, inner_pair_column, Inner, couple_within, couple_right, inner_couple_column}
use Rattle.laws.proofs.Blocks.{length_block}
use Rattle.inner_tiles.specs.K5.{pair_columns, inner_pair_columns, inner_couple_columns, opened, Sized, InnerSize}
use Rattle.inner_tiles.proofs.Finite.{either}

-- ---- a panel

pub size_exchanges : (t w f : ℕ) (p : List ℕ) (a n : ℕ) (s : Paired) → length s.upper ≡ t * w → length (panel_exchanged t w f p a n s).upper ≡ t * w
unfolding panel_exchanged upper_exchanged
size_exchanges t w f p a zero s h = h
size_exchanges t w f p a (suc n) s h = length_block t w _

pub size_lower_exchanges : (t w f : ℕ) (p : List ℕ) (a n : ℕ) (s : Paired) → length s.lower ≡ t * w → length (panel_exchanged t w f p a n s).lower ≡ t * w
unfolding panel_exchanged lower_exchanged
size_lower_exchanges t w f p a zero s h = h
size_lower_exchanges t w f p a (suc n) s h = length_block t w _

pub size_uppers : (t w f b : ℕ) (sl : List Float) (z a n : ℕ) (u : List Float) → length u ≡ t * w → length (panel_upper t w f b sl z a n u) ≡ t * w
unfolding panel_upper
size_uppers t w f b sl z a zero u h = h
size_uppers t w f b sl z a (suc n) u h = length_block t w _

pub size_lowers : (t w f : ℕ) (l u : List Float) (a n : ℕ) (d : List Float) → length d ≡ t * w → length (panel_lower t w f l u a n d) ≡ t * w
unfolding panel_lower
size_lowers t w f l u a zero d h = h
size_lowers t w f l u a (suc n) d h = length_block t w _

module _ (t w f b : ℕ) (l sl : List Float) (p : List ℕ) (a : ℕ) (s : Paired) where
  pub size_panel_upper : length s.upper ≡ t * w → length (panel_paired t w f b l sl p a s).upper ≡ t * w
  unfolding panel_paired
  size_panel_upper h = size_uppers t w f b sl (a + b) a b _ (size_exchanges t w f p a b s h)

  pub size_panel_lower : length s.lower ≡ t * w → length (panel_paired t w f b l sl p a s).lower ≡ t * w
  unfolding panel_paired
  size_panel_lower h = size_lowers t w f l _ a b _ (size_lower_exchanges t w f p a b s h)

-- ---- T-4's columns

pub fourth_size : (t w : ℕ) (l : List Float) (p : List ℕ) (n : ℕ) (x : Paired) → length x.upper ≡ t * w → length x.lower ≡ t * w
    → (length (pair_columns t w l p n x).upper ≡ t * w) × (length (pair_columns t w l p n x).lower ≡ t * w)
unfolding pair_columns pair_column pair_exchanged upper_exchanged
fourth_size t w l p zero x h g = (h, g)
fourth_size t w l p (suc n) x h g = (length_block t w _, length_block t w _)

module _ (t w b : ℕ) (l sl : List Float) (p : List ℕ) where
  abbrev Sized₄ : Paired → Type 0
  Sized₄ x = (length x.upper ≡ t * w) × (length x.lower ≡ t * w)

  pub pair_size : (c : ℕ) (x : Paired) → Sized₄ x → Sized₄ (inner_pair_column t w b c l sl p x)
  unfolding inner_pair_column
  pair_size c x h = go (panel_ends b c)
    where
      go : (z : Bool) → Sized₄ (cond z (panel_paired t w 0 b l sl p (panel_start b c) x) x)
      go true = (size_panel_upper t w 0 b l sl p (panel_start b c) x h.0, size_panel_lower t w 0 b l sl p (panel_start b c) x h.1)
      go false = h

  pub inner_size : (n : ℕ) (x : Paired) → length x.upper ≡ t * w → length x.lower ≡ t * w → Sized₄ (inner_pair_columns t w b l sl p n x)
  unfolding inner_pair_columns
  inner_size zero x h g = (h, g)
  inner_size (suc n) x h g = pair_size n (inner_pair_columns t w b l sl p n x) (inner_size n x h g)

-- ---- T-3's columns

within_size : (t b a z c : ℕ) (s : Inner) → InnerSize t b s → InnerSize t b (couple_within t b a z c s)
unfolding couple_within
within_size t b a z c s h = either (InnerSize t b) (is_zero (couple_pivot t c s.upper s.lower).magnitude) _ _
    (record { upper = h.upper; lower = h.lower; slice = h.slice; rows = length-set s.rows c 0 ∙ h.rows })
    (record { upper = length_block t t _; lower = length_block t t _; slice = length_block t b _; rows = length-set s.rows c _ ∙ h.rows })

right_size : (t b a : ℕ) (s : Inner) → InnerSize t b s → InnerSize t b (couple_right t b a s)
unfolding couple_right
right_size t b a s h = record {
  upper = size_panel_upper t t (a + b) b s.lower s.slice s.rows a (record { upper = s.upper; lower = s.lower }) h.upper;
  lower = size_panel_lower t t (a + b) b s.lower s.slice s.rows a (record { upper = s.upper; lower = s.lower }) h.lower;
  slice = h.slice;
  rows = h.rows;
}

pub column_size : (t b c : ℕ) (s : Inner) → InnerSize t b s → InnerSize t b (inner_couple_column t b c s)
unfolding inner_couple_column
column_size t b c s h = go (panel_ends b c)
  where
    w : InnerSize t b (couple_within t b (panel_start b c) (panel_start b c + b) c s)
    w = within_size t b (panel_start b c) (panel_start b c + b) c s h

    go : (x : Bool) → InnerSize t b (cond x (couple_right t b (panel_start b c) (couple_within t b (panel_start b c) (panel_start b c + b) c s)) (couple_within t b (panel_start b c) (panel_start b c + b) c s))
    go true = right_size t b (panel_start b c) _ w
    go false = w

pub columns_size : (t b n : ℕ) (s : Inner) → InnerSize t b s → InnerSize t b (inner_couple_columns t b n s)
unfolding inner_couple_columns
columns_size t b zero s h = h
columns_size t b (suc n) s h = column_size t b n (inner_couple_columns t b n s) (columns_size t b n s h)

pub opened_size : (t b : ℕ) (s : Coupled) → Sized t s → InnerSize t b (opened t b s)
unfolding zeros
opened_size t b s h = record { upper = h.upper; lower = h.lower; slice = length-replicate (t * b) plus_zero; rows = h.rows }
