-- Rows of width 1, each with a multiplier of another slice: what the loops over them have done, and that this is the update. Assumes nothing.
use mathlib.Core.Path.{◌≡◌, refl, sym, ap, ap₂, ◌∙◌, subst}
use mathlib.Core.Logic.{◌⊎◌, inr}
use mathlib.Core.Bool.{Bool, true, false}
use mathlib.Core.List.{List}
use Prim.Native.Nat.{ℕ, ◌+◌, ◌*◌, ◌≤◌, ◌<◌}
use native.Mathlib.Nat.{add_assoc, add-zero, mul-one, add-mul}
use native.Mathlib.Omega.{arith}
use lib.ListN.{length, get_or}
use lib.Ieee.{Float, nan}
use Rattle.model.specs.Lists.{part}
use Rattle.model.specs.Num.{finite, update}
use Rattle.model.specs.Tile.{all_finite}
use Rattle.row_updates.specs.Updates.{row_number, column_number, NumbersStored, RowsUpdated}
use Rattle.row_updates.proofs.Done.{made, Done, made_right, group_stored, group_not, done_more, done_join}
use Rattle.row_updates.proofs.Updated.{RowsDone, rows_made, made_at, rows_all, rows_not}
use Rattle.fills.proofs.Stores.{Stored}

abbrev pub ColumnDone : ℕ → ℕ → ℕ → ℕ → Float → List Float → ℕ → List Float → List Float → Type 0
ColumnDone f start first stride u l r before after = Done f start (column_number start first stride u l before) r before after

module _ (f start first stride : ℕ) (u : Float) (l : List Float) (r : ℕ) (before mid : List Float) (d : ColumnDone f start first stride u l r before mid) where
  number_same : (k : ℕ) → r ≤ k → column_number start first stride u l mid k ≡ column_number start first stride u l before k
  number_same k h = ap (λ (y : Float). update y (get_or l (first + k * stride) nan) u) (d.stored.outside (start + k) (inr (omega arith)))

  -- a group of n numbers, its multipliers `apart` apart
  module _ (n apart : ℕ) (places : (k : ℕ) → k < n → first + r * stride + k * apart ≡ first + (r + k) * stride) where
    group_same : (k : ℕ) → k < n → column_number (start + r) (first + r * stride) apart u l mid k ≡ column_number start first stride u l before (r + k)
    group_same k h =
        ap₂ (λ (y z : ℕ). update (get_or mid y nan) (get_or l z nan) u) (add_assoc start r k) (places k h) ∙ number_same (r + k) (omega arith)

    module _ (after : List Float) (ok : Bool) (g : NumbersStored n (start + r) (column_number (start + r) (first + r * stride) apart u l mid) mid after ok) (h : f ≤ r) where
      pub column_more : ok ≡ true → ColumnDone f start first stride u l (r + n) before after
      column_more e =
          done_more f start (column_number start first stride u l before) r n (column_number (start + r) (first + r * stride) apart u l mid) before mid after ok d g h group_same e

      column_stored : Stored nan start (r + n) (made f start (column_number start first stride u l before) before) before after
      column_stored =
          group_stored f start (column_number start first stride u l before) r n (column_number (start + r) (first + r * stride) apart u l mid) before mid after ok d g h group_same

      column_not : ok ≡ false → ((k : ℕ) → k < n → finite (column_number start first stride u l before (r + k)) ≡ true) → ⊥
      column_not e =
          group_not f start (column_number start first stride u l before) r n (column_number (start + r) (first + r * stride) apart u l mid) before mid after ok d g h group_same e

  pub column_join : (g : ℕ) (after : List Float) → f ≤ r → r ≤ g → ColumnDone r start first stride u l g mid after → ColumnDone f start first stride u l g before after
  column_join g after a b e =
      done_join f r g start (column_number start first stride u l before) (column_number start first stride u l mid) before mid after a b (λ k h _. number_same k h) d e

-- the places of one multiplier, and of four
pub place_one : (first stride r : ℕ) (k : ℕ) → k < 1 → first + r * stride + k * 0 ≡ first + (r + k) * stride
place_one first stride r k h = let z : k ≡ 0 = omega arith in rw (z, add-zero r) (omega arith)

pub place_more : (first stride r n : ℕ) (k : ℕ) → k < n → first + r * stride + k * stride ≡ first + (r + k) * stride
place_more first stride r n k h = rw (add-mul r k stride) (add_assoc first (r * stride) (k * stride))

-- ---- the update of rows of width 1

module _ (rows start top first stride : ℕ) (l before : List Float) (room : start + rows * 1 ≤ length before) (finites : all_finite (part start (rows * 1) before) ≡ true) where
  abbrev multiplier : ℕ → Float
  multiplier i = get_or l (first + i * stride) nan

  abbrev number : ℕ → Float
  number k = column_number start first stride (get_or before top nan) l before k

  row_number_lem : (i : ℕ) → number i ≡ row_number (start + i * 1) top (multiplier i) before 0
  row_number_lem i = rw (mul-one i, add-zero (start + i), add-zero top)

  number_made : (j : ℕ) → made 0 start number before j ≡ rows_made 1 0 start top multiplier before j
  number_made j =
      let e : j * 1 + 0 ≡ j = omega arith in
      sym (made_right 0 start number before j (omega arith)) ∙ row_number_lem j ∙ made_right 0 (start + j * 1) (row_number (start + j * 1) top (multiplier j) before) before 0 (omega arith)
      ∙ sym (made_at 1 0 start top multiplier before j 0 (omega arith)) ∙ ap (rows_made 1 0 start top multiplier before) e

  column_rows : (after : List Float) → Done 0 start number rows before after → RowsDone 1 0 start top multiplier rows before after
  column_rows after d = record {
    stored = record {
      long = d.stored.long;
      inside = λ j h. d.stored.inside j (omega arith) ∙ number_made j;
      outside = λ x h. d.stored.outside x (subst (λ (k : ℕ). (x < start) ⊎ (start + k ≤ x)) (mul-one rows) h);
    };
    fine = λ i k a b c. let z : k ≡ 0 = omega arith in rw z (ap finite (sym (row_number_lem i)) ∙ d.fine i (omega arith) a);
  }

  -- all rows are done
  pub column_all : (after : List Float) (r : ℕ) → r ≡ rows → Done 0 start number r before after
      → RowsUpdated rows 1 0 start multiplier (λ q. get_or before (top + q) nan) before after true
  column_all after r e d =
      rows_all rows 1 0 start top multiplier before (omega arith) room finites after rows refl (column_rows after (rw e at d))

  -- one of the n numbers from row r on isn't finite
  pub column_stop : (r n apart : ℕ) (mid after : List Float) (ok : Bool) → Done 0 start number r before mid
      → ((k : ℕ) → k < n → first + r * stride + k * apart ≡ first + (r + k) * stride)
      → NumbersStored n (start + r) (column_number (start + r) (first + r * stride) apart (get_or before top nan) l mid) mid after ok → r + n ≤ rows → ok ≡ false
      → RowsUpdated rows 1 0 start multiplier (λ q. get_or before (top + q) nan) before after false
  column_stop r n apart mid after ok d places g h e =
      rows_not rows 1 0 start top multiplier before (omega arith) room finites (r + n) (made 0 start number before) after (omega arith)
      (λ all.
      column_not 0 start first stride (get_or before top nan) l r before mid d n apart places after ok g (omega arith) e
      (λ k y. ap finite (row_number_lem (r + k)) ∙ all (r + k) 0 (omega arith) (omega arith) (omega arith)))
      (column_stored 0 start first stride (get_or before top nan) l r before mid d n apart places after ok g (omega arith))
