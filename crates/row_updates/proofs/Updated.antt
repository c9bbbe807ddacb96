-- What the loops of an update of rows have done, and that this is the update. Assumes nothing.
use mathlib.Core.Path.{◌≡◌, refl, sym, ap, ap₂, ◌∙◌, subst}
use mathlib.Core.Logic.{◌⊎◌, inl, inr, ⊎_elim}
use mathlib.Core.Bool.{Bool, true, false, cond, ◌&&◌}
use mathlib.Core.List.{List, [], ◌∷◌, map}
use Prim.Native.Nat.{ℕ, ◌+◌, ◌-◌, ◌*◌, ◌/◌, ◌%◌, ◌≤◌, ◌<◌}
use native.Mathlib.Nat.{add_assoc, suc-mul, zero-mul}
use native.Mathlib.Numerals.{add-one}
use native.Mathlib.Omega.{arith}
use lib.Dec.{ltb}
use lib.ListN.{length, get_or}
use lib.Ieee.{Float, nan}
use Rattle.model.specs.Lists.{run, below, every, joined, part}
use Rattle.model.specs.Num.{finite, is_zero, update, update_computes}
use Rattle.model.specs.Tile.{at, block, all_finite}
use Rattle.laws.proofs.Tests.{false_if, never, lt_or_le, every_run_intro, every_run_elim}
use Rattle.laws.proofs.Every.{every_at, every_joined}
use Rattle.laws.proofs.Blocks.{get_or_table, length_block, row_of, column_of_lem, in_block, row_below, column_below, row_end}
use Rattle.laws.proofs.Parts.{length_part, get_part}
use Rattle.float_laws.proofs.Finite.{computed_shows}
use Rattle.row_updates.specs.Updates.{updated_rows, rows_compute, row_number, NumbersStored, RowUpdated, RowsUpdated}
use Rattle.row_updates.proofs.Done.{made, Done, made_left, made_right, group_stored, group_not, done_at, done_more, done_join}
use Rattle.fills.proofs.Stores.{Outside, Stored, stored_none, stored_join, stored_is, stored_frame}

-- ---- one row, which starts at s, by the multiplier x and the row at top

abbrev pub RowDone : ℕ → ℕ → ℕ → Float → ℕ → List Float → List Float → Type 0
RowDone f s top x q before after = Done f s (row_number s top x before) q before after

module _ (f s top : ℕ) (x : Float) where
  cond_same : (b : Bool) (y : Float) → cond b y y ≡ y
  cond_same true y = refl
  cond_same false y = refl

  -- a multiplier that is zero leaves the row as it is
  pub row_unchanged : (m : List Float) (w : ℕ) → is_zero x ≡ true → ((k : ℕ) → k < w → finite (get_or m (s + k) nan) ≡ true) → RowDone f s top x w m m
  unfolding made update
  row_unchanged m w z h = record {
    stored = record { long = refl; inside = λ j a. rw z (sym (cond_same (ltb j f) (get_or m (s + j) nan))); outside = λ y a. refl };
    fine = λ k a b. rw z (h k b);
  }

  -- what is read from column q on is as it was
  module _ (q : ℕ) (before mid : List Float) (d : RowDone f s top x q before mid) where
    number_same : (k : ℕ) → q ≤ k → Outside s q (top + k) → row_number s top x mid k ≡ row_number s top x before k
    number_same k a o = ap₂ (λ (y z : Float). update y x z) (d.stored.outside (s + k) (inr (omega arith))) (d.stored.outside (top + k) o)

    pub group_same : (n : ℕ) → ((k : ℕ) → k < n → Outside s q (top + (q + k))) → (k : ℕ) → k < n → row_number (s + q) (top + q) x mid k ≡ row_number s top x before (q + k)
    group_same n o k a =
        ap₂ (λ (y z : ℕ). update (get_or mid y nan) x (get_or mid z nan)) (add_assoc s q k) (add_assoc top q k) ∙ number_same (q + k) (omega arith) (o k a)

    -- what a group of n numbers adds
    pub row_more : (n : ℕ) (after : List Float) (ok : Bool) → NumbersStored n (s + q) (row_number (s + q) (top + q) x mid) mid after ok → f ≤ q
        → ((k : ℕ) → k < n → Outside s q (top + (q + k))) → ok ≡ true → RowDone f s top x (q + n) before after
    row_more n after ok g h o e = done_more f s (row_number s top x before) q n (row_number (s + q) (top + q) x mid) before mid after ok d g h (group_same n o) e

    pub row_join : (g : ℕ) (after : List Float) → f ≤ q → q ≤ g → ((k : ℕ) → q ≤ k → k < g → Outside s q (top + k)) → RowDone q s top x g mid after → RowDone f s top x g before after
    row_join g after a b o e = done_join f q g s (row_number s top x before) (row_number s top x mid) before mid after a b (λ k h l. number_same k h (o k h l)) d e

-- ---- what the update of one row leaves

module _ (w f s top : ℕ) (x : Float) (before : List Float) (fits : f ≤ w) where
  row_frame : (n : ℕ) (after : List Float) → n ≤ w → Stored nan s n (made f s (row_number s top x before) before) before after → (y : ℕ) → (y < s + f) ⊎ (s + w ≤ y)
      → get_or after y nan ≡ get_or before y nan
  row_frame n after h d y o = by (lt_or_le y s) (lt_or_le y (s + n)) o
    where
      by : (y < s) ⊎ (s ≤ y) → (y < s + n) ⊎ (s + n ≤ y) → (y < s + f) ⊎ (s + w ≤ y) → get_or after y nan ≡ get_or before y nan
      by (inl a) b c = d.outside y (inl a)
      by (inr a) (inr b) c = d.outside y (inr b)
      by (inr a) (inl b) (inr c) = absurd (omega arith)
      by (inr a) (inl b) (inl c) =
          let k = y - s in
          let e : s + k ≡ y = omega arith in
          subst (λ (z : ℕ). get_or after z nan ≡ get_or before z nan) e (d.inside k (omega arith) ∙ sym (made_left f s (row_number s top x before) before k (omega arith)))

  -- all columns are done
  pub row_all : (q : ℕ) (after : List Float) → q ≡ w → RowDone f s top x q before after → RowUpdated w f s top x before after true
  row_all q after z d' =
      let d : RowDone f s top x w before after = done_at f s (row_number s top x before) q w before after z d' in
      record {
        sound = sym (every_run_intro (λ k. finite (row_number s top x before k)) f (w - f) (λ k a b. d.fine k a (omega arith)));
        long = d.stored.long;
        inside = λ _ k a b. d.stored.inside k b ∙ sym (made_right f s (row_number s top x before) before k a);
        outside = row_frame w after (omega arith) d.stored;
      }

  -- one of the n numbers from column q on isn't finite
  pub row_stop : (q n : ℕ) (mid after : List Float) (ok : Bool) → RowDone f s top x q before mid → NumbersStored n (s + q) (row_number (s + q) (top + q) x mid) mid after ok
      → ((k : ℕ) → k < n → Outside s q (top + (q + k))) → f ≤ q → q + n ≤ w → ok ≡ false → RowUpdated w f s top x before after false
  row_stop q n mid after ok d g o a b e =
      let same = group_same f s top x q before mid d n o in
      let v = row_number s top x before in
      let u = row_number (s + q) (top + q) x mid in
      record {
        sound = sym (false_if (every (λ k. finite (v k)) (run f (w - f)))
            (λ all. group_not f s v q n u before mid after ok d g a same e (λ k h. every_run_elim (λ j. finite (v j)) f (w - f) all (q + k) (omega arith) (omega arith))));
        long = g.long ∙ d.stored.long;
        inside = λ t. never t refl;
        outside = row_frame (q + n) after b (group_stored f s v q n u before mid after ok d g a same);
      }

  -- a row that is updated, as loops over rows have it
  pub row_is : (after : List Float) → RowUpdated w f s top x before after true → RowDone f s top x w before after
  row_is after u = record {
    stored = record {
      long = u.long;
      inside = λ j h.
          ⊎_elim (λ a. u.outside (s + j) (inl (omega arith)) ∙ made_left f s (row_number s top x before) before j a)
          (λ a. u.inside refl j a h ∙ made_right f s (row_number s top x before) before j a)
          (lt_or_le j f);
      outside = λ y o. u.outside y (⊎_elim (λ l. inl (omega arith)) (λ g. inr g) o);
    };
    fine = λ k a b. every_run_elim (λ j. finite (row_number s top x before j)) f (w - f) (sym u.sound) k a (omega arith);
  }

-- ---- the rows from start on

module _ (w f start top : ℕ) (l : ℕ → Float) where
  -- row i
  abbrev pub cell_made : List Float → ℕ → ℕ → Float
  cell_made m i q = made f (start + i * w) (row_number (start + i * w) top (l i) m) m q

  -- number j of the rows
  unfoldable pub rows_made : List Float → ℕ → Float
  rows_made m j = cell_made m (j / w) (j % w)

pub record RowsDone (w f start top : ℕ) (l : ℕ → Float) (r : ℕ) (before after : List Float) : Type 0 where
  pub stored : Stored nan start (r * w) (rows_made w f start top l before) before after
  pub fine : (i k : ℕ) → i < r → f ≤ k → k < w → finite (row_number (start + i * w) top (l i) before k) ≡ true

module _ (w f start top : ℕ) (l : ℕ → Float) where
  pub made_at : (m : List Float) (r q : ℕ) → q < w → rows_made w f start top l m (r * w + q) ≡ cell_made w f start top l m r q
  unfolding rows_made
  made_at m r q h = rw (row_of w r q h, column_of_lem w r q h)

  pub rows_none : (m : List Float) → RowsDone w f start top l 0 m m
  rows_none m = record { stored = subst (λ (k : ℕ). Stored nan start k (rows_made w f start top l m) m m) (sym (zero-mul w)) (stored_none nan start (rows_made w f start top l m) m); fine = λ i k a b c. absurd (omega arith) }

  -- r rows are done; nothing that the next one reads has changed
  module _ (r : ℕ) (before mid : List Float) (d : RowsDone w f start top l r before mid) (o : (k : ℕ) → k < w → Outside start (r * w) (top + k)) where
    cell_same : (k : ℕ) → get_or mid (start + r * w + k) nan ≡ get_or before (start + r * w + k) nan
    cell_same k = d.stored.outside (start + r * w + k) (inr (omega arith))

    row_same : (k : ℕ) → k < w → row_number (start + r * w) top (l r) mid k ≡ row_number (start + r * w) top (l r) before k
    row_same k a = ap₂ (λ (y z : Float). update y (l r) z) (cell_same k) (d.stored.outside (top + k) (o k a))

    row_made : (k : ℕ) → k < w → made f (start + r * w) (row_number (start + r * w) top (l r) mid) mid k ≡ cell_made w f start top l before r k
    unfolding made
    row_made k a = ap₂ (λ (y z : Float). cond (ltb k f) y z) (cell_same k) (row_same k a)

  -- the next row is done too, by a multiplier x that is its own
  pub rows_more : (r : ℕ) (x : Float) (before mid after : List Float) → x ≡ l r → RowsDone w f start top l r before mid → RowDone f (start + r * w) top x w mid after
      → ((k : ℕ) → k < w → Outside start (r * w) (top + k)) → RowsDone w f start top l (r + 1) before after
  rows_more r x before mid after y d e' o =
      let e : RowDone f (start + r * w) top (l r) w mid after = rw y at e' in
      record {
        stored = subst (λ (k : ℕ). Stored nan start k (rows_made w f start top l before) before after) (sym (ap (λ (z : ℕ). z * w) (add-one r) ∙ suc-mul r w))
            (stored_join nan start (r * w) w (rows_made w f start top l before) (made f (start + r * w) (row_number (start + r * w) top (l r) mid) mid) before mid after d.stored e.stored
            (λ j a. row_made r before mid d o j a ∙ sym (made_at before r j a)));
        fine = λ i k a b c.
            ⊎_elim (λ g. d.fine i k g b c)
            (λ g. subst (λ (z : ℕ). finite (row_number (start + z * w) top (l z) before k) ≡ true) (omega arith) (ap finite (sym (row_same r before mid d o k c)) ∙ e.fine k b c))
            (lt_or_le i r);
      }

-- the row at top shares no number with the rows: none with those that are done, and none with the next one
abbrev Aside : ℕ → ℕ → ℕ → ℕ → Type 0
Aside rows w start top = (top + w ≤ start) ⊎ (start + rows * w ≤ top)

pub top_kept : (rows w start top : ℕ) → Aside rows w start top → (r : ℕ) → r < rows → (k : ℕ) → k < w → Outside start (r * w) (top + k)
top_kept rows w start top s r h k l = ⊎_elim (λ g. inl (omega arith)) (λ g. inr (omega (arith, row_end r rows w h))) s

pub top_apart : (rows w start top : ℕ) → Aside rows w start top → (r : ℕ) → r < rows → (top + w ≤ start + r * w) ⊎ (start + r * w + w ≤ top)
top_apart rows w start top s r h = ⊎_elim (λ g. inl (omega arith)) (λ g. inr (omega (arith, row_end r rows w h))) s

-- nor does it share one with the columns of a row that are done
pub top_clear : (w s top : ℕ) → (top + w ≤ s) ⊎ (s + w ≤ top) → (q : ℕ) → q ≤ w → (k : ℕ) → k < w → Outside s q (top + k)
top_clear w s top o q h k a = ⊎_elim (λ g. inl (omega arith)) (λ g. inr (omega arith)) o

-- the multiplier of row r is none of the numbers of the rows before it
pub multiplier_kept : (rows w start first : ℕ) → (first + rows * w < start + w) ⊎ (start ≤ first) → (r : ℕ) → r < rows → Outside start (r * w) (first + r * w)
multiplier_kept rows w start first s r h = ⊎_elim (λ g. inl (omega (arith, row_end r rows w h))) (λ g. inr (omega arith)) s

-- ---- every number computed is finite

every_cong : {A : Type 0} (p q : A → Bool) → ((x : A) → p x ≡ q x) → (xs : List A) → every p xs ≡ every q xs
unfolding every
every_cong p q h [] = refl
every_cong p q h (x ∷ xs) = ap₂ (λ (a b : Bool). a && b) (h x) (every_cong p q h xs)

module _ (rows w f start top : ℕ) (l : ℕ → Float) (before : List Float) (fits : f ≤ w) (room : start + rows * w ≤ length before) where
  -- number q of row i, as the definition reads it
  cell_at : (i q : ℕ) → i < rows → q < w → at w (part start (rows * w) before) i q ≡ get_or before (start + i * w + q) nan
  unfolding at
  cell_at i q a b =
      get_part start (rows * w) before nan (i * w + q) (in_block rows w i q a b) ∙ ap (λ (z : ℕ). get_or before z nan) (sym (add_assoc start (i * w) q))

  abbrev computed : List Float
  computed = rows_compute rows w f l (λ q. get_or before (top + q) nan) (part start (rows * w) before)

  -- the test of the numbers that the update of one number computes
  abbrev cell_test : ℕ → ℕ → Bool
  cell_test i q = every finite (update_computes (at w (part start (rows * w) before) i q) (l i) (get_or before (top + q) nan))

  computed_test : every finite computed ≡ every (λ i. every (cell_test i) (run f (w - f))) (below rows)
  unfolding rows_compute
  computed_test =
      every_joined finite (λ i. joined (map (λ q. update_computes (at w (part start (rows * w) before) i q) (l i) (get_or before (top + q) nan)) (run f (w - f)))) (below rows)
      ∙ every_cong (λ i. every finite (joined (map (λ q. update_computes (at w (part start (rows * w) before) i q) (l i) (get_or before (top + q) nan)) (run f (w - f)))))
      (λ i. every (cell_test i) (run f (w - f)))
      (λ i. every_joined finite (λ q. update_computes (at w (part start (rows * w) before) i q) (l i) (get_or before (top + q) nan)) (run f (w - f)))
      (below rows)

  module _ (finites : all_finite (part start (rows * w) before) ≡ true) where
    cell_finite : (i q : ℕ) → i < rows → q < w → finite (at w (part start (rows * w) before) i q) ≡ true
    unfolding all_finite at
    cell_finite i q a b = every_at finite (part start (rows * w) before) nan (i * w + q) finites (rw (length_part start (rows * w) before room) (in_block rows w i q a b))

    -- one test after an update is enough
    cell_test_lem : (i q : ℕ) → i < rows → q < w → cell_test i q ≡ finite (row_number (start + i * w) top (l i) before q)
    cell_test_lem i q a b =
        computed_shows (at w (part start (rows * w) before) i q) (l i) (get_or before (top + q) nan) (cell_finite i q a b)
        ∙ ap (λ (x : Float). finite (update x (l i) (get_or before (top + q) nan))) (cell_at i q a b)

    all_fine : ((i q : ℕ) → i < rows → f ≤ q → q < w → finite (row_number (start + i * w) top (l i) before q) ≡ true) → every finite computed ≡ true
    unfolding below
    all_fine h =
        computed_test
        ∙ every_run_intro (λ i. every (cell_test i) (run f (w - f))) 0 rows
        (λ i a b. every_run_intro (cell_test i) f (w - f) (λ q c d. cell_test_lem i q (omega arith) (omega arith) ∙ h i q (omega arith) c (omega arith)))

    each_fine : every finite computed ≡ true → (i q : ℕ) → i < rows → f ≤ q → q < w → finite (row_number (start + i * w) top (l i) before q) ≡ true
    unfolding below
    each_fine e i q a b c =
        let r = every_run_elim (λ j. every (cell_test j) (run f (w - f))) 0 rows (sym computed_test ∙ e) i (omega arith) (omega arith) in
        sym (cell_test_lem i q a c) ∙ every_run_elim (cell_test i) f (w - f) r q b (omega arith)

    -- a row whose multiplier is zero
    pub row_zero : (r : ℕ) (x : Float) (mid : List Float) → RowsDone w f start top l r before mid → r < rows → is_zero x ≡ true → RowDone f (start + r * w) top x w mid mid
    row_zero r x mid d a z =
        row_unchanged f (start + r * w) top x mid w z
        (λ k b. ap finite (d.stored.outside (start + r * w + k) (inr (omega arith)) ∙ sym (cell_at r k a b)) ∙ cell_finite r k a b)

    length_updated : length (updated_rows rows w f l (λ q. get_or before (top + q) nan) (part start (rows * w) before)) ≡ rows * w
    unfolding updated_rows
    length_updated = simp length_block

    -- all rows are done
    pub rows_all : (after : List Float) (r : ℕ) → r ≡ rows → RowsDone w f start top l r before after → RowsUpdated rows w f start l (λ q. get_or before (top + q) nan) before after true
    unfolding updated_rows block rows_made made
    rows_all after r e d' =
        let d : RowsDone w f start top l rows before after = subst (λ (k : ℕ). RowsDone w f start top l k before after) e d' in
        record {
          sound = sym (all_fine (λ i q a b c. d.fine i q a b c));
          whole = λ t.
              stored_is nan start (rows * w) (rows_made w f start top l before) before after
              (updated_rows rows w f l (λ q. get_or before (top + q) nan) (part start (rows * w) before)) d.stored
              (record { whole = length_updated; room = room })
              (λ j h.
              get_or_table (rows * w) _ j nan h
              ∙ ap (λ (x : Float). cond (ltb (j % w) f) x (update x (l (j / w)) (get_or before (top + j % w) nan))) (cell_at (j / w) (j % w) (row_below rows w j h) (column_below rows w j h)));
          frame = stored_frame nan start (rows * w) (rows * w) (rows_made w f start top l before) before after d.stored (omega arith) room;
        }

    -- not all numbers are finite, and only some of the rows' are stored
    pub rows_not : (k : ℕ) (v : ℕ → Float) (after : List Float) → k ≤ rows * w
        → (((i q : ℕ) → i < rows → f ≤ q → q < w → finite (row_number (start + i * w) top (l i) before q) ≡ true) → ⊥)
        → Stored nan start k v before after → RowsUpdated rows w f start l (λ q. get_or before (top + q) nan) before after false
    rows_not k v after a h s = record {
      sound = sym (false_if (every finite computed) (λ t. h (each_fine t)));
      whole = λ t. never t refl;
      frame = stored_frame nan start k (rows * w) v before after s a room;
    }

    -- a number of row r isn't finite
    pub rows_stop : (r : ℕ) (x : Float) (mid after : List Float) → x ≡ l r → RowsDone w f start top l r before mid → RowUpdated w f (start + r * w) top x mid after false
        → ((k : ℕ) → k < w → Outside start (r * w) (top + k)) → r < rows → RowsUpdated rows w f start l (λ q. get_or before (top + q) nan) before after false
    rows_stop r x mid after z d u' o h =
        let s = start + r * w in
        let u : RowUpdated w f s top (l r) mid after false = rw z at u' in
        rows_not (r * w + w) (λ j. get_or after (start + j) nan) after (row_end r rows w h)
        (λ all. never (every_run_intro (λ k. finite (row_number s top (l r) mid k)) f (w - f) (λ k a b. ap finite (row_same w f start top l r before mid d o k (omega arith)) ∙ all r k h a (omega arith))) (sym u.sound))
        (record {
          long = u.long ∙ d.stored.long;
          inside = λ j a. refl;
          outside = λ y p. u.outside y (⊎_elim (λ a. inl (omega arith)) (λ b. inr (omega arith)) p) ∙ d.stored.outside y (⊎_elim (λ a. inl a) (λ b. inr (omega arith)) p);
        })

-- ---- multipliers that stand in the slice itself, that of row i at first + i·w

-- the multiplier that row r reads is the one that was there
pub multiplier_same : (rows w f start top first : ℕ) (before mid : List Float) (r : ℕ) → (first + rows * w < start + w) ⊎ (start ≤ first) → r < rows
    → RowsDone w f start top (λ i. get_or before (first + i * w) nan) r before mid → get_or mid (first + r * w) nan ≡ get_or before (first + r * w) nan
multiplier_same rows w f start top first before mid r s h d = d.stored.outside (first + r * w) (multiplier_kept rows w start first s r h)
