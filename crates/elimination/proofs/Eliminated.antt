-- What the loops of an elimination have done, and that this is the elimination. Assumes nothing.
use mathlib.Core.Path.{◌≡◌, refl, sym, ap, ◌∙◌, subst}
use mathlib.Core.Logic.{◌⊎◌, inl, inr, ⊎_elim}
use mathlib.Core.Bool.{Bool, true, false, ◌&&◌}
use mathlib.Core.List.{List}
use Prim.Native.Nat.{ℕ, suc, ◌+◌, ◌-◌, ◌*◌, ◌/◌, ◌%◌, ◌≤◌, ◌<◌}
use native.Mathlib.Nat.{add_assoc, suc-mul, zero-mul}
use native.Mathlib.Numerals.{add-one}
use native.Mathlib.Omega.{arith}
use lib.ListN.{length, get_or, set, length-set}
use lib.Seq.{get_or-set_same, get_or-set_other}
use lib.Ieee.{Float, nan}
use Rattle.model.specs.Lists.{run, below, every, part}
use Rattle.model.specs.Num.{finite, update, update_computes, quotient}
use Rattle.model.specs.Tile.{at, block, all_finite}
use Rattle.model.specs.Column.{beyond, eliminated, elimination_computes}
use Rattle.laws.proofs.Tests.{Order, less, equal, more, order, false_if, never, lt_or_le, and_right, every_run_intro, every_run_elim}
use Rattle.laws.proofs.Every.{every_joined}
use Rattle.laws.proofs.Blocks.{get_or_table, length_block, row_of, column_of_lem, row_end}
use Rattle.laws.proofs.Parts.{length_part}
use Rattle.laws.proofs.Finite.{finite_at}
use Rattle.float_laws.proofs.Finite.{computed_shows}
use Rattle.fills.proofs.Stores.{Stored, stored_none, stored_join, stored_is, stored_frame}
use Rattle.row_updates.specs.Updates.{row_number, RowUpdated}
use Rattle.row_updates.proofs.Done.{made_left, made_right}
use Rattle.row_updates.proofs.Updated.{RowDone, top_kept}
use Rattle.column_laws.specs.Steps.{RowsEliminated, eliminated_rows, eliminated_computes}
use Rattle.column_laws.proofs.Updates.{compare_less, compare_equal, compare_more, at_part}

module _ (k t c s top : ℕ) (m : List Float) where
  -- row i, the row that is eliminated, and the multiplier of row i
  abbrev pub row : ℕ → ℕ → Float
  row i = at t (part s (k * t) m) i

  abbrev pub pivot_row : ℕ → Float
  pivot_row q = get_or m (top + q) nan

  abbrev pub multiplier : ℕ → Float
  multiplier i = quotient (row i c) (pivot_row c)

  -- number j of the rows, once the row is eliminated
  unfoldable pub gone : ℕ → Float
  gone j = eliminated c pivot_row (row (j / t)) (j % t)

-- the pivot row is eliminated from r rows
pub record RowsGone (k t c s top : ℕ) (m : List Float) (r : ℕ) (after : List Float) : Type 0 where
  pub stored : Stored nan s (r * t) (gone k t c s top m) m after
  pub fine : (i q : ℕ) → i < r → c < q → q < t → finite (update (row k t c s top m i q) (multiplier k t c s top m i) (pivot_row k t c s top m q)) ≡ true

pub gone_none : (k t c s top : ℕ) (m : List Float) → RowsGone k t c s top m 0 m
gone_none k t c s top m = record {
  stored = subst (λ (j : ℕ). Stored nan s j (gone k t c s top m) m m) (sym (zero-mul t)) (stored_none nan s (gone k t c s top m) m);
  fine = λ i q a b d. absurd (omega arith);
}

module _ (k t c s top : ℕ) (hc : c < t) (m : List Float) (room : s + k * t ≤ length m) (apart : (top + t ≤ s) ⊎ (s + k * t ≤ top)) where
  row_number_lem : (i q : ℕ) → i < k → q < t → get_or m (s + i * t + q) nan ≡ row k t c s top m i q
  row_number_lem i q a b = ap (λ (z : ℕ). get_or m z nan) (add_assoc s (i * t) q) ∙ sym (at_part k t s m i q room a b)

  -- ---- one row more: its number in column c is x, and those right of it are updated by x

  module _ (r : ℕ) (hr : r < k) (mid : List Float) (d : RowsGone k t c s top m r mid) (x : Float) (ex : x ≡ quotient (get_or mid (s + r * t + c) nan) (get_or m (top + c) nan)) where
    abbrev a : ℕ
    a = s + r * t

    abbrev divided : List Float
    divided = set mid (a + c) x

    kept : (q : ℕ) → q < t → get_or mid (a + q) nan ≡ row k t c s top m r q
    kept q h = d.stored.outside (a + q) (inr (omega arith)) ∙ row_number_lem r q hr h

    pub multiplier_is : x ≡ multiplier k t c s top m r
    multiplier_is = ex ∙ ap (λ (y : Float). quotient y (get_or m (top + c) nan)) (kept c hc)

    top_same : (q : ℕ) → q < t → get_or divided (top + q) nan ≡ pivot_row k t c s top m q
    top_same q h =
        get_or-set_other mid (a + c) (top + q) x nan (λ e. ⊎_elim (λ l. omega arith) (λ g. omega (arith, row_end r k t hr)) apart)
        ∙ d.stored.outside (top + q) (top_kept k t s top apart r hr q h)

    beside : (q : ℕ) → q < t → (q ≡ c → ⊥) → get_or divided (a + q) nan ≡ row k t c s top m r q
    beside q h n = get_or-set_other mid (a + c) (a + q) x nan (λ e. n (omega arith)) ∙ kept q h

    new_number : (q : ℕ) → c < q → q < t → row_number a top x divided q ≡ update (row k t c s top m r q) (multiplier k t c s top m r) (pivot_row k t c s top m q)
    new_number q h l = rw (beside q l (λ e. omega arith), top_same q l, multiplier_is)

    -- all numbers of the divided row are finite
    pub divided_finite : ((q : ℕ) → q < t → finite (row k t c s top m r q) ≡ true) → finite (multiplier k t c s top m r) ≡ true → (q : ℕ) → q < t → finite (get_or divided (a + q) nan) ≡ true
    divided_finite f g q h = by_order (order q c)
      where
        by_order : Order q c → finite (get_or divided (a + q) nan) ≡ true
        by_order (less l) = ap finite (beside q h (λ e. omega arith)) ∙ f q h
        by_order (equal e) = rw e (ap finite (get_or-set_same mid (a + c) x nan (omega (arith, d.stored.long, row_end r k t hr)) ∙ multiplier_is) ∙ g)
        by_order (more l) = ap finite (beside q h (λ e. omega arith)) ∙ f q h

    module _ (after : List Float) (e : RowDone (c + 1) a top x t divided after) where
      cell_by : (q : ℕ) → q < t → Order q c → get_or after (a + q) nan ≡ eliminated c (pivot_row k t c s top m) (row k t c s top m r) q
      unfolding eliminated
      cell_by q h (less l) =
          rw (compare_less q c l) (e.stored.inside q h ∙ sym (made_left (c + 1) a (row_number a top x divided) divided q (omega arith)) ∙ beside q h (λ z. omega arith))
      cell_by q h (equal z) =
          rw (compare_equal q c z)
          (e.stored.inside q h ∙ sym (made_left (c + 1) a (row_number a top x divided) divided q (omega arith))
          ∙ rw z (get_or-set_same mid (a + c) x nan (omega (arith, d.stored.long, row_end r k t hr)) ∙ multiplier_is))
      cell_by q h (more l) =
          rw (compare_more q c l) (e.stored.inside q h ∙ sym (made_right (c + 1) a (row_number a top x divided) divided q (omega arith)) ∙ new_number q l h)

      gone_at : (q : ℕ) → q < t → eliminated c (pivot_row k t c s top m) (row k t c s top m r) q ≡ gone k t c s top m (r * t + q)
      unfolding gone
      gone_at q h = rw (row_of t r q h, column_of_lem t r q h)

      row_stored : Stored nan a t (λ q. get_or after (a + q) nan) mid after
      row_stored = record {
        long = e.stored.long ∙ length-set mid (a + c) x;
        inside = λ j h. refl;
        outside = λ y o. e.stored.outside y o ∙ get_or-set_other mid (a + c) y x nan (λ z. ⊎_elim (λ l. omega arith) (λ g. omega arith) o);
      }

      pub gone_more : RowsGone k t c s top m (r + 1) after
      gone_more = record {
        stored = subst (λ (j : ℕ). Stored nan s j (gone k t c s top m) m after) (sym (ap (λ (z : ℕ). z * t) (add-one r) ∙ suc-mul r t))
            (stored_join nan s (r * t) t (gone k t c s top m) (λ q. get_or after (a + q) nan) m mid after d.stored row_stored (λ j h. cell_by j h (order j c) ∙ gone_at j h));
        fine = λ i q g h l.
            ⊎_elim (λ y. d.fine i q y h l)
            (λ y. subst (λ (z : ℕ). finite (update (row k t c s top m z q) (multiplier k t c s top m z) (pivot_row k t c s top m q)) ≡ true) (omega arith)
            (ap finite (sym (new_number q h l)) ∙ e.fine q (omega arith) l))
            (lt_or_le i r);
      }

  -- ---- the numbers that are computed

  module _ (finites : all_finite (part s (k * t) m) ≡ true) (quotients : (i : ℕ) → i < k → finite (multiplier k t c s top m i) ≡ true) where
    pub row_finite : (i q : ℕ) → i < k → q < t → finite (row k t c s top m i q) ≡ true
    row_finite i q a b = finite_at k t (part s (k * t) m) i q finites (length_part s (k * t) m room) a b

    abbrev cell_test : ℕ → ℕ → Bool
    cell_test i q = every finite (update_computes (row k t c s top m i q) (multiplier k t c s top m i) (pivot_row k t c s top m q))

    -- one test after an update is enough
    cell_test_lem : (i q : ℕ) → i < k → q < t → cell_test i q ≡ finite (update (row k t c s top m i q) (multiplier k t c s top m i) (pivot_row k t c s top m q))
    cell_test_lem i q a b = computed_shows (row k t c s top m i q) (multiplier k t c s top m i) (pivot_row k t c s top m q) (row_finite i q a b)

    abbrev row_test : ℕ → Bool
    row_test i = every finite (elimination_computes t c (pivot_row k t c s top m) (row k t c s top m i))

    row_test_lem : (i : ℕ) → row_test i ≡ (finite (multiplier k t c s top m i) && every (cell_test i) (run (suc c) (t - suc c)))
    unfolding elimination_computes every beyond
    row_test_lem i =
        ap (λ (b : Bool). finite (multiplier k t c s top m i) && b)
        (every_joined finite (λ q. update_computes (row k t c s top m i q) (multiplier k t c s top m i) (pivot_row k t c s top m q)) (run (suc c) (t - suc c)))

    abbrev computed : List Float
    computed = eliminated_computes k t c (pivot_row k t c s top m) (part s (k * t) m)

    computed_test : every finite computed ≡ every row_test (below k)
    unfolding eliminated_computes
    computed_test = every_joined finite (λ i. elimination_computes t c (pivot_row k t c s top m) (row k t c s top m i)) (below k)

    all_fine : ((i q : ℕ) → i < k → c < q → q < t → finite (update (row k t c s top m i q) (multiplier k t c s top m i) (pivot_row k t c s top m q)) ≡ true) → every finite computed ≡ true
    unfolding below
    all_fine h =
        computed_test
        ∙ every_run_intro row_test 0 k
        (λ i _ b.
        row_test_lem i
        ∙ rw (quotients i (omega arith))
        (every_run_intro (cell_test i) (suc c) (t - suc c) (λ q a d. cell_test_lem i q (omega arith) (omega arith) ∙ h i q (omega arith) (omega arith) (omega arith))))

    each_fine : every finite computed ≡ true → (i q : ℕ) → i < k → c < q → q < t → finite (update (row k t c s top m i q) (multiplier k t c s top m i) (pivot_row k t c s top m q)) ≡ true
    unfolding below
    each_fine e i q a b d =
        let r = every_run_elim row_test 0 k (sym computed_test ∙ e) i (omega arith) (omega arith) in
        sym (cell_test_lem i q a d)
        ∙ every_run_elim (cell_test i) (suc c) (t - suc c) (and_right (finite (multiplier k t c s top m i)) (every (cell_test i) (run (suc c) (t - suc c))) (sym (row_test_lem i) ∙ r)) q (omega arith) (omega arith)

    -- the pivot row is eliminated from all rows
    pub all_gone : (after : List Float) (r : ℕ) → r ≡ k → RowsGone k t c s top m r after → RowsEliminated k t c s top m after true
    unfolding eliminated_rows block gone
    all_gone after r e d' =
        let d : RowsGone k t c s top m k after = subst (λ (z : ℕ). RowsGone k t c s top m z after) e d' in
        record {
          long = d.stored.long;
          sound = sym (all_fine d.fine);
          whole = λ _.
              stored_is nan s (k * t) (gone k t c s top m) m after (eliminated_rows k t c (pivot_row k t c s top m) (part s (k * t) m)) d.stored
              (record { whole = simp length_block; room = room }) (λ j h. get_or_table (k * t) _ j nan h);
          frame = stored_frame nan s (k * t) (k * t) (gone k t c s top m) m after d.stored (omega arith) room;
        }

    -- a number of row r isn't finite
    module _ (r : ℕ) (hr : r < k) (mid : List Float) (d : RowsGone k t c s top m r mid) (x : Float) (ex : x ≡ quotient (get_or mid (s + r * t + c) nan) (get_or m (top + c) nan)) where
      pub gone_stop : (after : List Float) → RowUpdated t (c + 1) (s + r * t) top x (set mid (s + r * t + c) x) after false → RowsEliminated k t c s top m after false
      gone_stop after u =
          let p = s + r * t in
          let first = set mid (p + c) x in
          let long : length after ≡ length m = u.long ∙ length-set mid (p + c) x ∙ d.stored.long in
          record {
            long = long;
            sound = sym (false_if (every finite computed)
                (λ all.
                never (every_run_intro (λ q. finite (row_number p top x first q)) (c + 1) (t - (c + 1))
                (λ q y z. ap finite (new_number r hr mid d x ex q (omega arith) (omega arith)) ∙ each_fine all r q hr (omega arith) (omega arith))) (sym u.sound)));
            whole = λ z. never z refl;
            frame = stored_frame nan s (k * t) (k * t) (λ j. get_or after (s + j) nan) m after
                (record {
                  long = long;
                  inside = λ j _. refl;
                  outside = λ y z.
                      u.outside y (⊎_elim (λ v. inl (omega arith)) (λ w. inr (omega (arith, row_end r k t hr))) z)
                      ∙ get_or-set_other mid (p + c) y x nan (λ v. ⊎_elim (λ f. omega arith) (λ f. omega (arith, row_end r k t hr)) z)
                      ∙ d.stored.outside y (⊎_elim (λ v. inl v) (λ w. inr (omega (arith, row_end r k t hr))) z);
                })
                (omega arith) room;
          }
