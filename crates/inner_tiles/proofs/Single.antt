-- With b = 1 a panel is one column: its exchange is the column's, no upper row of the panel lies below another, and the lower rows are updated as document 01 does.
-- Assumes nothing.
use Prim.Native.Nat.{ℕ, zero, suc, pred, ◌+◌, ◌-◌, ◌*◌, ◌≤◌, ◌<◌}
use mathlib.Core.Bool.{Bool, true, false, cond, ◌&&◌, ◌||◌}
use mathlib.Core.List.{List, [], ◌∷◌, ◌++◌, map}
use mathlib.Core.Path.{◌≡◌, refl, sym, ap, ap₂, ◌∙◌}
use mathlib.Core.Logic.{◌⊎◌, inl, inr}
use native.Mathlib.Nat.{add-zero, mod-one, sub-zero}
use native.Mathlib.Omega.{arith}
use lib.ListN.{length, get_or, set}
use lib.Seq.{get_or-set_same}
use lib.Dec.{eqb, ltb, leb}
use lib.Ieee.{Float}
use borrow.Author.Tests.{eq-eqb, ne_eqb, lt-ltb, le-ltb, le-leb, lt-leb, ltb-true}
use Rattle.model.specs.Lists.{run, below, joined, every}
use Rattle.model.specs.Num.{is_zero, finite, update, update_computes, quotient}
use Rattle.model.specs.Tile.{at, block, all_finite}
use Rattle.model.specs.Column.{Paired, couple_pivot, upper_exchanged, lower_exchanged, beyond, eliminated, elimination_computes, row_computes, couple_column, couple_computes, pair_exchanged, pair_column, pair_computes}
use Rattle.inner_tiles.specs.Inner.{Inner, panel_start, panel_ends, panel_exchanged, panel_upper, panel_lower, panel_paired, columns_from, upper_computes, lower_computes, panel_computes, couple_within, within_computes, couple_right, right_computes, inner_couple_column, inner_couple_computes, inner_pair_column, inner_pair_computes}
use Rattle.laws.proofs.Tests.{true_or_false, and_left, Order, less, equal, more, order, or_left, or_right, false_or, lt_or_le}
use Rattle.laws.proofs.Blocks.{length_block, at_block, block_at, block_cong}
use Rattle.laws.proofs.Every.{every_append}
use Rattle.laws.proofs.Runs.{map_below, map_run}
use Rattle.laws.proofs.Finite.{finite_at}
use Rattle.inner_tiles.specs.Single.{tiles_of, CoupleSingle, PairSingle, Single}
use Rattle.inner_tiles.proofs.Pivots.{couple_place, couple_zeros}
use Rattle.inner_tiles.proofs.Exchanges.{and_off, same_block, length_upper, up_left, up_right, low_left, low_right}
use Rattle.inner_tiles.proofs.Finite.{either}
use Rattle.inner_tiles.proofs.Sides.{elim_lt, elim_eq, elim_gt}

-- ---- the panel of one column

start_is : (c : ℕ) → panel_start 1 c ≡ c
unfolding panel_start
start_is c = rw (mod-one c) (sub-zero c)

ends_is : (c : ℕ) → panel_ends 1 c ≡ true
unfolding panel_ends
ends_is c = eq-eqb (suc c) (panel_start 1 c + 1) (let e : panel_start 1 c ≡ c = start_is c in omega arith)

-- no row lies after row a and before row a + 1
none_between : (x : Bool) (a r : ℕ) → (x && (ltb a r && ltb r (a + 1))) ≡ false
none_between false a r = refl
none_between true a r = go (lt_or_le a r)
  where
    go : (a < r) ⊎ (r ≤ a) → (ltb a r && ltb r (a + 1)) ≡ false
    go (inl h) = rw (lt-ltb a r h) (le-ltb r (a + 1) (omega arith))
    go (inr h) = rw (le-ltb a r h)

module _ (t w f a : ℕ) where
  abbrev U : ℕ → Paired → List Float
  U e s = upper_exchanged t w f a e s.upper s.lower

  abbrev D : ℕ → Paired → List Float
  D e s = lower_exchanged t w f a e s.upper s.lower

  length_U : (e : ℕ) (s : Paired) → length (U e s) ≡ t * w
  unfolding upper_exchanged
  length_U e s = length_block t w _

  exchanged_one : (p : List ℕ) (s : Paired) → panel_exchanged t w f p a 1 s ≡ record { upper = U (get_or p a 0) s; lower = D (get_or p a 0) s }
  unfolding panel_exchanged
  exchanged_one p s = rw (add-zero a)

  upper_one : (sl u : List Float) → length u ≡ t * w → panel_upper t w f 1 sl (a + 1) a 1 u ≡ u
  unfolding panel_upper
  upper_one sl u h = rw (add-zero a) (block_cong t w _ (at w u) (λ r q hr hq. rw (none_between (leb f q) a r)) ∙ sym (block_at t w u h))

  lower_one : (l u d : List Float) → panel_lower t w f l u a 1 d ≡ block t w (λ r q. cond (leb f q) (update (at w d r q) (at t l r a) (at w u a q)) (at w d r q))
  unfolding panel_lower
  lower_one l u d = rw (add-zero a)

  paired_one : (l sl : List Float) (p : List ℕ) (s : Paired)
      → panel_paired t w f 1 l sl p a s ≡ record { upper = U (get_or p a 0) s; lower = block t w (λ r q. cond (leb f q) (update (at w (D (get_or p a 0) s) r q) (at t l r a) (at w (U (get_or p a 0) s) a q)) (at w (D (get_or p a 0) s) r q)) }
  unfolding panel_paired
  paired_one l sl p s = rw (exchanged_one p s, upper_one sl (U (get_or p a 0) s) (length_U (get_or p a 0) s), lower_one l (U (get_or p a 0) s) (D (get_or p a 0) s))

  no_upper : (sl u : List Float) → upper_computes t w f 1 sl (a + 1) a 1 u ≡ []
  unfolding upper_computes run joined
  no_upper sl u = let e : a + 1 - suc (a + 0) ≡ 0 = omega arith in rw e

  lower_computes_lem : (l u d : List Float) → lower_computes t w f l u a 1 d ≡ joined (map (λ r. joined (map (λ q. update_computes (at w d r q) (at t l r a) (at w u a q)) (columns_from w f))) (below t))
  unfolding lower_computes panel_lower
  lower_computes_lem l u d = rw (add-zero a)

  panel_computes_lem : (l sl : List Float) (p : List ℕ) (s : Paired)
      → panel_computes t w f 1 l sl p a s ≡ joined (map (λ r. joined (map (λ q. update_computes (at w (D (get_or p a 0) s) r q) (at t l r a) (at w (U (get_or p a 0) s) a q)) (columns_from w f))) (below t))
  unfolding panel_computes
  panel_computes_lem l sl p s = rw (exchanged_one p s, upper_one sl (U (get_or p a 0) s) (length_U (get_or p a 0) s), no_upper sl (U (get_or p a 0) s)) (lower_computes_lem l (U (get_or p a 0) s) (D (get_or p a 0) s))

-- ---- T-4

pair_single : (t w c : ℕ) (l sl : List Float) (p : List ℕ) (s : Paired) → PairSingle t w c l sl p s
unfolding inner_pair_column inner_pair_computes pair_column pair_computes pair_exchanged row_computes columns_from below
pair_single t w c l sl p s = record {
  column = rw (ends_is c, start_is c, paired_one t w 0 c l sl p s) (ap (λ (d : List Float). record { upper = upper_exchanged t w 0 c (get_or p c 0) s.upper s.lower; lower = d }) (block_cong t w _ _ (λ r q hr hq. rw (le-leb 0 q (omega arith)))));
  computes = rw (ends_is c, start_is c) (panel_computes_lem t w 0 c l sl p s ∙ rw (sub-zero w));
}

-- ---- T-3

within_slice_lem : (t c z : ℕ) (s : Inner) → length s.slice ≡ t * 1 → (couple_within t 1 c z c s).slice ≡ s.slice
unfolding couple_within
within_slice_lem t c z s h = either (λ (x : Inner). x.slice ≡ s.slice) (is_zero (couple_pivot t c s.upper s.lower).magnitude) _ _ refl
    (block_cong t 1 _ (at 1 s.slice) (λ r p hr hp. rw (le-ltb p (c - c) (omega arith), and_off (ltb 0 (couple_pivot t c s.upper s.lower).place && eqb r c))) ∙ sym (block_at t 1 s.slice h))

-- the slice stays, whatever the numbers are
slice_single : (t c : ℕ) (s : Inner) → length s.slice ≡ t * 1 → (inner_couple_column t 1 c s).slice ≡ s.slice
unfolding inner_couple_column couple_right
slice_single t c s h = rw (ends_is c, start_is c) (within_slice_lem t c (c + 1) s h)

-- quotients first or row by row
split : (m : ℕ → Float) (g : ℕ → List Float) (xs : List ℕ) → every finite (joined (map (λ r. m r ∷ []) xs) ++ joined (map g xs)) ≡ every finite (joined (map (λ r. m r ∷ g r) xs))
unfolding joined every
split m g [] = refl
split m g (x ∷ xs) =
    ap (λ (b : Bool). finite (m x) && b) (every_append finite (joined (map (λ r. m r ∷ []) xs)) (g x ++ joined (map g xs))
    ∙ (ap (λ (b : Bool). every finite (joined (map (λ r. m r ∷ []) xs)) && b) (every_append finite (g x) (joined (map g xs)))
    ∙ (turn (every finite (joined (map (λ r. m r ∷ []) xs))) (every finite (g x)) (every finite (joined (map g xs)))
    ∙ (ap (λ (b : Bool). every finite (g x) && b) (sym (every_append finite (joined (map (λ r. m r ∷ []) xs)) (joined (map g xs))) ∙ split m g xs)
    ∙ sym (every_append finite (g x) (joined (map (λ r. m r ∷ g r) xs)))))))
  where
    turn : (a b c : Bool) → (a && (b && c)) ≡ (b && (a && c))
    turn true b c = refl
    turn false true c = refl
    turn false false c = refl

module _ (t c : ℕ) (hc : c < t) (s : Inner) (long_upper : length s.upper ≡ t * t) (long_lower : length s.lower ≡ t * t) (long-slice : length s.slice ≡ t * 1) (long-rows : length s.rows ≡ t)
    (fine : all_finite s.lower ≡ true) where
  abbrev E : ℕ
  E = (couple_pivot t c s.upper s.lower).place

  abbrev Flat : Bool → Type 0
  Flat x = is_zero (couple_pivot t c s.upper s.lower).magnitude ≡ x

  abbrev W : Inner
  W = couple_within t 1 c (c + 1) c s

  column_is : inner_couple_column t 1 c s ≡ couple_right t 1 c W
  unfolding inner_couple_column
  column_is = rw (ends_is c, start_is c)

  computes_are : inner_couple_computes t 1 c s ≡ within_computes t (c + 1) c s ++ right_computes t 1 c W
  unfolding inner_couple_computes
  computes_are = rw (ends_is c, start_is c)

  -- ---- a pivot of zero: its column holds zeros, so nothing is updated

  module _ (z : Flat true) where
    zero_at : (r : ℕ) → r < t → is_zero (at t s.lower r c) ≡ true
    zero_at = couple_zeros t c s.upper s.lower (λ r h. finite_at t t s.lower r c fine long_lower h hc) z

    abbrev rows_0 : List ℕ
    rows_0 = set s.rows c 0

    within_flat : W ≡ record { upper = s.upper; lower = s.lower; slice = s.slice; rows = rows_0 }
    unfolding couple_within
    within_flat = rw (z, couple_within)

    old_flat : couple_column t c (tiles_of s) ≡ record { upper = s.upper; lower = s.lower; rows = rows_0 }
    unfolding couple_column
    old_flat = rw (z, couple_column)

    entry_0 : get_or rows_0 c 0 ≡ 0
    entry_0 = get_or-set_same s.rows c 0 0 (omega arith)

    upper_kept : upper_exchanged t t (c + 1) c 0 s.upper s.lower ≡ s.upper
    unfolding upper_exchanged
    upper_kept = block_cong t t _ (at t s.upper) (λ r q hr hq. refl) ∙ sym (block_at t t s.upper long_upper)

    lower_kept : lower_exchanged t t (c + 1) c 0 s.upper s.lower ≡ s.lower
    unfolding lower_exchanged
    lower_kept = block_cong t t _ (at t s.lower) (λ r q hr hq. rw (ne_eqb (suc r) 0 (λ (e : suc r ≡ 0). omega arith))) ∙ sym (block_at t t s.lower long_lower)

    not_updated : block t t (λ r q. cond (leb (c + 1) q) (update (at t s.lower r q) (at t s.lower r c) (at t s.upper c q)) (at t s.lower r q)) ≡ s.lower
    unfolding update
    not_updated = block_cong t t _ (at t s.lower) (λ r q hr hq. go r q (leb (c + 1) q) (zero_at r hr)) ∙ sym (block_at t t s.lower long_lower)
      where
        go : (r q : ℕ) (b : Bool) → is_zero (at t s.lower r c) ≡ true → cond b (update (at t s.lower r q) (at t s.lower r c) (at t s.upper c q)) (at t s.lower r q) ≡ at t s.lower r q
        go r q true e = rw e
        go r q false e = refl

    flat_column : inner_couple_column t 1 c s ≡ record { upper = s.upper; lower = s.lower; slice = s.slice; rows = rows_0 }
    unfolding couple_right
    flat_column = column_is ∙ rw (within_flat, paired_one t t (c + 1) c s.lower s.slice rows_0 (record { upper = s.upper; lower = s.lower }), entry_0, upper_kept, lower_kept, not_updated)

    nothing : (g : ℕ → List Float) (a n : ℕ) → ((i : ℕ) → a ≤ i → i < a + n → g i ≡ []) → joined (map g (run a n)) ≡ []
    unfolding joined run
    nothing g a zero h = refl
    nothing g a (suc n) h = rw (h a (omega arith) (omega arith), nothing g (suc a) n (λ i l u. h i (omega arith) (omega arith)))

    within_none : within_computes t (c + 1) c s ≡ []
    unfolding within_computes
    within_none = rw (z, within_computes)

    old_none : couple_computes t c (tiles_of s) ≡ []
    unfolding couple_computes
    old_none = rw (z, couple_computes)

    right_none : right_computes t 1 c W ≡ []
    unfolding right_computes update_computes below columns_from
    right_none = rw (within_flat, panel_computes_lem t t (c + 1) c s.lower s.slice rows_0 (record { upper = s.upper; lower = s.lower }), entry_0, upper_kept, lower_kept)
        (nothing _ 0 t (λ r a b. nothing _ (c + 1) (t - (c + 1)) (λ q d e. rw (zero_at r (omega arith)))))

    flat_single : CoupleSingle t c s
    flat_single = record {
      column = ap tiles_of flat_column ∙ sym old_flat;
      slice = slice_single t c s long-slice;
      computes = ap (every finite) (computes_are ∙ rw (within_none, right_none, old_none));
    }

  -- ---- a pivot that isn't zero: the panel's column, then what is right of it

  module _ (z : Flat false) where
    abbrev Uₑ : List Float
    Uₑ = upper_exchanged t t c c E s.upper s.lower

    abbrev Dₑ : List Float
    Dₑ = lower_exchanged t t c c E s.upper s.lower

    abbrev u' : List Float
    u' = block t t (λ r q. cond (ltb q (c + 1)) (at t Uₑ r q) (at t s.upper r q))

    abbrev low : ℕ → ℕ → Float
    low r q = cond (ltb q c || leb (c + 1) q) (at t s.lower r q) (cond (ltb q c) (cond (eqb (suc r) E) (at 1 s.slice c (q - c)) (at t s.lower r q)) (eliminated c (at t Uₑ c) (at t Dₑ r) q))

    abbrev d' : List Float
    d' = block t t low

    abbrev rows_E : List ℕ
    rows_E = set s.rows c E

    entry_E : get_or rows_E c 0 ≡ E
    entry_E = get_or-set_same s.rows c E 0 (omega arith)

    abbrev sl' : List Float
    sl' = block t 1 (λ r p. cond (ltb 0 E && eqb r c && ltb p (c - c)) (at t s.lower (pred E) (c + p)) (at 1 s.slice r p))

    within_live : W ≡ record { upper = u'; lower = d'; slice = sl'; rows = rows_E }
    unfolding couple_within
    within_live = rw (z, couple_within)

    old_live : couple_column t c (tiles_of s) ≡ record { upper = Uₑ; lower = block t t (λ r. eliminated c (at t Uₑ c) (at t Dₑ r)); rows = rows_E }
    unfolding couple_column
    old_live = rw (z, couple_column)

    -- what the two blocks hold before the panel's exchange: right of column c the old numbers
    upper_right : (r q : ℕ) → r < t → q < t → c < q → at t u' r q ≡ at t s.upper r q
    upper_right r q hr hq h = at_block t t _ r q hr hq ∙ rw (le-ltb q (c + 1) (omega arith))

    upper_left : (r q : ℕ) → r < t → q < t → q ≤ c → at t u' r q ≡ at t Uₑ r q
    upper_left r q hr hq h = at_block t t _ r q hr hq ∙ rw (lt-ltb q (c + 1) (omega arith))

    lower_right : (r q : ℕ) → r < t → q < t → c < q → at t d' r q ≡ at t s.lower r q
    lower_right r q hr hq h = at_block t t low r q hr hq ∙ rw (or_right (ltb q c) (leb (c + 1) q) (le-leb (c + 1) q (omega arith)))

    lower_left : (r q : ℕ) → r < t → q < t → q < c → at t d' r q ≡ at t s.lower r q
    lower_left r q hr hq h = at_block t t low r q hr hq ∙ rw (or_left (ltb q c) (leb (c + 1) q) (lt-ltb q c h))

    lower_here : (r : ℕ) → r < t → at t d' r c ≡ quotient (at t Dₑ r c) (at t Uₑ c c)
    lower_here r hr = at_block t t low r c hr hc ∙ rw (false_or (ltb c c) (leb (c + 1) c) (le-ltb c c (omega arith)) (lt-leb (c + 1) c (omega arith)), le-ltb c c (omega arith)) (elim_eq c c (at t Uₑ c) (at t Dₑ r) refl)

    -- the exchange right of column c completes the one in it
    upper_done : upper_exchanged t t (c + 1) c E u' d' ≡ Uₑ
    upper_done = same_block t t _ _ (length_upper t t (c + 1) c E u' d') (length_upper t t c c E s.upper s.lower) (λ r q hr hq. go r q hr hq (lt_or_le c q))
      where
        right : (r q : ℕ) → r < t → q < t → c < q → (x : Bool) → (ltb 0 E && eqb r c) ≡ x → cond x (at t d' (pred E) q) (at t u' r q) ≡ cond x (at t s.lower (pred E) q) (at t s.upper r q)
        right r q hr hq h true e = let p : 0 < E = ltb-true 0 E (and_left (ltb 0 E) (eqb r c) e) in let l : E ≤ t = couple_place t c s.upper s.lower in lower_right (pred E) q (omega arith) hq h
        right r q hr hq h false e = upper_right r q hr hq h

        go : (r q : ℕ) → r < t → q < t → (c < q) ⊎ (q ≤ c) → at t (upper_exchanged t t (c + 1) c E u' d') r q ≡ at t Uₑ r q
        go r q hr hq (inl h) = up_right t t (c + 1) c E u' d' r q hr hq (omega arith) ∙ (right r q hr hq h (ltb 0 E && eqb r c) refl ∙ sym (up_right t t c c E s.upper s.lower r q hr hq (omega arith)))
        go r q hr hq (inr h) = up_left t t (c + 1) c E u' d' r q hr hq (omega arith) ∙ upper_left r q hr hq h

    lower_done : (r q : ℕ) → r < t → q < t → c < q → at t (lower_exchanged t t (c + 1) c E u' d') r q ≡ at t Dₑ r q
    lower_done r q hr hq h =
        low_right t t (c + 1) c E u' d' r q hr hq (omega arith)
        ∙ (ap₂ (λ (x y : Float). cond (eqb (suc r) E) x y) (upper_right c q hc hq h) (lower_right r q hr hq h) ∙ sym (low_right t t c c E s.upper s.lower r q hr hq (omega arith)))

    -- so the update right of column c is the elimination there
    multiplier : (r q : ℕ) → r < t → q < t → c < q
        → update (at t (lower_exchanged t t (c + 1) c E u' d') r q) (at t d' r c) (at t Uₑ c q) ≡ eliminated c (at t Uₑ c) (at t Dₑ r) q
    multiplier r q hr hq h = ap₂ (λ (x m : Float). update x m (at t Uₑ c q)) (lower_done r q hr hq h) (lower_here r hr) ∙ sym (elim_gt c q (at t Uₑ c) (at t Dₑ r) h)

    lower_ends : block t t (λ r q. cond (leb (c + 1) q) (update (at t (lower_exchanged t t (c + 1) c E u' d') r q) (at t d' r c) (at t Uₑ c q)) (at t (lower_exchanged t t (c + 1) c E u' d') r q)) ≡ block t t (λ r. eliminated c (at t Uₑ c) (at t Dₑ r))
    lower_ends = block_cong t t _ _ (λ r q hr hq. go r q hr hq (order q c))
      where
        go : (r q : ℕ) → r < t → q < t → Order q c → cond (leb (c + 1) q) (update (at t (lower_exchanged t t (c + 1) c E u' d') r q) (at t d' r c) (at t Uₑ c q)) (at t (lower_exchanged t t (c + 1) c E u' d') r q) ≡ eliminated c (at t Uₑ c) (at t Dₑ r) q
        go r q hr hq (less h) = rw (lt-leb (c + 1) q (omega arith))
            (low_left t t (c + 1) c E u' d' r q hr hq (omega arith) ∙ (lower_left r q hr hq h ∙ (sym (low_left t t c c E s.upper s.lower r q hr hq h) ∙ sym (elim_lt c q (at t Uₑ c) (at t Dₑ r) h))))
        go r q hr hq (equal h) = rw (lt-leb (c + 1) q (omega arith))
            (low_left t t (c + 1) c E u' d' r q hr hq (omega arith) ∙ (ap (at t d' r) h ∙ (lower_here r hr ∙ sym (elim_eq c q (at t Uₑ c) (at t Dₑ r) h))))
        go r q hr hq (more h) = rw (le-leb (c + 1) q (omega arith)) (multiplier r q hr hq h)

    live_column : inner_couple_column t 1 c s ≡ record { upper = Uₑ; lower = block t t (λ r. eliminated c (at t Uₑ c) (at t Dₑ r)); slice = sl'; rows = rows_E }
    unfolding couple_right
    live_column = column_is ∙ rw (within_live, paired_one t t (c + 1) c d' sl' rows_E (record { upper = u'; lower = d' }), entry_E, upper_done, lower_ends)

    abbrev m : ℕ → Float
    m r = quotient (at t Dₑ r c) (at t Uₑ c c)

    abbrev tail : ℕ → List Float
    tail r = joined (map (λ q. update_computes (at t Dₑ r q) (m r) (at t Uₑ c q)) (beyond t c))

    within_quotients : within_computes t (c + 1) c s ≡ joined (map (λ r. m r ∷ []) (below t))
    unfolding within_computes run joined
    within_quotients = let e : c + 1 - suc c ≡ 0 = omega arith in rw (z, within_computes, e)

    right_updates : right_computes t 1 c W ≡ joined (map tail (below t))
    unfolding right_computes columns_from beyond
    right_updates = rw (within_live, panel_computes_lem t t (c + 1) c d' sl' rows_E (record { upper = u'; lower = d' }), entry_E, upper_done)
        (ap joined (map_below _ tail t (λ r hr. ap joined (row r hr))))
      where
        row : (r : ℕ) → r < t → map (λ q. update_computes (at t (lower_exchanged t t (c + 1) c E u' d') r q) (at t d' r c) (at t Uₑ c q)) (run (c + 1) (t - (c + 1))) ≡ map (λ q. update_computes (at t Dₑ r q) (m r) (at t Uₑ c q)) (run (suc c) (t - suc c))
        row r hr =
            let e : c + 1 ≡ suc c = omega arith in
            ap (λ (k : ℕ). map (λ q. update_computes (at t (lower_exchanged t t (c + 1) c E u' d') r q) (at t d' r c) (at t Uₑ c q)) (run k (t - k))) e
            ∙ map_run _ _ (suc c) (t - suc c) (λ q a b. ap₂ (λ (x y : Float). update_computes x y (at t Uₑ c q)) (lower_done r q hr (omega arith) (omega arith)) (lower_here r hr))

    old_computes : couple_computes t c (tiles_of s) ≡ joined (map (λ r. m r ∷ tail r) (below t))
    unfolding couple_computes elimination_computes
    old_computes = rw (z, couple_computes)

    live_single : CoupleSingle t c s
    live_single = record {
      column = ap tiles_of live_column ∙ sym old_live;
      slice = slice_single t c s long-slice;
      computes = ap (every finite) (computes_are ∙ rw (within_quotients, right_updates)) ∙ (split m tail (below t) ∙ ap (every finite) (sym old_computes));
    }

  couple_single : CoupleSingle t c s
  couple_single = go (true_or_false (is_zero (couple_pivot t c s.upper s.lower).magnitude))
    where
      go : Flat true ⊎ Flat false → CoupleSingle t c s
      go (inl z) = flat_single z
      go (inr z) = live_single z

pub single : Single
single = record { couple = couple_single; slice = slice_single; pair = pair_single }
