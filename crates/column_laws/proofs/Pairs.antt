-- From an exchange and an update of rows to a whole step on two blocks or one tile: T-4, T-3 and T-1. Assumes nothing.
use mathlib.Core.Path.{◌≡◌, refl, ◌∙◌, ap}
use mathlib.Core.Bool.{Bool, true, false, cond, ◌&&◌}
use mathlib.Core.List.{List, map}
use Prim.Native.Nat.{ℕ, suc, pred, ◌+◌, ◌-◌, ◌*◌, ◌<◌, ◌≤◌}
use native.Mathlib.Nat.{zero-add, sub-zero}
use native.Mathlib.Omega.{arith}
use lib.Dec.{eqb, ltb, leb}
use lib.ListN.{length, get_or}
use lib.Ieee.{Float, nan}
use borrow.Author.Tests.{le-ltb, ltb-true, leb-false}
use Rattle.model.specs.Lists.{run, below, every, joined, part, with_part}
use Rattle.model.specs.Num.{finite, update_computes, quotient}
use Rattle.model.specs.Tile.{at, block, swapped, exchanged, all_finite}
use Rattle.model.specs.Column.{beyond, eliminated, elimination_computes, row_computes, upper_exchanged, lower_exchanged}
use Rattle.row_updates.specs.Updates.{RowsUpdated, updated_rows, rows_compute}
use Rattle.laws.proofs.Tests.{and_left}
use Rattle.laws.proofs.Blocks.{length_block, block_cong, swapped_below}
use Rattle.laws.specs.Apart.{Apart}
use Rattle.laws.proofs.Parts.{Fits, length_put, part_put, part_other, put_put, length_part}
use Rattle.column_laws.specs.Steps.{applied_block, RowsPaired, paired_block, paired_computes, upper_at, lower_at, with_two, RowsEliminated, eliminated_rows, eliminated_computes, TileFactored, factored, factored_computes, exchanged_at, TilesCoupled}
use Rattle.column_laws.proofs.Computes.{every_joined}
use Rattle.laws.proofs.Finite.{finite_at, finite_block}
use Rattle.column_laws.proofs.Finite.{finite_part}
use Rattle.column_laws.proofs.Updates.{get_row, at_rows, put_rows_lem, frame_rows, rows_room, row_finite}
use Rattle.column_laws.proofs.Two.{length_two, upper_two, lower_two, put_lower}

-- ---- blocks after an exchange: as long as before, and finite where both blocks are

pub length_upper : (t w f c e u d : ℕ) (m : List Float) → length (upper_at t w f c e u d m) ≡ t * w
unfolding upper_at upper_exchanged
length_upper t w f c e u d m = length_block t w _

pub length_lower : (t w f c e u d : ℕ) (m : List Float) → length (lower_at t w f c e u d m) ≡ t * w
unfolding lower_at lower_exchanged
length_lower t w f c e u d m = length_block t w _

pub length_applied : (t w c : ℕ) (l : ℕ → Float) (b : List Float) → length (applied_block t w c l b) ≡ t * w
unfolding applied_block
length_applied t w c l b = length_block t w _

pub length_paired : (t w c : ℕ) (l : ℕ → Float) (u d : List Float) → length (paired_block t w c l u d) ≡ t * w
unfolding paired_block
length_paired t w c l u d = length_block t w _

pub length_eliminated : (k t c : ℕ) (u : ℕ → Float) (b : List Float) → length (eliminated_rows k t c u b) ≡ k * t
unfolding eliminated_rows
length_eliminated k t c u b = length_block k t _

pub length_factored : (t c : ℕ) (b : List Float) → length (factored t c b) ≡ t * t
unfolding factored
length_factored t c b = length_block t t _

finite_choice : (b : Bool) (x y : Float) → (b ≡ true → finite x ≡ true) → finite y ≡ true → finite (cond b x y) ≡ true
finite_choice true x y f g = f refl
finite_choice false x y f g = g

pub finite_lower : (t w f c e : ℕ) (u d : List Float) → c < t → length u ≡ t * w → length d ≡ t * w → all_finite u ≡ true → all_finite d ≡ true
    → all_finite (lower_exchanged t w f c e u d) ≡ true
unfolding lower_exchanged
finite_lower t w f c e u d hc hu hd fu fd =
    finite_block t w (λ r q. cond (eqb (suc r) e && leb f q) (at w u c q) (at w d r q))
    (λ r q hr hq. finite_choice (eqb (suc r) e && leb f q) (at w u c q) (at w d r q) (λ _. finite_at t w u c q fu hu hc hq) (finite_at t w d r q fd hd hr hq))

pub finite_upper : (t w f c e : ℕ) (u d : List Float) → e ≤ t → length u ≡ t * w → length d ≡ t * w → all_finite u ≡ true → all_finite d ≡ true
    → all_finite (upper_exchanged t w f c e u d) ≡ true
unfolding upper_exchanged
finite_upper t w f c e u d he hu hd fu fd =
    finite_block t w (λ r q. cond (ltb 0 e && eqb r c && leb f q) (at w d (pred e) q) (at w u r q))
    (λ r q hr hq.
    finite_choice (ltb 0 e && eqb r c && leb f q) (at w d (pred e) q) (at w u r q)
    (λ p. let h = ltb-true 0 e (and_left (ltb 0 e) (eqb r c) (and_left (ltb 0 e && eqb r c) (leb f q) p)) in finite_at t w d (pred e) q fd hd (omega arith) hq)
    (finite_at t w u r q fu hu hr hq))

pub finite_exchanged : (t w x y : ℕ) (a : List Float) → x < t → y < t → length a ≡ t * w → all_finite a ≡ true → all_finite (exchanged t w x y a) ≡ true
unfolding exchanged
finite_exchanged t w x y a hx hy ha fa =
    finite_block t w (λ r q. at w a (swapped x y r) q) (λ r q hr hq. finite_at t w a (swapped x y r) q fa ha (swapped_below t x y r hx hy hr) hq)

-- ---- two blocks exchanged by entry e: what stands where

module _ (t w f c e u d : ℕ) (m : List Float) (ru : u + t * w ≤ length m) (rd : d + t * w ≤ length m) (apart : Apart (t * w) u d)
    (mid : List Float) (x : mid ≡ with_two (t * w) u d (upper_at t w f c e u d m) (lower_at t w f c e u d m) m) where
  pub mid_long : length mid ≡ length m
  mid_long = rw x (length_two (t * w) u d m apart ru rd (upper_at t w f c e u d m) (lower_at t w f c e u d m) (length_upper t w f c e u d m) (length_lower t w f c e u d m))

  pub mid_lower : part d (t * w) mid ≡ lower_at t w f c e u d m
  mid_lower = rw x (lower_two (t * w) u d m apart ru rd (upper_at t w f c e u d m) (lower_at t w f c e u d m) (length_upper t w f c e u d m) (length_lower t w f c e u d m))

  mid_upper : part u (t * w) mid ≡ upper_at t w f c e u d m
  mid_upper = rw x (upper_two (t * w) u d m apart ru rd (upper_at t w f c e u d m) (lower_at t w f c e u d m) (length_upper t w f c e u d m) (length_lower t w f c e u d m))

  mid_put : (z : List Float) → length z ≡ t * w → with_part d (t * w) z mid ≡ with_two (t * w) u d (upper_at t w f c e u d m) z m
  mid_put z h = rw x (put_lower (t * w) u d m apart ru rd (upper_at t w f c e u d m) (lower_at t w f c e u d m) (length_upper t w f c e u d m) (length_lower t w f c e u d m) z h)

  -- a block elsewhere is as it was
  pub mid_other : (a : ℕ) → a + t * w ≤ length m → Apart (t * w) u a → Apart (t * w) d a → part a (t * w) mid ≡ part a (t * w) m
  unfolding with_two
  mid_other a ra hu hd =
      let lower : Fits (t * w) d m (lower_at t w f c e u d m) = record { whole = length_lower t w f c e u d m; room = rd } in
      let long = length_put (t * w) nan d m (lower_at t w f c e u d m) lower in
      rw x
      (part_other (t * w) nan u a (with_part d (t * w) (lower_at t w f c e u d m) m) (upper_at t w f c e u d m) (record { whole = length_upper t w f c e u d m; room = rw long ru }) (rw long ra) hu
      ∙ part_other (t * w) nan d a m (lower_at t w f c e u d m) lower ra hd)

  pub mid_row : (top q : ℕ) → c < t → top ≡ u + c * w → q < w → get_or mid (top + q) nan ≡ at w (upper_at t w f c e u d m) c q
  mid_row top q hc first h = rw (← mid_upper) (get_row t w u c top mid q (rw mid_long ru) hc first h)

  mid_frame : (after : List Float) → length after ≡ length mid → after ≡ with_part d (t * w) (part d (t * w) after) mid
      → after ≡ with_two (t * w) u d (upper_at t w f c e u d m) (part d (t * w) after) m
  mid_frame after long r = r ∙ mid_put (part d (t * w) after) (length_part d (t * w) after (rw (long, mid_long) rd))

  pub mid_finite : c < t → all_finite (part u (t * w) m) ≡ true → all_finite (part d (t * w) m) ≡ true → all_finite (part d (t * w) mid) ≡ true
  unfolding lower_at
  mid_finite hc fu fd =
      rw mid_lower (finite_lower t w f c e (part u (t * w) m) (part d (t * w) m) hc (length_part u (t * w) m ru) (length_part d (t * w) m rd) fu fd)

-- ---- T-4

module _ (t w c e u d top : ℕ) (hc : c < t) (m : List Float) (ru : u + t * w ≤ length m) (rd : d + t * w ≤ length m) (apart : Apart (t * w) u d) (first : top ≡ u + c * w)
    (l l' : ℕ → Float) (same : (i : ℕ) → i < t → l i ≡ l' i) (mid after : List Float) (answer : Bool)
    (x : mid ≡ with_two (t * w) u d (upper_at t w 0 c e u d m) (lower_at t w 0 c e u d m) m) where
  upper : List Float
  upper = upper_at t w 0 c e u d m

  lower : List Float
  lower = lower_at t w 0 c e u d m

  row : (q : ℕ) → q < w → get_or mid (top + q) nan ≡ at w (upper_at t w 0 c e u d m) c q
  row q h = mid_row t w 0 c e u d m ru rd apart mid x top q hc first h

  paired_sound : every finite (rows_compute t w 0 l (λ q. get_or mid (top + q) nan) (part d (t * w) mid))
      ≡ every finite (paired_computes t w c l' upper lower)
  unfolding rows_compute paired_computes row_computes below upper lower
  paired_sound =
      rw (sub-zero w, mid_lower t w 0 c e u d m ru rd apart mid x)
      (every_joined finite
      (λ r. joined (map (λ q. update_computes (at w (lower_at t w 0 c e u d m) r q) (l r) (get_or mid (top + q) nan)) (run 0 w)))
      (λ r. joined (map (λ q. update_computes (at w (lower_at t w 0 c e u d m) r q) (l' r) (at w (upper_at t w 0 c e u d m) c q)) (run 0 w))) 0 0 t
      (λ i h. row_finite 0 w (l (0 + i)) (l' (0 + i)) (λ q. get_or mid (top + q) nan) (at w (upper_at t w 0 c e u d m) c)
      (at w (lower_at t w 0 c e u d m) (0 + i)) (at w (lower_at t w 0 c e u d m) (0 + i)) (same (0 + i) (omega arith)) (λ q hf hq. row q (omega arith)) (λ q hf hq. refl)))

  paired_whole : with_part d (t * w) (updated_rows t w 0 l (λ q. get_or mid (top + q) nan) (part d (t * w) mid)) mid
      ≡ with_two (t * w) u d upper (paired_block t w c l' upper lower) m
  unfolding updated_rows paired_block upper lower
  paired_whole =
      mid_put t w 0 c e u d m ru rd apart mid x (updated_rows t w 0 l (λ q. get_or mid (top + q) nan) (part d (t * w) mid)) (length_block t w _)
      ∙ ap (λ (b : List Float). with_two (t * w) u d (upper_at t w 0 c e u d m) b m)
      (rw (mid_lower t w 0 c e u d m ru rd apart mid x) (block_cong t w _ _ (λ r q hr hq. rw (le-ltb q 0 (omega arith), row q hq, same r hr))))

  pub rows_paired : length after ≡ length mid → RowsUpdated t w 0 d l (λ q. get_or mid (top + q) nan) mid after answer
      → RowsPaired t w c e u d l' m after answer
  unfolding upper lower
  rows_paired long r = record {
    long = long ∙ mid_long t w 0 c e u d m ru rd apart mid x;
    sound = r.sound ∙ paired_sound;
    whole = λ h. r.whole h ∙ paired_whole;
    frame = mid_frame t w 0 c e u d m ru rd apart mid x after long r.frame;
  }

-- ---- rows that agree are eliminated alike

module _ (t c : ℕ) (hc : c < t) (u v x y : ℕ → Float) (hu : (q : ℕ) → q < t → u q ≡ v q) (hx : (q : ℕ) → q < t → x q ≡ y q) where
  pub elimination_finite : every finite (elimination_computes t c u x) ≡ every finite (elimination_computes t c v y)
  unfolding elimination_computes beyond every
  elimination_finite =
      rw (hu c hc, hx c hc)
      (ap (λ (b : Bool). finite (quotient (y c) (v c)) && b)
      (row_finite (suc c) (t - suc c) (quotient (y c) (v c)) (quotient (y c) (v c)) u v x y refl (λ q hf hq. hu q (omega arith)) (λ q hf hq. hx q (omega arith))))

  pub elimination_same : (q : ℕ) → q < t → eliminated c u x q ≡ eliminated c v y q
  unfolding eliminated
  elimination_same q hq = rw (hu c hc, hx c hc, hu q hq, hx q hq)

-- ---- T-3

module _ (t c e u d top : ℕ) (hc : c < t) (m : List Float) (ru : u + t * t ≤ length m) (rd : d + t * t ≤ length m) (apart : Apart (t * t) u d) (first : top ≡ u + c * t)
    (mid : List Float) (x : mid ≡ with_two (t * t) u d (upper_at t t c c e u d m) (lower_at t t c c e u d m) m) where
  top_row : (q : ℕ) → q < t → get_or mid (top + q) nan ≡ at t (upper_at t t c c e u d m) c q
  top_row q h = mid_row t t c c e u d m ru rd apart mid x top q hc first h

  coupled_sound : every finite (eliminated_computes t t c (λ q. get_or mid (top + q) nan) (part d (t * t) mid))
      ≡ every finite (eliminated_computes t t c (at t (upper_at t t c c e u d m) c) (lower_at t t c c e u d m))
  unfolding eliminated_computes below
  coupled_sound =
      rw (mid_lower t t c c e u d m ru rd apart mid x)
      (every_joined finite (λ r. elimination_computes t c (λ q. get_or mid (top + q) nan) (at t (lower_at t t c c e u d m) r))
      (λ r. elimination_computes t c (at t (upper_at t t c c e u d m) c) (at t (lower_at t t c c e u d m) r)) 0 0 t
      (λ i h. elimination_finite t c hc (λ q. get_or mid (top + q) nan) (at t (upper_at t t c c e u d m) c) (at t (lower_at t t c c e u d m) (0 + i)) (at t (lower_at t t c c e u d m) (0 + i)) top_row (λ q hq. refl)))

  coupled_whole : with_part d (t * t) (eliminated_rows t t c (λ q. get_or mid (top + q) nan) (part d (t * t) mid)) mid
      ≡ with_two (t * t) u d (upper_at t t c c e u d m) (eliminated_rows t t c (at t (upper_at t t c c e u d m) c) (lower_at t t c c e u d m)) m
  unfolding eliminated_rows
  coupled_whole =
      mid_put t t c c e u d m ru rd apart mid x (eliminated_rows t t c (λ q. get_or mid (top + q) nan) (part d (t * t) mid)) (length_block t t _)
      ∙ ap (λ (b : List Float). with_two (t * t) u d (upper_at t t c c e u d m) b m)
      (rw (mid_lower t t c c e u d m ru rd apart mid x)
      (block_cong t t _ _
      (λ r q hr hq. elimination_same t c hc (λ q. get_or mid (top + q) nan) (at t (upper_at t t c c e u d m) c) (at t (lower_at t t c c e u d m) r) (at t (lower_at t t c c e u d m) r) top_row (λ q hq. refl) q hq)))

  -- the quotients, where they stand in the flat matrix
  pub coupled_fine : ((r : ℕ) → r < t → finite (quotient (at t (lower_at t t c c e u d m) r c) (at t (upper_at t t c c e u d m) c c)) ≡ true)
      → (r : ℕ) → r < t → finite (quotient (at t (part d (t * t) mid) r c) (get_or mid (top + c) nan)) ≡ true
  coupled_fine f r h = rw (top_row c hc, mid_lower t t c c e u d m ru rd apart mid x) (f r h)

  pub tiles_coupled : (after : List Float) (answer : Bool) → length after ≡ length mid → RowsEliminated t t c d top mid after answer → TilesCoupled t c e u d m after answer
  tiles_coupled after answer long r = record {
    long = long ∙ mid_long t t c c e u d m ru rd apart mid x;
    sound = r.sound ∙ coupled_sound;
    whole = λ h. r.whole h ∙ coupled_whole;
    frame = mid_frame t t c c e u d m ru rd apart mid x after long r.frame;
  }

-- ---- T-1

module _ (t c k y a s top : ℕ) (ends : suc c + k ≡ t) (m : List Float) (room : a + t * t ≤ length m) (start : s ≡ a + suc c * t) (first : top ≡ a + c * t)
    (mid : List Float) (x : mid ≡ with_part a (t * t) (exchanged_at t c y a m) m) where
  tile_fits : Fits (t * t) a m (exchanged_at t c y a m)
  unfolding exchanged_at exchanged
  tile_fits = record { whole = length_block t t _; room = room }

  pub kept_long : length mid ≡ length m
  kept_long = rw x (length_put (t * t) nan a m (exchanged_at t c y a m) tile_fits)

  mid_room : a + t * t ≤ length mid
  mid_room = rw kept_long room

  mid_tile : part a (t * t) mid ≡ exchanged_at t c y a m
  mid_tile = rw x (part_put (t * t) nan a m (exchanged_at t c y a m) tile_fits)

  put_tile_lem : (z : List Float) → with_part a (t * t) z mid ≡ with_part a (t * t) z m
  put_tile_lem z = rw x (put_put (t * t) nan a m (exchanged_at t c y a m) tile_fits z)

  pivot_row_lem : (q : ℕ) → q < t → get_or mid (top + q) nan ≡ at t (exchanged_at t c y a m) c q
  pivot_row_lem q h = rw (← mid_tile) (get_row t t a c top mid q mid_room (omega arith) first h)

  row_below_pivot : (i : ℕ) → i < k → (q : ℕ) → q < t → at t (part s (k * t) mid) i q ≡ at t (exchanged_at t c y a m) (suc c + i) q
  row_below_pivot i h q hq = rw (← mid_tile) (at_rows t t c k a s mid mid_room ends start i q h hq)

  -- the rows below the pivot are finite, and so are the quotients, where they stand in the flat matrix
  pub factored_finite : y < t → all_finite (part a (t * t) m) ≡ true → all_finite (part s (k * t) mid) ≡ true
  unfolding exchanged_at
  factored_finite hy f =
      finite_part a (t * t) s (k * t) mid mid_room (omega arith) (omega (arith, ap (λ (i : ℕ). i * t) ends))
      (rw mid_tile (finite_exchanged t t c y (part a (t * t) m) (omega arith) hy (length_part a (t * t) m room) f))

  pub factored_fine : ((r : ℕ) → c < r → r < t → finite (quotient (at t (exchanged_at t c y a m) r c) (at t (exchanged_at t c y a m) c c)) ≡ true)
      → (i : ℕ) → i < k → finite (quotient (at t (part s (k * t) mid) i c) (get_or mid (top + c) nan)) ≡ true
  factored_fine f i h = rw (pivot_row_lem c (omega arith), row_below_pivot i h c (omega arith)) (f (suc c + i) (omega arith) (omega arith))

  factored_sound : every finite (eliminated_computes k t c (λ q. get_or mid (top + q) nan) (part s (k * t) mid)) ≡ every finite (factored_computes t c (exchanged_at t c y a m))
  unfolding eliminated_computes factored_computes below beyond
  factored_sound =
      let e : t - suc c ≡ k = omega arith in
      rw e
      (every_joined finite (λ r. elimination_computes t c (λ q. get_or mid (top + q) nan) (at t (part s (k * t) mid) r))
      (λ r. elimination_computes t c (at t (exchanged_at t c y a m) c) (at t (exchanged_at t c y a m) r)) 0 (suc c) k
      (λ i h. rw (zero-add i)
      (elimination_finite t c (omega arith) (λ q. get_or mid (top + q) nan) (at t (exchanged_at t c y a m) c) (at t (part s (k * t) mid) i) (at t (exchanged_at t c y a m) (suc c + i)) pivot_row_lem (row_below_pivot i h))))

  factored_at : (r q : ℕ) → r < t → q < t → (b : Bool) → leb r c ≡ b
      → cond b (at t (part a (t * t) mid) r q) (eliminated c (λ q. get_or mid (top + q) nan) (at t (part s (k * t) mid) (r - suc c)) q)
      ≡ (cond b (at t (exchanged_at t c y a m) r) (eliminated c (at t (exchanged_at t c y a m) c) (at t (exchanged_at t c y a m) r))) q
  factored_at r q hr hq true e = rw mid_tile
  factored_at r q hr hq false e =
      let h : c < r = leb-false r c e in
      let p : suc c + (r - suc c) ≡ r = omega arith in
      elimination_same t c (omega arith) (λ q. get_or mid (top + q) nan) (at t (exchanged_at t c y a m) c) (at t (part s (k * t) mid) (r - suc c)) (at t (exchanged_at t c y a m) r) pivot_row_lem
      (λ q hq. row_below_pivot (r - suc c) (omega arith) q hq ∙ rw p) q hq

  factored_whole : with_part s (k * t) (eliminated_rows k t c (λ q. get_or mid (top + q) nan) (part s (k * t) mid)) mid ≡ with_part a (t * t) (factored t c (exchanged_at t c y a m)) m
  unfolding eliminated_rows factored
  factored_whole =
      put_rows_lem t t c k a s mid mid_room ends start (λ r. eliminated c (λ q. get_or mid (top + q) nan) (at t (part s (k * t) mid) r))
      ∙ put_tile_lem (block t t (λ r q. cond (leb r c) (at t (part a (t * t) mid) r q) (eliminated c (λ q. get_or mid (top + q) nan) (at t (part s (k * t) mid) (r - suc c)) q)))
      ∙ ap (λ (b : List Float). with_part a (t * t) b m) (block_cong t t _ _ (λ r q hr hq. factored_at r q hr hq (leb r c) refl))

  pub tile_factored : (after : List Float) (answer : Bool) → length after ≡ length mid → RowsEliminated k t c s top mid after answer → TileFactored t c y a m after answer
  tile_factored after answer long r = record {
    long = long ∙ kept_long;
    sound = r.sound ∙ factored_sound;
    whole = λ h. r.whole h ∙ factored_whole;
    frame = frame_rows t t c k a s mid mid_room ends start after (part s (k * t) after)
        (length_part s (k * t) after (rw long (rows_room t t c k a s mid mid_room ends start))) r.frame ∙ put_tile_lem (part a (t * t) after);
  }
