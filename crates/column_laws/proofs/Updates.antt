-- Rows of the flat matrix updated, or a pivot row eliminated from them: what that makes of the tile that they stand in. Assumes nothing.
use mathlib.Core.Path.{◌≡◌, refl, sym, ◌∙◌, ap}
use mathlib.Core.Bool.{Bool, true, false, cond}
use mathlib.Core.List.{List, map}
use Prim.Native.Nat.{ℕ, suc, ◌+◌, ◌-◌, ◌*◌, ◌<◌, ◌≤◌, compare, Ordering}
use native.Mathlib.Nat.{zero-add, sub-zero, mul-le-mul_right, add-mul}
use native.Mathlib.Omega.{arith}
use lib.Dec.{ltb, leb, is_le, compare_is_eq}
use lib.ListN.{length, get_or}
use lib.Ieee.{Float, nan}
use borrow.Author.Tests.{eqb-true, eqb-false, leb-true, leb-false, le-ltb}
use Rattle.model.specs.Lists.{run, below, every, joined, part, with_part}
use Rattle.model.specs.Num.{finite, update, update_computes}
use Rattle.model.specs.Tile.{at, block}
use Rattle.model.specs.Column.{beyond, row_computes}
use Rattle.row_updates.specs.Updates.{RowsUpdated, updated_rows, rows_compute}
use Rattle.laws.proofs.Blocks.{length_block, block_unique, block_cong, at_block, in_block}
use Rattle.laws.proofs.Parts.{Fits, length_put, get_in, get_before, part_put, length_part, get_part}
use Rattle.column_laws.specs.Steps.{RowsApplied, applied_block, applied_computes}
use Rattle.column_laws.proofs.Nested.{put_in}
use Rattle.column_laws.proofs.Computes.{every_joined}

-- ---- comparisons

module _ (q c : ℕ) where
  less_by : q < c → (o : Ordering) → compare q c ≡ o → o ≡ Ordering.lt
  less_by h Ordering.lt e = refl
  less_by h Ordering.eq e = absurd (let p = eqb-true q c (ap compare_is_eq e) in omega arith)
  less_by h Ordering.gt e = absurd (let p = leb-false q c (ap is_le e) in omega arith)

  pub compare_less : q < c → compare q c ≡ Ordering.lt
  compare_less h = less_by h (compare q c) refl

  equal_by : q ≡ c → (o : Ordering) → compare q c ≡ o → o ≡ Ordering.eq
  equal_by h Ordering.lt e = absurd (eqb-false q c (ap compare_is_eq e) h)
  equal_by h Ordering.eq e = refl
  equal_by h Ordering.gt e = absurd (eqb-false q c (ap compare_is_eq e) h)

  pub compare_equal : q ≡ c → compare q c ≡ Ordering.eq
  compare_equal h = equal_by h (compare q c) refl

  more_by : c < q → (o : Ordering) → compare q c ≡ o → o ≡ Ordering.gt
  more_by h Ordering.lt e = absurd (let p = leb-true q c (ap is_le e) in omega arith)
  more_by h Ordering.eq e = absurd (let p = leb-true q c (ap is_le e) in omega arith)
  more_by h Ordering.gt e = refl

  pub compare_more : c < q → compare q c ≡ Ordering.gt
  compare_more h = more_by h (compare q c) refl

-- ---- the rows below row c of the tile at a: k rows, from s on

-- an element of a tile is an element of the matrix
pub at_part : (t w a : ℕ) (m : List Float) (r q : ℕ) → a + t * w ≤ length m → r < t → q < w → at w (part a (t * w) m) r q ≡ get_or m (a + (r * w + q)) nan
unfolding at
at_part t w a m r q room hr hq = get_part a (t * w) m nan (r * w + q) (in_block t w r q hr hq)

pub get_row : (t w a c top : ℕ) (m : List Float) (q : ℕ) → a + t * w ≤ length m → c < t → top ≡ a + c * w → q < w → get_or m (top + q) nan ≡ at w (part a (t * w) m) c q
get_row t w a c top m q room hc e hq =
    let i : top + q ≡ a + (c * w + q) = omega arith in
    ap (λ (x : ℕ). get_or m x nan) i ∙ sym (at_part t w a m c q room hc hq)

module _ (t w c k a s : ℕ) (m : List Float) (room : a + t * w ≤ length m) (ends : suc c + k ≡ t) (start : s ≡ a + suc c * w) where
  tile : List Float
  tile = part a (t * w) m

  split : suc c * w + k * w ≡ t * w
  split = omega (arith, ap (λ (i : ℕ). i * w) ends)

  pub rows_room : s + k * w ≤ length m
  rows_room = omega (arith, split)

  pub at_rows : (i q : ℕ) → i < k → q < w → at w (part s (k * w) m) i q ≡ at w (part a (t * w) m) (suc c + i) q
  at_rows i q hi hq =
      let e : s + (i * w + q) ≡ a + ((suc c + i) * w + q) = omega arith in
      at_part k w s m i q rows_room hi hq ∙ ap (λ (x : ℕ). get_or m x nan) e ∙ sym (at_part t w a m (suc c + i) q room (omega arith) hq)

  module _ (g : ℕ → ℕ → Float) where
    fits : length (part a (t * w) m) ≡ t * w → Fits (k * w) (suc c * w) (part a (t * w) m) (block k w g)
    fits e = record { whole = length_block k w g; room = rw e (omega (arith, split)) }

    put_by : (r q : ℕ) → r < t → q < w → (b : Bool) → leb r c ≡ b
        → at w (with_part (suc c * w) (k * w) (block k w g) tile) r q ≡ cond b (at w tile r q) (g (r - suc c) q)
    unfolding at tile
    put_by r q hr hq true e =
        let h : suc r ≤ suc c = (let l = leb-true r c e in omega arith) in
        get_before (k * w) nan (suc c * w) tile (block k w g) (fits (length_part a (t * w) m room)) (r * w + q) (omega (arith, mul-le-mul_right w h))
    put_by r q hr hq false e =
        let l : c < r = leb-false r c e in
        let x : ℕ = r - suc c in
        let p : suc c + x ≡ r = omega arith in
        let i : r * w + q ≡ suc c * w + (x * w + q) = omega (arith, ap (λ (j : ℕ). j * w) p) in
        ap (λ (j : ℕ). get_or (with_part (suc c * w) (k * w) (block k w g) tile) j nan) i
        ∙ get_in (k * w) nan (suc c * w) tile (block k w g) (fits (length_part a (t * w) m room)) (x * w + q) (in_block k w x q (omega arith) hq)
        ∙ at_block k w g x q (omega arith) hq

    pub put_rows_lem : with_part s (k * w) (block k w g) m ≡ with_part a (t * w) (block t w (λ r q. cond (leb r c) (at w (part a (t * w) m) r q) (g (r - suc c) q))) m
    unfolding tile
    put_rows_lem =
        rw (start, put_in a (t * w) m room (suc c * w) (k * w) (omega (arith, split)) (block k w g))
        (ap (λ (b : List Float). with_part a (t * w) b m)
        (block_unique t w (λ r q. cond (leb r c) (at w tile r q) (g (r - suc c) q)) (with_part (suc c * w) (k * w) (block k w g) tile)
        (length_put (k * w) nan (suc c * w) tile (block k w g) (fits (length_part a (t * w) m room)) ∙ length_part a (t * w) m room)
        (λ r q hr hq. put_by r q hr hq (leb r c) refl)))

  -- what is changed only in these rows is changed only in the tile
  pub frame_rows : (after ys : List Float) → length ys ≡ k * w → after ≡ with_part s (k * w) ys m → after ≡ with_part a (t * w) (part a (t * w) after) m
  unfolding tile
  frame_rows after ys long e =
      let whole : length tile ≡ t * w = length_part a (t * w) m room in
      let b : List Float = with_part (suc c * w) (k * w) ys tile in
      let f : Fits (k * w) (suc c * w) tile ys = record { whole = long; room = rw whole (omega (arith, split)) } in
      let g : Fits (t * w) a m b = record { whole = length_put (k * w) nan (suc c * w) tile ys f ∙ whole; room = room } in
      let p : after ≡ with_part a (t * w) b m = e ∙ rw (start, put_in a (t * w) m room (suc c * w) (k * w) (omega (arith, split)) ys) in
      let q : part a (t * w) after ≡ b = rw p (part_put (t * w) nan a m b g) in
      p ∙ ap (λ (x : List Float). with_part a (t * w) x m) (sym q)

-- ---- the numbers that a row's update computes

pub row_finite : (f n : ℕ) (x y : Float) (u v d e : ℕ → Float) → x ≡ y → ((q : ℕ) → f ≤ q → q < f + n → u q ≡ v q) → ((q : ℕ) → f ≤ q → q < f + n → d q ≡ e q)
    → every finite (joined (map (λ q. update_computes (d q) x (u q)) (run f n))) ≡ every finite (joined (map (λ q. update_computes (e q) y (v q)) (run f n)))
row_finite f n x y u v d e hx hu hd =
    every_joined finite (λ q. update_computes (d q) x (u q)) (λ q. update_computes (e q) y (v q)) f f n
    (λ i h. rw (hx, hu (f + i) (omega arith) (omega arith), hd (f + i) (omega arith) (omega arith)))

-- ---- T-2: the rows below row c updated by row c

module _ (t w c k a s top : ℕ) (m : List Float) (room : a + t * w ≤ length m) (ends : suc c + k ≡ t) (start : s ≡ a + suc c * w) (first : top ≡ a + c * w)
    (l l' : ℕ → Float) (same : (i : ℕ) → i < k → l' (suc c + i) ≡ l i) (after : List Float) (answer : Bool) (long : length after ≡ length m)
    (r : RowsUpdated k w 0 s l (λ q. get_or m (top + q) nan) m after answer) where
  sound_row : (i : ℕ) → i < k
      → every finite (joined (map (λ q. update_computes (at w (part s (k * w) m) i q) (l i) (get_or m (top + q) nan)) (run 0 (w - 0))))
      ≡ every finite (row_computes w (l' (suc c + i)) (at w (part a (t * w) m) c) (at w (part a (t * w) m) (suc c + i)))
  unfolding row_computes below
  sound_row i h =
      rw (sub-zero w)
      (row_finite 0 w (l i) (l' (suc c + i)) (λ q. get_or m (top + q) nan) (at w (part a (t * w) m) c) (at w (part s (k * w) m) i) (at w (part a (t * w) m) (suc c + i))
      (sym (same i h))
      (λ q hf hq. get_row t w a c top m q room (omega arith) first (omega arith))
      (λ q hf hq. at_rows t w c k a s m room ends start i q h (omega arith)))

  applied_sound : every finite (rows_compute k w 0 l (λ q. get_or m (top + q) nan) (part s (k * w) m)) ≡ every finite (applied_computes t w c l' (part a (t * w) m))
  unfolding rows_compute applied_computes beyond below
  applied_sound =
      let e : t - suc c ≡ k = omega arith in
      rw e
      (every_joined finite
      (λ i. joined (map (λ q. update_computes (at w (part s (k * w) m) i q) (l i) (get_or m (top + q) nan)) (run 0 (w - 0))))
      (λ i. row_computes w (l' i) (at w (part a (t * w) m) c) (at w (part a (t * w) m) i)) 0 (suc c) k
      (λ i h. rw (zero-add i) (sound_row i h)))

  applied_at : (i q : ℕ) → i < t → q < w → (b : Bool) → leb i c ≡ b
      → cond b (at w (part a (t * w) m) i q)
      (cond (ltb q 0) (at w (part s (k * w) m) (i - suc c) q) (update (at w (part s (k * w) m) (i - suc c) q) (l (i - suc c)) (get_or m (top + q) nan)))
      ≡ cond b (at w (part a (t * w) m) i q) (update (at w (part a (t * w) m) i q) (l' i) (at w (part a (t * w) m) c q))
  applied_at i q hi hq true e = refl
  applied_at i q hi hq false e =
      let h : c < i = leb-false i c e in
      let p : suc c + (i - suc c) ≡ i = omega arith in
      rw (← same (i - suc c) (omega arith), le-ltb q 0 (omega arith), at_rows t w c k a s m room ends start (i - suc c) q (omega arith) hq, p, get_row t w a c top m q room (omega arith) first hq)

  applied_whole : with_part s (k * w) (updated_rows k w 0 l (λ q. get_or m (top + q) nan) (part s (k * w) m)) m ≡ with_part a (t * w) (applied_block t w c l' (part a (t * w) m)) m
  unfolding updated_rows applied_block
  applied_whole =
      put_rows_lem t w c k a s m room ends start
      (λ i q. cond (ltb q 0) (at w (part s (k * w) m) i q) (update (at w (part s (k * w) m) i q) (l i) (get_or m (top + q) nan)))
      ∙ ap (λ (b : List Float). with_part a (t * w) b m) (block_cong t w _ _ (λ i q hi hq. applied_at i q hi hq (leb i c) refl))

  pub rows_applied : RowsApplied t w c a l' m after answer
  rows_applied = record {
    long = long;
    sound = r.sound ∙ applied_sound;
    whole = λ e. r.whole e ∙ applied_whole;
    frame = frame_rows t w c k a s m room ends start after (part s (k * w) after)
        (length_part s (k * w) after (rw long (rows_room t w c k a s m room ends start))) r.frame;
  }

-- ---- multipliers in column c of the tile at f: those below row c, from x on, and those of all rows

pub below_read : (t c x f k : ℕ) (m : List Float) → suc c + k ≡ t → x ≡ f + (suc c * t + c) → f + t * t ≤ length m
    → (i : ℕ) → i < k → at t (part f (t * t) m) (suc c + i) c ≡ get_or m (x + i * t) nan
below_read t c x f k m ends e room i h =
    let j : f + ((suc c + i) * t + c) ≡ x + i * t = omega (arith, add-mul (suc c) i t) in
    at_part t t f m (suc c + i) c room (omega arith) (omega arith) ∙ ap (λ (z : ℕ). get_or m z nan) j

pub column_read : (t c x f : ℕ) (m : List Float) → c < t → x ≡ f + c → f + t * t ≤ length m → (r : ℕ) → r < t → get_or m (x + r * t) nan ≡ at t (part f (t * t) m) r c
column_read t c x f m hc e room r hr =
    let j : x + r * t ≡ f + (r * t + c) = omega arith in
    ap (λ (z : ℕ). get_or m z nan) j ∙ sym (at_part t t f m r c room hr hc)
