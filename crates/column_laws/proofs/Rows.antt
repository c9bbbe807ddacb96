-- Rows of a tile as parts of its list: rows put in place, exchanged within a tile and between two tiles. Assumes nothing.
use mathlib.Core.Path.{◌≡◌, refl, sym, ◌∙◌, ap}
use mathlib.Core.Logic.{⊎_elim}
use mathlib.Core.Bool.{Bool, true, false, cond, ◌&&◌}
use mathlib.Core.List.{List}
use Prim.Native.Nat.{ℕ, suc, pred, ◌+◌, ◌-◌, ◌*◌, ◌<◌, ◌≤◌}
use native.Mathlib.Nat.{add-zero, mul-le-mul_right}
use native.Mathlib.Omega.{arith}
use lib.Dec.{eqb, ltb, leb, leb-zero, eqb-suc-suc, eqb-suc-zero}
use lib.ListN.{length, get_or}
use lib.Ieee.{Float, nan}
use borrow.Author.Tests.{eqb-true, eqb-false, leb-true, leb-false, lt-ltb}
use Rattle.model.specs.Lists.{part, with_part}
use Rattle.model.specs.Tile.{at, swapped, exchanged}
use Rattle.model.specs.Column.{upper_exchanged, lower_exchanged}
use Rattle.exchanges.specs.Exchanged.{exchanged_parts}
use Rattle.laws.proofs.Tests.{lt_or_le}
use Rattle.laws.proofs.Blocks.{block_unique, block_at, block_cong, row_end}
use Rattle.laws.proofs.Parts.{Fits, length_put, get_in, get_before, get_after, length_part, get_part}

-- ---- one run of numbers: columns f to w - 1 of row c, which starts at s

module _ (t w c f n s : ℕ) (hc : c < t) (start : s ≡ c * w + f) (ends : f + n ≡ w) where
  module _ (tile : List Float) (whole : length tile ≡ t * w) where
    pub run_room : s + n ≤ length tile
    run_room = omega (arith, row_end c t w hc)

    pub length_run : length (part s n tile) ≡ n
    length_run = length_part s n tile run_room

    -- what stands there
    pub get_run : (q : ℕ) → f ≤ q → q < w → get_or (part s n tile) (q - f) nan ≡ at w tile c q
    unfolding at
    get_run q hf hq =
        let e : s + (q - f) ≡ c * w + q = omega arith in
        get_part s n tile nan (q - f) (omega arith) ∙ ap (λ (i : ℕ). get_or tile i nan) e

    module _ (ys : List Float) (long : length ys ≡ n) where
      pub run_fits : Fits n s tile ys
      run_fits = record { whole = long; room = run_room }

      pub length_put_run : length (with_part s n ys tile) ≡ t * w
      length_put_run = length_put n nan s tile ys run_fits ∙ whole

      put_by : (r q : ℕ) → r < t → q < w → (a b : Bool) → eqb r c ≡ a → leb f q ≡ b
          → at w (with_part s n ys tile) r q ≡ cond (a && b) (get_or ys (q - f) nan) (at w tile r q)
      unfolding at
      put_by r q hr hq true true ea eb =
          let h : f ≤ q = leb-true f q eb in
          let e : s + (q - f) ≡ c * w + q = omega arith in
          rw (eqb-true r c ea) (ap (λ (i : ℕ). get_or (with_part s n ys tile) i nan) (sym e) ∙ get_in n nan s tile ys run_fits (q - f) (omega arith))
      put_by r q hr hq true false ea eb =
          let h : q < f = leb-false f q eb in
          rw (eqb-true r c ea) (get_before n nan s tile ys run_fits (c * w + q) (omega arith))
      put_by r q hr hq false b ea eb =
          ⊎_elim
          (λ l. get_before n nan s tile ys run_fits (r * w + q) (omega (arith, mul-le-mul_right w l)))
          (λ g. let ne = eqb-false r c ea in let l : c < r = omega arith in get_after n nan s tile ys run_fits (r * w + q) (omega (arith, mul-le-mul_right w l)))
          (lt_or_le r c)

      -- the tile with ys there
      pub at_put_run : (r q : ℕ) → r < t → q < w → at w (with_part s n ys tile) r q ≡ cond (eqb r c && leb f q) (get_or ys (q - f) nan) (at w tile r q)
      at_put_run r q hr hq = put_by r q hr hq (eqb r c) (leb f q) refl refl

-- ---- two rows of one tile exchanged

module _ (t w x y : ℕ) (hx : x < t) (hy : y < t) (tile : List Float) (whole : length tile ≡ t * w) where
  whole_row : (r : ℕ) → r * w ≡ r * w + 0
  whole_row r = sym (add-zero (r * w))

  inner : List Float
  inner = with_part (y * w) w (part (x * w) w tile) tile

  inner_whole : length inner ≡ t * w
  unfolding inner
  inner_whole = length_put_run t w y 0 w (y * w) hy (whole_row y) (omega arith) tile whole (part (x * w) w tile) (length_run t w x 0 w (x * w) hx (whole_row x) (omega arith) tile whole)

  row_of_y : length (part (y * w) w tile) ≡ w
  row_of_y = length_run t w y 0 w (y * w) hy (whole_row y) (omega arith) tile whole

  swapped_by : (r q : ℕ) → r < t → q < w → (a b : Bool) → eqb r x ≡ a → eqb r y ≡ b
      → cond (a && leb 0 q) (get_or (part (y * w) w tile) (q - 0) nan) (cond (b && leb 0 q) (get_or (part (x * w) w tile) (q - 0) nan) (at w tile r q))
      ≡ at w tile (cond a y (cond b x r)) q
  swapped_by r q hr hq true b ea eb = rw (leb-zero q) (get_run t w y 0 w (y * w) hy (whole_row y) (omega arith) tile whole q (omega arith) hq)
  swapped_by r q hr hq false true ea eb = rw (leb-zero q) (get_run t w x 0 w (x * w) hx (whole_row x) (omega arith) tile whole q (omega arith) hq)
  swapped_by r q hr hq false false ea eb = refl

  pub exchange_rows : exchanged_parts (x * w) (y * w) w tile ≡ exchanged t w x y tile
  unfolding exchanged_parts exchanged swapped inner
  exchange_rows =
      block_unique t w (λ r q. at w tile (swapped x y r) q) (with_part (x * w) w (part (y * w) w tile) inner)
      (length_put_run t w x 0 w (x * w) hx (whole_row x) (omega arith) inner inner_whole (part (y * w) w tile) row_of_y)
      (λ r q hr hq.
      at_put_run t w x 0 w (x * w) hx (whole_row x) (omega arith) inner inner_whole (part (y * w) w tile) row_of_y r q hr hq
      ∙ ap (λ (v : Float). cond (eqb r x && leb 0 q) (get_or (part (y * w) w tile) (q - 0) nan) v)
      (at_put_run t w y 0 w (y * w) hy (whole_row y) (omega arith) tile whole (part (x * w) w tile) (length_run t w x 0 w (x * w) hx (whole_row x) (omega arith) tile whole) r q hr hq)
      ∙ swapped_by r q hr hq (eqb r x) (eqb r y) refl refl)

-- ---- row c of an upper tile and row y of a lower one exchanged, from column f on

module _ (t w c y f n : ℕ) (hc : c < t) (hy : y < t) (ends : f + n ≡ w) (u d : List Float) (hu : length u ≡ t * w) (hd : length d ≡ t * w) where
  upper_by : (r q : ℕ) → q < w → (a b : Bool) → eqb r c ≡ a → leb f q ≡ b
      → cond (a && b) (get_or (part (y * w + f) n d) (q - f) nan) (at w u r q) ≡ cond (a && b) (at w d y q) (at w u r q)
  upper_by r q hq true true ea eb = get_run t w y f n (y * w + f) hy refl ends d hd q (leb-true f q eb) hq
  upper_by r q hq true false ea eb = refl
  upper_by r q hq false b ea eb = refl

  pub upper_row : with_part (c * w + f) n (part (y * w + f) n d) u ≡ upper_exchanged t w f c (suc y) u d
  unfolding upper_exchanged
  upper_row =
      let long = length_run t w y f n (y * w + f) hy refl ends d hd in
      block_unique t w (λ r q. cond (ltb 0 (suc y) && eqb r c && leb f q) (at w d (pred (suc y)) q) (at w u r q)) (with_part (c * w + f) n (part (y * w + f) n d) u)
      (length_put_run t w c f n (c * w + f) hc refl ends u hu (part (y * w + f) n d) long)
      (λ r q hr hq.
      at_put_run t w c f n (c * w + f) hc refl ends u hu (part (y * w + f) n d) long r q hr hq
      ∙ upper_by r q hq (eqb r c) (leb f q) refl refl
      ∙ rw (lt-ltb 0 (suc y) (omega arith)))

  lower_by : (r q : ℕ) → q < w → (a b : Bool) → eqb r y ≡ a → leb f q ≡ b
      → cond (a && b) (get_or (part (c * w + f) n u) (q - f) nan) (at w d r q) ≡ cond (a && b) (at w u c q) (at w d r q)
  lower_by r q hq true true ea eb = get_run t w c f n (c * w + f) hc refl ends u hu q (leb-true f q eb) hq
  lower_by r q hq true false ea eb = refl
  lower_by r q hq false b ea eb = refl

  pub lower_row_lem : with_part (y * w + f) n (part (c * w + f) n u) d ≡ lower_exchanged t w f c (suc y) u d
  unfolding lower_exchanged
  lower_row_lem =
      let long = length_run t w c f n (c * w + f) hc refl ends u hu in
      block_unique t w (λ r q. cond (eqb (suc r) (suc y) && leb f q) (at w u c q) (at w d r q)) (with_part (y * w + f) n (part (c * w + f) n u) d)
      (length_put_run t w y f n (y * w + f) hy refl ends d hd (part (c * w + f) n u) long)
      (λ r q hr hq.
      at_put_run t w y f n (y * w + f) hy refl ends d hd (part (c * w + f) n u) long r q hr hq
      ∙ lower_by r q hq (eqb r y) (leb f q) refl refl
      ∙ rw (eqb-suc-suc r y))

-- entry 0 exchanges nothing
pub upper_stays : (t w f c : ℕ) (u d : List Float) → length u ≡ t * w → upper_exchanged t w f c 0 u d ≡ u
unfolding upper_exchanged
upper_stays t w f c u d h = sym (block_at t w u h)

pub lower_stays : (t w f c : ℕ) (u d : List Float) → length d ≡ t * w → lower_exchanged t w f c 0 u d ≡ d
unfolding lower_exchanged
lower_stays t w f c u d h =
    block_cong t w (λ r q. cond (eqb (suc r) 0 && leb f q) (at w u c q) (at w d r q)) (at w d) (λ r q hr hq. rw (eqb-suc-zero r)) ∙ sym (block_at t w d h)
