-- An exchange of runs of the flat matrix is an exchange of rows of its tiles. Assumes nothing.
use mathlib.Core.Path.{◌≡◌, refl, sym, ◌∙◌, ap}
use mathlib.Core.Logic.{◌⊎◌, inl, inr}
use mathlib.Core.List.{List}
use Prim.Native.Nat.{ℕ, suc, ◌+◌, ◌*◌, ◌<◌, ◌≤◌}
use native.Mathlib.Omega.{arith}
use lib.ListN.{length}
use lib.Ieee.{Float, nan}
use borrow.Rule.Slice.PartMut.{put_same}
use Rattle.model.specs.Lists.{part, with_part}
use Rattle.model.specs.Tile.{exchanged}
use Rattle.exchanges.specs.Exchanged.{exchanged_parts}
use Rattle.laws.specs.Apart.{Apart}
use Rattle.laws.proofs.Parts.{Fits, length_put, part_put, put_put, part_other, length_part}
use Rattle.laws.proofs.Blocks.{row_end}
use Rattle.column_laws.specs.Steps.{upper_at, lower_at, with_two, exchanged_at}
use Rattle.column_laws.proofs.Nested.{part_in, put_in}
use Rattle.column_laws.proofs.Rows.{length_run, length_put_run, exchange_rows, upper_row, lower_row_lem, upper_stays, lower_stays}

-- ---- within the tile at a

module _ (t w a x y : ℕ) (hx : x < t) (hy : y < t) (m : List Float) (room : a + t * w ≤ length m) where
  tile : List Float
  tile = part a (t * w) m

  pub exchange_tile : exchanged_parts (a + x * w) (a + y * w) w m ≡ with_part a (t * w) (exchanged t w x y (part a (t * w) m)) m
  unfolding exchanged_parts tile
  exchange_tile =
      let px = part_in a (t * w) m room (x * w) w (row_end x t w hx) nan in
      let py = part_in a (t * w) m room (y * w) w (row_end y t w hy) nan in
      let whole : length tile ≡ t * w = length_part a (t * w) m room in
      let q : List Float = with_part (y * w) w (part (x * w) w tile) tile in
      let long : length q ≡ t * w = length_put w nan (y * w) tile (part (x * w) w tile)
      (record { whole = length_part (x * w) w tile (rw whole (row_end x t w hx)); room = rw whole (row_end y t w hy) }) ∙ whole in
      let fits : Fits (t * w) a m q = record { whole = long; room = room } in
      rw (
        px,
        py,
        put_in a (t * w) m room (y * w) w (row_end y t w hy) (part (x * w) w tile),
        put_in a (t * w) (with_part a (t * w) q m) (rw (length_put (t * w) nan a m q fits) room) (x * w) w (row_end x t w hx) (part (y * w) w tile),
        part_put (t * w) nan a m q fits,
        put_put (t * w) nan a m q fits,
      )
      (ap (λ (b : List Float). with_part a (t * w) b m) (exchange_rows t w x y hx hy tile whole))

pub exchange_at : (t a c y : ℕ) (m mid : List Float) → c < t → y < t → a + t * t ≤ length m → mid ≡ exchanged_parts (a + c * t) (a + y * t) t m
    → mid ≡ with_part a (t * t) (exchanged_at t c y a m) m
unfolding exchanged_at
exchange_at t a c y m mid hc hy room e = e ∙ exchange_tile t t a c y hc hy m room

-- ---- between the tiles at u and d: row c of the one and row y of the other, from column f on

turned : (n a b : ℕ) → Apart n a b → Apart n b a
turned n a b (inl h) = inr h
turned n a b (inr h) = inl h

module _ (t w u d c : ℕ) (hc : c < t) (m : List Float) (ru : u + t * w ≤ length m) (rd : d + t * w ≤ length m) (apart : Apart (t * w) u d) where
  upper : List Float
  upper = part u (t * w) m

  lower : List Float
  lower = part d (t * w) m

  module _ (y f n : ℕ) (hy : y < t) (ends : f + n ≡ w) where
    exchange_two : exchanged_parts (u + (c * w + f)) (d + (y * w + f)) n m ≡ with_two (t * w) u d (upper_at t w f c (suc y) u d m) (lower_at t w f c (suc y) u d m) m
    unfolding exchanged_parts upper lower with_two upper_at lower_at
    exchange_two =
        let rc : c * w + f + n ≤ t * w = omega (arith, row_end c t w hc) in
        let ry : y * w + f + n ≤ t * w = omega (arith, row_end y t w hy) in
        let hu : length upper ≡ t * w = length_part u (t * w) m ru in
        let hd : length lower ≡ t * w = length_part d (t * w) m rd in
        let b : List Float = with_part (y * w + f) n (part (c * w + f) n upper) lower in
        let long : length b ≡ t * w = length_put_run t w y f n (y * w + f) hy refl ends lower hd (part (c * w + f) n upper) (length_run t w c f n (c * w + f) hc refl ends upper hu) in
        let fits : Fits (t * w) d m b = record { whole = long; room = rd } in
        rw (
          part_in u (t * w) m ru (c * w + f) n rc nan,
          part_in d (t * w) m rd (y * w + f) n ry nan,
          put_in d (t * w) m rd (y * w + f) n ry (part (c * w + f) n upper),
          put_in u (t * w) (with_part d (t * w) b m) (rw (length_put (t * w) nan d m b fits) ru) (c * w + f) n rc (part (y * w + f) n lower),
          part_other (t * w) nan d u m b fits ru (turned (t * w) u d apart),
        )
        (rw (upper_row t w c y f n hc hy ends upper lower hu hd, lower_row_lem t w c y f n hc hy ends upper lower hu hd))

    -- entry e names row y
    pub exchange_entry : (e s s' : ℕ) → e ≡ suc y → s ≡ u + (c * w + f) → s' ≡ d + (y * w + f)
        → exchanged_parts s s' n m ≡ with_two (t * w) u d (upper_at t w f c e u d m) (lower_at t w f c e u d m) m
    exchange_entry e s s' p q r = rw (p, q, r) exchange_two

  -- entry 0 names none
  pub exchange_none : (f : ℕ) → m ≡ with_two (t * w) u d (upper_at t w f c 0 u d m) (lower_at t w f c 0 u d m) m
  unfolding with_two upper_at lower_at
  exchange_none f =
      rw (upper_stays t w f c (part u (t * w) m) (part d (t * w) m) (length_part u (t * w) m ru), lower_stays t w f c (part u (t * w) m) (part d (t * w) m) (length_part d (t * w) m rd), put_same d (t * w) m)
      (sym (put_same u (t * w) m))

-- rows of two blocks that share no number
module _ (t w u d c : ℕ) (hc : c < t) (apart : Apart (t * w) u d) where
  runs_by : (y f n : ℕ) → y < t → f + n ≡ w → Apart (t * w) u d → Apart n (u + (c * w + f)) (d + (y * w + f))
  runs_by y f n hy ends (inl h) = inl (omega (arith, row_end c t w hc))
  runs_by y f n hy ends (inr h) = inr (omega (arith, row_end y t w hy))

  pub runs_apart : (y f n : ℕ) → y < t → f + n ≡ w → Apart n (u + (c * w + f)) (d + (y * w + f))
  runs_apart y f n hy ends = runs_by y f n hy ends apart

  row_by : Apart (t * w) u d → (u + c * w + w ≤ d) ⊎ (d + t * w ≤ u + c * w)
  row_by (inl h) = inl (omega (arith, row_end c t w hc))
  row_by (inr h) = inr (omega arith)

  pub row_apart : (u + c * w + w ≤ d) ⊎ (d + t * w ≤ u + c * w)
  row_apart = row_by apart
