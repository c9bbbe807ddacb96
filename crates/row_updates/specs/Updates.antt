-- Rows updated: `rows` rows of width w, columns f to w - 1, by the multipliers l and the row u. Assumes nothing.
use Rattle.std.specs.Prelude.{ℕ, ◌+◌, ◌-◌, ◌*◌, ◌≤◌, ◌<◌, ◌≡◌, Bool, true, cond, ◌⊎◌, List, map, ltb, length, get_or, Float}
use Rattle.std.specs.Float.{nan}
use Rattle.model.specs.Lists.{run, below, every, joined, part, with_part}
use Rattle.model.specs.Num.{finite, update, update_computes}
use Rattle.model.specs.Tile.{at, block}

unfoldable pub updated_rows : ℕ → ℕ → ℕ → (ℕ → Float) → (ℕ → Float) → List Float → List Float
updated_rows rows w f l u b = block rows w (λ r q. cond (ltb q f) (at w b r q) (update (at w b r q) (l r) (u q)))

-- the numbers that this computes
unfoldable pub rows_compute : ℕ → ℕ → ℕ → (ℕ → Float) → (ℕ → Float) → List Float → List Float
rows_compute rows w f l u b = joined (map (λ r. joined (map (λ q. update_computes (at w b r q) (l r) (u q)) (run f (w - f)))) (below rows))

-- the rows from `start` on, updated where every number computed is finite; else stopped at some number, with nothing else changed
pub record RowsUpdated (rows w f start : ℕ) (l u : ℕ → Float) (before after : List Float) (answer : Bool) : Type 0 where
  pub sound : answer ≡ every finite (rows_compute rows w f l u (part start (rows * w) before))
  pub whole : answer ≡ true → after ≡ with_part start (rows * w) (updated_rows rows w f l u (part start (rows * w) before)) before
  pub frame : after ≡ with_part start (rows * w) (part start (rows * w) after) before

-- ---- several numbers at once

-- number k from p on, updated by the multiplier x and number k from y on
abbrev pub row_number : ℕ → ℕ → Float → List Float → ℕ → Float
row_number p y x m k = update (get_or m (p + k) nan) x (get_or m (y + k) nan)

-- number k from p on, updated by multiplier k from q on, `stride` apart, and the number u
abbrev pub column_number : ℕ → ℕ → ℕ → Float → List Float → List Float → ℕ → Float
column_number p q stride u l m k = update (get_or m (p + k) nan) (get_or l (q + k * stride) nan) u

-- n numbers v are stored from p on, and nothing else; the answer is whether all of them are finite
pub record NumbersStored (n p : ℕ) (v : ℕ → Float) (before after : List Float) (answer : Bool) : Type 0 where
  pub sound : answer ≡ every (λ k. finite (v k)) (below n)
  pub long : length after ≡ length before
  pub inside : (k : ℕ) → k < n → get_or after (p + k) nan ≡ v k
  pub outside : (x : ℕ) → (x < p) ⊎ (p + n ≤ x) → get_or after x nan ≡ get_or before x nan

-- columns f to w - 1 of the row that starts at s, updated by the multiplier x and the row at `top` where every number computed is finite; else stopped at
-- some number, with nothing else changed
pub record RowUpdated (w f s top : ℕ) (x : Float) (before after : List Float) (answer : Bool) : Type 0 where
  pub sound : answer ≡ every (λ k. finite (row_number s top x before k)) (run f (w - f))
  pub long : length after ≡ length before
  pub inside : answer ≡ true → (k : ℕ) → f ≤ k → k < w → get_or after (s + k) nan ≡ row_number s top x before k
  pub outside : (y : ℕ) → (y < s + f) ⊎ (s + w ≤ y) → get_or after y nan ≡ get_or before y nan
