-- Where T-3 with b leaves its multipliers: those with b = 1, moved by the exchanges of the later columns of their panel.
-- The upper tile's rows over the lower tile's are numbered through: upper row i is row i, lower row r is row t + r. Assumes nothing.
use Rattle.std.specs.Prelude.{ℕ, zero, suc, pred, ◌+◌, ◌-◌, ◌≤◌, ◌<◌, cond, List, ◌≡◌, get_or, eqb, ltb, Float}
use Rattle.model.specs.Num.{plus_zero}
use Rattle.model.specs.Tile.{at, swapped}
use Rattle.inner_tiles.specs.Inner.{panel_start}

-- row x with list entry e of column c: 0 exchanges nothing, r + 1 row c and lower row r
unfoldable pub entry_swapped : ℕ → ℕ → ℕ → ℕ → ℕ
entry_swapped t c e x = cond (eqb e 0) x (swapped c (t + pred e) x)

-- the row whose multiplier of column c stands in row x once the n columns after c have made their exchanges, by the list p
unfoldable pub came_from : ℕ → List ℕ → ℕ → ℕ → ℕ → ℕ
came_from t p c zero x = x
came_from t p c (suc n) x = came_from t p c n (entry_swapped t (suc (c + n)) (get_or p (suc (c + n)) 0) x)

-- the multiplier of row x for column c with b = 1, by the lower tile l: an upper row has none, +0
unfoldable pub multiplier_of : ℕ → List Float → ℕ → ℕ → Float
multiplier_of t l c x = cond (ltb x t) plus_zero (at t l (x - t) c)

-- the columns of c's panel after c
unfoldable pub columns_left : ℕ → ℕ → ℕ
columns_left b c = panel_start b c + b - suc c

-- the lower tile l' and the slice sl with b hold the multipliers of the lower tile l with b = 1, in the rows where the list p has put them
pub record Permuted (t b : ℕ) (p : List ℕ) (l l' sl : List Float) : Type 0 where
  pub lower : (c r : ℕ) → c < t → r < t → at t l' r c ≡ multiplier_of t l c (came_from t p c (columns_left b c) (t + r))
  pub slice : (c i : ℕ) → c < t → panel_start b c ≤ i → i < panel_start b c + b → at b sl i (c - panel_start b c) ≡ multiplier_of t l c (came_from t p c (columns_left b c) i)
