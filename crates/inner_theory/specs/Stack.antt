-- One column of numbers over an upper and a lower tile, taken through a panel of columns in two ways: column by column, or deferred.
-- Assumes nothing.
use Rattle.std.specs.Prelude.{ℕ, zero, suc, ◌+◌, cond, ◌&&◌, eqb, ltb}
use Rattle.std.proofs.Math.Option.{Option, none, some}
use Rattle.inner_theory.specs.Setting.{Setting}

-- a row of the upper tile, or of the lower
pub data Place (R : Type 0) : Type 0 where
  up : ℕ → Place R
  low : R → Place R

module _ (N : Setting) where
  abbrev pub Column : Type 0
  Column = Place N.Row → N.Num

  -- list entry e at column c: none for no exchange, r for upper row c and lower row r
  unfoldable pub swap : ℕ → Option N.Row → Place N.Row → Place N.Row
  swap c none p = p
  swap c (some r) (up i) = cond (eqb i c) (low r) (up i)
  swap c (some r) (low s) = cond (N.same s r) (up c) (low s)

  unfoldable pub exchanged : ℕ → Option N.Row → Column → Column
  exchanged c e x p = x (swap c e p)

  -- every place, by upper row c and the place's multiplier
  unfoldable pub updated : ℕ → Column → Column → Column
  updated c m x p = N.update (x p) (m p) (x (up c))

  -- b = 1: each of n columns, from a on, exchanges, then updates. m c are the multipliers of column c, as they stood then
  unfoldable pub steps : (ℕ → Option N.Row) → (ℕ → Column) → ℕ → ℕ → Column → Column
  steps e m a zero x = x
  steps e m a (suc n) x = updated (a + n) (m (a + n)) (exchanged (a + n) (e (a + n)) (steps e m a n x))

  -- ---- the panel of n columns from a on, deferred: all exchanges in order, then the upper rows, then the lower rows

  unfoldable pub exchanges : (ℕ → Option N.Row) → ℕ → ℕ → Column → Column
  exchanges e a zero x = x
  exchanges e a (suc n) x = exchanged (a + n) (e (a + n)) (exchanges e a n x)

  -- upper rows below row c and above row z, by row c
  unfoldable pub upper_updated : ℕ → ℕ → Column → Column → Column
  upper_updated z c m x (up i) = cond (ltb c i && ltb i z) (N.update (x (up i)) (m (up i)) (x (up c))) (x (up i))
  upper_updated z c m x (low r) = x (low r)

  unfoldable pub lower_updated : ℕ → Column → Column → Column
  lower_updated c m x (up i) = x (up i)
  lower_updated c m x (low r) = N.update (x (low r)) (m (low r)) (x (up c))

  unfoldable pub uppers : (ℕ → Column) → ℕ → ℕ → ℕ → Column → Column
  uppers m z a zero x = x
  uppers m z a (suc n) x = upper_updated z (a + n) (m (a + n)) (uppers m z a n x)

  unfoldable pub lowers : (ℕ → Column) → ℕ → ℕ → Column → Column
  lowers m a zero x = x
  lowers m a (suc n) x = lower_updated (a + n) (m (a + n)) (lowers m a n x)

  unfoldable pub panel : (ℕ → Option N.Row) → (ℕ → Column) → ℕ → ℕ → Column → Column
  panel e m a n x = lowers m a n (uppers m (a + n) a n (exchanges e a n x))

  -- ---- for the proof

  unfoldable pub updates : (ℕ → Column) → ℕ → ℕ → Column → Column
  updates m a zero x = x
  updates m a (suc n) x = updated (a + n) (m (a + n)) (updates m a n x)

  -- the multipliers of a panel, after the exchanges of its later columns have moved them too
  unfoldable pub stored : (ℕ → Option N.Row) → (ℕ → Column) → ℕ → ℕ → ℕ → Column
  stored e m a zero c p = N.nought
  stored e m a (suc n) c p = cond (eqb c (a + n)) (m c p) (stored e m a n c (swap (a + n) (e (a + n)) p))
