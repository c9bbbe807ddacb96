-- T-3 and T-4, by single columns and by panels. Assumes nothing.
use Rattle.std.specs.Prelude.{ℕ, zero, suc, ◌+◌, ◌-◌, ◌%◌, Bool, cond, eqb, ltb}
use Rattle.std.proofs.Math.Option.{Option, none, some}
use Rattle.inner_theory.specs.Setting.{Setting}
use Rattle.inner_theory.specs.Stack.{Place, up, low, Column, exchanged, updated, panel}

-- f, with v at i
unfoldable pub put : {A : Type 0} → ℕ → A → (ℕ → A) → ℕ → A
put i v f j = cond (eqb j i) v (f j)

module _ (N : Setting) where
  -- the upper tile over the lower: place and column
  abbrev pub Tiles : Type 0
  Tiles = Place N.Row → ℕ → N.Num

  unfoldable pub col : Tiles → ℕ → Column N
  col A q p = A p q

  -- ---- column c of T-3. y is column c as it stands before

  -- the upper tile's diagonal element, and the lower rows
  unfoldable pub candidates : ℕ → Column N → Option N.Row → N.Num
  candidates c y none = y (up c)
  candidates c y (some r) = y (low r)

  unfoldable pub zero_pivot : ℕ → Column N → Bool
  zero_pivot c y = N.flat (candidates c y)

  -- the list entry
  unfoldable pub entry : ℕ → Column N → Option N.Row
  entry c y = cond (zero_pivot c y) none (N.winner (candidates c y))

  unfoldable pub divided : ℕ → Column N → Column N
  divided c x (up i) = x (up i)
  divided c x (low r) = N.quotient (x (low r)) (x (up c))

  -- column c, worked
  unfoldable pub fresh : ℕ → Column N → Column N
  fresh c y = cond (zero_pivot c y) y (divided c (exchanged N c (entry c y) y))

  -- the multipliers that stand in a worked column of the lower tile; upper rows have none
  unfoldable pub multipliers : Column N → Column N
  multipliers x (up i) = N.nought
  multipliers x (low r) = x (low r)

  -- a column x right of c, worked
  unfoldable pub onward : ℕ → Column N → Column N → Column N
  onward c y x = cond (zero_pivot c y) x (updated N c (multipliers (fresh c y)) (exchanged N c (entry c y) x))

  -- ---- T-3 with b = 1, as in document 01

  pub record Coupled : Type 0 where
    pub tiles : Tiles
    pub rows : ℕ → Option N.Row

  abbrev pub column₃ : ℕ → Coupled → Coupled
  column₃ c s =
      let A = s.tiles in
      record {
        tiles = λ p q. cond (ltb q c) (A p q) (cond (eqb q c) (fresh c (col A c) p) (onward c (col A c) (col A q) p));
        rows = put c (entry c (col A c)) s.rows;
      }

  -- columns 0 .. n - 1
  unfoldable pub run₃ : ℕ → Coupled → Coupled
  run₃ zero s = s
  run₃ (suc c) s = column₃ c (run₃ c s)

  -- ---- T-3 with inner blocks

  pub record Blocked : Type 0 where
    pub tiles : Tiles
    -- upper row i's multiplier for column p of its panel
    pub slice : ℕ → ℕ → N.Num
    pub rows : ℕ → Option N.Row

  -- the multipliers for column q of the panel from a on, where they stand
  unfoldable pub held : ℕ → Tiles → (ℕ → ℕ → N.Num) → ℕ → Column N
  held a A S q (up i) = S i (q - a)
  held a A S q (low r) = A (low r) q

  -- the lower tile's part of a column of multipliers, exchanged; the upper tile has none of it
  unfoldable pub moved : ℕ → ℕ → Tiles → (ℕ → ℕ → N.Num) → ℕ → Column N
  moved a c A S q (up i) = A (up i) q
  moved a c A S q (low r) = exchanged N c (entry c (col A c)) (held a A S q) (low r)

  -- column c, inside its panel: the columns from a on, before z
  abbrev pub inside : ℕ → ℕ → ℕ → Blocked → Blocked
  inside a z c s =
      let A = s.tiles in
      let S = s.slice in
      record {
        tiles = λ p q.
            cond (ltb q a) (A p q) (
            cond (ltb q c) (moved a c A S q p) (
            cond (eqb q c) (fresh c (col A c) p) (
            cond (ltb q z) (onward c (col A c) (col A q) p) (
            A p q))));
        slice = λ i p. cond (ltb p (c - a)) (exchanged N c (entry c (col A c)) (held a A S (a + p)) (up i)) (S i p);
        rows = put c (entry c (col A c)) s.rows;
      }

  -- right of the panel of b columns from a on
  abbrev pub beyond : ℕ → ℕ → Blocked → Blocked
  beyond a b s =
      let A = s.tiles in
      record {
        tiles = λ p q. cond (ltb q (a + b)) (A p q) (panel N s.rows (held a A s.slice) a b (col A q) p);
        slice = s.slice;
        rows = s.rows;
      }

  -- the first column of c's panel
  unfoldable pub first : ℕ → ℕ → ℕ
  first b c = c - c % b

  unfoldable pub last : ℕ → ℕ → Bool
  last b c = eqb (suc c) (first b c + b)

  unfoldable pub columnᵇ₃ : ℕ → ℕ → Blocked → Blocked
  columnᵇ₃ b c s =
      let s' = inside (first b c) (first b c + b) c s in
      cond (last b c) (beyond (first b c) b s') s'

  unfoldable pub runᵇ₃ : ℕ → ℕ → Blocked → Blocked
  runᵇ₃ b zero s = s
  runᵇ₃ b (suc c) s = columnᵇ₃ b c (runᵇ₃ b c s)

  -- ---- T-4, on one column x over its two tiles: A, S and e are what T-3 left

  unfoldable pub run₄ : Tiles → (ℕ → Option N.Row) → ℕ → Column N → Column N
  run₄ A e zero x = x
  run₄ A e (suc c) x = updated N c (multipliers (col A c)) (exchanged N c (e c) (run₄ A e c x))

  unfoldable pub columnᵇ₄ : ℕ → Tiles → (ℕ → ℕ → N.Num) → (ℕ → Option N.Row) → ℕ → Column N → Column N
  columnᵇ₄ b A S e c x = cond (last b c) (panel N e (held (first b c) A S) (first b c) b x) x

  unfoldable pub runᵇ₄ : ℕ → Tiles → (ℕ → ℕ → N.Num) → (ℕ → Option N.Row) → ℕ → Column N → Column N
  runᵇ₄ b A S e zero x = x
  runᵇ₄ b A S e (suc c) x = columnᵇ₄ b A S e c (runᵇ₄ b A S e c x)
