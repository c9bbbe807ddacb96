-- The numbers that columns and panels compute are finite. A zero multiplier computes none. Assumes nothing.
use Rattle.std.specs.Prelude.{ℕ, suc, ◌+◌, ◌≤◌, ◌<◌, true, false, ◌≡◌}
use Rattle.std.proofs.Math.Option.{Option}
use Rattle.inner_theory.specs.Setting.{Setting}
use Rattle.inner_theory.specs.Stack.{Place, up, low, Column, exchanges, steps, uppers, lowers}
use Rattle.inner_theory.specs.Columns.{Tiles, col, zero_pivot, Coupled, column₃, Blocked, held, inside, first, last, run₄, runᵇ₄}

-- the upper rows from a on, before a + b, and all lower rows
abbrev pub Inside : {R : Type 0} → ℕ → ℕ → Place R → Type 0
Inside a b (up i) = (a ≤ i) × (i < a + b)
Inside a b (low r) = Unit {0}

module _ (N : Setting) where
  abbrev pub AllFinite : ℕ → ℕ → Column N → Type 0
  AllFinite a b x = (p : Place N.Row) → Inside a b p → N.finite (x p) ≡ true

  -- x, computed with the multiplier m, is finite
  abbrev pub Fine : N.Num → N.Num → Type 0
  Fine m x = N.is_zero m ≡ false → N.finite x ≡ true

  -- ---- one column x, taken through n columns from a on

  abbrev pub SoundSteps : (ℕ → Option N.Row) → (ℕ → Column N) → ℕ → ℕ → Column N → Type 0
  SoundSteps e m a n x = (k : ℕ) → k < n → (r : N.Row) → Fine (m (a + k) (low r)) (steps N e m a (suc k) x (low r))

  pub record SoundPanel (e : ℕ → Option N.Row) (m : ℕ → Column N) (a n : ℕ) (x : Column N) : Type 0 where
    pub upper : (k i : ℕ) → k < n → a + k < i → i < a + n → Fine (m (a + k) (up i)) (uppers N m (a + n) a (suc k) (exchanges N e a n x) (up i))
    pub lower : (k : ℕ) → k < n → (r : N.Row) → Fine (m (a + k) (low r)) (lowers N m a (suc k) (uppers N m (a + n) a n (exchanges N e a n x)) (low r))

  -- ---- T-3: A before column c, A' after it; the columns from c on, before z, are worked in it

  pub record SoundColumn (c z : ℕ) (A A' : Tiles N) : Type 0 where
    pub quotients : zero_pivot N c (col N A c) ≡ false → (r : N.Row) → N.finite (A' (low r) c) ≡ true
    pub differences : zero_pivot N c (col N A c) ≡ false → (q : ℕ) → c < q → q < z → (r : N.Row) → Fine (A' (low r) c) (A' (low r) q)

  -- b = 1
  abbrev pub Sound₃ : ℕ → ℕ → Coupled N → Type 0
  Sound₃ t c s = SoundColumn c t s.tiles (column₃ N c s).tiles

  -- inner blocks: column c of the panel of b columns from a on
  pub record SoundInner (a b t c : ℕ) (s : Blocked N) : Type 0 where
    pub within : SoundColumn c (a + b) s.tiles (inside N a (a + b) c s).tiles
    pub last_one : suc c ≡ a + b → (q : ℕ) → a + b ≤ q → q < t → SoundPanel (inside N a (a + b) c s).rows (held N a (inside N a (a + b) c s).tiles (inside N a (a + b) c s).slice) a b (col N (inside N a (a + b) c s).tiles q)

  abbrev pub Soundᵇ₃ : ℕ → ℕ → ℕ → Blocked N → Type 0
  Soundᵇ₃ b t c s = SoundInner (first N b c) b t c s

  -- ---- T-4, on one column x

  abbrev pub Sound₄ : Tiles N → (ℕ → Option N.Row) → ℕ → Column N → Type 0
  Sound₄ A e t x = (c : ℕ) → c < t → (r : N.Row) → Fine (A (low r) c) (run₄ N A e (suc c) x (low r))

  abbrev pub Soundᵇ₄ : ℕ → Tiles N → (ℕ → ℕ → N.Num) → (ℕ → Option N.Row) → ℕ → Column N → Type 0
  Soundᵇ₄ b A S e t x = (c : ℕ) → c < t → last N b c ≡ true → SoundPanel e (held N (first N b c) A S) (first N b c) b (runᵇ₄ N b A S e c x)
