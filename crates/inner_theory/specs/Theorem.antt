-- K5's claim for one T-3, and for any column of numbers that its T-4 works on. The tile size is t = k * b. Assumes nothing.
use Rattle.std.specs.Prelude.{ℕ, ◌<◌, ◌≡◌, ◌↔◌}
use Rattle.inner_theory.specs.Setting.{Setting}
use Rattle.inner_theory.specs.Stack.{up, Column}
use Rattle.inner_theory.specs.Columns.{col, Coupled, Blocked, run₃, runᵇ₃, run₄, runᵇ₄}
use Rattle.inner_theory.specs.Sound.{AllFinite, Sound₃, Soundᵇ₃, Sound₄, Soundᵇ₄}

module _ (N : Setting) where
  -- the slice is +0 at the start
  abbrev pub opened : Coupled N → Blocked N
  opened s = record { tiles = s.tiles; slice = λ i p. N.nought; rows = s.rows }

  -- no column fails
  abbrev pub Good₃ : ℕ → Coupled N → Type 0
  Good₃ t s = (c : ℕ) → c < t → Sound₃ N t c (run₃ N c s)

  abbrev pub Goodᵇ₃ : ℕ → ℕ → Coupled N → Type 0
  Goodᵇ₃ b t s = (c : ℕ) → c < t → Soundᵇ₃ N b t c (runᵇ₃ N b c (opened s))

  -- every number of the first t columns is finite, in the upper rows below t and in all lower rows
  abbrev pub Finite₃ : ℕ → Coupled N → Type 0
  Finite₃ t s = (q : ℕ) → q < t → AllFinite N 0 t (col N s.tiles q)

  -- T-4 by what T-3 left
  abbrev pub fourth : ℕ → Coupled N → Column N → Column N
  fourth t s = run₄ N (run₃ N t s).tiles (run₃ N t s).rows t

  abbrev pub fourthᵇ : ℕ → ℕ → Coupled N → Column N → Column N
  fourthᵇ b t s = runᵇ₄ N b (runᵇ₃ N b t (opened s)).tiles (runᵇ₃ N b t (opened s)).slice (runᵇ₃ N b t (opened s)).rows t

pub record Blocks (N : Setting) (b t : ℕ) (s : Coupled N) : Type 0 where
  -- T-3's mark
  pub mark₃ : Good₃ N t s ↔ Goodᵇ₃ N b t s
  -- where T-3 is done: its list, and the whole upper tile
  pub rows : Good₃ N t s → (runᵇ₃ N b t (opened N s)).rows ≡ (run₃ N t s).rows
  pub upper : Good₃ N t s → (i q : ℕ) → (runᵇ₃ N b t (opened N s)).tiles (up i) q ≡ (run₃ N t s).tiles (up i) q
  -- then each column over T-4's two tiles, or over the right side, and T-4's mark
  pub fourth_same : Good₃ N t s → (x : Column N) → fourthᵇ N b t s x ≡ fourth N t s x
  pub mark₄ : Good₃ N t s → (x : Column N) → AllFinite N 0 t x → Sound₄ N (run₃ N t s).tiles (run₃ N t s).rows t x ↔ Soundᵇ₄ N b (runᵇ₃ N b t (opened N s)).tiles (runᵇ₃ N b t (opened N s)).slice (runᵇ₃ N b t (opened N s)).rows t x
