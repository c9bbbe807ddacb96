-- T-3's mark by what each column leaves, for numbers of which no update makes a finite one of one that isn't. Assumes nothing.
use Rattle.std.specs.Prelude.{ℕ, suc, ◌<◌, true, ◌≡◌}
use Rattle.inner_theory.specs.Setting.{Setting}
use Rattle.inner_theory.specs.Columns.{col, Coupled, run₃, runᵇ₃}
use Rattle.inner_theory.specs.Sound.{AllFinite}
use Rattle.inner_theory.specs.Theorem.{opened}

module _ (N : Setting) where
  abbrev pub Keeps : Type 0
  Keeps = (x m y : N.Num) → N.finite (N.update x m y) ≡ true → N.finite x ≡ true

  -- after every column, all numbers of the two tiles are finite
  abbrev pub Clean₃ : ℕ → Coupled N → Type 0
  Clean₃ t s = (c : ℕ) → c < t → (q : ℕ) → q < t → AllFinite N 0 t (col N (run₃ N (suc c) s).tiles q)

  abbrev pub Cleanᵇ₃ : ℕ → ℕ → Coupled N → Type 0
  Cleanᵇ₃ b t s = (c : ℕ) → c < t → (q : ℕ) → q < t → AllFinite N 0 t (col N (runᵇ₃ N b (suc c) (opened N s)).tiles q)
