-- States that agree in their t rows and columns: what lies outside is no part of a tile, and a view of a list has anything there. Assumes nothing.
use Rattle.std.specs.Prelude.{ℕ, suc, ◌<◌, ◌≡◌}
use Rattle.inner_theory.specs.Setting.{Setting}
use Rattle.inner_theory.specs.Stack.{Place, Column}
use Rattle.inner_theory.specs.Columns.{col, Coupled, column₃, Blocked, columnᵇ₃}
use Rattle.inner_theory.specs.Sound.{Inside}

module _ (N : Setting) where
  abbrev pub Alike : ℕ → Column N → Column N → Type 0
  Alike t x y = (p : Place N.Row) → Inside 0 t p → x p ≡ y p

  pub record Alike₃ (t : ℕ) (s s' : Coupled N) : Type 0 where
    pub tiles : (q : ℕ) → q < t → Alike t (col N s.tiles q) (col N s'.tiles q)
    pub rows : (c : ℕ) → c < t → s.rows c ≡ s'.rows c

  pub record Alikeᵇ₃ (b t : ℕ) (s s' : Blocked N) : Type 0 where
    pub tiles : (q : ℕ) → q < t → Alike t (col N s.tiles q) (col N s'.tiles q)
    pub slice : (i p : ℕ) → i < t → p < b → s.slice i p ≡ s'.slice i p
    pub rows : (c : ℕ) → c < t → s.rows c ≡ s'.rows c

  -- a list of states that goes by T-3's columns, as far as tiles reach
  abbrev pub Follows₃ : ℕ → (ℕ → Coupled N) → Type 0
  Follows₃ t l = (c : ℕ) → c < t → Alike₃ t (l (suc c)) (column₃ N c (l c))

  abbrev pub Followsᵇ₃ : ℕ → ℕ → (ℕ → Blocked N) → Type 0
  Followsᵇ₃ b t l = (c : ℕ) → c < t → Alikeᵇ₃ b t (l (suc c)) (columnᵇ₃ N b c (l c))
