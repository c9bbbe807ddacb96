-- K5 for one T-3 and its T-4s, on tiles: with every b they leave what document 01's columns leave, and their marks are the same.
-- Assumes nothing.
use Rattle.std.specs.Prelude.{ℕ, zero, suc, ◌*◌, ◌≤◌, ◌<◌, List, ◌≡◌, length, get_or, true, ◌↔◌, Float}
use Rattle.model.specs.Lists.{every}
use Rattle.model.specs.Num.{finite}
use Rattle.model.specs.Tile.{at, zeros}
use Rattle.model.specs.Column.{Coupled, Paired, couple_column, couple_computes, pair_column, pair_computes}
use Rattle.inner_tiles.specs.Inner.{Inner, inner_couple_column, inner_couple_computes, inner_pair_column, inner_pair_computes}

-- all columns before n
unfoldable pub couple_columns : ℕ → ℕ → Coupled → Coupled
couple_columns t zero s = s
couple_columns t (suc c) s = couple_column t c (couple_columns t c s)

unfoldable pub inner_couple_columns : ℕ → ℕ → ℕ → Inner → Inner
inner_couple_columns t b zero s = s
inner_couple_columns t b (suc c) s = inner_couple_column t b c (inner_couple_columns t b c s)

unfoldable pub pair_columns : ℕ → ℕ → List Float → List ℕ → ℕ → Paired → Paired
pair_columns t w l p zero s = s
pair_columns t w l p (suc c) s = pair_column t w c l p (pair_columns t w l p c s)

unfoldable pub inner_pair_columns : ℕ → ℕ → ℕ → List Float → List Float → List ℕ → ℕ → Paired → Paired
inner_pair_columns t w b l sl p zero s = s
inner_pair_columns t w b l sl p (suc c) s = inner_pair_column t w b c l sl p (inner_pair_columns t w b l sl p c s)

-- the slice is +0 at the start
abbrev pub opened : ℕ → ℕ → Coupled → Inner
opened t b s = record { upper = s.upper; lower = s.lower; slice = zeros (t * b); rows = s.rows }

-- what T-3 leaves with b, and by document 01
abbrev pub after_inner : ℕ → ℕ → Coupled → Inner
after_inner b t s = inner_couple_columns t b t (opened t b s)

abbrev pub after_couple : ℕ → Coupled → Coupled
after_couple t s = couple_columns t t s

pub record Sized (t : ℕ) (s : Coupled) : Type 0 where
  pub upper : length s.upper ≡ t * t
  pub lower : length s.lower ≡ t * t
  pub rows : length s.rows ≡ t
  pub entries : (c : ℕ) → c < t → get_or s.rows c 0 ≤ t

pub record InnerSize (t b : ℕ) (s : Inner) : Type 0 where
  pub upper : length s.upper ≡ t * t
  pub lower : length s.lower ≡ t * t
  pub slice : length s.slice ≡ t * b
  pub rows : length s.rows ≡ t

-- T-3 leaves the same upper tile and list
pub record Same (b t : ℕ) (s : Coupled) : Type 0 where
  pub upper : (after_inner b t s).upper ≡ (after_couple t s).upper
  pub rows : (after_inner b t s).rows ≡ (after_couple t s).rows

-- T-4 by what T-3 left, on an upper and a lower block of width w, leaves the same two blocks
pub record Same₄ (b t w : ℕ) (s : Coupled) (x : Paired) : Type 0 where
  pub upper : (inner_pair_columns t w b (after_inner b t s).lower (after_inner b t s).slice (after_inner b t s).rows t x).upper ≡ (pair_columns t w (after_couple t s).lower (after_couple t s).rows t x).upper
  pub lower : (inner_pair_columns t w b (after_inner b t s).lower (after_inner b t s).slice (after_inner b t s).rows t x).lower ≡ (pair_columns t w (after_couple t s).lower (after_couple t s).rows t x).lower

-- ---- marks by what each column leaves

abbrev pub FiniteBlock : ℕ → ℕ → List Float → Type 0
FiniteBlock t w l = (r q : ℕ) → r < t → q < w → finite (at w l r q) ≡ true

-- T-3 is done: after every column all numbers of both tiles are finite
pub record Done₃ (t : ℕ) (s : Coupled) : Type 0 where
  pub upper : (c : ℕ) → c < t → FiniteBlock t t (couple_columns t (suc c) s).upper
  pub lower : (c : ℕ) → c < t → FiniteBlock t t (couple_columns t (suc c) s).lower

pub record Doneᵇ₃ (b t : ℕ) (s : Coupled) : Type 0 where
  pub upper : (c : ℕ) → c < t → FiniteBlock t t (inner_couple_columns t b (suc c) (opened t b s)).upper
  pub lower : (c : ℕ) → c < t → FiniteBlock t t (inner_couple_columns t b (suc c) (opened t b s)).lower

pub record Done₄ (t w : ℕ) (l : List Float) (p : List ℕ) (x : Paired) : Type 0 where
  pub upper : (c : ℕ) → c < t → FiniteBlock t w (pair_columns t w l p (suc c) x).upper
  pub lower : (c : ℕ) → c < t → FiniteBlock t w (pair_columns t w l p (suc c) x).lower

pub record Doneᵇ₄ (b t w : ℕ) (l sl : List Float) (p : List ℕ) (x : Paired) : Type 0 where
  pub upper : (c : ℕ) → c < t → FiniteBlock t w (inner_pair_columns t w b l sl p (suc c) x).upper
  pub lower : (c : ℕ) → c < t → FiniteBlock t w (inner_pair_columns t w b l sl p (suc c) x).lower

pub record Leaves (b t : ℕ) (s : Coupled) : Type 0 where
  pub mark : Done₃ t s ↔ Doneᵇ₃ b t s
  pub third_same : Done₃ t s → Same b t s
  pub fourth_same : Done₃ t s → (w : ℕ) (x : Paired) → length x.upper ≡ t * w → length x.lower ≡ t * w → Same₄ b t w s x
  pub fourth_mark : Done₃ t s → (w : ℕ) (x : Paired) → FiniteBlock t w x.upper → FiniteBlock t w x.lower
      → Done₄ t w (after_couple t s).lower (after_couple t s).rows x ↔ Doneᵇ₄ b t w (after_inner b t s).lower (after_inner b t s).slice (after_inner b t s).rows x

-- ---- marks as tasks get them: every number that a column computes is finite

abbrev pub SoundCouple : ℕ → Coupled → Type 0
SoundCouple t s = (c : ℕ) → c < t → every finite (couple_computes t c (couple_columns t c s)) ≡ true

abbrev pub SoundInnerCouple : ℕ → ℕ → Coupled → Type 0
SoundInnerCouple b t s = (c : ℕ) → c < t → every finite (inner_couple_computes t b c (inner_couple_columns t b c (opened t b s))) ≡ true

abbrev pub SoundPair : ℕ → ℕ → List Float → List ℕ → Paired → Type 0
SoundPair t w l p x = (c : ℕ) → c < t → every finite (pair_computes t w c l p (pair_columns t w l p c x)) ≡ true

abbrev pub SoundInnerPair : ℕ → ℕ → ℕ → List Float → List Float → List ℕ → Paired → Type 0
SoundInnerPair b t w l sl p x = (c : ℕ) → c < t → every finite (inner_pair_computes t w b c l sl p (inner_pair_columns t w b l sl p c x)) ≡ true

pub record Tasks (b t : ℕ) (s : Coupled) : Type 0 where
  pub mark : SoundCouple t s ↔ SoundInnerCouple b t s
  pub third_same : SoundCouple t s → Same b t s
  pub fourth_same : SoundCouple t s → (w : ℕ) (x : Paired) → length x.upper ≡ t * w → length x.lower ≡ t * w → Same₄ b t w s x
  pub fourth_mark : SoundCouple t s → (w : ℕ) (x : Paired) → FiniteBlock t w x.upper → FiniteBlock t w x.lower
      → SoundPair t w (after_couple t s).lower (after_couple t s).rows x ↔ SoundInnerPair b t w (after_inner b t s).lower (after_inner b t s).slice (after_inner b t s).rows x
