-- K4, the pivot search keeps its best, and K7, it counts the ties: what is promised of the pivot that it carries along and tells. Assumes nothing.
use Rattle.std.specs.Prelude.{ℕ, suc, ◌+◌, ◌<◌, ◌≡◌, true, false, cond, not, ◌&&◌, List, [], ◌∷◌, ◌++◌, eqb, length, get_or, set, take, Float}
use Rattle.std.specs.Float.{nan}
use Rattle.model.specs.declared.Pivot.{Pivot}
use Rattle.model.specs.Lists.{below, every, keep}
use Rattle.model.specs.Num.{plus_zero, is_zero, magnitude, exceeds, same_magnitude}
use Rattle.model.specs.Tile.{all_finite}
use Rattle.model.specs.Column.{better, search, factor_candidates, factor_column, couple_candidates, couple_column}

-- the candidates other than the one at `place` that have the magnitude v
unfoldable pub others : ℕ → Float → List Float → List ℕ
others place v xs = keep (λ n. not (eqb n place) && same_magnitude (get_or xs n nan) v) (below (length xs))

-- p is the best of the candidates xs: it has the place of one of them and that one's magnitude, none has a larger one, and all before it have smaller ones
pub record Best (xs : List Float) (p : Pivot) : Type 0 where
  pub inside : p.place < length xs
  pub own : p.magnitude ≡ magnitude (get_or xs p.place nan)
  pub largest : (n : ℕ) → n < length xs → exceeds (get_or xs n nan) p.magnitude ≡ false
  pub first : (n : ℕ) → n < p.place → exceeds p.magnitude (get_or xs n nan) ≡ true
  -- K7: its ties are the other candidates with its magnitude; a zero counts as no tie
  pub ties : p.ties ≡ cond (is_zero p.magnitude) 0 (length (others p.place p.magnitude xs))

-- With the candidate x, which stands at `place`, the best so far is q where it was p before, whatever finite candidates x follows
abbrev pub BestSoFar : Pivot → ℕ → Float → Pivot → Type 0
BestSoFar p place x q = (xs : List Float) → length xs ≡ place → all_finite xs ≡ true → Best xs p → Best (xs ++ x ∷ []) q

-- p is what a search among the candidates xs finds
pub record Searched (xs : List Float) (p : Pivot) : Type 0 where
  pub found : p ≡ search xs
  -- the value carried along changes by the next candidate alone, and after each candidate it is the best so far
  pub carried : (n : ℕ) → suc n < length xs → search (take (suc (suc n)) xs) ≡ better (search (take (suc n) xs)) (suc n) (get_or xs (suc n) nan)
  pub so_far : (n : ℕ) → n < length xs → Best (take (suc n) xs) (search (take (suc n) xs))
  -- and so is what is found, of all
  pub best : Best xs p
  -- of zeros alone it is the first, with +0 and no tie
  pub zeros : every is_zero xs ≡ true → p ≡ record { place = 0; magnitude = plus_zero; ties = 0 }

-- p is what the search of column c tells: the candidates xs have the rows from `from` on, and the column makes `listed` of a row list
pub record Told (xs : List Float) (from c : ℕ) (listed : List ℕ → List ℕ) (p : Pivot) : Type 0 where
  pub told : p ≡ record { place = from + (search xs).place; magnitude = (search xs).magnitude; ties = (search xs).ties }
  pub best : Best xs (search xs)
  pub zeros : every is_zero xs ≡ true → p ≡ record { place = from; magnitude = plus_zero; ties = 0 }
  -- the row list records the row told, a pivot of zero's too
  pub recorded : (rows : List ℕ) → listed rows ≡ set rows c p.place

-- T-1 tells the tile's row
abbrev pub FactorTold : ℕ → ℕ → List Float → Pivot → Type 0
FactorTold t c a = Told (factor_candidates t c a) c c (λ rows. (factor_column t c (record { tile = a; rows = rows })).rows)

-- T-3 tells 0 for the upper tile's row c, r + 1 for row r of the lower tile
abbrev pub CoupleTold : ℕ → ℕ → List Float → List Float → Pivot → Type 0
CoupleTold t c u d = Told (couple_candidates t c u d) 0 c (λ rows. (couple_column t c (record { upper = u; lower = d; rows = rows })).rows)
