-- The tiles that a task touches are finite, one by one. Assumes nothing.
use mathlib.Core.Path.{◌≡◌}
use mathlib.Core.Bool.{Bool, true}
use mathlib.Core.List.{List, ◌∷◌}
use Prim.Native.Nat.{ℕ, ◌*◌}
use lib.Ieee.{Float}
use Rattle.model.specs.Lists.{every, part}
use Rattle.model.specs.Tile.{all_finite}
use Rattle.model.specs.Task.{t_1, t_2, t_3, t_4, Place, A, low, list, is_list, reads, writes, touches}
use Rattle.model.specs.Plan.{plan}
use Rattle.model.specs.Buffer.{tile, tile_of, finite_in, finite_tiles}
use Rattle.laws.proofs.Tests.{and_left, and_right}
use Rattle.column_laws.specs.Steps.{tile_start}

first : {X : Type 0} (p : X → Bool) (x : X) (xs : List X) → every p (x ∷ xs) ≡ true → p x ≡ true
unfolding every
first p x xs h = and_left (p x) (every p xs) h

rest : {X : Type 0} (p : X → Bool) (x : X) (xs : List X) → every p (x ∷ xs) ≡ true → every p xs ≡ true
unfolding every
rest p x xs h = and_right (p x) (every p xs) h

module _ (N t : ℕ) (m : List Float) (l : List ℕ) where
  -- tile (i,j) is finite
  abbrev pub FiniteAt : ℕ → ℕ → Type 0
  FiniteAt i j = all_finite (part (tile_start N t i j) (t * t) m) ≡ true

  fine : Place → Bool
  fine = finite_in (plan N t) (record { matrix = m; lists = l })

  tile_fine : (i j : ℕ) → fine (A i j) ≡ true → FiniteAt i j
  unfolding fine plan finite_in is_list tile_of tile
  tile_fine i j h = h

  low_fine : (k : ℕ) → fine (low k) ≡ true → FiniteAt k k
  unfolding fine plan finite_in is_list tile_of tile
  low_fine k h = h

  pub factor_touched : (k : ℕ) → finite_tiles (plan N t) (t_1 k) (record { matrix = m; lists = l }) ≡ true → FiniteAt k k
  unfolding finite_tiles touches reads writes fine
  factor_touched k h = tile_fine k k (first fine (A k k) _ h)

  pub apply_touched : (k j : ℕ) → finite_tiles (plan N t) (t_2 k j) (record { matrix = m; lists = l }) ≡ true → FiniteAt k k × FiniteAt k j
  unfolding finite_tiles touches reads writes fine
  apply_touched k j h =
      let p = rest fine (list k k) _ (rest fine (low k) _ h) in
      (low_fine k (first fine (low k) _ h), tile_fine k j (first fine (A k j) _ p))

  pub couple_touched : (k i : ℕ) → finite_tiles (plan N t) (t_3 k i) (record { matrix = m; lists = l }) ≡ true → FiniteAt k k × FiniteAt i k
  unfolding finite_tiles touches reads writes fine
  couple_touched k i h =
      let p = rest fine (A k k) _ h in
      (tile_fine k k (first fine (A k k) _ h), tile_fine i k (first fine (A i k) _ p))

  pub pair_touched : (k i j : ℕ) → finite_tiles (plan N t) (t_4 k i j) (record { matrix = m; lists = l }) ≡ true → FiniteAt i k × FiniteAt k j × FiniteAt i j
  unfolding finite_tiles touches reads writes fine
  pair_touched k i j h =
      let p = rest fine (list i k) _ (rest fine (A i k) _ h) in
      let q = rest fine (A k j) _ p in
      (tile_fine i k (first fine (A i k) _ h), tile_fine k j (first fine (A k j) _ p), tile_fine i j (first fine (A i j) _ q))
