-- List entries in range: the place that a pivot search finds, and the lists that T-1 and T-3 leave.
-- Assumes nothing.
use Prim.Native.Nat.{ℕ, zero, suc, ◌+◌, ◌-◌, ◌≤◌, ◌<◌}
use mathlib.Core.Bool.{Bool, true, false, cond}
use mathlib.Core.Path.{◌≡◌}
use mathlib.Core.List.{List, [], ◌∷◌, map}
use native.Mathlib.Omega.{arith}
use lib.Ieee.{Float}
use lib.ListN.{length, get_or}
use lib.ListN as L
use Rattle.model.specs.declared.Pivot.{Pivot}
use Rattle.model.specs.Lists.{run, below}
use Rattle.model.specs.Num.{is_zero, exceeds}
use Rattle.model.specs.Tile.{at}
use Rattle.model.specs.Column.{Factored, Coupled, candidate, tied, better, search_from, search, factor_candidates, factor_pivot, factor_column, couple_candidates, couple_pivot, couple_column}
use Rattle.laws.proofs.Runs.{length_map_run}
use Rattle.cells.proofs.Choices.{either}

-- ---- the place of a pivot

better_place : (m n : ℕ) (p : Pivot) (x : Float) → p.place ≤ m → n ≤ m → (better p n x).place ≤ m
unfolding better tied
better_place m n p x h l = go (exceeds x p.magnitude)
  where
    go : (b : Bool) → (cond b (candidate n x) (tied p x)).place ≤ m
    go true = l
    go false = h

search_from_lem : (n m : ℕ) (p : Pivot) (xs : List Float) → p.place ≤ m → n + length xs ≤ suc m → (search_from n p xs).place ≤ m
unfolding search_from
search_from_lem n m p [] h l = h
search_from_lem n m p (x ∷ xs) h l = search_from_lem (suc n) m (better p n x) xs (better_place m n p x h (omega arith)) (omega arith)

search_place : (m : ℕ) (xs : List Float) → length xs ≤ suc m → (search xs).place ≤ m
unfolding search
search_place m [] l = omega arith
search_place m (x ∷ xs) l = search_from_lem 1 m (candidate 0 x) xs (omega arith) (omega arith)

module _ (t c : ℕ) where
  pub factor_place : c < t → (a : List Float) → c + (factor_pivot t c a).place < t
  unfolding factor_pivot factor_candidates
  factor_place h a =
      let l : length (map (λ r. at t a r c) (run c (t - c))) ≡ t - c = length_map_run _ c (t - c) in
      let k : (search (map (λ r. at t a r c) (run c (t - c)))).place ≤ t - c - 1 = search_place (t - c - 1) (map (λ r. at t a r c) (run c (t - c)))
      (omega arith) in
      omega arith

  pub couple_place : (u d : List Float) → (couple_pivot t c u d).place ≤ t
  unfolding couple_pivot couple_candidates below
  couple_place u d =
      let l : length (map (λ r. at t d r c) (run 0 t)) ≡ t = length_map_run _ 0 t in
      search_place t (at t u c c ∷ map (λ r. at t d r c) (run 0 t)) (omega arith)

-- ---- the entries of a list

abbrev pub AtMost : ℕ → List ℕ → Type 0
AtMost b xs = (e : ℕ) → get_or xs e 0 ≤ b

set_at_most : (b : ℕ) (xs : List ℕ) (i v : ℕ) → v ≤ b → AtMost b xs → AtMost b (L.set xs i v)
set_at_most b [] i v h l e = omega arith
set_at_most b (x ∷ xs) zero v h l zero = h
set_at_most b (x ∷ xs) zero v h l (suc e) = l (suc e)
set_at_most b (x ∷ xs) (suc i) v h l zero = l 0
set_at_most b (x ∷ xs) (suc i) v h l (suc e) = set_at_most b xs i v h (λ k. l (suc k)) e

module _ (t c : ℕ) (h : c < t) where
  pub factor_rows : (s : Factored) → AtMost (t - 1) s.rows → AtMost (t - 1) (factor_column t c s).rows
  unfolding factor_column
  factor_rows s l = either (λ (x : Factored). AtMost (t - 1) x.rows) (is_zero (factor_pivot t c s.tile).magnitude) _ _
      (set_at_most (t - 1) s.rows c c (omega arith) l)
      (set_at_most (t - 1) s.rows c (c + (factor_pivot t c s.tile).place) (omega (arith, factor_place t c h s.tile)) l)

  pub couple_rows : (s : Coupled) → AtMost t s.rows → AtMost t (couple_column t c s).rows
  unfolding couple_column
  couple_rows s l = either (λ (x : Coupled). AtMost t x.rows) (is_zero (couple_pivot t c s.upper s.lower).magnitude) _ _
      (set_at_most t s.rows c 0 (omega arith) l)
      (set_at_most t s.rows c (couple_pivot t c s.upper s.lower).place (couple_place t c s.upper s.lower) l)
