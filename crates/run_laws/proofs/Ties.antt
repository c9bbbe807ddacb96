-- How many ties there can be: a search has fewer than candidates, a column at most t. Assumes nothing.
use Prim.Native.Nat.{ℕ, suc, ◌+◌, ◌-◌, ◌≤◌}
use mathlib.Core.Path.{◌≡◌}
use mathlib.Core.Bool.{Bool, true, false, cond, not, ◌&&◌}
use mathlib.Core.List.{List, [], ◌∷◌, map}
use native.Mathlib.Omega.{arith}
use lib.Dec.{eqb}
use lib.Ieee.{Float}
use lib.ListN.{length}
use Rattle.model.specs.declared.Pivot.{Pivot}
use Rattle.model.specs.Lists.{run, below}
use Rattle.model.specs.Num.{is_zero, exceeds, same_magnitude}
use Rattle.model.specs.Tile.{at}
use Rattle.model.specs.Column.{candidate, tied, better, search_from, search, factor_candidates, factor_pivot, couple_candidates, couple_pivot}
use Rattle.model.specs.Task.{Task, t_1, t_2, t_3, t_4}
use Rattle.model.specs.Plan.{Plan}
use Rattle.model.specs.Links.{task, taken, done, failed, spoiled, spoils}
use Rattle.model.specs.Buffer.{Buffers, Ended, worked, filled, column_ties, sound, column_ends}
use Rattle.model.specs.Calls.{Lent, marks_of, column_of}
use Rattle.laws.proofs.Runs.{length_map_run}

better_ties : (n : ℕ) (p : Pivot) (x : Float) → (better p n x).ties ≤ suc p.ties
unfolding better tied
better_ties n p x = go (exceeds x p.magnitude) (same_magnitude x p.magnitude && not (is_zero p.magnitude))
  where
    more : (a : Bool) → cond a (suc p.ties) p.ties ≤ suc p.ties
    more true = omega arith
    more false = omega arith

    go : (b a : Bool) → (cond b (candidate n x) (record { place = p.place; magnitude = p.magnitude; ties = cond a (suc p.ties) p.ties })).ties ≤ suc p.ties
    go true a = omega arith
    go false a = more a

ties_from_lem : (n : ℕ) (p : Pivot) (xs : List Float) → (search_from n p xs).ties ≤ p.ties + length xs
unfolding search_from
ties_from_lem n p [] = omega arith
ties_from_lem n p (x ∷ xs) = omega (arith, ties_from_lem (suc n) (better p n x) xs, better_ties n p x)

search_ties : (m : ℕ) (xs : List Float) → length xs ≤ suc m → (search xs).ties ≤ m
unfolding search
search_ties m [] l = omega arith
search_ties m (x ∷ xs) l = omega (arith, ties_from_lem 1 (candidate 0 x) xs)

module _ (t c : ℕ) where
  factor_ties : (a : List Float) → (factor_pivot t c a).ties ≤ t
  unfolding factor_pivot factor_candidates
  factor_ties a =
      let l : length (map (λ r. at t a r c) (run c (t - c))) ≡ t - c = length_map_run _ c (t - c) in
      search_ties t (map (λ r. at t a r c) (run c (t - c))) (omega arith)

  couple_ties : (u d : List Float) → (couple_pivot t c u d).ties ≤ t
  unfolding couple_pivot couple_candidates below
  couple_ties u d =
      let l : length (map (λ r. at t d r c) (run 0 t)) ≡ t = length_map_run _ 0 t in
      search_ties t (at t u c c ∷ map (λ r. at t d r c) (run 0 t)) (omega arith)

module _ (z : Plan) where
  pub ties_most : (a : Task) (c : ℕ) (s : Buffers) → column_ties z a c s ≤ z.t
  unfolding column_ties
  ties_most (t_1 k) c s = factor_ties z.t c _
  ties_most (t_2 k j) c s = omega arith
  ties_most (t_3 k i) c s = couple_ties z.t c _ _
  ties_most (t_4 k i j) c s = omega arith

  pub column_ties_most : (s : Lent) (p c : ℕ) → (column_of z s p c).ties ≤ z.t
  unfolding column_of column_ends
  column_ties_most s p c = go (eqb c 0 && spoils z.tasks (marks_of s) p) (sound z (task z.tasks p) c s.buffers)
    where
      a : Task
      a = task z.tasks p

      spoilt : Ended
      spoilt = record { left = filled z a s.buffers; mark = spoiled; ties = 0 }

      good : Ended
      good = record { left = worked z a c s.buffers; mark = cond (eqb (suc c) z.t) done taken; ties = column_ties z a c s.buffers }

      bad : Ended
      bad = record { left = filled z a (worked z a c s.buffers); mark = failed; ties = 0 }

      go : (b d : Bool) → (elim b as (λ q. Ended) [ true ↦ spoilt | false ↦ elim d as (λ q. Ended) [ true ↦ good | false ↦ bad ] ]).ties ≤ z.t
      go true d = omega arith
      go false true = ties_most a c s.buffers
      go false false = omega arith
