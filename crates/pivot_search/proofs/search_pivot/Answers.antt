-- `search_pivot` meets its contract: before each candidate the pivot carried is the best of those before it. Assumes nothing.
use mathlib.Core.Path.{◌≡◌, refl, sym, ap, ◌∙◌}
use mathlib.Core.Bool.{true}
use mathlib.Core.List.{List, [], ◌∷◌, ◌++◌}
use Prim.Native.Nat.{ℕ, zero, suc, ◌+◌, ◌*◌, ◌≤◌, ◌<◌}
use native.Mathlib.Numerals.{add-one}
use native.Mathlib.Omega.{arith}
use lib.ListN.{length, get_or}
use lib.Dec.{T}
use lib.Ieee.{Float, nan, binary64, fits}
use Rattle.model.specs.declared.Pivot.{Pivot}
use Rattle.model.specs.Lists.{run, below, table}
use Rattle.model.specs.Num.{magnitude}
use Rattle.model.specs.Tile.{all_finite}
use Rattle.model.specs.Best.{Best}
use Rattle.laws.proofs.Blocks.{length_table, get_or_table}
use Rattle.laws.proofs.Runs.{table_last}
use Rattle.laws.proofs.Finite.{finite_get, finite_all}
use Rattle.float_laws.proofs.Finite.{magnitude_twice}
use Rattle.float_laws.proofs.Search.{best_one, ties_fewer, searched}
use Rattle.pivot_search.specs.Candidates.{candidates}
use Rattle.pivot_search.proofs.search_pivot.Goals as goal

-- ---- the candidates

module _ (m : List Float) (first rest stride : ℕ) where
  how_many : (n : ℕ) → length (candidates m first rest stride n) ≡ n + 1
  unfolding candidates
  how_many n = ap suc (length_table n (λ i. get_or m (rest + i * stride) nan)) ∙ sym (add-one n)

  one_more : (i : ℕ) → candidates m first rest stride (i + 1) ≡ candidates m first rest stride i ++ get_or m (rest + i * stride) nan ∷ []
  unfolding candidates table
  one_more i = rw (add-one i, table_last (λ i. get_or m (rest + i * stride) nan) i)

  -- each candidate is a number of the matrix
  stands : (n j : ℕ) → j < n + 1 → (k : ℕ) × (get_or (candidates m first rest stride n) j nan ≡ get_or m k nan)
  unfolding candidates
  stands n zero h = (first, refl)
  stands n (suc j) h = (rest + j * stride, get_or_table n (λ i. get_or m (rest + i * stride) nan) j nan (omega arith))

  -- with fewer of them, those that there are stay the same
  fewer : (n i j : ℕ) → i ≤ n → j < i + 1 → get_or (candidates m first rest stride i) j nan ≡ get_or (candidates m first rest stride n) j nan
  unfolding candidates
  fewer n i zero h l = refl
  fewer n i (suc j) h l =
      get_or_table i (λ i. get_or m (rest + i * stride) nan) j nan (omega arith) ∙ sym (get_or_table n (λ i. get_or m (rest + i * stride) nan) j nan (omega arith))

  fine : (n i : ℕ) → i ≤ n → all_finite (candidates m first rest stride n) ≡ true → all_finite (candidates m first rest stride i) ≡ true
  fine n i h f =
      finite_all (candidates m first rest stride i)
      (λ j l. rw (fewer n i j h (omega (arith, how_many i))) (finite_get (candidates m first rest stride n) j f (omega (arith, how_many n, how_many i))))

  held : (n : ℕ) → ((k : ℕ) → T (fits binary64 (get_or m k nan))) → (j : ℕ) → j < length (candidates m first rest stride n) → T (fits binary64 (get_or (candidates m first rest stride n) j nan))
  held n g j h = let (k, e) = stands n j (omega (arith, how_many n)) in rw e (g k)

  begun : (b : Float) → b ≡ magnitude (get_or m first nan) → Best (candidates m first rest stride 0) (record { place = 0; magnitude = b; ties = 0 })
  unfolding candidates table below run
  begun b e = rw e (best_one (get_or m first nan))

-- what is carried has no sign

plain : (xs : List Float) (p : Pivot) → Best xs p → magnitude p.magnitude ≡ p.magnitude
plain xs p b = ap magnitude b.own ∙ magnitude_twice (get_or xs p.place nan) ∙ sym b.own

pub loop-i-init : goal.loop-i-init
loop-i-init c =
    let a = c.args in begun a.m.now a.first a.rest a.stride _ c.magnitude_of.ensures

pub keep_best-best-requires : goal.keep_best-best-requires
keep_best-best-requires c =
    let a = c.args in
    let l = c.loop-i in
    let few = ties_fewer (candidates a.m.now a.first a.rest a.stride l.i) l.best l.invariant in
    (plain _ l.best l.invariant, omega (arith, few, how_many a.m.now a.first a.rest a.stride l.i, c.requires.first_in_bounds))

pub loop-i-preserved : goal.loop-i-preserved
loop-i-preserved c =
    let a = c.args in
    let l = c.loop-i in
    let xs = candidates a.m.now a.first a.rest a.stride l.i in
    let before = fine a.m.now a.first a.rest a.stride a.count l.i (omega arith) c.requires.count_value in
    rw (one_more a.m.now a.first a.rest a.stride l.i) (c.keep_best-best.ensures.best_so_far xs (how_many a.m.now a.first a.rest a.stride l.i) before l.invariant)

pub returns : goal.returns
returns c =
    let a = c.args in
    let l = c.loop-i in
    let e : l.i ≡ a.count = omega arith in
    searched (candidates a.m.now a.first a.rest a.stride a.count) l.best (rw (← e) l.invariant) c.requires.count_value
    (held a.m.now a.first a.rest a.stride a.count c.type_inv.m)
