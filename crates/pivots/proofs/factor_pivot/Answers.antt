-- `factor_pivot` meets its contract: the candidates are column c from row c on. Assumes nothing.
use mathlib.Core.Path.{◌≡◌, refl, ap, subst, ◌∙◌}
use mathlib.Core.List.{List}
use Prim.Native.Nat.{ℕ, suc, ◌+◌, ◌-◌, ◌*◌, ◌≤◌, ◌<◌}
use lib.ListN.{length}
use Rattle.model.specs.declared.Pivot.{Pivot}
use native.Mathlib.Omega.{arith}
use lib.Ieee.{Float}
use Rattle.model.specs.Tile.{all_finite}
use Rattle.model.specs.Lists.{part}
use Rattle.model.specs.Best.{Searched}
use Rattle.model.specs.Column.{factor_candidates}
use Rattle.column_laws.proofs.Pivots.{factor_candidates_lem, factor_finite, factor_length, factor_told}
use Rattle.pivot_search.specs.Candidates.{candidates}
use Rattle.pivots.proofs.factor_pivot.Goals as goal

-- the candidates of the search are the definition's, and what was searched is the best of them
module _ (t y a : ℕ) (h : y < t) (m : List Float) (room : a + t * t ≤ length m) where
  same : (first rest : ℕ) → first ≡ a + (y * t + y) → rest ≡ a + (suc y * t + y) → candidates m first rest t (t - (y + 1)) ≡ factor_candidates t y (part a (t * t) m)
  same first rest e f = factor_candidates_lem t y a h m room first rest (t - (y + 1)) (omega arith) e f

  searched : (p : Pivot) → Searched (candidates m (a + (y * t + y)) (a + ((y + 1) * t + y)) t (t - (y + 1))) p → Searched (factor_candidates t y (part a (t * t) m)) p
  searched p s = subst (λ (xs : List Float). Searched xs p) (same _ _ refl (omega arith)) s

pub search_pivot-best-requires-clause-count_value : goal.search_pivot-best-requires-clause-count_value
search_pivot-best-requires-clause-count_value c =
    let a = c.args in
    let h = c.requires.c_lt_t in
    let room = c.requires.block.room in
    ap all_finite (same a.t a.c a.a h.0 a.m.now room _ _ refl (omega arith)) ∙ factor_finite a.t a.c a.a h.0 a.m.now room h.1

pub overflow_add-result : goal.overflow_add-result
overflow_add-result c =
    let a = c.args in
    let h = c.requires.c_lt_t.0 in
    let b = c.requires.block in
    let s = searched a.t a.c a.a h a.m.now b.room c.search_pivot-best.result c.search_pivot-best.ensures in
    omega (arith, s.best.inside, factor_length a.t a.c a.a h a.m.now b.room, b.rows_most)

pub returns : goal.returns
returns c =
    let a = c.args in
    let h = c.requires.c_lt_t.0 in
    factor_told a.t a.c _ c.search_pivot-best.result _ (searched a.t a.c a.a h a.m.now c.requires.block.room c.search_pivot-best.result c.search_pivot-best.ensures) refl
