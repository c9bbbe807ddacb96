-- `couple_pivot` meets its contract: the candidates are the upper diagonal element and the lower column. Assumes nothing.
use mathlib.Core.Path.{refl, ap, subst, ◌∙◌}
use mathlib.Core.List.{List}
use lib.Ieee.{Float}
use Rattle.model.specs.Tile.{all_finite}
use Rattle.model.specs.Best.{Searched}
use Rattle.column_laws.proofs.Pivots.{couple_candidates_lem, couple_finite, couple_told}
use Rattle.pivots.proofs.couple_pivot.Goals as goal

pub search_pivot-requires-clause-count_value : goal.search_pivot-requires-clause-count_value
search_pivot-requires-clause-count_value c =
    let a = c.args in
    let b = c.requires.two_blocks in
    let f = c.requires.c_lt_t in
    ap all_finite (couple_candidates_lem a.t a.c a.u a.d f.0 a.m.now b.upper_room b.lower_room _ _ refl refl)
    ∙ couple_finite a.t a.c a.u a.d f.0 a.m.now b.upper_room b.lower_room f.1 f.2

pub returns : goal.returns
returns c =
    let a = c.args in
    let b = c.requires.two_blocks in
    let f = c.requires.c_lt_t in
    couple_told a.t a.c _ _ c.search_pivot.result
    (subst (λ (xs : List Float). Searched xs c.search_pivot.result) (couple_candidates_lem a.t a.c a.u a.d f.0 a.m.now b.upper_room b.lower_room _ _ refl refl) c.search_pivot.ensures)
