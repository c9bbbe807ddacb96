-- The lists of the row one after the other. Assumes nothing.
use Rattle.std.proofs.Common.{ℕ, ◌+◌, ◌*◌, rules, ap, ◌∙◌}
use Rattle.std.proofs.lemmas.Iterator.{YieldsList-from_range}
use Rattle.std.proofs.lemmas.Iterator.Search.{any_from_yields_List}
use Rattle.model.specs.Lists.{run, some}
use Rattle.model.specs.Plan.{plan_of}
use Rattle.model.specs.Refusal.{bad_entry}
use Rattle.checks.specs.Checks.{lists_alone}
use Rattle.checks.proofs.Laws.{some_is_any, run_is_range}
use Rattle.entries.proofs.Laws.{lists_of_row}
use Rattle.entries.proofs.bad_row.Goals as goal

pub returns : goal.returns
returns c =
    let a = c.args in
    let z = a.z in
    let bad = λ (j : ℕ). some (bad_entry (plan_of z) (lists_alone a.lists.now)) (run ((a.i * z.tiles + j) * z.side) z.side) in
    any_from_yields_List bad _ _ _ c.any.ensures.ran (YieldsList-from_range 0 z.tiles z.tiles (search rules) (search rules)) (λ x b q k. (search rules, search rules))
    ∙ some_is_any bad _ ∙ ap (some bad) (run_is_range 0 z.tiles) ∙ lists_of_row z _ _
