-- The slots looked at are the workers. Assumes nothing.
use Rattle.std.proofs.Common.{take, rules, sym, ap, ◌∙◌, arith}
use Rattle.std.proofs.lemmas.Iterator.{YieldsList-from_slice}
use Rattle.std.proofs.lemmas.Iterator.Search.{any_from_yields_List}
use Rattle.model.specs.Lists.{some}
use Rattle.model.specs.Plan.{plan_of}
use Rattle.model.specs.Refusal.{bad_worker}
use Rattle.records.proofs.Laws.{first_slots}
use Rattle.checks.specs.Checks.{records_alone}
use Rattle.checks.proofs.Laws.{some_is_any}
use Rattle.workers.proofs.bad_workers.Goals as goal

pub returns : goal.returns
returns c =
    let a = c.args in
    let bad = bad_worker (plan_of a.z) (records_alone a.records.now) in
    any_from_yields_List bad _ _ _ c.any.ensures.ran (YieldsList-from_slice (take a.z.workers a.workers) (search rules)) (λ x b q k. (search rules, search rules))
    ∙ some_is_any bad _
    ∙ ap (some bad) (sym (first_slots a.workers a.z.workers (omega (arith, c.requires.0.few_workers))))
