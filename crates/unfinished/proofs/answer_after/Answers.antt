-- By whether every task is finished. Assumes nothing.
use mathlib.Core.Bool.{cond}
use mathlib.Core.Path.{sym, ap, ◌∙◌}
use Rattle.std.specs.Prelude.{Ok}
use Rattle.model.specs.declared.RunStop.TheVariants.{Finished, Spent}
use Rattle.unfinished.proofs.answer_after.Goals as goal

pub returns-then-all_finished : goal.returns-then-all_finished
returns-then-all_finished c =
    let n = c.args.n in ap (λ b. cond b (Ok (Finished n)) (Ok (Spent n))) (sym c.if-all_finished.true ∙ c.all_finished.ensures)

pub returns : goal.returns
returns c =
    let n = c.args.n in ap (λ b. cond b (Ok (Finished n)) (Ok (Spent n))) (sym c.if-all_finished.false ∙ c.all_finished.ensures)
