-- std's test is the definition's, for either variant. Assumes nothing.
use mathlib.Core.Path.{◌≡◌, refl, ◌∙◌}
use Rattle.std.specs.Prelude.{Ok, Err, is_ok}
use Rattle.model.specs.Answer.{Answer}
use Rattle.answers.specs.Answers.{accepts}
use Rattle.answers.proofs.accepted.Goals as goal

same : (a : Answer) → is_ok a ≡ accepts a
unfolding accepts
same (Ok _) = refl
same (Err why) = refl

pub returns : goal.returns
returns c =
    c.is_ok.ensures.value ∙ same c.args.answer
