-- What a solve answers once refusals 1, 2 and 4 are passed, but for 11. Assumes nothing.
use Rattle.std.specs.Prelude.{not, List, length, eqb, Float}
use Rattle.model.specs.declared.Sizes.{Sizes}
use Rattle.model.specs.Answer.{Answer, accepted}
use Rattle.model.specs.declared.Rule.TheVariants.{NotFinite, NotFinished}
use Rattle.model.specs.Lists.{first_or}
use Rattle.model.specs.Tile.{all_finite}
use Rattle.model.specs.Plan.{plan_of}
use Rattle.model.specs.Loops.{outcome}
use Rattle.model.specs.Calls.{Lent, state_of}
use Rattle.model.specs.Refusal.{refuse, ◌otherwise◌, first_not_finite, unfinished}
use Rattle.model.specs.Solve.{unless_good}

unfoldable pub rest_answer : Sizes → Lent → List Float → Answer
rest_answer z s y =
    refuse NotFinished (first_or (unfinished (plan_of z) s) (λ p. p) 0) (not (eqb (length (unfinished (plan_of z) s)) 0))
    otherwise unless_good (outcome (plan_of z) (state_of s))
    otherwise refuse NotFinite (first_not_finite y) (not (all_finite y))
    otherwise accepted
