-- The refusals that a take, a column and a run share, and what is lent where none of them holds. Assumes nothing.
use Rattle.std.specs.Prelude.{ℕ, ◌≡◌, false, List, Float}
use Rattle.model.specs.declared.Sizes.{Sizes}
use Rattle.worker.specs.declared.Worker.{Worker}
use Rattle.model.specs.Answer.{Answer, accepted}
use Rattle.model.specs.declared.Rule.TheVariants.{BadSizes, BadLengths, Damaged}
use Rattle.model.specs.Lengths.{LentFits}
use Rattle.model.specs.Plan.{plan_of}
use Rattle.model.specs.Calls.{Lent}
use Rattle.model.specs.Refusal.{refuse, ◌otherwise◌, bad_sizes, bad_lengths, damaged}
use Rattle.records.specs.Records.{lent}
use Rattle.checks.specs.Checks.{Sized}

-- refusals 1, 2 and 4 but for elements
unfoldable pub state_answer : Sizes → Lent → Answer
state_answer z s =
    refuse BadSizes 0 (bad_sizes z)
    otherwise refuse BadLengths 0 (bad_lengths (plan_of z) z.workers s)
    otherwise refuse Damaged 0 (damaged (plan_of z) s)
    otherwise accepted

-- sizes in their ranges, lengths as stated, and nothing damaged
pub record Undamaged (z : Sizes) (m : List Float) (l : List ℕ) (r : List (List ℕ)) (ws : List Worker) (number : ℕ) : Type 0 where
  pub sizes : Sized z
  pub lengths : LentFits z m l r
  pub undamaged : damaged (plan_of z) (lent m l r ws z.workers number) ≡ false
