-- What a contract states of solving a system told z. Assumes nothing.
use Rattle.std.specs.Prelude.{ℕ, ◌≡◌, true, ◌⊎◌, List, length, Float}
use Rattle.model.specs.declared.Sizes.{Sizes}
use Rattle.model.specs.Answer.{rule_number, accepted, refused_by}
use Rattle.model.specs.declared.Rule.TheVariants.{NotSolved}
use Rattle.model.specs.declared.Outcome.TheVariants.{Good}
use Rattle.model.specs.Tile.{all_finite}
use Rattle.model.specs.Plan.{plan_of, order}
use Rattle.model.specs.Loops.{outcome}
use Rattle.model.specs.Calls.{Lent, state_of, all_finished}
use Rattle.model.specs.Refusal.{run_answer}
use Rattle.model.specs.Solve.{solve_call}
use Rattle.model.specs.History.{Call}
use Rattle.demand.specs.Demand.{end}
use Rattle.demand.specs.Promise.{TwoOpenings}

-- a finished system with a good outcome, of which nothing is damaged, and a finite right side b and answers x as long as its order
pub record GoodSystem (z : Sizes) (s : Lent) (b x : List Float) : Type 0 where
  pub undamaged : run_answer z s ≡ accepted
  pub finished : all_finished (plan_of z) s ≡ true
  pub good : outcome (plan_of z) (state_of s) ≡ Good
  pub right_long : length b ≡ order (plan_of z)
  pub answers_long : length x ≡ order (plan_of z)
  pub right_finite : all_finite b ≡ true

pub record Solves (z : Sizes) : Type 0 where
  -- whichever calls finished the factorization, and with however many workers, the answer and the answers are the same
  pub any_calls : (y : Sizes) (s r : Lent) (cs ds : List Call) → TwoOpenings z y s r cs ds → (b x : List Float) → solve_call z (end z s cs) b x ≡ solve_call y (end y r ds) b x
  -- only a computed number that isn't finite refuses a good system: refusal 11
  pub only_11 : (s : Lent) (b x : List Float) → GoodSystem z s b x → ((solve_call z s b x).answer ≡ accepted) ⊎ ((p : ℕ) × (((solve_call z s b x).answer ≡ refused_by NotSolved p) × (rule_number NotSolved ≡ 11)))
