-- A run's first turn: no call is made, the turn is worker 0's, and the search begins at task 0. Assumes nothing.
use Prim.Native.Nat.{ℕ, ◌-◌}
use mathlib.Core.Path.{◌≡◌, ap, ◌∙◌}
use mathlib.Core.List.{List}
use native.Mathlib.Omega.{arith}
use lib.Ieee.{Float}
use Rattle.model.specs.declared.Sizes.{Sizes}
use Rattle.worker.specs.declared.Workers.{Workers}
use Rattle.model.specs.Answer.{accepted}
use Rattle.model.specs.declared.Rule.TheVariants.{BadSizes}
use Rattle.model.specs.Plan.{plan_of}
use Rattle.model.specs.Calls.{Lent, RunEnd, run_from, whole_run}
use Rattle.model.specs.Refusal.{bad_sizes, run_answer}
use Rattle.laws.proofs.Refusals.{passed}
use Rattle.records.specs.Records.{all_lent}
use Rattle.checks.proofs.Laws.{sized}
use Rattle.turns_from.specs.Underway.{Underway}

pub starts : (z : Sizes) (budget : ℕ) (m : List Float) (l : List ℕ) (r : List (List ℕ)) (ws : Workers) → run_answer z (all_lent m l r ws) ≡ accepted
    → Underway z budget m l r ws 0 0 0
unfolding run_answer
starts z budget m l r ws e =
    let s = sized z (passed BadSizes 0 (bad_sizes z) _ e).0 in
    record {
      accepted = e;
      none = λ q k. absurd (omega arith);
      reached = omega arith;
      turn_of = omega (arith, s.some_workers);
      within = omega arith;
    }

pub whole : (z : Sizes) (budget : ℕ) (s : Lent) (x : RunEnd) → x ≡ run_from (plan_of z) z.workers (budget - 0) 0 0 s → x ≡ whole_run (plan_of z) z.workers budget s
unfolding whole_run
whole z budget s x e = e ∙ ap (λ (b : ℕ). run_from (plan_of z) z.workers b 0 0 s) (omega arith)
