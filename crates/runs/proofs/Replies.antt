-- What a run replies. Assumes nothing.
use Prim.Native.Nat.{ℕ}
use mathlib.Core.Path.{◌≡◌, sym, ap, ◌∙◌}
use Rattle.model.specs.declared.Sizes.{Sizes}
use Rattle.std.specs.Prelude.{Err}
use Rattle.model.specs.Answer.{Answer, accepted}
use Rattle.model.specs.declared.Refusal.{Refusal}
use Rattle.model.specs.Plan.{plan_of}
use Rattle.model.specs.Calls.{Lent, RunEnd, whole_run}
use Rattle.model.specs.Refusal.{run_replied, run_answer, run_call}

module _ (z : Sizes) (budget : ℕ) (s : Lent) (a : Answer) (e : a ≡ run_answer z s) where
  pub refused : (why : Refusal) → a ≡ Err why → ◌≡◌ {A = RunEnd} (record { answer = Err why; left = s }) (run_call z budget s)
  unfolding run_call run_replied
  refused why q = ap (λ (x : Answer). run_replied x s (whole_run (plan_of z) z.workers budget s)) (sym q ∙ e)

  pub accepted_lem : a ≡ accepted → whole_run (plan_of z) z.workers budget s ≡ run_call z budget s
  unfolding run_call run_replied
  accepted_lem q = ap (λ (x : Answer). run_replied x s (whole_run (plan_of z) z.workers budget s)) (sym q ∙ e)
