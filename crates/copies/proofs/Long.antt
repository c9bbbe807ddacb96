-- A call that is lent more records than any system has is refused, with 1 or 2, and nothing else decides. Assumes nothing.
use Prim.Native.Nat.{ℕ, ◌*◌, ◌≤◌}
use native.Mathlib.Omega.{arith}
use mathlib.Core.Bool.{Bool, true, false, not, ◌&&◌}
use mathlib.Core.Logic.{⊎_elim}
use mathlib.Core.Path.{◌≡◌, refl, sym, ap, ◌∙◌}
use mathlib.Core.List.{List}
use lib.Dec.{eqb}
use lib.Ieee.{Float}
use lib.ListN.{length}
use borrow.Author.Tests.{ne_eqb}
use Rattle.model.specs.declared.Sizes.{Sizes}
use Rattle.std.specs.Prelude.{Ok, Err}
use Rattle.model.specs.Answer.{Answer, OutcomeAnswer, RunAnswer, refused_by}
use Rattle.model.specs.declared.Rule.TheVariants.{BadSizes, BadLengths}
use Rattle.model.specs.declared.RunStop.TheVariants.{Finished}
use Rattle.model.specs.Task.{tasks}
use Rattle.model.specs.Plan.{plan, plan_of, order}
use Rattle.model.specs.Calls.{Lent, RunEnd, opened, took, advanced, whole_run}
use Rattle.model.specs.Refusal.{Reply, refuse, replied, run_replied, outcome_replied, bad_sizes, bad_lengths, open_answer, open_call, take_answer, take_call, column_answer, column_call, run_answer, run_call, outcome_found, outcome_call}
use Rattle.model.specs.Solve.{Answers, Passed, answered, solved, solve_answer, solve_call}
use Rattle.laws.proofs.Tests.{true_or_false, never, or_left}
use Rattle.task_counts.proofs.Laws.{few_tasks}
use Rattle.checks.proofs.Laws.{sized}
use Rattle.answers.proofs.Refusals.{refuses, passes}

-- the answer
abbrev pub told : Sizes → Answer
told z = refuse BadSizes 0 (bad_sizes z) (refused_by BadLengths 0)

-- as a run and an outcome have it
abbrev pub as_run : Answer → RunAnswer
as_run (Ok _) = Ok (Finished 0)
as_run (Err why) = Err why

abbrev pub run_told : Sizes → RunAnswer
run_told z = as_run (told z)

abbrev pub outcome_told : Sizes → OutcomeAnswer → OutcomeAnswer
outcome_told z r = outcome_replied (told z) r

third : (a r w : Bool) → r ≡ false → not (a && r && w) ≡ true
third true true w e = never refl e
third true false w e = refl
third false r w e = refl

module _ (s : Lent) (new : Lent) where
  kept_by : (b : Bool) → ◌≡◌ {A = Reply} (replied (refuse BadSizes 0 b (refused_by BadLengths 0)) s new) (record { answer = refuse BadSizes 0 b (refused_by BadLengths 0); left = s })
  unfolding refuse replied
  kept_by true = refl
  kept_by false = refl

run_kept_by : (s : Lent) (e : RunEnd) (b : Bool) → ◌≡◌ {A = RunEnd} (run_replied (refuse BadSizes 0 b (refused_by BadLengths 0)) s e) (record { answer = as_run (refuse BadSizes 0 b (refused_by BadLengths 0)); left = s })
unfolding refuse run_replied
run_kept_by s e true = refl
run_kept_by s e false = refl

outcome_by : (r k : OutcomeAnswer) (b : Bool) → outcome_replied (refuse BadSizes 0 b (refused_by BadLengths 0)) r ≡ outcome_replied (refuse BadSizes 0 b (refused_by BadLengths 0)) k
unfolding refuse outcome_replied
outcome_by r k true = refl
outcome_by r k false = refl

solve_kept_by : (x : List Float) (p : Passed) (b : Bool) → ◌≡◌ {A = Answers} (answered (refuse BadSizes 0 b (refused_by BadLengths 0)) x p) (record { answer = refuse BadSizes 0 b (refused_by BadLengths 0); left = x })
unfolding refuse answered
solve_kept_by x p true = refl
solve_kept_by x p false = refl

module _ (z : Sizes) (s : Lent) (long : 1497 ≤ length s.records) where
  bad_lengths_lem : bad_sizes z ≡ false → bad_lengths (plan_of z) z.workers s ≡ true
  unfolding bad_lengths plan order
  bad_lengths_lem e =
      let few : length (tasks z.tiles) ≤ 1496 = few_tasks z.tiles (sized z e).few_tiles in
      third (eqb (length s.buffers.matrix) (z.tiles * z.side * (z.tiles * z.side)) && eqb (length s.buffers.lists) (z.tiles * z.tiles * z.side)) (eqb (length s.records) (length (tasks z.tiles))) (eqb (length s.workers) z.workers) (ne_eqb (length s.records) (length (tasks z.tiles)) (λ q. absurd (omega (arith, few, long, q))))

  -- whatever the test of lengths is, where wrong lengths fail it
  chain_by : (b : Bool) (rest : Answer) → (bad_lengths (plan_of z) z.workers s ≡ true → b ≡ true) → refuse BadSizes 0 (bad_sizes z) (refuse BadLengths 0 b rest) ≡ told z
  chain_by b rest h =
      ⊎_elim
      (λ t. refuses BadSizes 0 (bad_sizes z) _ t ∙ sym (refuses BadSizes 0 (bad_sizes z) (refused_by BadLengths 0) t))
      (λ f. passes BadSizes 0 (bad_sizes z) _ f ∙ refuses BadLengths 0 b rest (h (bad_lengths_lem f)) ∙ sym (passes BadSizes 0 (bad_sizes z) (refused_by BadLengths 0) f))
      (true_or_false (bad_sizes z))

  chain : (rest : Answer) → refuse BadSizes 0 (bad_sizes z) (refuse BadLengths 0 (bad_lengths (plan_of z) z.workers s) rest) ≡ told z
  chain rest = chain_by (bad_lengths (plan_of z) z.workers s) rest (λ e. e)

  pub open_long : ◌≡◌ {A = Reply} (open_call z s) (record { answer = told z; left = s })
  unfolding open_call open_answer
  open_long = ap (λ a. replied a s (opened (plan_of z) z.workers s.buffers.matrix)) (chain _) ∙ kept_by s (opened (plan_of z) z.workers s.buffers.matrix) (bad_sizes z)

  pub take_long : (w p : ℕ) → ◌≡◌ {A = Reply} (take_call z w p s) (record { answer = told z; left = s })
  unfolding take_call take_answer
  take_long w p = ap (λ a. replied a s (took (plan_of z) w p s)) (chain _) ∙ kept_by s (took (plan_of z) w p s) (bad_sizes z)

  pub column_long : (w : ℕ) → ◌≡◌ {A = Reply} (column_call z w s) (record { answer = told z; left = s })
  unfolding column_call column_answer
  column_long w = ap (λ a. replied a s (advanced (plan_of z) w s)) (chain _) ∙ kept_by s (advanced (plan_of z) w s) (bad_sizes z)

  pub run_long : (budget : ℕ) → ◌≡◌ {A = RunEnd} (run_call z budget s) (record { answer = run_told z; left = s })
  unfolding run_call run_answer
  run_long budget = ap (λ a. run_replied a s (whole_run (plan_of z) z.workers budget s)) (chain _) ∙ run_kept_by s (whole_run (plan_of z) z.workers budget s) (bad_sizes z)

  pub outcome_long : (k : OutcomeAnswer) → outcome_call z s ≡ outcome_told z k
  unfolding outcome_call
  outcome_long k = ap (λ a. outcome_replied a (outcome_found z s)) (chain _) ∙ outcome_by (outcome_found z s) k (bad_sizes z)

  pub solve_long : (y x : List Float) → ◌≡◌ {A = Answers} (solve_call z s y x) (record { answer = told z; left = x })
  unfolding solve_call solve_answer
  solve_long y x = ap (λ a. answered a x (solved (plan_of z) s.buffers y)) (chain_by _ _ (or_left _ _)) ∙ solve_kept_by x (solved (plan_of z) s.buffers y) (bad_sizes z)
