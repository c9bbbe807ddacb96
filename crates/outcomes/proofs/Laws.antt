-- The outcome call's answer, refusal by refusal. Assumes nothing.
use Prim.Native.Nat.{ℕ}
use mathlib.Core.Bool.{Bool, true, false, not}
use mathlib.Core.Path.{◌≡◌, sym, ap, ◌∙◌}
use mathlib.Core.List.{List}
use lib.Ieee.{Float}
use lib.ListN.{length}
use Rattle.model.specs.declared.Sizes.{Sizes}
use Rattle.worker.specs.declared.Worker.{Worker}
use Rattle.model.specs.declared.Outcome.{Outcome}
use Rattle.std.specs.Prelude.{Ok, Some, None, Option}
use Rattle.model.specs.Answer.{refused_by}
use Rattle.model.specs.declared.Rule.TheVariants.{BadSizes, BadLengths}
use Rattle.model.specs.declared.Standing.TheVariants.{Known, Unfinished}
use Rattle.model.specs.Lengths.{LentFits}
use Rattle.model.specs.Lists.{below, keep, first_or}
use Rattle.model.specs.Plan.{plan_of}
use Rattle.model.specs.Links.{mark, finished}
use Rattle.model.specs.Loops.{outcome}
use Rattle.model.specs.Calls.{Lent, marks_of, ties_of, state_of}
use Rattle.model.specs.Refusal.{outcome_replied, bad_sizes, bad_lengths, unfinished, outcome_found, outcome_call}
use Rattle.records.specs.Records.{marks_from, ties_from, lent}
use Rattle.answers.proofs.Refusals.{refuses, passes, lengths_fit}
use Rattle.unfinished.proofs.First.{from_at, from_none}
use Rattle.unfinished.proofs.Finished.{unfinished_is}

module _ (z : Sizes) (m : List Float) (l : List ℕ) (r : List (List ℕ)) (ws : List Worker) (count number : ℕ) where
  abbrev old : Lent
  old = lent m l r ws count number

  pub answer_1 : (a : Bool) → a ≡ bad_sizes z → a ≡ true → refused_by BadSizes 0 ≡ outcome_call z old
  unfolding outcome_call outcome_replied
  answer_1 a e q = ap (λ k. outcome_replied k (outcome_found z old)) (sym (refuses BadSizes 0 (bad_sizes z) _ (sym e ∙ q)))

  module _ (a : Bool) (e : a ≡ bad_sizes z) (q : a ≡ false) where
    pub answer_2 : (b : Bool) → b ≡ bad_lengths (plan_of z) z.workers old → b ≡ true → refused_by BadLengths 0 ≡ outcome_call z old
    unfolding outcome_call outcome_replied
    answer_2 b f p =
        ap (λ k. outcome_replied k (outcome_found z old)) (sym (passes BadSizes 0 (bad_sizes z) _ (sym e ∙ q) ∙ refuses BadLengths 0 (bad_lengths (plan_of z) z.workers old) _ (sym f ∙ p)))

    module _ (b : Bool) (f : b ≡ bad_lengths (plan_of z) z.workers old) (p : b ≡ false) where
      found_then : outcome_found z old ≡ outcome_call z old
      unfolding outcome_call outcome_replied
      found_then =
          ap (λ k. outcome_replied k (outcome_found z old)) (sym (passes BadSizes 0 (bad_sizes z) _ (sym e ∙ q) ∙ passes BadLengths 0 (bad_lengths (plan_of z) z.workers old) _ (sym f ∙ p)))

      pub fits : LentFits z m l r
      fits = lengths_fit z m l r ws count number (sym f ∙ p)

      abbrev open_tasks : ℕ → Bool
      open_tasks k = not (finished (mark (marks_from r) k))

      module _ (g : Option ℕ) (h : g ≡ first_or (keep open_tasks (below (length r))) Some None) where
        pub answer_3 : (k : ℕ) → g ≡ Some k → Ok (Unfinished k) ≡ outcome_call z old
        unfolding outcome_found
        answer_3 k i = sym (from_at (λ p. Ok (Unfinished p)) _ (unfinished (plan_of z) old) g k (h ∙ ap (λ xs. first_or xs Some None) (unfinished_is z m l r ws count number fits.records_fit)) i) ∙ found_then

        pub answer_4 : (o : Outcome) → g ≡ None → o ≡ outcome (plan_of z) (record { buffers = record { matrix = m; lists = l }; marks = marks_from r; ties = ties_from r }) → Ok (Known o) ≡ outcome_call z old
        unfolding outcome_found state_of marks_of ties_of lent marks_from ties_from
        answer_4 o i j =
            ap (λ o. Ok (Known o)) j ∙ sym (from_none (λ p. Ok (Unfinished p)) _ (unfinished (plan_of z) old) g (h ∙ ap (λ xs. first_or xs Some None) (unfinished_is z m l r ws count number fits.records_fit)) i) ∙ found_then
