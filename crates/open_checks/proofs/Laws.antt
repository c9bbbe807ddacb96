-- The opening's answer, refusal by refusal. Assumes nothing.
use Prim.Native.Nat.{ℕ}
use mathlib.Core.Bool.{Bool, true, false, not, cond}
use mathlib.Core.Path.{◌≡◌, refl, sym, ◌∙◌}
use mathlib.Core.List.{List}
use native.Mathlib.Omega.{arith}
use lib.Ieee.{Float}
use Rattle.model.specs.declared.Sizes.{Sizes}
use Rattle.worker.specs.declared.Worker.{Worker}
use Rattle.std.specs.Prelude.{Some, None, Option}
use Rattle.model.specs.Answer.{accepted, refused_by}
use Rattle.model.specs.declared.Rule.TheVariants.{BadSizes, BadLengths, NotFinite}
use Rattle.model.specs.Tile.{all_finite}
use Rattle.model.specs.Plan.{plan_of}
use Rattle.model.specs.Calls.{Lent}
use Rattle.model.specs.Refusal.{refuse, bad_sizes, bad_lengths, first_not_finite, open_answer}
use Rattle.records.specs.Records.{lent}
use Rattle.answers.proofs.Refusals.{refuses, passes}

module _ (z : Sizes) (numbers : List Float) (l : List ℕ) (rs : List (List ℕ)) (slots : List Worker) (count number : ℕ) where
  abbrev s : Lent
  s = lent numbers l rs slots count number

  pub answer_1 : (a : Bool) → a ≡ bad_sizes z → a ≡ true → refused_by BadSizes 0 ≡ open_answer z s
  unfolding open_answer
  answer_1 a e q = sym (refuses BadSizes 0 (bad_sizes z) _ (sym e ∙ q))

  module _ (a : Bool) (e : a ≡ bad_sizes z) (q : a ≡ false) where
    pub answer_2 : (b : Bool) → b ≡ bad_lengths (plan_of z) z.workers s → b ≡ true → refused_by BadLengths 0 ≡ open_answer z s
    unfolding open_answer
    answer_2 b f r = sym (passes BadSizes 0 (bad_sizes z) _ (sym e ∙ q) ∙ refuses BadLengths 0 (bad_lengths (plan_of z) z.workers s) _ (sym f ∙ r))

    module _ (b : Bool) (f : b ≡ bad_lengths (plan_of z) z.workers s) (r : b ≡ false) where
      last : refuse NotFinite (first_not_finite numbers) (not (all_finite numbers)) accepted ≡ open_answer z s
      unfolding open_answer lent
      last = sym (passes BadSizes 0 (bad_sizes z) _ (sym e ∙ q) ∙ passes BadLengths 0 (bad_lengths (plan_of z) z.workers s) _ (sym f ∙ r))

      pub answer_3 : (g : Option ℕ) (x : ℕ) → g ≡ cond (all_finite numbers) None (Some (first_not_finite numbers)) → g ≡ Some x → refused_by NotFinite x ≡ open_answer z s
      unfolding refuse
      answer_3 g x h k = go (all_finite numbers) h ∙ last
        where
          go : (c : Bool) → g ≡ cond c None (Some (first_not_finite numbers)) → refused_by NotFinite x ≡ refuse NotFinite (first_not_finite numbers) (not c) accepted
          go true h = let y : ◌≡◌ {A = ℕ} 0 1 = cc in absurd (omega arith)
          go false h = cc

      pub answer_4 : (g : Option ℕ) → g ≡ cond (all_finite numbers) None (Some (first_not_finite numbers)) → g ≡ None → accepted ≡ open_answer z s
      unfolding refuse
      answer_4 g h k = go (all_finite numbers) h ∙ last
        where
          go : (c : Bool) → g ≡ cond c None (Some (first_not_finite numbers)) → accepted ≡ refuse NotFinite (first_not_finite numbers) (not c) accepted
          go true h = refl
          go false h = let y : ◌≡◌ {A = ℕ} 0 1 = cc in absurd (omega arith)
