-- The shared refusals one by one, what is sound where they pass, and calls that go on after them. Assumes nothing.
use Prim.Native.Nat.{ℕ}
use mathlib.Core.Bool.{Bool, true, false}
use mathlib.Core.Path.{◌≡◌, refl, sym, ap, subst, ◌∙◌}
use mathlib.Core.List.{List}
use lib.Ieee.{Float}
use Rattle.model.specs.declared.Sizes.{Sizes}
use Rattle.worker.specs.declared.Worker.{Worker}
use Rattle.model.specs.Answer.{Answer, accepted, refused_by}
use Rattle.model.specs.declared.Rule.TheVariants.{BadSizes, BadLengths, Damaged}
use Rattle.model.specs.Lengths.{LentFits}
use Rattle.model.specs.Plan.{plan_of}
use Rattle.model.specs.Calls.{Lent}
use Rattle.model.specs.Refusal.{refuse, bad_sizes, bad_lengths, damaged}
use Rattle.laws.proofs.Refusals.{passed}
use Rattle.laws.proofs.Tests.{never}
use Rattle.records.specs.Records.{lent}
use Rattle.checks.specs.Checks.{Sized}
use Rattle.checks.proofs.Laws.{sized}
use Rattle.answers.specs.Answers.{accepts}
use Rattle.answers.proofs.Refusals.{refuses, passes, lengths_fit, count_fits}
use Rattle.states.specs.States.{state_answer, Undamaged}

-- ---- one by one

module _ (z : Sizes) (m : List Float) (l : List ℕ) (r : List (List ℕ)) (ws : List Worker) (count number : ℕ) where
  abbrev old : Lent
  old = lent m l r ws count number

  pub answer_1 : (a : Bool) → a ≡ bad_sizes z → a ≡ true → refused_by BadSizes 0 ≡ state_answer z old
  unfolding state_answer
  answer_1 a e q = sym (refuses BadSizes 0 (bad_sizes z) _ (sym e ∙ q))

  module _ (a : Bool) (e : a ≡ bad_sizes z) (q : a ≡ false) where
    pub answer_2 : (b : Bool) → b ≡ bad_lengths (plan_of z) z.workers old → b ≡ true → refused_by BadLengths 0 ≡ state_answer z old
    unfolding state_answer
    answer_2 b f k = sym (passes BadSizes 0 (bad_sizes z) _ (sym e ∙ q) ∙ refuses BadLengths 0 (bad_lengths (plan_of z) z.workers old) _ (sym f ∙ k))

    module _ (b : Bool) (f : b ≡ bad_lengths (plan_of z) z.workers old) (k : b ≡ false) where
      last : refuse Damaged 0 (damaged (plan_of z) old) accepted ≡ state_answer z old
      unfolding state_answer
      last = sym (passes BadSizes 0 (bad_sizes z) _ (sym e ∙ q) ∙ passes BadLengths 0 (bad_lengths (plan_of z) z.workers old) _ (sym f ∙ k))

      pub checked : Sized z × LentFits z m l r
      checked = (sized z (sym e ∙ q), lengths_fit z m l r ws count number (sym f ∙ k))

      module _ (d : Bool) (g : d ≡ damaged (plan_of z) (lent m l r ws z.workers number)) where
        same : d ≡ damaged (plan_of z) old
        same = g ∙ ap (λ (n : ℕ). damaged (plan_of z) (lent m l r ws n number)) (sym (count_fits z m l r ws count number (sym f ∙ k)))

        pub answer_4 : d ≡ true → refused_by Damaged 0 ≡ state_answer z old
        answer_4 h = sym (refuses Damaged 0 (damaged (plan_of z) old) accepted (sym same ∙ h)) ∙ last

        pub answer_0 : d ≡ false → accepted ≡ state_answer z old
        answer_0 h = sym (passes Damaged 0 (damaged (plan_of z) old) accepted (sym same ∙ h)) ∙ last

  -- ---- all passed

  pub sound : state_answer z old ≡ accepted → (count ≡ z.workers) × Undamaged z m l r ws number
  unfolding state_answer
  sound e =
      let a = passed BadSizes 0 (bad_sizes z) _ e in
      let b = passed BadLengths 0 (bad_lengths (plan_of z) z.workers old) _ a.1 in
      let c = passed Damaged 0 (damaged (plan_of z) old) accepted b.1 in
      let n = count_fits z m l r ws count number b.0 in (
        n,
        record {
          sizes = sized z a.0;
          lengths = lengths_fit z m l r ws count number b.0;
          undamaged = subst (λ (k : ℕ). damaged (plan_of z) (lent m l r ws k number) ≡ false) n c.0;
        },
      )

-- ---- a call that goes on: its refusal 4 is given where something is damaged, and else where e says so

module _ (z : Sizes) (s : Lent) (d e : Bool) (worse : damaged (plan_of z) s ≡ true → d ≡ true) (else : damaged (plan_of z) s ≡ false → d ≡ e) (rest : Answer) where
  abbrev pub whole : Answer
  whole = refuse BadSizes 0 (bad_sizes z) (refuse BadLengths 0 (bad_lengths (plan_of z) z.workers s) (refuse Damaged 0 d rest))

  pub goes_on : state_answer z s ≡ accepted → refuse Damaged 0 e rest ≡ whole
  unfolding state_answer
  goes_on q =
      let a = passed BadSizes 0 (bad_sizes z) _ q in
      let b = passed BadLengths 0 (bad_lengths (plan_of z) z.workers s) _ a.1 in
      let c = passed Damaged 0 (damaged (plan_of z) s) accepted b.1 in
      sym (passes BadSizes 0 (bad_sizes z) _ a.0 ∙ passes BadLengths 0 (bad_lengths (plan_of z) z.workers s) _ b.0 ∙ ap (λ k. refuse Damaged 0 k rest) (else c.0))

  pub stops : accepts (state_answer z s) ≡ false → state_answer z s ≡ whole
  unfolding state_answer refuse accepts
  stops q = go (bad_sizes z) (bad_lengths (plan_of z) z.workers s) (damaged (plan_of z) s) d worse q
    where
      go : (a b c d : Bool) → (c ≡ true → d ≡ true) → accepts (refuse BadSizes 0 a (refuse BadLengths 0 b (refuse Damaged 0 c accepted))) ≡ false
          → refuse BadSizes 0 a (refuse BadLengths 0 b (refuse Damaged 0 c accepted)) ≡ refuse BadSizes 0 a (refuse BadLengths 0 b (refuse Damaged 0 d rest))
      go true b c d h q = refl
      go false true c d h q = refl
      go false false true d h q = rw (h refl)
      go false false false d h q = never refl q
