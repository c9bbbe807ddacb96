-- A run's answer: the shared refusals, then that of an element. Assumes nothing.
use Prim.Native.Nat.{ℕ}
use mathlib.Core.Bool.{Bool, true, false, not, ◌||◌}
use mathlib.Core.Path.{◌≡◌, sym, ap, ◌∙◌}
use mathlib.Core.List.{List}
use lib.Ieee.{Float}
use Rattle.model.specs.declared.Sizes.{Sizes}
use Rattle.worker.specs.declared.Worker.{Worker}
use Rattle.model.specs.Answer.{Answer, accepted, refused_by}
use Rattle.model.specs.declared.Rule.TheVariants.{Damaged}
use Rattle.model.specs.Tile.{all_finite}
use Rattle.model.specs.Plan.{plan_of}
use Rattle.model.specs.Calls.{Lent}
use Rattle.model.specs.Refusal.{refuse, damaged, run_answer}
use Rattle.records.specs.Records.{lent}
use Rattle.answers.specs.Answers.{accepts}
use Rattle.answers.proofs.Refusals.{refuses, passes, is_accepted}
use Rattle.states.specs.States.{state_answer}
use Rattle.states.proofs.Laws.{goes_on, stops}

module _ (z : Sizes) (m : List Float) (l : List ℕ) (r : List (List ℕ)) (ws : List Worker) (count number : ℕ) where
  abbrev s : Lent
  s = lent m l r ws count number

  abbrev bad : Bool
  bad = damaged (plan_of z) s || not (all_finite m)

  worse : damaged (plan_of z) s ≡ true → bad ≡ true
  worse h = rw h

  else : damaged (plan_of z) s ≡ false → bad ≡ not (all_finite m)
  else h = rw h

  module _ (a : Answer) (e : a ≡ state_answer z s) (b : Bool) (f : b ≡ accepts a) where
    pub state_stops : b ≡ false → a ≡ run_answer z s
    unfolding run_answer lent
    state_stops q = e ∙ stops z s bad (not (all_finite m)) worse else accepted (ap accepts (sym e) ∙ sym f ∙ q)

    module _ (q : b ≡ true) (x : Bool) (i : x ≡ all_finite m) where
      after : refuse Damaged 0 (not (all_finite m)) accepted ≡ run_answer z s
      unfolding run_answer lent
      after = goes_on z s bad (not (all_finite m)) worse else accepted (sym e ∙ is_accepted a b f q)

      pub element_stops : x ≡ false → refused_by Damaged 0 ≡ run_answer z s
      element_stops j = sym (refuses Damaged 0 (not (all_finite m)) accepted (rw (sym i ∙ j))) ∙ after

      pub all_pass : x ≡ true → accepted ≡ run_answer z s
      all_pass j = sym (passes Damaged 0 (not (all_finite m)) accepted (rw (sym i ∙ j))) ∙ after
