-- What an accepted column call may count on, and what a column call replies. Assumes nothing.
use Prim.Native.Nat.{ℕ}
use mathlib.Core.Bool.{Bool, true, false}
use mathlib.Core.Path.{◌≡◌, sym, ap, ◌∙◌}
use mathlib.Core.List.{List}
use lib.Ieee.{Float}
use Rattle.model.specs.declared.Sizes.{Sizes}
use Rattle.worker.specs.declared.Worker.{Worker}
use Rattle.model.specs.Answer.{Answer}
use Rattle.model.specs.Plan.{plan_of}
use Rattle.model.specs.Calls.{Lent, advanced}
use Rattle.model.specs.Refusal.{Reply, replied, column_answer, column_call}
use Rattle.records.specs.Records.{lent}
use Rattle.answers.specs.Answers.{accepts}
use Rattle.answers.proofs.Refusals.{is_accepted, not_accepted}
use Rattle.column_checks.proofs.Laws.{accepted_then}
use Rattle.advancing.specs.Advancing.{Working}

module _ (z : Sizes) (m : List Float) (l : List ℕ) (r : List (List ℕ)) (ws : List Worker) (count number w : ℕ) where
  abbrev old : Lent
  old = lent m l r ws count number

  module _ (a : Answer) (e : a ≡ column_answer z w old) (b : Bool) (f : b ≡ accepts a) where
    pub refused : b ≡ false → ◌≡◌ {A = Reply} (record { answer = a; left = old }) (column_call z w old)
    unfolding column_call
    refused q = not_accepted a b old (advanced (plan_of z) w old) f q ∙ ap (λ k. replied k old (advanced (plan_of z) w old)) e

    module _ (q : b ≡ true) where
      pub works_then : Working z w m l r ws number × (count ≡ z.workers)
      works_then =
          let (n, s, x, y, t) = accepted_then z m l r ws count number w (sym e ∙ is_accepted a b f q) in
          (record { sound = s; exists = x; busy = y; tiles_finite = t }, n)

      pub worked : (left : Lent) → left ≡ advanced (plan_of z) w old → ◌≡◌ {A = Reply} (record { answer = a; left = left }) (column_call z w old)
      unfolding column_call replied
      worked left g =
          (λ t. record { answer = is_accepted a b f q t; left = g t }) ∙ ap (λ k. replied k old (advanced (plan_of z) w old)) (sym (is_accepted a b f q) ∙ e)
