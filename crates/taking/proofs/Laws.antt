-- What a take leaves, refused or accepted. Assumes nothing.
use Prim.Native.Nat.{ℕ, ◌+◌}
use mathlib.Core.Bool.{Bool, true, false}
use mathlib.Core.Path.{◌≡◌, sym, ap, ◌∙◌}
use mathlib.Core.List.{List}
use lib.Ieee.{Float}
use lib.ListN.{length, set}
use native.Mathlib.Numerals.{add-one}
use native.Mathlib.Omega.{arith}
use Rattle.model.specs.declared.Sizes.{Sizes}
use Rattle.worker.specs.declared.Worker.{Worker}
use Rattle.model.specs.Answer.{Answer}
use Rattle.model.specs.Plan.{plan_of}
use Rattle.model.specs.Calls.{Lent, with_take, changed, took}
use Rattle.worker.specs.Holding.{holding}
use Rattle.model.specs.Refusal.{Reply, replied, take_answer, take_call}
use Rattle.records.specs.Records.{records_from, crew, lent}
use Rattle.records.proofs.Laws.{crew_set}
use Rattle.answers.specs.Answers.{accepts}
use Rattle.answers.proofs.Refusals.{is_accepted, not_accepted}
use Rattle.take_checks.proofs.Laws.{Accepting, accepting}

module _ (z : Sizes) (m : List Float) (l : List ℕ) (r : List (List ℕ)) (ws : List Worker) (count number w p : ℕ) where
  abbrev old : Lent
  old = lent m l r ws count number

  module _ (a : Answer) (e : a ≡ take_answer z w p old) (b : Bool) (f : b ≡ accepts a) where
    pub refused : b ≡ false → ◌≡◌ {A = Reply} (record { answer = a; left = old }) (take_call z w p old)
    unfolding take_call
    refused q = not_accepted a b old (took (plan_of z) w p old) f q ∙ ap (λ k. replied k old (took (plan_of z) w p old)) e

    module _ (q : b ≡ true) where
      pub accepts_then : Accepting z m l r ws count number w p
      accepts_then = accepting z m l r ws count number w p (sym e ∙ is_accepted a b f q)

      pub taken_by : length ws ≡ 32 → (r' : List (List ℕ)) (h : Worker) → records_from r' ≡ changed p (with_take (number + 1)) (records_from r) → h ≡ holding p 0
          → ◌≡◌ {A = Reply} (record { answer = a; left = lent m l r' (set ws w h) count (number + 1) }) (take_call z w p old)
      unfolding take_call replied lent took
      taken_by long r' h g i =
          let k = accepts_then in
          (λ t. record {
            answer = is_accepted a b f q t;
            left = record {
              buffers = record { matrix = m; lists = l };
              records = (g ∙ ap (λ (n : ℕ). changed p (with_take n) (records_from r)) (add-one number)) t;
              workers = (crew_set ws count w h (omega (arith, k.counted, k.state.sizes.few_workers)) (omega (arith, k.counted, k.worker_exists)) ∙ ap (λ v. set (crew ws count) w v) i) t;
              number = add-one number t;
            };
          })
          ∙ ap (λ k. replied k old (took (plan_of z) w p old)) (sym (is_accepted a b f q) ∙ e)
