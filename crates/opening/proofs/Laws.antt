-- What the opening leaves. Assumes nothing.
use Prim.Native.Nat.{ℕ, ◌*◌}
use mathlib.Core.Bool.{Bool, true, false}
use mathlib.Core.Path.{◌≡◌, sym, ap, ◌∙◌}
use mathlib.Core.List.{List, map}
use lib.Ieee.{Float}
use lib.ListN.{length, replicate}
use Rattle.model.specs.declared.Sizes.{Sizes}
use Rattle.worker.specs.declared.Worker.{Worker}
use Rattle.model.specs.Answer.{Answer, accepted}
use Rattle.model.specs.declared.Rule.TheVariants.{BadSizes, BadLengths}
use Rattle.model.specs.Lengths.{LentFits}
use Rattle.model.specs.Task.{tasks}
use Rattle.model.specs.Plan.{plan, plan_of}
use Rattle.model.specs.Loops.{start}
use Rattle.model.specs.Calls.{Lent, record_of, opened}
use Rattle.worker.specs.Holding.{idle}
use Rattle.model.specs.Refusal.{Reply, replied, bad_sizes, bad_lengths, open_answer, open_call}
use Rattle.laws.proofs.Refusals.{passed}
use Rattle.records.specs.Records.{records_from, crew, lent}
use Rattle.checks.specs.Checks.{Sized}
use Rattle.checks.proofs.Laws.{sized}
use Rattle.answers.specs.Answers.{accepts}
use Rattle.answers.proofs.Refusals.{is_accepted, not_accepted, lengths_fit, count_fits}

module _ (z : Sizes) (m : List Float) (l : List ℕ) (r : List (List ℕ)) (ws : List Worker) (count number : ℕ) where
  abbrev old : Lent
  old = lent m l r ws count number

  pub record Checked : Type 0 where
    pub sizes : Sized z
    pub fit : LentFits z m l r
    pub counted : count ≡ z.workers

  pub checked : open_answer z old ≡ accepted → Checked
  unfolding open_answer
  checked e =
      let a = passed BadSizes 0 (bad_sizes z) _ e in
      let b = passed BadLengths 0 (bad_lengths (plan_of z) z.workers old) _ a.1 in
      record { sizes = sized z a.0; fit = lengths_fit z m l r ws count number b.0; counted = count_fits z m l r ws count number b.0 }

  module _ (a : Answer) (e : a ≡ open_answer z old) (b : Bool) (f : b ≡ accepts a) where
    pub refused : b ≡ false → ◌≡◌ {A = Reply} (record { answer = a; left = old }) (open_call z old)
    unfolding open_call open_answer lent
    refused q = not_accepted a b old (opened (plan_of z) z.workers m) f q ∙ ap (λ k. replied k old (opened (plan_of z) z.workers m)) e

    module _ (q : b ≡ true) where
      pub checked_then : Checked
      checked_then = checked (sym e ∙ is_accepted a b f q)

      filled_whole : (new : List ℕ) → new ≡ replicate (length l) 0 → new ≡ replicate (z.tiles * z.tiles * z.side) 0
      filled_whole new g = g ∙ ap (λ k. replicate k 0) checked_then.fit.buffers.lists_fit

      pub accepted_lem : (l' : List ℕ) (r' : List (List ℕ)) (ws' : List Worker) (count' number' : ℕ) → l' ≡ replicate (length l) 0
          → records_from r' ≡ map record_of (tasks z.tiles) → crew ws' count' ≡ replicate count idle → number' ≡ 0
          → ◌≡◌ {A = Reply} (record { answer = a; left = lent m l' r' ws' count' number' }) (open_call z old)
      unfolding open_call open_answer replied lent opened start plan
      accepted_lem l' r' ws' count' number' g i j o =
          (λ t. record { answer = is_accepted a b f q t; left = record { buffers = record { matrix = m; lists = filled_whole l' g t }; records = i t; workers = (j ∙ ap (λ (k : ℕ). replicate k idle) checked_then.counted) t; number = o t } })
          ∙ ap (λ k. replied k old (opened (plan_of z) z.workers m)) (sym (is_accepted a b f q) ∙ e)
