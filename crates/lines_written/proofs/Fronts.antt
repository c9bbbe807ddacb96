-- The front of a lent text filled with a new text, or 15 where it is too short. Assumes nothing.
use mathlib.Core.Path.{◌≡◌, sym, ap, ◌∙◌}
use mathlib.Core.Bool.{Bool, true, false}
use mathlib.Core.List.{List, ◌++◌}
use Prim.Native.Nat.{ℕ, ◌≤◌, ◌<◌}
use lib.ListN.{length, drop}
use lib.Dec.{ltb}
use borrow.Author.Tests.{lt-ltb, le-ltb}
use Rattle.std.specs.Prelude.{Ok}
use Rattle.model.specs.Answer.{accepted, refused_by}
use Rattle.model.specs.declared.Rule.TheVariants.{NoRoom}
use Rattle.model.specs.Lists.{with_part}
use Rattle.model.specs.Refusal.{refuse}
use Rattle.model.specs.Text.{Writing, writing}

module _ (new text : List ℕ) (k : ℕ) (size : length new ≡ k) where
  pub too_short : length text < k → ◌≡◌ {A = Writing} (record { answer = refused_by NoRoom 0; left = text }) (writing (refuse NoRoom 0 (ltb (length text) (length new)) accepted) new text)
  unfolding refuse writing
  too_short h =
      let e : ltb (length text) (length new) ≡ true = ap (ltb (length text)) size ∙ lt-ltb (length text) k h in
      sym (ap (λ (b : Bool). writing (refuse NoRoom 0 b accepted) new text) e)

  pub long_enough : (text' : List ℕ) → k ≤ length text → text' ≡ with_part 0 k new text
      → ◌≡◌ {A = Writing} (record { answer = Ok k; left = text' }) (writing (refuse NoRoom 0 (ltb (length text) (length new)) accepted) new text)
  unfolding refuse writing
  long_enough text' h is =
      let e : ltb (length text) (length new) ≡ false = ap (ltb (length text)) size ∙ le-ltb (length text) k h in
      (λ i. record { answer = Ok (size' i); left = (is ∙ ap (λ (x : ℕ). new ++ drop x text) size') i })
      ∙ sym (ap (λ (b : Bool). writing (refuse NoRoom 0 b accepted) new text) e)
    where
      size' : k ≡ length new
      size' = sym size
