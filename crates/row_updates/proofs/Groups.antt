-- Numbers stored one after the other, and tested together. Assumes nothing.
use mathlib.Core.Path.{◌≡◌, refl, sym, ap, ap₂, ◌∙◌}
use mathlib.Core.Bool.{Bool, true, ◌&&◌}
use mathlib.Core.List.{List, [], ◌∷◌}
use Prim.Native.Nat.{ℕ, zero, suc, ◌+◌, ◌<◌}
use native.Mathlib.Numerals.{add-one}
use native.Mathlib.Omega.{arith}
use lib.ListN.{length, set}
use lib.Ieee.{Float, nan}
use Rattle.laws.proofs.Tests.{and-true, same_test, every_run_intro, every_run_elim}
use Rattle.laws.proofs.Every.{every_append}
use Rattle.laws.proofs.Runs.{below_last}
use Rattle.model.specs.Lists.{run, below, every}
use Rattle.model.specs.Num.{finite}
use Rattle.row_updates.specs.Updates.{NumbersStored}
use Rattle.fills.proofs.Stores.{stored_more}

module _ (p : ℕ) (v : ℕ → Float) (m : List Float) where
  pub numbers_none : NumbersStored 0 p v m m true
  unfolding every run below
  numbers_none = record { sound = refl; long = refl; inside = λ k h. absurd (omega arith); outside = λ x h. refl }

  below_more : (k : ℕ) → every (λ j. finite (v j)) (below (k + 1)) ≡ (every (λ j. finite (v j)) (below k) && finite (v k))
  unfolding every
  below_more k =
      let f : ℕ → Bool = λ j. finite (v j) in
      ap (λ (n : ℕ). every f (below n)) (add-one k) ∙ ap (every f) (below_last k) ∙ every_append f (below k) (k ∷ []) ∙ ap (λ (b : Bool). every f (below k) && b) (and-true (f k))

  -- one number more
  pub numbers_more : (k : ℕ) (mid : List Float) (good fa : Bool) (a : Float) → NumbersStored k p v m mid good → p + k < length m → a ≡ v k → fa ≡ finite a
      → NumbersStored (k + 1) p v m (set mid (p + k) a) (good && fa)
  numbers_more k mid good fa a g room e t =
      let s = stored_more nan p k v m mid a (record { long = g.long; inside = g.inside; outside = g.outside }) room e in
      record { sound = ap₂ ◌&&◌ g.sound (t ∙ ap finite e) ∙ sym (below_more k); long = s.long; inside = s.inside; outside = s.outside }

-- the same numbers, said otherwise
pub numbers_same : (n p : ℕ) (v u : ℕ → Float) (m after : List Float) (ok : Bool) → ((k : ℕ) → k < n → v k ≡ u k) → NumbersStored n p v m after ok → NumbersStored n p u m after ok
unfolding below
numbers_same n p v u m after ok same g = record {
  sound = g.sound
      ∙ same_test _ _ (λ e. every_run_intro (λ j. finite (u j)) 0 n (λ k _ h. sym (ap finite (same k (omega arith))) ∙ every_run_elim (λ j. finite (v j)) 0 n e k (omega arith) h))
      (λ e. every_run_intro (λ j. finite (v j)) 0 n (λ k _ h. ap finite (same k (omega arith)) ∙ every_run_elim (λ j. finite (u j)) 0 n e k (omega arith) h));
  long = g.long;
  inside = λ k h. g.inside k h ∙ same k h;
  outside = g.outside;
}

-- what holds at one number, and at four
pub at_one : (v u : ℕ → Float) → v 0 ≡ u 0 → (k : ℕ) → k < 1 → v k ≡ u k
at_one v u a zero h = a
at_one v u a (suc k) h = absurd (omega arith)

pub at_four : (v u : ℕ → Float) → v 0 ≡ u 0 → v 1 ≡ u 1 → v 2 ≡ u 2 → v 3 ≡ u 3 → (k : ℕ) → k < 4 → v k ≡ u k
at_four v u a b c d zero h = a
at_four v u a b c d (suc zero) h = b
at_four v u a b c d (suc (suc zero)) h = c
at_four v u a b c d (suc (suc (suc zero))) h = d
at_four v u a b c d (suc (suc (suc (suc k)))) h = absurd (omega arith)
