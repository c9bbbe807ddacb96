-- What a loop has done that stores the numbers v one after the other, from s on: those from column f on, where it began. Assumes nothing.
use mathlib.Core.Path.{◌≡◌, refl, sym, ap, ◌∙◌, subst}
use mathlib.Core.Logic.{inl, inr, ⊎_elim}
use mathlib.Core.Bool.{Bool, true, false, cond}
use mathlib.Core.List.{List}
use Prim.Native.Nat.{ℕ, ◌+◌, ◌-◌, ◌≤◌, ◌<◌}
use native.Mathlib.Omega.{arith}
use lib.Dec.{ltb}
use lib.ListN.{get_or}
use lib.Ieee.{Float, nan}
use borrow.Author.Tests.{lt-ltb, le-ltb}
use Rattle.model.specs.Lists.{below}
use Rattle.model.specs.Num.{finite}
use Rattle.laws.proofs.Tests.{never, lt_or_le, every_run_intro, every_run_elim}
use Rattle.row_updates.specs.Updates.{NumbersStored}
use Rattle.fills.proofs.Stores.{Stored, stored_join}

-- number q from s on: v q from column f on, and the number itself before
unfoldable pub made : ℕ → ℕ → (ℕ → Float) → List Float → ℕ → Float
made f s v m q = cond (ltb q f) (get_or m (s + q) nan) (v q)

pub record Done (f s : ℕ) (v : ℕ → Float) (q : ℕ) (before after : List Float) : Type 0 where
  pub stored : Stored nan s q (made f s v before) before after
  pub fine : (k : ℕ) → f ≤ k → k < q → finite (v k) ≡ true

module _ (f s : ℕ) (v : ℕ → Float) where
  pub made_left : (m : List Float) (q : ℕ) → q < f → get_or m (s + q) nan ≡ made f s v m q
  unfolding made
  made_left m q h = rw (lt-ltb q f h)

  pub made_right : (m : List Float) (q : ℕ) → f ≤ q → v q ≡ made f s v m q
  unfolding made
  made_right m q h = rw (le-ltb q f h)

  pub done_none : (m : List Float) → Done f s v f m m
  done_none m = record {
    stored = record { long = refl; inside = λ j h. made_left m j h; outside = λ y h. refl };
    fine = λ k h l. absurd (omega arith);
  }

  pub done_at : (q p : ℕ) (before after : List Float) → q ≡ p → Done f s v q before after → Done f s v p before after
  done_at q p before after e d = subst (λ (k : ℕ). Done f s v k before after) e d

  -- q numbers are done, and then the n numbers u are stored
  module _ (q n : ℕ) (u : ℕ → Float) (before mid after : List Float) (ok : Bool) (d : Done f s v q before mid) (g : NumbersStored n (s + q) u mid after ok)
      (h : f ≤ q) (same : (k : ℕ) → k < n → u k ≡ v (q + k)) where
    pub group_stored : Stored nan s (q + n) (made f s v before) before after
    group_stored =
        stored_join nan s q n (made f s v before) u before mid after d.stored (record { long = g.long; inside = g.inside; outside = g.outside })
        (λ k a. same k a ∙ made_right before (q + k) (omega arith))

    pub done_more : ok ≡ true → Done f s v (q + n) before after
    unfolding below
    done_more e = record {
      stored = group_stored;
      fine = λ k a b.
          ⊎_elim (λ c. d.fine k a c)
          (λ c.
          let j = k - q in
          let z : q + j ≡ k = omega arith in
          subst (λ (i : ℕ). finite (v i) ≡ true) z (ap finite (sym (same j (omega arith))) ∙ every_run_elim (λ i. finite (u i)) 0 n (sym g.sound ∙ e) j (omega arith) (omega arith)))
          (lt_or_le k q);
    }

    -- where the test fails, not all of them are finite
    pub group_not : ok ≡ false → ((k : ℕ) → k < n → finite (v (q + k)) ≡ true) → ⊥
    unfolding below
    group_not e all = never (g.sound ∙ every_run_intro (λ i. finite (u i)) 0 n (λ k _ y. ap finite (same k (omega arith)) ∙ all k (omega arith))) e

-- columns f to g - 1 are done, and then those to q - 1
pub done_join : (f g q s : ℕ) (v u : ℕ → Float) (first second third : List Float) → f ≤ g → g ≤ q → ((k : ℕ) → g ≤ k → k < q → u k ≡ v k)
    → Done f s v g first second → Done g s u q second third → Done f s v q first third
done_join f g q s v u first second third a b same d e = record {
  stored = record {
    long = e.stored.long ∙ d.stored.long;
    inside = λ j h.
        ⊎_elim (λ c. e.stored.inside j h ∙ sym (made_left g s u second j c) ∙ d.stored.inside j c)
        (λ c. e.stored.inside j h ∙ sym (made_right g s u second j c) ∙ same j c h ∙ made_right f s v first j (omega arith))
        (lt_or_le j g);
    outside = λ y h. e.stored.outside y h ∙ d.stored.outside y (⊎_elim (λ l. inl l) (λ r. inr (omega arith)) h);
  };
  fine = λ k h l. ⊎_elim (λ c. d.fine k h c) (λ c. ap finite (sym (same k c l)) ∙ e.fine k c l) (lt_or_le k g);
}
