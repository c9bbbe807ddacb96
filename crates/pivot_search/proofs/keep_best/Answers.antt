-- `keep_best` meets its contract: the tests are the definition's, and the better of the two is the best so far. Assumes nothing.
use mathlib.Core.Path.{◌≡◌, sym, ◌∙◌}
use mathlib.Core.Bool.{Bool, true, false, cond, not, ◌&&◌}
use Prim.Native.Nat.{ℕ, ◌+◌}
use native.Mathlib.Numerals.{add-one}
use lib.Ieee.{Float, lt, eq, ne, of_bits}
use Rattle.model.specs.declared.Pivot.{Pivot}
use Rattle.model.specs.Num.{is_zero, magnitude, exceeds, same_magnitude}
use Rattle.model.specs.Column.{tied, better}
use Rattle.model.specs.Best.{BestSoFar}
use Rattle.float_laws.proofs.Search.{best_next}
use Rattle.pivot_search.proofs.keep_best.Goals as goal

best_so_far : (p q : Pivot) (place : ℕ) (x : Float) → q ≡ better p place x → BestSoFar p place x q
best_so_far p q place x e = λ xs long fine b. rw (e, ← long) (best_next xs x p b fine)

-- p is carried, and s is the magnitude of the candidate x

module _ (p : Pivot) (place : ℕ) (x s : Float) (is : s ≡ magnitude x) (plain : magnitude p.magnitude ≡ p.magnitude) where
  tested : lt p.magnitude s ≡ exceeds x p.magnitude
  unfolding exceeds
  tested = cc

  took : lt p.magnitude s ≡ true → record { place = place; magnitude = s; ties = 0 } ≡ better p place x
  unfolding better
  took h = rw (sym tested ∙ h, is)

  -- whether x ties
  tie_tested : (eq s p.magnitude && not (is_zero p.magnitude)) ≡ (same_magnitude x p.magnitude && not (is_zero p.magnitude))
  unfolding same_magnitude
  tie_tested = λ i. eq (is i) (sym plain i) && not (is_zero p.magnitude)

  kept : (b : Bool) → lt p.magnitude s ≡ false → (eq s p.magnitude && not (is_zero p.magnitude)) ≡ b
      → record { place = p.place; magnitude = p.magnitude; ties = cond b (p.ties + 1) p.ties } ≡ better p place x
  unfolding better tied
  kept true h e = rw (sym tested ∙ h, sym tie_tested ∙ e, add-one p.ties)
  kept false h e = rw (sym tested ∙ h, sym tie_tested ∙ e)

pub returns-then-most-magnitude : goal.returns-then-most-magnitude
returns-then-most-magnitude c =
    let a = c.args in
    let e = took a.best a.place a.x _ c.magnitude_of-magnitude.ensures c.requires.0 c.if-most-magnitude.true in
    record { value = e; best_so_far = best_so_far a.best _ a.place a.x e }

pub returns-then-tie : goal.returns-then-tie
unfolding is_zero of_bits eq ne
returns-then-tie c =
    let a = c.args in
    let e = kept a.best a.place a.x _ c.magnitude_of-magnitude.ensures c.requires.0 true c.if-most-magnitude.false c.if-tie.true in
    record { value = e; best_so_far = best_so_far a.best _ a.place a.x e }

pub returns : goal.returns
unfolding is_zero of_bits eq ne
returns c =
    let a = c.args in
    let e = kept a.best a.place a.x _ c.magnitude_of-magnitude.ensures c.requires.0 false c.if-most-magnitude.false c.if-tie.false in
    record { value = e; best_so_far = best_so_far a.best _ a.place a.x e }
