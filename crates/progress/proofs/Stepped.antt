-- A step by whether every number computed is finite; finite lists with parts put into them. Assumes nothing.
use mathlib.Core.Path.{◌≡◌, sym, ◌∙◌, ap}
use mathlib.Core.Logic.{◌⊎◌, inl, inr}
use mathlib.Core.Bool.{true, false}
use mathlib.Core.List.{List}
use Prim.Native.Nat.{ℕ, ◌+◌, ◌-◌, ◌<◌, ◌≤◌}
use native.Mathlib.Omega.{arith}
use lib.ListN.{length, get_or}
use lib.Ieee.{Float, nan}
use Rattle.model.specs.Lists.{every, part, with_part}
use Rattle.model.specs.Num.{finite}
use Rattle.model.specs.Tile.{all_finite}
use Rattle.model.specs.Solve.{going, stopped, stepped}
use Rattle.laws.proofs.Tests.{lt_or_le}
use Rattle.laws.proofs.Parts.{Fits, length_put, get_in, get_before, get_after, length_part, get_part}
use Rattle.laws.proofs.Finite.{finite_get, finite_all}

-- a finite list with a finite part put into it
pub finite_put : (n a : ℕ) (m x : List Float) → Fits n a m x → all_finite x ≡ true → all_finite m ≡ true → all_finite (with_part a n x m) ≡ true
finite_put n a m x f hx hm =
    finite_all (with_part a n x m) (λ i h. let g : i < length m = (let q = rw (length_put n nan a m x f) at h in q) in go i g (lt_or_le i a) (lt_or_le i (a + n)))
  where
    go : (i : ℕ) → i < length m → (i < a) ⊎ (a ≤ i) → (i < a + n) ⊎ (a + n ≤ i) → finite (get_or (with_part a n x m) i nan) ≡ true
    go i h (inl l) w = rw (get_before n nan a m x f i l) (finite_get m i hm h)
    go i h (inr g) (inl l) =
        let e : a + (i - a) ≡ i = omega arith in
        ap (λ (j : ℕ). finite (get_or (with_part a n x m) j nan)) (sym e) ∙ rw (get_in n nan a m x f (i - a) (omega arith)) (finite_get x (i - a) hx (omega (arith, f.whole)))
    go i h (inr g) (inr k) = rw (get_after n nan a m x f i k) (finite_get m i hm h)

pub finite_whole : (a n : ℕ) (q : List Float) → a + n ≤ length q → all_finite q ≡ true → all_finite (part a n q) ≡ true
finite_whole a n q h f =
    finite_all (part a n q)
    (λ i hi. let g : i < n = (let w = rw (length_part a n q h) at hi in w) in rw (get_part a n q nan i g) (finite_get q (a + i) f (omega arith)))

-- by whether every number computed is finite
module _ (x : ℕ) (ns y : List Float) where
  pub step_goes : every finite ns ≡ true → stepped x ns y ≡ going y
  unfolding stepped
  step_goes e = rw (e, stepped)

  pub step_stops : every finite ns ≡ false → stepped x ns y ≡ stopped x
  unfolding stepped
  step_stops e = rw (e, stepped)
