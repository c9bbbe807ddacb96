-- Choices by tests, and what stands before, at and after a column. Assumes nothing.
use Prim.Native.Nat.{ℕ, ◌≤◌, ◌<◌}
use mathlib.Core.Bool.{Bool, true, false, cond, ◌&&◌}
use mathlib.Core.Path.{◌≡◌, refl}
use mathlib.Core.Logic.{◌⊎◌, inl, inr}
use native.Mathlib.Omega.{arith}
use lib.Dec.{eqb, ltb}
pub use Rattle.bools.proofs.Tests.{true_or_false, never, and_left, and_right, lt_or_le}
use borrow.Author.Tests.{eqb-true, eqb-false, eq-eqb, ne_eqb, lt-ltb, le-ltb}

pub cond_true : {A : Type 0} (b : Bool) (x y : A) → b ≡ true → cond b x y ≡ x
cond_true b x y e = rw e

pub cond_false : {A : Type 0} (b : Bool) (x y : A) → b ≡ false → cond b x y ≡ y
cond_false b x y e = rw e

pub and_false : (a b : Bool) → (a && b) ≡ false → (a ≡ false) ⊎ (b ≡ false)
and_false true b e = inr e
and_false false b e = inl refl

-- q before c, at c, or after it
pub data Side (q c : ℕ) : Type 0 where
  before : q < c → Side q c
  equal : q ≡ c → Side q c
  after : c < q → Side q c

pub side : (q c : ℕ) → Side q c
side q c = go (lt_or_le q c) (true_or_false (eqb q c))
  where
    go : (q < c) ⊎ (c ≤ q) → (eqb q c ≡ true) ⊎ (eqb q c ≡ false) → Side q c
    go (inl h) e = before h
    go (inr h) (inl t) = equal (eqb-true q c t)
    go (inr h) (inr f) = let d : q ≡ c → ⊥ = eqb-false q c f in after (omega arith)

-- what stands before c, at c and after it
module _ {A : Type 0} (q c : ℕ) (x y z : A) where
  pub at_before : q < c → cond (ltb q c) x (cond (eqb q c) y z) ≡ x
  at_before h = rw (lt-ltb q c h)

  pub at_equal : q ≡ c → cond (ltb q c) x (cond (eqb q c) y z) ≡ y
  at_equal h = rw (le-ltb q c (omega arith), eq-eqb q c h)

  pub at_after : c < q → cond (ltb q c) x (cond (eqb q c) y z) ≡ z
  at_after h = rw (le-ltb q c (omega arith), ne_eqb q c (λ (k : q ≡ c). omega arith))
