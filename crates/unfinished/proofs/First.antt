-- The lowest number that passes a test, as a loop finds it, and what is made of it. Assumes nothing.
use Prim.Native.Nat.{ℕ, zero, suc, ◌+◌, ◌-◌, ◌≤◌, ◌<◌}
use mathlib.Core.Bool.{Bool, true, false, cond}
use mathlib.Core.Path.{◌≡◌, refl, sym, ap, ◌∙◌}
use mathlib.Core.List.{List, [], ◌∷◌}
use native.Mathlib.Omega.{arith}
use Rattle.model.specs.Lists.{run, below, keep, first_or}
use Rattle.std.specs.Prelude.{Some, None, Option}

-- ---- the first of the numbers below n that passes, by a loop over j

module _ (f : ℕ → Bool) (n : ℕ) where
  -- the first from j on
  abbrev pub first_from : ℕ → Option ℕ
  first_from j = first_or (keep f (run j (n - j))) Some None

  pub first_begins : first_from 0 ≡ first_or (keep f (below n)) Some None
  unfolding below
  first_begins = let e : n - 0 ≡ n = omega arith in rw e

  module _ (j : ℕ) (whole : Option ℕ) (e : first_from j ≡ whole) where
    pub first_stops : j < n → f j ≡ true → Some j ≡ whole
    unfolding run keep first_or
    first_stops h q = let s : n - j ≡ suc (n - suc j) = omega arith in rw (s, q) at e

    pub first_goes_on : j < n → f j ≡ false → first_from (j + 1) ≡ whole
    unfolding run keep first_or
    first_goes_on h q =
        let s : n - j ≡ suc (n - suc j) = omega arith in
        let u : j + 1 ≡ suc j = omega arith in
        rw u (rw (s, q) at e)

    pub first_ends : n ≤ j → None ≡ whole
    unfolding run keep first_or
    first_ends h = let s : n - j ≡ 0 = omega arith in rw s at e

  bound_run : (a m p : ℕ) → first_or (keep f (run a m)) Some None ≡ Some p → p < a + m
  unfolding run keep first_or
  bound_run a zero p e = let y : ◌≡◌ {A = ℕ} 0 1 = cc in absurd (omega arith)
  bound_run a (suc m) p e = go (f a) e (bound_run (suc a) m p)
    where
      go : (b : Bool) → first_or (cond b (a ∷ keep f (run (suc a) m)) (keep f (run (suc a) m))) Some None ≡ Some p
          → (first_or (keep f (run (suc a) m)) Some None ≡ Some p → p < suc a + m) → p < a + suc m
      go true e rest = let y : a ≡ p = cc in omega arith
      go false e rest = omega (arith, rest e)

  pub first_below : (r : Option ℕ) (p : ℕ) → r ≡ first_or (keep f (below n)) Some None → r ≡ Some p → p < n
  unfolding below
  first_below r p e q = omega (arith, bound_run 0 n p (sym e ∙ q))

-- what is made of the first, from what was found
module _ {A : Type 0} (g : ℕ → A) (d : A) where
  pub from_at : (xs : List ℕ) (r : Option ℕ) (p : ℕ) → r ≡ first_or xs Some None → r ≡ Some p → first_or xs g d ≡ g p
  unfolding first_or
  from_at [] r p e q = let y : ◌≡◌ {A = ℕ} 0 1 = cc in absurd (omega arith)
  from_at (x ∷ xs) r p e q = let y : x ≡ p = cc in ap g y

  pub from_none : (xs : List ℕ) (r : Option ℕ) → r ≡ first_or xs Some None → r ≡ None → first_or xs g d ≡ d
  unfolding first_or
  from_none [] r e q = refl
  from_none (x ∷ xs) r e q = let y : ◌≡◌ {A = ℕ} 0 1 = cc in absurd (omega arith)
