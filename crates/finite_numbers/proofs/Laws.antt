-- The lowest number that isn't finite, and whether there is one, as loops find them. Assumes nothing.
use Prim.Native.Nat.{ℕ, suc, ◌+◌, ◌-◌, ◌≤◌, ◌<◌}
use mathlib.Core.Path.{◌≡◌}
use mathlib.Core.Bool.{Bool, true, false, not, cond}
use mathlib.Core.List.{List}
use native.Mathlib.Omega.{arith}
use lib.Ieee.{Float, nan}
use lib.ListN.{length, get_or}
use lib.Seq.{take-length}
use Rattle.model.specs.Lists.{run, below, some, every, keep, first_or, lists_open}
use Rattle.model.specs.Num.{finite}
use Rattle.model.specs.Tile.{all_finite}
use Rattle.model.specs.Refusal.{first_not_finite}
use Rattle.laws.proofs.Searches.{every_places, every_is_none}
use Rattle.std.specs.Prelude.{Some, None, Option}

abbrev pub is_broken : List Float → ℕ → Bool
is_broken m x = not (finite (get_or m x nan))

unfoldable pub lowest : (ℕ → Bool) → List ℕ → Option ℕ
lowest f xs = cond (not (some f xs)) None (Some (first_or (keep f xs) (λ x. x) 0))

pub lowest_begins : (m : List Float) → lowest (is_broken m) (run 0 (length m - 0)) ≡ cond (all_finite m) None (Some (first_not_finite m))
unfolding lowest all_finite first_not_finite below
lowest_begins m =
    let z : length m - 0 ≡ length m = omega arith in
    let e : every finite m ≡ every (λ x. finite (get_or m x nan)) (below (length m)) = rw take-length at (every_places finite (length m) m nan (omega arith)) in
    rw (z, e, every_is_none (λ x. finite (get_or m x nan)) (below (length m)))

module _ (f : ℕ → Bool) (n j : ℕ) (whole : Option ℕ) where
  pub lowest_stops : j < n → lowest f (run j (n - j)) ≡ whole → f j ≡ true → Some j ≡ whole
  unfolding lowest lists_open
  lowest_stops h e q = let s : n - j ≡ suc (n - suc j) = omega arith in rw (s, q) at e

  pub lowest_goes_on : j < n → lowest f (run j (n - j)) ≡ whole → f j ≡ false → lowest f (run (j + 1) (n - (j + 1))) ≡ whole
  unfolding lowest lists_open
  lowest_goes_on h e q =
      let s : n - j ≡ suc (n - suc j) = omega arith in
      let u : j + 1 ≡ suc j = omega arith in
      rw u (rw (s, q) at e)

  pub lowest_ends : n ≤ j → lowest f (run j (n - j)) ≡ whole → None ≡ whole
  unfolding lowest lists_open
  lowest_ends h e = let s : n - j ≡ 0 = omega arith in rw s at e
