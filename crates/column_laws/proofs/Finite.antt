-- A part of a finite part is finite. Assumes nothing.
use mathlib.Core.Path.{◌≡◌}
use mathlib.Core.Bool.{true}
use mathlib.Core.List.{List}
use Prim.Native.Nat.{ℕ, ◌+◌, ◌-◌, ◌<◌, ◌≤◌}
use native.Mathlib.Omega.{arith}
use lib.ListN.{length}
use lib.Ieee.{Float, nan}
use Rattle.model.specs.Lists.{part}
use Rattle.model.specs.Tile.{all_finite}
use Rattle.laws.proofs.Finite.{finite_get, finite_all}
use Rattle.laws.proofs.Parts.{length_part, get_part}

pub finite_part : (a n s k : ℕ) (m : List Float) → a + n ≤ length m → a ≤ s → s + k ≤ a + n → all_finite (part a n m) ≡ true → all_finite (part s k m) ≡ true
finite_part a n s k m room low high e =
    finite_all (part s k m)
    (λ i h.
    let l : i < k = (let q = rw (length_part s k m (omega arith)) at h in q) in
    let x : a + (s + i - a) ≡ s + i = omega arith in
    let p = finite_get (part a n m) (s + i - a) e (rw (length_part a n m room) (omega arith)) in
    let q = rw (get_part a n m nan (s + i - a) (omega arith), x) at p in
    rw (get_part s k m nan i l) q)
