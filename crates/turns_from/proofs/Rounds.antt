-- The first busy worker of those from worker w on and then of those below w. Assumes nothing.
use Prim.Native.Nat.{ℕ, ◌+◌, ◌-◌, ◌%◌, ◌≤◌, ◌<◌}
use mathlib.Core.Bool.{false}
use mathlib.Core.Path.{◌≡◌, sym, ap, ◌∙◌, subst}
use mathlib.Core.Logic.{⊎_elim}
use mathlib.Core.List.{List}
use native.Mathlib.Nat.{mod-eq_of_lt, add-mod_right}
use native.Mathlib.Omega.{arith}
use lib.ListN.{get_or}
use Rattle.std.specs.Prelude.{Option, Some, None, MatchOption}
use Rattle.worker.specs.declared.Worker.{Worker}
use Rattle.worker.specs.Holding.{idle}
use Rattle.laws.proofs.Tests.{lt_or_le}
use Rattle.turns_from.specs.NextBusy.{NoneBusy, FirstBusy, NextBusy, busy_after}

-- none before v is busy, and neither is v
pub none_and_here : (slots : List Worker) (from v : ℕ) → NoneBusy slots from v → (get_or slots v idle).busy ≡ false → NoneBusy slots from (v + 1)
none_and_here slots from v none here x a l = ⊎_elim
    (λ b. none x a b)
    (λ b. let e : v ≡ x = omega arith in ap (λ (k : ℕ). (get_or slots k idle).busy) (sym e) ∙ here)
    (lt_or_le x v)

module _ (slots : List Worker) (W w : ℕ) (h : w < W) where
  abbrev Idle : ℕ → Type 0
  Idle x = (get_or slots x idle).busy ≡ false

  -- places from w on, and those counted round
  place_above : (d : ℕ) → w + d < W → (w + d) % W ≡ w + d
  place_above d l = mod-eq_of_lt l

  place_below : (d : ℕ) → W ≤ w + d → d < W → (w + d) % W ≡ d - (W - w)
  place_below d a l =
      let e : w + d ≡ d - (W - w) + W = omega arith in
      ap (λ (k : ℕ). k % W) e ∙ add-mod_right (d - (W - w)) W ∙ mod-eq_of_lt (omega arith)

  -- one found at w or after it
  pub next_above : (v : ℕ) → FirstBusy slots w W v → NextBusy slots W w v
  next_above v f =
      let d : w + (v - w) ≡ v = omega (arith, f.not_before) in
      let e : (w + (v - w)) % W ≡ v = ap (λ (k : ℕ). k % W) d ∙ mod-eq_of_lt f.below in
      subst (NextBusy slots W w) e
      (busy_after (v - w) (omega (arith, f.below)) (ap (λ (k : ℕ). (get_or slots k idle).busy) e ∙ f.busy)
      (λ x q. subst Idle (sym (place_above x (omega (arith, f.below, f.not_before)))) (f.none_before (w + x) (omega arith) (omega (arith, f.not_before)))))

  -- one found below w, where none is busy from w on
  pub next_below : NoneBusy slots w W → (v : ℕ) → FirstBusy slots 0 w v → NextBusy slots W w v
  next_below none v f =
      let d : w + (W - w + v) ≡ v + W = omega arith in
      let e : (w + (W - w + v)) % W ≡ v = ap (λ (k : ℕ). k % W) d ∙ add-mod_right v W ∙ mod-eq_of_lt (omega (arith, f.below)) in
      subst (NextBusy slots W w) e
      (busy_after (W - w + v) (omega (arith, f.below)) (ap (λ (k : ℕ). (get_or slots k idle).busy) e ∙ f.busy)
      (λ x q. ⊎_elim
      (λ a. subst Idle (sym (place_above x a)) (none (w + x) (omega arith) a))
      (λ a. subst Idle (sym (place_below x a (omega (arith, f.below)))) (f.none_before (x - (W - w)) (omega arith) (omega arith)))
      (lt_or_le (w + x) W)))

  -- none is busy
  pub none_is : NoneBusy slots w W → NoneBusy slots 0 w → (x : ℕ) → x < W → Idle x
  none_is above below x l = ⊎_elim (λ a. below x (omega arith) a) (λ a. above x a l) (lt_or_le x w)

  -- what looking at those below w tells, where none from w on is busy
  pub after_round : NoneBusy slots w W → (r : Option ℕ) → MatchOption r (NoneBusy slots 0 w) (FirstBusy slots 0 w)
      → MatchOption r ((x : ℕ) → x < W → Idle x) (NextBusy slots W w)
  after_round none (Some v) f = next_below none v f
  after_round none None f = none_is none f
