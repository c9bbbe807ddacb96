-- The next busy worker, counting round. Assumes nothing.
use Rattle.std.specs.Prelude.{ℕ, ◌+◌, ◌%◌, ◌<◌, ◌≤◌, ◌≡◌, true, false, List, get_or}
use Rattle.worker.specs.declared.Worker.{Worker}
use Rattle.worker.specs.Holding.{idle}

-- no worker is busy of those at `from` and after it, below `to`
abbrev pub NoneBusy : List Worker → ℕ → ℕ → Type 0
NoneBusy slots from to = (v : ℕ) → from ≤ v → v < to → (get_or slots v idle).busy ≡ false

-- v is the first busy worker of those, none of which before v is busy
pub record FirstBusy (slots : List Worker) (from to v : ℕ) : Type 0 where
  pub not_before : from ≤ v
  pub below : v < to
  pub busy : (get_or slots v idle).busy ≡ true
  pub none_before : NoneBusy slots from v

-- v is the first busy worker from w on, counting W of them round
pub data NextBusy (slots : List Worker) (W w : ℕ) : ℕ → Type 0 where
  busy_after : (d : ℕ) → d < W → (get_or slots ((w + d) % W) idle).busy ≡ true → ((e : ℕ) → e < d → (get_or slots ((w + e) % W) idle).busy ≡ false)
      → NextBusy slots W w ((w + d) % W)
