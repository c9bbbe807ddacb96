-- Those counted and those left are all, and so with their columns. Assumes nothing.
use Prim.Native.Nat.{ℕ, ◌+◌, ◌-◌, ◌*◌, ◌≤◌}
use mathlib.Core.Path.{◌≡◌}
use mathlib.Core.List.{List, []}
use lib.ListN.{length, get_or}
use Rattle.worker.specs.declared.Worker.{Worker}
use Rattle.worker.specs.Holding.{idle}
use Rattle.model.specs.Refusal.{holds, next_column}
use Rattle.model.specs.Lists.{run, below, keep}
use Rattle.checks.specs.Checks.{held}
use Rattle.laws.proofs.Searches.{left}
use Rattle.holds.proofs.held_by.Given as goal

-- the columns that slots from v on add
abbrev pub rest : List Worker → ℕ → ℕ → ℕ → ℕ
rest workers p count v = left (λ (w : ℕ). get_or workers w idle) (holds p) (λ (h : Worker). h.column) count v

abbrev pub invariant-loop-h : goal.invariant-loop-h
invariant-loop-h l = (l.n ≤ l.h-index) × (l.column ≤ l.h-index * 255)
    × (l.n + length (keep (λ x. holds l.p (get_or l.fn.workers x idle)) (run l.h-index (l.count - l.h-index))) ≡ length (keep (λ x. holds l.p (get_or l.fn.workers x idle)) (below l.count)))
    × (l.column + rest l.fn.workers l.p l.count l.h-index ≡ next_column (held [] l.fn.workers l.count) l.p)
