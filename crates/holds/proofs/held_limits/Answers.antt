-- By those that hold it. Assumes nothing.
use native.Mathlib.Omega.{arith}
use Rattle.holds.proofs.Laws.{held_by_one, not_by_one}
use Rattle.holds.proofs.held_limits.Goals as goal

pub returns-then-h-eq1 : goal.returns-then-h-eq1
returns-then-h-eq1 c =
    let a = c.args in
    let s = c.requires in
    let h = c.held_by-h.ensures in
    λ r e. held_by_one a.z r a.workers a.p e _ _ h.0 h.1 (omega (arith, h.2, s.few_workers)) c.if-h-eq1.true

pub returns-else-h-eq1 : goal.returns-else-h-eq1
returns-else-h-eq1 c =
    let a = c.args in
    let s = c.requires in
    let h = c.held_by-h.ensures in
    λ r e. not_by_one a.z r a.workers a.p e _ _ h.0 h.1 (omega (arith, h.2, s.few_workers)) c.if-h-eq1.false
