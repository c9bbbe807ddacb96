-- Those counted and those left are all, and so with their columns. Assumes nothing.
use mathlib.Core.Path.{◌≡◌, sym, ◌∙◌}
use lib.ListN.{length, get_or, take}
use lib.Seq.{length-take-le, get_or-take}
use Prim.Native.Nat.{◌+◌, ◌≤◌, ◌<◌}
use mathlib.Core.Bool.{true, false}
use native.Mathlib.Omega.{arith}
use Rattle.worker.specs.Holding.{idle}
use Rattle.model.specs.Refusal.{holds, next_column}
use Rattle.records.specs.Records.{crew, lent}
use Rattle.records.proofs.Laws.{keep_workers}
use Rattle.laws.proofs.Searches.{keep_begins, keep_counts, keep_passes, keep_ends, sum_begins, sum_adds, sum_passes, sum_ends}
use Rattle.holds.proofs.held_by.Goals as goal
use Rattle.holds.proofs.held_by.Goals.{then-h-p, else-h-p}

pub loop-h-init : goal.loop-h-init
unfolding next_column lent crew
loop-h-init c =
    (omega arith, omega arith, keep_begins _ _, sum_begins _ _ _ _)

pub loop-h-preserved : goal.loop-h-preserved
unfolding holds
loop-h-preserved c =
    let a = c.args in
    let i = c.loop-h.h-index in
    let inv = c.loop-h.invariant in
    let long : length (take a.count a.workers) ≡ a.count = length-take-le a.count a.workers (omega arith) in
    let more : i < a.count = omega arith in
    let here : get_or (take a.count a.workers) i idle ≡ get_or a.workers i idle = get_or-take a.count a.workers i idle more in
    elim c.if-h-p.branch [
      | then-h-p w ↦
          let yes : holds a.p (get_or (take a.count a.workers) i idle) ≡ true = w.if-h-p.true in
          let sum : c.if-h-p.column ≡ c.loop-h.column + (get_or (take a.count a.workers) i idle).column = w.column-is in
          (omega arith, omega arith, keep_counts _ _ _ _ _ _ more inv.2 (rw here at yes) w.n-is, sum_adds _ _ _ _ _ _ _ _ more inv.3 (rw here at yes) (rw here at sum))
      | else-h-p w ↦
          let no : holds a.p (get_or (take a.count a.workers) i idle) ≡ false = w.if-h-p.false in
          (omega arith, omega arith, keep_passes _ _ _ _ _ _ more inv.2 (rw here at no) w.n-is, sum_passes _ _ _ _ _ _ _ _ more inv.3 (rw here at no) w.column-is)
    ]

pub returns : goal.returns
returns c =
    let a = c.args in
    let long : length (take a.count a.workers) ≡ a.count = length-take-le a.count a.workers (omega arith) in
    let all : a.count ≤ c.loop-h.h-index = omega arith in
    let inv = c.loop-h.invariant in
    (keep_ends _ _ _ _ _ all inv.2 ∙ sym (keep_workers _ _ (holds a.p)), sum_ends _ _ _ _ _ _ _ all inv.3, omega arith)
