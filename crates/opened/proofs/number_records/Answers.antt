-- After p turns the first p records are the numbering's, and the triple in hand is task p's. Assumes nothing.
use Prim.Native.Nat.{ℕ, ◌+◌}
use mathlib.Core.Path.{ap, ◌∙◌}
use native.Mathlib.Omega.{arith}
use Rattle.records.proofs.Laws.{length_records}
use Rattle.numbering.proofs.Laws.{number_first, in_first}
use Rattle.opened.proofs.Laws.{numbered_step, numbered_all}
use Rattle.opened.proofs.number_records.Goals as goal

pub loop-p-init : goal.loop-p-init
loop-p-init c =
    let e = c.first-a.ensures in
    (number_first _ _ e, (λ h. in_first _ _ e c.requires.0.some_tiles), λ q h. absurd (omega arith))

pub loop-p-preserved : goal.loop-p-preserved
loop-p-preserved c =
    let i = c.loop-p.invariant in
    let d = c.task_count-p-end.ensures in (
      c.next-a.ensures.j_value ∙ ap (λ (x : ℕ). x + 1) i.0,
      (λ h. c.next-a.ensures.fact (omega (arith, d, i.0))),
      numbered_step _ _ _ _ _ _ c.put_record.ensures.records_after (omega arith) i.0 (i.1 c.loop-p-test.true) c.record_of.ensures i.2,
    )

pub returns : goal.returns
returns c =
    numbered_all _ _ _ (length_records _ ∙ c.loop-p.auto.records ∙ c.requires.1) (omega (arith, c.task_count-p-end.ensures)) c.loop-p.invariant.2
