-- The first from p on is the first of all. Assumes nothing.
use Prim.Native.Nat.{ℕ}
use mathlib.Core.Path.{sym, ap, ◌∙◌}
use native.Mathlib.Omega.{arith}
use borrow.Author.Tests.{eq-eqb, ne_eqb}
use lib.Dec.{eqb}
use Rattle.model.specs.Lists.{below, keep, first_or}
use Rattle.model.specs.Links.{mark, failed}
use Rattle.model.specs.Loops.{failed_tasks}
use Rattle.records.specs.Records.{marks_from}
use Rattle.records.proofs.Laws.{length_marks}
use Rattle.std.specs.Prelude.{Some, None}
use Rattle.unfinished.proofs.First.{first_begins, first_stops, first_goes_on, first_ends}
use Rattle.failures.proofs.first_failed.Goals as goal

pub loop-p-init : goal.loop-p-init
loop-p-init c =
    first_begins _ _

pub returns-then-mark_of-eq-FAILED : goal.returns-then-mark_of-eq-FAILED
unfolding failed_tasks
returns-then-mark_of-eq-FAILED c =
    first_stops _ _ _ _ c.loop-p.invariant c.loop-p-test.true
    (ap (λ (x : ℕ). eqb x failed) (sym c.mark_of.ensures) ∙ eq-eqb _ 3 c.if-mark_of-eq-FAILED.true)
    ∙ ap (λ (k : ℕ). first_or (keep (λ q. eqb (mark (marks_from c.args.records.now) q) failed) (below k)) Some None) (sym (length_marks c.args.records.now))

pub loop-p-preserved : goal.loop-p-preserved
loop-p-preserved c =
    first_goes_on _ _ _ _ c.loop-p.invariant c.loop-p-test.true
    (ap (λ (x : ℕ). eqb x failed) (sym c.mark_of.ensures) ∙ ne_eqb _ 3 c.if-mark_of-eq-FAILED.false)

pub returns : goal.returns
unfolding failed_tasks
returns c =
    first_ends _ _ _ _ c.loop-p.invariant (omega arith)
    ∙ ap (λ (k : ℕ). first_or (keep (λ q. eqb (mark (marks_from c.args.records.now) q) failed) (below k)) Some None) (sym (length_marks c.args.records.now))
