-- The first from p on is the first of all. Assumes nothing.
use Prim.Native.Nat.{ℕ}
use mathlib.Core.Path.{sym, ap, ◌∙◌}
use mathlib.Core.Bool.{not}
use native.Mathlib.Omega.{arith}
use Rattle.model.specs.Links.{finished}
use Rattle.unfinished.proofs.First.{first_begins, first_stops, first_goes_on, first_ends}
use Rattle.unfinished.proofs.first_unfinished.Goals as goal

pub loop-p-init : goal.loop-p-init
loop-p-init c =
    first_begins _ _

pub returns-then-not-is_finished : goal.returns-then-not-is_finished
returns-then-not-is_finished c =
    first_stops _ _ _ _ c.loop-p.invariant c.loop-p-test.true
    (ap (λ (x : ℕ). not (finished x)) (sym c.mark_of.ensures) ∙ ap not (sym c.is_finished.ensures ∙ c.if-not-is_finished.true))

pub loop-p-preserved : goal.loop-p-preserved
loop-p-preserved c =
    first_goes_on _ _ _ _ c.loop-p.invariant c.loop-p-test.true
    (ap (λ (x : ℕ). not (finished x)) (sym c.mark_of.ensures) ∙ ap not (sym c.is_finished.ensures ∙ c.if-not-is_finished.false))

pub returns : goal.returns
returns c =
    first_ends _ _ _ _ c.loop-p.invariant (omega arith)
