-- What is left to search gives the whole search's answer. Assumes nothing.
use mathlib.Core.Bool.{not}
use mathlib.Core.Path.{sym, ap, ◌∙◌}
use native.Mathlib.Omega.{arith}
use Rattle.finite_numbers.proofs.Laws.{lowest_begins, lowest_stops, lowest_goes_on, lowest_ends}
use Rattle.finite_numbers.proofs.first_not_finite.Goals as goal

pub returns-then-all_finite : goal.returns-then-all_finite
returns-then-all_finite c =
    rw (sym c.all_finite.ensures ∙ c.if-all_finite.true)

pub loop-x-init : goal.loop-x-init
loop-x-init c =
    lowest_begins _

pub returns-then-not-is_finite : goal.returns-then-not-is_finite
returns-then-not-is_finite c =
    lowest_stops _ _ _ _ c.loop-x-test.true c.loop-x.invariant (ap not (sym c.is_finite.ensures ∙ c.if-not-is_finite.true))

pub loop-x-preserved : goal.loop-x-preserved
loop-x-preserved c =
    lowest_goes_on _ _ _ _ c.loop-x-test.true c.loop-x.invariant (ap not (sym c.is_finite.ensures ∙ c.if-not-is_finite.false))

pub returns : goal.returns
returns c =
    lowest_ends _ _ _ _ (omega arith) c.loop-x.invariant
