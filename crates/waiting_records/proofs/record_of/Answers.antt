-- The four kinds of triple are the four kinds of task. Assumes nothing.
use mathlib.Core.Path.{sym, ap}
use Rattle.model.specs.Calls.{record_of}
use Rattle.model.specs.Task.{kind_of, k_of, i_of, j_of}
use Rattle.links.proofs.Numbering.{at_T_1, at_T_2, at_T_3, at_T_4}
use Rattle.waiting_records.proofs.record_of.Goals as goal

pub returns-in-true-true : goal.returns-in-true-true
unfolding record_of kind_of k_of i_of j_of
returns-in-true-true c =
    sym (ap record_of (at_T_1 _ c.in-true-true.is-0 c.in-true-true.is-1))

pub returns-in-true-false : goal.returns-in-true-false
unfolding record_of kind_of k_of i_of j_of
returns-in-true-false c =
    sym (ap record_of (at_T_2 _ c.in-true-false.is-0 c.in-true-false.is-1))

pub returns-in-false-true : goal.returns-in-false-true
unfolding record_of kind_of k_of i_of j_of
returns-in-false-true c =
    sym (ap record_of (at_T_3 _ c.in-false-true.is-0 c.in-false-true.is-1))

pub returns-in-false-false : goal.returns-in-false-false
unfolding record_of kind_of k_of i_of j_of
returns-in-false-false c =
    sym (ap record_of (at_T_4 _ c.in-false-false.is-0 c.in-false-false.is-1))
