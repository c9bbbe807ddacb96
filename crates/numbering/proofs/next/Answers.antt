-- The next triple of the row, of the next row or of the next stage has the next number. Assumes nothing.
use native.Mathlib.Omega.{arith}
use Rattle.numbering.proofs.Laws.{next_column_lem, next_row, next_stage, next_inside}
use Rattle.numbering.proofs.next.Goals as goal

pub returns-then-a-n-clause-j_value : goal.returns-then-a-n-clause-j_value
returns-then-a-n-clause-j_value c =
    next_column_lem _ _ _ _ c.requires.1

pub returns-then-a-n-2-clause-j_value : goal.returns-then-a-n-2-clause-j_value
returns-then-a-n-2-clause-j_value c =
    next_row _ _ _ _ c.requires.1 (omega arith)

pub returns : goal.returns
returns c =
    let e = next_stage _ _ _ _ c.requires.1 (omega arith) (omega arith) in
    record { j_value = e; fact = λ h. next_inside _ _ _ (omega arith) e h }
