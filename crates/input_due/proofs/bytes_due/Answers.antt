-- `input_due::bytes_due` meets its contract. Assumes nothing.
use mathlib.Core.Path.{sym, ap, ◌∙◌}
use native.Mathlib.Omega.{arith}
use Rattle.system_checked.proofs.Headers.{shape_read, refusal_read}
use Rattle.input_due.specs.Due.{due_behind, bytes_due}
use Rattle.input_due.proofs.Decided.{limits, seven_decide, due_decides}
use Rattle.input_due.proofs.bytes_due.Goals as goal

pub overflow_mul-result : goal.overflow_mul-result
overflow_mul-result c =
    let b = limits (shape_read _ _ _ _ _ c.check_header.ensures c.in-Ok.is) in omega arith

pub overflow_mul-result-in-Ok : goal.overflow_mul-result-in-Ok
overflow_mul-result-in-Ok c =
    let b = limits (shape_read _ _ _ _ _ c.check_header.ensures c.in-Ok.is) in omega arith

pub overflow_add-result : goal.overflow_add-result
overflow_add-result c =
    let b = limits (shape_read _ _ _ _ _ c.check_header.ensures c.in-Ok.is) in omega arith

pub overflow_mul-result-in-Ok-2 : goal.overflow_mul-result-in-Ok-2
overflow_mul-result-in-Ok-2 c =
    let b = limits (shape_read _ _ _ _ _ c.check_header.ensures c.in-Ok.is) in omega arith

pub overflow_mul-result-in-Ok-3 : goal.overflow_mul-result-in-Ok-3
overflow_mul-result-in-Ok-3 c =
    let b = limits (shape_read _ _ _ _ _ c.check_header.ensures c.in-Ok.is) in omega arith

pub overflow_add-result-in-Ok : goal.overflow_add-result-in-Ok
overflow_add-result-in-Ok c =
    let b = limits (shape_read _ _ _ _ _ c.check_header.ensures c.in-Ok.is) in omega arith

pub returns-in-Ok : goal.returns-in-Ok
unfolding bytes_due
returns-in-Ok c =
    let h = shape_read _ _ _ _ _ c.check_header.ensures c.in-Ok.is in
    let e = sym c.check_header.ensures ∙ c.in-Ok.is in
    record { value = sym (ap due_behind e); by_index = (λ text same. due_decides _ _ text _ same h); lower_bound = (omega arith, (limits h).most) }

pub returns-in-Err : goal.returns-in-Err
unfolding bytes_due
returns-in-Err c =
    let e = sym c.check_header.ensures ∙ c.in-Err.is in
    let r = refusal_read _ _ _ _ c.check_header.ensures c.in-Err.is in
    record { value = sym (ap due_behind e); by_index = (λ text same. seven_decide text _ _ same r); lower_bound = (omega arith, omega arith) }
