-- The old record with what the column leaves is put in its place: worker and number by whether that ends the task. Assumes nothing.
use Prim.Native.Nat.{◌+◌}
use mathlib.Core.Bool.{Bool, cond}
use mathlib.Core.Path.{◌≡◌, sym, ap, ◌∙◌}
use native.Mathlib.Omega.{arith}
use lib.ListN.{set}
use Rattle.model.specs.declared.TaskRecord.{TaskRecord}
use Rattle.model.specs.Links.{finished}
use Rattle.model.specs.Calls.{with_column}
use Rattle.records.specs.Records.{records_from}
use Rattle.records.proofs.Laws.{get_ties}
use Rattle.record_changes.proofs.Laws.{changed_is}
use Rattle.record_changes.proofs.add_column.Goals as goal
use Rattle.record_changes.proofs.add_column.Goals.{then-is_finished, else-is_finished}

pub overflow_add-task : goal.overflow_add-task
overflow_add-task c =
    let a = c.args in
    let e = ap (λ (r : TaskRecord). r.ties) c.record_at-task.ensures in
    omega (arith, e, get_ties a.records.now a.p, c.requires.1)

pub returns : goal.returns
unfolding with_column
returns c =
    let a = c.args in
    let r = c.record_at-task.result in
    let f = c.is_finished.ensures in
    let d = c.if-is_finished in
    let who : d.worker ≡ cond (finished a.mark) a.w r.worker = elim d.branch [
      | then-is_finished w ↦ w.worker-is ∙ sym (ap (λ (b : Bool). cond b a.w r.worker) (sym f ∙ w.if-is_finished.true))
      | else-is_finished w ↦ w.worker-is ∙ sym (ap (λ (b : Bool). cond b a.w r.worker) (sym f ∙ w.if-is_finished.false))
    ] in
    let when : d.ended ≡ cond (finished a.mark) a.number r.ended = elim d.branch [
      | then-is_finished w ↦ w.ended-is ∙ sym (ap (λ (b : Bool). cond b a.number r.ended) (sym f ∙ w.if-is_finished.true))
      | else-is_finished w ↦ w.ended-is ∙ sym (ap (λ (b : Bool). cond b a.number r.ended) (sym f ∙ w.if-is_finished.false))
    ] in record {
      records_after = c.put_record.ensures.records_after
          ∙ (λ x. set (records_from a.records.now) a.p (record r { mark = a.mark; worker = who x; ties = r.ties + a.ties; ended = when x }))
          ∙ ap (λ (r : TaskRecord). set (records_from a.records.now) a.p (with_column a.w a.number a.mark a.ties r)) c.record_at-task.ensures
          ∙ changed_is (with_column a.w a.number a.mark a.ties) (records_from a.records.now) a.p;
      records_len_unchanged = c.put_record.ensures.records_len_unchanged;
    }
