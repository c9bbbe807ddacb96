-- The old record, taken by that call, is put in its place. Assumes nothing.
use mathlib.Core.Path.{ap, ◌∙◌}
use lib.ListN.{set}
use Rattle.model.specs.declared.TaskRecord.{TaskRecord}
use Rattle.model.specs.Calls.{with_take}
use Rattle.records.specs.Records.{records_from}
use Rattle.record_changes.proofs.Laws.{changed_is}
use Rattle.record_changes.proofs.take_record.Goals as goal

pub returns : goal.returns
unfolding with_take
returns c =
    let a = c.args in record {
      records_after = c.put_record.ensures.records_after
          ∙ ap (λ (r : TaskRecord). set (records_from a.records.now) a.p (with_take a.number r)) c.record_at-task.ensures
          ∙ changed_is (with_take a.number) (records_from a.records.now) a.p;
      records_len_unchanged = c.put_record.ensures.records_len_unchanged;
    }
