-- Everything lent to a call, with the records as structs. Assumes nothing.
use Rattle.std.specs.Prelude.{ℕ, List, Float}
use Rattle.model.specs.declared.TaskRecord.{TaskRecord}
use Rattle.worker.specs.declared.Workers.{Workers}
use Rattle.model.specs.Calls.{Lent}
use Rattle.records.specs.Records.{crew}

-- what is lent: matrix, lists, records, and the workers
unfoldable pub whole : List Float → List ℕ → List TaskRecord → Workers → Lent
whole matrix lists records ws = record {
  buffers = record { matrix = matrix; lists = lists };
  records = records;
  workers = crew ws.slots ws.count;
  number = ws.number;
}
