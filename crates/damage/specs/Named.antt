-- Kind, k, i and j of a record as one number of 32 bits. Assumes nothing.
use Rattle.std.specs.Prelude.{ℕ, ◌<◌}
use Rattle.model.specs.declared.TaskRecord.{TaskRecord}
use Rattle.model.specs.Calls.{record_of}
use Rattle.records.specs.Records.{four_bytes}
use Rattle.links.specs.Closed.{key, task_at}

abbrev pub name_of : TaskRecord → ℕ
name_of r = four_bytes r.kind r.k r.i r.j

-- that of the task with this triple
abbrev pub name_at : ℕ → ℕ → ℕ → ℕ
name_at k i j = name_of (record_of (task_at (key k i j)))

-- the four are bytes
pub record Bytes (r : TaskRecord) : Type 0 where
  pub kind_fits : r.kind < 256
  pub k_fits : r.k < 256
  pub i_fits : r.i < 256
  pub j_fits : r.j < 256
