-- Task records as they are lent, 16 bytes each: kind, k, i, j, mark, worker, two of the tie sum, and four each of the numbers of the calls that took and
-- ended the task, low bytes first; and everything lent to a call, as the definitions have it. Assumes nothing.
use Rattle.std.specs.Prelude.{ℕ, ◌+◌, ◌*◌, ◌≡◌, List, map, get_or, drop, Float}
use Rattle.model.specs.declared.TaskRecord.{TaskRecord}
use Rattle.worker.specs.declared.Worker.{Worker}
use Rattle.worker.specs.declared.Workers.{Workers}
use Rattle.worker.specs.Holding.{idle}
use Rattle.model.specs.Lists.{table}
use Rattle.model.specs.Calls.{Lent}

-- the numbers of two and of four bytes
abbrev pub two_bytes : ℕ → ℕ → ℕ
two_bytes a b = a + b * 256

abbrev pub four_bytes : ℕ → ℕ → ℕ → ℕ → ℕ
four_bytes a b c d = a + b * 256 + c * 65536 + d * 16777216

-- the record that 16 bytes hold
unfoldable pub record_from : List ℕ → TaskRecord
record_from b = record {
  kind = get_or b 0 0;
  k = get_or b 1 0;
  i = get_or b 2 0;
  j = get_or b 3 0;
  mark = get_or b 4 0;
  worker = get_or b 5 0;
  ties = two_bytes (get_or b 6 0) (get_or b 7 0);
  took = four_bytes (get_or b 8 0) (get_or b 9 0) (get_or b 10 0) (get_or b 11 0);
  ended = four_bytes (get_or b 12 0) (get_or b 13 0) (get_or b 14 0) (get_or b 15 0);
}

unfoldable pub records_from : List (List ℕ) → List TaskRecord
records_from l = map record_from l

unfoldable pub marks_from : List (List ℕ) → List ℕ
marks_from l = map (λ r. r.mark) (records_from l)

unfoldable pub ties_from : List (List ℕ) → List ℕ
ties_from l = map (λ r. r.ties) (records_from l)

-- what is read past the end of the records
abbrev pub blank : TaskRecord
blank = record { kind = 0; k = 0; i = 0; j = 0; mark = 0; worker = 0; ties = 0; took = 0; ended = 0 }

-- W workers, each as its slot has it; one without a slot is idle
unfoldable pub crew : List Worker → ℕ → List Worker
crew slots W = table W (λ w. get_or slots w idle)

-- what is lent: matrix, lists, records, and W workers with the run's number n
unfoldable pub lent : List Float → List ℕ → List (List ℕ) → List Worker → ℕ → ℕ → Lent
lent matrix lists records slots W n = record {
  buffers = record { matrix = matrix; lists = lists };
  records = records_from records;
  workers = crew slots W;
  number = n;
}

-- the same with the workers as a call is handed them
abbrev pub all_lent : List Float → List ℕ → List (List ℕ) → Workers → Lent
all_lent matrix lists records ws = lent matrix lists records ws.slots ws.count ws.number

-- a call keeps the count of the workers, and the slots beyond it
pub record OthersKept (before after : Workers) : Type 0 where
  pub same_count : after.count ≡ before.count
  pub same_slots : drop before.count after.slots ≡ drop before.count before.slots
