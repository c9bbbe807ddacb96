-- What the search for a ready task asks of its callers, and what it tells. Assumes nothing.
use Rattle.std.specs.Prelude.{ℕ, ◌≤◌, ◌<◌, true, false, ◌≡◌, List, length}
use Rattle.model.specs.Task.{tasks}
use Rattle.model.specs.Links.{ready}
use Rattle.records.specs.Records.{marks_from}
use Rattle.marks.specs.Marks.{Recorded}

-- every record has the indices of its task, and no task below `from` is ready
pub record NoneBelow (n : ℕ) (records : List (List ℕ)) (from : ℕ) : Type 0 where
  pub recorded : (p : ℕ) → p < length records → Recorded n records p
  pub none : (q : ℕ) → q < from → ready (tasks n) (marks_from records) q ≡ false
  pub within : from ≤ length records

-- p is the lowest ready task, or the number of tasks where none is ready
pub record LowestReady (n : ℕ) (records : List (List ℕ)) (p : ℕ) : Type 0 where
  pub none : (q : ℕ) → q < p → ready (tasks n) (marks_from records) q ≡ false
  pub within : p ≤ length records
  pub found : p < length records → ready (tasks n) (marks_from records) p ≡ true

-- past p the search may go on at r: no task between them is ready
pub record NoneBetween (n : ℕ) (records : List (List ℕ)) (p r : ℕ) : Type 0 where
  pub onward : p < r
  pub none : (q : ℕ) → p < q → q < r → ready (tasks n) (marks_from records) q ≡ false
  pub within : r ≤ length records
