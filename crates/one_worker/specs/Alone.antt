-- What one worker's whole run leaves of a system, and what may be lent to it. Assumes nothing.
use Rattle.std.specs.Prelude.{ℕ, suc, ◌*◌, ◌≤◌, ◌≡◌, true, List, length, Float}
use Rattle.model.specs.declared.TaskRecord.{TaskRecord}
use Rattle.model.specs.declared.Outcome.{Outcome}
use Rattle.model.specs.Lengths.{LentFits}
use Rattle.model.specs.Limits.{most_tiles, most_side}
use Rattle.model.specs.Tile.{all_finite}
use Rattle.model.specs.Plan.{Plan, sizes}
use Rattle.model.specs.Buffer.{Buffers}
use Rattle.model.specs.Loops.{loops, outcome as outcome_of}
use Rattle.model.specs.Calls.{state_of, opened, whole_run}
use Rattle.demand.specs.Numbered.{records_with}

-- sizes in their ranges, lengths that fit them, and finite numbers
pub record Lendable (N t : ℕ) (m : List Float) (l : List ℕ) (r : List (List ℕ)) : Type 0 where
  pub tiles : (1 ≤ N) × (N ≤ most_tiles)
  pub side : (1 ≤ t) × (t ≤ most_side)
  pub lengths : LentFits (sizes N t 1) m l r
  pub finite_all : all_finite m ≡ true

-- the buffers and the task records at the end, and the outcome
pub record Result : Type 0 where
  pub buffers : Buffers
  pub records : List TaskRecord
  pub outcome : Outcome

-- one worker, with calls enough for every task
unfoldable pub alone : Plan → List Float → Result
alone z m =
    let e = whole_run z 1 (length z.tasks * suc z.t) (opened z 1 m) in
    record { buffers = e.left.buffers; records = e.left.records; outcome = outcome_of z (state_of e.left) }

-- the published loops, whose tasks have a mark and a tie sum each; they make no calls
unfoldable pub published : Plan → List Float → Result
published z m = let e = loops z m in record { buffers = e.buffers; records = records_with z.tasks e.marks e.ties; outcome = outcome_of z e }
