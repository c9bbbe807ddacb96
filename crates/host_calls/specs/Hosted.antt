-- What a host lends to a call, and what the call tells and leaves. Assumes nothing.
use Rattle.std.specs.Prelude.{ℕ, ◌<◌, ◌≡◌, List, Float, get_or}
use Rattle.worker.specs.declared.Workers.{Workers}
use Rattle.worker.specs.Holding.{idle}
use Rattle.model.specs.Limits.{most_workers}
use Rattle.model.specs.Calls.{Lent, RunEnd}
use Rattle.model.specs.Refusal.{Reply}
use Rattle.model.specs.Solve.{Answers}
use Rattle.records.specs.Records.{all_lent, OthersKept}
use Rattle.host_workers.specs.Workers.{workers_in, bytes_left}
use Rattle.host_answers.specs.declared.Told.{Told}
use Rattle.host_answers.specs.Answers.{told, run_told}

-- matrix, lists, records and workers, and the bytes that say who is busy
pub record Hosted : Type 0 where
  pub matrix : List Float
  pub lists : List ℕ
  pub records : List (List ℕ)
  pub busy : List ℕ
  pub workers : Workers

abbrev pub hosted : List Float → List ℕ → List (List ℕ) → List ℕ → List ℕ → List ℕ → ℕ → ℕ → Hosted
hosted m l r b t c count number = record { matrix = m; lists = l; records = r; busy = b; workers = workers_in b t c count number }

abbrev pub lent_in : Hosted → Lent
lent_in h = all_lent h.matrix h.lists h.records h.workers

-- the slots of other workers stay; the bytes are those left by what was there, and a worker that stays as it was keeps its own
pub record Kept (before after : Hosted) : Type 0 where
  pub others : OthersKept before.workers after.workers
  pub bytes : after.busy ≡ bytes_left before.busy after.workers.slots
  pub own : (v : ℕ) → v < most_workers → get_or after.workers.slots v idle ≡ get_or before.workers.slots v idle → get_or after.busy v 0 ≡ get_or before.busy v 0

-- an opening, a take or a column: it tells its answer, leaves what it leaves, and keeps the rest
pub record Called (call : Lent → Reply) (before after : Hosted) (r : Told) : Type 0 where
  pub tells : r ≡ told (call (lent_in before)).answer
  pub leaves : lent_in after ≡ (call (lent_in before)).left
  pub keeps : Kept before after

-- a run
pub record Ran (call : Lent → RunEnd) (before after : Hosted) (r : Told) : Type 0 where
  pub tells : r ≡ run_told (call (lent_in before)).answer
  pub leaves : lent_in after ≡ (call (lent_in before)).left
  pub keeps : Kept before after

-- a solve
pub record Solved (x : Answers) (answers : List Float) (r : Told) : Type 0 where
  pub tells : r ≡ told x.answer
  pub leaves : answers ≡ x.left
