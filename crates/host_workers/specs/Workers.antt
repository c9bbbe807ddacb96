-- The workers of a host: three lists, a count, and the run's number. Assumes nothing.
use Rattle.std.specs.Prelude.{ℕ, Bool, true, false, cond, not, List, eqb, get_or}
use Rattle.worker.specs.declared.Worker.{Worker}
use Rattle.worker.specs.declared.Workers.{Workers}
use Rattle.worker.specs.Holding.{idle}
use Rattle.model.specs.Limits.{most_workers}
use Rattle.model.specs.Lists.{table}

-- ---- the workers that the lists have

-- any byte but 0 says that a worker is busy
unfoldable pub says_busy : ℕ → Bool
says_busy x = not (eqb x 0)

-- worker v has place v of each list
unfoldable pub worker_in : List ℕ → List ℕ → List ℕ → ℕ → Worker
worker_in b t c v = record { busy = says_busy (get_or b v 0); task = get_or t v 0; column = get_or c v 0 }

-- the slots
unfoldable pub slots_in : List ℕ → List ℕ → List ℕ → List Worker
slots_in b t c = table most_workers (worker_in b t c)

abbrev pub workers_in : List ℕ → List ℕ → List ℕ → ℕ → ℕ → Workers
workers_in b t c count number = record { slots = slots_in b t c; count = count; number = number }

-- ---- the bytes that a call leaves

-- a byte stays where it says what it should, and else is 1 for busy and 0 for idle
unfoldable pub byte_left : ℕ → Bool → ℕ
byte_left x true = cond (says_busy x) x 1
byte_left x false = cond (says_busy x) 0 x

-- those of the slots, where b was there
unfoldable pub bytes_left : List ℕ → List Worker → List ℕ
bytes_left b slots = table most_workers (λ v. byte_left (get_or b v 0) (get_or slots v idle).busy)
