-- K9: what call numbers tell of the calls that were made. Assumes nothing.
use Rattle.std.specs.Prelude.{ℕ, suc, ◌<◌, ◌≡◌, Bool, true, false, cond, not, ◌&&◌, List, [], ◌∷◌, ◌++◌, map, eqb, length, get_or}
use Rattle.model.specs.declared.Sizes.{Sizes}
use Rattle.model.specs.declared.TaskRecord.{TaskRecord}
use Rattle.model.specs.Lists.{below, total, every, keep}
use Rattle.model.specs.Task.{Task, t_1, kind_of, k_of, i_of, j_of, tasks}
use Rattle.model.specs.Links.{task, mark, linked}
use Rattle.model.specs.Plan.{Plan, plan_of}
use Rattle.model.specs.Calls.{Lent, record_of, without_calls}
use Rattle.model.specs.Refusal.{open_call}
use Rattle.model.specs.History.{Call, spent_on}
use Rattle.demand.specs.Demand.{end}
use Rattle.demand.specs.Deeds.{Deed, did_take, did_column, deeds, finishes}

-- ---- the deeds, numbered from 1 in their order

-- the deed takes task p
unfoldable pub takes : ℕ → Deed → Bool
takes p (did_take w q s) = eqb q p
takes p (did_column w s) = false

-- its worker
unfoldable pub doer : Deed → ℕ
doer (did_take w q s) = w
doer (did_column w s) = w

-- f of the last deed that passes the test and of its number, where n deeds came before these; x where none passes
unfoldable pub last_from : (Deed → Bool) → (ℕ → Deed → ℕ) → ℕ → ℕ → List Deed → ℕ
last_from test f n x [] = x
last_from test f n x (d ∷ ds) = last_from test f (suc n) (cond (test d) (f (suc n) d) x) ds

-- the number of that deed, and its worker, 0 where there is none
abbrev pub number_of : (Deed → Bool) → List Deed → ℕ
number_of test ds = last_from test (λ n d. n) 0 0 ds

abbrev pub worker_of : (Deed → Bool) → List Deed → ℕ
worker_of test ds = last_from test (λ n d. doer d) 0 0 ds

-- the record r of task p tells these deeds of it
pub record Tells (z : Plan) (p : ℕ) (ds : List Deed) (r : TaskRecord) : Type 0 where
  pub took : r.took ≡ number_of (takes p) ds
  pub ended : r.ended ≡ number_of (finishes z p) ds
  pub worker : r.worker ≡ worker_of (finishes z p) ds

-- ---- the numbers in all records

unfoldable pub took_numbers : Lent → List ℕ
took_numbers s = map (λ r. r.took) s.records

unfoldable pub ended_numbers : Lent → List ℕ
ended_numbers s = map (λ r. r.ended) s.records

-- no number stands twice in the list
unfoldable pub distinct : List ℕ → Bool
distinct [] = true
distinct (x ∷ xs) = every (λ y. not (eqb x y)) xs && distinct xs

-- in the state s the numbers of takes and ends are all different, and a task's take comes after the ends of those that it waits for
pub record InOrder (ts : List Task) (s : Lent) : Type 0 where
  pub apart : distinct (keep (λ n. not (eqb n 0)) (took_numbers s ++ ended_numbers s)) ≡ true
  pub linked_first : (p q : ℕ) → p < q → q < length ts → linked ts p q ≡ true → 0 < get_or (took_numbers s) q 0
      → (0 < get_or (ended_numbers s) p 0) × (get_or (ended_numbers s) p 0 < get_or (took_numbers s) q 0)

-- s is lent to an accepted opening told z; then the calls cs are made
pub record Numbered (z : Sizes) (s : Lent) (cs : List Call) : Type 0 where
  -- the run's number counts the accepted takes and columns, those inside runs among them
  pub counts : (end z s cs).number ≡ length (deeds cs (open_call z s).left)
  -- it is the sum of what demand 3 counts for each task
  pub sums : (end z s cs).number ≡ total (map (λ q. spent_on q cs (open_call z s).left) (below (length (tasks z.tiles))))
  -- each record tells which of them took the task, which finished it, and whose that was
  pub tells : (p : ℕ) → p < length (tasks z.tiles) → Tells (plan_of z) p (deeds cs (open_call z s).left) (get_or (end z s cs).records p (record_of (t_1 0)))
  pub in_order : InOrder (tasks z.tiles) (end z s cs)

-- ---- what does not tell the order of work

-- everything lent, without the run's number and what the records tell of calls
unfoldable pub orderless : Lent → Lent
orderless s = record { buffers = s.buffers; records = map without_calls s.records; workers = s.workers; number = 0 }

-- the tasks' records with these marks and tie sums
unfoldable pub records_with : List Task → List ℕ → List ℕ → List TaskRecord
records_with ts ms ns = map (λ p. let a = task ts p in record {
  kind = kind_of a;
  k = k_of a;
  i = i_of a;
  j = j_of a;
  mark = mark ms p;
  worker = 0;
  ties = get_or ns p 0;
  took = 0;
  ended = 0;
}) (below (length ts))
