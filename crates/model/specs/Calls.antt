-- What accepted calls do: opening, take, column, and a whole run. Document 01, sections "The system and its buffers" and
-- "The outcome, and solving". Assumes nothing.
use Rattle.std.specs.Prelude.{Ok, ℕ, zero, suc, ◌+◌, ◌%◌, Bool, true, false, cond, not, ◌&&◌, ◌||◌, List, map, length, get_or, set, replicate, eqb, Float}
use Rattle.model.specs.declared.TaskRecord.{TaskRecord}
use Rattle.worker.specs.declared.Worker.{Worker}
use Rattle.worker.specs.Holding.{idle, holding}
use Rattle.model.specs.Answer.{RunAnswer}
use Rattle.model.specs.declared.RunStop.TheVariants.{Finished, Spent}
use Rattle.model.specs.Lists.{below, every, keep, first_or}
use Rattle.model.specs.Task.{Task, t_1, kind_of, k_of, i_of, j_of}
use Rattle.model.specs.Plan.{Plan}
use Rattle.model.specs.Links.{task, waiting, taken, spoiled, finished, spoils, ready}
use Rattle.model.specs.Buffer.{Buffers, Ended, filled, column_ends}
use Rattle.model.specs.Loops.{State, start, loops_open}

-- ---- what is lent

-- K9: with the workers goes the run's number, how many takes and columns were accepted since the opening
pub record Lent : Type 0 where
  pub buffers : Buffers
  pub records : List TaskRecord
  pub workers : List Worker
  pub number : ℕ

unfoldable pub marks_of : Lent → List ℕ
marks_of s = map (λ r. r.mark) s.records

-- K7's sums
unfoldable pub ties_of : Lent → List ℕ
ties_of s = map (λ r. r.ties) s.records

-- the buffers, marks and tie sums, as the published loops have them
unfoldable pub state_of : Lent → State
state_of s = record { buffers = s.buffers; marks = marks_of s; ties = ties_of s }

-- the record of a waiting task: no worker has finished it, and no call has taken or ended it
unfoldable pub record_of : Task → TaskRecord
record_of a = record { kind = kind_of a; k = k_of a; i = i_of a; j = j_of a; mark = waiting; worker = 0; ties = 0; took = 0; ended = 0 }

-- the record r, taken by call n
unfoldable pub with_take : ℕ → TaskRecord → TaskRecord
with_take n r = record { kind = r.kind; k = r.k; i = r.i; j = r.j; mark = taken; worker = r.worker; ties = r.ties; took = n; ended = r.ended }

-- the record r once a column of worker w, call n, has left it with the mark m and x ties more: where that ends the task, w and n are written down
unfoldable pub with_column : ℕ → ℕ → ℕ → ℕ → TaskRecord → TaskRecord
with_column w n m x r = record {
  kind = r.kind;
  k = r.k;
  i = r.i;
  j = r.j;
  mark = m;
  worker = cond (finished m) w r.worker;
  ties = r.ties + x;
  took = r.took;
  ended = cond (finished m) n r.ended;
}

-- the record r without what tells the order of work: who finished it, and the calls that took and ended it
unfoldable pub without_calls : TaskRecord → TaskRecord
without_calls r = record { kind = r.kind; k = r.k; i = r.i; j = r.j; mark = r.mark; worker = 0; ties = r.ties; took = 0; ended = 0 }

-- the records with f done to that of task p
unfoldable pub changed : ℕ → (TaskRecord → TaskRecord) → List TaskRecord → List TaskRecord
changed p f rs = set rs p (f (get_or rs p (record_of (t_1 0))))

unfoldable pub worker : Lent → ℕ → Worker
worker s w = get_or s.workers w idle

-- a run's answer, and what it leaves
pub record RunEnd : Type 0 where
  pub answer : RunAnswer
  pub left : Lent

module _ (z : Plan) where
  -- ---- after an opening every list entry is 0, every task waits in its place of the numbering, W workers are idle, and the run's number is 0

  unfoldable pub opened : ℕ → List Float → Lent
  opened W m = record {
    buffers = (start z m).buffers;
    records = map record_of z.tasks;
    workers = replicate W idle;
    number = 0;
  }

  -- ---- worker w takes task p

  unfoldable pub took : ℕ → ℕ → Lent → Lent
  took w p s = record {
    buffers = s.buffers;
    records = changed p (with_take (suc s.number)) s.records;
    workers = set s.workers w (holding p 0);
    number = suc s.number;
  }

  -- ---- worker w does the next column of the task it holds

  -- Column c of task p: spoiled, where it is the first column and the task is spoiled by marks that stand now, or what the column makes
  unfoldable pub column_of : Lent → ℕ → ℕ → Ended
  column_of s p c =
      let a = task z.tasks p in
      elim (eqb c 0 && spoils z.tasks (marks_of s) p) [
        | true ↦ record { left = filled z a s.buffers; mark = spoiled; ties = 0 }
        | false ↦ column_ends z a c s.buffers
      ]

  -- the column done, its task marked and its ties added, and the worker moved on
  unfoldable pub advanced : ℕ → Lent → Lent
  advanced w s =
      let h = worker s w in
      let e = column_of s h.task h.column in
      record {
        buffers = e.left;
        records = changed h.task (with_column w (suc s.number) e.mark e.ties) s.records;
        workers = set s.workers w (cond (finished e.mark) idle (holding h.task (suc h.column)));
        number = suc s.number;
      }

  -- ---- a whole run

  -- the ready tasks, lowest first
  unfoldable pub ready_tasks : Lent → List ℕ
  ready_tasks s = keep (ready z.tasks (marks_of s)) (below (length z.tasks))

  -- every task is finished
  unfoldable pub all_finished : Lent → Bool
  all_finished s = every finished (marks_of s)

  -- worker w has something to do: a column, or a task to take
  unfoldable pub has_work : Lent → ℕ → Bool
  has_work s w = (worker s w).busy || not (eqb (length (ready_tasks s)) 0)

  -- a turn of worker w: a column of the task that it holds, or else the take of the first task that is ready
  unfoldable pub turn : ℕ → Lent → Lent
  turn w s = elim (worker s w).busy [ true ↦ advanced w s | false ↦ took w (first_or (ready_tasks s) (λ p. p) 0) s ]

  -- the next of W workers, from w on, that has something to do: turns with nothing to do are passed over and not counted
  unfoldable pub next_worker : ℕ → ℕ → Lent → ℕ
  next_worker W w s = first_or (keep (has_work s) (map (λ d. (w + d) % W) (below W))) (λ v. v) w

  -- b calls are left of the budget, n have been made, and the turn is worker w's
  unfoldable pub run_from : ℕ → ℕ → ℕ → ℕ → Lent → RunEnd
  run_from W zero n w s = record { answer = cond (all_finished s) (Ok (Finished n)) (Ok (Spent n)); left = s }
  run_from W (suc b) n w s =
      let v = next_worker W w s in
      elim (all_finished s) [
        | true ↦ record { answer = Ok (Finished n); left = s }
        | false ↦ run_from W b (suc n) (suc v % W) (turn v s)
      ]

  -- document 01's whole run: worker 0 has the first turn
  unfoldable pub whole_run : ℕ → ℕ → Lent → RunEnd
  whole_run W budget s = run_from W budget 0 0 s

unfoldable pub calls_open : Unit {0}
unfolding loops_open marks_of ties_of state_of record_of with_take with_column without_calls changed worker opened took column_of advanced ready_tasks all_finished has_work turn next_worker run_from whole_run
calls_open = tt
