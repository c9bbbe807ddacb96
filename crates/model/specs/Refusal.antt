-- What opening, take, column, run and outcome calls answer and leave: the refusals of document 01's table in their order, and else
-- what an accepted call does. A refusal changes nothing. Assumes nothing.
use Rattle.std.specs.Prelude.{Ok, Err, ℕ, suc, ◌-◌, ◌*◌, ◌/◌, ◌%◌, Bool, true, false, cond, not, ◌&&◌, ◌||◌, List, map, length, get_or, eqb, leb, ltb, Float}
use Rattle.std.specs.Float.{nan}
use Rattle.model.specs.declared.Sizes.{Sizes}
use Rattle.worker.specs.declared.Worker.{Worker}
use Rattle.model.specs.Answer.{Answer, OutcomeAnswer, rule_number, accepted, refused_by}
use Rattle.model.specs.declared.Rule.{Rule}
use Rattle.model.specs.declared.Rule.TheVariants.{BadSizes, BadLengths, NotFinite, Damaged, WrongWorker, NoTask, NotReady}
use Rattle.model.specs.declared.Standing.TheVariants.{Known, Unfinished}
use Rattle.model.specs.Limits.{most_tiles, most_side, most_workers}
use Rattle.model.specs.Lists.{below, some, keep, first_or, total}
use Rattle.model.specs.Num.{finite}
use Rattle.model.specs.Tile.{all_finite}
use Rattle.model.specs.Task.{kind_of, k_of, i_of, j_of}
use Rattle.model.specs.Plan.{Plan, plan_of, order}
use Rattle.model.specs.Links.{task, mark, taken, done, failed, finished, ready}
use Rattle.model.specs.Buffer.{finite_tiles}
use Rattle.model.specs.Loops.{outcome}
use Rattle.model.specs.Calls.{Lent, RunEnd, marks_of, ties_of, state_of, record_of, worker, took, advanced, opened, whole_run, calls_open}

-- ---- the form of the table: a row's number, its place, and when it is given; the first row that holds decides

infixr 10 ◌otherwise◌
unfoldable pub refuse : Rule → ℕ → Bool → Answer → Answer
refuse n x true r = refused_by n x
refuse n x false r = r

abbrev pub ◌otherwise◌ : (Answer → Answer) → Answer → Answer
f otherwise r = f r

-- the refusal's number and place: both 0 where the call is accepted
abbrev pub answer_number : Answer → ℕ
answer_number (Ok _) = 0
answer_number (Err why) = rule_number why.rule

abbrev pub answer_place : Answer → ℕ
answer_place (Ok _) = 0
answer_place (Err why) = why.place

-- a call's answer, and what it leaves
pub record Reply : Type 0 where
  pub answer : Answer
  pub left : Lent

unfoldable pub replied : Answer → Lent → Lent → Reply
replied (Ok _) old new = record { answer = accepted; left = new }
replied (Err why) old new = record { answer = Err why; left = old }

unfoldable pub run_replied : Answer → Lent → RunEnd → RunEnd
run_replied (Ok _) old e = e
run_replied (Err why) old e = record { answer = Err why; left = old }

unfoldable pub outcome_replied : Answer → OutcomeAnswer → OutcomeAnswer
outcome_replied (Ok _) r = r
outcome_replied (Err why) r = Err why

-- ---- when each is given

-- from 1 to top
unfoldable pub inside : ℕ → ℕ → Bool
inside top x = leb 1 x && leb x top

-- 1: N, t or W outside its range
unfoldable pub bad_sizes : Sizes → Bool
bad_sizes z = not (inside most_tiles z.tiles && inside most_side z.side && inside most_workers z.workers)

-- 3: the lowest offset of a number that isn't finite
unfoldable pub first_not_finite : List Float → ℕ
first_not_finite m = first_or (keep (λ x. not (finite (get_or m x nan))) (below (length m))) (λ x. x) 0

-- 5: no such worker
unfoldable pub no_worker : ℕ → Lent → Bool
no_worker w s = leb (length s.workers) w

-- worker h holds task p
unfoldable pub holds : ℕ → Worker → Bool
holds p h = h.busy && eqb h.task p

-- the next column of task p, where one worker holds it
unfoldable pub next_column : Lent → ℕ → ℕ
next_column s p = total (map (λ h. h.column) (keep (holds p) s.workers))

module _ (z : Plan) where
  -- 2: a lent length differs from the one stated
  unfoldable pub bad_lengths : ℕ → Lent → Bool
  bad_lengths W s =
      not (eqb (length s.buffers.matrix) (order z * order z) && eqb (length s.buffers.lists) (z.N * z.N * z.t)
      && eqb (length s.records) (length z.tasks) && eqb (length s.workers) W)

  -- 4: the record in place p isn't that of task p, or its mark is none of the five
  unfoldable pub bad_record : Lent → ℕ → Bool
  bad_record s p =
      let a = task z.tasks p in
      let r = get_or s.records p (record_of a) in
      not (eqb r.kind (kind_of a) && eqb r.k (k_of a) && eqb r.i (i_of a) && eqb r.j (j_of a) && leb r.mark 4)

  -- 4: a taken task that no worker holds, or several do
  unfoldable pub bad_hold : Lent → ℕ → Bool
  bad_hold s p = eqb (mark (marks_of s) p) taken && not (eqb (length (keep (holds p) s.workers)) 1)

  -- 4: the most that the sum of task p's ties may be (K7): t·t when it is done or failed, t times its next column when it is taken, else 0
  unfoldable pub tie_limit : Lent → ℕ → ℕ
  tie_limit s p =
      let m = mark (marks_of s) p in
      cond (eqb m done || eqb m failed) (z.t * z.t) (cond (eqb m taken) (z.t * next_column s p) 0)

  unfoldable pub bad_ties : Lent → ℕ → Bool
  bad_ties s p = ltb (tie_limit s p) (get_or (ties_of s) p 0)

  -- 4: a call number in the record of task p is above the run's, or its worker is none of those lent (K9). This is asked of unfinished tasks too
  unfoldable pub bad_calls : Lent → ℕ → Bool
  bad_calls s p =
      let r = get_or s.records p (record_of (task z.tasks p)) in
      not (leb r.took s.number && leb r.ended s.number && ltb r.worker (length s.workers))

  -- the most accepted calls that task p can have had (K9): t + 1 when it is finished, one and its next column when it is taken, else 0
  unfoldable pub call_limit : Lent → ℕ → ℕ
  call_limit s p =
      let m = mark (marks_of s) p in
      cond (finished m) (suc z.t) (cond (eqb m taken) (suc (next_column s p)) 0)

  -- 4: the run's number is above the most calls that all tasks can have had
  unfoldable pub bad_number : Lent → Bool
  bad_number s = ltb (total (map (call_limit s) (below (length z.tasks)))) s.number

  -- 4: what a busy worker holds: there is no such task, it isn't taken, or it has no such column
  unfoldable pub bad_worker : Lent → Worker → Bool
  bad_worker s h = h.busy && not (ltb h.task (length z.tasks) && eqb (mark (marks_of s) h.task) taken && ltb h.column z.t)

  -- 4: the most that an entry of list (i,j) may be
  unfoldable pub entry_limit : ℕ → ℕ → ℕ
  entry_limit i j = cond (eqb i j) (z.t - 1) (cond (ltb j i) z.t 0)

  unfoldable pub bad_entry : Lent → ℕ → Bool
  bad_entry s x = ltb (entry_limit (x / z.t / z.N) (x / z.t % z.N)) (get_or s.buffers.lists x 0)

  -- 4, but for elements
  unfoldable pub damaged : Lent → Bool
  damaged s =
      some (bad_record s) (below (length z.tasks)) || some (bad_hold s) (below (length z.tasks))
      || some (bad_ties s) (below (length z.tasks)) || some (bad_calls s) (below (length z.tasks)) || bad_number s
      || some (bad_worker s) s.workers || some (bad_entry s) (below (z.N * z.N * z.t))

  -- 4, for a column: an element of a tile that the task touches isn't finite. A worker that is idle or doesn't exist has no task
  unfoldable pub bad_tiles : ℕ → Lent → Bool
  bad_tiles w s = (worker s w).busy && not (finite_tiles z (task z.tasks (worker s w).task) s.buffers)

  -- the unfinished tasks, lowest first
  unfoldable pub unfinished : Lent → List ℕ
  unfinished s = keep (λ p. not (finished (mark (marks_of s) p))) (below (length z.tasks))

-- ---- the calls

module _ (z : Sizes) where
  unfoldable pub open_answer : Lent → Answer
  open_answer s =
      refuse BadSizes 0 (bad_sizes z)
      otherwise refuse BadLengths 0 (bad_lengths (plan_of z) z.workers s)
      otherwise refuse NotFinite (first_not_finite s.buffers.matrix) (not (all_finite s.buffers.matrix))
      otherwise accepted

  unfoldable pub open_call : Lent → Reply
  open_call s = replied (open_answer s) s (opened (plan_of z) z.workers s.buffers.matrix)

  unfoldable pub take_answer : ℕ → ℕ → Lent → Answer
  take_answer w p s =
      refuse BadSizes 0 (bad_sizes z)
      otherwise refuse BadLengths 0 (bad_lengths (plan_of z) z.workers s)
      otherwise refuse Damaged 0 (damaged (plan_of z) s)
      otherwise refuse WrongWorker w (no_worker w s || (worker s w).busy)
      otherwise refuse NoTask 0 (leb (length (plan_of z).tasks) p)
      otherwise refuse NotReady p (not (ready (plan_of z).tasks (marks_of s) p))
      otherwise accepted

  unfoldable pub take_call : ℕ → ℕ → Lent → Reply
  take_call w p s = replied (take_answer w p s) s (took (plan_of z) w p s)

  unfoldable pub column_answer : ℕ → Lent → Answer
  column_answer w s =
      refuse BadSizes 0 (bad_sizes z)
      otherwise refuse BadLengths 0 (bad_lengths (plan_of z) z.workers s)
      otherwise refuse Damaged 0 (damaged (plan_of z) s || bad_tiles (plan_of z) w s)
      otherwise refuse WrongWorker w (no_worker w s || not (worker s w).busy)
      otherwise accepted

  unfoldable pub column_call : ℕ → Lent → Reply
  column_call w s = replied (column_answer w s) s (advanced (plan_of z) w s)

  unfoldable pub run_answer : Lent → Answer
  run_answer s =
      refuse BadSizes 0 (bad_sizes z)
      otherwise refuse BadLengths 0 (bad_lengths (plan_of z) z.workers s)
      otherwise refuse Damaged 0 (damaged (plan_of z) s || not (all_finite s.buffers.matrix))
      otherwise accepted

  unfoldable pub run_call : ℕ → Lent → RunEnd
  run_call budget s = run_replied (run_answer s) s (whole_run (plan_of z) z.workers budget s)

  -- What the outcome call answers of a system: its outcome once every task is finished, and before that the lowest unfinished task. It changes nothing
  unfoldable pub outcome_found : Lent → OutcomeAnswer
  outcome_found s = first_or (unfinished (plan_of z) s) (λ p. Ok (Unfinished p)) (Ok (Known (outcome (plan_of z) (state_of s))))

  unfoldable pub outcome_call : Lent → OutcomeAnswer
  outcome_call s = outcome_replied (
      refuse BadSizes 0 (bad_sizes z)
      otherwise refuse BadLengths 0 (bad_lengths (plan_of z) z.workers s)
      otherwise accepted) (outcome_found s)

unfoldable pub refusal_open : Unit {0}
unfolding calls_open refuse replied run_replied outcome_replied inside bad_sizes first_not_finite no_worker bad_lengths next_column bad_record holds bad_hold tie_limit bad_ties bad_calls call_limit bad_number bad_worker entry_limit bad_entry damaged bad_tiles unfinished open_answer open_call take_answer take_call column_answer column_call run_answer run_call outcome_found outcome_call
refusal_open = tt
