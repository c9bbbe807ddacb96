-- What a contract states of the system told z: demand 3, and what follows from it.
-- Assumes nothing.
use Rattle.std.specs.Prelude.{Ok, ℕ, ◌+◌, ◌*◌, ◌≤◌, ◌≡◌, true, List, map, length}
use Rattle.model.specs.declared.Sizes.{Sizes}
use Rattle.model.specs.Answer.{accepted}
use Rattle.model.specs.declared.RunStop.TheVariants.{Finished}
use Rattle.model.specs.Task.{tasks}
use Rattle.model.specs.Plan.{plan_of}
use Rattle.model.specs.Loops.{outcome}
use Rattle.model.specs.Calls.{Lent, state_of, without_calls, all_finished}
use Rattle.model.specs.Refusal.{open_call, run_answer, run_call}
use Rattle.model.specs.History.{Call}
use Rattle.demand.specs.Demand.{Demand3, end, RunIs}
use Rattle.demand.specs.Deeds.{Listed}
use Rattle.demand.specs.Numbered.{Numbered, orderless}

-- two accepted openings of one matrix and one grid of tiles, with any two numbers of workers, and for each a list of calls that finishes
-- every task
pub record TwoOpenings (z y : Sizes) (s r : Lent) (cs ds : List Call) : Type 0 where
  pub tiles : z.tiles ≡ y.tiles
  pub side : z.side ≡ y.side
  pub matrix : s.buffers.matrix ≡ r.buffers.matrix
  pub opened : (open_call z s).answer ≡ accepted
  pub opened' : (open_call y r).answer ≡ accepted
  pub finished : all_finished (plan_of z) (end z s cs) ≡ true
  pub finished' : all_finished (plan_of y) (end y r ds) ≡ true

-- they end with the same matrix, lists, marks, tie sums and outcome; and where the workers are as many, with the same in everything but what tells the
-- order of work (K9)
pub record Alike (z y : Sizes) (s r : Lent) (cs ds : List Call) : Type 0 where
  pub state : state_of (end z s cs) ≡ state_of (end y r ds)
  pub outcome : outcome (plan_of z) (state_of (end z s cs)) ≡ outcome (plan_of y) (state_of (end y r ds))
  pub records : map without_calls (end z s cs).records ≡ map without_calls (end y r ds).records
  pub all_else : z.workers ≡ y.workers → orderless (end z s cs) ≡ orderless (end y r ds)

pub record Promise (z : Sizes) : Type 0 where
  pub any_calls : (s : Lent) (cs : List Call) → (open_call z s).answer ≡ accepted → Demand3 z s cs
  -- which task a column counts for, and when a task is finished
  pub one_by_one : (s : Lent) (cs : List Call) → (open_call z s).answer ≡ accepted → Listed z s cs
  pub runs_are_calls : (budget : ℕ) (s : Lent) → run_answer z s ≡ accepted → RunIs z budget s (run_call z budget s)
  -- t + 1 calls for each task are enough to finish, after any calls
  pub enough : (s : Lent) (cs : List Call) → (open_call z s).answer ≡ accepted → (budget : ℕ) → (z.side + 1) * length (tasks z.tiles) ≤ budget
      → (n : ℕ) × ((run_call z budget (end z s cs)).answer ≡ Ok (Finished n))
  -- the run's number counts the calls, and the records tell which took and which finished each task (K9)
  pub numbered : (s : Lent) (cs : List Call) → (open_call z s).answer ≡ accepted → Numbered z s cs
  pub any_workers : (y : Sizes) (s r : Lent) (cs ds : List Call) → TwoOpenings z y s r cs ds → Alike z y s r cs ds
