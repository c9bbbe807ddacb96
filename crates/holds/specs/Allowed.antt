-- What refusal 4 allows a task. Assumes nothing.
use Rattle.std.specs.Prelude.{ℕ, ◌≤◌, ◌≡◌, not, List, Result, Ok, Err, is_ok}
use Rattle.worker.specs.declared.Worker.{Worker}
use Rattle.model.specs.declared.Sizes.{Sizes}
use Rattle.model.specs.Plan.{plan_of}
use Rattle.model.specs.Refusal.{bad_hold, tie_limit, call_limit}
use Rattle.checks.specs.Checks.{held}
use Rattle.holds.specs.declared.Limits.{Limits}

-- l has the limits of task p among these records and W workers: the largest tie sum, and the most calls, which are few
pub record Limited (z : Sizes) (records : List (List ℕ)) (slots : List Worker) (p : ℕ) (l : Limits) : Type 0 where
  pub ties : l.ties ≡ tie_limit (plan_of z) (held records slots z.workers) p
  pub calls : l.calls ≡ call_limit (plan_of z) (held records slots z.workers) p
  pub few : l.calls ≤ 8161

-- the limits told, held or not
abbrev pub limits_in : Result Limits Limits → Limits
limits_in (Ok l) = l
limits_in (Err l) = l

-- l has its limits, as Ok where it is held as its mark says, and as Err where it is not
pub record Allowed (z : Sizes) (records : List (List ℕ)) (slots : List Worker) (p : ℕ) (l : Result Limits Limits) : Type 0 where
  pub as_marked : not (is_ok l) ≡ bad_hold (plan_of z) (held records slots z.workers) p
  pub limits : Limited z records slots p (limits_in l)
