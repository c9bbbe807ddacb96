-- The workers that the functions for bench/ make, and what a run and an outcome call tell as a number. Assumes nothing.
use Rattle.std.specs.Prelude.{Ok, Err, ℕ, set, replicate}
use Rattle.worker.specs.declared.Workers.{Workers}
use Rattle.model.specs.Answer.{OutcomeAnswer, RunAnswer, rule_number}
use Rattle.model.specs.declared.RunStop.TheVariants.{Finished, Spent}
use Rattle.model.specs.declared.Standing.TheVariants.{Known, Unfinished}
use Rattle.model.specs.declared.Outcome.{Outcome}
use Rattle.model.specs.declared.Outcome.TheVariants.{Good, Overflow, Singular}
use Rattle.worker.specs.Holding.{idle, holding}
use Rattle.model.specs.Limits.{most_workers}

-- W idle workers, with the run's number n
unfoldable pub idles : ℕ → ℕ → Workers
idles W n = record { slots = replicate most_workers idle; count = W; number = n }

-- of W workers the first holds task p with column c the next, and all others are idle
unfoldable pub one_holding : ℕ → ℕ → ℕ → ℕ → Workers
one_holding W n p c = record { slots = set (replicate most_workers idle) 0 (holding p c); count = W; number = n }

-- the calls that a run counts: 0 where it was refused
abbrev pub calls_of : RunAnswer → ℕ
calls_of (Ok (Finished n)) = n
calls_of (Ok (Spent n)) = n
calls_of (Err why) = 0

-- what an outcome call answers, as a number: outcomes and an unfinished task are above every refusal
abbrev pub known_tells : Outcome → ℕ
known_tells Good = 128
known_tells (Overflow p) = 129
known_tells (Singular x) = 130

abbrev pub outcome_tells : OutcomeAnswer → ℕ
outcome_tells (Ok (Known o)) = known_tells o
outcome_tells (Ok (Unfinished p)) = 131
outcome_tells (Err why) = rule_number why.rule
