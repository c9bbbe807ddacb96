-- What the calls tell a host: answers and outcomes as numbers. Assumes nothing.
use Rattle.std.specs.Prelude.{Ok, Err, ℕ, cond, eqb}
use Rattle.model.specs.Answer.{Answer, OutcomeAnswer, ReadAnswer, RunAnswer, WriteAnswer, rule_number}
use Rattle.model.specs.declared.RunStop.TheVariants.{Finished, Spent}
use Rattle.model.specs.declared.Standing.TheVariants.{Known, Unfinished}
use Rattle.model.specs.declared.FileRead.TheVariants.{SystemRead, ResultRead}
use Rattle.model.specs.declared.Outcome.{Outcome}
use Rattle.model.specs.declared.Outcome.TheVariants.{Good, Overflow, Singular}
use Rattle.model.specs.Loops.{outcome_number, outcome_place}
use Rattle.model.specs.Refusal.{answer_number, answer_place}
use Rattle.host_answers.specs.declared.Told.{Told}
use Rattle.host_answers.specs.declared.ReadTold.{ReadTold}

-- the version of the calls for hosts: another one where a function or a struct that crosses has changed
abbrev pub interface_version : ℕ
interface_version = 5

-- a refusal's number and place, both 0 where there is none
abbrev pub told : Answer → Told
told a = record { place = answer_place a; count = 0; number = answer_number a; kind = 0 }

-- kind 1 is finished, kind 2 spent
abbrev pub run_told : RunAnswer → Told
run_told (Ok (Finished c)) = record { place = 0; count = c; number = 0; kind = 1 }
run_told (Ok (Spent c)) = record { place = 0; count = c; number = 0; kind = 2 }
run_told (Err why) = told (Err why)

-- an outcome's kind and place are those that files write; kind 3 is unfinished
abbrev pub outcome_told : OutcomeAnswer → Told
outcome_told (Ok (Known o)) = record { place = outcome_place o; count = 0; number = 0; kind = outcome_number o }
outcome_told (Ok (Unfinished p)) = record { place = p; count = 0; number = 0; kind = 3 }
outcome_told (Err why) = told (Err why)

-- the count is the length written
abbrev pub write_told : WriteAnswer → Told
write_told (Ok n) = record { place = 0; count = n; number = 0; kind = 0 }
write_told (Err why) = told (Err why)

-- N and t, and a result's outcome: its kind and place as in its file
abbrev pub read_told : ReadAnswer → ReadTold
read_told (Ok (SystemRead N t)) = record { place = 0; tiles = N; side = t; at = 0; number = 0; kind = 0 }
read_told (Ok (ResultRead N t o)) = record { place = 0; tiles = N; side = t; at = outcome_place o; number = 0; kind = outcome_number o }
read_told (Err why) = record { place = why.place; tiles = 0; side = 0; at = 0; number = rule_number why.rule; kind = 0 }

-- the outcome that is written for a kind and a place: good or overflow where the kind is theirs, and else singular
unfoldable pub outcome_from : ℕ → ℕ → Outcome
outcome_from kind place = cond (eqb kind (outcome_number Good)) Good (cond (eqb kind (outcome_number (Overflow place))) (Overflow place) (Singular place))
