-- What calls, readers and writers answer: a value, or the refusal that is broken first. Document 01's table gives each rule its number. Assumes nothing.
use Rattle.std.specs.Prelude.{ℕ, Result, Ok, Err}
use Rattle.model.specs.declared.Refusal.{Refusal}
use Rattle.model.specs.declared.Rule.{Rule}
use Rattle.model.specs.declared.Rule.TheVariants.{BadSizes, BadLengths, NotFinite, Damaged, WrongWorker, NoTask, NotReady, NotFinished, TaskOverflow, RowSingular, NotSolved, Malformed, WrongFrame, WrongEnd, NoRoom}
use Rattle.model.specs.declared.RunStop.{RunStop}
use Rattle.model.specs.declared.Standing.{Standing}
use Rattle.model.specs.declared.FileRead.{FileRead}

-- a rule's number in the table of refusals
abbrev pub rule_number : Rule → ℕ
rule_number BadSizes = 1
rule_number BadLengths = 2
rule_number NotFinite = 3
rule_number Damaged = 4
rule_number WrongWorker = 5
rule_number NoTask = 6
rule_number NotReady = 7
rule_number NotFinished = 8
rule_number TaskOverflow = 9
rule_number RowSingular = 10
rule_number NotSolved = 11
rule_number Malformed = 12
rule_number WrongFrame = 13
rule_number WrongEnd = 14
rule_number NoRoom = 15

-- the refusal by a rule at a place
abbrev pub refusal : Rule → ℕ → Refusal
refusal r x = record { rule = r; place = x }

-- what an opening, a take, a column and a solve answer; a whole run; an outcome call; a writer; a reader
abbrev pub Answer : Type 0
Answer = Result (Unit {0}) Refusal

abbrev pub RunAnswer : Type 0
RunAnswer = Result RunStop Refusal

abbrev pub OutcomeAnswer : Type 0
OutcomeAnswer = Result Standing Refusal

abbrev pub WriteAnswer : Type 0
WriteAnswer = Result ℕ Refusal

abbrev pub ReadAnswer : Type 0
ReadAnswer = Result FileRead Refusal

-- a call that is accepted, and one that a rule refuses at a place
abbrev pub accepted : Answer
accepted = Ok tt

abbrev pub refused_by : {A : Type 0} → Rule → ℕ → Result A Refusal
refused_by r x = Err (refusal r x)
