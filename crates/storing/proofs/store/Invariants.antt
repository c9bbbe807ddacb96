-- Where the loop stands: what is left to do gives the whole. Assumes nothing.
use Rattle.std.proofs.Common.{◌-◌, ◌≡◌}
use Rattle.records.specs.Records.{records_from}
use Rattle.task_records.specs.Copies.{copied}
use Rattle.storing.proofs.store.Given as goal

abbrev pub invariant-loop-p : goal.invariant-loop-p
invariant-loop-p l = copied (l.e - l.p) l.p (records_from l.flat) l.records ≡ copied (l.e - l.a) l.a (records_from l.flat) l.fn.records
