-- Where the loop stands: what is left to do gives the whole. Assumes nothing.
use Rattle.std.proofs.Common.{◌-◌, ◌≡◌}
use Rattle.records.specs.Records.{records_from}
use Rattle.task_records.specs.Copies.{copied}
use Rattle.loading.proofs.load.Given as goal

abbrev pub invariant-loop-p : goal.invariant-loop-p
invariant-loop-p l = copied (l.n - l.p) l.p l.records (records_from l.flat) ≡ copied l.n 0 l.fn.records (records_from l.fn.flat)
