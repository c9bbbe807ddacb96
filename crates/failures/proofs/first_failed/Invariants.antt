-- The first from p on is the first of all. Assumes nothing.
use mathlib.Core.Path.{◌≡◌}
use lib.Dec.{eqb}
use lib.ListN.{length}
use Rattle.model.specs.Lists.{below, keep, first_or}
use Rattle.model.specs.Links.{mark, failed}
use Rattle.records.specs.Records.{marks_from}
use Rattle.std.specs.Prelude.{Some, None}
use Rattle.unfinished.proofs.First.{first_from}
use Rattle.failures.proofs.first_failed.Given as goal

abbrev pub invariant-loop-p : goal.invariant-loop-p
invariant-loop-p l = first_from (λ q. eqb (mark (marks_from l.records) q) failed) (length l.records) l.p ≡ first_or (keep (λ q. eqb (mark (marks_from l.records) q) failed) (below (length l.records))) Some None
