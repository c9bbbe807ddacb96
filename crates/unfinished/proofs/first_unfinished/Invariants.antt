-- The first from p on is the first of all. Assumes nothing.
use mathlib.Core.Path.{◌≡◌}
use mathlib.Core.Bool.{not}
use lib.ListN.{length}
use Rattle.model.specs.Lists.{below, keep, first_or}
use Rattle.model.specs.Links.{mark, finished}
use Rattle.records.specs.Records.{marks_from}
use Rattle.std.specs.Prelude.{Some, None}
use Rattle.unfinished.proofs.First.{first_from}
use Rattle.unfinished.proofs.first_unfinished.Given as goal

abbrev pub invariant-loop-p : goal.invariant-loop-p
invariant-loop-p l = first_from (λ q. not (finished (mark (marks_from l.records) q))) (length l.records) l.p ≡ first_or (keep (λ q. not (finished (mark (marks_from l.records) q))) (below (length l.records))) Some None
