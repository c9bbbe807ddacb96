-- What is left to read is a part of the text, and each turn leaves less of it. Assumes nothing.
use Rattle.std.proofs.Common.{length, ◌≤◌}
use Rattle.call_script.proofs.read_full.Given as goal

abbrev pub invariant-loop-n : goal.invariant-loop-n
invariant-loop-n g l = length l.rest ≤ l.whole

abbrev pub decreases-loop-n : goal.decreases-loop-n
decreases-loop-n g l = length l.rest
