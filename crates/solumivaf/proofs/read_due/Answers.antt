-- What was read decides what is printed. Assumes nothing.
use Rattle.std.proofs.Common.{rules}
use Rattle.solumivaf.proofs.Decided.{due_read}
use Rattle.solumivaf.proofs.read_due.Goals as goal

pub returns-clause-decides : goal.returns-clause-decides
returns-clause-decides g c =
    due_read _ _ _ c.args.buffer.now c.read_full.new.part c.read_full-2.new.part c.in_ok-front.front c.in_ok-n.n c.bytes_due-due.result
    (search rules) (search rules) (search rules) (search rules) (search rules) c.in_ok-front.ensures.bytes.0 c.in_ok-n.ensures.bytes.0 c.in_ok-n.ensures.bytes.1
    c.bytes_due-due.ensures.by_index
