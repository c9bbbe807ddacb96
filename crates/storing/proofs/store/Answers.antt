-- A record more is set; where none is left the whole is there. Assumes nothing.
use mathlib.Core.Path.{sym, ap, ◌∙◌}
use Rattle.std.proofs.Common.{◌-◌, ◌+◌}
use lib.ListN.{set}
use Rattle.records.specs.Records.{records_from}
use Rattle.task_records.specs.Copies.{copied}
use Rattle.task_records.proofs.Laws.{copied_more, copied_none}
use Rattle.storing.proofs.store.Goals as goal

pub loop-p-preserved : goal.loop-p-preserved
loop-p-preserved c =
    let n = c.args.e in
    let p = c.loop-p.p in
    let ys = records_from c.args.flat.now in
    ap (λ r. copied (n - (p + 1)) (p + 1) ys (set c.loop-p.records p r)) c.record_at.ensures ∙ sym (copied_more n p ys c.loop-p.records c.loop-p-test.true) ∙ c.loop-p.invariant

pub returns : goal.returns
returns c = sym (copied_none c.args.e c.loop-p.p (records_from c.args.flat.now) c.loop-p.records c.loop-p-test.false) ∙ c.loop-p.invariant
