-- A record more is put; where none is left the whole is there. Assumes nothing.
use mathlib.Core.Path.{sym, ap, ◌∙◌}
use Rattle.std.proofs.Common.{◌-◌, ◌+◌}
use Rattle.records.specs.Records.{records_from}
use Rattle.task_records.specs.Copies.{copied}
use Rattle.task_records.proofs.Laws.{copied_more, copied_none}
use Rattle.loading.proofs.load.Goals as goal

pub loop-p-preserved : goal.loop-p-preserved
loop-p-preserved c =
    let n = c.args.n in
    let p = c.loop-p.p in
    let ys = c.args.records.now in
    ap (λ l. copied (n - (p + 1)) (p + 1) ys l) c.put_record.ensures.records_after ∙ sym (copied_more n p ys (records_from c.loop-p.flat) c.loop-p-test.true) ∙ c.loop-p.invariant

pub returns : goal.returns
returns c = sym (copied_none c.args.n c.loop-p.p c.args.records.now (records_from c.loop-p.flat) c.loop-p-test.false) ∙ c.loop-p.invariant
