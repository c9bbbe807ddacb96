-- The bytes read are the record's. Assumes nothing.
use Rattle.records.specs.Records.{record_from}
use Rattle.records.proofs.Laws.{get_record}
use Rattle.records.proofs.record_at.Goals as goal

pub returns : goal.returns
unfolding record_from
returns c =
    let e = get_record c.args.records.now c.args.p in cc
