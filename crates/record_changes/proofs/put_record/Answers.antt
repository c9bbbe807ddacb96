-- Storing the bytes stores the record: those of its numbers make them. Assumes nothing.
use Rattle.std.proofs.Common.{◌≡◌, set, ap, ◌∙◌, arith, w16, w32}
use Rattle.std.specs.Int.{from_le_bytes}
use Rattle.std.proofs.lemmas.Nat.{from_le_bytes-to_le_bytes_2, from_le_bytes-to_le_bytes_4}
use Rattle.records.specs.Records.{record_from, records_from}
use Rattle.record_changes.proofs.Laws.{set_record}
use Rattle.record_changes.proofs.put_record.Goals as goal

pub returns-clause-records_after : goal.returns-clause-records_after
unfolding record_from
returns-clause-records_after c =
    let r = c.args.task in
    let ties : from_le_bytes w16 c.to_le_bytes.result ≡ r.ties = ap (from_le_bytes w16) c.to_le_bytes.ensures ∙ from_le_bytes-to_le_bytes_2 _ (omega arith) in
    let took : from_le_bytes w32 c.to_le_bytes-t.result ≡ r.took = ap (from_le_bytes w32) c.to_le_bytes-t.ensures ∙ from_le_bytes-to_le_bytes_4 _ (omega arith) in
    let ended : from_le_bytes w32 c.to_le_bytes-e.result ≡ r.ended = ap (from_le_bytes w32) c.to_le_bytes-e.ensures ∙ from_le_bytes-to_le_bytes_4 _ (omega arith) in
    set_record _ _ _ ∙ (λ x. set (records_from c.args.records.now) c.args.p (record r { ties = ties x; took = took x; ended = ended x }))
