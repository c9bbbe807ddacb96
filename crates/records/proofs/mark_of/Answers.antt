-- The mark read is the record's. Assumes nothing.
use mathlib.Core.Path.{sym, ap, ◌∙◌}
use Rattle.records.specs.Records.{record_from}
use Rattle.records.proofs.Laws.{get_record, get_mark}
use Rattle.records.proofs.mark_of.Goals as goal

pub returns : goal.returns
unfolding record_from
returns c =
    sym (get_mark _ _ ∙ ap (λ r. r.mark) (get_record _ _))
