-- `result_file::read_result` meets its contract. Assumes nothing.
use Rattle.laws.proofs.Refusals.{passed_on}
use Rattle.system_checked.proofs.Headers.{shape_read, refusal_read}
use Rattle.result_file.proofs.Results.{header_refused}
use Rattle.result_file.proofs.read_result.Goals as goal

pub returns-in_err-shape : goal.returns-in_err-shape
returns-in_err-shape c =
    rw (passed_on _ _ _ c.from_residual.ensures.1 c.in_err-shape.was) (header_refused _ _ _ _ (refusal_read _ _ _ _ c.check_header.ensures c.in_err-shape.was))

pub read_result_lines-requires : goal.read_result_lines-requires
read_result_lines-requires c =
    shape_read _ _ _ _ _ c.check_header.ensures c.in_ok-shape.was
