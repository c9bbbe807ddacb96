-- `numbers_read::number_at` meets its contract: a finite number's bits are no NaN's. Assumes nothing.
use Rattle.digits_read.proofs.Bits.{no_nan_bits}
use Rattle.numbers_read.proofs.number_at.Goals as goal

pub float_from_bits-result : goal.float_from_bits-result
float_from_bits-result c =
    rw c.bits_at.ensures (no_nan_bits _ c.requires.line_value)
