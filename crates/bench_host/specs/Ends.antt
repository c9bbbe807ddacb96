-- What a column tells and leaves. Assumes nothing.
use Rattle.std.specs.Prelude.{ℕ, ◌+◌, ◌*◌, ◌≡◌}
use Rattle.model.specs.Buffer.{Buffers, Ended}

-- a column that ended as e left b, and tells n: the mark, and 256 times the ties
pub record Tells (e : Ended) (b : Buffers) (n : ℕ) : Type 0 where
  pub left : b ≡ e.left
  pub told : n ≡ e.mark + e.ties * 256
