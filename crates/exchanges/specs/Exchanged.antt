-- What the exchange of two runs of numbers leaves. Assumes nothing.
use Rattle.std.specs.Prelude.{ℕ, List, Float}
use Rattle.model.specs.Lists.{part, with_part}

-- n numbers from a on exchanged with the n from b on
unfoldable pub exchanged_parts : ℕ → ℕ → ℕ → List Float → List Float
exchanged_parts a b n m = with_part a n (part b n m) (with_part b n (part a n m) m)
