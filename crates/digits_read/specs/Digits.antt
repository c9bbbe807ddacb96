-- What reading a field of digits asks of a line. Assumes nothing.
use Rattle.std.specs.Prelude.{ℕ, ◌+◌, ◌≤◌, ◌<◌, ◌≡◌, true, List, length, get_or}
use Rattle.model.specs.Read.{is_digit}

-- the n places from p on are in the line, hold digits, and are at most 16
pub record FieldOfDigits (l : List ℕ) (p n : ℕ) : Type 0 where
  pub inside : p + n ≤ length l
  pub short : n ≤ 16
  pub digits : (k : ℕ) → k < n → is_digit (get_or l (p + k) 0) ≡ true
