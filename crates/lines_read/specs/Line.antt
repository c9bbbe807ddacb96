-- One line by itself: what its tests may take for granted, and the frame that is due there. Assumes nothing.
use Rattle.std.specs.Prelude.{ℕ, suc, ◌+◌, ◌*◌, ◌≤◌, ◌<◌, ◌≡◌, Bool, true, not, ◌&&◌, ◌||◌, List, eqb, ltb, length, get_or}
use Rattle.model.specs.Lists.{some}
use Rattle.model.specs.Refusal.{inside}
use Rattle.model.specs.Read.{Frame, is_digit, field, kind_in, entries_in, not_digits, bad_content}
use Rattle.lines_read.specs.declared.Kind.{Kind}
use Rattle.lines_read.specs.declared.Kind.TheVariants.{Header, Tile, List as ListKind, Outcome, Refusal}
use Rattle.lines_read.specs.declared.Due.{Due}

-- a line with a kind, an I and a J, and with digits up to its last byte
pub record LineOfDigits (l : List ℕ) : Type 0 where
  pub long : 7 ≤ length l
  pub digits : (k : ℕ) → suc k < length l → is_digit (get_or l k 0) ≡ true

-- the number that a line of a kind begins with
abbrev pub kind_number : Kind → ℕ
kind_number Header = 1
kind_number Tile = 2
kind_number ListKind = 3
kind_number Outcome = 4
kind_number Refusal = 5

abbrev pub frame_of : Due → Frame
frame_of d = record { kind = d.kind; i = d.i; j = d.j }

-- 12, of a line that is as long as the kind due says
unfoldable pub malformed : ℕ → List ℕ → Bool
malformed t l = not_digits l || not (inside 5 (kind_in l)) || bad_content t l

-- the content tests of 12, of a list's line and of an outcome's
unfoldable pub bad_entries : ℕ → List ℕ → Bool
bad_entries t l = eqb (length l) (7 + 2 * t) && some (ltb t) (entries_in t l)

unfoldable pub bad_outcome : List ℕ → Bool
bad_outcome l = eqb (length l) 9 && (ltb 2 (field 2 2 l) || eqb (field 2 2 l) 0 && not (eqb (field 4 4 l) 0))
