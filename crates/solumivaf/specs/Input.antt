-- What was read: how much of a buffer it may fill, which of the bytes that there were to read it is, and whether it decides what the program
-- prints for all of them. Assumes nothing.
use Rattle.std.specs.Prelude.{Result, Ok, Err, ◌≡◌, ℕ, ◌<◌, ◌≤◌, List, take, length, Option, IfSome}
use Rattle.std.specs.Io.KnownBytes.{Consumes, IsAtEnd, Keeps}
use Rattle.model.specs.Read.{program}
use Rattle.solumivaf.specs.declared.Failure.{Failure}
use Rattle.solumivaf.specs.declared.Failure.TheVariants.{Unread, Incomplete}

-- no more bytes than there is room for
abbrev pub Within : {E : Type 0} → ℕ → Result ℕ E → Type 0
Within room (Ok n) = n ≤ room
Within room (Err why) = Unit {0}

module _ {E : Type 0} (before after : Option (List ℕ)) (part : List ℕ) where
  -- the next bytes stand at the front of the part; none, where there is room, only at the end
  abbrev pub Took : Result ℕ E → Type 0
  Took (Ok n) = Consumes before after (take n part) × (n ≡ 0 → 0 < length part → IsAtEnd after)
  Took (Err why) = Unit {0}

  -- the next bytes stand at the front of the part; fewer than there is room for only at the end
  abbrev pub Filled : Result ℕ E → Type 0
  Filled (Ok n) = Consumes before after (take n part) × (n < length part → IsAtEnd after)
  Filled (Err why) = Unit {0}

-- the program prints the same for what was read as for all that there was to read
abbrev pub Decides : {E : Type 0} → Option (List ℕ) → List ℕ → Result ℕ E → Type 0
Decides before buffer (Ok n) = IfSome before (λ text. program (take n buffer) ≡ program text)
Decides before buffer (Err why) = Unit {0}

-- where the input could not be read nothing is printed
abbrev pub QuietWhereUnread : Option (List ℕ) → Option (List ℕ) → Failure → Type 0
QuietWhereUnread before after (Unread why) = Keeps before after
QuietWhereUnread before after (Incomplete why) = Unit {0}
