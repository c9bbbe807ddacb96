-- What the header answers, by the seven bytes that it has. Assumes nothing.
use Rattle.std.specs.Prelude.{Result, Ok, Err, ℕ, ◌*◌, ◌≡◌, Bool, false, not, ◌||◌, List, [], eqb, ltb, length, take, drop}
use Rattle.model.specs.Answer.{Answer, ReadAnswer, accepted}
use Rattle.model.specs.declared.Refusal.{Refusal}
use Rattle.model.specs.declared.Rule.TheVariants.{BadSizes, BadLengths, Malformed, WrongFrame, WrongEnd}
use Rattle.model.specs.declared.FileRead.TheVariants.{SystemRead}
use Rattle.model.specs.Refusal.{refuse, ◌otherwise◌}
use Rattle.model.specs.Text.{bad_shape}
use Rattle.model.specs.Read.{Frame, kind_in, tiles_in, side_in, lines_from, lines_answer, file_answer, system_reading, no_limit}
use Rattle.lines_read.specs.Line.{malformed}
use Rattle.header_read.specs.declared.Shape.{Shape}

-- N and t of an accepted header, or its refusal
abbrev pub Header : Type 0
Header = Result Shape Refusal

abbrev pub shape : ℕ → ℕ → Shape
shape N t = record { tiles = N; side = t }

-- the first line of a text, as far as it is looked at
abbrev pub header_line : List ℕ → List ℕ
header_line text = take 7 text

-- what line 1 answers, where n is at most limit
unfoldable pub header_answer : ℕ → List ℕ → Answer
header_answer limit text =
    let h = header_line text in
    refuse WrongEnd 1 (eqb (length text) 0)
    otherwise refuse Malformed 1 (ltb (length text) 7)
    otherwise refuse Malformed 1 (malformed 0 h)
    otherwise refuse WrongFrame 1 (not (eqb (kind_in h) 1))
    otherwise refuse BadSizes 1 (bad_shape (tiles_in h) (side_in h) || ltb limit (tiles_in h * side_in h))
    otherwise accepted

-- N and t of an accepted header, or the refusal
abbrev pub shaped : Answer → List ℕ → Header
shaped (Ok _) h = Ok (shape (tiles_in h) (side_in h))
shaped (Err why) h = Err why

-- what line 1 of a text tells
unfoldable pub header_of : ℕ → List ℕ → Header
header_of limit text = shaped (header_answer limit text) (header_line text)

-- what line 1 tells by itself: a text that ends with it, where no frame is due after it
unfoldable pub sizes_in : List ℕ → ReadAnswer
sizes_in text = let ls = take 1 (lines_from [] text) in (system_reading (file_answer no_limit (λ N. []) (λ N t. false) ls) ls []).answer

-- the same answer as a header has it
abbrev pub sizes_told : Header → ReadAnswer
sizes_told (Ok h) = Ok (SystemRead h.tiles h.side)
sizes_told (Err why) = Err why

-- What line 1 told as r says of every reading of the text, whatever frames are due and lengths are lent: where it is refused, the reading is
-- refused alike; else lengths are judged by the N and t told, and then the lines after it
pub record Foretells (text : List ℕ) (r : ReadAnswer) : Type 0 where
  pub refused : (why : Refusal) → r ≡ Err why → (frames : ℕ → List Frame) (lengths : ℕ → ℕ → Bool) → file_answer no_limit frames lengths (lines_from [] text) ≡ Err why
  pub sized : (N t : ℕ) → r ≡ Ok (SystemRead N t) → (frames : ℕ → List Frame) (lengths : ℕ → ℕ → Bool)
      → file_answer no_limit frames lengths (lines_from [] text) ≡ refuse BadLengths 0 (lengths N t) (lines_answer t 2 (frames N) (lines_from [] (drop 7 text)))
