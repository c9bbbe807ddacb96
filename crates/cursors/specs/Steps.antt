-- A cursor past the line that is due, which is looked at only as far as the kind due is long. Assumes nothing.
use Rattle.std.specs.Prelude.{Result, Ok, Err, ℕ, ◌+◌, ◌≤◌, List, eqb, ltb, length, take, drop}
use Rattle.model.specs.Answer.{Answer, accepted}
use Rattle.model.specs.declared.Refusal.{Refusal}
use Rattle.model.specs.declared.Rule.TheVariants.{Malformed, WrongEnd}
use Rattle.model.specs.Refusal.{refuse, ◌otherwise◌}
use Rattle.model.specs.Read.{Frame, line_length, line_answer}
use Rattle.cursors.specs.declared.Cursor.{Cursor}

-- the cursor after what was read, or the refusal that stops it
abbrev pub Step : Type 0
Step = Result Cursor Refusal

-- a cursor in a text: lines are not empty, so there are no more of them than bytes
pub record CursorFits (text : List ℕ) (c : Cursor) : Type 0 where
  pub within : c.at ≤ length text
  pub counted : c.line ≤ c.at + 1

-- What the line that begins xs answers by itself, where the frame f is due on line x
unfoldable pub line_due : ℕ → ℕ → Frame → List ℕ → Answer
line_due t x f xs =
    refuse WrongEnd x (eqb (length xs) 0)
    otherwise refuse Malformed x (ltb (length xs) (line_length t f.kind))
    otherwise line_answer t x f (take (line_length t f.kind) xs) accepted

abbrev pub landed : Answer → Cursor → Step
landed (Ok _) c = Ok c
landed (Err why) c = Err why

-- past the line at the cursor, or its refusal
unfoldable pub step_of : ℕ → List ℕ → Frame → Cursor → Step
step_of t text f c = landed (line_due t c.line f (drop c.at text)) (record { at = c.at + line_length t f.kind; line = c.line + 1 })
