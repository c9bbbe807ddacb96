-- Following the frames that are due through a text with a cursor. Assumes nothing.
use Rattle.std.specs.Prelude.{Ok, Err, ℕ, List, [], ◌∷◌, map, ltb, length}
use Rattle.model.specs.Answer.{Answer, accepted}
use Rattle.model.specs.declared.Rule.TheVariants.{WrongEnd}
use Rattle.model.specs.Lists.{below}
use Rattle.model.specs.Refusal.{refuse}
use Rattle.model.specs.Read.{Frame}
use Rattle.cursors.specs.declared.Cursor.{Cursor}
use Rattle.cursors.specs.Steps.{Step, step_of}

-- what comes after a step that was not refused
abbrev pub onward : (Cursor → Step) → Step → Step
onward k (Ok c) = k c
onward k (Err why) = Err why

-- the cursor past the lines that are due, or the first refusal
unfoldable pub follow : ℕ → List ℕ → List Frame → Cursor → Step
follow t text [] c = Ok c
follow t text (f ∷ fs) c = onward (follow t text fs) (step_of t text f c)

-- the frames of a kind in row i, J rising
abbrev pub row_frames : ℕ → ℕ → ℕ → List Frame
row_frames kind n i = map (λ j. record { kind = kind; i = i; j = j }) (below n)

-- what a text answers whose frames were followed: 14 where more text comes after the last
unfoldable pub text_end : List ℕ → Step → Answer
text_end text (Ok c) = refuse WrongEnd c.line (ltb c.at (length text)) accepted
text_end text (Err why) = Err why
