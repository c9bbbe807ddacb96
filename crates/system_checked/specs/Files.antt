-- What is known of a text once its header is accepted, and what checking a system alone answers. Assumes nothing.
use Rattle.std.specs.Prelude.{ℕ, ◌≡◌, false, List, []}
use Rattle.model.specs.Answer.{ReadAnswer, accepted}
use Rattle.model.specs.Read.{tiles_in, side_in, lines_from, system_frames, file_answer, system_reading}
use Rattle.cursors.specs.declared.Cursor.{Cursor}
use Rattle.header_read.specs.Heads.{header_line, header_answer}

-- line 1 is accepted and tells N and t
pub record Headed (limit : ℕ) (text : List ℕ) (N t : ℕ) : Type 0 where
  pub accepted : header_answer limit text ≡ accepted
  pub tiles_told : N ≡ tiles_in (header_line text)
  pub side_told : t ≡ side_in (header_line text)

-- the cursor after the header
abbrev pub start : Cursor
start = record { at = 7; line = 2 }

-- what a system's text answers where n is at most limit, whatever is lent
unfoldable pub checked_system : ℕ → List ℕ → ReadAnswer
checked_system limit text = let ls = lines_from [] text in (system_reading (file_answer limit system_frames (λ N t. false) ls) ls []).answer
