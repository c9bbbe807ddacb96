-- Checking a system by its header and its frames is checking it by the definition. Assumes nothing.
use Prim.Native.Nat.{ℕ, ◌*◌}
use mathlib.Core.Path.{◌≡◌, refl, sym, ap, ◌∙◌}
use mathlib.Core.Bool.{Bool, false}
use mathlib.Core.List.{List, []}
use lib.Ieee.{Float}
use Rattle.std.specs.Prelude.{Ok, Err}
use Rattle.model.specs.Answer.{accepted}
use Rattle.model.specs.declared.Refusal.{Refusal}
use Rattle.model.specs.declared.Rule.TheVariants.{BadLengths}
use Rattle.model.specs.declared.FileRead.TheVariants.{SystemRead}
use Rattle.model.specs.Refusal.{refuse}
use Rattle.model.specs.Read.{lines_from, system_frames, tile_frames, file_answer, SystemReading, system_reading}
use Rattle.frames_read.specs.Follow.{follow, text_end}
use Rattle.header_read.specs.Heads.{header_answer}
use Rattle.numbers_read.specs.Decoded.{tiles_from}
use Rattle.system_checked.specs.Files.{Headed, start, checked_system}
use Rattle.system_checked.proofs.Headers.{facts, start_placed, file_refused, file_followed}
use Rattle.system_checked.proofs.Held.{to_end, tiles_read}

-- ---- what is read, by what the file answers

module _ (lengths : ℕ → ℕ → Bool) (limit : ℕ) (text : List ℕ) (m : List Float) where
  unfoldable pub reading : SystemReading
  reading = system_reading (file_answer limit system_frames lengths (lines_from [] text)) (lines_from [] text) m

  pub refused : (why : Refusal) → file_answer limit system_frames lengths (lines_from [] text) ≡ Err why → record { answer = Err why; matrix = m } ≡ reading
  unfolding reading system_reading
  refused why e = rw e

  module _ (N t : ℕ) (h : Headed limit text N t) (l : lengths N t ≡ false) where
    pub by_frames : file_answer limit system_frames lengths (lines_from [] text) ≡ text_end text (follow t text (system_frames N) start)
    unfolding refuse
    by_frames = file_followed limit system_frames lengths text N t h ∙ ap (λ (b : Bool). refuse BadLengths 0 b (text_end text (follow t text (system_frames N) start))) l

    pub accepted_lem : text_end text (follow t text (system_frames N) start) ≡ accepted → record { answer = Ok (SystemRead N t); matrix = tiles_from (t * t) (N * N) 7 text } ≡ reading
    unfolding reading system_reading system_frames
    accepted_lem e =
        let z = to_end t text (tile_frames N) start e in
        let tiles = tiles_read t N text start z.end (start_placed text (facts h).long) z.followed in
        rw (by_frames ∙ e, (facts h).lines, ← h.tiles_told, ← h.side_told) (ap (λ (f : List Float). record { answer = Ok (SystemRead N t); matrix = f }) (sym tiles))

-- ---- checked alone

module _ (limit : ℕ) (text : List ℕ) where
  pub check_header_refused : (why : Refusal) → header_answer limit text ≡ Err why → Err why ≡ checked_system limit text
  unfolding checked_system reading
  check_header_refused why e = ap (λ (r : SystemReading). r.answer) (refused (λ N t. false) limit text [] why (file_refused limit system_frames (λ N t. false) text why e))

  module _ (N t : ℕ) (h : Headed limit text N t) where
    pub check_refused : (why : Refusal) → text_end text (follow t text (system_frames N) start) ≡ Err why → Err why ≡ checked_system limit text
    unfolding checked_system reading
    check_refused why e = ap (λ (r : SystemReading). r.answer) (refused (λ N t. false) limit text [] why (by_frames (λ N t. false) limit text [] N t h refl ∙ e))

    pub check_accepted : text_end text (follow t text (system_frames N) start) ≡ accepted → Ok (SystemRead N t) ≡ checked_system limit text
    unfolding checked_system reading
    check_accepted e = ap (λ (r : SystemReading). r.answer) (accepted_lem (λ N t. false) limit text [] N t h refl e)
