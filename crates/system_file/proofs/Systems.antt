-- Reading a system by its header, its length and its frames is reading it by the definition. Assumes nothing.
use Prim.Native.Nat.{ℕ, ◌*◌}
use mathlib.Core.Path.{◌≡◌, ap, ◌∙◌}
use mathlib.Core.Bool.{Bool}
use mathlib.Core.List.{List}
use lib.ListN.{length}
use lib.Ieee.{Float}
use Rattle.std.specs.Prelude.{Ok, Err}
use Rattle.model.specs.Answer.{accepted, refusal, refused_by}
use Rattle.model.specs.declared.Refusal.{Refusal}
use Rattle.model.specs.declared.Rule.TheVariants.{BadLengths}
use Rattle.model.specs.declared.FileRead.TheVariants.{SystemRead}
use Rattle.model.specs.Refusal.{refuse}
use Rattle.model.specs.Text.{bad_matrix}
use Rattle.model.specs.Read.{system_frames, tile_frames, no_limit, read_system}
use Rattle.frames_read.specs.Follow.{follow, text_end}
use Rattle.header_read.specs.Heads.{header_answer}
use Rattle.numbers_read.specs.Decoded.{TileLines, tiles_from}
use Rattle.system_checked.specs.Files.{Headed, start}
use Rattle.system_checked.proofs.Headers.{facts, start_placed, file_refused, file_followed}
use Rattle.system_checked.proofs.Held.{to_end, tile_lines_lem}
use Rattle.system_checked.proofs.Systems.{reading, refused, by_frames, accepted_lem}
use Rattle.laws.proofs.Refusals.{right_matrix, wrong_matrix}

-- ---- into a lent matrix

module _ (text : List ℕ) (m : List Float) where
  pub header_refused : (why : Refusal) → header_answer no_limit text ≡ Err why → record { answer = Err why; matrix = m } ≡ read_system text m
  unfolding read_system reading
  header_refused why e = refused (λ N t. bad_matrix N t m) no_limit text m why (file_refused no_limit system_frames (λ N t. bad_matrix N t m) text why e)

  module _ (N t : ℕ) (h : Headed no_limit text N t) where
    pub length_refused : (length m ≡ N * t * (N * t) → ⊥) → record { answer = refused_by BadLengths 0; matrix = m } ≡ read_system text m
    unfolding read_system reading refuse
    length_refused n =
        refused (λ N t. bad_matrix N t m) no_limit text m (refusal BadLengths 0)
        (file_followed no_limit system_frames (λ N t. bad_matrix N t m) text N t h ∙ ap (λ (b : Bool). refuse BadLengths 0 b (text_end text (follow t text (system_frames N) start))) (wrong_matrix N t m n))

    module _ (l : length m ≡ N * t * (N * t)) where
      pub lines_refused : (why : Refusal) → text_end text (follow t text (system_frames N) start) ≡ Err why → record { answer = Err why; matrix = m } ≡ read_system text m
      unfolding read_system reading
      lines_refused why e = refused (λ N t. bad_matrix N t m) no_limit text m why (by_frames (λ N t. bad_matrix N t m) no_limit text m N t h (right_matrix N t m l) ∙ e)

      pub system_read : (m' : List Float) → text_end text (follow t text (system_frames N) start) ≡ accepted → m' ≡ tiles_from (t * t) (N * N) 7 text
          → record { answer = Ok (SystemRead N t); matrix = m' } ≡ read_system text m
      unfolding read_system reading
      system_read m' e q =
          ap (λ (f : List Float). record { answer = Ok (SystemRead N t); matrix = f }) q ∙ accepted_lem (λ N t. bad_matrix N t m) no_limit text m N t h (right_matrix N t m l) e

-- ---- what loading asks

pub system_lines : {limit : ℕ} (text : List ℕ) (N t : ℕ) → Headed limit text N t → text_end text (follow t text (system_frames N) start) ≡ accepted → TileLines (t * t) (N * N) 7 text
unfolding system_frames
system_lines text N t h e =
    let z = to_end t text (tile_frames N) start e in
    tile_lines_lem t N text start z.end (start_placed text (facts h).long) z.followed
