-- The text of a system as it is written, and what writing it answers, by what the code has tested. Assumes nothing.
use mathlib.Core.Path.{◌≡◌, refl, sym, ap, ◌∙◌}
use mathlib.Core.Bool.{true, false}
use mathlib.Core.List.{List, [], ◌++◌}
use Prim.Native.Nat.{ℕ, ◌+◌, ◌*◌, ◌≤◌, ◌<◌}
use native.Mathlib.Omega.{arith}
use lib.ListN.{length, length-append}
use lib.Dec.{ltb}
use lib.Ieee.{Float}
use Rattle.std.specs.Prelude.{Ok}
use Rattle.model.specs.Answer.{accepted, refused_by}
use Rattle.model.specs.declared.Rule.TheVariants.{BadSizes, BadLengths, NoRoom}
use Rattle.model.specs.Lists.{with_part}
use Rattle.model.specs.Refusal.{refuse}
use Rattle.model.specs.Plan.{plan}
use Rattle.model.specs.Buffer.{tile, tile_of}
use Rattle.model.specs.Text.{line, header_frame, tile_frame, system_text, Writing, writing, bad_shape, write_system}
use Rattle.laws.proofs.Refusals.{wrong_matrix, right_matrix}
use Rattle.digits_written.proofs.Put.{Put, put_text, length_hex}
use Rattle.digits_written.proofs.Pieces.{put_next}
use Rattle.lines_written.proofs.Lines.{three}
use Rattle.lines_written.proofs.Fronts.{too_short, long_enough}
use Rattle.rows_written.specs.Rows.{tile_row, tile_rows, system_length}
use Rattle.rows_written.proofs.Turns.{length_tile_rows}
use Rattle.rows_written.proofs.Shapes.{enough}

-- ---- the text, as the loops write it

abbrev header : ℕ → ℕ → List ℕ
header N t = line (three 1 N t)

length_header : (N t : ℕ) → length (header N t) ≡ 7
unfolding line
length_header N t = simp (length-append, length_hex)

module _ (N t : ℕ) (m : List Float) where
  pub system_is : (l : List ℕ) → system_text (plan N t) (record { matrix = m; lists = l }) ≡ header N t ++ tile_rows N (t * t) m
  unfolding system_text header_frame tile_frame tile_of tile plan tile_rows tile_row
  system_is l = refl

  pub length_system : (l : List ℕ) → N * N * (t * t) ≤ length m → length (system_text (plan N t) (record { matrix = m; lists = l })) ≡ system_length N t
  unfolding system_length
  length_system l h = ap length (system_is l) ∙ length-append (header N t) (tile_rows N (t * t) m) ∙ omega (arith, length_header N t, length_tile_rows N (t * t) m h)

  pub put_system : (xs xs₁ xs₂ : List ℕ) → system_length N t ≤ length xs → N * N * (t * t) ≤ length m → xs₁ ≡ with_part 0 7 (header N t) xs
      → xs₂ ≡ with_part 7 (N * (N * (7 + t * t * 16))) (tile_rows N (t * t) m) xs₁ → Put 0 (system_length N t) (system_text (plan N t) (record { matrix = m; lists = [] })) xs xs₂
  unfolding system_length
  put_system xs xs₁ xs₂ h k e₁ e₂ =
      let first : Put 0 7 (header N t) xs xs₁ = record { size = length_header N t; room = omega arith; is = e₁ } in
      put_text (put_next 7 (N * (N * (7 + t * t * 16))) (tile_rows N (t * t) m) first (length_tile_rows N (t * t) m k) refl (omega arith) e₂) (sym (system_is []))

-- ---- what the call answers

module _ (N t : ℕ) (m : List Float) (text : List ℕ) where
  pub system_shape : bad_shape N t ≡ true → ◌≡◌ {A = Writing} (record { answer = refused_by BadSizes 0; left = text }) (write_system N t m text)
  unfolding write_system refuse writing
  system_shape e = rw e

  pub system_matrix : bad_shape N t ≡ false → (length m ≡ N * t * (N * t) → ⊥) → ◌≡◌ {A = Writing} (record { answer = refused_by BadLengths 0; left = text }) (write_system N t m text)
  unfolding write_system refuse writing
  system_matrix e h = rw (e, wrong_matrix N t m h)

  module _ (e : bad_shape N t ≡ false) (h : length m ≡ N * t * (N * t)) where
    abbrev new : List ℕ
    new = system_text (plan N t) (record { matrix = m; lists = [] })

    system_told : write_system N t m text ≡ writing (refuse NoRoom 0 (ltb (length text) (length new)) accepted) new text
    unfolding write_system refuse
    system_told = rw (e, right_matrix N t m h)

    pub system_short : length text < system_length N t → ◌≡◌ {A = Writing} (record { answer = refused_by NoRoom 0; left = text }) (write_system N t m text)
    system_short k = too_short new text (system_length N t) (length_system N t m [] (enough N t (length m) h)) k ∙ sym system_told

    pub system_written : (text' : List ℕ) → system_length N t ≤ length text → text' ≡ with_part 0 (system_length N t) new text
        → ◌≡◌ {A = Writing} (record { answer = Ok (system_length N t); left = text' }) (write_system N t m text)
    system_written text' k is = long_enough new text (system_length N t) (length_system N t m [] (enough N t (length m) h)) text' k is ∙ sym system_told
