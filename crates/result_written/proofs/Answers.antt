-- The text of a result as it is written, and what writing it answers, by what the code has tested. Assumes nothing.
use mathlib.Core.Path.{◌≡◌, sym, ap, ◌∙◌, fun_ext}
use mathlib.Core.Bool.{true, false}
use mathlib.Core.List.{List, [], ◌++◌, map}
use Prim.Native.Nat.{ℕ, suc, ◌+◌, ◌-◌, ◌*◌, ◌≤◌, ◌<◌}
use native.Mathlib.Numerals.{add-one}
use native.Mathlib.Omega.{arith}
use lib.ListN.{length, length-append}
use lib.Dec.{ltb}
use lib.Ieee.{Float}
use borrow.Author.Tests.{eq-eqb, ne_eqb}
use Rattle.std.specs.Prelude.{Ok}
use Rattle.model.specs.Answer.{accepted, refused_by}
use Rattle.model.specs.declared.Rule.TheVariants.{BadSizes, BadLengths, NoRoom}
use Rattle.model.specs.declared.Outcome.{Outcome}
use Rattle.model.specs.Lists.{below, joined, with_part}
use Rattle.model.specs.Refusal.{refuse}
use Rattle.model.specs.Plan.{plan}
use Rattle.model.specs.Buffer.{rows, rows_of}
use Rattle.model.specs.Text.{line, list_frame, outcome_frame, system_text, result_text, Writing, writing, bad_shape, bad_lists, write_result}
use Rattle.laws.proofs.Refusals.{wrong_matrix, right_matrix}
use Rattle.digits_written.proofs.Put.{Put, put_text, length_hex}
use Rattle.digits_written.proofs.Pieces.{put_next}
use Rattle.lines_written.proofs.Fronts.{too_short, long_enough}
use Rattle.rows_written.specs.Rows.{list_row, list_rows, triangle, system_length, result_length}
use Rattle.rows_written.proofs.Turns.{length_list_rows}
use Rattle.rows_written.proofs.Shapes.{enough}
use Rattle.system_written.proofs.Answers.{system_is, length_system}

-- ---- the text, as the loops write it

module _ (N t : ℕ) (m : List Float) (l : List ℕ) (o : Outcome) where
  list_frames_lem : (i : ℕ) → joined (map (list_frame (plan N t) (record { matrix = m; lists = l }) i) (below (suc i))) ≡ list_row N t l i
  unfolding list_frame rows_of rows plan list_row
  list_frames_lem i = rw add-one

  result_is : result_text (plan N t) (record { matrix = m; lists = l }) o ≡ system_text (plan N t) (record { matrix = m; lists = [] }) ++ list_rows N t l ++ outcome_frame o
  unfolding result_text list_rows plan
  result_is =
      ap (λ (x : List ℕ). x ++ joined (map (λ i. joined (map (list_frame (plan N t) (record { matrix = m; lists = l }) i) (below (suc i)))) (below N)) ++ outcome_frame o) (system_is N t m l ∙ sym (system_is N t m []))
      ∙ ap (λ (f : ℕ → List ℕ). system_text (plan N t) (record { matrix = m; lists = [] }) ++ joined (map f (below N)) ++ outcome_frame o) (fun_ext list_frames_lem)

  length_outcome : length (outcome_frame o) ≡ 9
  unfolding outcome_frame line
  length_outcome = simp (length-append, length_hex)

  pub length_result : N * N * (t * t) ≤ length m → N * N * t ≤ length l → length (result_text (plan N t) (record { matrix = m; lists = l }) o) ≡ result_length N t
  unfolding result_length
  length_result h k =
      let x = system_text (plan N t) (record { matrix = m; lists = [] }) in
      ap length result_is ∙ length-append (x ++ list_rows N t l) (outcome_frame o)
      ∙ omega (arith, length-append x (list_rows N t l), length_system N t m [] h, length_list_rows N t l k, length_outcome)

  pub put_result : (xs xs₁ xs₂ xs₃ : List ℕ) (b e : ℕ) → result_length N t ≤ length xs → N * N * (t * t) ≤ length m → N * N * t ≤ length l → b ≡ system_length N t → e ≡ result_length N t
      → xs₁ ≡ with_part 0 (system_length N t) (system_text (plan N t) (record { matrix = m; lists = [] })) xs
      → xs₂ ≡ with_part b (triangle N * (7 + t * 2)) (list_rows N t l) xs₁
      → xs₃ ≡ with_part (e - 9) 9 (outcome_frame o) xs₂
      → Put 0 (result_length N t) (result_text (plan N t) (record { matrix = m; lists = l }) o) xs xs₃
  unfolding result_length
  put_result xs xs₁ xs₂ xs₃ b e h km kl eb ee e₁ e₂ e₃ =
      let k = triangle N * (7 + t * 2) in
      let first : Put 0 (system_length N t) (system_text (plan N t) (record { matrix = m; lists = [] })) xs xs₁ = record { size = length_system N t m [] km; room = omega arith; is = e₁ } in
      let second : Put 0 (system_length N t + k) (system_text (plan N t) (record { matrix = m; lists = [] }) ++ list_rows N t l) xs xs₂ =
      put_next b k (list_rows N t l) first (length_list_rows N t l kl) (omega arith) (omega arith) e₂ in
      put_text (put_next (e - 9) 9 (outcome_frame o) second length_outcome (omega arith) (omega arith) e₃) (sym result_is)

-- ---- what the call answers

module _ (N t : ℕ) (m : List Float) (text l : List ℕ) (o : Outcome) where
  pub result_shape : bad_shape N t ≡ true → ◌≡◌ {A = Writing} (record { answer = refused_by BadSizes 0; left = text }) (write_result N t m l o text)
  unfolding write_result refuse writing
  result_shape e = rw e

  pub result_matrix : bad_shape N t ≡ false → (length m ≡ N * t * (N * t) → ⊥) → ◌≡◌ {A = Writing} (record { answer = refused_by BadLengths 0; left = text }) (write_result N t m l o text)
  unfolding write_result refuse writing
  result_matrix e h = rw (e, wrong_matrix N t m h)

  pub result_lists : bad_shape N t ≡ false → length m ≡ N * t * (N * t) → (length l ≡ N * N * t → ⊥) → ◌≡◌ {A = Writing} (record { answer = refused_by BadLengths 0; left = text }) (write_result N t m l o text)
  unfolding write_result refuse writing bad_lists
  result_lists e h k = rw (e, right_matrix N t m h, ne_eqb (length l) (N * N * t) k)

  module _ (e : bad_shape N t ≡ false) (h : length m ≡ N * t * (N * t)) (g : length l ≡ N * N * t) where
    abbrev result : List ℕ
    result = result_text (plan N t) (record { matrix = m; lists = l }) o

    result_told : write_result N t m l o text ≡ writing (refuse NoRoom 0 (ltb (length text) (length result)) accepted) result text
    unfolding write_result refuse bad_lists
    result_told = rw (e, right_matrix N t m h, eq-eqb (length l) (N * N * t) g)

    result_size : length result ≡ result_length N t
    result_size = length_result N t m l o (enough N t (length m) h) (omega arith)

    pub result_short : length text < result_length N t → ◌≡◌ {A = Writing} (record { answer = refused_by NoRoom 0; left = text }) (write_result N t m l o text)
    result_short k = too_short result text (result_length N t) result_size k ∙ sym result_told

    pub result_written : (text' : List ℕ) → result_length N t ≤ length text → text' ≡ with_part 0 (result_length N t) result text
        → ◌≡◌ {A = Writing} (record { answer = Ok (result_length N t); left = text' }) (write_result N t m l o text)
    result_written text' k is = long_enough result text (result_length N t) result_size text' k is ∙ sym result_told
