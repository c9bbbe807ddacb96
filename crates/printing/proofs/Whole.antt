-- What is printed into a buffer that is long enough. Assumes nothing.
use Rattle.std.proofs.Common.{◌≡◌, ℕ, ◌≤◌, List, ◌++◌, length, take, drop, ap, ◌∙◌, arith}
use lib.Seq.{take-append_seam}
use Rattle.std.proofs.lemmas.Bool.{le-ltb}
use Rattle.std.specs.Prelude.{Ok, Err}
use Rattle.model.specs.Answer.{WriteAnswer, accepted}
use Rattle.model.specs.declared.Refusal.{Refusal}
use Rattle.model.specs.declared.Rule.TheVariants.{NoRoom}
use Rattle.model.specs.Refusal.{refuse, ◌otherwise◌}
use Rattle.model.specs.Text.{Writing, writing}
use Rattle.model.specs.Read.{program}
use Rattle.system_printed.specs.Print.{print_result}

module _ (text out out' : List ℕ) (r : WriteAnswer) (e : record { answer = r; left = out' } ≡ print_result text out) (fits : length (program text) ≤ length out) where
  whole : ◌≡◌ {A = Writing} (record { answer = r; left = out' }) (record { answer = Ok (length (program text)); left = program text ++ drop (length (program text)) out })
  unfolding print_result writing refuse
  whole = e ∙ ap (λ b. writing (refuse NoRoom 0 b otherwise accepted) (program text) out) (le-ltb (length out) (length (program text)) fits)

  pub text_printed : (k : ℕ) → r ≡ Ok k → take k out' ≡ program text
  text_printed k q =
      let a : r ≡ Ok (length (program text)) = ap (λ (w : Writing). w.answer) whole in
      let b : k ≡ length (program text) = cc in
      let c : out' ≡ program text ++ drop (length (program text)) out = ap (λ (w : Writing). w.left) whole in
      ap (λ n. take n out') b ∙ ap (take (length (program text))) c ∙ take-append_seam (program text) _

  pub never_refused : {A : Type 0} (why : Refusal) → r ≡ Err why → A
  never_refused why q =
      let a : r ≡ Ok (length (program text)) = ap (λ (w : Writing). w.answer) whole in
      let z : ◌≡◌ {A = ℕ} 0 1 = cc in
      absurd (omega arith)
