-- A refused text: the program prints the line of the refusal. Assumes nothing.
use Prim.Native.Nat.{ℕ, ◌≤◌}
use mathlib.Core.Path.{◌≡◌, refl, ap}
use mathlib.Core.List.{List, [], ◌∷◌}
use native.Mathlib.Omega.{arith}
use lib.ListN.{length}
use Rattle.model.specs.declared.Outcome.{Outcome}
use Rattle.std.specs.Prelude.{Ok, Err}
use Rattle.model.specs.Answer.{Answer, rule_number}
use Rattle.model.specs.declared.Refusal.{Refusal}
use Rattle.model.specs.declared.FileRead.TheVariants.{ResultRead}
use Rattle.model.specs.Text.{refusal_frame}
use Rattle.model.specs.Read.{lines_from, file_answer, system_reading, printed, program}
use Rattle.system_checked.specs.Files.{checked_system}
use Rattle.refusal_written.specs.Refusal.{write_refusal}
use Rattle.refusal_written.proofs.Answers.{length_refusal}
use Rattle.system_printed.specs.Print.{print_result}
use Rattle.system_printed.proofs.Checked.{answer_in}
use Rattle.system_printed.proofs.Printed.{print_as}

refused : (text : List ℕ) (why : Refusal) → Err why ≡ checked_system 48 text → program text ≡ refusal_frame (rule_number why.rule) why.place
unfolding checked_system system_reading program printed file_answer
refused text why e = go (lines_from [] text) (answer_in (lines_from [] text)) refl e
  where
    go : (ls : List (List ℕ)) (a : Answer) → answer_in ls ≡ a → Err why ≡ (system_reading a ls []).answer → printed a ls ≡ refusal_frame (rule_number why.rule) why.place
    go [] (Ok _) q e = let z : ◌≡◌ {A = ℕ} 0 1 = cc in absurd (omega arith)
    go (h ∷ ls) (Ok _) q e = let z : ◌≡◌ {A = ℕ} 0 1 = cc in absurd (omega arith)
    go ls (Err w) q e = let a : w ≡ why = cc in ap (λ (z : Refusal). refusal_frame (rule_number z.rule) z.place) a

-- a system's check answers no result
pub no_result : (text : List ℕ) (N t : ℕ) (o : Outcome) → Ok (ResultRead N t o) ≡ checked_system 48 text → ⊥
unfolding checked_system system_reading
no_result text N t o e = go (lines_from [] text) (answer_in (lines_from [] text)) e
  where
    go : (ls : List (List ℕ)) (a : Answer) → Ok (ResultRead N t o) ≡ (system_reading a ls []).answer → ⊥
    go [] (Ok _) e = let z : ◌≡◌ {A = ℕ} 0 1 = cc in omega arith
    go (h ∷ ls) (Ok _) e = let z : ◌≡◌ {A = ℕ} 0 1 = cc in omega arith
    go ls (Err why) e = let z : ◌≡◌ {A = ℕ} 0 1 = cc in omega arith

module _ (text : List ℕ) (why : Refusal) (e : Err why ≡ checked_system 48 text) where
  pub refusal_short : length (program text) ≤ 65536
  refusal_short = rw (refused text why e, length_refusal (rule_number why.rule) why.place) (omega arith)

  pub refusal_printed : (out : List ℕ) → write_refusal (rule_number why.rule) why.place out ≡ print_result text out
  unfolding write_refusal
  refusal_printed out = print_as text out _ (refused text why e)
