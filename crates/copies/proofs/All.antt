-- Calls that may change every record, and the outcome and a solve, which change none. Assumes nothing.
use Prim.Native.Nat.{ℕ, ◌-◌}
use native.Mathlib.Nat.{sub-zero}
use mathlib.Core.Path.{◌≡◌, refl, ap, ◌∙◌}
use mathlib.Core.List.{List}
use lib.Ieee.{Float}
use lib.ListN.{length, take}
use Rattle.model.specs.declared.Sizes.{Sizes}
use Rattle.model.specs.declared.TaskRecord.{TaskRecord}
use Rattle.worker.specs.declared.Workers.{Workers}
use Rattle.std.specs.Prelude.{Ok}
use Rattle.model.specs.Answer.{Answer, RunAnswer}
use Rattle.model.specs.declared.Standing.TheVariants.{Unfinished}
use Rattle.model.specs.declared.CallReply.{CallReply}
use Rattle.model.specs.Calls.{Lent, RunEnd}
use Rattle.model.specs.Refusal.{Reply, open_call, run_call, outcome_call}
use Rattle.model.specs.Solve.{Answers, solve_call}
use Rattle.records.specs.Records.{records_from, all_lent}
use Rattle.task_records.specs.Copies.{copied}
use Rattle.copies.specs.Whole.{whole}
use Rattle.copies.proofs.Long.{told, run_told, outcome_told, open_long, run_long, outcome_long, solve_long}
use Rattle.copies.proofs.Copied.{looked, answers, leaves}

module _ (z : Sizes) (ms : List Float) (ls : List ℕ) (ys : List TaskRecord) (ws : Workers) where
  abbrev n : ℕ
  n = looked (length ys)

  pub open_whole : (X₀ X : List (List ℕ)) (ms' : List Float) (ls' : List ℕ) (X' : List (List ℕ)) (r : CallReply Answer) (zs : List TaskRecord) → length X ≡ 1497 → length X' ≡ 1497 → records_from X ≡ copied n 0 ys (records_from X₀)
      → ◌≡◌ {A = Reply} (record { answer = r.answer; left = all_lent ms' ls' (take n X') r.workers }) (open_call z (all_lent ms ls (take n X) ws))
      → zs ≡ copied (n - 0) 0 (records_from X') ys
      → ◌≡◌ {A = Reply} (record { answer = r.answer; left = whole ms' ls' zs r.workers }) (open_call z (whole ms ls ys ws))
  open_whole X₀ X ms' ls' X' r zs long long' loaded e stored =
      let answer : Lent → Answer = λ s. (open_call z s).answer in
      let left : Lent → Lent = λ s. (open_call z s).left in
      λ t. record {
        answer = answers ms ls ys ws X₀ X long loaded answer left (told z) (λ s h. ap (λ (k : Reply). k.answer) (open_long z s h)) r.answer (ap (λ (k : Reply). k.answer) e) t;
        left = leaves ms ls ys ws X₀ X long loaded answer left (told z) (λ s h. ap (λ (k : Reply). k.answer) (open_long z s h)) r.answer (ap (λ (k : Reply). k.answer) e)
            (λ s h. ap (λ (k : Reply). k.left) (open_long z s h)) ms' ls' X' r.workers long' (ap (λ (k : Reply). k.left) e) zs (stored ∙ ap (λ k. copied k 0 (records_from X') ys) (sub-zero n)) t;
      }

  pub run_whole : (budget : ℕ) (X₀ X : List (List ℕ)) (ms' : List Float) (ls' : List ℕ) (X' : List (List ℕ)) (r : CallReply RunAnswer) (zs : List TaskRecord) → length X ≡ 1497 → length X' ≡ 1497 → records_from X ≡ copied n 0 ys (records_from X₀)
      → ◌≡◌ {A = RunEnd} (record { answer = r.answer; left = all_lent ms' ls' (take n X') r.workers }) (run_call z budget (all_lent ms ls (take n X) ws))
      → zs ≡ copied (n - 0) 0 (records_from X') ys
      → ◌≡◌ {A = RunEnd} (record { answer = r.answer; left = whole ms' ls' zs r.workers }) (run_call z budget (whole ms ls ys ws))
  run_whole budget X₀ X ms' ls' X' r zs long long' loaded e stored =
      let answer : Lent → RunAnswer = λ s. (run_call z budget s).answer in
      let left : Lent → Lent = λ s. (run_call z budget s).left in
      λ t. record {
        answer = answers ms ls ys ws X₀ X long loaded answer left (run_told z) (λ s h. ap (λ (k : RunEnd). k.answer) (run_long z s h budget)) r.answer (ap (λ (k : RunEnd). k.answer) e) t;
        left = leaves ms ls ys ws X₀ X long loaded answer left (run_told z) (λ s h. ap (λ (k : RunEnd). k.answer) (run_long z s h budget)) r.answer (ap (λ (k : RunEnd). k.answer) e)
            (λ s h. ap (λ (k : RunEnd). k.left) (run_long z s h budget)) ms' ls' X' r.workers long' (ap (λ (k : RunEnd). k.left) e) zs (stored ∙ ap (λ k. copied k 0 (records_from X') ys) (sub-zero n)) t;
      }

  pub outcome_whole : (X₀ X : List (List ℕ)) → length X ≡ 1497 → records_from X ≡ copied n 0 ys (records_from X₀) → outcome_call z (all_lent ms ls (take n X) ws) ≡ outcome_call z (whole ms ls ys ws)
  outcome_whole X₀ X long loaded =
      answers ms ls ys ws X₀ X long loaded (outcome_call z) (λ s. s) (outcome_told z (Ok (Unfinished 0))) (λ s h. outcome_long z s h (Ok (Unfinished 0))) (outcome_call z (all_lent ms ls (take n X) ws)) refl

  pub solve_whole : (right left : List Float) (X₀ X : List (List ℕ)) → length X ≡ 1497 → records_from X ≡ copied n 0 ys (records_from X₀) → solve_call z (all_lent ms ls (take n X) ws) right left ≡ solve_call z (whole ms ls ys ws) right left
  solve_whole right left X₀ X long loaded =
      let answer : Lent → Answers = λ s. solve_call z s right left in
      answers ms ls ys ws X₀ X long loaded answer (λ s. s) (record { answer = told z; left = left }) (λ s h. solve_long z s h right left) (answer (all_lent ms ls (take n X) ws)) refl
