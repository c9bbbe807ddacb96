-- From the reply of a call to what the functions for bench/ tell and leave. Assumes nothing.
use Prim.Native.Nat.{ℕ}
use mathlib.Core.Path.{◌≡◌, ap, ◌∙◌}
use mathlib.Core.List.{List}
use lib.Ieee.{Float}
use Rattle.model.specs.declared.TaskRecord.{TaskRecord}
use Rattle.worker.specs.declared.Workers.{Workers}
use Rattle.model.specs.Answer.{Answer, OutcomeAnswer, RunAnswer}
use Rattle.model.specs.declared.CallReply.{CallReply}
use Rattle.model.specs.Buffer.{Buffers}
use Rattle.model.specs.Calls.{Lent, RunEnd}
use Rattle.model.specs.Refusal.{Reply, answer_number}
use Rattle.model.specs.Solve.{Answers}
use Rattle.copies.specs.Whole.{whole}
use Rattle.bench_structs.specs.Bench.{calls_of, outcome_tells}

module _ (m m' : List Float) (l l' : List ℕ) (r r' : List TaskRecord) (ws meant : Workers) (e : ws ≡ meant) (n : ℕ) where
  pub replies : (call : Lent → Reply) (reply : CallReply Answer) → ◌≡◌ {A = Reply} (record { answer = reply.answer; left = whole m' l' r' reply.workers }) (call (whole m l r ws))
      → n ≡ answer_number reply.answer
      → (n ≡ answer_number (call (whole m l r meant)).answer) × (◌≡◌ {A = Buffers} (record { matrix = m'; lists = l' }) (call (whole m l r meant)).left.buffers) × (r' ≡ (call (whole m l r meant)).left.records)
  unfolding whole
  replies call reply h q =
      let f : ◌≡◌ {A = Reply} (record { answer = reply.answer; left = whole m' l' r' reply.workers }) (call (whole m l r meant)) = h ∙ ap (λ (k : Workers). call (whole m l r k)) e in
      (q ∙ ap (λ (y : Reply). answer_number y.answer) f, ap (λ (y : Reply). y.left.buffers) f, ap (λ (y : Reply). y.left.records) f)

  pub ran : (call : Lent → RunEnd) (reply : CallReply RunAnswer) → ◌≡◌ {A = RunEnd} (record { answer = reply.answer; left = whole m' l' r' reply.workers }) (call (whole m l r ws))
      → n ≡ calls_of reply.answer
      → (n ≡ calls_of (call (whole m l r meant)).answer) × (◌≡◌ {A = Buffers} (record { matrix = m'; lists = l' }) (call (whole m l r meant)).left.buffers) × (r' ≡ (call (whole m l r meant)).left.records)
  unfolding whole
  ran call reply h q =
      let f : ◌≡◌ {A = RunEnd} (record { answer = reply.answer; left = whole m' l' r' reply.workers }) (call (whole m l r meant)) = h ∙ ap (λ (k : Workers). call (whole m l r k)) e in
      (q ∙ ap (λ (y : RunEnd). calls_of y.answer) f, ap (λ (y : RunEnd). y.left.buffers) f, ap (λ (y : RunEnd). y.left.records) f)

pub solves : (m : List Float) (l : List ℕ) (r : List TaskRecord) (ws meant : Workers) (e : ws ≡ meant) (n : ℕ) (call : Lent → Answers) (a : Answer) (x : List Float)
    → ◌≡◌ {A = Answers} (record { answer = a; left = x }) (call (whole m l r ws)) → n ≡ answer_number a
    → (n ≡ answer_number (call (whole m l r meant)).answer) × (x ≡ (call (whole m l r meant)).left)
solves m l r ws meant e n call a x h q =
    let f : ◌≡◌ {A = Answers} (record { answer = a; left = x }) (call (whole m l r meant)) = h ∙ ap (λ (k : Workers). call (whole m l r k)) e in
    (q ∙ ap (λ (y : Answers). answer_number y.answer) f, ap (λ (y : Answers). y.left) f)

pub outcome_told_lem : (m : List Float) (l : List ℕ) (r : List TaskRecord) (ws meant : Workers) (e : ws ≡ meant) (n : ℕ) (call : Lent → OutcomeAnswer) (a : OutcomeAnswer)
    → a ≡ call (whole m l r ws) → n ≡ outcome_tells a → n ≡ outcome_tells (call (whole m l r meant))
outcome_told_lem m l r ws meant e n call a h q = q ∙ ap (λ (y : OutcomeAnswer). outcome_tells y) (h ∙ ap (λ (k : Workers). call (whole m l r k)) e)
