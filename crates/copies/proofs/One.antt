-- Calls that change one record at most. Assumes nothing.
use Prim.Native.Nat.{ℕ, suc, ◌+◌, ◌-◌, ◌<◌, ◌≤◌}
use mathlib.Core.Bool.{cond, not, ◌||◌}
use mathlib.Core.Logic.{⊎_elim}
use mathlib.Core.Path.{◌≡◌, refl, sym, ap, ◌∙◌}
use mathlib.Core.List.{List}
use lib.Dec.{ltb}
use lib.Ieee.{Float}
use lib.ListN.{length, get_or, set, take}
use lib.Seq.{set-get_or}
use Rattle.model.specs.declared.Sizes.{Sizes}
use Rattle.model.specs.declared.TaskRecord.{TaskRecord}
use Rattle.worker.specs.declared.Worker.{Worker}
use Rattle.worker.specs.declared.Workers.{Workers}
use Rattle.std.specs.Prelude.{Ok, Err}
use Rattle.model.specs.Answer.{Answer, accepted}
use Rattle.model.specs.declared.Rule.TheVariants.{BadSizes, BadLengths, Damaged, WrongWorker}
use Rattle.model.specs.declared.CallReply.{CallReply}
use Rattle.model.specs.Task.{t_1}
use Rattle.model.specs.Plan.{plan_of}
use Rattle.model.specs.Calls.{Lent, worker, record_of, with_take, with_column, changed, took, column_of, advanced}
use Rattle.worker.specs.Holding.{idle}
use Rattle.model.specs.Refusal.{Reply, replied, bad_sizes, bad_lengths, damaged, bad_tiles, no_worker, take_answer, take_call, column_answer, column_call}
use Rattle.laws.proofs.Refusals.{passed}
use Rattle.laws.proofs.Tests.{lt_or_le, never, or_right}
use Rattle.records.specs.Records.{records_from, blank, crew, lent, all_lent}
use Rattle.records.proofs.Laws.{worker_at, no_worker_lem}
use Rattle.task_records.specs.Copies.{copied}
use Rattle.task_records.proofs.Laws.{copied_one, take_records}
use Rattle.copies.specs.Whole.{whole}
use Rattle.copies.proofs.Steps.{looked_there}
use Rattle.copies.proofs.Long.{told, take_long, column_long}
use Rattle.copies.proofs.Copied.{looked, front, answers, leaves}

-- what is left has the records of s, but for record p
abbrev Changes : ℕ → Lent → Lent → Type 0
Changes p s t = (v : TaskRecord) × (t.records ≡ set s.records p v)

refused_changes : (p : ℕ) (s : Lent) → Changes p s s
refused_changes p s = (get_or s.records p blank, sym (set-get_or s.records p blank))

reply_changes : (p : ℕ) (a : Answer) (old new : Lent) → (a ≡ accepted → Changes p old new) → Changes p old (replied a old new).left
unfolding replied
reply_changes p (Ok _) old new h = h refl
reply_changes p (Err why) old new h = refused_changes p old

module _ (z : Sizes) where
  take_changes : (w p : ℕ) (s : Lent) → Changes p s (take_call z w p s).left
  unfolding take_call took changed
  take_changes w p s = reply_changes p (take_answer z w p s) s (took (plan_of z) w p s) (λ e. (with_take (suc s.number) (get_or s.records p (record_of (t_1 0))), refl))

  module _ (w : ℕ) (s : Lent) (ws : Workers) (held : s.workers ≡ crew ws.slots ws.count) where
    abbrev p : ℕ
    p = (get_or ws.slots w idle).task

    -- a worker that there is has its own slot
    its_slot : w < ws.count → worker s w ≡ get_or ws.slots w idle
    unfolding worker
    its_slot l = ap (λ k. get_or k w idle) held ∙ worker_at ws.slots ws.count w l

    -- any other is idle
    no_slot : ws.count ≤ w → worker s w ≡ idle
    unfolding worker
    no_slot l = ap (λ k. get_or k w idle) held ∙ no_worker_lem ws.slots ws.count w l

    idle_refused : ws.count ≤ w → column_answer z w s ≡ accepted → Changes p s (advanced (plan_of z) w s)
    unfolding column_answer
    idle_refused l e =
        let a = passed BadSizes 0 (bad_sizes z) _ e in
        let b = passed BadLengths 0 (bad_lengths (plan_of z) z.workers s) _ a.1 in
        let c = passed Damaged 0 (damaged (plan_of z) s || bad_tiles (plan_of z) w s) _ b.1 in
        let d = passed WrongWorker w (no_worker w s || not (worker s w).busy) _ c.1 in
        never (or_right (no_worker w s) (not (worker s w).busy) (ap (λ (h : Worker). not h.busy) (no_slot l))) d.0

    left_record : TaskRecord
    left_record =
        let e = column_of (plan_of z) s (worker s w).task (worker s w).column in
        with_column w (suc s.number) e.mark e.ties (get_or s.records (worker s w).task (record_of (t_1 0)))

    column_changes : Changes p s (column_call z w s).left
    unfolding column_call advanced changed left_record
    column_changes =
        reply_changes p (column_answer z w s) s (advanced (plan_of z) w s) (λ e.
        ⊎_elim (λ l. (left_record, ap (λ (h : Worker). set s.records h.task left_record) (its_slot l))) (λ l. idle_refused l e) (lt_or_le w ws.count))

-- ---- over copies, of which only record p is copied back

module _ (z : Sizes) (ms : List Float) (ls : List ℕ) (ys : List TaskRecord) (ws : Workers) where
  abbrev n : ℕ
  n = looked (length ys)

  -- the one record is all that differs
  all_stored : (p : ℕ) (X₀ X : List (List ℕ)) (ms' : List Float) (ls' : List ℕ) (X' : List (List ℕ)) (ws' : Workers) (zs : List TaskRecord) (left : Lent) → length X ≡ 1497 → records_from X ≡ copied n 0 ys (records_from X₀)
      → Changes p (all_lent ms ls (take n X) ws) left → all_lent ms' ls' (take n X') ws' ≡ left
      → zs ≡ copied (cond (ltb p n) (p + 1) 0 - p) p (records_from X') ys → zs ≡ copied n 0 (records_from X') ys
  unfolding lent
  all_stored p X₀ X ms' ls' X' ws' zs left long loaded changes f stored =
      stored ∙ copied_one n (records_from X') ys p changes.0 (looked_there (length ys))
      (sym (take_records n X') ∙ ap (λ (s : Lent). s.records) f ∙ changes.1 ∙ ap (λ r. set r p changes.0) (front ms ls ys ws X₀ X long loaded))

  workers_lent : (X : List (List ℕ)) → (all_lent ms ls (take n X) ws).workers ≡ crew ws.slots ws.count
  unfolding lent
  workers_lent X = refl

  pub take_whole : (w p : ℕ) (X₀ X : List (List ℕ)) (ms' : List Float) (ls' : List ℕ) (X' : List (List ℕ)) (r : CallReply Answer) (zs : List TaskRecord) → length X ≡ 1497 → length X' ≡ 1497 → records_from X ≡ copied n 0 ys (records_from X₀)
      → ◌≡◌ {A = Reply} (record { answer = r.answer; left = all_lent ms' ls' (take n X') r.workers }) (take_call z w p (all_lent ms ls (take n X) ws))
      → zs ≡ copied (cond (ltb p n) (p + 1) 0 - p) p (records_from X') ys
      → ◌≡◌ {A = Reply} (record { answer = r.answer; left = whole ms' ls' zs r.workers }) (take_call z w p (whole ms ls ys ws))
  take_whole w p X₀ X ms' ls' X' r zs long long' loaded e stored =
      let answer : Lent → Answer = λ s. (take_call z w p s).answer in
      let left : Lent → Lent = λ s. (take_call z w p s).left in
      let all = all_stored p X₀ X ms' ls' X' r.workers zs (left (all_lent ms ls (take n X) ws)) long loaded (take_changes z w p (all_lent ms ls (take n X) ws)) (ap (λ (k : Reply). k.left) e) stored in
      λ t. record {
        answer = answers ms ls ys ws X₀ X long loaded answer left (told z) (λ s h. ap (λ (k : Reply). k.answer) (take_long z s h w p)) r.answer (ap (λ (k : Reply). k.answer) e) t;
        left = leaves ms ls ys ws X₀ X long loaded answer left (told z) (λ s h. ap (λ (k : Reply). k.answer) (take_long z s h w p)) r.answer (ap (λ (k : Reply). k.answer) e)
            (λ s h. ap (λ (k : Reply). k.left) (take_long z s h w p)) ms' ls' X' r.workers long' (ap (λ (k : Reply). k.left) e) zs all t;
      }

  pub column_whole : (w : ℕ) (X₀ X : List (List ℕ)) (ms' : List Float) (ls' : List ℕ) (X' : List (List ℕ)) (r : CallReply Answer) (zs : List TaskRecord) → length X ≡ 1497 → length X' ≡ 1497 → records_from X ≡ copied n 0 ys (records_from X₀)
      → ◌≡◌ {A = Reply} (record { answer = r.answer; left = all_lent ms' ls' (take n X') r.workers }) (column_call z w (all_lent ms ls (take n X) ws))
      → zs ≡ copied (cond (ltb (get_or ws.slots w idle).task n) ((get_or ws.slots w idle).task + 1) 0 - (get_or ws.slots w idle).task) (get_or ws.slots w idle).task (records_from X') ys
      → ◌≡◌ {A = Reply} (record { answer = r.answer; left = whole ms' ls' zs r.workers }) (column_call z w (whole ms ls ys ws))
  column_whole w X₀ X ms' ls' X' r zs long long' loaded e stored =
      let answer : Lent → Answer = λ s. (column_call z w s).answer in
      let left : Lent → Lent = λ s. (column_call z w s).left in
      let changes = column_changes z w (all_lent ms ls (take n X) ws) ws (workers_lent X) in
      let all = all_stored (get_or ws.slots w idle).task X₀ X ms' ls' X' r.workers zs (left (all_lent ms ls (take n X) ws)) long loaded changes (ap (λ (k : Reply). k.left) e) stored in
      λ t. record {
        answer = answers ms ls ys ws X₀ X long loaded answer left (told z) (λ s h. ap (λ (k : Reply). k.answer) (column_long z s h w)) r.answer (ap (λ (k : Reply). k.answer) e) t;
        left = leaves ms ls ys ws X₀ X long loaded answer left (told z) (λ s h. ap (λ (k : Reply). k.answer) (column_long z s h w)) r.answer (ap (λ (k : Reply). k.answer) e)
            (λ s h. ap (λ (k : Reply). k.left) (column_long z s h w)) ms' ls' X' r.workers long' (ap (λ (k : Reply). k.left) e) zs all t;
      }
