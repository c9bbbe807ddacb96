-- A task's mark is 2, 3 or 4 exactly when a column has finished it. Assumes nothing.
use Prim.Native.Nat.{ℕ, suc, ◌<◌}
use mathlib.Core.Bool.{Bool, true, false, cond, ◌&&◌, ◌||◌}
use mathlib.Core.Path.{◌≡◌, refl, sym, ap, ◌∙◌}
use mathlib.Core.Logic.{◌⊎◌, inl, inr, ◌≢◌}
use mathlib.Core.List.{List, [], ◌∷◌, ◌++◌}
use lib.Dec.{eqb}
use borrow.Author.Tests.{eqb-true, eq-eqb, ne_eqb}
use Rattle.model.specs.declared.Sizes.{Sizes}
use Rattle.worker.specs.declared.Worker.{Worker}
use Rattle.worker.specs.Holding.{idle, holding}
use Rattle.model.specs.Answer.{accepted}
use Rattle.model.specs.Lists.{some}
use Rattle.model.specs.Task.{tasks}
use Rattle.model.specs.Plan.{plan, plan_of}
use Rattle.model.specs.Links.{task, done, failed, spoiled, mark, finished, broken, spoils, ready}
use Rattle.model.specs.Buffer.{Ended, sound, column_ends}
use Rattle.model.specs.Calls.{Lent, marks_of, with_take, with_column, changed, worker, took, advanced, column_of}
use Rattle.model.specs.Refusal.{take_answer, column_answer}
use Rattle.laws.proofs.Tests.{or_cases, same_or_not}
use Rattle.cells.proofs.Choices.{either}
use Rattle.cells.proofs.Machine.{count, record_at}
use Rattle.demand.specs.Deeds.{Deed, did_take, did_column, finishes}
use Rattle.demand.proofs.Whole.{AtWork, Whole}
use Rattle.demand.proofs.Stores.{mark_here, mark_there}
use Rattle.demand.proofs.Steps.{ready_waits, took_whole, advanced_whole}
use Rattle.demand.proofs.Moves.{take_tells, column_tells}

or_none : (b : Bool) → b ≡ (b || false)
or_none true = refl
or_none false = refl

some_append : {A : Type 0} (f : A → Bool) (xs : List A) (x : A) → some f (xs ++ x ∷ []) ≡ (some f xs || f x)
unfolding some
some_append f [] x = sym (or_none (f x))
some_append f (y ∷ ys) x = ap (λ (b : Bool). f y || b) (some_append f ys x) ∙ go (f y)
  where
    go : (b : Bool) → (b || (some f ys || f x)) ≡ (b || some f ys || f x)
    go true = refl
    go false = refl

-- waiting and taken tasks are not finished
pub waiting_unfinished : finished 0 ≡ false
unfolding finished
waiting_unfinished = refl

taken_unfinished : finished 1 ≡ false
unfolding finished
taken_unfinished = refl

-- finished is mark 2, 3 or 4 and no other
pub finished_mark : (m : ℕ) → finished m ≡ true → (m ≡ done) ⊎ ((m ≡ failed) ⊎ (m ≡ spoiled))
unfolding finished
finished_mark m e = go (or_cases (eqb m done || eqb m failed) (eqb m spoiled) e)
  where
    go : ((eqb m done || eqb m failed) ≡ true) ⊎ (eqb m spoiled ≡ true) → (m ≡ done) ⊎ ((m ≡ failed) ⊎ (m ≡ spoiled))
    go (inl f) = low (or_cases (eqb m done) (eqb m failed) f)
      where
        low : (eqb m done ≡ true) ⊎ (eqb m failed ≡ true) → (m ≡ done) ⊎ ((m ≡ failed) ⊎ (m ≡ spoiled))
        low (inl g) = inl (eqb-true m done g)
        low (inr g) = inr (inl (eqb-true m failed g))
    go (inr f) = inr (inr (eqb-true m spoiled f))

pub mark_finished : (m : ℕ) → (m ≡ done) ⊎ ((m ≡ failed) ⊎ (m ≡ spoiled)) → finished m ≡ true
unfolding finished
mark_finished m (inl e) = rw e
mark_finished m (inr (inl e)) = rw e
mark_finished m (inr (inr e)) = rw e

pub record Ends (z : Sizes) (q : ℕ) (ds : List Deed) (s : Lent) : Type 0 where
  pub whole : Whole z s
  pub is : finished (mark (marks_of s) q) ≡ some (finishes (plan_of z) q) ds

module _ (z : Sizes) (q : ℕ) where
  pub ends_take : {ds : List Deed} {s : Lent} → Ends z q ds s → (w p : ℕ) → take_answer z w p s ≡ accepted
      → Ends z q (ds ++ did_take w p s ∷ []) (took (plan_of z) w p s)
  unfolding took changed with_take finishes
  ends_take {ds} {s} r w p a =
      let (hw, hb, hp, hr) = take_tells z s w p a in
      record {
        whole = unfold took changed with_take in took_whole z s r.whole w p hw hb hp hr;
        is = go hw hp hr (same_or_not q p) ∙ r.is ∙ or_none (some (finishes (plan_of z) q) ds) ∙ sym (some_append (finishes (plan_of z) q) ds (did_take w p s));
      }
    where
      go : w < z.workers → p < count z → ready (tasks z.tiles) (marks_of s) p ≡ true → (q ≡ p) ⊎ (q ≢ p)
          → finished (mark (marks_of (took (plan_of z) w p s)) q) ≡ finished (mark (marks_of s) q)
      go hw hp hr (inl e) =
          ap (λ (k : ℕ). finished (mark (marks_of (took (plan_of z) w p s)) k)) e
          ∙ ap finished (mark_here z s r.whole s.buffers p (with_take (suc s.number) (record_at z s p)) w (holding p 0) hp hw)
          ∙ taken_unfinished
          ∙ sym (ap finished (ap (mark (marks_of s)) e ∙ ready_waits z s p hr) ∙ waiting_unfinished)
      go hw hp hr (inr d) = ap finished (mark_there z s r.whole s.buffers p (with_take (suc s.number) (record_at z s p)) w (holding p 0) hp hw q d)

  -- whether a column finishes its task, by the mark that it leaves
  pub column_finishes : (s : Lent) (p c : ℕ) → finished (column_of (plan_of z) s p c).mark ≡ (eqb (suc c) z.side || broken (column_of (plan_of z) s p c).mark)
  unfolding column_of column_ends plan finished broken
  column_finishes s p c =
      let fine : Ended → Type 0 = λ e. finished e.mark ≡ (eqb (suc c) z.side || broken e.mark) in
      either fine (eqb c 0 && spoils (tasks z.tiles) (marks_of s) p) _ _ (or_true (eqb (suc c) z.side))
      (either fine (sound (plan_of z) (task (tasks z.tiles) p) c s.buffers) _ _ (last_or (eqb (suc c) z.side)) (or_true (eqb (suc c) z.side)))
    where
      or_true : (b : Bool) → true ≡ (b || true)
      or_true true = refl
      or_true false = refl

      last_or : (b : Bool) → finished (cond b 2 1) ≡ (b || broken (cond b 2 1))
      last_or true = refl
      last_or false = refl

  pub ends_column : {ds : List Deed} {s : Lent} → Ends z q ds s → (w : ℕ) → column_answer z w s ≡ accepted
      → Ends z q (ds ++ did_column w s ∷ []) (advanced (plan_of z) w s)
  unfolding advanced changed with_column finishes plan
  ends_column {ds} {s} r w a =
      let (hw, hb) = column_tells z s w a in
      record {
        whole = unfold advanced changed with_column in advanced_whole z s r.whole w hw hb;
        is = go (r.whole.held w hw hb) hw (same_or_not q p) ∙ sym (some_append (finishes (plan_of z) q) ds (did_column w s));
      }
    where
      p : ℕ
      p = (worker s w).task

      e : Ended
      e = column_of (plan_of z) s p (worker s w).column

      next : Worker
      next = cond (finished e.mark) idle (holding p (suc (worker s w).column))

      go : AtWork z s w → w < z.workers → (q ≡ p) ⊎ (q ≢ p)
          → finished (mark (marks_of (advanced (plan_of z) w s)) q) ≡ (some (finishes (plan_of z) q) ds || finishes (plan_of z) q (did_column w s))
      go h hw (inl f) =
          let before : some (finishes (plan_of z) q) ds ≡ false = sym r.is ∙ ap finished (ap (mark (marks_of s)) f ∙ h.mark) ∙ taken_unfinished in
          rw (before, eq-eqb p q (sym f))
          (ap (λ (k : ℕ). finished (mark (marks_of (advanced (plan_of z) w s)) k)) f
          ∙ ap finished (mark_here z s r.whole e.left p (with_column w (suc s.number) e.mark e.ties (record_at z s p)) w next h.task hw)
          ∙ column_finishes s p (worker s w).column)
      go h hw (inr d) =
          rw (ne_eqb p q (λ f. d (sym f)))
          (ap finished (mark_there z s r.whole e.left p (with_column w (suc s.number) e.mark e.ties (record_at z s p)) w next h.task hw q d) ∙ r.is ∙ or_none (some (finishes (plan_of z) q) ds))
