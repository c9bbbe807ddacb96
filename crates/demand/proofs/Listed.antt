-- The deeds of a list of calls: they are what demand 3 counts, and what they tell. Assumes nothing.
use Prim.Native.Nat.{ℕ, zero, suc, ◌+◌, ◌%◌}
use mathlib.Core.Bool.{Bool, true, false, cond}
use mathlib.Core.Path.{◌≡◌, refl, sym, ap, ◌∙◌}
use mathlib.Core.List.{List, [], ◌∷◌, ◌++◌}
use native.Mathlib.Omega.{arith}
use lib.Dec.{eqb}
use lib.ListN.{length}
use Rattle.model.specs.declared.Sizes.{Sizes}
use Rattle.worker.specs.declared.Worker.{Worker}
use Rattle.worker.specs.Holding.{idle}
use Rattle.std.specs.Prelude.{Ok, Err}
use Rattle.model.specs.Answer.{Answer, accepted}
use Rattle.model.specs.Lists.{some, keep, first_or}
use Rattle.model.specs.Task.{tasks}
use Rattle.model.specs.Plan.{plan, plan_of}
use Rattle.model.specs.Links.{mark, finished}
use Rattle.model.specs.Calls.{Lent, marks_of, worker, ready_tasks, all_finished, turn, next_worker, opened}
use Rattle.model.specs.Refusal.{open_call, take_answer, column_answer, run_answer}
use Rattle.model.specs.History as H
use Rattle.model.specs.History.{Asked, Call, left_by, turn_task, if_accepted, run_spent, spent_by, spent_on}
use Rattle.laws.proofs.Tests.{never}
use Rattle.cells.proofs.Elements.{get_or_same}
use Rattle.cells.proofs.Marks.{opened_marks}
use Rattle.demand.specs.Deeds.{Deed, did_take, did_column, turn_deed, run_deeds, where_accepted, deeds_by, deeds, AllBelong, about, Listed}
use Rattle.demand.proofs.Opening.{Opened, opened_by, left_whole}
use Rattle.demand.proofs.Deeds.{deeds_keep}
use Rattle.demand.proofs.Belong.{Held, held_take, held_column}
use Rattle.demand.proofs.Finished.{waiting_unfinished, Ends, ends_take, ends_column}

-- ---- the deeds about a task are what demand 3 counts

keep_cons : {A : Type 0} (f : A → Bool) (x : A) (xs : List A) → length (keep f (x ∷ xs)) ≡ cond (f x) 1 0 + length (keep f xs)
unfolding keep
keep_cons f x xs = go (f x)
  where
    go : (b : Bool) → length (cond b (x ∷ keep f xs) (keep f xs)) ≡ cond b 1 0 + length (keep f xs)
    go true = omega arith
    go false = omega arith

keep_append : {A : Type 0} (f : A → Bool) (xs ys : List A) → length (keep f (xs ++ ys)) ≡ length (keep f xs) + length (keep f ys)
unfolding keep
keep_append f [] ys = omega arith
keep_append f (x ∷ xs) ys = omega (arith, keep_cons f x (xs ++ ys), keep_cons f x xs, keep_append f xs ys)

module _ (q : ℕ) where
  about_turn : (z : Sizes) (v : ℕ) (s : Lent) → about q (turn_deed (plan_of z) v s) ≡ eqb (turn_task (plan_of z) v s) q
  unfolding about turn_deed turn_task
  about_turn z v s = go (worker s v).busy (first_or (ready_tasks (plan_of z) s) (λ p. p) 0)
    where
      go : (b : Bool) (low : ℕ) → about q (cond b (did_column v s) (did_take v (cond b (worker s v).task low) s)) ≡ eqb (cond b (worker s v).task low) q
      go true low = refl
      go false low = refl

  run_counted : (z : Sizes) (b w : ℕ) (s : Lent) → run_spent (plan_of z) z.workers q b w s ≡ length (keep (about q) (run_deeds (plan_of z) z.workers b w s))
  unfolding run_spent run_deeds keep
  run_counted z zero w s = refl
  run_counted z (suc b) w s = go (run_counted z b (suc v % z.workers) (turn (plan_of z) v s)) (all_finished (plan_of z) s) refl
    where
      v : ℕ
      v = next_worker (plan_of z) z.workers w s

      go : run_spent (plan_of z) z.workers q b (suc v % z.workers) (turn (plan_of z) v s) ≡ length (keep (about q) (run_deeds (plan_of z) z.workers b (suc v % z.workers) (turn (plan_of z) v s)))
          → (f : Bool) → all_finished (plan_of z) s ≡ f → run_spent (plan_of z) z.workers q (suc b) w s ≡ length (keep (about q) (run_deeds (plan_of z) z.workers (suc b) w s))
      go ih true e = rw (e, run_spent, run_deeds)
      go ih false e =
          rw (e, run_spent, run_deeds)
          (ap (λ (n : ℕ). cond (eqb (turn_task (plan_of z) v s) q) 1 0 + n) ih
          ∙ ap (λ (t : Bool). cond t 1 0 + length (keep (about q) (run_deeds (plan_of z) z.workers b (suc v % z.workers) (turn (plan_of z) v s)))) (sym (about_turn z v s))
          ∙ sym (keep_cons (about q) (turn_deed (plan_of z) v s) (run_deeds (plan_of z) z.workers b (suc v % z.workers) (turn (plan_of z) v s))))

  accepted_counted : (a : Answer) (n : ℕ) (ds : List Deed) → n ≡ length (keep (about q) ds) → if_accepted a n ≡ length (keep (about q) (where_accepted a ds))
  unfolding if_accepted where_accepted keep
  accepted_counted (Ok _) n ds e = e
  accepted_counted (Err why) n ds e = refl

  one : (d : Deed) → length (keep (about q) (d ∷ [])) ≡ cond (about q d) 1 0
  unfolding keep
  one d = omega (arith, keep_cons (about q) d [])

  call_counted : (z : Sizes) (a : Asked) (s : Lent) → spent_by z q a s ≡ length (keep (about q) (deeds_by z a s))
  unfolding spent_by deeds_by about
  call_counted z (H.take w p) s = accepted_counted (take_answer z w p s) _ _ (sym (one (did_take w p s)))
  call_counted z (H.column w) s = accepted_counted (column_answer z w s) _ _ (sym (one (did_column w s)))
  call_counted z (H.whole_run b) s = accepted_counted (run_answer z s) _ _ (run_counted z b 0 s)

  pub calls_counted : (cs : List Call) (s : Lent) → spent_on q cs s ≡ length (keep (about q) (deeds cs s))
  unfolding spent_on deeds keep
  calls_counted [] s = refl
  calls_counted (c ∷ cs) s =
      let new = left_by c.sizes c.asked s in
      omega (arith, call_counted c.sizes c.asked s, calls_counted cs new, keep_append (about q) (deeds_by c.sizes c.asked s) (deeds cs new))

-- ---- all of it

module _ (z : Sizes) (s : Lent) (cs : List Call) (e : (open_call z s).answer ≡ accepted) where
  first : Lent
  first = (open_call z s).left

  o : Opened z s
  o = opened_by z s e

  -- an opened system has no busy worker, and no finished task
  idle_first : (v : ℕ) → (worker first v).busy ≡ true → ⊥
  unfolding first worker opened
  idle_first v b = never b (ap (λ (x : Lent). (worker x v).busy) o.left ∙ ap (λ (x : Worker). x.busy) (get_or_same z.workers v idle))

  none_first : (p : ℕ) → finished (mark (marks_of first) p) ≡ false
  unfolding first marks_of opened plan
  none_first p = ap finished (ap (λ (x : Lent). mark (marks_of x) p) o.left ∙ opened_marks (tasks z.tiles) p) ∙ waiting_unfinished

  pub listed : Listed z s cs
  unfolding first
  listed = record {
    belong = λ l. (deeds_keep z (Held z l) (record { whole = λ r. r.whole; takes = held_take z l; columns = held_column z l }) cs [] first
        (record { whole = left_whole z s o; belong = unfold AllBelong in tt; held = λ v b. absurd (idle_first v b) })).belong;
    counted = λ q. calls_counted q cs first;
    finished_by = λ p. (deeds_keep z (Ends z p) (record { whole = λ r. r.whole; takes = ends_take z p; columns = ends_column z p }) cs [] first
        (record { whole = left_whole z s o; is = none_first p ∙ sym (unfold some in refl) })).is;
  }
