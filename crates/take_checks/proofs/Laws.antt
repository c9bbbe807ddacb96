-- The answer of a take, refusal by refusal, and what an accepted one has. Assumes nothing.
use Prim.Native.Nat.{ℕ, ◌≤◌, ◌<◌}
use mathlib.Core.Bool.{Bool, true, false, not, ◌||◌}
use mathlib.Core.Path.{◌≡◌, sym, ap, ◌∙◌}
use mathlib.Core.List.{List}
use native.Mathlib.Omega.{arith}
use lib.Dec.{leb}
use lib.Ieee.{Float}
use lib.ListN.{length, get_or}
use borrow.Author.Tests.{le-leb, lt-leb, leb-false}
use Rattle.model.specs.declared.Sizes.{Sizes}
use Rattle.worker.specs.declared.Worker.{Worker}
use Rattle.model.specs.Answer.{Answer, accepted, refused_by}
use Rattle.model.specs.declared.Rule.TheVariants.{BadSizes, BadLengths, Damaged, WrongWorker, NoTask, NotReady}
use Rattle.model.specs.Task.{tasks}
use Rattle.model.specs.Plan.{plan, plan_of}
use Rattle.model.specs.Links.{ready}
use Rattle.model.specs.Calls.{Lent, marks_of, worker}
use Rattle.worker.specs.Holding.{idle}
use Rattle.model.specs.Refusal.{refuse, bad_sizes, bad_lengths, damaged, no_worker, take_answer}
use Rattle.laws.proofs.Refusals.{passed}
use Rattle.laws.proofs.Tests.{or_left, or_right, or_false_left}
use Rattle.records.specs.Records.{marks_from, lent}
use Rattle.answers.specs.Answers.{accepts}
use Rattle.answers.proofs.Refusals.{refuses, passes, is_accepted}
use Rattle.states.specs.States.{state_answer, Undamaged}
use Rattle.states.proofs.Laws.{sound, goes_on, stops}
use Rattle.call_laws.proofs.Undamaged.{worker_lent, workers_long}

module _ (z : Sizes) (m : List Float) (l : List ℕ) (r : List (List ℕ)) (ws : List Worker) (count number w p : ℕ) where
  abbrev old : Lent
  old = lent m l r ws count number

  abbrev bad_worker_lem : Bool
  bad_worker_lem = no_worker w old || (worker old w).busy

  -- ---- the rows of the table that are left after each

  abbrev from_7 : Answer
  from_7 = refuse NotReady p (not (ready (plan_of z).tasks (marks_of old) p)) accepted

  abbrev from_6 : Answer
  from_6 = refuse NoTask 0 (leb (length (plan_of z).tasks) p) from_7

  abbrev from_5 : Answer
  from_5 = refuse WrongWorker w bad_worker_lem from_6

  abbrev from_4 : Answer
  from_4 = refuse Damaged 0 (damaged (plan_of z) old) from_5

  module _ (a : Answer) (e : a ≡ state_answer z old) (b : Bool) (f : b ≡ accepts a) where
    pub state_stops : b ≡ false → a ≡ take_answer z w p old
    unfolding take_answer
    state_stops q = e ∙ stops z old (damaged (plan_of z) old) false (λ h. h) (λ h. h) from_5 (ap accepts (sym e) ∙ sym f ∙ q)

    module _ (q : b ≡ true) where
      counted : count ≡ z.workers
      counted = (sound z m l r ws count number (sym e ∙ is_accepted a b f q)).0

      pub is_sound : Undamaged z m l r ws number
      is_sound = (sound z m l r ws count number (sym e ∙ is_accepted a b f q)).1

      after_4 : from_5 ≡ take_answer z w p old
      unfolding take_answer refuse
      after_4 = goes_on z old (damaged (plan_of z) old) false (λ h. h) (λ h. h) from_5 (sym e ∙ is_accepted a b f q)

      pub no_worker_lem : z.workers ≤ w → refused_by WrongWorker w ≡ take_answer z w p old
      unfolding no_worker
      no_worker_lem x =
          sym (refuses WrongWorker w bad_worker_lem from_6 (or_left (no_worker w old) (worker old w).busy (le-leb (length old.workers) w (omega (arith, workers_long m l r ws count number w, counted))))) ∙ after_4

      module _ (x : w < z.workers) where
        busy_is : (worker old w).busy ≡ (get_or ws w idle).busy
        busy_is = ap (λ (h : Worker). h.busy) (worker_lent m l r ws count number w (omega (arith, counted)))

        pub busy_worker : (get_or ws w idle).busy ≡ true → refused_by WrongWorker w ≡ take_answer z w p old
        busy_worker y = sym (refuses WrongWorker w bad_worker_lem from_6 (or_right (no_worker w old) (worker old w).busy (busy_is ∙ y))) ∙ after_4

        module _ (y : (get_or ws w idle).busy ≡ false) (n : ℕ) (c : n ≡ length (tasks z.tiles)) where
          after_5 : from_6 ≡ take_answer z w p old
          unfolding no_worker
          after_5 = sym (passes WrongWorker w bad_worker_lem from_6 (rw (lt-leb (length old.workers) w (omega (arith, workers_long m l r ws count number w, counted)), busy_is ∙ y))) ∙ after_4

          pub no_task : n ≤ p → refused_by NoTask 0 ≡ take_answer z w p old
          unfolding plan
          no_task i = sym (refuses NoTask 0 (leb (length (tasks z.tiles)) p) from_7 (le-leb (length (tasks z.tiles)) p (omega (arith, c)))) ∙ after_5

          module _ (i : p < n) (t : Bool) (u : t ≡ ready (tasks z.tiles) (marks_from r) p) where
            after_6 : from_7 ≡ take_answer z w p old
            unfolding plan
            after_6 = sym (passes NoTask 0 (leb (length (tasks z.tiles)) p) from_7 (lt-leb (length (tasks z.tiles)) p (omega (arith, c)))) ∙ after_5

            pub not_ready : t ≡ false → refused_by NotReady p ≡ take_answer z w p old
            unfolding plan marks_of lent marks_from
            not_ready v = sym (refuses NotReady p (not (ready (tasks z.tiles) (marks_from r) p)) accepted (ap not (sym u ∙ v))) ∙ after_6

            pub is_ready : t ≡ true → accepted ≡ take_answer z w p old
            unfolding plan marks_of lent marks_from
            is_ready v = sym (passes NotReady p (not (ready (tasks z.tiles) (marks_from r) p)) accepted (ap not (sym u ∙ v))) ∙ after_6

  -- ---- an accepted take

  pub record Accepting : Type 0 where
    pub counted : count ≡ z.workers
    pub state : Undamaged z m l r ws number
    pub worker_exists : w < z.workers
    pub task_exists : p < length (tasks z.tiles)

  pub accepting : take_answer z w p old ≡ accepted → Accepting
  unfolding take_answer state_answer plan no_worker
  accepting e =
      let a = passed BadSizes 0 (bad_sizes z) _ e in
      let b = passed BadLengths 0 (bad_lengths (plan_of z) z.workers old) from_4 a.1 in
      let c = passed Damaged 0 (damaged (plan_of z) old) from_5 b.1 in
      let d = passed WrongWorker w bad_worker_lem from_6 c.1 in
      let f = passed NoTask 0 (leb (length (tasks z.tiles)) p) from_7 d.1 in
      let (n, s) = sound z m l r ws count number (passes BadSizes 0 (bad_sizes z) _ a.0 ∙ passes BadLengths 0 (bad_lengths (plan_of z) z.workers old) _ b.0 ∙ passes Damaged 0 (damaged (plan_of z) old) accepted c.0) in
      let g = workers_long m l r ws count number w in
      record {
        counted = n;
        state = s;
        worker_exists = omega (arith, g, n, leb-false (length old.workers) w (or_false_left (no_worker w old) (worker old w).busy d.0));
        task_exists = leb-false (length (tasks z.tiles)) p f.0;
      }
