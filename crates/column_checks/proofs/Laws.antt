-- The answer of a column call, refusal by refusal, and what an accepted one may count on. Assumes nothing.
use Prim.Native.Nat.{ℕ, ◌≤◌, ◌<◌}
use mathlib.Core.Bool.{Bool, true, false, not, ◌||◌}
use mathlib.Core.Path.{◌≡◌, sym, ap, ◌∙◌, subst}
use mathlib.Core.List.{List}
use native.Mathlib.Omega.{arith}
use lib.Ieee.{Float}
use lib.ListN.{length, get_or}
use borrow.Author.Tests.{le-leb, lt-leb, leb-false, not-false}
use Rattle.model.specs.declared.Sizes.{Sizes}
use Rattle.worker.specs.declared.Worker.{Worker}
use Rattle.model.specs.Answer.{Answer, accepted, refused_by}
use Rattle.model.specs.declared.Rule.TheVariants.{BadSizes, BadLengths, Damaged, WrongWorker}
use Rattle.model.specs.Task.{tasks}
use Rattle.model.specs.Plan.{plan, plan_of}
use Rattle.model.specs.Links.{task}
use Rattle.model.specs.Buffer.{Buffers, finite_tiles}
use Rattle.model.specs.Calls.{Lent, worker}
use Rattle.worker.specs.Holding.{idle}
use Rattle.model.specs.Refusal.{refuse, bad_sizes, bad_lengths, damaged, bad_tiles, no_worker, column_answer}
use Rattle.laws.proofs.Refusals.{passed}
use Rattle.laws.proofs.Tests.{or_left, or_right, or_false_left, or_false_right, and_true_not}
use Rattle.records.specs.Records.{records_from, blank, lent}
use Rattle.checks.specs.Checks.{Inside, task_from}
use Rattle.answers.specs.Answers.{accepts}
use Rattle.answers.proofs.Refusals.{refuses, passes, is_accepted}
use Rattle.states.specs.States.{state_answer, Undamaged}
use Rattle.states.proofs.Laws.{sound, goes_on, stops}
use Rattle.call_laws.proofs.Undamaged.{worker_lent, worker_beyond, workers_long, worker_holds, record_named, record_inside}

module _ (z : Sizes) (m : List Float) (l : List ℕ) (r : List (List ℕ)) (ws : List Worker) (count number w : ℕ) where
  abbrev old : Lent
  old = lent m l r ws count number

  abbrev buffers : Buffers
  buffers = record { matrix = m; lists = l }

  abbrev bad : Bool
  bad = damaged (plan_of z) old || bad_tiles (plan_of z) w old

  abbrev bad_worker_lem : Bool
  bad_worker_lem = no_worker w old || not (worker old w).busy

  abbrev from_5 : Answer
  from_5 = refuse WrongWorker w bad_worker_lem accepted

  damaged_is_bad : damaged (plan_of z) old ≡ true → bad ≡ true
  damaged_is_bad h = or_left (damaged (plan_of z) old) (bad_tiles (plan_of z) w old) h

  else_tiles : damaged (plan_of z) old ≡ false → bad ≡ bad_tiles (plan_of z) w old
  else_tiles h = rw h

  module _ (a : Answer) (e : a ≡ state_answer z old) (b : Bool) (f : b ≡ accepts a) where
    pub state_stops : b ≡ false → a ≡ column_answer z w old
    unfolding column_answer
    state_stops q = e ∙ stops z old bad (bad_tiles (plan_of z) w old) damaged_is_bad else_tiles from_5 (ap accepts (sym e) ∙ sym f ∙ q)

    module _ (q : b ≡ true) where
      counted : count ≡ z.workers
      counted = (sound z m l r ws count number (sym e ∙ is_accepted a b f q)).0

      pub is_sound : Undamaged z m l r ws number
      is_sound = (sound z m l r ws count number (sym e ∙ is_accepted a b f q)).1

      -- refusal 4 is left for the tiles
      after_2 : refuse Damaged 0 (bad_tiles (plan_of z) w old) from_5 ≡ column_answer z w old
      unfolding column_answer
      after_2 = goes_on z old bad (bad_tiles (plan_of z) w old) damaged_is_bad else_tiles from_5 (sym e ∙ is_accepted a b f q)

      -- a worker without a task has no tiles
      idle_passes : (worker old w).busy ≡ false → bad_tiles (plan_of z) w old ≡ false
      unfolding bad_tiles
      idle_passes x = rw x

      refused_5 : (worker old w).busy ≡ false → bad_worker_lem ≡ true → refused_by WrongWorker w ≡ column_answer z w old
      refused_5 x y = sym (passes Damaged 0 (bad_tiles (plan_of z) w old) from_5 (idle_passes x) ∙ refuses WrongWorker w bad_worker_lem accepted y) ∙ after_2

      pub no_worker_lem : z.workers ≤ w → refused_by WrongWorker w ≡ column_answer z w old
      unfolding no_worker
      no_worker_lem x =
          refused_5 (ap (λ (v : Worker). v.busy) (worker_beyond m l r ws count number w (omega (arith, counted))))
          (or_left (no_worker w old) (not (worker old w).busy) (le-leb (length old.workers) w (omega (arith, workers_long m l r ws count number w, counted))))

      module _ (x : w < z.workers) where
        its_slot : worker old w ≡ get_or ws w idle
        its_slot = worker_lent m l r ws count number w (omega (arith, counted))

        busy_is : (worker old w).busy ≡ (get_or ws w idle).busy
        busy_is = ap (λ (v : Worker). v.busy) its_slot

        pub idle_worker : (get_or ws w idle).busy ≡ false → refused_by WrongWorker w ≡ column_answer z w old
        idle_worker y = refused_5 (busy_is ∙ y) (or_right (no_worker w old) (not (worker old w).busy) (ap not (busy_is ∙ y)))

        module _ (y : (get_or ws w idle).busy ≡ true) where
          abbrev p : ℕ
          p = (get_or ws w idle).task

          pub task_exists : p < length (tasks z.tiles)
          task_exists = (worker_holds z m l r ws number w is_sound.undamaged x y).0

          pub tiles_there : Inside z.tiles (get_or (records_from r) p blank)
          tiles_there = record_inside z m l r ws number is_sound.sizes is_sound.lengths.records_fit is_sound.undamaged p task_exists

          module _ (t : Bool) (u : t ≡ not (finite_tiles (plan_of z) (task_from (get_or (records_from r) p blank)) buffers)) where
            tiles_are : t ≡ bad_tiles (plan_of z) w old
            unfolding bad_tiles lent plan
            tiles_are =
                rw (its_slot, y)
                (u ∙ ap (λ k. not (finite_tiles (plan_of z) k buffers)) (record_named z m l r ws number is_sound.sizes is_sound.lengths.records_fit is_sound.undamaged p task_exists))

            pub tiles_bad : t ≡ true → refused_by Damaged 0 ≡ column_answer z w old
            tiles_bad v = sym (refuses Damaged 0 (bad_tiles (plan_of z) w old) from_5 (sym tiles_are ∙ v)) ∙ after_2

            pub tiles_good : t ≡ false → accepted ≡ column_answer z w old
            unfolding no_worker
            tiles_good v =
                sym (passes Damaged 0 (bad_tiles (plan_of z) w old) from_5 (sym tiles_are ∙ v)
                ∙ passes WrongWorker w bad_worker_lem accepted (rw (lt-leb (length old.workers) w (omega (arith, workers_long m l r ws count number w, counted)), busy_is ∙ y))) ∙ after_2

  -- ---- an accepted column

  finite_then : worker old w ≡ get_or ws w idle → finite_tiles (plan_of z) (task (plan_of z).tasks (worker old w).task) old.buffers ≡ true
      → finite_tiles (plan_of z) (task (tasks z.tiles) (get_or ws w idle).task) buffers ≡ true
  unfolding lent plan
  finite_then o t = subst (λ (v : Worker). finite_tiles (plan_of z) (task (tasks z.tiles) v.task) buffers ≡ true) o t

  -- the state is sound, and worker w exists, is busy and has finite tiles
  pub accepted_then : column_answer z w old ≡ accepted
      → (count ≡ z.workers) × Undamaged z m l r ws number × (w < z.workers) × ((get_or ws w idle).busy ≡ true) × (finite_tiles (plan_of z) (task (tasks z.tiles) (get_or ws w idle).task) buffers ≡ true)
  unfolding column_answer state_answer no_worker bad_tiles
  accepted_then e =
      let a = passed BadSizes 0 (bad_sizes z) _ e in
      let b = passed BadLengths 0 (bad_lengths (plan_of z) z.workers old) (refuse Damaged 0 bad from_5) a.1 in
      let c = passed Damaged 0 bad from_5 b.1 in
      let d = passed WrongWorker w bad_worker_lem accepted c.1 in
      let u = or_false_left (damaged (plan_of z) old) (bad_tiles (plan_of z) w old) c.0 in
      let (n, s) = sound z m l r ws count number (passes BadSizes 0 (bad_sizes z) _ a.0 ∙ passes BadLengths 0 (bad_lengths (plan_of z) z.workers old) _ b.0 ∙ passes Damaged 0 (damaged (plan_of z) old) accepted u) in
      let g = workers_long m l r ws count number w in
      let x : w < z.workers = omega (arith, g, n, leb-false (length old.workers) w (or_false_left (no_worker w old) (not (worker old w).busy) d.0)) in
      let o = worker_lent m l r ws count number w (omega (arith, n)) in
      let y = not-false (worker old w).busy (or_false_right (no_worker w old) (not (worker old w).busy) d.0) in
      let t = and_true_not (worker old w).busy _ y (or_false_right (damaged (plan_of z) old) (bad_tiles (plan_of z) w old) c.0) in
      (n, s, x, ap (λ (v : Worker). v.busy) (sym o) ∙ y, finite_then o t)
