-- An opening, a run with t + 1 calls for each task and the outcome, one after the other, are one worker's whole run, and it ends like the
-- published loops. Assumes nothing.
use Prim.Native.Nat.{ℕ, suc, ◌+◌, ◌*◌}
use mathlib.Core.Bool.{Bool, true, false, cond}
use mathlib.Core.Path.{◌≡◌, refl, sym, ap, ◌∙◌}
use mathlib.Core.List.{List, [], ◌∷◌, map}
use native.Mathlib.Nat.{mul_comm}
use native.Mathlib.Numerals.{add-one}
use native.Mathlib.Omega.{arith}
use lib.Ieee.{Float}
use lib.ListN.{length}
use borrow.Author.Tests.{le-leb, eq-eqb}
use Rattle.model.specs.declared.Sizes.{Sizes}
use Rattle.worker.specs.declared.Workers.{Workers}
use Rattle.model.specs.declared.TaskRecord.{TaskRecord}
use Rattle.model.specs.declared.Outcome.{Outcome}
use Rattle.std.specs.Prelude.{Ok}
use Rattle.model.specs.Answer.{Answer, RunAnswer, accepted}
use Rattle.model.specs.declared.RunStop.TheVariants.{Finished, Spent}
use Rattle.model.specs.Lists.{in_turn}
use Rattle.model.specs.Task.{tasks}
use Rattle.model.specs.Plan.{plan, plan_of, order}
use Rattle.model.specs.Loops.{outcome, loops, State}
use Rattle.model.specs.Calls.{Lent, RunEnd, state_of, without_calls, all_finished, opened, whole_run}
use Rattle.model.specs.Refusal.{Reply, refuse, replied, inside, bad_sizes, bad_lengths, open_answer, open_call, run_call}
use Rattle.model.specs.History.{left_by, after_calls}
use Rattle.model.specs.History as H
use Rattle.records.specs.Records.{records_from, marks_from, ties_from, crew, lent, all_lent}
use Rattle.records.proofs.Laws.{length_records, length_crew, marks_lent, ties_lent}
use Rattle.demand.specs.Numbered.{records_with}
use Rattle.demand.proofs.Whole.{Whole}
use Rattle.demand.proofs.Orderless.{records_with_lem}
use Rattle.demand.proofs.Answers.{run_whole}
use Rattle.demand.proofs.Opening.{opened_by}
use Rattle.demand.proofs.Theorem.{demand_3}
use Rattle.demand.proofs.Runs.{run_itself, runs_are_calls}
use Rattle.demand.proofs.Corollaries.{run_finishes}
use Rattle.one_worker.specs.Alone.{Lendable, Result, alone, published}

module _ (N t : ℕ) (m : List Float) (l : List ℕ) (r : List (List ℕ)) (ws : Workers) (h : Lendable N t m l r) (one : ws.count ≡ 1) where
  abbrev z : Sizes
  z = record { tiles = N; side = t; workers = 1 }

  abbrev s : Lent
  s = all_lent m l r ws

  -- ---- the opening is accepted

  right_sizes : bad_sizes z ≡ false
  unfolding bad_sizes inside
  right_sizes = rw (le-leb 1 N h.tiles.0, le-leb N 16 h.tiles.1, le-leb 1 t h.side.0, le-leb t 16 h.side.1)

  right_lengths : bad_lengths (plan_of z) 1 s ≡ false
  unfolding bad_lengths lent plan order
  right_lengths =
      rw (
        eq-eqb (length m) (N * t * (N * t)) h.lengths.buffers.matrix_fits,
        eq-eqb (length l) (N * N * t) h.lengths.buffers.lists_fit,
        eq-eqb (length (records_from r)) (length (tasks N)) (length_records r ∙ h.lengths.records_fit),
        eq-eqb (length (crew ws.slots ws.count)) 1 (length_crew ws.slots ws.count ∙ one),
      )

  opens : (open_call z s).answer ≡ accepted
  unfolding open_call open_answer refuse replied lent
  opens = rw (right_sizes, right_lengths, h.finite_all)

  -- ---- the run is accepted, and finishes

  abbrev budget : ℕ
  budget = length (tasks N) * suc t

  abbrev first : Lent
  first = (open_call z s).left

  first_is : first ≡ opened (plan N t) 1 m
  unfolding lent
  first_is = (opened_by z s opens).left

  run_is : run_call z budget first ≡ whole_run (plan N t) 1 budget (opened (plan N t) 1 m)
  unfolding after_calls in_turn whole_run
  run_is = run_itself z budget first (demand_3 z s [] opens).runs ∙ ap (whole_run (plan N t) 1 budget) first_is

  finishes : all_finished (plan N t) (run_call z budget first).left ≡ true
  unfolding after_calls in_turn
  finishes = go (all_finished (plan N t) (run_call z budget first).left) refl (run_finishes z s [] opens budget (omega (arith, mul_comm (length (tasks N)) (suc t), add-one t)))
    where
      go : (b : Bool) → all_finished (plan N t) (run_call z budget first).left ≡ b → (n : ℕ) × ((run_call z budget first).answer ≡ Ok (Finished n)) → b ≡ true
      go true q f = refl
      go false q (n, f) =
          let k = runs_are_calls z budget first (demand_3 z s [] opens).runs in
          let g : (run_call z budget first).answer ≡ Ok (Spent (length k.calls)) = k.answer ∙ ap (λ (b : Bool). cond b (Ok (Finished (length k.calls))) (Ok (Spent (length k.calls)))) q in
          let y : ◌≡◌ {A = ℕ} 0 1 = cc in
          absurd (omega arith)

  like_loops : state_of (run_call z budget first).left ≡ loops (plan N t) m
  unfolding after_calls in_turn left_by lent
  like_loops = (demand_3 z s (record { sizes = z; asked = H.whole_run budget } ∷ []) opens).same finishes

  -- ---- one after the other

  whole : Whole z (run_call z budget first).left
  unfolding after_calls in_turn left_by
  whole = run_whole z (run_call z budget first).left (demand_3 z s (record { sizes = z; asked = H.whole_run budget } ∷ []) opens).runs

  -- what is told of everything lent, and of the loops' state
  told : Lent → Result
  told e = record { buffers = e.buffers; records = e.records; outcome = outcome (plan N t) (state_of e) }

  told_state : State → Result
  told_state x = record { buffers = x.buffers; records = records_with (tasks N) x.marks x.ties; outcome = outcome (plan N t) x }

  -- the same without calls
  quiet : Result → Result
  quiet x = record { buffers = x.buffers; records = map without_calls x.records; outcome = x.outcome }

  told_whole : quiet (told (run_call z budget first).left) ≡ told_state (state_of (run_call z budget first).left)
  unfolding quiet told told_state state_of
  told_whole =
      let e = (run_call z budget first).left in
      ap (λ (rs : List TaskRecord). record { buffers = e.buffers; records = rs; outcome = outcome (plan N t) (state_of e) }) (records_with_lem z e whole)

  module _ (a : Answer) (l₁ : List ℕ) (r₁ : List (List ℕ)) (ws₁ : Workers) (opened-to : ◌≡◌ {A = Reply} (record { answer = a; left = all_lent m l₁ r₁ ws₁ }) (open_call z s))
      (b : ℕ) (b-is : b ≡ length (tasks N) * (t + 1))
      (a₂ : RunAnswer) (m₂ : List Float) (l₂ : List ℕ) (r₂ : List (List ℕ)) (ws₂ : Workers) (ran_to : ◌≡◌ {A = RunEnd} (record { answer = a₂; left = all_lent m₂ l₂ r₂ ws₂ }) (run_call z b (all_lent m l₁ r₁ ws₁)))
      (o : Outcome) (o_is : (lists : List ℕ) → o ≡ outcome (plan N t) (record { buffers = record { matrix = m₂; lists = lists }; marks = marks_from r₂; ties = ties_from r₂ })) where
    left_is : all_lent m₂ l₂ r₂ ws₂ ≡ (run_call z budget first).left
    left_is =
        ap (λ (e : RunEnd). e.left) ran_to
        ∙ ap (λ (k : ℕ). (run_call z k (all_lent m l₁ r₁ ws₁)).left) (b-is ∙ ap (λ (k : ℕ). length (tasks N) * k) (add-one t))
        ∙ ap (λ (k : Reply). (run_call z budget k.left).left) opened-to

    states : outcome (plan N t) (record { buffers = record { matrix = m₂; lists = l₂ }; marks = marks_from r₂; ties = ties_from r₂ }) ≡ outcome (plan N t) (state_of (all_lent m₂ l₂ r₂ ws₂))
    unfolding state_of lent
    states = λ i. outcome (plan N t) (record {
      buffers = record { matrix = m₂; lists = l₂ };
      marks = sym (marks_lent m₂ l₂ r₂ ws₂.slots ws₂.count ws₂.number) i;
      ties = sym (ties_lent m₂ l₂ r₂ ws₂.slots ws₂.count ws₂.number) i;
    })

    told_is : ◌≡◌ {A = Result} (record { buffers = record { matrix = m₂; lists = l₂ }; records = records_from r₂; outcome = o }) (told (run_call z budget first).left)
    unfolding told lent
    told_is =
        ap (λ (k : Outcome). record { buffers = record { matrix = m₂; lists = l₂ }; records = records_from r₂; outcome = k }) (o_is l₂ ∙ states)
        ∙ ap told left_is

    pub alone_told : ◌≡◌ {A = Result} (record { buffers = record { matrix = m₂; lists = l₂ }; records = records_from r₂; outcome = o }) (alone (plan N t) m)
    unfolding told alone plan
    alone_told = told_is ∙ ap (λ (e : RunEnd). told e.left) run_is

    pub published_told : ◌≡◌ {A = Result} (record { buffers = record { matrix = m₂; lists = l₂ }; records = map without_calls (records_from r₂); outcome = o }) (published (plan N t) m)
    unfolding quiet told_state published plan
    published_told = ap quiet told_is ∙ told_whole ∙ ap told_state like_loops
