-- What follows from demand 3: a large enough run finishes, and neither the calls nor the number of workers show in the end.
-- Assumes nothing.
use Prim.Native.Nat.{ℕ, ◌+◌, ◌*◌, ◌≤◌}
use mathlib.Core.Path.{◌≡◌, sym, ap, ◌∙◌}
use mathlib.Core.List.{List, map}
use lib.ListN.{replicate}
use native.Mathlib.Omega.{arith}
use Rattle.model.specs.declared.Sizes.{Sizes}
use Rattle.std.specs.Prelude.{Ok}
use Rattle.model.specs.Answer.{accepted}
use Rattle.model.specs.declared.RunStop.TheVariants.{Finished}
use Rattle.model.specs.Task.{tasks}
use Rattle.model.specs.Plan.{plan, plan_of}
use Rattle.worker.specs.Holding.{idle}
use Rattle.model.specs.Loops.{loops, outcome}
use Rattle.model.specs.Calls.{Lent, state_of, without_calls}
use Rattle.model.specs.Refusal.{open_call, run_call}
use Rattle.model.specs.History.{Call}
use Rattle.demand.specs.Demand.{end}
use Rattle.demand.specs.Numbered.{Numbered, orderless, records_with}
use Rattle.demand.specs.Promise.{TwoOpenings, Alike, Promise}
use Rattle.cells.proofs.Machine.{count}
use Rattle.demand.proofs.Whole.{Whole}
use Rattle.demand.proofs.Answers.{run_accepted}
use Rattle.demand.proofs.Moves.{move_whole}
use Rattle.demand.proofs.Calls.{calls_keep}
use Rattle.demand.proofs.Measure.{left, move_lowers, opened_left, enough}
use Rattle.demand.proofs.Opening.{Opened, opened_by, left_whole}
use Rattle.demand.proofs.Theorem.{demand_3}
use Rattle.demand.proofs.Runs.{run_itself, runs_are_calls}
use Rattle.demand.proofs.Listed.{listed}
use Rattle.demand.proofs.Told.{all_told}
use Rattle.demand.proofs.Counting.{number_is}
use Rattle.demand.proofs.Order.{in_order}
use Rattle.demand.proofs.Orderless.{records_with_lem, end_whole, all_idle}

-- ---- a run with t + 1 calls for each task

module _ (z : Sizes) (s : Lent) (cs : List Call) (e : (open_call z s).answer ≡ accepted) where
  -- calls do not add to what is left
  low : Whole z (end z s cs) × (left z (end z s cs) ≤ (z.side + 1) * count z)
  low =
      let o : Opened z s = opened_by z s e in
      calls_keep z 0 (λ n r. Whole z r × (left z r ≤ (z.side + 1) * count z))
      (record { whole = λ h. h.0; moves = λ h m. (move_whole h.0 m, omega (arith, h.1, move_lowers z h.0 m)) }) cs 0 (open_call z s).left
      (left_whole z s o, omega (arith, ap (left z) o.left, opened_left z s.buffers.matrix))

  pub run_finishes : (budget : ℕ) → (z.side + 1) * count z ≤ budget → (n : ℕ) × ((run_call z budget (end z s cs)).answer ≡ Ok (Finished n))
  run_finishes budget h =
      let (w, l) = low in
      let (n, f) = enough z budget (end z s cs) w (omega arith) in
      (n, ap (λ r. r.answer) (run_itself z budget (end z s cs) (run_accepted z (end z s cs) w)) ∙ f)

-- ---- two complete lists of calls

pub alike : (z y : Sizes) (s r : Lent) (cs ds : List Call) → TwoOpenings z y s r cs ds → Alike z y s r cs ds
alike z y s r cs ds p = record {
  state = same;
  outcome = λ i. outcome (plans i) (same i);
  records = records;
  all_else = λ w. unfold orderless state_of in (λ i. record {
    buffers = (same i).buffers;
    records = records i;
    workers = (all_idle z s cs p.opened p.finished ∙ (λ j. replicate (w j) idle) ∙ sym (all_idle y r ds p.opened' p.finished')) i;
    number = 0;
  });
}
  where
    plans : plan_of z ≡ plan_of y
    plans = λ i. plan (p.tiles i) (p.side i)

    same : state_of (end z s cs) ≡ state_of (end y r ds)
    same = (demand_3 z s cs p.opened).same p.finished ∙ (λ i. loops (plans i) (p.matrix i)) ∙ sym ((demand_3 y r ds p.opened').same p.finished')

    records : map without_calls (end z s cs).records ≡ map without_calls (end y r ds).records
    records =
        records_with_lem z (end z s cs) (end_whole z s cs p.opened)
        ∙ unfold state_of in (λ i. records_with (tasks (p.tiles i)) (same i).marks (same i).ties)
        ∙ sym (records_with_lem y (end y r ds) (end_whole y r ds p.opened'))

-- ---- call numbers

numbered : (z : Sizes) (s : Lent) (cs : List Call) → (open_call z s).answer ≡ accepted → Numbered z s cs
numbered z s cs e =
    let t = all_told z s cs e in
    record { counts = t.counts; sums = number_is z s e cs; tells = t.tells; in_order = in_order z s cs e }

pub promise : (z : Sizes) → Promise z
promise z = record {
  any_calls = λ s cs e. demand_3 z s cs e;
  one_by_one = λ s cs e. listed z s cs e;
  runs_are_calls = λ b s e. runs_are_calls z b s e;
  enough = λ s cs e b h. run_finishes z s cs e b h;
  numbered = λ s cs e. numbered z s cs e;
  any_workers = λ y s r cs ds p. alike z y s r cs ds p;
}
