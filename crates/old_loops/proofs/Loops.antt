-- The loops spoil the tasks that the old loops spoil, so they end alike; and with them every list of calls that finishes the tasks. Assumes nothing.
use Prim.Native.Nat.{ℕ, zero, suc, ◌+◌, ◌≤◌, ◌<◌}
use mathlib.Core.Bool.{Bool, true, false}
use mathlib.Core.Path.{◌≡◌, refl, sym, ap, ◌∙◌}
use mathlib.Core.List.{List}
use native.Mathlib.Omega.{arith}
use lib.Ieee.{Float}
use lib.ListN.{length, set}
use Rattle.model.specs.declared.Sizes.{Sizes}
use Rattle.model.specs.Lists.{run, below, some, in_turn}
use Rattle.model.specs.Task.{tasks, task_count}
use Rattle.model.specs.Links.{task, latest_writers, mark, spoiled, broken, spoils}
use Rattle.model.specs.Plan.{Plan, plan, plan_of}
use Rattle.model.specs.Buffer.{Ended, filled}
use Rattle.model.specs.Loops.{State, columns, ended, performed, start, loops, outcome}
use Rattle.model.specs.Old.{old_latest_writers, old_spoils, old_ended, old_performed, old_loops}
use Rattle.demand.specs.Demand.{Demand3}
use Rattle.links.specs.Closed.{key_at}
use Rattle.links.proofs.Order.{length_tasks}
use Rattle.links.proofs.Summary.{number_back, writers_list, links_writers, few_links, links_in_all}
use Rattle.demand.proofs.Theorem.{demand_3}
use Rattle.old_loops.specs.Claim.{K2}
use Rattle.old_loops.proofs.Writers as Old

module _ (N : ℕ) where
  same_writers : (p : ℕ) → p < task_count N → latest_writers (tasks N) p ≡ old_latest_writers (tasks N) p
  same_writers p h = let (w, e) = number_back N p h in rw e at (writers_list N (key_at N p) w ∙ sym (Old.writers_are N (key_at N p) w))

  same_spoils : (ms : List ℕ) (p : ℕ) → p < task_count N → spoils (tasks N) ms p ≡ old_spoils (tasks N) ms p
  unfolding spoils old_spoils
  same_spoils ms p h = ap (some (λ q. broken (mark ms q))) (same_writers p h)

module _ (N t : ℕ) where
  abbrev z : Plan
  z = record { N = N; t = t; tasks = tasks N }

  same_ended : (s : State) (p : ℕ) → p < task_count N → ended z s p ≡ old_ended z s p
  unfolding ended old_ended
  same_ended s p h = ap (λ (b : Bool). elim b as (λ x. Ended) [
    | true ↦ record { left = filled z (task (tasks N) p) s.buffers; mark = spoiled; ties = 0 }
    | false ↦ columns z t 0 (task (tasks N) p) s.buffers
  ]) (same_spoils N s.marks p h)

  same_performed : (p : ℕ) (s : State) → p < task_count N → performed z p s ≡ old_performed z p s
  unfolding performed old_performed
  same_performed p s h = ap (λ (e : Ended). record { buffers = e.left; marks = set s.marks p e.mark; ties = set s.ties p e.ties }) (same_ended s p h)

  in_turn_lem : (a n : ℕ) (s : State) → a + n ≤ task_count N → in_turn (performed z) (run a n) s ≡ in_turn (old_performed z) (run a n) s
  unfolding in_turn run
  in_turn_lem a zero s h = refl
  in_turn_lem a (suc n) s h = ap (in_turn (performed z) (run (suc a) n)) (same_performed a s (omega arith)) ∙ in_turn_lem (suc a) n (old_performed z a s) (omega arith)

  same_loops : (m : List Float) → loops (plan N t) m ≡ old_loops (plan N t) m
  unfolding loops old_loops plan below
  same_loops m = in_turn_lem 0 (length (tasks N)) (start z m) (omega (arith, length_tasks N))

pub claim : (z : Sizes) → K2 z
claim z = record {
  links = record { writers = λ q h. links_writers N q (fits h); at_most_three = λ q h. few_links N q (fits h); count = links_in_all N };
  old_spoils_lem = λ ms p h. same_spoils N ms p (fits h);
  old_loops_lem = same_loops N z.side;
  old_ends = λ s cs e.
      let d : Demand3 z s cs = demand_3 z s cs e in
      let l : loops (plan_of z) s.buffers.matrix ≡ old_loops (plan_of z) s.buffers.matrix = same_loops N z.side s.buffers.matrix in
      record { same = λ f. d.same f ∙ l; same_outcome = λ f. d.same_outcome f ∙ ap (outcome (plan_of z)) l };
}
  where
    N : ℕ
    N = z.tiles

    fits : {p : ℕ} → p < length (tasks z.tiles) → p < task_count z.tiles
    fits h = omega (arith, length_tasks z.tiles)
