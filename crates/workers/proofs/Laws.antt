-- What a worker's fields and its task's mark say of its hold, in the order in which the code tests them. Assumes nothing.
use Prim.Native.Nat.{ℕ, ◌≤◌, ◌<◌}
use mathlib.Core.Path.{◌≡◌, sym, ◌∙◌}
use mathlib.Core.Logic.{◌⊎◌, inl, inr}
use mathlib.Core.Bool.{true, false, not}
use mathlib.Core.List.{List}
use native.Mathlib.Omega.{arith}
use lib.Dec.{leb, ltb}
use lib.ListN.{length}
use borrow.Author.Tests.{ltb-true, ltb-false, lt-ltb, le-ltb, le-leb, lt-leb, eq-eqb, ne_eqb}
use Rattle.model.specs.declared.Sizes.{Sizes}
use Rattle.worker.specs.declared.Worker.{Worker}
use Rattle.model.specs.Task.{tasks}
use Rattle.model.specs.Plan.{plan, plan_of}
use Rattle.model.specs.Links.{mark}
use Rattle.model.specs.Calls.{marks_of}
use Rattle.model.specs.Refusal.{bad_worker}
use Rattle.laws.proofs.Tests.{true_or_false}
use Rattle.records.specs.Records.{marks_from, lent}
use Rattle.checks.specs.Checks.{records_alone}

le_as_lt : (a b : ℕ) → leb b a ≡ not (ltb a b)
le_as_lt a b = go (true_or_false (ltb a b))
  where
    go : (ltb a b ≡ true) ⊎ (ltb a b ≡ false) → leb b a ≡ not (ltb a b)
    go (inl e) = rw (e, lt-leb b a (ltb-true a b e))
    go (inr e) = rw (e, le-leb b a (ltb-false a b e))

module _ (z : Sizes) (r : List (List ℕ)) (h : Worker) where
  pub worker_idle : h.busy ≡ false → false ≡ bad_worker (plan_of z) (records_alone r) h
  unfolding bad_worker
  worker_idle e = rw e

  module _ (e : h.busy ≡ true) (c : ℕ) (q : c ≡ length (tasks z.tiles)) where
    pub worker_lost : c ≤ h.task → true ≡ bad_worker (plan_of z) (records_alone r) h
    unfolding bad_worker plan
    worker_lost l = rw (e, le-ltb h.task (length (tasks z.tiles)) (omega arith))

    module _ (l : h.task < c) (m : ℕ) (g : m ≡ mark (marks_from r) h.task) where
      pub worker_unmarked : (m ≡ 1 → ⊥) → true ≡ bad_worker (plan_of z) (records_alone r) h
      unfolding bad_worker plan lent marks_of marks_from
      worker_unmarked d = rw (e, lt-ltb h.task (length (tasks z.tiles)) (omega arith), ne_eqb (mark (marks_from r) h.task) 1 (λ a. d (g ∙ a)))

      pub worker_column : m ≡ 1 → leb z.side h.column ≡ bad_worker (plan_of z) (records_alone r) h
      unfolding bad_worker plan lent marks_of marks_from
      worker_column a =
          rw (e, lt-ltb h.task (length (tasks z.tiles)) (omega arith), eq-eqb (mark (marks_from r) h.task) 1 (sym g ∙ a)) (le_as_lt h.column z.side)
