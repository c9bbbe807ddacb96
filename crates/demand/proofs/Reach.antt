-- What is reached: what is lent is whole, and is the state to which a list of accepted calls brings order_free's machine. Moves keep it.
-- Assumes nothing.
use Prim.Native.Nat.{ℕ, ◌+◌, ◌≤◌, ◌<◌}
use mathlib.Core.Bool.{Bool, true, false, not, cond, ◌&&◌}
use mathlib.Core.Path.{◌≡◌, refl, sym, ap, ◌∙◌, subst}
use mathlib.Core.List.{List, [], ◌∷◌, ◌++◌}
use native.Mathlib.Omega.{arith}
use lib.Dec.{eqb, ltb}
use borrow.Author.Tests.{lt-ltb}
use Rattle.model.specs.declared.Sizes.{Sizes}
use Rattle.worker.specs.declared.Worker as MW
use Rattle.model.specs.Task.{tasks}
use Rattle.model.specs.Plan.{plan_of}
use Rattle.model.specs.Links.{mark}
use Rattle.model.specs.Links as ML
use Rattle.model.specs.Calls.{Lent, marks_of, worker, took, advanced}
use Rattle.order_free.specs.Graph.{is_waiting}
use Rattle.order_free.specs.Machine.{Worker, is_idle, State, Call, take, column, start, effect, accepts, about, works_on, step, after, spent, ready}
use Rattle.laws.proofs.Tests.{and_left, and_right, and_intro}
use Rattle.cells.specs.Cells.{Val}
use Rattle.cells.proofs.Valid.{tasks_valid}
use Rattle.cells.proofs.Marks.{to_mark}
use Rattle.cells.proofs.Links.{ready_is}
use Rattle.cells.proofs.Machine.{S, count, worker_of, busy_of, abs, sums_fn, tie_gain, took_is, took_sums, advanced_is, advanced_sums}
use Rattle.order_free.specs.Sums.{summed}
use Rattle.order_free.proofs.Sums.{Sums, summed_sums}
use Rattle.order_free.proofs.Invariant.{Inv}
use Rattle.order_free.proofs.Calls.{always}
use Rattle.cells.proofs.Instance.{system_laws, ties_laws}
use Rattle.demand.proofs.Whole.{Whole, in_range}
use Rattle.demand.proofs.Moves.{Move, takes, works, move_whole}

idle_of : (h : MW.Worker) → h.busy ≡ false → is_idle (worker_of h) ≡ true
idle_of h e = rw e

module _ (z : Sizes) (σ : ℕ → Val) (q : ℕ) where
  -- n calls at least were about task q
  pub record Reach (n : ℕ) (s : Lent) : Type 0 where
    pub whole : Whole z s
    pub calls : List Call
    pub is : abs z s ≡ after (S z) z.workers calls (start (S z) σ)
    -- the tie sums are those that the machine carries
    pub sums : Sums (S z) (tie_gain z) z.workers σ (abs z s) (sums_fn z s)
    pub made : n ≤ spent (S z) z.workers q calls (start (S z) σ)

  pub as_many : (n k : ℕ) (s : Lent) → n ≡ k → Reach n s → Reach k s
  as_many n k s h r = record { whole = r.whole; calls = r.calls; is = r.is; sums = r.sums; made = omega (arith, r.made) }

  -- ---- one more call

  after_last : (xs : List Call) (c : Call) (s : State (S z))
      → after (S z) z.workers (xs ++ (c ∷ [])) s ≡ step (S z) z.workers c (after (S z) z.workers xs s)
  unfolding after
  after_last [] c s = refl
  after_last (x ∷ xs) c s = after_last xs c (step (S z) z.workers x s)

  abbrev counted : Call → State (S z) → ℕ
  counted c s = cond (accepts (S z) z.workers c s && about (S z) c s q) 1 0

  spent_last : (xs : List Call) (c : Call) (s : State (S z))
      → spent (S z) z.workers q (xs ++ (c ∷ [])) s ≡ spent (S z) z.workers q xs s + counted c (after (S z) z.workers xs s)
  unfolding after spent
  spent_last [] c s = omega arith
  spent_last (x ∷ xs) c s = omega (arith, spent_last xs c (step (S z) z.workers x s))

  grows : (n : ℕ) (s s' : Lent) → Reach n s → (c : Call) → accepts (S z) z.workers c (abs z s) ≡ true → Whole z s' → abs z s' ≡ effect (S z) c (abs z s)
      → sums_fn z s' ≡ summed (S z) (tie_gain z) c (abs z s) (sums_fn z s)
      → Reach (n + cond (about (S z) c (abs z s) q) 1 0) s'
  unfolding step
  grows n s s' r c a h e f =
      let end = after (S z) z.workers r.calls (start (S z) σ) in
      let laws = system_laws z.tiles z.side (tasks z.tiles) (tasks_valid z.tiles) (in_range z r.whole.fit).some_side in
      let x : counted c end ≡ cond (about (S z) c (abs z s) q) 1 0 =
      ap (counted c) (sym r.is) ∙ ap (λ (b : Bool). cond (b && about (S z) c (abs z s) q) 1 0) a in
      record {
        whole = h;
        calls = r.calls ++ (c ∷ []);
        is = e ∙ ap (λ (b : Bool). cond b (effect (S z) c (abs z s)) (abs z s)) (sym a) ∙ ap (step (S z) z.workers c) r.is ∙ sym
            (after_last r.calls c (start (S z) σ));
        sums =
            let I : Inv (S z) z.workers σ (abs z s) = subst (Inv (S z) z.workers σ) (sym r.is) (always (S z) z.workers σ laws r.calls) in
            let g : step (S z) z.workers c (abs z s) ≡ abs z s' = unfold step in (ap (λ (b : Bool). cond b (effect (S z) c (abs z s)) (abs z s)) a ∙ sym e) in
            let y = summed_sums (S z) (tie_gain z) z.workers σ laws (ties_laws z.tiles z.side (tasks z.tiles)) (abs z s) I (sums_fn z s) r.sums c a in
            subst (λ (u : ℕ → ℕ). Sums (S z) (tie_gain z) z.workers σ (abs z s') u) (sym f)
            (subst (λ (k : State (S z)). Sums (S z) (tie_gain z) z.workers σ k (summed (S z) (tie_gain z) c (abs z s) (sums_fn z s))) g y);
        made = omega (arith, x, spent_last r.calls c (start (S z) σ), r.made);
      }

  -- ---- the machine accepts the model's moves

  pub may_take : (s : Lent) (w p : ℕ) → w < z.workers → (worker s w).busy ≡ false → p < count z → ML.ready (tasks z.tiles) (marks_of s) p ≡ true
      → accepts (S z) z.workers (take w p) (abs z s) ≡ true
  unfolding accepts abs
  may_take s w p hw hb hp hr =
      let waits = is_waiting (to_mark (mark (marks_of s) p)) in
      let links = ready (S z) (λ q. to_mark (mark (marks_of s) q)) p in
      let e : (waits && links) ≡ true = ready_is z.tiles z.side (tasks z.tiles) (tasks_valid z.tiles) (marks_of s) p hp ∙ hr in
      and_intro _ _ (and_intro _ _ (and_intro _ _ (and_intro _ _ (lt-ltb w z.workers hw) (idle_of (worker s w) hb)) (lt-ltb p (count z) hp))
      (and_left waits links e)) (and_right waits links e)

  pub may_column : (s : Lent) (w : ℕ) → w < z.workers → (worker s w).busy ≡ true → accepts (S z) z.workers (column w) (abs z s) ≡ true
  unfolding accepts abs
  may_column s w hw hb = and_intro (ltb w z.workers) (not (is_idle (worker_of (worker s w)))) (lt-ltb w z.workers hw)
      (ap (λ (y : Worker). not (is_idle y)) (busy_of (worker s w) hb))

  pub move_reach : {n : ℕ} {s s' : Lent} {p : ℕ} → Reach n s → Move z s s' p → Reach (n + cond (eqb p q) 1 0) s'
  unfolding about abs
  move_reach {n = n} {s = s} r (takes w p hw hb hp hr) =
      grows n s (took (plan_of z) w p s) r (take w p) (may_take s w p hw hb hp hr) (move_whole r.whole (takes w p hw hb hp hr))
      (took_is z s r.whole.stated w p hw hp) (unfold abs in took_sums z s r.whole.stated w p hp)
  move_reach {n = n} {s = s} r (works w hw hb) =
      as_many _ _ _ (ap (λ (y : Worker). n + cond (works_on y q) 1 0) (busy_of (worker s w) hb))
      (grows n s (advanced (plan_of z) w s) r (column w) (may_column s w hw hb) (move_whole r.whole (works w hw hb))
      (advanced_is z s r.whole.stated w (r.whole.held w hw hb).task hw hb) (unfold abs in advanced_sums z s r.whole.stated w (r.whole.held w hw hb).task hb))
