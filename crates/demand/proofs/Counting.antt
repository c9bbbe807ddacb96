-- The run's number is the sum of the accepted takes and columns of all tasks, and each of them is a count that its columns carry along.
-- Assumes nothing.
use Prim.Native.Nat.{ℕ, zero, suc, ◌+◌, ◌<◌}
use mathlib.Core.Bool.{Bool, true, cond}
use mathlib.Core.Path.{◌≡◌, refl, sym, ap, ◌∙◌, subst}
use mathlib.Core.List.{List, map}
use native.Mathlib.Omega.{arith}
use lib.Dec.{eqb}
use lib.ListN.{length}
use Rattle.model.specs.declared.Sizes.{Sizes}
use Rattle.model.specs.Answer.{accepted}
use Rattle.model.specs.Lists.{total, below}
use Rattle.model.specs.Task.{tasks}
use Rattle.model.specs.Plan.{plan_of}
use Rattle.model.specs.Calls.{Lent, worker, took, advanced, opened}
use Rattle.model.specs.Refusal.{open_call}
use Rattle.model.specs.History.{Call, spent_on}
use Rattle.demand.specs.Demand.{end}
use Rattle.order_free.specs.Machine as OM
use Rattle.order_free.specs.Machine.{State, Worker, take, column, accepts, step, effect, about, works_on}
use Rattle.order_free.specs.Sums.{summed}
use Rattle.order_free.specs.Counting.{ones, made_for}
use Rattle.order_free.proofs.Invariant.{Inv}
use Rattle.order_free.proofs.Calls.{always}
use Rattle.order_free.proofs.Sums.{Sums, start_sums, summed_sums}
use Rattle.order_free.proofs.Counting.{made_step, sums_same}
use Rattle.cells.specs.Cells.{Val}
use Rattle.cells.proofs.Valid.{tasks_valid}
use Rattle.cells.proofs.Instance.{system_laws}
use Rattle.cells.proofs.Loops.{σ₀}
use Rattle.cells.proofs.Machine.{S, count, busy_of, abs, opened_is, took_is, advanced_is}
use Rattle.laws.proofs.Totals.{total_zero, total_last, total_same, total_one_more}
use Rattle.demand.proofs.Whole.{in_range}
use Rattle.demand.proofs.Moves.{Move, takes, works}
use Rattle.demand.proofs.Reach.{Reach, move_reach, may_take, may_column}
use Rattle.demand.proofs.Opening.{Opened, opened_by}
use Rattle.demand.proofs.Calls.{calls_keep}
use Rattle.demand.proofs.Theorem.{opened_reach}

module _ (z : Sizes) (σ : ℕ → Val) (q : ℕ) where
  -- n calls were about task q
  pub record Counted (n : ℕ) (s : Lent) : Type 0 where
    pub reach : Reach z σ q n s
    pub worked : ℕ → ℕ
    pub columns : Sums (S z) (ones (S z)) z.workers σ (abs z s) worked
    pub number : s.number ≡ total (map (made_for (S z) (abs z s) worked) (below (count z)))
    pub mine : n ≡ made_for (S z) (abs z s) worked q

  pub inv_of : {n : ℕ} {s : Lent} → Reach z σ q n s → Inv (S z) z.workers σ (abs z s)
  inv_of r = subst (Inv (S z) z.workers σ) (sym r.is) (always (S z) z.workers σ (system_laws z.tiles z.side (tasks z.tiles) (tasks_valid z.tiles) (in_range z r.whole.fit).some_side) r.calls)

  -- one more call, about task p
  counts : (n p : ℕ) (s s' : Lent) → Counted n s → Reach z σ q (n + cond (eqb p q) 1 0) s' → (c : OM.Call) → p < count z
      → accepts (S z) z.workers c (abs z s) ≡ true → abs z s' ≡ effect (S z) c (abs z s) → ((j : ℕ) → about (S z) c (abs z s) j ≡ eqb p j)
      → s'.number ≡ suc s.number → Counted (n + cond (eqb p q) 1 0) s'
  unfolding step
  counts n p s s' k r c hp a e f g =
      let laws = system_laws z.tiles z.side (tasks z.tiles) (tasks_valid z.tiles) (in_range z r.whole.fit).some_side in
      let I = inv_of k.reach in
      let x : ℕ → ℕ = summed (S z) (ones (S z)) c (abs z s) k.worked in
      let to : step (S z) z.workers c (abs z s) ≡ abs z s' = unfold step in (ap (λ (b : Bool). cond b (effect (S z) c (abs z s)) (abs z s)) a ∙ sym e) in
      let each : (j : ℕ) → made_for (S z) (abs z s') x j ≡ made_for (S z) (abs z s) k.worked j + cond (eqb p j) 1 0 = λ j.
      ap (λ (u : State (S z)). made_for (S z) u x j) (sym to) ∙ made_step (S z) z.workers σ laws (abs z s) I k.worked c a j
      ∙ ap (λ (b : Bool). made_for (S z) (abs z s) k.worked j + cond b 1 0) (f j) in
      record {
        reach = r;
        worked = x;
        columns = subst (λ (u : State (S z)). Sums (S z) (ones (S z)) z.workers σ u x) to
            (summed_sums (S z) (ones (S z)) z.workers σ laws (λ p c σ τ h l a. refl) (abs z s) I k.worked k.columns c a);
        number = g ∙ ap suc k.number ∙ sym (total_one_more (made_for (S z) (abs z s) k.worked) (made_for (S z) (abs z s') x) p (count z) hp each);
        mine = omega (arith, k.mine, each q);
      }

  pub move_counted : {n : ℕ} {s s' : Lent} {p : ℕ} → Counted n s → Move z s s' p → Counted (n + cond (eqb p q) 1 0) s'
  unfolding about abs took advanced
  move_counted {n = n} {s = s} k (takes w p' hw hb hp hr) =
      let r = k.reach in
      counts n p' s (took (plan_of z) w p' s) k (move_reach z σ q r (takes w p' hw hb hp hr)) (take w p') hp (may_take z σ q s w p' hw hb hp hr)
      (took_is z s r.whole.stated w p' hw hp) (λ j. refl) refl
  move_counted {n = n} {s = s} k (works w hw hb) =
      let r = k.reach in
      let a = r.whole.held w hw hb in
      counts n (worker s w).task s (advanced (plan_of z) w s) k (move_reach z σ q r (works w hw hb)) (column w) a.task (may_column z σ q s w hw hb)
      (advanced_is z s r.whole.stated w a.task hw hb) (λ j. ap (λ (y : Worker). works_on y j) (busy_of (worker s w) hb)) refl

-- ---- from an opening

none_yet : (n : ℕ) (f : ℕ → ℕ) → ((p : ℕ) → f p ≡ 0) → total (map f (below n)) ≡ 0
none_yet zero f h = total_zero f
none_yet (suc n) f h = omega (arith, total_last f n, h n, none_yet n f h)

-- no task is begun where the machine starts
start_made : (z : Sizes) (σ : ℕ → Val) (p : ℕ) → made_for (S z) (OM.start (S z) σ) (λ (p : ℕ). 0) p ≡ 0
unfolding made_for OM.start
start_made z σ p = refl

number_opened : (z : Sizes) (s : Lent) → Opened z s → (open_call z s).left.number ≡ 0
unfolding opened
number_opened z s o = ap (λ (l : Lent). l.number) o.left

module _ (z : Sizes) (s : Lent) (e : (open_call z s).answer ≡ accepted) where
  abbrev o : Opened z s
  o = opened_by z s e

  abbrev τ : ℕ → Val
  τ = σ₀ z.tiles z.side s.buffers.matrix

  first : (q : ℕ) → Counted z τ q 0 (open_call z s).left
  first q =
      let is : abs z (open_call z s).left ≡ OM.start (S z) τ = ap (abs z) o.left ∙ opened_is z s.buffers.matrix o.long in
      let none : (p : ℕ) → made_for (S z) (abs z (open_call z s).left) (λ (p : ℕ). 0) p ≡ 0 = λ p.
      ap (λ (u : State (S z)). made_for (S z) u (λ (p : ℕ). 0) p) is ∙ start_made z τ p in
      record {
        reach = opened_reach z s o q;
        worked = λ p. 0;
        columns = subst (λ (u : State (S z)). Sums (S z) (ones (S z)) z.workers τ u (λ p. 0)) (sym is) (start_sums (S z) (ones (S z)) z.workers τ);
        number = number_opened z s o ∙ sym (none_yet (count z) (made_for (S z) (abs z (open_call z s).left) (λ (p : ℕ). 0)) none);
        mine = sym (none q);
      }

  module _ (cs : List Call) where
    counted : (q : ℕ) → Counted z τ q (0 + spent_on q cs (open_call z s).left) (end z s cs)
    counted q = calls_keep z q (Counted z τ q) (record { whole = λ k. k.reach.whole; moves = λ k m. move_counted z τ q k m }) cs 0 (open_call z s).left (first q)

    abbrev columns_of : ℕ → ℕ
    columns_of = (counted 0).worked

    same_count : (p : ℕ) → p < count z → made_for (S z) (abs z (end z s cs)) columns_of p ≡ spent_on p cs (open_call z s).left
    unfolding made_for
    same_count p h =
        let k = counted p in
        let x : columns_of p ≡ k.worked p = sums_same (S z) z.workers τ (ones (S z)) (abs z (end z s cs)) (inv_of z τ 0 (counted 0).reach) columns_of k.worked
        (counted 0).columns k.columns p h refl in
        omega (arith, x, k.mine)

    -- K9: the run's number counts all accepted takes and columns
    pub number_is : (end z s cs).number ≡ total (map (λ q. spent_on q cs (open_call z s).left) (below (length (tasks z.tiles))))
    number_is =
        (counted 0).number
        ∙ total_same (made_for (S z) (abs z (end z s cs)) columns_of) (λ q. spent_on q cs (open_call z s).left) (count z) same_count
