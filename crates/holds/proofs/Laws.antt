-- What a task's mark and the workers that hold it say of its limits. Assumes nothing.
use Prim.Native.Nat.{ℕ, suc, ◌+◌, ◌*◌, ◌≤◌}
use mathlib.Core.Path.{◌≡◌, refl, sym, ap, ◌∙◌}
use mathlib.Core.Bool.{Bool, true, false, cond, not, ◌&&◌, ◌||◌}
use mathlib.Core.List.{List, []}
use native.Mathlib.Omega.{arith}
use lib.Dec.{eqb}
use lib.ListN.{length}
use Rattle.std.specs.Prelude.{Ok, Err}
use Rattle.std.proofs.lemmas.Bool.Decides.{nat_tests}
use borrow.Author.Tests.{ne_eqb}
use Rattle.model.specs.declared.Sizes.{Sizes}
use Rattle.worker.specs.declared.Worker.{Worker}
use Rattle.model.specs.Lists.{keep}
use Rattle.model.specs.Plan.{plan, plan_of}
use Rattle.model.specs.Links.{mark, taken, finished}
use Rattle.model.specs.Calls.{marks_of}
use Rattle.model.specs.Refusal.{holds, next_column, bad_hold, tie_limit, call_limit}
use Rattle.records.specs.Records.{marks_from, crew, lent}
use Rattle.checks.specs.Checks.{held}
use Rattle.holds.specs.declared.Limits.{Limits}
use Rattle.holds.specs.Allowed.{Limited, Allowed}

module _ (z : Sizes) (r : List (List ℕ)) (h : List Worker) (p m : ℕ) (e : m ≡ mark (marks_from r) p) where
  abbrev W : ℕ
  W = z.workers

  -- by the mark m, with c the next column and n holders
  hold_by : bad_hold (plan_of z) (held r h W) p ≡ (eqb m taken && not (eqb (length (keep (holds p) (crew h W))) 1))
  unfolding bad_hold lent marks_of marks_from
  hold_by = ap (λ (k : ℕ). eqb k taken && not (eqb (length (keep (holds p) (crew h W))) 1)) (sym e)

  ties_by : tie_limit (plan_of z) (held r h W) p ≡ cond (eqb m 2 || eqb m 3) (z.side * z.side) (cond (eqb m taken) (z.side * next_column (held [] h W) p) 0)
  unfolding tie_limit next_column lent marks_of marks_from plan
  ties_by = ap (λ (k : ℕ). cond (eqb k 2 || eqb k 3) (z.side * z.side) (cond (eqb k taken) (z.side * next_column (held [] h W) p) 0)) (sym e)

  calls_by : call_limit (plan_of z) (held r h W) p ≡ cond (finished m) (suc z.side) (cond (eqb m taken) (suc (next_column (held [] h W) p)) 0)
  unfolding call_limit next_column lent marks_of marks_from plan
  calls_by = ap (λ (k : ℕ). cond (finished k) (suc z.side) (cond (eqb k taken) (suc (next_column (held [] h W) p)) 0)) (sym e)

-- a taken task, which n workers hold, with c the sum of their columns
module _ (z : Sizes) (r : List (List ℕ)) (h : List Worker) (p : ℕ) (e : taken ≡ mark (marks_from r) p)
    (n c : ℕ) (f : n ≡ length (keep (holds p) (crew h z.workers))) (g : c ≡ next_column (held [] h z.workers) p) (l : c ≤ 8160) where
  abbrev by_columns : Limits
  by_columns = record { ties = z.side * c; calls = 1 + c }

  held_as : (b : Bool) → eqb n 1 ≡ b → not b ≡ bad_hold (plan_of z) (held r h z.workers) p
  unfolding finished
  held_as b t = sym (hold_by z r h p 1 e ∙ ap (λ (k : ℕ). not (eqb k 1)) (sym f) ∙ ap not t)

  by_columns_limits : Limited z r h p by_columns
  unfolding finished
  by_columns_limits = record {
    ties = sym (ties_by z r h p 1 e ∙ ap (λ (k : ℕ). z.side * k) (sym g));
    calls = sym (calls_by z r h p 1 e ∙ ap suc (sym g) ∙ omega arith);
    few = omega arith;
  }

  pub held_by_one : n ≡ 1 → Allowed z r h p (Ok by_columns)
  held_by_one t = record { as_marked = held_as true (ap (λ (k : ℕ). eqb k 1) t); limits = by_columns_limits }

  pub not_by_one : (n ≡ 1 → ⊥) → Allowed z r h p (Err by_columns)
  not_by_one t = record { as_marked = held_as false (ne_eqb n 1 t); limits = by_columns_limits }

-- what the tests of a mark tell of its limits, with t the side
module _ (m t : ℕ) where
  pub marks_2_3 : 2 ≤ m → m ≤ 3 → (t * t ≡ cond (eqb m 2 || eqb m 3) (t * t) 0) × (t + 1 ≡ cond (finished m) (suc t) 0)
  unfolding finished
  marks_2_3 h g = (grind (arith, nat_tests), grind (arith, nat_tests))

  pub mark_4 : m ≡ 4 → (0 ≡ cond (eqb m 2 || eqb m 3) (t * t) 0) × (t + 1 ≡ cond (finished m) (suc t) 0)
  unfolding finished
  mark_4 e = rw e (refl, omega arith)

  pub other_marks : (m ≡ 2 → ⊥) → (m ≡ 3 → ⊥) → (m ≡ 4 → ⊥) → (0 ≡ cond (eqb m 2 || eqb m 3) (t * t) 0) × (0 ≡ cond (finished m) (suc t) 0)
  unfolding finished
  other_marks a b c = rw (ne_eqb m 2 a, ne_eqb m 3 b, ne_eqb m 4 c) (refl, refl)

-- any other
pub allowed_free : (z : Sizes) (r : List (List ℕ)) (h : List Worker) (p m : ℕ) → m ≡ mark (marks_from r) p → (m ≡ taken → ⊥)
    → (x y : ℕ) → x ≡ cond (eqb m 2 || eqb m 3) (z.side * z.side) 0 → y ≡ cond (finished m) (suc z.side) 0 → y ≤ 8161
    → Allowed z r h p (Ok (record { ties = x; calls = y }))
allowed_free z r h p m e d x y f g l =
    let n = ne_eqb m taken d in
    record {
      as_marked = sym (hold_by z r h p m e ∙ ap (λ (b : Bool). b && not (eqb (length (keep (holds p) (crew h z.workers))) 1)) n);
      limits = record {
        ties = f ∙ sym (ties_by z r h p m e ∙ ap (λ (b : Bool). cond (eqb m 2 || eqb m 3) (z.side * z.side) (cond b (z.side * next_column (held [] h z.workers) p) 0)) n);
        calls = g ∙ sym (calls_by z r h p m e ∙ ap (λ (b : Bool). cond (finished m) (suc z.side) (cond b (suc (next_column (held [] h z.workers) p)) 0)) n);
        few = l;
      };
    }
