-- Things done in turn to a right side that goes on or has stopped, as loops do them; and the tasks in number order as nested loops.
-- Assumes nothing.
use mathlib.Core.Path.{◌≡◌, refl, sym, ◌∙◌, ap}
use mathlib.Core.List.{List, [], ◌∷◌, map}
use Prim.Native.Nat.{ℕ, suc, ◌+◌, ◌-◌, ◌<◌, ◌≤◌}
use native.Mathlib.Omega.{arith}
use lib.Ieee.{Float}
use Rattle.std.specs.Prelude.{Result, Ok, Err}
use Rattle.model.specs.Lists.{run, below, joined, in_turn}
use Rattle.model.specs.Task.{t_2, t_4, after, lower_row, stage, tasks}
use Rattle.model.specs.Plan.{Plan}
use Rattle.model.specs.Buffer.{Buffers}
use Rattle.model.specs.Solve.{Passed, going, stopped, applied, paired, pass}
use Rattle.laws.proofs.Runs.{in_turn_append}
use Rattle.progress.specs.Right.{passed_of, apply_all, pair_all, stage_passed}

-- ---- doing things in turn

module _ {A S : Type 0} (f : A → S → S) where
  -- what leaves everything as it is
  turns_none : {B : Type 0} (g : B → A) (keeps : (b : B) (s : S) → f (g b) s ≡ s) (xs : List B) (s : S) → in_turn f (map g xs) s ≡ s
  unfolding in_turn
  turns_none g keeps [] s = refl
  turns_none g keeps (x ∷ xs) s = ap (λ (q : S). in_turn f (map g xs) q) (keeps x s) ∙ turns_none g keeps xs s

  -- list after list, each by what it does
  turns_joined : {B : Type 0} (g : B → List A) (h : B → S → S) (same : (b : B) (s : S) → in_turn f (g b) s ≡ h b s) (xs : List B) (s : S)
      → in_turn f (joined (map g xs)) s ≡ in_turn h xs s
  unfolding in_turn joined
  turns_joined g h same [] s = refl
  turns_joined g h same (x ∷ xs) s = in_turn_append f (g x) (joined (map g xs)) s ∙ rw (same x s) (turns_joined g h same xs (h x s))

-- what has stopped stays
module _ {A : Type 0} (f : A → Passed → Passed) (keeps : (a : A) (e : ℕ) → f a (stopped e) ≡ stopped e) where
  pub turns_stop : (xs : List A) (e : ℕ) → in_turn f xs (stopped e) ≡ stopped e
  unfolding in_turn
  turns_stop [] e = refl
  turns_stop (x ∷ xs) e = rw (keeps x e) (turns_stop xs e)

-- ---- a loop over i from somewhere to n - 1: what is left to do from i on is the whole

module _ (f : ℕ → Passed → Passed) (keeps : (a e : ℕ) → f a (stopped e) ≡ stopped e) (n i : ℕ) (whole : Passed) where
  abbrev pub Left : ℕ → List Float → Type 0
  Left j y = in_turn f (run j (n - j)) (going y) ≡ whole

  pub left_goes : (y after : List Float) → Left i y → i < n → going after ≡ f i (going y) → Left (i + 1) after
  unfolding in_turn run
  left_goes y after e h q =
      let s : n - i ≡ suc (n - suc i) = omega arith in
      let u : i + 1 ≡ suc i = omega arith in
      rw (u, q) (rw s at e)

  pub left_stops : (y : List Float) (x : ℕ) → Left i y → i < n → stopped x ≡ f i (going y) → stopped x ≡ whole
  unfolding in_turn run
  left_stops y x e h q =
      let s : n - i ≡ suc (n - suc i) = omega arith in
      let w = rw s at e in
      sym (turns_stop f keeps (run (suc i) (n - suc i)) x) ∙ ap (λ (p : Passed). in_turn f (run (suc i) (n - suc i)) p) q ∙ w

  pub left_ends : (y : List Float) → Left i y → n ≤ i → going y ≡ whole
  unfolding in_turn run
  left_ends y e h = let s : n - i ≡ 0 = omega arith in rw s at e

pub left_begins : (f : ℕ → Passed → Passed) (n : ℕ) (p : Passed) → in_turn f (run 0 (n - 0)) p ≡ in_turn f (below n) p
unfolding below
left_begins f n p = let s : n - 0 ≡ n = omega arith in rw s

-- what the code answered, case by case
module _ (r : Result (Unit {0}) ℕ) (y : List Float) (whole : Passed) (e : passed_of r y ≡ whole) where
  pub went : r ≡ Ok tt → going y ≡ whole
  unfolding passed_of
  went q = sym (ap (λ (x : Result (Unit {0}) ℕ). passed_of x y) q) ∙ e

  pub halted : (x : ℕ) → r ≡ Err x → stopped x ≡ whole
  unfolding passed_of
  halted x q = sym (ap (λ (x : Result (Unit {0}) ℕ). passed_of x y) q) ∙ e

-- ---- the tasks

module _ (z : Plan) (s : Buffers) where
  pub applied_keeps : (k c e : ℕ) → applied z s k c (stopped e) ≡ stopped e
  unfolding applied
  applied_keeps k c e = refl

  pub paired_keeps : (k i c e : ℕ) → paired z s k i c (stopped e) ≡ stopped e
  unfolding paired
  paired_keeps k i c e = refl

  pub pairs_keep : (k i e : ℕ) → pair_all z s k i (stopped e) ≡ stopped e
  unfolding pair_all
  pairs_keep k i e = turns_stop (paired z s k i) (paired_keeps k i) (below z.t) e

  pub stage_keeps : (k e : ℕ) → stage_passed z s k (stopped e) ≡ stopped e
  unfolding stage_passed apply_all
  stage_keeps k e = rw (turns_stop (applied z s k) (applied_keeps k) (below z.t) e) (turns_stop (pair_all z s k) (pairs_keep k) (after z.N k) e)

  lower_is : (N k i : ℕ) (p : Passed) → in_turn (pass z s) (lower_row N k i) p ≡ pair_all z s k i p
  unfolding lower_row in_turn pass pair_all
  lower_is N k i p = turns_none (pass z s) (t_4 k i) (λ j q. refl) (after N k) _

  stage_is : (k : ℕ) (p : Passed) → in_turn (pass z s) (stage z.N k) p ≡ stage_passed z s k p
  unfolding stage in_turn pass stage_passed apply_all
  stage_is k p =
      in_turn_append (pass z s) (map (t_2 k) (after z.N k)) (joined (map (lower_row z.N k) (after z.N k))) (in_turn (applied z s k) (below z.t) p)
      ∙ rw (turns_none (pass z s) (t_2 k) (λ j q. refl) (after z.N k) (in_turn (applied z s k) (below z.t) p))
      (turns_joined (pass z s) (lower_row z.N k) (pair_all z s k) (lower_is z.N k) (after z.N k) (in_turn (applied z s k) (below z.t) p))

  pub tasks_are : (p : Passed) → in_turn (pass z s) (tasks z.N) p ≡ in_turn (stage_passed z s) (below z.N) p
  unfolding tasks
  tasks_are p = turns_joined (pass z s) (stage z.N) (stage_passed z s) stage_is (below z.N) p
