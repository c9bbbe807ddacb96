-- What a solve that passed its checks may count on, and how it ends. Assumes nothing.
use Prim.Native.Nat.{ℕ, ◌+◌, ◌*◌, ◌≤◌, ◌<◌}
use mathlib.Core.Bool.{true, false, not, ◌&&◌, ◌||◌}
use mathlib.Core.Path.{◌≡◌, refl, sym, ap, ◌∙◌}
use mathlib.Core.List.{List}
use native.Mathlib.Omega.{arith}
use lib.Dec.{eqb}
use lib.Ieee.{Float}
use lib.ListN.{length, get_or}
use borrow.Author.Tests.{eq-eqb, ne_eqb, lt-ltb, eqb-true, not-false}
use Rattle.model.specs.declared.Sizes.{Sizes}
use Rattle.worker.specs.declared.Worker.{Worker}
use Rattle.model.specs.Answer.{Answer, accepted}
use Rattle.model.specs.declared.Refusal.{Refusal}
use Rattle.std.specs.Prelude.{Err}
use Rattle.model.specs.declared.Rule.TheVariants.{BadSizes, BadLengths, NotFinite, Damaged, NotFinished}
use Rattle.model.specs.declared.Outcome.{Outcome}
use Rattle.model.specs.declared.Outcome.TheVariants.{Good, Overflow, Singular}
use Rattle.model.specs.Tile.{all_finite}
use Rattle.model.specs.Plan.{plan, plan_of, order}
use Rattle.model.specs.Loops.{outcome}
use Rattle.model.specs.Calls.{Lent, state_of}
use Rattle.model.specs.Refusal.{bad_sizes, bad_lengths, damaged, entry_limit, unfinished}
use Rattle.model.specs.Solve.{Answers, solved, unless_good, answered, solve_answer, solve_call}
use Rattle.laws.proofs.Refusals.{passed}
use Rattle.laws.proofs.Tests.{and_left, and_right, or_false_left, or_false_right}
use Rattle.records.specs.Records.{lent}
use Rattle.checks.specs.Checks.{Sized}
use Rattle.checks.proofs.Laws.{sized}
use Rattle.answers.proofs.Refusals.{lengths_fit}
use Rattle.run_laws.proofs.Undamaged.{entry_fits}
use Rattle.progress.specs.Right.{Solvable, RightSide}

-- ---- an accepted solve

pub record Checked (z : Sizes) (m : List Float) (l : List ℕ) (y x : List Float) : Type 0 where
  pub solvable : Solvable z m l
  pub right : RightSide z y
  pub all_finite_lem : all_finite m ≡ true
  pub answers_long : length x ≡ z.tiles * z.side

is_good : (o : Outcome) (a : Answer) → unless_good o a ≡ accepted → a ≡ accepted
unfolding unless_good
is_good Good a e = e
is_good (Overflow p) a e = let y : ◌≡◌ {A = ℕ} 0 1 = cc in absurd (omega arith)
is_good (Singular x) a e = let y : ◌≡◌ {A = ℕ} 0 1 = cc in absurd (omega arith)

module _ (z : Sizes) (m : List Float) (l : List ℕ) (r : List (List ℕ)) (ws : List Worker) (count number : ℕ) (y x : List Float) where
  abbrev s : Lent
  s = lent m l r ws count number

  -- list entries, where nothing is damaged
  module _ (sizes : Sized z) (fine : damaged (plan_of z) s ≡ false) where
    diagonal_entry : (k e : ℕ) → k < z.tiles → e < z.side → get_or l ((k * z.tiles + k) * z.side + e) 0 < z.side
    unfolding lent plan entry_limit
    diagonal_entry k e hk he =
        let same : eqb k k ≡ true = eq-eqb k k refl in
        let f = rw same at (entry_fits (plan_of z) s fine k k e hk hk he) in
        omega (arith, f, sizes.some_side)

    lower_entry : (i k e : ℕ) → k < i → i < z.tiles → e < z.side → get_or l ((i * z.tiles + k) * z.side + e) 0 ≤ z.side
    unfolding lent plan entry_limit
    lower_entry i k e h hi he =
        let other : eqb i k ≡ false = ne_eqb i k (λ q. omega arith) in
        rw (other, lt-ltb k i h) at (entry_fits (plan_of z) s fine i k e hi (omega arith) he)

  pub checked : solve_answer z s y x ≡ accepted → Checked z m l y x
  unfolding solve_answer lent order plan
  checked q =
      let bad = bad_lengths (plan_of z) z.workers s in
      let Y = eqb (length y) (order (plan_of z)) in
      let X = eqb (length x) (order (plan_of z)) in
      let a = passed BadSizes 0 (bad_sizes z) _ q in
      let b = passed BadLengths 0 (bad || not (Y && X)) _ a.1 in
      let c = passed Damaged 0 (damaged (plan_of z) s || not (all_finite s.buffers.matrix)) _ b.1 in
      let d = passed NotFinished _ (not (eqb (length (unfinished (plan_of z) s)) 0)) _ c.1 in
      let g = passed NotFinite _ (not (all_finite y)) accepted (is_good (outcome (plan_of z) (state_of s)) _ d.1) in
      let sizes = sized z a.0 in
      let fit = lengths_fit z m l r ws count number (or_false_left bad (not (Y && X)) b.0) in
      let both = not-false (Y && X) (or_false_right bad (not (Y && X)) b.0) in
      let fine = or_false_left (damaged (plan_of z) s) (not (all_finite s.buffers.matrix)) c.0 in
      record {
        solvable = record {
          tiles_most = sizes.few_tiles;
          side_most = sizes.small_side;
          lengths = fit.buffers;
          diagonal_entries = diagonal_entry sizes fine;
          lower_entries = lower_entry sizes fine;
        };
        right = record { long = eqb-true (length y) (z.tiles * z.side) (and_left Y X both); all_finite_lem = not-false (all_finite y) g.0 };
        all_finite_lem = not-false (all_finite m) (or_false_right (damaged (plan_of z) s) (not (all_finite s.buffers.matrix)) c.0);
        answers_long = eqb-true (length x) (z.tiles * z.side) (and_right Y X both);
      }

-- ---- the call

module _ (z : Sizes) (s : Lent) (y x : List Float) (a : Answer) (e : a ≡ solve_answer z s y x) where
  pub refused : (why : Refusal) → a ≡ Err why → ◌≡◌ {A = Answers} (record { answer = Err why; left = x }) (solve_call z s y x)
  unfolding solve_call answered
  refused why q = ap (λ (k : Answer). answered k x (solved (plan_of z) s.buffers y)) (sym q ∙ e)

  pub accepted_lem : a ≡ accepted → answered accepted x (solved (plan_of z) s.buffers y) ≡ solve_call z s y x
  unfolding solve_call
  accepted_lem q = ap (λ (k : Answer). answered k x (solved (plan_of z) s.buffers y)) (sym q ∙ e)
