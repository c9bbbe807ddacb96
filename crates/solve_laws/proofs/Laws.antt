-- A solve of a finished system goes by its sizes, buffers and marks alone. Assumes nothing.
use Prim.Native.Nat.{ℕ, zero, suc, ◌+◌, ◌*◌, ◌<◌}
use mathlib.Core.Path.{◌≡◌, refl, sym, ap, ◌∙◌, subst}
use mathlib.Core.Bool.{Bool, true, false, not, ◌&&◌, ◌||◌}
use mathlib.Core.Logic.{◌⊎◌, inl, inr}
use mathlib.Core.List.{List, []}
use native.Mathlib.Omega.{arith}
use lib.Dec.{eqb}
use lib.ListN.{length, length-map}
use lib.Ieee.{Float}
use borrow.Author.Tests.{eq-eqb, eqb-true, not-false}
use Rattle.model.specs.declared.Sizes.{Sizes}
use Rattle.model.specs.Answer.{Answer, rule_number, accepted, refused_by}
use Rattle.model.specs.declared.Rule.TheVariants.{BadSizes, BadLengths, NotFinite, Damaged, NotFinished, NotSolved}
use Rattle.model.specs.Lists.{run, below, keep, first_or}
use Rattle.model.specs.Tile.{all_finite}
use Rattle.model.specs.Plan.{Plan, plan, plan_of, order}
use Rattle.model.specs.Links.{mark, finished}
use Rattle.model.specs.Loops.{State, outcome}
use Rattle.model.specs.Calls.{Lent, marks_of, state_of, all_finished}
use Rattle.model.specs.Refusal.{refuse, bad_sizes, bad_lengths, damaged, first_not_finite, unfinished, run_answer}
use Rattle.model.specs.Solve.{Passed, Answers, going, stopped, solved, unless_good, answered, solve_answer, solve_call}
use Rattle.model.specs.History.{Call}
use Rattle.demand.specs.Demand.{end}
use Rattle.laws.proofs.Refusals.{passed}
use Rattle.laws.proofs.Tests.{and_left, and_right}
use Rattle.answers.proofs.Refusals.{passes}
use Rattle.demand.specs.Promise.{TwoOpenings}
use Rattle.laws.proofs.Every.{every_at}
use Rattle.demand.proofs.Theorem.{demand_3}
use Rattle.demand.proofs.Corollaries.{alike}
use Rattle.solve_laws.specs.Solves.{GoodSystem, Solves}

-- ---- no task is unfinished

keep_none : (f : ℕ → Bool) (a n : ℕ) → ((i : ℕ) → i < a + n → f i ≡ false) → keep f (run a n) ≡ []
unfolding keep run
keep_none f a zero h = refl
keep_none f a (suc n) h = rw (h a (omega arith)) (keep_none f (suc a) n (λ i l. h i (omega arith)))

module _ (z : Plan) (s : Lent) (long : length s.records ≡ length z.tasks) (e : all_finished z s ≡ true) where
  none_unfinished : unfinished z s ≡ []
  unfolding unfinished below all_finished marks_of mark
  none_unfinished =
      keep_none (λ p. not (finished (mark (marks_of s) p))) 0 (length z.tasks)
      (λ i h. ap not (every_at finished (marks_of s) 0 i e (rw (length-map s.records (λ r. r.mark)) (omega arith))))

-- ---- what a solve of a finished system that is not damaged answers

unfoldable settled : Plan → State → List Float → List Float → Answers
settled p u b x = answered
    (refuse BadLengths 0 (not (eqb (length b) (order p) && eqb (length x) (order p)))
    (unless_good (outcome p u) (refuse NotFinite (first_not_finite b) (not (all_finite b)) accepted))) x (solved p u.buffers b)

module _ (z : Sizes) (s : Lent) (b x : List Float) (ok : run_answer z s ≡ accepted) (e : all_finished (plan_of z) s ≡ true) where
  abbrev rights : Bool
  rights = not (eqb (length b) (order (plan_of z)) && eqb (length x) (order (plan_of z)))

  abbrev rest : Answer
  rest = unless_good (outcome (plan_of z) (state_of s)) (refuse NotFinite (first_not_finite b) (not (all_finite b)) accepted)

  -- refusals 1, 2 and 4 but for the right side
  lent_well : (bad_sizes z ≡ false) × (bad_lengths (plan_of z) z.workers s ≡ false) × ((damaged (plan_of z) s || not (all_finite s.buffers.matrix)) ≡ false)
  unfolding run_answer
  lent_well =
      let c = passed BadSizes 0 (bad_sizes z) _ ok in
      let d = passed BadLengths 0 (bad_lengths (plan_of z) z.workers s) _ c.1 in
      let f = passed Damaged 0 (damaged (plan_of z) s || not (all_finite s.buffers.matrix)) accepted d.1 in
      (c.0, d.0, f.0)

  records_long : length s.records ≡ length (plan_of z).tasks
  unfolding bad_lengths
  records_long =
      let M = eqb (length s.buffers.matrix) (order (plan_of z) * order (plan_of z)) in
      let L = eqb (length s.buffers.lists) ((plan_of z).N * (plan_of z).N * (plan_of z).t) in
      let R = eqb (length s.records) (length (plan_of z).tasks) in
      let W = eqb (length s.workers) z.workers in
      let three = and_left (M && L && R) W (not-false (M && L && R && W) lent_well.1) in
      eqb-true (length s.records) (length (plan_of z).tasks) (and_right (M && L) R three)

  answer_settles : solve_answer z s b x ≡ refuse BadLengths 0 rights rest
  unfolding solve_answer
  answer_settles =
      let none : not (eqb (length (unfinished (plan_of z) s)) 0) ≡ false = rw (none_unfinished (plan_of z) s records_long e) in
      passes BadSizes 0 (bad_sizes z) _ lent_well.0
      ∙ rw lent_well.1
      (ap (refuse BadLengths 0 rights)
      (passes Damaged 0 (damaged (plan_of z) s || not (all_finite s.buffers.matrix)) _ lent_well.2
      ∙ passes NotFinished (first_or (unfinished (plan_of z) s) (λ p. p) 0) (not (eqb (length (unfinished (plan_of z) s)) 0)) rest none))

  settles : solve_call z s b x ≡ settled (plan_of z) (state_of s) b x
  unfolding solve_call settled state_of
  settles = ap (λ (a : Answer). answered a x (solved (plan_of z) s.buffers b)) answer_settles

-- ---- whichever calls finished it

solves_alike : (z y : Sizes) (s r : Lent) (cs ds : List Call) → TwoOpenings z y s r cs ds → (b x : List Float) → solve_call z (end z s cs) b x ≡ solve_call y (end y r ds) b x
solves_alike z y s r cs ds p b x =
    settles z (end z s cs) b x (demand_3 z s cs p.opened).runs p.finished
    ∙ (λ i. settled (plan (p.tiles i) (p.side i)) ((alike z y s r cs ds p).state i) b x)
    ∙ sym (settles y (end y r ds) b x (demand_3 y r ds p.opened').runs p.finished')

-- ---- a good system

ends_by_11 : (x : List Float) (u : Passed) → ((answered accepted x u).answer ≡ accepted) ⊎ ((p : ℕ) × (((answered accepted x u).answer ≡ refused_by NotSolved p) × (rule_number NotSolved ≡ 11)))
unfolding answered
ends_by_11 x (going y) = inl refl
ends_by_11 x (stopped p) = inr (p, (refl, refl))

module _ (z : Sizes) (s : Lent) (b x : List Float) (h : GoodSystem z s b x) where
  solves : solve_call z s b x ≡ answered accepted x (solved (plan_of z) s.buffers b)
  unfolding settled unless_good state_of
  solves =
      settles z s b x h.undamaged h.finished
      ∙ ap (λ (a : Answer). answered a x (solved (plan_of z) s.buffers b))
      (passes BadLengths 0 (rights z s b x h.undamaged h.finished) _ (rw (eq-eqb (length b) (order (plan_of z)) h.right_long, eq-eqb (length x) (order (plan_of z)) h.answers_long))
      ∙ ap (λ o. unless_good o (refuse NotFinite (first_not_finite b) (not (all_finite b)) accepted)) h.good
      ∙ passes NotFinite (first_not_finite b) (not (all_finite b)) accepted (ap not h.right_finite))

  only_11 : ((solve_call z s b x).answer ≡ accepted) ⊎ ((p : ℕ) × (((solve_call z s b x).answer ≡ refused_by NotSolved p) × (rule_number NotSolved ≡ 11)))
  only_11 = subst (λ (a : Answers). (a.answer ≡ accepted) ⊎ ((p : ℕ) × ((a.answer ≡ refused_by NotSolved p) × (rule_number NotSolved ≡ 11)))) (sym solves) (ends_by_11 x (solved (plan_of z) s.buffers b))

pub solves_promise : (z : Sizes) → Solves z
solves_promise z = record { any_calls = λ y s r cs ds p b x. solves_alike z y s r cs ds p b x; only_11 = λ s b x h. only_11 z s b x h }
