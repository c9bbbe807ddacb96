-- The refusals of a solve one by one. Assumes nothing.
use Prim.Native.Nat.{ℕ, ◌*◌}
use mathlib.Core.Bool.{Bool, true, false, not, cond, ◌&&◌, ◌||◌}
use mathlib.Core.Path.{◌≡◌, refl, sym, ap, ◌∙◌}
use mathlib.Core.List.{List, [], ◌∷◌}
use native.Mathlib.Omega.{arith}
use lib.Dec.{eqb}
use lib.Ieee.{Float}
use lib.ListN.{length}
use borrow.Author.Tests.{eq-eqb, ne_eqb}
use Rattle.model.specs.declared.Sizes.{Sizes}
use Rattle.worker.specs.declared.Worker.{Worker}
use Rattle.std.specs.Prelude.{Some, None, Option}
use Rattle.model.specs.Answer.{Answer, accepted, refused_by}
use Rattle.model.specs.declared.Rule.TheVariants.{BadSizes, BadLengths, NotFinite, Damaged, NotFinished, TaskOverflow, RowSingular}
use Rattle.model.specs.declared.Outcome.{Outcome}
use Rattle.model.specs.declared.Outcome.TheVariants.{Good, Overflow, Singular}
use Rattle.model.specs.Lengths.{RecordsFit, LentFits}
use Rattle.model.specs.Lists.{below, keep, first_or}
use Rattle.model.specs.Tile.{all_finite}
use Rattle.model.specs.Plan.{plan, plan_of, order}
use Rattle.model.specs.Links.{mark, finished}
use Rattle.model.specs.Loops.{outcome}
use Rattle.model.specs.Calls.{Lent, marks_of, ties_of, state_of}
use Rattle.model.specs.Refusal.{refuse, bad_sizes, bad_lengths, damaged, first_not_finite, unfinished}
use Rattle.model.specs.Solve.{unless_good, solve_answer}
use Rattle.records.specs.Records.{marks_from, ties_from, lent}
use Rattle.checks.specs.Checks.{Sized}
use Rattle.checks.proofs.Laws.{sized}
use Rattle.answers.proofs.Refusals.{refuses, passes, lengths_fit, count_fits}
use Rattle.unfinished.proofs.Finished.{unfinished_is}
use Rattle.solve_checks.specs.Rest.{rest_answer}

-- ---- 3

-- where none was found, every number is finite
found_none : (b : Bool) (x : ℕ) (r : Option ℕ) → r ≡ cond b None (Some x) → r ≡ None → true ≡ b
found_none true x r e q = refl
found_none false x r e q = let z : ◌≡◌ {A = ℕ} 0 1 = cc in absurd (omega arith)

module _ (y : List Float) (f : Option ℕ) (k : f ≡ cond (all_finite y) None (Some (first_not_finite y))) where
  pub right_3 : (x : ℕ) → f ≡ Some x → refused_by NotFinite x ≡ refuse NotFinite (first_not_finite y) (not (all_finite y)) accepted
  right_3 x i = go (all_finite y) refl k
    where
      go : (b : Bool) → all_finite y ≡ b → f ≡ cond b None (Some (first_not_finite y)) → refused_by NotFinite x ≡ refuse NotFinite (first_not_finite y) (not (all_finite y)) accepted
      go true e k = let w : ◌≡◌ {A = ℕ} 0 1 = cc in absurd (omega arith)
      go false e k = let w : x ≡ first_not_finite y = cc in ap (λ (n : ℕ). refused_by NotFinite n) w ∙ sym (refuses NotFinite (first_not_finite y) (not (all_finite y)) accepted (ap not e))

  pub right_0 : f ≡ None → accepted ≡ refuse NotFinite (first_not_finite y) (not (all_finite y)) accepted
  right_0 i = sym (passes NotFinite (first_not_finite y) (not (all_finite y)) accepted (ap not (sym (found_none (all_finite y) (first_not_finite y) f k i))))

-- ---- 8, 9, 10 and 3

-- the first of a list, from what was found
none_first : (xs : List ℕ) (g : Option ℕ) → g ≡ first_or xs Some None → g ≡ None → eqb (length xs) 0 ≡ true
unfolding first_or
none_first [] g e q = refl
none_first (x ∷ xs) g e q = let y : ◌≡◌ {A = ℕ} 0 1 = cc in absurd (omega arith)

some_first : (xs : List ℕ) (g : Option ℕ) (p : ℕ) → g ≡ first_or xs Some None → g ≡ Some p → (eqb (length xs) 0 ≡ false) × (first_or xs (λ k. k) 0 ≡ p)
unfolding first_or
some_first [] g p e q = let y : ◌≡◌ {A = ℕ} 0 1 = cc in absurd (omega arith)
some_first (x ∷ xs) g p e q = let y : x ≡ p = cc in (ne_eqb (length (x ∷ xs)) 0 (λ h. omega arith), y)

module _ (z : Sizes) (m : List Float) (l : List ℕ) (r : List (List ℕ)) (ws : List Worker) (count number : ℕ) (y : List Float) (fit : RecordsFit z r) where
  abbrev s : Lent
  s = lent m l r ws count number

  abbrev open_tasks : ℕ → Bool
  open_tasks k = not (finished (mark (marks_from r) k))

  module _ (g : Option ℕ) (e : g ≡ first_or (keep open_tasks (below (length r))) Some None) where
    found_is : g ≡ first_or (unfinished (plan_of z) s) Some None
    found_is = e ∙ ap (λ xs. first_or xs Some None) (unfinished_is z m l r ws count number fit)

    pub rest_8 : (p : ℕ) → g ≡ Some p → refused_by NotFinished p ≡ rest_answer z s y
    unfolding rest_answer
    rest_8 p q =
        let (some, first) = some_first (unfinished (plan_of z) s) g p found_is q in
        sym (refuses NotFinished _ (not (eqb (length (unfinished (plan_of z) s)) 0)) _ (ap not some) ∙ ap (λ (k : ℕ). refused_by NotFinished k) first)

    module _ (q : g ≡ None) (o : Outcome) (is : o ≡ outcome (plan_of z) (record { buffers = record { matrix = m; lists = l }; marks = marks_from r; ties = ties_from r })) where
      rest_then : unless_good o (refuse NotFinite (first_not_finite y) (not (all_finite y)) accepted) ≡ rest_answer z s y
      unfolding rest_answer state_of marks_of ties_of lent marks_from ties_from
      rest_then =
          rw is (sym (passes NotFinished (first_or (unfinished (plan_of z) s) (λ p. p) 0) (not (eqb (length (unfinished (plan_of z) s)) 0)) _ (ap not (none_first (unfinished (plan_of z) s) g found_is q))))

      pub rest_9 : (p : ℕ) → o ≡ Overflow p → refused_by TaskOverflow p ≡ rest_answer z s y
      unfolding unless_good
      rest_9 p h = ap (λ (x : Outcome). unless_good x (refuse NotFinite (first_not_finite y) (not (all_finite y)) accepted)) (sym h) ∙ rest_then

      pub rest_10 : (x : ℕ) → o ≡ Singular x → refused_by RowSingular x ≡ rest_answer z s y
      unfolding unless_good
      rest_10 x h = ap (λ (x : Outcome). unless_good x (refuse NotFinite (first_not_finite y) (not (all_finite y)) accepted)) (sym h) ∙ rest_then

      pub rest_good : o ≡ Good → (a : Answer) → a ≡ refuse NotFinite (first_not_finite y) (not (all_finite y)) accepted → a ≡ rest_answer z s y
      unfolding unless_good
      rest_good h a k = k ∙ ap (λ (x : Outcome). unless_good x (refuse NotFinite (first_not_finite y) (not (all_finite y)) accepted)) (sym h) ∙ rest_then

-- ---- 1, 2 and 4

module _ (z : Sizes) (m : List Float) (l : List ℕ) (r : List (List ℕ)) (ws : List Worker) (count number : ℕ) (y x : List Float) where
  abbrev lent_now : Lent
  lent_now = lent m l r ws count number

  abbrev bad_right : Bool
  bad_right = not (eqb (length y) (order (plan_of z)) && eqb (length x) (order (plan_of z)))

  pub solve_1 : (a : Bool) → a ≡ bad_sizes z → a ≡ true → refused_by BadSizes 0 ≡ solve_answer z lent_now y x
  unfolding solve_answer
  solve_1 a e q = sym (refuses BadSizes 0 (bad_sizes z) _ (sym e ∙ q))

  module _ (a : Bool) (e : a ≡ bad_sizes z) (q : a ≡ false) where
    two_then : (b : Bool) → (bad_lengths (plan_of z) z.workers lent_now || bad_right) ≡ b → refuse BadLengths 0 b (refuse Damaged 0 (damaged (plan_of z) lent_now || not (all_finite m)) (rest_answer z lent_now y)) ≡ solve_answer z lent_now y x
    unfolding solve_answer rest_answer lent
    two_then b i = rw (← i) (sym (passes BadSizes 0 (bad_sizes z) _ (sym e ∙ q)))

    pub solve_2 : (b : Bool) → b ≡ bad_lengths (plan_of z) z.workers lent_now → b ≡ true → refused_by BadLengths 0 ≡ solve_answer z lent_now y x
    unfolding refuse
    solve_2 b f p = two_then true (rw (sym f ∙ p))

    module _ (b : Bool) (f : b ≡ bad_lengths (plan_of z) z.workers lent_now) (p : b ≡ false) where
      pub checked : Sized z × LentFits z m l r
      checked = (sized z (sym e ∙ q), lengths_fit z m l r ws count number (sym f ∙ p))

      pub solve_right : (length y ≡ z.tiles * z.side → ⊥) → refused_by BadLengths 0 ≡ solve_answer z lent_now y x
      unfolding refuse order plan
      solve_right h = two_then true (rw (sym f ∙ p, ne_eqb (length y) (z.tiles * z.side) h))

      module _ (hy : length y ≡ z.tiles * z.side) where
        pub solve_answers : (length x ≡ z.tiles * z.side → ⊥) → refused_by BadLengths 0 ≡ solve_answer z lent_now y x
        unfolding refuse order plan
        solve_answers h = two_then true (rw (sym f ∙ p, eq-eqb (length y) (z.tiles * z.side) hy, ne_eqb (length x) (z.tiles * z.side) h))

        module _ (hx : length x ≡ z.tiles * z.side) where
          four_then : (c : Bool) → (damaged (plan_of z) lent_now || not (all_finite m)) ≡ c → refuse Damaged 0 c (rest_answer z lent_now y) ≡ solve_answer z lent_now y x
          unfolding refuse order plan
          four_then c i = rw (← i) (two_then false (rw (sym f ∙ p, eq-eqb (length y) (z.tiles * z.side) hy, eq-eqb (length x) (z.tiles * z.side) hx)))

          -- damage of as many workers as the sizes say
          abbrev Damage : Bool → Type 0
          Damage d = d ≡ damaged (plan_of z) (lent m l r ws z.workers number)

          counted : (d : Bool) → Damage d → d ≡ damaged (plan_of z) lent_now
          counted d g = g ∙ ap (λ (n : ℕ). damaged (plan_of z) (lent m l r ws n number)) (sym (count_fits z m l r ws count number (sym f ∙ p)))

          pub solve_4 : (d : Bool) → Damage d → d ≡ true → refused_by Damaged 0 ≡ solve_answer z lent_now y x
          unfolding refuse
          solve_4 d g h = four_then true (rw (sym (counted d g) ∙ h))

          module _ (d : Bool) (g : Damage d) (h : d ≡ false) where
            pub solve_elements : (v : Bool) → v ≡ all_finite m → v ≡ false → refused_by Damaged 0 ≡ solve_answer z lent_now y x
            unfolding refuse
            solve_elements v i j = four_then true (rw (sym (counted d g) ∙ h, sym i ∙ j))

            pub solve_rest : (v : Bool) → v ≡ all_finite m → v ≡ true → (a : Answer) → a ≡ rest_answer z lent_now y → a ≡ solve_answer z lent_now y x
            unfolding refuse
            solve_rest v i j a k = k ∙ four_then false (rw (sym (counted d g) ∙ h, sym i ∙ j))
