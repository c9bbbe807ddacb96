-- The list entries one list and one row at a time, as the code looks at them. Assumes nothing.
use Prim.Native.Nat.{ℕ, zero, suc, ◌+◌, ◌-◌, ◌*◌, ◌/◌, ◌%◌, ◌≤◌, ◌<◌}
use mathlib.Core.Path.{◌≡◌, refl, sym, ap, ◌∙◌}
use mathlib.Core.Bool.{Bool, ◌||◌, or_assoc, or-false}
use mathlib.Core.List.{List}
use native.Mathlib.Nat.{zero-mul, mul_assoc}
use native.Mathlib.Omega.{arith}
use lib.Dec.{ltb}
use lib.ListN.{get_or}
use borrow.Author.Tests.{lt-ltb, le-ltb, eq-eqb, ne_eqb}
use Rattle.model.specs.declared.Sizes.{Sizes}
use Rattle.model.specs.Lists.{run, below, some}
use Rattle.model.specs.Plan.{plan, plan_of}
use Rattle.model.specs.Refusal.{entry_limit, bad_entry}
use Rattle.laws.proofs.Blocks.{row_of, column_of_lem}
use Rattle.records.specs.Records.{lent}
use Rattle.checks.specs.Checks.{lists_alone}
use Rattle.laws.proofs.Searches.{some_step, some_chunk, some_cong}

-- ---- limits

module _ (z : Sizes) (i j : ℕ) where
  pub limit_diagonal : i ≡ j → z.side - 1 ≡ entry_limit (plan_of z) i j
  unfolding entry_limit plan
  limit_diagonal e = rw (eq-eqb i j e)

  pub limit_below : (i ≡ j → ⊥) → j < i → z.side ≡ entry_limit (plan_of z) i j
  unfolding entry_limit plan
  limit_below d h = rw (ne_eqb i j d, lt-ltb j i h)

  pub limit_above : (i ≡ j → ⊥) → i ≤ j → 0 ≡ entry_limit (plan_of z) i j
  unfolding entry_limit plan
  limit_above d h = rw (ne_eqb i j d, le-ltb j i h)

-- ---- entries: what is found so far, or in what is left, gives the whole search's answer

module _ (f : ℕ → Bool) (n j : ℕ) (found whole : Bool) where
  pub found_more : j < n → (found || some f (run j (n - j))) ≡ whole → ((found || f j) || some f (run (j + 1) (n - (j + 1)))) ≡ whole
  found_more h e = or_assoc found (f j) _ ∙ ap (λ (b : Bool). found || b) (sym (some_step f n j h)) ∙ e

  pub found_all : n ≤ j → (found || some f (run j (n - j))) ≡ whole → found ≡ whole
  unfolding some run
  found_all h e = let z : n - j ≡ 0 = omega arith in sym (or-false found) ∙ (rw z at e)

-- ---- runs of s places, one after the other

module _ (f : ℕ → Bool) (s a : ℕ) (g : ℕ → Bool) (e : (j : ℕ) → g j ≡ some f (run ((a + j) * s) s)) where
  chunks : (x m : ℕ) → some g (run x m) ≡ some f (run ((a + x) * s) (m * s))
  unfolding some run
  chunks x zero = rw (zero-mul s)
  chunks x (suc m) =
      let q : a + suc x ≡ suc (a + x) = omega arith in
      let r : some g (run (suc x) m) ≡ some f (run (suc (a + x) * s) (m * s)) = rw q at (chunks (suc x) m) in
      rw (e x, r) (sym (some_chunk f s (a + x) m))

-- ---- lists and rows

module _ (z : Sizes) (l : List ℕ) where
  abbrev N : ℕ
  N = z.tiles

  abbrev t : ℕ
  t = z.side

  abbrev bad : ℕ → Bool
  bad = bad_entry (plan_of z) (lists_alone l)

  -- every entry of list (i,j) has that list's limit
  in_list : (i j : ℕ) → j < N → (x : ℕ) → (i * N + j) * t ≤ x → x < (i * N + j) * t + t → ltb (entry_limit (plan_of z) i j) (get_or l x 0) ≡ bad x
  unfolding bad_entry lent plan
  in_list i j h x a b = go (x - (i * N + j) * t) (omega arith) (omega arith)
    where
      go : (e : ℕ) → (i * N + j) * t + e ≡ x → e < t → ltb (entry_limit (plan_of z) i j) (get_or l x 0) ≡ ltb (entry_limit (plan_of z) (x / t / N) (x / t % N)) (get_or l x 0)
      go e q k =
          let d : x / t ≡ i * N + j = ap (λ (y : ℕ). y / t) (sym q) ∙ row_of t (i * N + j) e k in
          rw (d, row_of N i j h, column_of_lem N i j h)

  pub list_exceeds : (i j : ℕ) → j < N → (limit : ℕ) → limit ≡ entry_limit (plan_of z) i j → (v : Bool)
      → v ≡ some (λ x. ltb limit (get_or l x 0)) (run ((i * N + j) * t) t) → v ≡ some bad (run ((i * N + j) * t) t)
  list_exceeds i j h limit q v e =
      e ∙ some_cong (λ x. ltb limit (get_or l x 0)) bad ((i * N + j) * t) t (λ x a b. ap (λ (y : ℕ). ltb y (get_or l x 0)) q ∙ in_list i j h x a b)

  -- the lists of row i one after the other
  pub lists_of_row : (i : ℕ) → some (λ j. some bad (run ((i * N + j) * t) t)) (run 0 N) ≡ some bad (run (i * (N * t)) (N * t))
  lists_of_row i =
      let q : i * N + 0 ≡ i * N = omega arith in
      chunks bad t (i * N) _ (λ j. refl) 0 N ∙ rw (q, mul_assoc i N t)

  -- the rows one after the other
  pub all_rows : some (λ i. some bad (run (i * (N * t)) (N * t))) (run 0 N) ≡ some bad (below (N * N * t))
  unfolding below
  all_rows = chunks bad (N * t) 0 _ (λ i. let q : 0 + i ≡ i = omega arith in rw q) 0 N ∙ rw (zero-mul (N * t), mul_assoc N N t)
