-- The tasks linked to a task, and the latest writers of what it touches, are one list of at most three tasks. Assumes nothing.
use Prim.Native.Nat.{ℕ, suc, ◌+◌, ◌-◌, ◌≤◌, ◌<◌}
use mathlib.Core.Bool.{Bool, true, false, not, cond}
use mathlib.Core.Path.{◌≡◌, refl, ap, subst}
use mathlib.Core.Logic.{◌⊎◌, inl, inr, ◌≢◌}
use mathlib.Core.List.{List, [], ◌∷◌, ◌++◌}
use native.Mathlib.Omega.{arith}
use lib.Dec.{eqb}
use lib.ListN.{length, length-append}
use borrow.Author.Tests.{eqb-false, ne_eqb, not-true}
use Rattle.model.specs.Lists.{run, below, some, keep}
use Rattle.model.specs.Task.{Place, A, list, tasks, task_count, touches}
use Rattle.model.specs.Links.{task, between, linked, links_to, writer, latest_writer, latest_writers}
use Rattle.laws.proofs.Tests.{never, and_left, and_right, and_intro, false_if, some_run_intro, some_run_elim}
use Rattle.links.specs.Closed.{Key, In, task_at, number, key_at, by_stage, by_row, by_column, Linked, stage_back, row_first, row_above, Last, last_own, last_upper, last_left, last_list, last_own_low, last_left_low, back_of, above_of, left_of, back_link, above_link, left_link, links_at}
use Rattle.links.proofs.Numbering.{same_key, task_is}
use Rattle.links.proofs.Order.{back, number_fits, number_mono}
use Rattle.links.proofs.Places.{OneOf, some_elim, some_intro, one_left, one_right, one_cases, touches_of, one_touches}
use Rattle.links.proofs.Kept.{Rising, keep_is}
use Rattle.links.proofs.Links.{links, linked_order}
use Rattle.links.proofs.Writers.{Latest, last_touches, last_of, of_last}

-- a number that is there unless the test passes
module _ (t : Bool) (x : ℕ) where
  abbrev unless : List ℕ
  unless = cond t [] (x ∷ [])

unless_is : (t : Bool) (x p : ℕ) → OneOf p (unless t x) → (t ≡ false) × (p ≡ x)
unless_is true x p m = absurd m
unless_is false x p (inl q) = (refl, q)
unless_is false x p (inr m) = absurd m

is_unless : (t : Bool) (x p : ℕ) → t ≡ false → p ≡ x → OneOf p (unless t x)
is_unless t x p e q = rw e (inl q)

unless_short : (t : Bool) (x : ℕ) → length (unless t x) ≤ 1
unless_short true x = omega arith
unless_short false x = omega arith

-- three such numbers that rise wherever two of them are there
three_rise : (q x y z : ℕ) (r s t : Bool) → (r ≡ false → x < q) → (s ≡ false → y < q) → (t ≡ false → z < q)
    → (r ≡ false → s ≡ false → x < y) → (r ≡ false → t ≡ false → x < z) → (s ≡ false → t ≡ false → y < z)
    → Rising q 0 (unless r x ++ (unless s y ++ unless t z))
three_rise q x y z true true true a b c d e f = tt
three_rise q x y z true true false a b c d e f = (omega arith, c refl, tt)
three_rise q x y z true false true a b c d e f = (omega arith, b refl, tt)
three_rise q x y z true false false a b c d e f = (omega arith, b refl, (f refl refl, c refl, tt))
three_rise q x y z false true true a b c d e f = (omega arith, a refl, tt)
three_rise q x y z false true false a b c d e f = (omega arith, a refl, (e refl refl, c refl, tt))
three_rise q x y z false false true a b c d e f = (omega arith, a refl, (d refl refl, b refl, tt))
three_rise q x y z false false false a b c d e f = (omega arith, a refl, (d refl refl, b refl, (f refl refl, c refl, tt)))

-- ---- a latest writer is a linked task, and a linked task the latest writer of some place

module _ (N : ℕ) (a b : Key) (w : In N b) where
  pub last_linked : (x : Place) → Last a b x → Linked a b
  last_linked x (last_own p e f g) = stage_back e f g
  last_linked x (last_upper p e f g) = row_above e f g
  last_linked x (last_left p e f g h o) = row_first e f g h
  last_linked x (last_list p e f g h) = row_first e f g h
  last_linked x (last_own_low p o e f g) = stage_back e f g
  last_linked x (last_left_low p o e f g h) = row_first e (omega arith) g h

  -- the place is a tile or a list, no strictly lower part
  pub linked_last : Linked a b → (x : Place) × (x.sort ≤ 1) × Last a b x
  linked_last (stage_back e f g) = (A b.i b.j, omega arith, last_own refl e f g)
  linked_last (row_first e f g h) = (list b.i b.k, omega arith, last_list refl e f g h)
  linked_last (row_above e f g) = (A b.k b.j, omega arith, last_upper refl e f g)

-- ---- the list

module _ (N : ℕ) (b : Key) (w : In N b) where
  Direct : ℕ → Type 0
  Direct p = (a : Key) × In N a × Linked a b × (p ≡ number N a)

  list_direct : (p : ℕ) → OneOf p (links_at N b) → Direct p
  unfolding links_at back_link above_link left_link Direct
  list_direct p m = go (one_cases p (back_link N b) (above_link N b ++ left_link N b) m)
    where
      rest : OneOf p (above_link N b) ⊎ OneOf p (left_link N b) → Direct p
      rest (inl o) =
          let (t, q) = unless_is (eqb b.i b.k) (number N (above_of b)) p o in
          let n : b.i ≢ b.k = eqb-false b.i b.k t in
          (above_of b, omega arith, row_above refl (omega arith) refl, q)
      rest (inr o) =
          let (t, q) = unless_is (eqb b.j b.k) (number N (left_of b)) p o in
          let n : b.j ≢ b.k = eqb-false b.j b.k t in
          (left_of b, omega arith, row_first refl refl refl (omega arith), q)

      go : OneOf p (back_link N b) ⊎ OneOf p (above_link N b ++ left_link N b) → Direct p
      go (inl o) =
          let (t, q) = unless_is (eqb b.k 0) (number N (back_of b)) p o in
          let n : b.k ≢ 0 = eqb-false b.k 0 t in
          (back_of b, omega arith, stage_back (omega arith) refl refl, q)
      go (inr o) = rest (one_cases p (above_link N b) (left_link N b) o)

  direct_list : (a : Key) → In N a → Linked a b → OneOf (number N a) (links_at N b)
  unfolding links_at back_link above_link left_link
  direct_list a v (stage_back e f g) =
      one_left _ (back_link N b) _
      (is_unless (eqb b.k 0) (number N (back_of b)) _ (ne_eqb b.k 0 (omega arith)) (ap (number N) (same_key a (back_of b) (omega arith) f g)))
  direct_list a v (row_above e f g) =
      one_right _ (back_link N b) _ (one_left _ (above_link N b) _
      (is_unless (eqb b.i b.k) (number N (above_of b)) _ (ne_eqb b.i b.k (omega arith)) (ap (number N) (same_key a (above_of b) e (omega arith) g))))
  direct_list a v (row_first e f g h) =
      one_right _ (back_link N b) _ (one_right _ (above_link N b) _
      (is_unless (eqb b.j b.k) (number N (left_of b)) _ (ne_eqb b.j b.k (omega arith)) (ap (number N) (same_key a (left_of b) e f g))))

  rising : Rising (number N b) 0 (links_at N b)
  unfolding links_at back_link above_link left_link
  rising = three_rise (number N b) (number N (back_of b)) (number N (above_of b)) (number N (left_of b)) (eqb b.k 0) (eqb b.i b.k) (eqb b.j b.k)
      (λ r. let n = eqb-false b.k 0 r in number_mono N (back_of b) b (omega arith) w (by_stage (omega arith)))
      (λ s. let n = eqb-false b.i b.k s in number_mono N (above_of b) b (omega arith) w (by_row refl (omega arith)))
      (λ t. let n = eqb-false b.j b.k t in number_mono N (left_of b) b (omega arith) w (by_column refl refl (omega arith)))
      (λ r s. let n = eqb-false b.k 0 r in let m = eqb-false b.i b.k s in number_mono N (back_of b) (above_of b) (omega arith) (omega arith) (by_stage (omega arith)))
      (λ r t. let n = eqb-false b.k 0 r in number_mono N (back_of b) (left_of b) (omega arith) (omega arith) (by_stage (omega arith)))
      (λ s t. let m = eqb-false b.i b.k s in number_mono N (above_of b) (left_of b) (omega arith) (omega arith) (by_row refl (omega arith)))

  pub few : length (links_at N b) ≤ 3
  unfolding links_at back_link above_link left_link
  few =
      omega (
        arith,
        length-append (back_link N b) (above_link N b ++ left_link N b),
        length-append (above_link N b) (left_link N b),
        unless_short (eqb b.k 0) (number N (back_of b)),
        unless_short (eqb b.i b.k) (number N (above_of b)),
        unless_short (eqb b.j b.k) (number N (left_of b)),
      )

  -- a test that passes for the tasks linked to b, and for no other task before b, keeps the list
  pub kept : (f : ℕ → Bool) → ((a : Key) → In N a → number N a < number N b → f (number N a) ≡ true → Linked a b) → ((a : Key) → In N a → Linked a b → f (number N a) ≡ true)
      → keep f (below (number N b)) ≡ links_at N b
  unfolding below Direct
  kept f to from = keep_is f (number N b) (number N b) 0 (links_at N b) (omega arith) rising inside (λ p m. let (a, v, l, q) = list_direct p m in rw q (from a v l))
    where
      inside : (p : ℕ) → 0 ≤ p → p < number N b → f p ≡ true → OneOf p (links_at N b)
      inside p h l e =
          let fits : number N b < task_count N = number_fits N b w in
          let (v, r) = back N p (omega arith) in
          subst (λ (x : ℕ). OneOf x (links_at N b)) r (direct_list (key_at N p) v (to (key_at N p) v (rw r l) (rw r e)))

  pub links_are : links_to (tasks N) (number N b) ≡ links_at N b
  unfolding links_to
  links_are = kept (λ p. linked (tasks N) p (number N b)) (λ a v h e. (links N a b v w h).0 e) (λ a v l. (links N a b v w (linked_order N a b v w l)).1 l)

-- ---- the latest writers

module _ (N : ℕ) (x : Place) (p q : ℕ) where
  abbrev later : Bool
  later = some (writer (tasks N) x) (run (suc q) (p - suc q))

  pub latest_of : q < p → latest_writer (tasks N) x p q ≡ true → Latest N x q p
  unfolding latest_writer between
  latest_of l e = record {
    earlier = l;
    wrote = and_left (writer (tasks N) x q) (not later) e;
    alone = λ r h k g. never (some_run_intro (writer (tasks N) x) (suc q) (p - suc q) r h (omega arith) g) (not-true later (and_right (writer (tasks N) x q) (not later) e));
  }

  pub of_latest : Latest N x q p → latest_writer (tasks N) x p q ≡ true
  unfolding latest_writer between
  of_latest l = and_intro (writer (tasks N) x q) (not later) l.wrote (ap not (false_if later found))
    where
      found : later ≡ true → ⊥
      found g = let (r, h, k, c) = some_run_elim (writer (tasks N) x) (suc q) (p - suc q) g in l.alone r h (omega arith) c

module _ (N : ℕ) (b : Key) (w : In N b) where
  pub writers_are : latest_writers (tasks N) (number N b) ≡ links_at N b
  unfolding latest_writers
  writers_are = kept N b w (λ p. some (λ x. latest_writer (tasks N) x (number N b) p) (touches (task (tasks N) (number N b)))) to from
    where
      to : (a : Key) → In N a → number N a < number N b → some (λ x. latest_writer (tasks N) x (number N b) (number N a)) (touches (task (tasks N) (number N b))) ≡ true → Linked a b
      to a v h e =
          let (x, m, f) = some_elim (λ x. latest_writer (tasks N) x (number N b) (number N a)) (touches (task_at b)) (rw (task_is N b w) at e) in
          last_linked N a b w x (last_of N x a b v w (touches_of b x m) (latest_of N x (number N b) (number N a) h f))

      from : (a : Key) → In N a → Linked a b → some (λ x. latest_writer (tasks N) x (number N b) (number N a)) (touches (task (tasks N) (number N b))) ≡ true
      from a v l =
          let (x, _, f) = linked_last N a b w l in
          rw (task_is N b w)
          (some_intro (λ x. latest_writer (tasks N) x (number N b) (number N a)) x (touches (task_at b)) (one_touches b x (last_touches N a b v w x f))
          (of_latest N x (number N b) (number N a) (of_last N x a b v w f)))
