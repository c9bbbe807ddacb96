-- The mark of a task that may not exist, the number where it stands, and the triple in a record. Assumes nothing.
use Prim.Native.Nat.{ℕ, ◌+◌, ◌-◌, ◌*◌, ◌≤◌, ◌<◌, max}
use mathlib.Core.Bool.{Bool, true, false, cond}
use mathlib.Core.List.{List}
use mathlib.Core.Path.{◌≡◌, refl, ◌∙◌}
use mathlib.Core.Logic.{◌≢◌}
use native.Mathlib.Nat.{mul-le-mul}
use native.Mathlib.Omega.{arith}
use lib.Dec.{eqb}
use lib.ListN.{length, get_or}
use borrow.Author.Tests.{eq-eqb, ne_eqb}
use Rattle.model.specs.declared.TaskRecord.{TaskRecord}
use Rattle.model.specs.Task.{Task, tasks, task_count, k_of, i_of, j_of}
use Rattle.model.specs.Links.{task, mark, done}
use Rattle.links.specs.Closed.{Key, key, In, key_of, number, key_at, back_of, above_of, left_of, back_mark, above_mark, left_mark}
use Rattle.links.proofs.Numbering.{same_key}
use Rattle.links.proofs.Order.{number_fits, key_at_lem, Within, within_1, within_2, within_3, within_4}
use Rattle.links.proofs.Neighbours.{left_number, above_number, back_number}
use Rattle.links.proofs.Summary.{number_back, fields_within}
use Rattle.task_counts.proofs.Laws.{products_small}
use Rattle.records.specs.Records.{records_from, blank}
use Rattle.marks.specs.Marks.{Recorded}
use Rattle.neighbours.specs.declared.LinkMarks.{LinkMarks}
use Rattle.neighbours.specs.Linked.{Placed, link_marks}

-- done where the test passes, else the mark read
none_there : (t : Bool) (m : ℕ) → t ≡ true → 2 ≡ cond t done m
none_there t m e = rw e

one_there : (t : Bool) (m x : ℕ) → t ≡ false → x ≡ m → x ≡ cond t done m
one_there t m x e f = rw e f

-- ---- the three marks, of the task p with the triple (k,i,j)

module _ (n p k i j : ℕ) (records : List (List ℕ)) (h : Placed n records p (key k i j)) where
  abbrev b : Key
  b = key k i j

  -- what the sums and products of the code stay below
  pub small : (p < 1496) × (p < length records) × (k ≤ i) × (k ≤ j) × (i < n) × (j < n) × (n ≤ 16) × ((n - k) * (n - k) ≤ 256)
  unfolding task_count
  small =
      let s : n ≤ 16 = h.small in
      let v : In n b = h.inside in
      let m : n - k ≤ 16 = omega arith in
      let f : p < task_count n = omega (arith, number_fits n b v, h.number_is) in (
        omega (arith, products_small n s),
        omega (arith, h.long),
        v.row,
        v.column,
        v.row_fits,
        v.column_fits,
        s,
        mul-le-mul m m,
      )

  pub back_at : k ≢ 0 → number n (back_of b) + (n + (n - k) * (n - k)) ≡ p + 1 + i
  back_at d = omega (arith, back_number n b h.inside (omega arith), h.number_is)

  pub above_at : i ≢ k → number n (above_of b) + (n - k) ≡ p
  above_at d = let v : In n b = h.inside in above_number n b v (omega arith) ∙ h.number_is

  pub left_at : number n (left_of b) + (j - k) ≡ p
  left_at = left_number n b h.inside ∙ h.number_is

  module _ (ms : List ℕ) where
    pub no_back : k ≡ 0 → 2 ≡ back_mark n ms b
    unfolding back_mark
    no_back e = none_there (eqb k 0) _ (eq-eqb k 0 e)

    pub one_back : k ≢ 0 → (q x : ℕ) → q + (n + (n - k) * (n - k)) ≡ p + 1 + i → x ≡ mark ms q → x ≡ back_mark n ms b
    unfolding back_mark
    one_back d q x e f =
        let r : q ≡ number n (back_of b) = omega (arith, back_at d) in
        one_there (eqb k 0) _ x (ne_eqb k 0 d) (rw (← r) f)

    pub no_above : i ≡ k → 2 ≡ above_mark n ms b
    unfolding above_mark
    no_above e = none_there (eqb i k) _ (eq-eqb i k e)

    pub one_above : i ≢ k → (q x : ℕ) → q + (n - k) ≡ p → x ≡ mark ms q → x ≡ above_mark n ms b
    unfolding above_mark
    one_above d q x e f =
        let r : q ≡ number n (above_of b) = omega (arith, above_at d) in
        one_there (eqb i k) _ x (ne_eqb i k d) (rw (← r) f)

    pub no_left : j ≡ k → 2 ≡ left_mark n ms b
    unfolding left_mark
    no_left e = none_there (eqb j k) _ (eq-eqb j k e)

    pub one_left : j ≢ k → (q x : ℕ) → q + (j - k) ≡ p → x ≡ mark ms q → x ≡ left_mark n ms b
    unfolding left_mark
    one_left d q x e f =
        let r : q ≡ number n (left_of b) = omega (arith, left_at) in
        one_there (eqb j k) _ x (ne_eqb j k d) (rw (← r) f)

-- ---- record p has the triple of task p

fields_key : (N : ℕ) (t : Task) → Within N t → key (k_of t) (max (k_of t) (i_of t)) (max (k_of t) (j_of t)) ≡ key_of t
unfolding key_of k_of i_of j_of
fields_key N t (within_1 k h) = same_key (key k (max k 0) (max k 0)) (key k k k) refl (omega arith) (omega arith)
fields_key N t (within_2 k j h l) = same_key (key k (max k 0) (max k j)) (key k k j) refl (omega arith) (omega arith)
fields_key N t (within_3 k i h l) = same_key (key k (max k i) (max k 0)) (key k i k) refl (omega arith) (omega arith)
fields_key N t (within_4 k i j h l g m) = same_key (key k (max k i) (max k j)) (key k i j) refl (omega arith) (omega arith)

-- r is record p, and (k,i,j) is read from it
module _ (n p : ℕ) (records : List (List ℕ)) (h : Recorded n records p) (r : TaskRecord) (hr : r ≡ get_or (records_from records) p blank)
    (k i j : ℕ) (hk : k ≡ r.k) (hi : i ≡ max r.k r.i) (hj : j ≡ max r.k r.j) where
  key_p : key k i j ≡ key_at n p
  key_p =
      rw (hk, hi, hj, hr, h.k_is, h.i_is, h.j_is)
      (fields_key n (task (tasks n) p) (fields_within n p h.below) ∙ key_at_lem n p h.below)

  pub placed : Placed n records p (key k i j)
  placed = let (v, e) = number_back n p h.below in record { small = h.small; long = h.long; inside = rw key_p v; number_is = rw key_p e }

  pub marks_are : (ms : List ℕ) (m : LinkMarks) → m.back ≡ back_mark n ms (key k i j) → m.above ≡ above_mark n ms (key k i j) → m.left ≡ left_mark n ms (key k i j)
      → m ≡ link_marks n ms p
  unfolding link_marks
  marks_are ms m e f g = rw (← key_p) (λ t. record { back = e t; above = f t; left = g t })
