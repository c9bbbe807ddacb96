-- Which tasks the search for a ready task passes over. Assumes nothing.
use Prim.Native.Nat.{ℕ, ◌+◌, ◌-◌, ◌≤◌, ◌<◌}
use mathlib.Core.Bool.{Bool, false}
use mathlib.Core.List.{List}
use mathlib.Core.Path.{◌≡◌, refl, sym, ap, ◌∙◌}
use native.Mathlib.Omega.{arith}
use lib.ListN.{length, get_or}
use Rattle.model.specs.declared.TaskRecord.{TaskRecord}
use Rattle.model.specs.Task.{Task, tasks, k_of, j_of}
use Rattle.model.specs.Links.{task, mark, finished, ready}
use Rattle.links.specs.Closed.{Key, key_of, key_at}
use Rattle.links.proofs.Order.{key_at_lem, Within, within_1, within_2, within_3, within_4}
use Rattle.links.proofs.Summary.{number_back, fields_within, row_fits, row_waits}
use Rattle.records.specs.Records.{records_from, marks_from, blank}
use Rattle.records.proofs.Laws.{get_mark}
use Rattle.marks.specs.Marks.{Recorded}
use Rattle.next_task.specs.NextTask.{NoneBetween}

-- a task without j is the first of its row
first : (N : ℕ) (t : Task) → Within N t → j_of t ≡ 0 → ((key_of t).k ≡ k_of t) × ((key_of t).j ≡ (key_of t).k)
unfolding key_of k_of j_of
first N t (within_1 k h) e = (refl, refl)
first N t (within_2 k j h l) e = absurd (omega arith)
first N t (within_3 k i h l) e = (refl, refl)
first N t (within_4 k i j h l g m) e = absurd (omega arith)

module _ (n p : ℕ) (records : List (List ℕ)) (h : Recorded n records p) where
  -- r is record p, and has no j
  module _ (r : TaskRecord) (hr : r ≡ get_or (records_from records) p blank) (z : r.j ≡ 0) where
    abbrev a : Key
    a = key_at n p

    first_here : (a.k ≡ r.k) × (a.j ≡ a.k)
    first_here =
        rw (hr, h.k_is, ← key_at_lem n p h.below)
        (first n (task (tasks n) p) (fields_within n p h.below) (sym h.j_is ∙ ap (λ (x : TaskRecord). x.j) (sym hr) ∙ z))

    -- the row ends within the records
    pub row_ends : (r.k < n) × (p + (n - r.k) ≤ length records)
    row_ends =
        let (v, e) = number_back n p h.below in
        let (k, f) = first_here in
        (omega (arith, v.row, v.row_fits), omega (arith, h.long, rw (e, k) at (row_fits n a v f)))

    pub row_passed : (b : Bool) → b ≡ finished r.mark → b ≡ false → NoneBetween n records p (p + (n - r.k))
    row_passed b hb e = record { onward = omega (arith, row_ends); none = none; within = row_ends.1 }
      where
        unfinished : finished (mark (marks_from records) p) ≡ false
        unfinished = rw (get_mark records p, ← hr, ← hb) e

        none : (q : ℕ) → p < q → q < p + (n - r.k) → ready (tasks n) (marks_from records) q ≡ false
        none q = let (v, s) = number_back n p h.below in let (k, f) = first_here in rw (s, k) at (row_waits n (marks_from records) a v f (rw s unfinished) q)
