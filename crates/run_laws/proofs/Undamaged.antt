-- What a state that passes refusal 4 has: the numbering's records, tasks held as their marks say, and tie sums, call numbers and list entries within
-- their limits.
-- Assumes nothing.
use Prim.Native.Nat.{ℕ, zero, suc, ◌+◌, ◌*◌, ◌/◌, ◌%◌, ◌≤◌, ◌<◌}
use mathlib.Core.Bool.{Bool, true, false, not, cond, ◌&&◌, ◌||◌}
use mathlib.Core.Path.{◌≡◌, refl, ap, ◌∙◌}
use mathlib.Core.List.{List, [], ◌∷◌, map}
use native.Mathlib.Nat.{suc-mul}
use native.Mathlib.Omega.{arith}
use lib.Dec.{eqb, leb, ltb}
use lib.ListN.{length, get_or}
use borrow.Author.Tests.{eqb-true, eq-eqb, leb-true, ltb-true, ltb-false, not-false}
use Rattle.model.specs.declared.TaskRecord.{TaskRecord}
use Rattle.worker.specs.declared.Worker.{Worker}
use Rattle.model.specs.Lists.{below, some, keep, total}
use Rattle.model.specs.Plan.{Plan}
use Rattle.model.specs.Task.{Task, kind_of, k_of, i_of, j_of}
use Rattle.model.specs.Links.{task, mark, taken, done, failed, finished}
use Rattle.model.specs.Calls.{Lent, marks_of, ties_of, record_of, worker}
use Rattle.worker.specs.Holding.{idle}
use Rattle.model.specs.Refusal.{holds, next_column, bad_record, bad_hold, tie_limit, bad_ties, bad_calls, call_limit, bad_number, bad_worker, entry_limit, bad_entry, damaged}
use Rattle.laws.proofs.Tests.{and_left, and_right, or_false_left, or_false_right, fails_below, and_true_not}
use Rattle.laws.proofs.Blocks.{in_block, row_of, column_of_lem}
use Rattle.laws.proofs.Every.{get_d_any}
use Rattle.laws.proofs.Counts.{one_kept}
use Rattle.laws.proofs.Totals.{total_most}

-- the record r is task a's, and its mark is one of the five
pub record Due (a : Task) (r : TaskRecord) : Type 0 where
  pub kind_is : r.kind ≡ kind_of a
  pub k_is : r.k ≡ k_of a
  pub i_is : r.i ≡ i_of a
  pub j_is : r.j ≡ j_of a
  pub mark_most : r.mark ≤ 4

-- what the worker h holds: a task that exists and is marked taken, and a column of it
pub record Held (z : Plan) (s : Lent) (h : Worker) : Type 0 where
  pub exists : h.task < length z.tasks
  pub is_taken : mark (marks_of s) h.task ≡ taken
  pub column_fits : h.column < z.t

-- the call numbers of the record r are at most n, and its worker is one of W (K9)
pub record CallsFit (r : TaskRecord) (n W : ℕ) : Type 0 where
  pub took_most : r.took ≤ n
  pub ended_most : r.ended ≤ n
  pub worker_below : r.worker < W

-- ---- tests that failed

module _ {A : Type 0} where
  none_at : (f : A → Bool) (xs : List A) (d : A) (i : ℕ) → some f xs ≡ false → i < length xs → f (get_or xs i d) ≡ false
  unfolding some
  none_at f [] d i e h = absurd (omega arith)
  none_at f (x ∷ xs) d zero e h = or_false_left (f x) (some f xs) e
  none_at f (x ∷ xs) d (suc i) e h = none_at f xs d i (or_false_right (f x) (some f xs) e) (omega arith)

-- the test of a record, passed
pub due_of : (a : Task) (r : TaskRecord)
    → not (eqb r.kind (kind_of a) && eqb r.k (k_of a) && eqb r.i (i_of a) && eqb r.j (j_of a) && leb r.mark 4) ≡ false → Due a r
due_of a r e =
    let e₅ = not-false (eqb r.kind (kind_of a) && eqb r.k (k_of a) && eqb r.i (i_of a) && eqb r.j (j_of a) && leb r.mark 4) e in
    let e₄ = and_left (eqb r.kind (kind_of a) && eqb r.k (k_of a) && eqb r.i (i_of a) && eqb r.j (j_of a)) (leb r.mark 4) e₅ in
    let e₃ = and_left (eqb r.kind (kind_of a) && eqb r.k (k_of a) && eqb r.i (i_of a)) (eqb r.j (j_of a)) e₄ in
    let e₂ = and_left (eqb r.kind (kind_of a) && eqb r.k (k_of a)) (eqb r.i (i_of a)) e₃ in
    record {
      kind_is = eqb-true r.kind (kind_of a) (and_left (eqb r.kind (kind_of a)) (eqb r.k (k_of a)) e₂);
      k_is = eqb-true r.k (k_of a) (and_right (eqb r.kind (kind_of a)) (eqb r.k (k_of a)) e₂);
      i_is = eqb-true r.i (i_of a) (and_right (eqb r.kind (kind_of a) && eqb r.k (k_of a)) (eqb r.i (i_of a)) e₃);
      j_is = eqb-true r.j (j_of a) (and_right (eqb r.kind (kind_of a) && eqb r.k (k_of a) && eqb r.i (i_of a)) (eqb r.j (j_of a)) e₄);
      mark_most = leb-true r.mark 4 (and_right (eqb r.kind (kind_of a) && eqb r.k (k_of a) && eqb r.i (i_of a) && eqb r.j (j_of a)) (leb r.mark 4) e₅);
    }

pub calls_of_lem : (r : TaskRecord) (n W : ℕ) → not (leb r.took n && leb r.ended n && ltb r.worker W) ≡ false → CallsFit r n W
calls_of_lem r n W e =
    let e₃ = not-false (leb r.took n && leb r.ended n && ltb r.worker W) e in
    let e₂ = and_left (leb r.took n && leb r.ended n) (ltb r.worker W) e₃ in
    record {
      took_most = leb-true r.took n (and_left (leb r.took n) (leb r.ended n) e₂);
      ended_most = leb-true r.ended n (and_right (leb r.took n) (leb r.ended n) e₂);
      worker_below = ltb-true r.worker W (and_right (leb r.took n && leb r.ended n) (ltb r.worker W) e₃);
    }

-- the next column of a task that worker w alone holds
pub next_of : (s : Lent) (p w : ℕ) → w < length s.workers → holds p (worker s w) ≡ true → length (keep (holds p) s.workers) ≡ 1 → next_column s p ≡ (worker s w).column
unfolding next_column total worker
next_of s p w h e l = ap (λ (ws : List Worker). total (map (λ v. v.column) ws)) (one_kept (holds p) idle s.workers w h e l) ∙ omega arith

module _ (z : Plan) (s : Lent) (fine : damaged z s ≡ false) where
  abbrev bad_records : Bool
  bad_records = some (bad_record z s) (below (length z.tasks))

  abbrev bad_holds : Bool
  bad_holds = some (bad_hold z s) (below (length z.tasks))

  abbrev bad_ties_lem : Bool
  bad_ties_lem = some (bad_ties z s) (below (length z.tasks))

  abbrev bad_calls_lem : Bool
  bad_calls_lem = some (bad_calls z s) (below (length z.tasks))

  abbrev bad_workers : Bool
  bad_workers = some (bad_worker z s) s.workers

  abbrev bad_entries_lem : Bool
  bad_entries_lem = some (bad_entry z s) (below (z.N * z.N * z.t))

  abbrev of_records : Bool
  of_records = bad_records || bad_holds || bad_ties_lem || bad_calls_lem || bad_number z s

  six : (of_records || bad_workers) ≡ false
  unfolding damaged
  six = or_false_left (of_records || bad_workers) bad_entries_lem fine

  five : of_records ≡ false
  five = or_false_left of_records bad_workers six

  four : (bad_records || bad_holds || bad_ties_lem || bad_calls_lem) ≡ false
  four = or_false_left (bad_records || bad_holds || bad_ties_lem || bad_calls_lem) (bad_number z s) five

  three : (bad_records || bad_holds || bad_ties_lem) ≡ false
  three = or_false_left (bad_records || bad_holds || bad_ties_lem) bad_calls_lem four

  two : (bad_records || bad_holds) ≡ false
  two = or_false_left (bad_records || bad_holds) bad_ties_lem three

  -- ---- records

  pub due : (p : ℕ) → p < length z.tasks → Due (task z.tasks p) (get_or s.records p (record_of (task z.tasks p)))
  unfolding bad_record
  due p h =
      due_of (task z.tasks p) (get_or s.records p (record_of (task z.tasks p)))
      (fails_below (bad_record z s) (length z.tasks) p (or_false_left bad_records bad_holds two) h)

  -- the same, whatever is read past the end of the records
  pub due_any : length s.records ≡ length z.tasks → (p : ℕ) (d : TaskRecord) → p < length z.tasks → Due (task z.tasks p) (get_or s.records p d)
  due_any long p d h = rw (get_d_any s.records p d (record_of (task z.tasks p)) (omega arith)) (due p h)

  -- ---- holds

  -- a taken task is held by one worker
  pub one_holder : (p : ℕ) → p < length z.tasks → mark (marks_of s) p ≡ taken → eqb (length (keep (holds p) s.workers)) 1 ≡ true
  unfolding bad_hold
  one_holder p h m =
      and_true_not (eqb (mark (marks_of s) p) taken) (eqb (length (keep (holds p) s.workers)) 1) (eq-eqb (mark (marks_of s) p) taken m)
      (fails_below (bad_hold z s) (length z.tasks) p (or_false_right bad_records bad_holds two) h)

  -- a busy worker holds what it may
  held_of : (h : Worker) → h.busy ≡ true → bad_worker z s h ≡ false → Held z s h
  unfolding bad_worker
  held_of h b e =
      let x = ltb h.task (length z.tasks) in
      let y = eqb (mark (marks_of s) h.task) taken in
      let c = ltb h.column z.t in
      let all = and_true_not h.busy (x && y && c) b e in
      let both = and_left (x && y) c all in
      record {
        exists = ltb-true h.task (length z.tasks) (and_left x y both);
        is_taken = eqb-true (mark (marks_of s) h.task) taken (and_right x y both);
        column_fits = ltb-true h.column z.t (and_right (x && y) c all);
      }

  pub held : (w : ℕ) → w < length s.workers → (worker s w).busy ≡ true → Held z s (worker s w)
  unfolding worker
  held w h b = held_of (get_or s.workers w idle) b (none_at (bad_worker z s) s.workers idle w (or_false_right of_records bad_workers six) h)

  -- ---- tie sums

  pub sum_fits : (p : ℕ) → p < length z.tasks → get_or (ties_of s) p 0 ≤ tie_limit z s p
  unfolding bad_ties
  sum_fits p h = ltb-false (tie_limit z s p) (get_or (ties_of s) p 0) (fails_below (bad_ties z s) (length z.tasks) p (or_false_right (bad_records || bad_holds) bad_ties_lem three) h)

  -- the task that a busy worker holds
  pub sum_held : (w : ℕ) → w < length s.workers → (worker s w).busy ≡ true → get_or (ties_of s) (worker s w).task 0 ≤ z.t * (worker s w).column
  unfolding tie_limit holds
  sum_held w h b =
      let v = worker s w in
      let e = held w h b in
      let next = next_of s v.task w h (unfold holds in rw b (eq-eqb v.task v.task refl)) (eqb-true _ 1 (one_holder v.task e.exists e.is_taken)) in
      let limit : tie_limit z s v.task ≡ z.t * v.column = unfold tie_limit in
      (ap (λ (m : ℕ). cond (eqb m done || eqb m failed) (z.t * z.t) (cond (eqb m taken) (z.t * next_column s v.task) 0)) e.is_taken ∙ ap (λ (c : ℕ). z.t * c) next) in
      omega (arith, sum_fits v.task e.exists, limit)

  -- ---- the run's number

  pub number_fits : s.number ≤ total (map (call_limit z s) (below (length z.tasks)))
  unfolding bad_number
  number_fits = ltb-false (total (map (call_limit z s) (below (length z.tasks)))) s.number (or_false_right (bad_records || bad_holds || bad_ties_lem || bad_calls_lem) (bad_number z s) five)

  -- workers that hold p have columns below t
  columns_few : (p : ℕ) (ws : List Worker) → some (bad_worker z s) ws ≡ false
      → total (map (λ h. h.column) (keep (holds p) ws)) ≤ length (keep (holds p) ws) * z.t
  unfolding total keep holds some
  columns_few p [] e = omega arith
  columns_few p (h ∷ ws) e = go (columns_few p ws (or_false_right (bad_worker z s h) (some (bad_worker z s) ws) e)) (holds p h) refl
    where
      go : total (map (λ h. h.column) (keep (holds p) ws)) ≤ length (keep (holds p) ws) * z.t → (b : Bool) → holds p h ≡ b
          → total (map (λ h. h.column) (cond b (h ∷ keep (holds p) ws) (keep (holds p) ws))) ≤ length (cond b (h ∷ keep (holds p) ws) (keep (holds p) ws)) * z.t
      go ih true b =
          let busy = and_left h.busy (eqb h.task p) b in
          let few = (held_of h busy (or_false_left (bad_worker z s h) (some (bad_worker z s) ws) e)).column_fits in
          omega (arith, ih, few, suc-mul (length (keep (holds p) ws)) z.t)
      go ih false b = ih

  -- no task has had more than t + 1 calls
  calls_most : (p : ℕ) → p < length z.tasks → call_limit z s p ≤ suc z.t
  unfolding call_limit next_column
  calls_most p h = go (finished (mark (marks_of s) p)) (eqb (mark (marks_of s) p) taken) refl
    where
      go : (f b : Bool) → eqb (mark (marks_of s) p) taken ≡ b
          → cond f (suc z.t) (cond b (suc (total (map (λ h. h.column) (keep (holds p) s.workers)))) 0) ≤ suc z.t
      go true b e = omega arith
      go false true e =
          let one : length (keep (holds p) s.workers) ≡ 1 = eqb-true _ 1 (one_holder p h (eqb-true (mark (marks_of s) p) taken e)) in
          let few = columns_few p s.workers (or_false_right of_records bad_workers six) in
          let most : length (keep (holds p) s.workers) * z.t ≡ z.t = ap (λ (k : ℕ). k * z.t) one ∙ omega arith in
          omega (arith, few, most)
      go false false e = omega arith

  pub number_most : s.number ≤ length z.tasks * suc z.t
  number_most = omega (arith, number_fits, total_most (call_limit z s) (suc z.t) (length z.tasks) calls_most)

  -- ---- list entries

  -- entry x of list (i,j)
  pub entry_fits : (i j x : ℕ) → i < z.N → j < z.N → x < z.t → get_or s.buffers.lists ((i * z.N + j) * z.t + x) 0 ≤ entry_limit z i j
  unfolding damaged bad_entry
  entry_fits i j x hi hj hx =
      let at : (i * z.N + j) * z.t + x < z.N * z.N * z.t = in_block (z.N * z.N) z.t (i * z.N + j) x (in_block z.N z.N i j hi hj) hx in
      let e = fails_below (bad_entry z s) (z.N * z.N * z.t) ((i * z.N + j) * z.t + x) (or_false_right (of_records || bad_workers) bad_entries_lem fine) at in
      let f = ltb-false (entry_limit z (((i * z.N + j) * z.t + x) / z.t / z.N) (((i * z.N + j) * z.t + x) / z.t % z.N)) (get_or s.buffers.lists ((i * z.N + j) * z.t + x) 0) e in
      rw (row_of z.t (i * z.N + j) x hx, row_of z.N i j hj, column_of_lem z.N i j hj) at f
