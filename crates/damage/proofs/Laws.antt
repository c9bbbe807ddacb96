-- A record against the one due, and refusal 4 as its tests. Assumes nothing.
use Prim.Native.Nat.{ℕ, suc, ◌+◌, ◌-◌, ◌*◌, ◌≤◌, ◌<◌}
use mathlib.Core.Path.{◌≡◌, refl, sym, ap, ◌∙◌, subst}
use mathlib.Core.Logic.{◌⊎◌, inl, inr, ◌≢◌}
use mathlib.Core.Bool.{Bool, true, false, not, ◌&&◌, ◌||◌}
use mathlib.Core.List.{List, map}
use native.Mathlib.Omega.{arith}
use lib.Dec.{eqb, leb, ltb}
use lib.Ieee.{Float}
use lib.ListN.{length, get_or}
use Rattle.model.specs.declared.Sizes.{Sizes}
use Rattle.model.specs.declared.TaskRecord.{TaskRecord}
use Rattle.worker.specs.declared.Worker.{Worker}
use Rattle.model.specs.Limits.{most_tiles}
use Rattle.model.specs.Lists.{below, some, total}
use Rattle.model.specs.Task.{Task, kind_of, k_of, i_of, j_of, tasks}
use Rattle.model.specs.Plan.{plan, plan_of}
use Rattle.model.specs.Links.{task}
use Rattle.model.specs.Calls.{Lent, record_of, marks_of, ties_of}
use Rattle.model.specs.Refusal.{next_column, bad_record, bad_hold, tie_limit, bad_ties, bad_calls, call_limit, bad_number, bad_worker, bad_entry, damaged}
use Rattle.laws.proofs.Every.{get_d_any}
use borrow.Author.Tests.{lt-ltb, le-ltb}
use Rattle.laws.proofs.Tests.{never, or_false, false_or, some_either, same_or_not}
use Rattle.std.specs.Prelude.{Ok, Err}
use Rattle.holds.specs.declared.Limits.{Limits}
use Rattle.holds.specs.Allowed.{Allowed}
use Rattle.records.specs.Records.{records_from, ties_from, blank, crew, lent, four_bytes}
use Rattle.records.proofs.Laws.{length_records, length_crew, get_ties}
use Rattle.links.specs.Closed.{key, In, task_at, number}
use Rattle.damage.specs.Named.{name_of, name_at, Bytes}
use Rattle.links.proofs.Numbering.{task_is, at_T_1, at_T_2, at_T_3, at_T_4}
use Rattle.checks.specs.Checks.{records_alone, lists_alone, numbered}

-- ---- records

-- past the first task of a row only j grows
pub name_next : (k i j : ℕ) → k + 1 < j → name_at k i (j - 1) + 16777216 ≡ name_at k i j
unfolding record_of kind_of k_of i_of j_of
name_next k i j h = go (same_or_not i k)
  where
    now : j ≡ k → ⊥
    now e = omega arith

    then : j - 1 ≡ k → ⊥
    then e = omega arith

    go : (i ≡ k) ⊎ (i ≢ k) → name_at k i (j - 1) + 16777216 ≡ name_at k i j
    go (inl e) =
        let x : name_at k i (j - 1) ≡ four_bytes 2 k 0 (j - 1) = ap (λ (t : Task). name_of (record_of t)) (at_T_2 (key k i (j - 1)) e then) in
        let y : name_at k i j ≡ four_bytes 2 k 0 j = ap (λ (t : Task). name_of (record_of t)) (at_T_2 (key k i j) e now) in
        omega (arith, x, y)
    go (inr d) =
        let x : name_at k i (j - 1) ≡ four_bytes 4 k i (j - 1) = ap (λ (t : Task). name_of (record_of t)) (at_T_4 (key k i (j - 1)) d then) in
        let y : name_at k i j ≡ four_bytes 4 k i j = ap (λ (t : Task). name_of (record_of t)) (at_T_4 (key k i j) d now) in
        omega (arith, x, y)

pub name_bytes : (k i j : ℕ) → k < 256 → i < 256 → j < 256 → Bytes (record_of (task_at (key k i j)))
unfolding record_of kind_of k_of i_of j_of
name_bytes k i j hk hi hj = go (same_or_not i k) (same_or_not j k)
  where
    go : (i ≡ k) ⊎ (i ≢ k) → (j ≡ k) ⊎ (j ≢ k) → Bytes (record_of (task_at (key k i j)))
    go (inl e) (inl f) = subst (λ (t : Task). Bytes (record_of t)) (sym (at_T_1 (key k i j) e f)) (record { kind_fits = omega arith; k_fits = hk; i_fits = omega arith; j_fits = omega arith })
    go (inl e) (inr f) = subst (λ (t : Task). Bytes (record_of t)) (sym (at_T_2 (key k i j) e f)) (record { kind_fits = omega arith; k_fits = hk; i_fits = omega arith; j_fits = hj })
    go (inr e) (inl f) = subst (λ (t : Task). Bytes (record_of t)) (sym (at_T_3 (key k i j) e f)) (record { kind_fits = omega arith; k_fits = hk; i_fits = hi; j_fits = omega arith })
    go (inr e) (inr f) = subst (λ (t : Task). Bytes (record_of t)) (sym (at_T_4 (key k i j) e f)) (record { kind_fits = omega arith; k_fits = hk; i_fits = hi; j_fits = hj })

-- the number of the task before, by the numbering
pub name_before : (N k i j p : ℕ) → In N (key k i j) → number N (key k i j) ≡ p → k + 1 < j → (due : ℕ)
    → ((q : ℕ) → suc q ≡ p → due ≡ name_of (record_of (task (tasks N) q))) → due ≡ name_at k i (j - 1)
unfolding number
name_before N k i j p v e h due f =
    let q : ℕ = number N (key k i (j - 1)) in
    let w : In N (key k i (j - 1)) = record { row = v.row; column = omega arith; row_fits = v.row_fits; column_fits = omega (arith, v.column_fits) } in
    f q (unfold number in omega (arith, e, h)) ∙ ap (λ (t : Task). name_of (record_of t)) (task_is N (key k i (j - 1)) w)

-- the record found is not the one due, or its mark exceeds 4
abbrev pub apart : TaskRecord → TaskRecord → Bool
apart found due =
    not (eqb found.kind due.kind && eqb found.k due.k && eqb found.i due.i && eqb found.j due.j && leb found.mark 4)

-- the task with the number p is that of its triple, so the record due is that triple's
pub record_bad : (z : Sizes) (r : List (List ℕ)) (p k i j : ℕ) → p < length r → In z.tiles (key k i j) → number z.tiles (key k i j) ≡ p
    → (found due : TaskRecord) → found ≡ get_or (records_from r) p blank → due ≡ record_of (task_at (key k i j))
    → (v : Bool) → v ≡ apart found due → (h : List Worker) (n : ℕ) → v ≡ bad_record (plan_of z) (numbered r h z.workers n) p
unfolding bad_record lent plan record_of
record_bad z r p k i j l w m found due f d v e h n =
    let a : task (tasks z.tiles) p ≡ task_at (key k i j) = rw m at (task_is z.tiles (key k i j) w) in
    let due_is : due ≡ record_of (task (tasks z.tiles) p) = d ∙ ap record_of (sym a) in
    let found_is : found ≡ get_or (records_from r) p (record_of (task (tasks z.tiles) p)) =
    f ∙ get_d_any (records_from r) p blank (record_of (task (tasks z.tiles) p)) (rw length_records l) in
    e ∙ ap (λ x. apart x due) found_is ∙ ap (apart (get_or (records_from r) p (record_of (task (tasks z.tiles) p)))) due_is

-- a call number of the record found is above n, or its worker isn't below W
abbrev pub overdue : TaskRecord → ℕ → ℕ → Bool
overdue found n W = not (leb found.took n && leb found.ended n && ltb found.worker W)

-- ---- all tests of task p

-- four tests, of which the code makes the outer two first
first_bad : (x y u v : Bool) → (x || v) ≡ true → (((x || y) || u) || v) ≡ true
first_bad true y u v e = refl
first_bad false y u false e = never e refl
first_bad false true u true e = refl
first_bad false false true true e = refl
first_bad false false false true e = refl

second_bad : (x y u v : Bool) → (y || u) ≡ true → (((x || y) || u) || v) ≡ true
second_bad true y u v e = refl
second_bad false true u v e = refl
second_bad false false true v e = refl
second_bad false false false v e = never e refl

none_bad : (x y u v : Bool) → (x || v) ≡ false → (y || u) ≡ false → (((x || y) || u) || v) ≡ false
none_bad x y u v e f =
    let a = or_false x v e in
    let b = or_false y u f in
    false_or ((x || y) || u) v (false_or (x || y) u (false_or x y a.0 b.0) b.1) a.1

module _ (z : Sizes) (r : List (List ℕ)) (h : List Worker) (n : ℕ) where
  abbrev pub state : Lent
  state = numbered r h z.workers n

  abbrev pub bad : ℕ → Bool
  bad p = ((bad_record (plan_of z) state p || bad_hold (plan_of z) state p) || bad_ties (plan_of z) state p) || bad_calls (plan_of z) state p

  pub calls_bad : (p : ℕ) → p < length r → (found : TaskRecord) → found ≡ get_or (records_from r) p blank → (v : Bool) → v ≡ overdue found n z.workers
      → v ≡ bad_calls (plan_of z) state p
  unfolding bad_calls lent plan
  calls_bad p l found f v e =
      e ∙ (λ i. overdue (found_is i) n (sym (length_crew h z.workers) i))
    where
      found_is : found ≡ get_or (records_from r) p (record_of (task (tasks z.tiles) p))
      found_is = f ∙ get_d_any (records_from r) p blank (record_of (task (tasks z.tiles) p)) (rw length_records l)

  -- a taken task that is not held by one worker
  pub not_held : (p : ℕ) (m : Limits) → Allowed z r h p (Err m) → bad_hold (plan_of z) state p ≡ true
  unfolding bad_hold lent marks_of
  not_held p m a = sym a.as_marked

  -- by the limits of task p
  module _ (p : ℕ) (m : Limits) (a : Allowed z r h p (Ok m)) where
    hold_by : false ≡ bad_hold (plan_of z) state p
    unfolding bad_hold lent marks_of
    hold_by = a.as_marked

    ties_by : (found : TaskRecord) → found ≡ get_or (records_from r) p blank → ltb m.ties found.ties ≡ bad_ties (plan_of z) state p
    unfolding bad_ties tie_limit next_column lent marks_of ties_of ties_from
    ties_by found f =
        let k : found.ties ≡ get_or (ties_from r) p 0 = ap (λ (x : TaskRecord). x.ties) f ∙ sym (get_ties r p) in
        λ i. ltb (a.limits.ties i) (k i)

    pub calls_by : m.calls ≡ call_limit (plan_of z) state p
    unfolding call_limit next_column lent marks_of
    calls_by = a.limits.calls

  abbrev pub outer : ℕ → Bool
  outer p = bad_record (plan_of z) state p || bad_calls (plan_of z) state p

  abbrev pub inner : ℕ → Bool
  inner p = bad_hold (plan_of z) state p || bad_ties (plan_of z) state p

  -- the tests as the code makes them, first the outer two and then, by the limits, the inner two
  pub outer_tested : (p k i j : ℕ) → p < length r → z.tiles ≤ most_tiles → In z.tiles (key k i j) → number z.tiles (key k i j) ≡ p
      → (found : TaskRecord) → found ≡ get_or (records_from r) p blank → (due : ℕ) → due ≡ name_at k i j
      → (v w : Bool) → ((task : TaskRecord) → Bytes task → due ≡ name_of task → v ≡ apart found task) → w ≡ overdue found n z.workers → (v || w) ≡ outer p
  outer_tested p k i j long few small m found f due d v w differs over =
      let bytes : Bytes (record_of (task_at (key k i j))) = name_bytes k i j (omega (arith, small.row, small.row_fits, few)) (omega (arith, small.row_fits, few)) (omega (arith, small.column_fits, few)) in
      let x = record_bad z r p k i j long small m found (record_of (task_at (key k i j))) f refl v (differs (record_of (task_at (key k i j))) bytes d) h n in
      let y = calls_bad p long found f w over in
      λ q. x q || y q

  inner_tested : (p : ℕ) (m : Limits) → Allowed z r h p (Ok m) → (found : TaskRecord) → found ≡ get_or (records_from r) p blank → ltb m.ties found.ties ≡ inner p
  inner_tested p m a found f =
      let x = hold_by p m a in
      let y = ties_by p m a found f in
      λ q. x q || y q

  pub inner_above : (p : ℕ) (m : Limits) → Allowed z r h p (Ok m) → (found : TaskRecord) → found ≡ get_or (records_from r) p blank → m.ties < found.ties → inner p ≡ true
  inner_above p m a found f l = sym (inner_tested p m a found f) ∙ lt-ltb m.ties found.ties l

  pub inner_within : (p : ℕ) (m : Limits) → Allowed z r h p (Ok m) → (found : TaskRecord) → found ≡ get_or (records_from r) p blank → found.ties ≤ m.ties → inner p ≡ false
  inner_within p m a found f l = sym (inner_tested p m a found f) ∙ le-ltb m.ties found.ties l

  pub inner_not_held : (p : ℕ) (m : Limits) → Allowed z r h p (Err m) → inner p ≡ true
  inner_not_held p m a = rw (not_held p m a)

  pub bad_outer : (p : ℕ) → outer p ≡ true → bad p ≡ true
  bad_outer p e = first_bad (bad_record (plan_of z) state p) (bad_hold (plan_of z) state p) (bad_ties (plan_of z) state p) (bad_calls (plan_of z) state p) e

  pub bad_inner : (p : ℕ) → inner p ≡ true → bad p ≡ true
  bad_inner p e = second_bad (bad_record (plan_of z) state p) (bad_hold (plan_of z) state p) (bad_ties (plan_of z) state p) (bad_calls (plan_of z) state p) e

  pub not_bad : (p : ℕ) → outer p ≡ false → inner p ≡ false → bad p ≡ false
  not_bad p e f = none_bad (bad_record (plan_of z) state p) (bad_hold (plan_of z) state p) (bad_ties (plan_of z) state p) (bad_calls (plan_of z) state p) e f

  -- the whole is the four searches
  four : (xs : List ℕ) → some bad xs
      ≡ (((some (bad_record (plan_of z) state) xs || some (bad_hold (plan_of z) state) xs) || some (bad_ties (plan_of z) state) xs) || some (bad_calls (plan_of z) state) xs)
  four xs =
      some_either (λ p. (bad_record (plan_of z) state p || bad_hold (plan_of z) state p) || bad_ties (plan_of z) state p) (bad_calls (plan_of z) state) xs
      ∙ ap (λ (x : Bool). x || some (bad_calls (plan_of z) state) xs)
      (some_either (λ p. bad_record (plan_of z) state p || bad_hold (plan_of z) state p) (bad_ties (plan_of z) state) xs
      ∙ ap (λ (x : Bool). x || some (bad_ties (plan_of z) state) xs) (some_either (bad_record (plan_of z) state) (bad_hold (plan_of z) state) xs))

  abbrev all : Bool
  all = some bad (below (length (tasks z.tiles)))

  -- a task is bad, or none is and the number decides
  pub found_bad : true ≡ all
      → true ≡ ((((some (bad_record (plan_of z) state) (below (length (tasks z.tiles))) || some (bad_hold (plan_of z) state) (below (length (tasks z.tiles))))
      || some (bad_ties (plan_of z) state) (below (length (tasks z.tiles)))) || some (bad_calls (plan_of z) state) (below (length (tasks z.tiles)))) || bad_number (plan_of z) state)
  found_bad e = ap (λ (b : Bool). b || bad_number (plan_of z) state) (e ∙ four (below (length (tasks z.tiles))))

  pub found_none : false ≡ all → (calls : ℕ) → calls ≡ total (map (call_limit (plan_of z) state) (below (length (tasks z.tiles))))
      → ltb calls n ≡ ((((some (bad_record (plan_of z) state) (below (length (tasks z.tiles))) || some (bad_hold (plan_of z) state) (below (length (tasks z.tiles))))
      || some (bad_ties (plan_of z) state) (below (length (tasks z.tiles)))) || some (bad_calls (plan_of z) state) (below (length (tasks z.tiles)))) || bad_number (plan_of z) state)
  unfolding bad_number lent plan
  found_none e calls f = ap (λ (k : ℕ). ltb k n) f ∙ ap (λ (b : Bool). b || bad_number (plan_of z) state) (e ∙ four (below (length (tasks z.tiles))))

-- ---- all of it

module _ (z : Sizes) (m : List Float) (l : List ℕ) (r : List (List ℕ)) (h : List Worker) (n : ℕ) where
  abbrev W : ℕ
  W = z.workers

  abbrev pub records : Bool
  records = (((some (bad_record (plan_of z) (numbered r h W n)) (below (length (tasks z.tiles))) || some (bad_hold (plan_of z) (numbered r h W n)) (below (length (tasks z.tiles))))
      || some (bad_ties (plan_of z) (numbered r h W n)) (below (length (tasks z.tiles)))) || some (bad_calls (plan_of z) (numbered r h W n)) (below (length (tasks z.tiles))))
      || bad_number (plan_of z) (numbered r h W n)

  abbrev pub workers : Bool
  workers = some (bad_worker (plan_of z) (records_alone r)) (crew h W)

  abbrev pub entries : Bool
  entries = some (bad_entry (plan_of z) (lists_alone l)) (below (z.tiles * z.tiles * z.side))

  parts : damaged (plan_of z) (lent m l r h W n) ≡ ((records || workers) || entries)
  unfolding damaged bad_record bad_hold bad_ties tie_limit bad_calls call_limit bad_number next_column bad_worker bad_entry lent plan marks_of ties_of
  parts = refl

  pub damaged_1 : (a : Bool) → a ≡ records → a ≡ true → true ≡ damaged (plan_of z) (lent m l r h W n)
  damaged_1 a e q = rw (parts, sym e ∙ q)

  module _ (a : Bool) (e : a ≡ records) (q : a ≡ false) where
    pub damaged_2 : (b : Bool) → b ≡ workers → b ≡ true → true ≡ damaged (plan_of z) (lent m l r h W n)
    damaged_2 b f p = rw (parts, sym e ∙ q, sym f ∙ p)

    pub damaged_3 : (b c : Bool) → b ≡ workers → b ≡ false → c ≡ entries → c ≡ damaged (plan_of z) (lent m l r h W n)
    damaged_3 b c f p g = rw (parts, sym e ∙ q, sym f ∙ p) g
