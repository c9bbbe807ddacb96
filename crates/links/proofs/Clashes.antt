-- Which triples clash: one of the two writes a place that the other touches. Assumes nothing.
use Prim.Native.Nat.{ℕ}
use mathlib.Core.Bool.{true, ◌||◌}
use mathlib.Core.Path.{◌≡◌, refl, sym}
use mathlib.Core.Logic.{◌⊎◌, inl, inr, ◌≢◌}
use native.Mathlib.Omega.{arith}
use Rattle.model.specs.Task.{Place, A, low, list, writes, touches, among, disturbs, clash}
use Rattle.links.specs.Closed.{Key, In, task_at, Before, by_stage, by_row, by_column, Clash, same_tile, upper_tile, left_tile, down, across}
use Rattle.laws.proofs.Tests.{same_or_not, or_cases, or_left, or_right}
use Rattle.links.proofs.Numbering.{kind}
use Rattle.links.proofs.Places.{Writes, w_own, w_upper, w_list, w_low, Touches, t_own, t_upper, t_left, t_list, t_low, t_left_low, some_elim, some_intro, among_elim, writes_of, mem_writes, touches_of, of_touches, row_of, column_of_lem, sort_of}

-- ---- a place that a writes and b touches

pub data Meet (a b : Key) : Type 0 where
  own_own : a.j ≡ b.j → a.i ≡ b.i → Meet a b
  own_upper : a.j ≡ b.j → a.i ≡ b.k → Meet a b
  upper_own : a.j ≡ b.j → a.k ≡ b.i → Meet a b
  upper_upper : a.j ≡ b.j → a.k ≡ b.k → Meet a b
  own_left : a.j ≡ b.k → a.i ≡ b.i → Meet a b
  upper_left : a.j ≡ b.k → a.k ≡ b.i → b.i ≢ b.k → Meet a b

pub meet : (a b : Key) (x : Place) → Writes a x → Touches b x → Meet a b
meet a b x (w_own p) (t_own q) = own_own (omega (arith, column_of_lem p, column_of_lem q)) (omega (arith, row_of p, row_of q))
meet a b x (w_own p) (t_upper q) = own_upper (omega (arith, column_of_lem p, column_of_lem q)) (omega (arith, row_of p, row_of q))
meet a b x (w_own p) (t_left g q) = own_left (omega (arith, column_of_lem p, column_of_lem q)) (omega (arith, row_of p, row_of q))
meet a b x (w_own p) (t_list q) = absurd (omega (arith, sort_of p, sort_of q))
meet a b x (w_own p) (t_low g q) = absurd (omega (arith, sort_of p, sort_of q))
meet a b x (w_own p) (t_left_low g q) = absurd (omega (arith, sort_of p, sort_of q))
meet a b x (w_upper p) (t_own q) = upper_own (omega (arith, column_of_lem p, column_of_lem q)) (omega (arith, row_of p, row_of q))
meet a b x (w_upper p) (t_upper q) = upper_upper (omega (arith, column_of_lem p, column_of_lem q)) (omega (arith, row_of p, row_of q))
meet a b x (w_upper p) (t_left g q) = upper_left (omega (arith, column_of_lem p, column_of_lem q)) (omega (arith, row_of p, row_of q)) g
meet a b x (w_upper p) (t_list q) = absurd (omega (arith, sort_of p, sort_of q))
meet a b x (w_upper p) (t_low g q) = absurd (omega (arith, sort_of p, sort_of q))
meet a b x (w_upper p) (t_left_low g q) = absurd (omega (arith, sort_of p, sort_of q))
meet a b x (w_list f p) (t_own q) = absurd (omega (arith, sort_of p, sort_of q))
meet a b x (w_list f p) (t_upper q) = absurd (omega (arith, sort_of p, sort_of q))
meet a b x (w_list f p) (t_left g q) = absurd (omega (arith, sort_of p, sort_of q))
meet a b x (w_list f p) (t_list q) = own_left (omega (arith, f, column_of_lem p, column_of_lem q)) (omega (arith, row_of p, row_of q))
meet a b x (w_list f p) (t_low g q) = absurd (omega (arith, sort_of p, sort_of q))
meet a b x (w_list f p) (t_left_low g q) = absurd (omega (arith, sort_of p, sort_of q))
meet a b x (w_low f p) (t_own q) = absurd (omega (arith, sort_of p, sort_of q))
meet a b x (w_low f p) (t_upper q) = absurd (omega (arith, sort_of p, sort_of q))
meet a b x (w_low f p) (t_left g q) = absurd (omega (arith, sort_of p, sort_of q))
meet a b x (w_low f p) (t_list q) = absurd (omega (arith, sort_of p, sort_of q))
meet a b x (w_low f p) (t_low g q) = own_own (omega (arith, f, g, row_of p, row_of q)) (omega (arith, row_of p, row_of q))
meet a b x (w_low f p) (t_left_low g q) = own_left (omega (arith, f, g, row_of p, row_of q)) (omega (arith, f, g, row_of p, row_of q))

module _ (N : ℕ) (a b : Key) (v : In N a) (w : In N b) where
  meet_clash : Before a b → Meet a b → Clash a b
  meet_clash (by_stage h) (own_own p q) = same_tile h q p
  meet_clash (by_stage h) (own_upper p q) = upper_tile h q p
  meet_clash (by_stage h) (upper_own p q) = absurd (omega arith)
  meet_clash (by_stage h) (upper_upper p q) = absurd (omega arith)
  meet_clash (by_stage h) (own_left p q) = left_tile h q p
  meet_clash (by_stage h) (upper_left p q g) = absurd (omega arith)
  meet_clash (by_row e h) (own_own p q) = absurd (omega arith)
  meet_clash (by_row e h) (own_upper p q) = down e h p
  meet_clash (by_row e h) (upper_own p q) = absurd (omega arith)
  meet_clash (by_row e h) (upper_upper p q) = down e h p
  meet_clash (by_row e h) (own_left p q) = absurd (omega arith)
  meet_clash (by_row e h) (upper_left p q g) = absurd (omega arith)
  meet_clash (by_column e f h) (own_own p q) = absurd (omega arith)
  meet_clash (by_column e f h) (own_upper p q) = absurd (omega arith)
  meet_clash (by_column e f h) (upper_own p q) = absurd (omega arith)
  meet_clash (by_column e f h) (upper_upper p q) = absurd (omega arith)
  meet_clash (by_column e f h) (own_left p q) = across e f (omega arith) h
  meet_clash (by_column e f h) (upper_left p q g) = absurd (omega arith)

  meet_clash' : Before a b → Meet b a → Clash a b
  meet_clash' (by_stage h) (own_own p q) = same_tile h (sym q) (sym p)
  meet_clash' (by_stage h) (own_upper p q) = absurd (omega arith)
  meet_clash' (by_stage h) (upper_own p q) = upper_tile h (sym q) (sym p)
  meet_clash' (by_stage h) (upper_upper p q) = absurd (omega arith)
  meet_clash' (by_stage h) (own_left p q) = absurd (omega arith)
  meet_clash' (by_stage h) (upper_left p q g) = absurd (omega arith)
  meet_clash' (by_row e h) (own_own p q) = absurd (omega arith)
  meet_clash' (by_row e h) (own_upper p q) = absurd (omega arith)
  meet_clash' (by_row e h) (upper_own p q) = down e h (sym p)
  meet_clash' (by_row e h) (upper_upper p q) = down e h (sym p)
  meet_clash' (by_row e h) (own_left p q) = absurd (omega arith)
  meet_clash' (by_row e h) (upper_left p q g) = absurd (omega arith)
  meet_clash' (by_column e f h) (own_own p q) = absurd (omega arith)
  meet_clash' (by_column e f h) (own_upper p q) = absurd (omega arith)
  meet_clash' (by_column e f h) (upper_own p q) = absurd (omega arith)
  meet_clash' (by_column e f h) (upper_upper p q) = absurd (omega arith)
  meet_clash' (by_column e f h) (own_left p q) = absurd (omega arith)
  meet_clash' (by_column e f h) (upper_left p q g) = absurd (omega arith)

  -- a place that one of the two writes and the other touches
  pub clash_at : Before a b → (x : Place) → (Writes a x × Touches b x) ⊎ (Touches a x × Writes b x) → Clash a b
  clash_at r x (inl m) = meet_clash r (meet a b x m.0 m.1)
  clash_at r x (inr m) = meet_clash' r (meet b a x m.1 m.0)

disturbs_elim : (a b : Key) → disturbs (task_at a) (task_at b) ≡ true → (x : Place) × Writes a x × Touches b x
unfolding disturbs
disturbs_elim a b e =
    let (x, m, g) = some_elim (λ y. among y (touches (task_at b))) (writes (task_at a)) e in
    (x, writes_of a x m, touches_of b x (among_elim x (touches (task_at b)) g))

disturbs_intro : (a b : Key) (x : Place) → Writes a x → Touches b x → disturbs (task_at a) (task_at b) ≡ true
unfolding disturbs
disturbs_intro a b x w t = some_intro (λ y. among y (touches (task_at b))) x (writes (task_at a)) (mem_writes a x (task_at a) (kind a) w) (of_touches b x t)

module _ (a b : Key) where
  pub place_of_clash : Clash a b → (x : Place) × ((Writes a x × Touches b x) ⊎ (Touches a x × Writes b x))
  place_of_clash (same_tile h p q) = (A a.i a.j, inl (w_own refl, t_own (cc)))
  place_of_clash (upper_tile h p q) = (A a.i a.j, inl (w_own refl, t_upper (cc)))
  place_of_clash (left_tile h p q) = left (same_or_not b.i b.k)
    where
      left : (b.i ≡ b.k) ⊎ (b.i ≢ b.k) → (x : Place) × ((Writes a x × Touches b x) ⊎ (Touches a x × Writes b x))
      left (inl e) = (low a.i, inl (w_low (cc) refl, t_left_low e (cc)))
      left (inr e) = (A a.i a.j, inl (w_own refl, t_left e (cc)))
  place_of_clash (down e h q) = (A a.k a.j, inl (w_upper refl, t_upper (cc)))
  place_of_clash (across e f p h) = (list a.i a.k, inl (w_list p refl, t_list (cc)))

  pub of_clash : Clash a b → clash (task_at a) (task_at b) ≡ true
  unfolding clash
  of_clash c = let (x, m) = place_of_clash c in go x m
    where
      go : (x : Place) → (Writes a x × Touches b x) ⊎ (Touches a x × Writes b x) → (disturbs (task_at a) (task_at b) || disturbs (task_at b) (task_at a)) ≡ true
      go x (inl m) = or_left (disturbs (task_at a) (task_at b)) (disturbs (task_at b) (task_at a)) (disturbs_intro a b x m.0 m.1)
      go x (inr m) = or_right (disturbs (task_at a) (task_at b)) (disturbs (task_at b) (task_at a)) (disturbs_intro b a x m.1 m.0)

  pub clash_of : (N : ℕ) → In N a → In N b → Before a b → clash (task_at a) (task_at b) ≡ true → Clash a b
  unfolding clash
  clash_of N v w r e = go (or_cases (disturbs (task_at a) (task_at b)) (disturbs (task_at b) (task_at a)) e)
    where
      go : (disturbs (task_at a) (task_at b) ≡ true) ⊎ (disturbs (task_at b) (task_at a) ≡ true) → Clash a b
      go (inl q) = let (x, m, t) = disturbs_elim a b q in clash_at N a b v w r x (inl (m, t))
      go (inr q) = let (x, m, t) = disturbs_elim b a q in clash_at N a b v w r x (inr (t, m))
