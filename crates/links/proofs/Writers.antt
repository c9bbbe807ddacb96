-- The latest writer of what a task touches. Assumes nothing.
use Prim.Native.Nat.{ℕ, ◌-◌, ◌≤◌, ◌<◌}
use mathlib.Core.Bool.{true}
use mathlib.Core.Path.{◌≡◌, refl}
use mathlib.Core.Logic.{◌⊎◌, inl, inr, ◌≢◌}
use native.Mathlib.Omega.{arith}
use Rattle.model.specs.Task.{Place, A, low, list, writes, tasks, task_count}
use Rattle.model.specs.Links.{writer}
use Rattle.links.specs.Closed.{Key, key, In, task_at, number, key_at, Before, by_stage, by_row, by_column, Last, last_own, last_upper, last_left, last_list, last_own_low, last_left_low}
use Rattle.laws.proofs.Tests.{same_or_not}
use Rattle.links.proofs.Numbering.{task_is}
use Rattle.links.proofs.Order.{back, number_fits, number_mono, before_of_number, Line, ahead, level, behind, line}
use Rattle.links.proofs.Places.{among_elim, writes_of, of_writes, FromWrites, from_writes, Writes, w_own, w_upper, w_list, w_low, Touches, t_own, t_upper, t_left, t_list, t_low, t_left_low, row_of, column_of_lem, sort_of}

-- the order by cases, for omega to prove
abbrev FromBefore : Key → Key → Type 0 → Type 0
FromBefore a b P = (a.k < b.k → P) × (a.k ≡ b.k → a.i < b.i → P) × (a.k ≡ b.k → a.i ≡ b.i → a.j < b.j → P)

from_before : {P : Type 0} (a b : Key) → FromBefore a b P → Before a b → P
from_before a b f (by_stage h) = f.0 h
from_before a b f (by_row e h) = f.1 e h
from_before a b f (by_column e g h) = f.2 e g h

module _ (a b : Key) where
  before_stage : Before a b → a.k ≤ b.k
  before_stage = from_before a b (omega arith)

  before_row : Before a b → a.k ≡ b.k → a.i ≤ b.i
  before_row = from_before a b (omega arith)

  before_below : Before a b → a.k ≡ b.k → a.j ≡ b.j → a.i < b.i
  before_below = from_before a b (omega arith)

  before_at_tile : Before a b → a.i ≡ b.i → a.j ≡ b.j → a.k < b.k
  before_at_tile = from_before a b (omega arith)

-- ---- the closed form's writer writes x before b, b touches x, and no task between writes x

module _ (N : ℕ) (a b : Key) (v : In N a) (w : In N b) (x : Place) where
  pub last_writes : Last a b x → Writes a x
  last_writes (last_own p e f g) = w_own (cc)
  last_writes (last_upper p e f g) = w_upper (cc)
  last_writes (last_left p e f g h o) = w_own (cc)
  last_writes (last_list p e f g h) = w_list (omega arith) (cc)
  last_writes (last_own_low p o e f g) = w_low (omega arith) (cc)
  last_writes (last_left_low p o e f g h) = w_low (omega arith) (cc)

  pub last_touches : Last a b x → Touches b x
  last_touches (last_own p e f g) = t_own p
  last_touches (last_upper p e f g) = t_upper p
  last_touches (last_left p e f g h o) = t_left (λ q. omega arith) p
  last_touches (last_list p e f g h) = t_list p
  last_touches (last_own_low p o e f g) = t_low o p
  last_touches (last_left_low p o e f g h) = t_left_low o p

  pub last_before : Last a b x → Before a b
  last_before (last_own p e f g) = by_stage (omega arith)
  last_before (last_upper p e f g) = by_row e (omega arith)
  last_before (last_left p e f g h o) = by_column e f (omega arith)
  last_before (last_list p e f g h) = by_column e f (omega arith)
  last_before (last_own_low p o e f g) = by_stage (omega arith)
  last_before (last_left_low p o e f g h) = by_column e (omega arith) (omega arith)

  -- no task between writes x
  pub last_alone : Last a b x → (r : Key) → In N r → Writes r x → Before a r → Before r b → ⊥
  last_alone l r u c d d' = from_writes r x (go (before_stage a r d) (before_stage r b d') l) c
    where
      go : a.k ≤ r.k → r.k ≤ b.k → Last a b x → FromWrites r x ⊥
      go m n (last_own p e f g) =
          let y = row_of p in
          let z = column_of_lem p in (
            λ s o q. omega (arith, before_at_tile a r d (omega arith) (omega arith), before_at_tile r b d' (omega arith) (omega arith)),
            λ s o q. omega (arith, before_below r b d' (omega arith) (omega arith)),
            omega (arith, sort_of p),
            omega (arith, sort_of p),
          )
      go m n (last_upper p e f g) =
          let y = row_of p in
          let z = column_of_lem p in (
            λ s o q. omega (arith, before_below a r d (omega arith) (omega arith)),
            λ s o q. omega (arith, before_below a r d (omega arith) (omega arith), before_below r b d' (omega arith) (omega arith)),
            omega (arith, sort_of p),
            omega (arith, sort_of p),
          )
      go m n (last_left p e f g h o) =
          let y = row_of p in
          let z = column_of_lem p in (
            λ s o q. omega (arith, before_at_tile a r d (omega arith) (omega arith)),
            λ s o q. omega (arith, before_below a r d (omega arith) (omega arith), before_row r b d' (omega arith)),
            omega (arith, sort_of p),
            omega (arith, sort_of p),
          )
      go m n (last_list p e f g h) =
          let y = row_of p in
          let z = column_of_lem p in
          (omega (arith, sort_of p), omega (arith, sort_of p), λ i s o q. omega (arith, before_at_tile a r d (omega arith) (omega arith)), omega (arith, sort_of p))
      go m n (last_own_low p o e f g) =
          let y = row_of p in (
            omega (arith, sort_of p),
            omega (arith, sort_of p),
            omega (arith, sort_of p),
            λ i s l. omega (arith, before_at_tile a r d (omega arith) (omega arith), before_at_tile r b d' (omega arith) (omega arith)),
          )
      go m n (last_left_low p o e f g h) =
          let y = row_of p in
          (omega (arith, sort_of p), omega (arith, sort_of p), omega (arith, sort_of p), λ i s l. omega (arith, before_at_tile a r d (omega arith) (omega arith)))

-- ---- what a task touches has the closed form's latest writer, or none

module _ (N : ℕ) (b : Key) (w : In N b) (x : Place) where
  abbrev Unwritten : Type 0
  Unwritten = (a : Key) → In N a → Writes a x → Before a b → ⊥

  -- in the first stage nothing has written b's own tile
  none_own : x ≡ A b.i b.j → b.k ≡ 0 → Unwritten
  none_own p o a v c d = from_before a b (from_writes a x (omega (arith, sort_of p, row_of p, column_of_lem p)) c) d

  -- and nothing writes a row list before its T-1 or T-3
  none_list : x ≡ list b.i b.k → b.j ≡ b.k → Unwritten
  none_list p o a v c d = from_before a b (from_writes a x (omega (arith, sort_of p, row_of p, column_of_lem p)) c) d

  none_low : x ≡ low b.i → b.i ≡ b.j → b.k ≡ 0 → Unwritten
  none_low p q o a v c d = from_before a b (from_writes a x (omega (arith, sort_of p, row_of p)) c) d

  abbrev Found : Type 0
  Found = ((a : Key) × In N a × Last a b x) ⊎ Unwritten

  find_own : x ≡ A b.i b.j → Found
  find_own p = go (same_or_not b.k 0)
    where
      go : (b.k ≡ 0) ⊎ (b.k ≢ 0) → Found
      go (inl o) = inr (none_own p o)
      go (inr o) = inl (key (b.k - 1) b.i b.j, omega arith, last_own p (omega arith) refl refl)

  find_low : x ≡ low b.i → b.i ≡ b.j → Found
  find_low p q = go (same_or_not b.k 0)
    where
      go : (b.k ≡ 0) ⊎ (b.k ≢ 0) → Found
      go (inl o) = inr (none_low p q o)
      go (inr o) = inl (key (b.k - 1) b.i b.j, omega arith, last_own_low p q (omega arith) refl refl)

  find : Touches b x → Found
  find (t_own p) = find_own p
  find (t_upper p) = go (same_or_not b.i b.k)
    where
      go : (b.i ≡ b.k) ⊎ (b.i ≢ b.k) → Found
      go (inl o) = find_own (cc)
      go (inr o) = inl (key b.k (b.i - 1) b.j, omega arith, last_upper p refl (omega arith) refl)
  find (t_left n p) = go (same_or_not b.j b.k)
    where
      go : (b.j ≡ b.k) ⊎ (b.j ≢ b.k) → Found
      go (inl o) = find_own (cc)
      go (inr o) = inl (key b.k b.i b.k, omega arith, last_left p refl refl refl (omega arith) (omega arith))
  find (t_list p) = go (same_or_not b.j b.k)
    where
      go : (b.j ≡ b.k) ⊎ (b.j ≢ b.k) → Found
      go (inl o) = inr (none_list p o)
      go (inr o) = inl (key b.k b.i b.k, omega arith, last_list p refl refl refl (omega arith))
  find (t_low q p) = find_low p q
  find (t_left_low q p) = go (same_or_not b.j b.k)
    where
      go : (b.j ≡ b.k) ⊎ (b.j ≢ b.k) → Found
      go (inl o) = find_low (cc) (omega arith)
      go (inr o) = inl (key b.k b.k b.k, omega arith, last_left_low p q refl refl refl (omega arith))

  -- the latest writer before b of what b touches is the closed form's
  pub latest_last : Touches b x → (a : Key) → In N a → Writes a x → Before a b → ((r : Key) → In N r → Writes r x → Before a r → Before r b → ⊥) → Last a b x
  latest_last t a v c h alone = go (find t)
    where
      go : Found → Last a b x
      go (inr none) = absurd (none a v c h)
      go (inl f) = let (m, u, l) = f in pick m u l (line a m)
        where
          pick : (m : Key) → In N m → Last m b x → Line a m → Last a b x
          pick m u l (ahead r) = absurd (alone m u (last_writes N m b u w x l) r (last_before N m b u w x l))
          pick m u l (level e) = rw e l
          pick m u l (behind r) = absurd (last_alone N m b u w x l a v c r h)

-- ---- on numbers

module _ (N : ℕ) where
  pub writes_at : (a : Key) → In N a → (x : Place) → writer (tasks N) x (number N a) ≡ true → Writes a x
  unfolding writer
  writes_at a v x e = writes_of a x (among_elim x (writes (task_at a)) (rw (task_is N a v) at e))

  pub at_writes : (a : Key) → In N a → (x : Place) → Writes a x → writer (tasks N) x (number N a) ≡ true
  unfolding writer
  at_writes a v x c = rw (task_is N a v) (of_writes a x c)

  -- task q is the latest below p that writes x
  pub record Latest (x : Place) (q p : ℕ) : Type 0 where
    pub earlier : q < p
    pub wrote : writer (tasks N) x q ≡ true
    pub alone : (r : ℕ) → q < r → r < p → writer (tasks N) x r ≡ true → ⊥

  module _ (x : Place) (a b : Key) (v : In N a) (w : In N b) where
    pub last_of : Touches b x → Latest x (number N a) (number N b) → Last a b x
    last_of t l =
        latest_last N b w x t a v (writes_at a v x l.wrote) (before_of_number N a b v w l.earlier)
        (λ r u c h k. l.alone (number N r) (number_mono N a r v u h) (number_mono N r b u w k) (at_writes r u x c))

    pub of_last : Last a b x → Latest x (number N a) (number N b)
    of_last l = record {
      earlier = number_mono N a b v w (last_before N a b v w x l);
      wrote = at_writes a v x (last_writes N a b v w x l);
      alone = between (number_fits N b w);
    }
      where
        between : number N b < task_count N → (r : ℕ) → number N a < r → r < number N b → writer (tasks N) x r ≡ true → ⊥
        between fits r h k e =
            let (u, q) = back N r (omega arith) in
            last_alone N a b v w x l (key_at N r) u (writes_at (key_at N r) u x (rw q e)) (before_of_number N a (key_at N r) v u (rw q h)) (before_of_number N (key_at N r) b u w (rw q k))
