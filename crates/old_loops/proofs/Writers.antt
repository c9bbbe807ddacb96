-- The latest writers of what a task touches are the same tasks where a diagonal tile is one thing: those that are linked to it. Assumes nothing.
use Prim.Native.Nat.{ℕ, suc, ◌-◌, ◌<◌}
use mathlib.Core.Bool.{Bool, true, false, not, cond, ◌&&◌}
use mathlib.Core.Path.{◌≡◌, refl, sym, ◌∙◌, subst}
use mathlib.Core.Logic.{◌⊎◌, inl, inr, ◌≢◌}
use mathlib.Core.List.{List, [], ◌∷◌}
use native.Mathlib.Omega.{arith}
use lib.Dec.{eqb}
use borrow.Author.Tests.{ne_eqb}
use Rattle.model.specs.Lists.{some}
use Rattle.model.specs.Task.{Task, t_1, t_2, t_3, t_4, Place, A, low, list, low_of, same, among, writes, tasks}
use Rattle.model.specs.Links.{task, between, writer, latest_writer}
use Rattle.model.specs.Old.{old_reads, old_writes, old_touches, old_writer, old_latest_writer, old_latest_writers}
use Rattle.laws.proofs.Searches.{some_cong}
use Rattle.links.specs.Closed.{Key, key, In, task_at, number, Before, by_stage, by_row, by_column, Linked, row_first, links_at}
use Rattle.links.proofs.Numbering.{Kind, is_T_1, is_T_2, is_T_3, is_T_4, kind, task_is}
use Rattle.links.proofs.Order.{number_mono, before_of_number}
use Rattle.links.proofs.Places.{OneOf, some_elim, some_intro, one_left, one_cases, Writes, w_own, w_upper, w_list, w_low, Touches, t_own, t_upper, t_left, t_list, t_low, t_left_low, row_of, column_of_lem, sort_of}
use Rattle.links.proofs.Writers.{writes_at, at_writes, Latest, last_of, of_last, last_touches}
use Rattle.links.proofs.Direct.{last_linked, linked_last, kept, latest_of, of_latest}

-- ---- a tile or a list has the same writers, wherever the strictly lower part is written beside it

abbrev Whole : Place → Type 0
Whole x = x.sort ≢ 2

not_low : (x : Place) (k : ℕ) → Whole x → same x (low k) ≡ false
unfolding same
not_low x k h = rw (ne_eqb x.sort 2 h)

not_low_of : (x : Place) (i j : ℕ) → Whole x → some (same x) (low_of i j) ≡ false
unfolding low_of some
not_low_of x i j h = go (eqb i j)
  where
    go : (b : Bool) → some (same x) (cond b (low i ∷ []) []) ≡ false
    go true = rw (not_low x i h)
    go false = refl

same_writes : (x : Place) → Whole x → (a : Task) → among x (writes a) ≡ among x (old_writes a)
unfolding among some writes old_writes
same_writes x h (t_1 k) = rw (not_low x k h)
same_writes x h (t_2 k j) = refl
same_writes x h (t_3 k i) = refl
same_writes x h (t_4 k i j) = rw (not_low_of x i j h)

same_writer : (ts : List Task) (x : Place) → Whole x → (q : ℕ) → writer ts x q ≡ old_writer ts x q
unfolding writer old_writer
same_writer ts x h q = same_writes x h (task ts q)

same_latest : (ts : List Task) (x : Place) → Whole x → (p q : ℕ) → latest_writer ts x p q ≡ old_latest_writer ts x p q
unfolding latest_writer old_latest_writer between
same_latest ts x h p q = λ i. same_writer ts x h q i && not (some_cong (writer ts x) (old_writer ts x) (suc q) (p - suc q) (λ r l m. same_writer ts x h r) i)

-- ---- what a task touches as tiles and lists: what its triple touches, and the diagonal tile that a T-2 reads

tile_whole : {x : Place} {i j : ℕ} → x ≡ A i j → Whole x
tile_whole e h = omega (arith, sort_of e)

list_whole : {x : Place} {i j : ℕ} → x ≡ list i j → Whole x
list_whole e h = omega (arith, sort_of e)

record Diagonal (a : Key) (x : Place) : Type 0 where
  row : a.i ≡ a.k
  column : a.j ≢ a.k
  place : x ≡ A a.k a.k

module _ (a : Key) (x : Place) where
  abbrev Touched : Type 0
  Touched = Whole x × (Touches a x ⊎ Diagonal a x)

  read_of : (t : Task) → Kind a t → OneOf x (old_reads t) → Touched
  unfolding old_reads
  read_of t (is_T_1 e f) = go
    where
      go : OneOf x (A a.k a.k ∷ list a.k a.k ∷ []) → Touched
      go (inl q) = (tile_whole q, inl (t_own (cc)))
      go (inr (inl q)) = (list_whole q, inl (t_list (cc)))
      go (inr (inr q)) = absurd q
  read_of t (is_T_2 e f) = go
    where
      go : OneOf x (A a.k a.k ∷ list a.k a.k ∷ A a.k a.j ∷ []) → Touched
      go (inl q) = (tile_whole q, inr (record { row = e; column = f; place = q }))
      go (inr (inl q)) = (list_whole q, inl (t_list (cc)))
      go (inr (inr (inl q))) = (tile_whole q, inl (t_upper q))
      go (inr (inr (inr q))) = absurd q
  read_of t (is_T_3 e f) = go
    where
      go : OneOf x (A a.k a.k ∷ A a.i a.k ∷ list a.i a.k ∷ []) → Touched
      go (inl q) = (tile_whole q, inl (t_upper (cc)))
      go (inr (inl q)) = (tile_whole q, inl (t_left e q))
      go (inr (inr (inl q))) = (list_whole q, inl (t_list q))
      go (inr (inr (inr q))) = absurd q
  read_of t (is_T_4 e f) = go
    where
      go : OneOf x (A a.i a.k ∷ list a.i a.k ∷ A a.k a.j ∷ A a.i a.j ∷ []) → Touched
      go (inl q) = (tile_whole q, inl (t_left e q))
      go (inr (inl q)) = (list_whole q, inl (t_list q))
      go (inr (inr (inl q))) = (tile_whole q, inl (t_upper q))
      go (inr (inr (inr (inl q)))) = (tile_whole q, inl (t_own q))
      go (inr (inr (inr (inr q)))) = absurd q

  -- a task reads all that it writes
  written_read : (t : Task) → OneOf x (old_writes t) → OneOf x (old_reads t)
  unfolding old_writes old_reads
  written_read (t_1 k) m = m
  written_read (t_2 k j) m = inr (inr m)
  written_read (t_3 k i) m = m
  written_read (t_4 k i j) m = inr (inr m)

  touched : OneOf x (old_touches (task_at a)) → Touched
  unfolding old_touches
  touched m = go (one_cases x (old_reads (task_at a)) (old_writes (task_at a)) m)
    where
      go : OneOf x (old_reads (task_at a)) ⊎ OneOf x (old_writes (task_at a)) → Touched
      go (inl r) = read_of (task_at a) (kind a) r
      go (inr w) = read_of (task_at a) (kind a) (written_read (task_at a) w)

  -- and the tiles and lists that its triple touches are among them
  of_read : (t : Task) → Kind a t → Whole x → Touches a x → OneOf x (old_reads t)
  unfolding old_reads
  of_read t k h (t_low g q) = absurd (h (sort_of q))
  of_read t k h (t_left_low g q) = absurd (h (sort_of q))
  of_read t (is_T_1 e f) h (t_own q) = inl (cc)
  of_read t (is_T_1 e f) h (t_upper q) = inl (cc)
  of_read t (is_T_1 e f) h (t_left g q) = absurd (g e)
  of_read t (is_T_1 e f) h (t_list q) = inr (inl (cc))
  of_read t (is_T_2 e f) h (t_own q) = inr (inr (inl (cc)))
  of_read t (is_T_2 e f) h (t_upper q) = inr (inr (inl q))
  of_read t (is_T_2 e f) h (t_left g q) = absurd (g e)
  of_read t (is_T_2 e f) h (t_list q) = inr (inl (cc))
  of_read t (is_T_3 e f) h (t_own q) = inr (inl (cc))
  of_read t (is_T_3 e f) h (t_upper q) = inl (cc)
  of_read t (is_T_3 e f) h (t_left g q) = inr (inl q)
  of_read t (is_T_3 e f) h (t_list q) = inr (inr (inl q))
  of_read t (is_T_4 e f) h (t_own q) = inr (inr (inr (inl q)))
  of_read t (is_T_4 e f) h (t_upper q) = inr (inr (inl q))
  of_read t (is_T_4 e f) h (t_left g q) = inl q
  of_read t (is_T_4 e f) h (t_list q) = inr (inl q)

  of_touched : Whole x → Touches a x → OneOf x (old_touches (task_at a))
  unfolding old_touches
  of_touched h t = one_left x (old_reads (task_at a)) (old_writes (task_at a)) (of_read (task_at a) (kind a) h t)

-- ---- the latest writers

-- the last before a T-2 to write the diagonal tile is the stage's T-1
first_writer : (N : ℕ) (a b : Key) → In N a → In N b → b.i ≡ b.k → b.j ≢ b.k → Writes a (A b.k b.k) → Before a b
    → (Before a (key b.k b.k b.k) → ⊥) → Linked a b
first_writer N a b v w e f (w_own q) (by_stage h) n = absurd (n (by_stage h))
first_writer N a b v w e f (w_own q) (by_row g h) n = absurd (omega (arith, row_of q))
first_writer N a b v w e f (w_own q) (by_column g l h) n = row_first g l (omega (arith, column_of_lem q)) (omega (arith, f))
first_writer N a b v w e f (w_upper q) (by_stage h) n = absurd (n (by_stage h))
first_writer N a b v w e f (w_upper q) (by_row g h) n = absurd (omega (arith, row_of q))
first_writer N a b v w e f (w_upper q) (by_column g l h) n = row_first g l (omega (arith, column_of_lem q)) (omega (arith, f))
first_writer N a b v w e f (w_list g q) d n = let z : ◌≡◌ {A = ℕ} 0 1 = sort_of q in absurd (omega arith)
first_writer N a b v w e f (w_low g q) d n = let z : ◌≡◌ {A = ℕ} 0 2 = sort_of q in absurd (omega arith)

module _ (N : ℕ) (b : Key) (w : In N b) where
  diagonal_linked : (a : Key) → In N a → (x : Place) → Diagonal b x → Latest N x (number N a) (number N b) → Linked a b
  diagonal_linked a v x d l =
      first_writer N a b v w d.row d.column (subst (Writes a) d.place (writes_at N a v x l.wrote)) (before_of_number N a b v w l.earlier)
      (λ h. l.alone (number N top) (number_mono N a top v inside h) (number_mono N top b inside w (by_column refl (sym d.row) (omega (arith, d.column))))
      (at_writes N top inside x (w_own d.place)))
    where
      top : Key
      top = key b.k b.k b.k

      inside : In N (key b.k b.k b.k)
      inside = omega arith

  pub writers_are : old_latest_writers (tasks N) (number N b) ≡ links_at N b
  unfolding old_latest_writers
  writers_are = kept N b w (λ p. some (λ x. old_latest_writer (tasks N) x (number N b) p) (old_touches (task (tasks N) (number N b)))) to from
    where
      to : (a : Key) → In N a → number N a < number N b
          → some (λ x. old_latest_writer (tasks N) x (number N b) (number N a)) (old_touches (task (tasks N) (number N b))) ≡ true → Linked a b
      to a v h e =
          let (x, m, f) = some_elim (λ x. old_latest_writer (tasks N) x (number N b) (number N a)) (old_touches (task_at b)) (rw (task_is N b w) at e) in
          let (s, t) = touched b x m in
          go x (latest_of N x (number N b) (number N a) h (same_latest (tasks N) x s (number N b) (number N a) ∙ f)) t
        where
          go : (x : Place) → Latest N x (number N a) (number N b) → Touches b x ⊎ Diagonal b x → Linked a b
          go x l (inl t) = last_linked N a b w x (last_of N x a b v w t l)
          go x l (inr d) = diagonal_linked a v x d l

      from : (a : Key) → In N a → Linked a b → some (λ x. old_latest_writer (tasks N) x (number N b) (number N a)) (old_touches (task (tasks N) (number N b))) ≡ true
      from a v l =
          let (x, o, f) = linked_last N a b w l in
          let s : Whole x = (λ q. omega arith) in
          rw (task_is N b w)
          (some_intro (λ x. old_latest_writer (tasks N) x (number N b) (number N a)) x (old_touches (task_at b)) (of_touched b x s (last_touches N a b v w x f))
          (sym (same_latest (tasks N) x s (number N b) (number N a)) ∙ of_latest N x (number N b) (number N a) (of_last N x a b v w f)))
