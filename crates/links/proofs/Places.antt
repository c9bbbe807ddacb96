-- What a task writes and touches, by its triple. Assumes nothing.
use Prim.Native.Nat.{ℕ}
use mathlib.Core.Bool.{Bool, true, false, cond, ◌&&◌}
use mathlib.Core.Path.{◌≡◌, refl, sym, ap, ◌∙◌}
use mathlib.Core.Logic.{◌⊎◌, inl, inr, ◌≢◌}
use mathlib.Core.List.{List, [], ◌∷◌, ◌++◌}
use lib.Dec.{eqb}
use borrow.Author.Tests.{eqb-true, eq-eqb}
use Rattle.model.specs.Lists.{some}
use Rattle.model.specs.Task.{Task, Place, A, low, list, low_of, same, reads, writes, touches, among}
use Rattle.links.specs.Closed.{Key, task_at}
use Rattle.laws.proofs.Tests.{never, and_left, and_right, or_cases, or_left, or_right}
use Rattle.links.proofs.Numbering.{Kind, is_T_1, is_T_2, is_T_3, is_T_4, kind}

-- ---- membership

abbrev pub OneOf : {A : Type 0} → A → List A → Type 0
OneOf x [] = ⊥
OneOf x (y ∷ ys) = (x ≡ y) ⊎ OneOf x ys

pub some_elim : {A : Type 0} (f : A → Bool) (xs : List A) → some f xs ≡ true → (x : A) × OneOf x xs × (f x ≡ true)
unfolding some
some_elim f [] e = never e refl
some_elim {A} f (x ∷ xs) e = go (some_elim f xs) (or_cases (f x) (some f xs) e)
  where
    go : (some f xs ≡ true → (y : A) × OneOf y xs × (f y ≡ true)) → (f x ≡ true) ⊎ (some f xs ≡ true) → (y : A) × OneOf y (x ∷ xs) × (f y ≡ true)
    go ih (inl q) = (x, inl refl, q)
    go ih (inr q) = let (y, m, p) = ih q in (y, inr m, p)

pub some_intro : {A : Type 0} (f : A → Bool) (x : A) (xs : List A) → OneOf x xs → f x ≡ true → some f xs ≡ true
unfolding some
some_intro f x [] m e = absurd m
some_intro f x (y ∷ ys) (inl q) e = or_left (f y) (some f ys) (ap f (sym q) ∙ e)
some_intro f x (y ∷ ys) (inr m) e = or_right (f y) (some f ys) (some_intro f x ys m e)

pub one_left : {A : Type 0} (x : A) (xs ys : List A) → OneOf x xs → OneOf x (xs ++ ys)
one_left x [] ys m = absurd m
one_left x (z ∷ xs) ys (inl e) = inl e
one_left x (z ∷ xs) ys (inr m) = inr (one_left x xs ys m)

pub one_right : {A : Type 0} (x : A) (xs ys : List A) → OneOf x ys → OneOf x (xs ++ ys)
one_right x [] ys m = m
one_right x (z ∷ xs) ys m = inr (one_right x xs ys m)

pub one_cases : {A : Type 0} (x : A) (xs ys : List A) → OneOf x (xs ++ ys) → OneOf x xs ⊎ OneOf x ys
one_cases x [] ys m = inr m
one_cases x (z ∷ xs) ys (inl e) = inl (inl e)
one_cases x (z ∷ xs) ys (inr m) = go (one_cases x xs ys m)
  where
    go : OneOf x xs ⊎ OneOf x ys → OneOf x (z ∷ xs) ⊎ OneOf x ys
    go (inl q) = inl (inr q)
    go (inr q) = inr q

pub same_true : (x y : Place) → same x y ≡ true → x ≡ y
unfolding same
same_true x y e =
    let l : (eqb x.sort y.sort && eqb x.row y.row) ≡ true = and_left (eqb x.sort y.sort && eqb x.row y.row) (eqb x.column y.column) e in
    let s : x.sort ≡ y.sort = eqb-true x.sort y.sort (and_left (eqb x.sort y.sort) (eqb x.row y.row) l) in
    let r : x.row ≡ y.row = eqb-true x.row y.row (and_right (eqb x.sort y.sort) (eqb x.row y.row) l) in
    let c : x.column ≡ y.column = eqb-true x.column y.column (and_right (eqb x.sort y.sort && eqb x.row y.row) (eqb x.column y.column) e) in
    λ t. record { sort = s t; row = r t; column = c t }

pub true_same : (x y : Place) → x ≡ y → same x y ≡ true
unfolding same
true_same x y e =
    rw (eq-eqb x.sort y.sort (ap (λ (z : Place). z.sort) e), eq-eqb x.row y.row (ap (λ (z : Place). z.row) e), eq-eqb x.column y.column (ap (λ (z : Place). z.column) e))

pub among_elim : (x : Place) (xs : List Place) → among x xs ≡ true → OneOf x xs
unfolding among some
among_elim x [] e = never e refl
among_elim x (y ∷ ys) e = go (among_elim x ys) (or_cases (same x y) (some (same x) ys) e)
  where
    go : (some (same x) ys ≡ true → OneOf x ys) → (same x y ≡ true) ⊎ (some (same x) ys ≡ true) → OneOf x (y ∷ ys)
    go ih (inl q) = inl (same_true x y q)
    go ih (inr q) = inr (ih q)

pub among_intro : (x : Place) (xs : List Place) → OneOf x xs → among x xs ≡ true
unfolding among
among_intro x xs m = some_intro (same x) x xs m (true_same x x refl)

-- ---- the coordinates of a place

pub row_of : {x y : Place} → x ≡ y → x.row ≡ y.row
row_of e = ap (λ (z : Place). z.row) e

pub column_of_lem : {x y : Place} → x ≡ y → x.column ≡ y.column
column_of_lem e = ap (λ (z : Place). z.column) e

pub sort_of : {x y : Place} → x ≡ y → x.sort ≡ y.sort
sort_of e = ap (λ (z : Place). z.sort) e

-- ---- what it writes and what it touches

pub data Writes (a : Key) (x : Place) : Type 0 where
  w_own : x ≡ A a.i a.j → Writes a x
  w_upper : x ≡ A a.k a.j → Writes a x
  w_list : a.j ≡ a.k → x ≡ list a.i a.k → Writes a x
  w_low : a.i ≡ a.j → x ≡ low a.i → Writes a x

pub data Touches (a : Key) (x : Place) : Type 0 where
  t_own : x ≡ A a.i a.j → Touches a x
  t_upper : x ≡ A a.k a.j → Touches a x
  t_left : a.i ≢ a.k → x ≡ A a.i a.k → Touches a x
  t_list : x ≡ list a.i a.k → Touches a x
  t_low : a.i ≡ a.j → x ≡ low a.i → Touches a x
  t_left_low : a.i ≡ a.k → x ≡ low a.k → Touches a x

-- the strictly lower part, where the tile stands on the diagonal
low_mem : (i j : ℕ) (x : Place) → OneOf x (low_of i j) → (i ≡ j) × (x ≡ low i)
unfolding low_of
low_mem i j x = go (eqb i j) refl
  where
    go : (b : Bool) → eqb i j ≡ b → OneOf x (cond b (low i ∷ []) []) → (i ≡ j) × (x ≡ low i)
    go true e (inl q) = (eqb-true i j e, q)
    go true e (inr q) = absurd q
    go false e q = absurd q

mem_low : (i j : ℕ) (x : Place) → i ≡ j → x ≡ low i → OneOf x (low_of i j)
unfolding low_of
mem_low i j x e q = rw (eq-eqb i j e) (inl q)

module _ (a : Key) (x : Place) where
  writes_mem : (t : Task) → Kind a t → OneOf x (writes t) → Writes a x
  unfolding writes
  writes_mem t (is_T_1 e f) = go
    where
      go : OneOf x (A a.k a.k ∷ low a.k ∷ list a.k a.k ∷ []) → Writes a x
      go (inl q) = w_own (cc)
      go (inr (inl q)) = w_low (cc) (cc)
      go (inr (inr (inl q))) = w_list f (cc)
      go (inr (inr (inr q))) = absurd q
  writes_mem t (is_T_2 e f) = go
    where
      go : OneOf x (A a.k a.j ∷ []) → Writes a x
      go (inl q) = w_upper q
      go (inr q) = absurd q
  writes_mem t (is_T_3 e f) = go
    where
      go : OneOf x (A a.k a.k ∷ A a.i a.k ∷ list a.i a.k ∷ []) → Writes a x
      go (inl q) = w_upper (cc)
      go (inr (inl q)) = w_own (cc)
      go (inr (inr (inl q))) = w_list f q
      go (inr (inr (inr q))) = absurd q
  writes_mem t (is_T_4 e f) = go
    where
      go : OneOf x (A a.k a.j ∷ A a.i a.j ∷ low_of a.i a.j) → Writes a x
      go (inl q) = w_upper q
      go (inr (inl q)) = w_own q
      go (inr (inr q)) = let (g, p) = low_mem a.i a.j x q in w_low g p

  reads_mem : (t : Task) → Kind a t → OneOf x (reads t) → Touches a x
  unfolding reads
  reads_mem t (is_T_1 e f) = go
    where
      go : OneOf x (A a.k a.k ∷ low a.k ∷ list a.k a.k ∷ []) → Touches a x
      go (inl q) = t_own (cc)
      go (inr (inl q)) = t_left_low e q
      go (inr (inr (inl q))) = t_list (cc)
      go (inr (inr (inr q))) = absurd q
  reads_mem t (is_T_2 e f) = go
    where
      go : OneOf x (low a.k ∷ list a.k a.k ∷ A a.k a.j ∷ []) → Touches a x
      go (inl q) = t_left_low e q
      go (inr (inl q)) = t_list (cc)
      go (inr (inr (inl q))) = t_upper q
      go (inr (inr (inr q))) = absurd q
  reads_mem t (is_T_3 e f) = go
    where
      go : OneOf x (A a.k a.k ∷ A a.i a.k ∷ list a.i a.k ∷ []) → Touches a x
      go (inl q) = t_upper (cc)
      go (inr (inl q)) = t_left e q
      go (inr (inr (inl q))) = t_list q
      go (inr (inr (inr q))) = absurd q
  reads_mem t (is_T_4 e f) = go
    where
      go : OneOf x (A a.i a.k ∷ list a.i a.k ∷ A a.k a.j ∷ A a.i a.j ∷ low_of a.i a.j) → Touches a x
      go (inl q) = t_left e q
      go (inr (inl q)) = t_list q
      go (inr (inr (inl q))) = t_upper q
      go (inr (inr (inr (inl q)))) = t_own q
      go (inr (inr (inr (inr q)))) = let (g, p) = low_mem a.i a.j x q in t_low g p

  pub mem_writes : (t : Task) → Kind a t → Writes a x → OneOf x (writes t)
  unfolding writes
  mem_writes t (is_T_1 e f) (w_own q) = inl (cc)
  mem_writes t (is_T_1 e f) (w_upper q) = inl (cc)
  mem_writes t (is_T_1 e f) (w_list g q) = inr (inr (inl (cc)))
  mem_writes t (is_T_1 e f) (w_low g q) = inr (inl (cc))
  mem_writes t (is_T_2 e f) (w_own q) = inl (cc)
  mem_writes t (is_T_2 e f) (w_upper q) = inl q
  mem_writes t (is_T_2 e f) (w_list g q) = absurd (f g)
  mem_writes t (is_T_2 e f) (w_low g q) = absurd (f (cc))
  mem_writes t (is_T_3 e f) (w_own q) = inr (inl (cc))
  mem_writes t (is_T_3 e f) (w_upper q) = inl (cc)
  mem_writes t (is_T_3 e f) (w_list g q) = inr (inr (inl q))
  mem_writes t (is_T_3 e f) (w_low g q) = absurd (e (cc))
  mem_writes t (is_T_4 e f) (w_own q) = inr (inl q)
  mem_writes t (is_T_4 e f) (w_upper q) = inl q
  mem_writes t (is_T_4 e f) (w_list g q) = absurd (f g)
  mem_writes t (is_T_4 e f) (w_low g q) = inr (inr (mem_low a.i a.j x g q))

  mem_reads : (t : Task) → Kind a t → Touches a x → OneOf x (reads t)
  unfolding reads
  mem_reads t (is_T_1 e f) (t_own q) = inl (cc)
  mem_reads t (is_T_1 e f) (t_upper q) = inl (cc)
  mem_reads t (is_T_1 e f) (t_left g q) = absurd (g e)
  mem_reads t (is_T_1 e f) (t_list q) = inr (inr (inl (cc)))
  mem_reads t (is_T_1 e f) (t_low g q) = inr (inl (cc))
  mem_reads t (is_T_1 e f) (t_left_low g q) = inr (inl q)
  mem_reads t (is_T_2 e f) (t_own q) = inr (inr (inl (cc)))
  mem_reads t (is_T_2 e f) (t_upper q) = inr (inr (inl q))
  mem_reads t (is_T_2 e f) (t_left g q) = absurd (g e)
  mem_reads t (is_T_2 e f) (t_list q) = inr (inl (cc))
  mem_reads t (is_T_2 e f) (t_low g q) = absurd (f (cc))
  mem_reads t (is_T_2 e f) (t_left_low g q) = inl q
  mem_reads t (is_T_3 e f) (t_own q) = inr (inl (cc))
  mem_reads t (is_T_3 e f) (t_upper q) = inl (cc)
  mem_reads t (is_T_3 e f) (t_left g q) = inr (inl q)
  mem_reads t (is_T_3 e f) (t_list q) = inr (inr (inl q))
  mem_reads t (is_T_3 e f) (t_low g q) = absurd (e (cc))
  mem_reads t (is_T_3 e f) (t_left_low g q) = absurd (e g)
  mem_reads t (is_T_4 e f) (t_own q) = inr (inr (inr (inl q)))
  mem_reads t (is_T_4 e f) (t_upper q) = inr (inr (inl q))
  mem_reads t (is_T_4 e f) (t_left g q) = inl q
  mem_reads t (is_T_4 e f) (t_list q) = inr (inl q)
  mem_reads t (is_T_4 e f) (t_low g q) = inr (inr (inr (inr (mem_low a.i a.j x g q))))
  mem_reads t (is_T_4 e f) (t_left_low g q) = absurd (e g)

  pub writes_touches : Writes a x → Touches a x
  writes_touches (w_own q) = t_own q
  writes_touches (w_upper q) = t_upper q
  writes_touches (w_list f q) = t_list q
  writes_touches (w_low f q) = t_low f q

  pub writes_of : OneOf x (writes (task_at a)) → Writes a x
  writes_of m = writes_mem (task_at a) (kind a) m

  pub of_writes : Writes a x → among x (writes (task_at a)) ≡ true
  of_writes w = among_intro x (writes (task_at a)) (mem_writes (task_at a) (kind a) w)

  pub touches_of : OneOf x (touches (task_at a)) → Touches a x
  unfolding touches
  touches_of m = go (one_cases x (reads (task_at a)) (writes (task_at a)) m)
    where
      go : OneOf x (reads (task_at a)) ⊎ OneOf x (writes (task_at a)) → Touches a x
      go (inl r) = reads_mem (task_at a) (kind a) r
      go (inr w) = writes_touches (writes_of w)

  pub one_touches : Touches a x → OneOf x (touches (task_at a))
  unfolding touches
  one_touches t = one_left x (reads (task_at a)) (writes (task_at a)) (mem_reads (task_at a) (kind a) t)

  pub of_touches : Touches a x → among x (touches (task_at a)) ≡ true
  of_touches t = among_intro x (touches (task_at a)) (one_touches t)

-- ---- by cases, over the coordinates of the place

abbrev pub FromWrites : Key → Place → Type 0 → Type 0
FromWrites a x P =
    (x.sort ≡ 0 → x.row ≡ a.i → x.column ≡ a.j → P)
    × (x.sort ≡ 0 → x.row ≡ a.k → x.column ≡ a.j → P)
    × (a.j ≡ a.k → x.sort ≡ 1 → x.row ≡ a.i → x.column ≡ a.k → P)
    × (a.i ≡ a.j → x.sort ≡ 2 → x.row ≡ a.i → P)

pub from_writes : {P : Type 0} (a : Key) (x : Place) → FromWrites a x P → Writes a x → P
from_writes a x f (w_own q) = f.0 (sort_of q) (row_of q) (column_of_lem q)
from_writes a x f (w_upper q) = f.1 (sort_of q) (row_of q) (column_of_lem q)
from_writes a x f (w_list e q) = f.2 e (sort_of q) (row_of q) (column_of_lem q)
from_writes a x f (w_low e q) = f.3 e (sort_of q) (row_of q)
