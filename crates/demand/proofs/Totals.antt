-- Sums over lists, and the next column of a task by who holds it.
-- Assumes nothing.
use Prim.Native.Nat.{ℕ, zero, suc, ◌+◌, ◌*◌, ◌<◌}
use mathlib.Core.Bool.{Bool, true, false, cond, ◌||◌}
use mathlib.Core.Path.{◌≡◌, refl, sym, ap, ◌∙◌}
use mathlib.Core.List.{List, [], ◌∷◌, map}
use native.Mathlib.Omega.{arith}
use lib.Dec.{eqb}
use lib.ListN.{length, get_or, set}
use borrow.Author.Tests.{ne_eqb}
use Rattle.worker.specs.declared.Worker.{Worker}
use Rattle.model.specs.Lists.{keep}
use Rattle.model.specs.Lists as ML
use Rattle.model.specs.Links.{finished}
use Rattle.model.specs.Refusal.{holds}

-- the sum of f over a list
unfoldable pub total : {A : Type 0} → (A → ℕ) → List A → ℕ
total f [] = 0
total f (x ∷ xs) = f x + total f xs

pub total_set : {A : Type 0} (f : A → ℕ) (xs : List A) (i : ℕ) (v d : A) → i < length xs → total f (set xs i v) + f (get_or xs i d) ≡ total f xs + f v
unfolding total
total_set f [] i v d h = absurd (omega arith)
total_set f (x ∷ xs) zero v d h = omega arith
total_set f (x ∷ xs) (suc i) v d h = omega (arith, total_set f xs i v d (omega arith))

-- the next column of the worker h, where it holds p
abbrev pub column_in : ℕ → Worker → ℕ
column_in p h = cond (holds p h) h.column 0

pub next_total : (p : ℕ) (ws : List Worker) → ML.total (map (λ h. h.column) (keep (holds p) ws)) ≡ total (column_in p) ws
unfolding keep total ML.total
next_total p [] = refl
next_total p (h ∷ ws) = go (next_total p ws) (holds p h)
  where
    go : ML.total (map (λ h. h.column) (keep (holds p) ws)) ≡ total (column_in p) ws → (b : Bool)
        → ML.total (map (λ h. h.column) (cond b (h ∷ keep (holds p) ws) (keep (holds p) ws))) ≡ cond b h.column 0 + total (column_in p) ws
    go ih true = omega (arith, ih)
    go ih false = omega (arith, ih)

pub not_in : (p : ℕ) (h : Worker) → holds p h ≡ false → column_in p h ≡ 0
not_in p h e = ap (λ (b : Bool). cond b h.column 0) e

-- ---- limits by the mark and the next column, which counts only for a taken task

-- of a tie sum
unfoldable pub limit_for : ℕ → ℕ → ℕ → ℕ
limit_for t v c = cond (eqb v 2 || eqb v 3) (t * t) (cond (eqb v 1) (t * c) 0)

pub limit_other : (t v c d : ℕ) → (v ≡ 1 → ⊥) → limit_for t v c ≡ limit_for t v d
unfolding limit_for
limit_other t v c d n = λ i. cond (eqb v 2 || eqb v 3) (t * t) (same i)
  where
    same : cond (eqb v 1) (t * c) 0 ≡ cond (eqb v 1) (t * d) 0
    same = ap (λ (b : Bool). cond b (t * c) 0) (ne_eqb v 1 n) ∙ sym (ap (λ (b : Bool). cond b (t * d) 0) (ne_eqb v 1 n))

-- of a task's calls
unfoldable pub calls_for : ℕ → ℕ → ℕ → ℕ
calls_for t v c = cond (finished v) (suc t) (cond (eqb v 1) (suc c) 0)

pub calls_other : (t v c d : ℕ) → (v ≡ 1 → ⊥) → calls_for t v c ≡ calls_for t v d
unfolding calls_for
calls_other t v c d n = λ i. cond (finished v) (suc t) (same i)
  where
    same : cond (eqb v 1) (suc c) 0 ≡ cond (eqb v 1) (suc d) 0
    same = ap (λ (b : Bool). cond b (suc c) 0) (ne_eqb v 1 n) ∙ sym (ap (λ (b : Bool). cond b (suc d) 0) (ne_eqb v 1 n))
