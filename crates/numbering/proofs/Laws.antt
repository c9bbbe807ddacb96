-- The task after a task. Assumes nothing.
use Prim.Native.Nat.{ℕ, suc, ◌+◌, ◌-◌, ◌*◌, ◌≤◌, ◌<◌}
use mathlib.Core.Path.{◌≡◌, refl, sym, ◌∙◌}
use mathlib.Core.Logic.{◌⊎◌, inl, inr}
use native.Mathlib.Nat.{suc-mul}
use native.Mathlib.Omega.{arith}
use lib.ListN.{length}
use Rattle.model.specs.Task.{tasks}
use Rattle.laws.proofs.Tests.{lt_or_le}
use Rattle.links.specs.Closed.{key, In, offset, number}
use Rattle.links.proofs.Numbering.{count}
use Rattle.numbering.specs.declared.Triple.{Triple}

module _ (N k i j : ℕ) (v : In N (key k i j)) where
  -- in the same row
  pub next_column_lem : number N (key k i (j + 1)) ≡ number N (key k i j) + 1
  unfolding number
  next_column_lem = omega arith

  -- the first of the next row, from the last of a row
  pub next_row : N ≤ j + 1 → number N (key k (i + 1) k) ≡ number N (key k i j) + 1
  unfolding number
  next_row h =
      let e : i + 1 - k ≡ suc (i - k) = omega arith in
      rw e (omega (arith, suc-mul (i - k) (N - k)))

  -- the first of the next stage, from the last of a stage
  pub next_stage : N ≤ i + 1 → N ≤ j + 1 → number N (key (k + 1) (k + 1) (k + 1)) ≡ number N (key k i j) + 1
  unfolding number offset
  next_stage g h =
      let e : k + 1 ≡ suc k = omega arith in
      let z : suc k - suc k ≡ 0 = omega arith in
      rw (e, z) (go (i - k) (omega arith) refl (omega arith))
    where
      go : (m : ℕ) → N - k ≡ suc m → i - k ≡ m → j - k ≡ m
          → offset N k + (N - k) * (N - k) + (0 * (N - suc k) + 0) ≡ offset N k + ((i - k) * (N - k) + (j - k)) + 1
      go m w x y = rw (w, x, y) (omega arith)

-- past the last task
pub number_end : (N : ℕ) → number N (key N N N) ≡ length (tasks N)
unfolding number
number_end N = let z : N - N ≡ 0 = omega arith in rw z (omega (arith, count N))

-- the first of a stage that isn't the last task's successor
pub next_inside : (N k p : ℕ) → k < N → number N (key (k + 1) (k + 1) (k + 1)) ≡ p → p < length (tasks N) → In N (key (k + 1) (k + 1) (k + 1))
next_inside N k p l e h = go (lt_or_le (k + 1) N)
  where
    go : (k + 1 < N) ⊎ (N ≤ k + 1) → In N (key (k + 1) (k + 1) (k + 1))
    go (inl q) = record { row = omega arith; column = omega arith; row_fits = q; column_fits = q }
    go (inr q) = let f : k + 1 ≡ N = omega arith in absurd (omega (arith, sym (rw f at e) ∙ number_end N))

-- the triple of task 0
pub number_first : (n : ℕ) (a : Triple) → a ≡ record { k = 0; i = 0; j = 0 } → number n (key a.k a.i a.j) ≡ 0
unfolding number offset
number_first n a e = rw e (omega arith)

pub in_first : (n : ℕ) (a : Triple) → a ≡ record { k = 0; i = 0; j = 0 } → 1 ≤ n → In n (key a.k a.i a.j)
in_first n a e h = rw e (record { row = omega arith; column = omega arith; row_fits = h; column_fits = h })
