-- While the first task of a row hasn't finished, no other task of the row is ready. Assumes nothing.
use Prim.Native.Nat.{ℕ, ◌+◌, ◌-◌, ◌≤◌, ◌<◌}
use mathlib.Core.Bool.{Bool, true, false, ◌&&◌}
use mathlib.Core.List.{List}
use mathlib.Core.Path.{◌≡◌, refl, sym, ap, ◌∙◌}
use native.Mathlib.Omega.{arith}
use lib.Dec.{eqb}
use borrow.Author.Tests.{ne_eqb}
use Rattle.model.specs.Task.{tasks, task_count}
use Rattle.model.specs.Links.{mark, waiting, finished, ready}
use Rattle.links.specs.Closed.{Key, key, In, number, back_mark, above_mark, left_mark, ready_at}
use Rattle.links.proofs.Numbering.{same_key}
use Rattle.links.proofs.Order.{number_fits}
use Rattle.links.proofs.Neighbours.{left_number}
use Rattle.links.proofs.Tests.{ready_is}

last_fails : (a b c d : Bool) → d ≡ false → (a && (b && c && d)) ≡ false
last_fails true true true d e = e
last_fails true true false d e = refl
last_fails true false c d e = refl
last_fails false b c d e = refl

module _ (N : ℕ) (ms : List ℕ) (b : Key) where
  left_unfinished : finished (left_mark N ms b) ≡ false → ready_at N ms b ≡ false
  unfolding ready_at
  left_unfinished = last_fails (eqb (mark ms (number N b)) waiting) (finished (back_mark N ms b)) (finished (above_mark N ms b)) (finished (left_mark N ms b))

-- a is the first of its row
module _ (N : ℕ) (a : Key) (v : In N a) (first : a.j ≡ a.k) where
  -- the task d columns to the right of it
  abbrev right : ℕ → Key
  right d = key a.k a.i (a.k + d)

  in_row : (d : ℕ) → d < N - a.k → In N (right d)
  in_row d h = record { row = v.row; column = omega arith; row_fits = v.row_fits; column_fits = omega arith }

  left_is : key a.k a.i a.k ≡ a
  left_is = same_key (key a.k a.i a.k) a refl refl (sym first)

  right_number : (d : ℕ) → d < N - a.k → number N (right d) ≡ number N a + d
  right_number d h = omega (arith, ap (number N) left_is, left_number N (right d) (in_row d h))

  pub row_fits : number N a + (N - a.k) ≤ task_count N
  row_fits =
      let d = N - a.k - 1 in
      let l : d < N - a.k = omega arith in
      omega (arith, right_number d l, number_fits N (right d) (in_row d l))

  module _ (ms : List ℕ) (unfinished : finished (mark ms (number N a)) ≡ false) where
    right_waits : (d : ℕ) → 0 < d → d < N - a.k → ready (tasks N) ms (number N (right d)) ≡ false
    unfolding left_mark
    right_waits d g h =
        ready_is N ms (right d) (in_row d h)
        ∙ left_unfinished N ms (right d) (rw (ne_eqb (a.k + d) a.k (λ e. omega arith), left_is) unfinished)

    pub row_waits : (q : ℕ) → number N a < q → q < number N a + (N - a.k) → ready (tasks N) ms q ≡ false
    row_waits q g h =
        let d = q - number N a in
        let l : d < N - a.k = omega arith in
        let e : number N (right d) ≡ q = omega (arith, right_number d l) in
        rw e at (right_waits d (omega arith) l)
