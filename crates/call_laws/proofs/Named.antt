-- A record read as a task, by its kind; and the record of a task of N by N tiles. Assumes nothing.
use Prim.Native.Nat.{ℕ}
use mathlib.Core.Path.{◌≡◌}
use native.Mathlib.Omega.{arith}
use borrow.Author.Tests.{eq-eqb, ne_eqb}
use Rattle.model.specs.declared.TaskRecord.{TaskRecord}
use Rattle.model.specs.Task.{Task, t_1, t_2, t_3, t_4, kind_of, k_of, i_of, j_of}
use Rattle.links.proofs.Order.{Within, within_1, within_2, within_3, within_4}
use Rattle.checks.specs.Checks.{Inside, task_from}
use Rattle.run_laws.proofs.Undamaged.{Due}

module _ (r : TaskRecord) where
  pub named_1 : r.kind ≡ 1 → task_from r ≡ t_1 r.k
  unfolding task_from
  named_1 e = rw (eq-eqb r.kind 1 e)

  pub named_2 : r.kind ≡ 2 → task_from r ≡ t_2 r.k r.j
  unfolding task_from
  named_2 e = rw e

  pub named_3 : r.kind ≡ 3 → task_from r ≡ t_3 r.k r.i
  unfolding task_from
  named_3 e = rw e

  pub named_4 : (r.kind ≡ 1 → ⊥) → (r.kind ≡ 2 → ⊥) → (r.kind ≡ 3 → ⊥) → task_from r ≡ t_4 r.k r.i r.j
  unfolding task_from
  named_4 a b c = rw (ne_eqb r.kind 1 a, ne_eqb r.kind 2 b, ne_eqb r.kind 3 c)

-- the record due is read as its task
pub named : (a : Task) (r : TaskRecord) → Due a r → task_from r ≡ a
unfolding task_from kind_of k_of i_of j_of
named (t_1 k) r d = rw (d.kind_is, d.k_is)
named (t_2 k j) r d = rw (d.kind_is, d.k_is, d.j_is)
named (t_3 k i) r d = rw (d.kind_is, d.k_is, d.i_is)
named (t_4 k i j) r d = rw (d.kind_is, d.k_is, d.i_is, d.j_is)

-- and its tiles are among N by N
pub inside : (N : ℕ) (a : Task) (r : TaskRecord) → Within N a → Due a r → Inside N r
unfolding k_of i_of j_of
inside N a r (within_1 k h) d = record { k_fits = omega arith; i_fits = omega arith; j_fits = omega arith }
inside N a r (within_2 k j h g) d = record { k_fits = omega arith; i_fits = omega arith; j_fits = omega arith }
inside N a r (within_3 k i h g) d = record { k_fits = omega arith; i_fits = omega arith; j_fits = omega arith }
inside N a r (within_4 k i j h g f e) d = record { k_fits = omega arith; i_fits = omega arith; j_fits = omega arith }
