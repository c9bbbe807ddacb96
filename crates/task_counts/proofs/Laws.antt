-- How many tasks there are, and that they are few. Assumes nothing.
use Prim.Native.Nat.{ℕ, ◌+◌, ◌*◌, ◌/◌, ◌≤◌}
use mathlib.Core.Path.{◌≡◌, sym, ◌∙◌}
use native.Mathlib.Nat.{mul-le-mul}
use native.Mathlib.Omega.{arith}
use lib.ListN.{length}
use Rattle.model.specs.Task.{tasks, task_count}
use Rattle.links.proofs.Numbering.{count}
use Rattle.links.proofs.Order.{count_is}

-- what the count of tasks is made of
pub products_small : (n : ℕ) → n ≤ 16 → (n * (n + 1) ≤ 272) × (n * (n + 1) * (2 * n + 1) ≤ 8976)
products_small n h =
    let p : n + 1 ≤ 17 = omega arith in
    let q : 2 * n + 1 ≤ 33 = omega arith in
    let a : n * (n + 1) ≤ 272 = mul-le-mul h p in
    (a, mul-le-mul a q)

pub length_tasks : (n : ℕ) → n * (n + 1) * (2 * n + 1) / 6 ≡ length (tasks n)
unfolding task_count
length_tasks n = sym (count n ∙ count_is n)

pub few_tasks : (n : ℕ) → n ≤ 16 → length (tasks n) ≤ 1496
few_tasks n h = omega (arith, products_small n h, length_tasks n)
