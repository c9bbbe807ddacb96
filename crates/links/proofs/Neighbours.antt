-- The number of a linked task from the task's own. Assumes nothing.
use Prim.Native.Nat.{ℕ, suc, ◌+◌, ◌-◌, ◌*◌, ◌<◌}
use mathlib.Core.Path.{◌≡◌}
use native.Mathlib.Omega.{arith}
use Rattle.links.specs.Closed.{Key, In, offset, number, back_of, above_of, left_of}
use Rattle.links.proofs.Order.{offset_suc}

module _ (N : ℕ) (b : Key) (w : In N b) where
  -- the first of the row
  pub left_number : number N (left_of b) + (b.j - b.k) ≡ number N b
  unfolding number
  left_number = let e : b.k - b.k ≡ 0 = omega arith in rw e (omega arith)

  -- the one above
  pub above_number : b.k < b.i → number N (above_of b) + (N - b.k) ≡ number N b
  unfolding number
  above_number h = go (b.i - 1 - b.k) (omega arith)
    where
      go : (x : ℕ) → b.i - b.k ≡ suc x → offset N b.k + (x * (N - b.k) + (b.j - b.k)) + (N - b.k) ≡ offset N b.k + ((b.i - b.k) * (N - b.k) + (b.j - b.k))
      go x e = rw e (omega arith)

  -- the one at the same tile one stage back
  pub back_number : 0 < b.k → number N (back_of b) + (N + (N - b.k) * (N - b.k)) ≡ number N b + 1 + b.i
  unfolding number
  back_number h = go (b.k - 1) (b.i - b.k) (b.j - b.k) (N - b.k) (omega arith) (omega arith) (omega arith) (omega arith)
    where
      go : (c x y m : ℕ) → b.k ≡ suc c → b.i ≡ suc c + x → b.j ≡ suc c + y → N ≡ suc c + m
          → offset N c + ((b.i - c) * (N - c) + (b.j - c)) + (N + m * m) ≡ offset N b.k + (x * m + y) + 1 + b.i
      go c x y m e f g n =
          let u : b.i - c ≡ suc x = omega arith in
          let v : N - c ≡ suc m = omega arith in
          let t : b.j - c ≡ suc y = omega arith in
          rw (u, v, t, e) (omega (arith, offset_suc N c (suc m) v))
