-- Where tiles and row lists stand: in the slice, and apart from each other. Assumes nothing.
use mathlib.Core.Logic.{inl}
use Prim.Native.Nat.{ℕ, ◌+◌, ◌*◌, ◌<◌, ◌≤◌}
use native.Mathlib.Nat.{mul-le-mul_right, mul-le-mul}
use native.Mathlib.Omega.{arith}
use Rattle.laws.proofs.Blocks.{in_block, row_end, square_most}
use Rattle.laws.specs.Apart.{Apart}

pub place_below : (N i j : ℕ) → N ≤ 16 → i < N → j < N → i * N + j < 256
place_below N i j h hi hj = omega (arith, in_block N N i j hi hj, mul-le-mul_right N h)

-- two slots share nothing
pub slots_apart : (s p q : ℕ) → p < q → Apart s (p * s) (q * s)
slots_apart s p q h = inl (row_end p q s h)

-- of two tiles the one in the upper row stands before the other
pub rows_apart : (N s k i j : ℕ) → j < N → k < i → Apart s ((k * N + j) * s) ((i * N + j) * s)
rows_apart N s k i j hj h = slots_apart s (k * N + j) (i * N + j) (omega (arith, mul-le-mul_right N h))

-- ---- bounds: every start, and all the numbers of a system, are few

pub tile_start_most : (N t i j : ℕ) → N ≤ 16 → t ≤ 16 → i < N → j < N → (i * N + j) * (t * t) ≤ 65280
tile_start_most N t i j hN ht hi hj = let p : i * N + j ≤ 255 = omega (arith, place_below N i j hN hi hj) in mul-le-mul p (square_most t ht)

pub list_start_most : (N t i j : ℕ) → N ≤ 16 → t ≤ 16 → i < N → j < N → (i * N + j) * t ≤ 4080
list_start_most N t i j hN ht hi hj = let p : i * N + j ≤ 255 = omega (arith, place_below N i j hN hi hj) in mul-le-mul p ht

pub matrix_most : (N t : ℕ) → N ≤ 16 → t ≤ 16 → N * t * (N * t) ≤ 65536
matrix_most N t hN ht = let p : N * t ≤ 256 = mul-le-mul hN ht in mul-le-mul p p

pub lists_most : (N t : ℕ) → N ≤ 16 → t ≤ 16 → N * N * t ≤ 4096
lists_most N t hN ht = mul-le-mul (square_most N hN) ht
