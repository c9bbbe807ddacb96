-- Bounds by sizes that are not refused. Assumes nothing.
use mathlib.Core.Path.{◌≡◌, refl}
use mathlib.Core.Bool.{Bool, false}
use Prim.Native.Nat.{ℕ, ◌+◌, ◌*◌, ◌/◌, ◌≤◌}
use native.Mathlib.Nat.{mul-le-mul, mul_assoc, mul-add, mul-mul-mul_comm}
use native.Mathlib.Omega.{arith}
use lib.Dec.{eqb}
use borrow.Author.Tests.{eqb-true}
use Rattle.model.specs.Lists.{run, every}
use Rattle.model.specs.Text.{bad_shape}
use Rattle.laws.proofs.Tests.{every_run_elim}
use Rattle.laws.proofs.Refusals.{shape_range}
use Rattle.rows_written.specs.Rows.{triangle}

pub record Shape (N t : ℕ) : Type 0 where
  pub some : 1 ≤ N
  pub tiles : N ≤ 16
  pub side : t ≤ 16

pub shape : (N t : ℕ) → bad_shape N t ≡ false → Shape N t
shape N t e = let (n, s) = shape_range N t e in record { some = n.0; tiles = n.1; side = s.1 }

-- ---- bounds

pub record Bounds (N t : ℕ) : Type 0 where
  pub numbers : t * t ≤ 256
  pub order : N * t ≤ 256
  pub elements : N * t * (N * t) ≤ 65536
  pub entries : N * N * t ≤ 4096
  pub row : N * (7 + t * t * 16) ≤ 65648
  pub rows : N * (N * (7 + t * t * 16)) ≤ 1050368
  pub lists : N * (N + 1) ≤ 272
  pub listing : N * (N + 1) / 2 * (7 + t * 2) ≤ 5304
  pub squares : N * N ≤ 256

pub bounds : (N t : ℕ) → N ≤ 16 → t ≤ 16 → Bounds N t
bounds N t h k =
    let tt : t * t ≤ 256 = mul-le-mul k k in
    let nt : N * t ≤ 256 = mul-le-mul h k in
    let nn : N * N ≤ 256 = mul-le-mul h h in
    let c : 7 + t * t * 16 ≤ 4103 = omega arith in
    let r : N * (7 + t * t * 16) ≤ 65648 = mul-le-mul h c in
    let m : N + 1 ≤ 17 = omega arith in
    let l : N * (N + 1) ≤ 272 = mul-le-mul h m in
    let l2 : N * (N + 1) / 2 ≤ 136 = omega arith in
    let w : 7 + t * 2 ≤ 39 = omega arith in
    record {
      numbers = tt;
      order = nt;
      elements = mul-le-mul nt nt;
      entries = mul-le-mul nn k;
      row = r;
      rows = mul-le-mul h r;
      lists = l;
      listing = mul-le-mul l2 w;
      squares = nn;
    }

-- a matrix of a system's length has all its tiles
pub enough : (N t x : ℕ) → x ≡ N * t * (N * t) → N * N * (t * t) ≤ x
enough N t x e = omega (arith, mul-mul-mul_comm N t N t)

-- the tiles' lines of a system with n at most 48
pub small_tiles : (N t : ℕ) → N ≤ 16 → N * t ≤ 48 → N * (N * (7 + t * t * 16)) ≤ 38656
small_tiles N t h k =
    let s : N * N ≤ 256 = mul-le-mul h h in
    let n : N * t * (N * t) ≤ 2304 = mul-le-mul k k in
    omega (arith, mul_assoc N N (7 + t * t * 16), mul-add (N * N) 7 (t * t * 16), mul_assoc (N * N) (t * t) 16, mul-mul-mul_comm N t N t)

abbrev halved : ℕ → Bool
halved n = eqb (n * (n + 1) / 2) (triangle n)

pub half : (n : ℕ) → n ≤ 16 → n * (n + 1) / 2 ≡ triangle n
unfolding every run triangle
half n h = eqb-true (n * (n + 1) / 2) (triangle n) (every_run_elim halved 0 17 refl n (omega arith) (omega arith))
