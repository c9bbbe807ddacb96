-- What the sizes and the lengths say, in the form that the code tests them, and where a tile ends. Assumes nothing.
use Prim.Native.Nat.{ℕ, zero, suc, ◌+◌, ◌*◌, ◌≤◌, ◌<◌}
use mathlib.Core.Path.{◌≡◌, refl, ap}
use mathlib.Core.Bool.{Bool, true, false, not, ◌&&◌, ◌||◌}
use mathlib.Core.List.{List, [], ◌∷◌}
use native.Mathlib.Nat.{mul-le-mul, mul-le-mul_right}
use native.Mathlib.Omega.{arith}
use lib.Dec.{eqb, leb}
use lib.Ieee.{Float}
use lib.ListN.{length}
use borrow.Author.Tests.{leb-true, not-false}
use Rattle.std.specs.List.{list_any, range_with_len}
use Rattle.model.specs.declared.Sizes.{Sizes}
use Rattle.worker.specs.declared.Worker.{Worker}
use Rattle.model.specs.Lists.{run, some}
use Rattle.model.specs.Task.{tasks}
use Rattle.model.specs.Plan.{plan, plan_of, order}
use Rattle.model.specs.Refusal.{inside, bad_sizes, bad_lengths}
use Rattle.laws.proofs.Tests.{and_left, and_right}
use Rattle.laws.proofs.Blocks.{in_block}
use Rattle.records.specs.Records.{lent}
use Rattle.records.proofs.Laws.{length_records, length_crew}
use Rattle.checks.specs.Checks.{Sized}

-- ---- sizes

module _ (z : Sizes) where
  from_inside : (top x : ℕ) → inside top x ≡ true → (1 ≤ x) × (x ≤ top)
  unfolding inside
  from_inside top x e = (leb-true 1 x (and_left (leb 1 x) (leb x top) e), leb-true x top (and_right (leb 1 x) (leb x top) e))

  -- sizes that refusal 1 lets pass are in their ranges
  pub sized : bad_sizes z ≡ false → Sized z
  unfolding bad_sizes
  sized e =
      let all = not-false (inside 16 z.tiles && inside 16 z.side && inside 32 z.workers) e in
      let two = and_left (inside 16 z.tiles && inside 16 z.side) (inside 32 z.workers) all in
      let (a, b) = from_inside 16 z.tiles (and_left (inside 16 z.tiles) (inside 16 z.side) two) in
      let (c, d) = from_inside 16 z.side (and_right (inside 16 z.tiles) (inside 16 z.side) two) in
      let (f, g) = from_inside 32 z.workers (and_right (inside 16 z.tiles && inside 16 z.side) (inside 32 z.workers) all) in
      record { some_tiles = a; few_tiles = b; some_side = c; small_side = d; some_workers = f; few_workers = g }

-- ---- lengths

pub small : (n t : ℕ) → n ≤ 16 → t ≤ 16 → (n * t ≤ 256) × (n * t * (n * t) ≤ 65536) × (n * n ≤ 256) × (n * n * t ≤ 4096) × (t * t ≤ 256)
small n t h g =
    let a : n * t ≤ 256 = mul-le-mul h g in
    let b : n * n ≤ 256 = mul-le-mul h h in
    (a, mul-le-mul a a, b, mul-le-mul b g, mul-le-mul g g)

module _ (z : Sizes) (m : List Float) (l : List ℕ) (r : List (List ℕ)) (slots : List Worker) (c n : ℕ) where
  abbrev N : ℕ
  N = z.tiles

  abbrev t : ℕ
  t = z.side

  pub lengths_are : {k : ℕ} → k ≡ length (tasks N) → not (eqb (length m) (N * t * (N * t)) && eqb (length l) (N * (N * t)) && eqb (length r) k && eqb c z.workers)
      ≡ bad_lengths (plan_of z) z.workers (lent m l r slots c n)
  unfolding bad_lengths lent plan order
  lengths_are f =
      let v : N * (N * t) ≡ N * N * t = omega arith in
      rw (f, v, length_records r, length_crew slots c)

-- ---- tiles

pub tile_fits : (N t i j : ℕ) → i < N → j < N → (i * N + j) * (t * t) + t * t ≤ N * t * (N * t)
tile_fits N t i j h g = omega (arith, mul-le-mul_right (t * t) (in_block N N i j h g))

-- ---- searches

-- a search as the library has it
pub some_is_any : {A : Type 0} (p : A → Bool) (xs : List A) → list_any p xs ≡ some p xs
unfolding some
some_is_any p [] = refl
some_is_any p (x ∷ xs) = ap (λ (b : Bool). p x || b) (some_is_any p xs)

-- a run of numbers as the library has it
pub run_is_range : (a n : ℕ) → range_with_len a n ≡ run a n
unfolding run
run_is_range a zero = refl
run_is_range a (suc n) = let e : a + 1 ≡ suc a = omega arith in rw e (ap (λ (l : List ℕ). a ∷ l) (run_is_range (suc a) n))
