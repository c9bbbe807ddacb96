-- The tiles right of the diagonal tile in a backward row. Assumes nothing.
use mathlib.Core.Path.{◌≡◌, sym, ◌∙◌, ap}
use mathlib.Core.List.{List}
use Prim.Native.Nat.{ℕ, ◌+◌, ◌-◌, ◌*◌, ◌<◌, ◌≤◌}
use native.Mathlib.Omega.{arith}
use lib.ListN.{get_or}
use lib.Ieee.{Float, nan}
use Rattle.model.specs.declared.Sizes.{Sizes}
use Rattle.model.specs.Lists.{run}
use Rattle.model.specs.Plan.{plan_of}
use Rattle.model.specs.Buffer.{Buffers}
use Rattle.model.specs.Solve.{row_left}
use Rattle.column_laws.specs.Steps.{tile_start}
use Rattle.laws.proofs.Blocks.{row_end}
use Rattle.subtractions.specs.Subtracted.{subtracted}
use Rattle.subtractions.proofs.Segments.{row_run, row_split, factor_at}
use Rattle.subtractions.proofs.Places.{Placed}

module _ (z : Sizes) (m : List Float) (l : List ℕ) (y : List Float) (i r : ℕ) (hr : r < z.side) where
  abbrev N : ℕ
  N = z.tiles

  abbrev t : ℕ
  t = z.side

  abbrev s : Buffers
  s = record { matrix = m; lists = l }

  -- what is left of d after n columns from q on
  abbrev pub left : ℕ → ℕ → Float → Float
  left q n d = row_left (plan_of z) s (i * t + r) y (run q n) d

  -- ---- the tiles right of the diagonal tile: the columns from tile j on are left

  pub tiles_more : (j : ℕ) (d v whole : Float) → j < N → Placed z m y i j r → left (j * t) (N * t - j * t) d ≡ whole
      → v ≡ subtracted (λ k. get_or m (tile_start N t i j + r * t + k) nan) (λ k. get_or y (j * t + k) nan) 0 t d → left ((j + 1) * t) (N * t - (j + 1) * t) v ≡ whole
  tiles_more j d v whole hj p e q =
      let all : N * t - j * t ≡ t + (N * t - (j + 1) * t) = omega (arith, row_end j N t hj) in
      let next : (j + 1) * t ≡ j * t + t = omega arith in
      rw (q ∙ row_run (plan_of z) s (i * t + r) y (tile_start N t i j + r * t) (j * t) t d m (λ c hc. factor_at N t i r j c m l p.room hr hc))
      (ap (λ (k : ℕ). left k (N * t - (j + 1) * t) (left (j * t) t d)) next ∙ sym (row_split (plan_of z) s (i * t + r) y (j * t) t (N * t - (j + 1) * t) d) ∙ rw all at e)

  pub tiles_end : (j : ℕ) (d whole : Float) → j ≤ N → N ≤ j → left (j * t) (N * t - j * t) d ≡ whole → d ≡ whole
  unfolding row_left run
  tiles_end j d whole h g e =
      let same : j ≡ N = omega arith in
      let none : N * t - N * t ≡ 0 = omega arith in
      rw (same, none) at e
