-- A backward row: what is beside the diagonal in its tile, and the tiles right of it. Assumes nothing.
use mathlib.Core.Path.{◌≡◌, ◌∙◌}
use mathlib.Core.Bool.{true}
use mathlib.Core.List.{List}
use Prim.Native.Nat.{ℕ, suc, ◌+◌, ◌-◌, ◌*◌, ◌<◌}
use native.Mathlib.Omega.{arith}
use lib.ListN.{get_or}
use lib.Ieee.{Float, nan}
use Rattle.model.specs.declared.Sizes.{Sizes}
use Rattle.model.specs.Lists.{run}
use Rattle.model.specs.Num.{finite, quotient}
use Rattle.model.specs.Tile.{all_finite}
use Rattle.model.specs.Column.{beyond}
use Rattle.model.specs.Plan.{plan, plan_of, order}
use Rattle.model.specs.Buffer.{Buffers}
use Rattle.model.specs.Solve.{coefficient, row_left, row_value}
use Rattle.column_laws.specs.Steps.{tile_start}
use Rattle.laws.proofs.Finite.{finite_get}
use Rattle.subtractions.specs.Subtracted.{subtracted}
use Rattle.subtractions.proofs.Segments.{row_run, row_split, factor_at}
use Rattle.subtractions.proofs.Places.{Placed}
use Rattle.laws.proofs.Blocks.{row_end}

module _ (z : Sizes) (m : List Float) (l : List ℕ) (y : List Float) (i r : ℕ) (hr : r < z.side) where
  abbrev N : ℕ
  N = z.tiles

  abbrev t : ℕ
  t = z.side

  abbrev s : Buffers
  s = record { matrix = m; lists = l }

  -- what is left of d after n columns from q on
  abbrev pub left : ℕ → ℕ → Float → Float
  left q n d = row_left (plan_of z) s (i * t + r) y (run q n) d

  -- ---- the whole row

  module _ (hi : i < N) (p : Placed z m y i i r) (beside rest : Float)
      (b : beside ≡ subtracted (λ k. get_or m (tile_start N t i i + r * t + (r + 1) + k) nan) (λ k. get_or y (i * t + r + 1 + k) nan) 0 (t - (r + 1)) (get_or y (i * t + r) nan))
      (e : rest ≡ left (suc i * t) (N * t - suc i * t) beside) where
    beside_is : beside ≡ left (suc (i * t + r)) (t - suc r) (get_or y (i * t + r) nan)
    beside_is =
        let x : i * t + r + 1 ≡ suc (i * t + r) = omega arith in
        let n : t - (r + 1) ≡ t - suc r = omega arith in
        b
        ∙ row_run (plan_of z) s (i * t + r) y (tile_start N t i i + r * t + (r + 1)) (i * t + r + 1) (t - (r + 1)) (get_or y (i * t + r) nan) m
        (λ c hc.
        let q : i * t + r + 1 + c ≡ i * t + (r + 1 + c) = omega arith in
        let a : tile_start N t i i + r * t + (r + 1) + c ≡ tile_start N t i i + r * t + (r + 1 + c) = omega arith in
        rw (q, a) (factor_at N t i r i (r + 1 + c) m l p.room hr (omega arith)))
        ∙ rw (x, n)

    rest_is : rest ≡ row_left (plan_of z) s (i * t + r) y (beyond (order (plan_of z)) (i * t + r)) (get_or y (i * t + r) nan)
    unfolding beyond order plan
    rest_is =
        let room = row_end i N t hi in
        let all : N * t - suc (i * t + r) ≡ t - suc r + (N * t - suc i * t) = omega arith in
        let next : suc (i * t + r) + (t - suc r) ≡ suc i * t = omega arith in
        e ∙ rw (beside_is, all, row_split (plan_of z) s (i * t + r) y (suc (i * t + r)) (t - suc r) (N * t - suc i * t) (get_or y (i * t + r) nan), next)

    pub value_is : quotient rest (get_or m (tile_start N t i i + r * t + r) nan) ≡ row_value (plan_of z) s (i * t + r) y
    unfolding row_value
    value_is = rw (rest_is, factor_at N t i r i r m l p.room hr hr)

    pub diagonal_finite : all_finite m ≡ true → finite (coefficient (plan_of z) s (i * t + r) (i * t + r)) ≡ true
    diagonal_finite f = rw (factor_at N t i r i r m l p.room hr hr) (finite_get m (tile_start N t i i + r * t + r) f (omega (arith, p.room, p.row)))
