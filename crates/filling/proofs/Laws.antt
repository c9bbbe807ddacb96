-- What each step leaves once its tiles and lists are filled. Assumes nothing.
use Prim.Native.Nat.{ℕ, ◌*◌}
use mathlib.Core.Path.{◌≡◌, ap, ◌∙◌}
use mathlib.Core.List.{List}
use lib.Ieee.{Float}
use lib.ListN.{replicate}
use Rattle.model.specs.declared.Sizes.{Sizes}
use Rattle.model.specs.Task.{Task, t_1, t_2, t_3, t_4}
use Rattle.model.specs.Tile.{zeros, upper_filled}
use Rattle.model.specs.Plan.{plan, plan_of}
use Rattle.model.specs.Buffer.{Buffers, tile, put_tile, put_rows, tile_of, with_tile, with_rows, fill_tile, fill_rows, fill_upper, filled}

module _ (z : Sizes) (m : List Float) (l : List ℕ) (a : Task) where
  abbrev N : ℕ
  N = z.tiles

  abbrev t : ℕ
  t = z.side

  abbrev blank : List Float
  blank = zeros (z.side * z.side)

  abbrev old : Buffers
  old = record { matrix = m; lists = l }

  pub filled_1 : (k : ℕ) → t_1 k ≡ a → (m' : List Float) (l' : List ℕ) → m' ≡ put_tile N t k k blank m → l' ≡ put_rows N t k k (replicate t 0) l
      → ◌≡◌ {A = Buffers} (record { matrix = m'; lists = l' }) (filled (plan_of z) a old)
  unfolding filled fill_tile fill_rows with_tile with_rows plan
  filled_1 k e m' l' p q = (λ x. record { matrix = p x; lists = q x }) ∙ ap (λ b. filled (plan_of z) b old) e

  pub filled_2 : (k j : ℕ) → t_2 k j ≡ a → (m' : List Float) → m' ≡ put_tile N t k j blank m
      → ◌≡◌ {A = Buffers} (record { matrix = m'; lists = l }) (filled (plan_of z) a old)
  unfolding filled fill_tile with_tile plan
  filled_2 k j e m' p = (λ x. record { matrix = p x; lists = l }) ∙ ap (λ b. filled (plan_of z) b old) e

  pub filled_3 : (k i : ℕ) → t_3 k i ≡ a → (m' m'' : List Float) (l' : List ℕ) → m' ≡ put_tile N t i k blank m
      → m'' ≡ put_tile N t k k (upper_filled t (tile N t m' k k)) m' → l' ≡ put_rows N t i k (replicate t 0) l
      → ◌≡◌ {A = Buffers} (record { matrix = m''; lists = l' }) (filled (plan_of z) a old)
  unfolding filled fill_tile fill_rows fill_upper with_tile with_rows tile_of plan
  filled_3 k i e m' m'' l' p u q =
      let v = u ∙ ap (λ y. put_tile N t k k (upper_filled t (tile N t y k k)) y) p in
      (λ x. record { matrix = v x; lists = q x }) ∙ ap (λ b. filled (plan_of z) b old) e

  pub filled_4 : (k i j : ℕ) → t_4 k i j ≡ a → (m' m'' : List Float) → m' ≡ put_tile N t i j blank m
      → m'' ≡ put_tile N t k j blank m' → ◌≡◌ {A = Buffers} (record { matrix = m''; lists = l }) (filled (plan_of z) a old)
  unfolding filled fill_tile with_tile plan
  filled_4 k i j e m' m'' p u =
      let v = u ∙ ap (λ y. put_tile N t k j blank y) p in
      (λ x. record { matrix = v x; lists = l }) ∙ ap (λ b. filled (plan_of z) b old) e
