-- The tiles that a record's kind touches, in the order in which the code tests them. Assumes nothing.
use Prim.Native.Nat.{ℕ}
use mathlib.Core.Path.{◌≡◌, refl, sym, ap, ◌∙◌}
use mathlib.Core.Bool.{Bool, true, false, cond, ◌&&◌}
use mathlib.Core.List.{List, [], ◌∷◌}
use lib.Ieee.{Float}
use lib.Dec.{eqb}
use borrow.Author.Tests.{eqb-true}
use Rattle.model.specs.declared.Sizes.{Sizes}
use Rattle.model.specs.declared.TaskRecord.{TaskRecord}
use Rattle.model.specs.Lists.{every}
use Rattle.model.specs.Tile.{all_finite}
use Rattle.model.specs.Task.{Task, t_1, t_2, t_3, t_4, A, low, low_of, is_list, reads, writes, touches}
use Rattle.model.specs.Plan.{plan, plan_of}
use Rattle.model.specs.Buffer.{Buffers, tile, tile_of, finite_in, finite_tiles}
use Rattle.laws.proofs.Every.{every_append}
use Rattle.checks.specs.Checks.{task_from}

module _ (z : Sizes) (m : List Float) (l : List ℕ) where
  abbrev F : ℕ → ℕ → Bool
  F i j = all_finite (tile z.tiles z.side m i j)

  abbrev s : Buffers
  s = record { matrix = m; lists = l }

  -- the tiles that each kind touches, each once
  finite_1 : (k : ℕ) → finite_tiles (plan_of z) (t_1 k) s ≡ F k k
  unfolding finite_tiles finite_in tile_of touches reads writes is_list every plan
  finite_1 k = go (F k k)
    where
      go : (x : Bool) → (x && (x && (true && (x && (x && (true && true)))))) ≡ x
      go true = refl
      go false = refl

  finite_2 : (k j : ℕ) → finite_tiles (plan_of z) (t_2 k j) s ≡ (F k k && F k j)
  unfolding finite_tiles finite_in tile_of touches reads writes is_list every plan
  finite_2 k j = go (F k k) (F k j)
    where
      go : (x y : Bool) → (x && (true && (y && (y && true)))) ≡ (x && y)
      go true true = refl
      go true false = refl
      go false y = refl

  finite_3 : (k i : ℕ) → finite_tiles (plan_of z) (t_3 k i) s ≡ (F k k && F i k)
  unfolding finite_tiles finite_in tile_of touches reads writes is_list every plan
  finite_3 k i = go (F k k) (F i k)
    where
      go : (x y : Bool) → (x && (y && (true && (x && (y && (true && true)))))) ≡ (x && y)
      go true true = refl
      go true false = refl
      go false y = refl

  -- the strictly lower part of tile (i,j), where it stands on the diagonal, is finite with the tile
  finite_low : (i j : ℕ) → F i j ≡ true → (b : Bool) → eqb i j ≡ b → every (finite_in (plan_of z) s) (cond b (low i ∷ []) []) ≡ true
  unfolding finite_in tile_of is_list every plan
  finite_low i j e true q = ap (λ (x : Bool). x && true) (ap (F i) (eqb-true i j q) ∙ e)
  finite_low i j e false q = refl

  finite_4 : (k i j : ℕ) → finite_tiles (plan_of z) (t_4 k i j) s ≡ (F i k && (F k j && F i j))
  unfolding finite_tiles finite_in tile_of touches reads writes is_list every plan low_of
  finite_4 k i j =
      ap (λ (b : Bool). F i k && (true && (F k j && (F i j && b)))) (every_append (finite_in (plan_of z) s) (low_of i j) (A k j ∷ A i j ∷ low_of i j))
      ∙ go (F i k) (F k j) (F i j) (every (finite_in (plan_of z) s) (low_of i j)) (λ e. finite_low i j e (eqb i j) refl)
    where
      go : (x y w v : Bool) → (w ≡ true → v ≡ true) → (x && (true && (y && (w && (v && (y && (w && v))))))) ≡ (x && (y && w))
      go true true true v h = rw (h refl)
      go true true false v h = refl
      go true false w v h = refl
      go false y w v h = refl

  -- by the step that a record asks for
  module _ (r : TaskRecord) where
    abbrev all : Bool
    all = finite_tiles (plan_of z) (task_from r) s

    of_step : (a : Task) → a ≡ task_from r → finite_tiles (plan_of z) a s ≡ all
    of_step a e = ap (λ (t : Task). finite_tiles (plan_of z) t s) e

    pub tiles_1 : (k : ℕ) → t_1 k ≡ task_from r → (v : Bool) → v ≡ F k k → v ≡ all
    tiles_1 k e v q = q ∙ sym (finite_1 k) ∙ of_step (t_1 k) e

    pub tiles_2 : (k j : ℕ) → t_2 k j ≡ task_from r → (v : Bool) → v ≡ (F k k && F k j) → v ≡ all
    tiles_2 k j e v q = q ∙ sym (finite_2 k j) ∙ of_step (t_2 k j) e

    pub tiles_3 : (k i : ℕ) → t_3 k i ≡ task_from r → (v : Bool) → v ≡ (F k k && F i k) → v ≡ all
    tiles_3 k i e v q = q ∙ sym (finite_3 k i) ∙ of_step (t_3 k i) e

    module _ (k i j : ℕ) (e : t_4 k i j ≡ task_from r) (v : Bool) (q : v ≡ F i k) where
      pub tiles_4 : v ≡ true → (w : Bool) → w ≡ (F k j && F i j) → w ≡ all
      tiles_4 f w p = rw (← of_step (t_4 k i j) e, finite_4 k i j, ← q, f) p

      pub tiles_5 : v ≡ false → v ≡ all
      tiles_5 f = rw (← of_step (t_4 k i j) e, finite_4 k i j, ← q, f)
