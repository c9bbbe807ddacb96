-- The strictly lower part of a diagonal tile: T-2 reads nothing else of the tile, and T-3 leaves it.
-- Assumes nothing.
use Prim.Native.Nat.{ℕ, suc, pred, ◌-◌, ◌<◌}
use mathlib.Core.Bool.{Bool, true, false, cond, ◌&&◌}
use mathlib.Core.Path.{◌≡◌, refl, ap, ◌∙◌}
use mathlib.Core.List.{List}
use native.Mathlib.Omega.{arith}
use lib.Dec.{eqb, leb, ltb}
use lib.Ieee.{Float}
use borrow.Author.Tests.{eqb-true, leb-false, lt-leb}
use Rattle.model.specs.Lists.{joined}
use Rattle.model.specs.Num.{plus_zero, is_zero, update}
use Rattle.model.specs.Tile.{at, upper_filled}
use Rattle.model.specs.Column.{Coupled, beyond, row_computes, apply_start, apply_column, apply_computes, couple_pivot, upper_exchanged, couple_column}
use Rattle.laws.proofs.Blocks.{at_block, block_cong}
use Rattle.laws.proofs.Runs.{map_run}
use Rattle.cells.specs.Cells.{Val, put_low, put_low_of}
use Rattle.cells.proofs.Choices.{either}

-- upperFilled leaves what stands below the diagonal
at_low : (t : ℕ) (a : List Float) (r q : ℕ) → r < t → q < r → at t (upper_filled t a) r q ≡ at t a r q
unfolding upper_filled
at_low t a r q hr h = at_block t t _ r q hr (omega arith) ∙ ap (λ (b : Bool). cond b plus_zero (at t a r q)) (lt-leb r q h)

-- tiles with the same elements below the diagonal have the same strictly lower part
same_low : (t : ℕ) (a b : List Float) → ((r q : ℕ) → r < t → q < r → at t a r q ≡ at t b r q) → upper_filled t a ≡ upper_filled t b
unfolding upper_filled
same_low t a b h = block_cong t t _ _ (λ r q hr hq. go r q hr (leb r q) refl)
  where
    go : (r q : ℕ) → r < t → (x : Bool) → leb r q ≡ x → cond x plus_zero (at t a r q) ≡ cond x plus_zero (at t b r q)
    go r q hr true e = refl
    go r q hr false e = h r q hr (leb-false r q e)

pub low_low : (t : ℕ) (a : List Float) → upper_filled t (upper_filled t a) ≡ upper_filled t a
low_low t a = same_low t (upper_filled t a) a (at_low t a)

-- ---- T-2 reads only multipliers below the diagonal

module _ (t w c : ℕ) (l : List Float) (p : List ℕ) (a : List Float) where
  abbrev b : List Float
  b = apply_start t w c p a

  pub apply_low : apply_column t w c (upper_filled t l) p a ≡ apply_column t w c l p a
  unfolding apply_column
  apply_low = block_cong t w _ _ (λ r q hr hq. go r q hr (leb r c) refl)
    where
      go : (r q : ℕ) → r < t → (x : Bool) → leb r c ≡ x
          → cond x (at w b r q) (update (at w b r q) (at t (upper_filled t l) r c) (at w b c q))
          ≡ cond x (at w b r q) (update (at w b r q) (at t l r c) (at w b c q))
      go r q hr true e = refl
      go r q hr false e = ap (λ (m : Float). update (at w b r q) m (at w b c q)) (at_low t l r c hr (leb-false r c e))

  pub computes_low : apply_computes t w c (upper_filled t l) p a ≡ apply_computes t w c l p a
  unfolding apply_computes beyond
  computes_low = ap joined (map_run _ _ (suc c) (t - suc c) (λ r h k.
      ap (λ (m : Float). row_computes w m (at w b c) (at w b r)) (at_low t l r c (omega arith) h)))

-- ---- T-3 leaves that part of its upper tile

module _ (t c : ℕ) (s : Coupled) where
  -- an exchange is of row c from column c on
  pub upper_kept : (r q : ℕ) → r < t → q < r → at t (couple_column t c s).upper r q ≡ at t s.upper r q
  unfolding couple_column upper_exchanged
  upper_kept r q hr l = either (λ (x : Coupled). at t x.upper r q ≡ at t s.upper r q)
      (is_zero (couple_pivot t c s.upper s.lower).magnitude) _ _ refl
      (at_block t t _ r q hr (omega arith)
      ∙ ap (λ (b : Bool). cond b (at t s.lower (pred e) q) (at t s.upper r q)) (off (ltb 0 e) (eqb r c) refl))
    where
      e : ℕ
      e = (couple_pivot t c s.upper s.lower).place

      off : (a b : Bool) → eqb r c ≡ b → (a && b && leb c q) ≡ false
      off true true m = lt-leb c q (let k : r ≡ c = eqb-true r c m in omega arith)
      off true false m = refl
      off false b m = refl

  pub couple_low : upper_filled t (couple_column t c s).upper ≡ upper_filled t s.upper
  couple_low = same_low t (couple_column t c s).upper s.upper upper_kept

-- ---- its cell

-- what the cells have with it put and without it put, they have after putLowOf
pub put_low_of_lem : (N t : ℕ) (P : (ℕ → Val) → Type 0) (i j : ℕ) (a : List Float) (σ : ℕ → Val) → P (put_low N t i a σ) → P σ → P (put_low_of N t i j a σ)
put_low_of_lem N t P i j a σ p q = go (eqb i j)
  where
    go : (b : Bool) → P (λ r. cond b (put_low N t i a σ r) (σ r))
    go true = p
    go false = q
