-- Finite numbers of a block: kept by choices and by exchanges of rows. Assumes nothing.
use Prim.Native.Nat.{ℕ, suc, pred, ◌≤◌, ◌<◌}
use mathlib.Core.Bool.{Bool, true, false, cond, ◌&&◌}
use mathlib.Core.List.{List}
use mathlib.Core.Path.{◌≡◌, refl, sym, ap, ◌∙◌}
use native.Mathlib.Omega.{arith}
use lib.Dec.{eqb, leb, ltb}
use lib.Ieee.{Float}
use borrow.Author.Tests.{ltb-true}
use Rattle.model.specs.Num.{finite}
use Rattle.model.specs.Tile.{at, block}
use Rattle.model.specs.Column.{upper_exchanged, lower_exchanged}
use Rattle.laws.proofs.Tests.{and_left}
use Rattle.laws.proofs.Blocks.{at_block}
use Rattle.inner_tiles.specs.K5.{FiniteBlock}

-- ---- choices

-- what both sides of a choice have
pub either : {A : Type 0} (P : A → Type 0) (b : Bool) (x y : A) → P x → P y → P (elim b as (λ q. A) [ true ↦ x | false ↦ y ])
either P true x y p q = p
either P false x y p q = q

-- of two choices by one test, what each pair has
pub both : {A B : Type 0} (P : A → B → Type 0) (b : Bool) (x y : A) (u v : B) → P x u → P y v
    → P (elim b as (λ q. A) [ true ↦ x | false ↦ y ]) (elim b as (λ q. B) [ true ↦ u | false ↦ v ])
both P true x y u v p q = p
both P false x y u v p q = q

pub chosen : (b : Bool) (x y : Float) → (b ≡ true → finite x ≡ true) → (b ≡ false → finite y ≡ true) → finite (cond b x y) ≡ true
chosen true x y f g = f refl
chosen false x y f g = g refl

-- ---- blocks

pub block_finite : (t w : ℕ) (f : ℕ → ℕ → Float) → ((r q : ℕ) → r < t → q < w → finite (f r q) ≡ true) → FiniteBlock t w (block t w f)
block_finite t w f h r q hr hq = ap finite (at_block t w f r q hr hq) ∙ h r q hr hq

pub finite_block_at : (t w : ℕ) (f : ℕ → ℕ → Float) → FiniteBlock t w (block t w f) → (r q : ℕ) → r < t → q < w → finite (f r q) ≡ true
finite_block_at t w f h r q hr hq = ap finite (sym (at_block t w f r q hr hq)) ∙ h r q hr hq

module _ (t w f c e : ℕ) (u d : List Float) where
  pub upper_finite : e ≤ t → FiniteBlock t w u → FiniteBlock t w d → FiniteBlock t w (upper_exchanged t w f c e u d)
  unfolding upper_exchanged
  upper_finite he hu hd = block_finite t w _ (λ r q hr hq.
      chosen (ltb 0 e && eqb r c && leb f q) (at w d (pred e) q) (at w u r q)
      (λ b. let p : 0 < e = ltb-true 0 e (and_left (ltb 0 e) (eqb r c) (and_left (ltb 0 e && eqb r c) (leb f q) b)) in hd (pred e) q (omega arith) hq)
      (λ b. hu r q hr hq))

  pub lower_finite : c < t → FiniteBlock t w u → FiniteBlock t w d → FiniteBlock t w (lower_exchanged t w f c e u d)
  unfolding lower_exchanged
  lower_finite hc hu hd = block_finite t w _ (λ r q hr hq. chosen (eqb (suc r) e && leb f q) (at w u c q) (at w d r q) (λ b. hu c q hc hq) (λ b. hd r q hr hq))
