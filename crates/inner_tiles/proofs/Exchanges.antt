-- A row of an upper block and one of a lower block exchanged from column f on: what stands left of f, and from f on. Assumes nothing.
use Prim.Native.Nat.{ℕ, suc, pred, ◌*◌, ◌≤◌, ◌<◌}
use mathlib.Core.Bool.{Bool, true, false, cond, ◌&&◌, and-true}
use mathlib.Core.List.{List}
use mathlib.Core.Path.{◌≡◌, refl, sym, ◌∙◌}
use lib.ListN.{length}
use lib.Dec.{eqb, ltb}
use lib.Ieee.{Float}
use borrow.Author.Tests.{le-leb, lt-leb}
use Rattle.model.specs.Tile.{at}
use Rattle.model.specs.Column.{upper_exchanged, lower_exchanged}
use Rattle.laws.proofs.Blocks.{length_block, at_block, block_at, block_unique}

-- two blocks with the same numbers
pub same_block : (t w : ℕ) (x y : List Float) → length x ≡ t * w → length y ≡ t * w → ((r q : ℕ) → r < t → q < w → at w x r q ≡ at w y r q) → x ≡ y
same_block t w x y hx hy h = block_unique t w (at w y) x hx h ∙ sym (block_at t w y hy)

pub and_off : (x : Bool) → (x && false) ≡ false
and_off true = refl
and_off false = refl

module _ (t w f c e : ℕ) (u d : List Float) where
  pub length_upper : length (upper_exchanged t w f c e u d) ≡ t * w
  unfolding upper_exchanged
  length_upper = length_block t w _

  module _ (r q : ℕ) (hr : r < t) (hq : q < w) where
    pub up_left : q < f → at w (upper_exchanged t w f c e u d) r q ≡ at w u r q
    unfolding upper_exchanged
    up_left hf = at_block t w _ r q hr hq ∙ rw (lt-leb f q hf, and_off (ltb 0 e && eqb r c))

    pub up_right : f ≤ q → at w (upper_exchanged t w f c e u d) r q ≡ cond (ltb 0 e && eqb r c) (at w d (pred e) q) (at w u r q)
    unfolding upper_exchanged
    up_right hf = at_block t w _ r q hr hq ∙ rw (le-leb f q hf, and-true (ltb 0 e && eqb r c))

    pub low_left : q < f → at w (lower_exchanged t w f c e u d) r q ≡ at w d r q
    unfolding lower_exchanged
    low_left hf = at_block t w _ r q hr hq ∙ rw (lt-leb f q hf, and_off (eqb (suc r) e))

    pub low_right : f ≤ q → at w (lower_exchanged t w f c e u d) r q ≡ cond (eqb (suc r) e) (at w u c q) (at w d r q)
    unfolding lower_exchanged
    low_right hf = at_block t w _ r q hr hq ∙ rw (le-leb f q hf, and-true (eqb (suc r) e))
