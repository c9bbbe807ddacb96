-- The numbers that a panel computes are finite just where what it leaves is: each is left, or went into a number that is.
-- Assumes nothing.
use Prim.Native.Nat.{ℕ, zero, suc, ◌+◌, ◌-◌, ◌≤◌, ◌<◌}
use mathlib.Core.Bool.{Bool, true, false, cond, ◌&&◌}
use mathlib.Core.List.{List, ◌++◌, map}
use mathlib.Core.Path.{◌≡◌, refl, sym, ◌∙◌}
use native.Mathlib.Omega.{arith}
use lib.ListN.{get_or}
use lib.Dec.{ltb, leb}
use lib.Ieee.{Float}
use borrow.Author.Tests.{ltb-true, leb-true, lt-ltb, le-leb}
use Rattle.model.specs.Lists.{run, below, joined, every}
use Rattle.model.specs.Num.{finite, update, update_computes}
use Rattle.model.specs.Tile.{at}
use Rattle.model.specs.Column.{Paired}
use Rattle.laws.proofs.Tests.{never, and_left, and_right, every_run_intro}
use Rattle.laws.proofs.Every.{every_joined, every_append, every_both, every_of_joined}
use Rattle.laws.proofs.Finite.{update_finite}
use Rattle.float_laws.proofs.Finite.{computed_shows}
use Rattle.inner_tiles.proofs.Finite.{chosen, upper_finite, lower_finite, block_finite, finite_block_at}
use Rattle.inner_tiles.specs.K5.{FiniteBlock}
use Rattle.inner_tiles.specs.Inner.{panel_exchanged, panel_upper, panel_lower, panel_paired, columns_from, upper_computes, lower_computes, panel_computes}
use Rattle.inner_tiles.proofs.Instance.{keeps}

pub every_rows : (g : ℕ → List Float) (a n : ℕ) → ((i : ℕ) → a ≤ i → i < a + n → every finite (g i) ≡ true) → every finite (joined (map g (run a n))) ≡ true
every_rows g a n h = every_joined finite g (run a n) ∙ every_run_intro (λ i. every finite (g i)) a n h

pub first_part : (xs ys : List Float) → every finite (xs ++ ys) ≡ true → every finite xs ≡ true
first_part xs ys e = and_left _ _ (sym (every_append finite xs ys) ∙ e)

pub second_part : (xs ys : List Float) → every finite (xs ++ ys) ≡ true → every finite ys ≡ true
second_part xs ys e = and_right (every finite xs) _ (sym (every_append finite xs ys) ∙ e)

if_true : (b : Bool) (x y : Float) → b ≡ true → finite (cond b x y) ≡ true → finite x ≡ true
if_true true x y e h = h
if_true false x y e h = never e refl

-- ---- the upper rows

module _ (t w f b : ℕ) (sl : List Float) (z a : ℕ) (hz : z ≤ t) where
  pub upper_on : (n : ℕ) (u : List Float) → FiniteBlock t w u → every finite (upper_computes t w f b sl z a n u) ≡ true → FiniteBlock t w (panel_upper t w f b sl z a n u)
  unfolding panel_upper upper_computes columns_from
  upper_on zero u h e = h
  upper_on (suc n) u h e = go (upper_on n u h (first_part (upper_computes t w f b sl z a n u) _ e))
    where
      U : List Float
      U = panel_upper t w f b sl z a n u

      new : FiniteBlock t w U → (r q : ℕ) → r < t → q < w → (leb f q && (ltb (a + n) r && ltb r z)) ≡ true → finite (update (at w U r q) (at b sl r n) (at w U (a + n) q)) ≡ true
      new old r q hr hq c =
          let k : f ≤ q = leb-true f q (and_left _ _ c) in
          let g = and_right (leb f q) _ c in
          let i : a + n < r = ltb-true (a + n) r (and_left _ _ g) in
          let j : r < z = ltb-true r z (and_right (ltb (a + n) r) _ g) in
          update_finite _ _ _ (old r q hr hq)
          (every_of_joined finite (λ q. update_computes (at w U r q) (at b sl r n) (at w U (a + n) q)) f (w - f) q k (omega arith)
          (every_of_joined finite (λ r. joined (map (λ q. update_computes (at w U r q) (at b sl r n) (at w U (a + n) q)) (run f (w - f)))) (suc (a + n)) (z - suc (a + n)) r (omega arith) (omega arith)
          (second_part (upper_computes t w f b sl z a n u) _ e)))

      go : FiniteBlock t w U → FiniteBlock t w (panel_upper t w f b sl z a (suc n) u)
      go old = block_finite t w _ (λ r q hr hq. chosen (leb f q && (ltb (a + n) r && ltb r z)) _ _ (λ c. new old r q hr hq c) (λ c. old r q hr hq))

  upper_back : (n : ℕ) (u : List Float) → FiniteBlock t w (panel_upper t w f b sl z a (suc n) u) → FiniteBlock t w (panel_upper t w f b sl z a n u)
  unfolding panel_upper
  upper_back n u h r q hr hq = go (leb f q && (ltb (a + n) r && ltb r z)) (finite_block_at t w _ h r q hr hq)
    where
      go : (c : Bool) → finite (cond c (update (at w (panel_upper t w f b sl z a n u) r q) (at b sl r n) (at w (panel_upper t w f b sl z a n u) (a + n) q)) (at w (panel_upper t w f b sl z a n u) r q)) ≡ true → finite (at w (panel_upper t w f b sl z a n u) r q) ≡ true
      go true e = keeps t _ _ _ e
      go false e = e

  pub upper_shows : (n : ℕ) (u : List Float) → FiniteBlock t w (panel_upper t w f b sl z a n u) → every finite (upper_computes t w f b sl z a n u) ≡ true
  unfolding upper_computes columns_from every panel_upper
  upper_shows zero u h = refl
  upper_shows (suc n) u h =
      every_both finite (upper_computes t w f b sl z a n u) _ (upper_shows n u old)
      (every_rows _ (suc (a + n)) (z - suc (a + n)) (λ r k i. every_rows _ f (w - f) (λ q j l. computed_shows _ _ _ (old r q (omega arith) (omega arith)) ∙ new r q (omega arith) (omega arith) j (omega arith) (omega arith))))
    where
      U : List Float
      U = panel_upper t w f b sl z a n u

      old : FiniteBlock t w U
      old = upper_back n u h

      both_on : (r q : ℕ) → f ≤ q → a + n < r → r < z → (leb f q && (ltb (a + n) r && ltb r z)) ≡ true
      both_on r q k i j = rw (le-leb f q k, lt-ltb (a + n) r i, lt-ltb r z j)

      new : (r q : ℕ) → r < t → q < w → f ≤ q → a + n < r → r < z → finite (update (at w U r q) (at b sl r n) (at w U (a + n) q)) ≡ true
      new r q hr hq k i j = if_true _ _ _ (both_on r q k i j) (finite_block_at t w _ h r q hr hq)

-- ---- the lower rows

module _ (t w f : ℕ) (l u : List Float) (a : ℕ) where
  pub lower_on : (n : ℕ) (d : List Float) → FiniteBlock t w d → every finite (lower_computes t w f l u a n d) ≡ true → FiniteBlock t w (panel_lower t w f l u a n d)
  unfolding panel_lower lower_computes columns_from below
  lower_on zero d h e = h
  lower_on (suc n) d h e = go (lower_on n d h (first_part (lower_computes t w f l u a n d) _ e))
    where
      D : List Float
      D = panel_lower t w f l u a n d

      new : FiniteBlock t w D → (r q : ℕ) → r < t → q < w → f ≤ q → finite (update (at w D r q) (at t l r (a + n)) (at w u (a + n) q)) ≡ true
      new old r q hr hq k =
          update_finite _ _ _ (old r q hr hq)
          (every_of_joined finite (λ q. update_computes (at w D r q) (at t l r (a + n)) (at w u (a + n) q)) f (w - f) q k (omega arith)
          (every_of_joined finite (λ r. joined (map (λ q. update_computes (at w D r q) (at t l r (a + n)) (at w u (a + n) q)) (run f (w - f)))) 0 t r (omega arith) (omega arith)
          (second_part (lower_computes t w f l u a n d) _ e)))

      go : FiniteBlock t w D → FiniteBlock t w (panel_lower t w f l u a (suc n) d)
      go old = block_finite t w _ (λ r q hr hq. chosen (leb f q) _ _ (λ c. new old r q hr hq (leb-true f q c)) (λ c. old r q hr hq))

  lower_back : (n : ℕ) (d : List Float) → FiniteBlock t w (panel_lower t w f l u a (suc n) d) → FiniteBlock t w (panel_lower t w f l u a n d)
  unfolding panel_lower
  lower_back n d h r q hr hq = go (leb f q) (finite_block_at t w _ h r q hr hq)
    where
      go : (c : Bool) → finite (cond c (update (at w (panel_lower t w f l u a n d) r q) (at t l r (a + n)) (at w u (a + n) q)) (at w (panel_lower t w f l u a n d) r q)) ≡ true → finite (at w (panel_lower t w f l u a n d) r q) ≡ true
      go true e = keeps t _ _ _ e
      go false e = e

  pub lower_shows : (n : ℕ) (d : List Float) → FiniteBlock t w (panel_lower t w f l u a n d) → every finite (lower_computes t w f l u a n d) ≡ true
  unfolding lower_computes columns_from every below panel_lower
  lower_shows zero d h = refl
  lower_shows (suc n) d h =
      every_both finite (lower_computes t w f l u a n d) _ (lower_shows n d old)
      (every_rows _ 0 t (λ r k i. every_rows _ f (w - f) (λ q j m. computed_shows _ _ _ (old r q (omega arith) (omega arith)) ∙ new r q (omega arith) (omega arith) j)))
    where
      D : List Float
      D = panel_lower t w f l u a n d

      old : FiniteBlock t w D
      old = lower_back n d h

      new : (r q : ℕ) → r < t → q < w → f ≤ q → finite (update (at w D r q) (at t l r (a + n)) (at w u (a + n) q)) ≡ true
      new r q hr hq k = if_true _ _ _ (le-leb f q k) (finite_block_at t w _ h r q hr hq)

-- ---- the whole panel

module _ (t w f b : ℕ) (l sl : List Float) (p : List ℕ) (a : ℕ) (hz : a + b ≤ t) (s : Paired) where
  pub exchanged_finite : ((c : ℕ) → c < a + b → get_or p c 0 ≤ t) → FiniteBlock t w s.upper → FiniteBlock t w s.lower → (n : ℕ) → n ≤ b → FiniteBlock t w (panel_exchanged t w f p a n s).upper × FiniteBlock t w (panel_exchanged t w f p a n s).lower
  unfolding panel_exchanged
  exchanged_finite e hu hd zero o = (hu, hd)
  exchanged_finite e hu hd (suc n) o =
      let ih = exchanged_finite e hu hd n (omega arith) in (
        upper_finite t w f (a + n) (get_or p (a + n) 0) _ _ (e (a + n) (omega arith)) ih.0 ih.1,
        lower_finite t w f (a + n) (get_or p (a + n) 0) _ _ (omega arith) ih.0 ih.1,
      )

  -- finite before, and computed finite
  pub panel_on : ((c : ℕ) → c < a + b → get_or p c 0 ≤ t) → FiniteBlock t w s.upper → FiniteBlock t w s.lower → every finite (panel_computes t w f b l sl p a s) ≡ true
      → FiniteBlock t w (panel_paired t w f b l sl p a s).upper × FiniteBlock t w (panel_paired t w f b l sl p a s).lower
  unfolding panel_paired panel_computes
  panel_on e hu hd m =
      let x = exchanged_finite e hu hd b (omega arith) in (
        upper_on t w f b sl (a + b) a hz b _ x.0 (first_part (upper_computes t w f b sl (a + b) a b (panel_exchanged t w f p a b s).upper) _ m),
        lower_on t w f l _ a b _ x.1 (second_part (upper_computes t w f b sl (a + b) a b (panel_exchanged t w f p a b s).upper) _ m),
      )

  -- and finite after
  pub panel_shows : FiniteBlock t w (panel_paired t w f b l sl p a s).upper → FiniteBlock t w (panel_paired t w f b l sl p a s).lower → every finite (panel_computes t w f b l sl p a s) ≡ true
  unfolding panel_paired panel_computes
  panel_shows hu hd = every_both finite (upper_computes t w f b sl (a + b) a b (panel_exchanged t w f p a b s).upper) _ (upper_shows t w f b sl (a + b) a hz b _ hu) (lower_shows t w f l _ a b _ hd)
