-- The numbers that a column of T-3 or T-4 computes are finite just where the tiles that it leaves are, if those before were.
-- Assumes nothing.
use Prim.Native.Nat.{ℕ, suc, pred, ◌+◌, ◌-◌, ◌≤◌, ◌<◌}
use mathlib.Core.Bool.{Bool, true, false, cond, ◌&&◌, ◌||◌}
use mathlib.Core.List.{List, ◌∷◌, map}
use mathlib.Core.Path.{◌≡◌, refl, sym, ap, ◌∙◌}
use mathlib.Core.Logic.{◌⊎◌, inl, inr}
use native.Mathlib.Omega.{arith}
use lib.ListN.{get_or}
use lib.Dec.{eqb, ltb, leb}
use lib.Ieee.{Float}
use borrow.Author.Tests.{ltb-true, le-ltb, lt-leb, ltb-false, leb-false}
use Rattle.model.specs.Lists.{run, below, joined, every}
use Rattle.model.specs.Num.{is_zero, finite, quotient, update_computes}
use Rattle.model.specs.Tile.{at}
use Rattle.model.specs.Column.{Coupled, Paired, beyond, eliminated, elimination_computes, row_computes, couple_pivot, upper_exchanged, lower_exchanged, couple_column, couple_computes, pair_exchanged, pair_column, pair_computes}
use Rattle.laws.proofs.Tests.{and_left, and_right, and_intro, or_false_left, or_false_right, lt_or_le}
use Rattle.laws.proofs.Blocks.{at_block}
use Rattle.laws.proofs.Every.{every_of_joined}
use Rattle.laws.proofs.Finite.{update_finite}
use Rattle.float_laws.proofs.Finite.{computed_shows}
use Rattle.inner_tiles.proofs.Finite.{both}
use Rattle.inner_tiles.proofs.Pivots.{couple_place}
use Rattle.inner_tiles.proofs.Finite.{chosen, upper_finite, lower_finite, block_finite, finite_block_at}
use Rattle.inner_tiles.specs.K5.{FiniteBlock}
use Rattle.inner_theory.proofs.Tests.{cond_false, Side, before, equal, after, side}
use Rattle.inner_tiles.specs.Inner.{Inner, couple_within, within_computes}
use Rattle.inner_tiles.proofs.Sides.{elim_lt, elim_eq, elim_gt}
use Rattle.inner_tiles.proofs.PanelSound.{every_rows}

-- ---- b = 1

module _ (t c : ℕ) (hc : c < t) (s : Coupled) (fu : FiniteBlock t t s.upper) (fd : FiniteBlock t t s.lower) where
  abbrev E : ℕ
  E = (couple_pivot t c s.upper s.lower).place

  abbrev U : List Float
  U = upper_exchanged t t c c E s.upper s.lower

  abbrev D : List Float
  D = lower_exchanged t t c c E s.upper s.lower

  old_upper : FiniteBlock t t U
  old_upper = upper_finite t t c c E s.upper s.lower (couple_place t c s.upper s.lower) fu fd

  old_lower : FiniteBlock t t D
  old_lower = lower_finite t t c c E s.upper s.lower hc fu fd

  -- the numbers of an eliminated row show what was computed for it
  row_shows : (z r : ℕ) → z ≤ t → r < t → c < z → ((q : ℕ) → c ≤ q → q < z → finite (eliminated c (at t U c) (at t D r) q) ≡ true)
      → every finite (quotient (at t D r c) (at t U c c) ∷ joined (map (λ q. update_computes (at t D r q) (quotient (at t D r c) (at t U c c)) (at t U c q)) (run (suc c) (z - suc c)))) ≡ true
  unfolding every
  row_shows z r hz hr hcz h =
      and_intro _ _ (ap finite (sym (elim_eq c c (at t U c) (at t D r) refl)) ∙ h c (omega arith) hcz)
      (every_rows _ (suc c) (z - suc c) (λ q k i. computed_shows _ _ _ (old_lower r q hr (omega arith)) ∙ (ap finite (sym (elim_gt c q (at t U c) (at t D r) k)) ∙ h q (omega arith) (omega arith))))

  row_on : (z r q : ℕ) → z ≤ t → r < t → c ≤ q → q < z
      → every finite (quotient (at t D r c) (at t U c c) ∷ joined (map (λ q. update_computes (at t D r q) (quotient (at t D r c) (at t U c c)) (at t U c q)) (run (suc c) (z - suc c)))) ≡ true
      → finite (eliminated c (at t U c) (at t D r) q) ≡ true
  unfolding every
  row_on z r q hz hr l u e = go (side q c)
    where
      go : Side q c → finite (eliminated c (at t U c) (at t D r) q) ≡ true
      go (before k) = absurd (omega arith)
      go (equal k) = ap finite (elim_eq c q (at t U c) (at t D r) k) ∙ and_left (finite (quotient (at t D r c) (at t U c c))) _ e
      go (after k) =
          ap finite (elim_gt c q (at t U c) (at t D r) k)
          ∙ update_finite _ _ _ (old_lower r q hr (omega arith))
          (every_of_joined finite (λ q. update_computes (at t D r q) (quotient (at t D r c) (at t U c c)) (at t U c q)) (suc c) (z - suc c) q (omega arith) (omega arith)
          (and_right (finite (quotient (at t D r c) (at t U c c))) _ e))

  pub couple_shows : FiniteBlock t t (couple_column t c s).lower → every finite (couple_computes t c s) ≡ true
  unfolding couple_column couple_computes elimination_computes beyond below every
  couple_shows = both (λ (l : List Float) (x : Coupled). FiniteBlock t t x.lower → every finite l ≡ true) (is_zero (couple_pivot t c s.upper s.lower).magnitude) _ _ _ _
      (λ h. refl)
      (λ h. every_rows _ 0 t (λ r k i. row_shows t r (omega arith) (omega arith) hc (λ q j m. finite_block_at t t _ h r q (omega arith) m)))

  pub couple_on : every finite (couple_computes t c s) ≡ true → FiniteBlock t t (couple_column t c s).upper × FiniteBlock t t (couple_column t c s).lower
  unfolding couple_column couple_computes elimination_computes beyond below every
  couple_on = both (λ (l : List Float) (x : Coupled). every finite l ≡ true → FiniteBlock t t x.upper × FiniteBlock t t x.lower) (is_zero (couple_pivot t c s.upper s.lower).magnitude) _ _ _ _
      (λ h. (fu, fd))
      (λ h. (old_upper, block_finite t t _ (λ r q hr hq. go h r q hr hq (lt_or_le q c))))
    where
      go : every finite (joined (map (λ r. quotient (at t D r c) (at t U c c) ∷ joined (map (λ q. update_computes (at t D r q) (quotient (at t D r c) (at t U c c)) (at t U c q)) (run (suc c) (t - suc c)))) (run 0 t))) ≡ true
          → (r q : ℕ) → r < t → q < t → (q < c) ⊎ (c ≤ q) → finite (eliminated c (at t U c) (at t D r) q) ≡ true
      go h r q hr hq (inl k) = ap finite (elim_lt c q (at t U c) (at t D r) k) ∙ old_lower r q hr hq
      go h r q hr hq (inr k) = row_on t r q (omega arith) hr k hq (every_of_joined finite (λ r. quotient (at t D r c) (at t U c c) ∷ joined (map (λ q. update_computes (at t D r q) (quotient (at t D r c) (at t U c c)) (at t U c q)) (run (suc c) (t - suc c)))) 0 t r (omega arith) (omega arith) h)

module _ (t w c : ℕ) (hc : c < t) (l : List Float) (p : List ℕ) (he : get_or p c 0 ≤ t) (s : Paired) (fu : FiniteBlock t w s.upper) (fd : FiniteBlock t w s.lower) where
  abbrev U₄ : List Float
  U₄ = upper_exchanged t w 0 c (get_or p c 0) s.upper s.lower

  abbrev D₄ : List Float
  D₄ = lower_exchanged t w 0 c (get_or p c 0) s.upper s.lower

  old_lower₄ : FiniteBlock t w D₄
  old_lower₄ = lower_finite t w 0 c (get_or p c 0) s.upper s.lower hc fu fd

  pub pair_shows : FiniteBlock t w (pair_column t w c l p s).lower → every finite (pair_computes t w c l p s) ≡ true
  unfolding pair_column pair_computes pair_exchanged row_computes below
  pair_shows h = every_rows _ 0 t (λ r k i. every_rows _ 0 w (λ q j m. computed_shows _ _ _ (old_lower₄ r q (omega arith) (omega arith)) ∙ finite_block_at t w _ h r q (omega arith) (omega arith)))

  pub pair_on : every finite (pair_computes t w c l p s) ≡ true → FiniteBlock t w (pair_column t w c l p s).upper × FiniteBlock t w (pair_column t w c l p s).lower
  unfolding pair_column pair_computes pair_exchanged row_computes below
  pair_on h = (
    upper_finite t w 0 c (get_or p c 0) s.upper s.lower he fu fd,
    block_finite t w _ (λ r q hr hq. update_finite _ _ _ (old_lower₄ r q hr hq)
        (every_of_joined finite (λ q. update_computes (at w D₄ r q) (at t l r c) (at w U₄ c q)) 0 w q (omega arith) (omega arith)
        (every_of_joined finite (λ r. joined (map (λ q. update_computes (at w D₄ r q) (at t l r c) (at w U₄ c q)) (run 0 w))) 0 t r (omega arith) (omega arith) h))),
  )

-- ---- inside a panel

module _ (t b a c : ℕ) (s : Inner) (l : a ≤ c) (u : c < a + b) (o : a + b ≤ t) (fu : FiniteBlock t t s.upper) (fd : FiniteBlock t t s.lower) where
  abbrev z : ℕ
  z = a + b

  abbrev S : Coupled
  S = record { upper = s.upper; lower = s.lower; rows = s.rows }

  hc : c < t
  hc = omega arith

  abbrev e : ℕ
  e = (couple_pivot t c s.upper s.lower).place

  abbrev Uᵢ : List Float
  Uᵢ = upper_exchanged t t c c e s.upper s.lower

  abbrev Dᵢ : List Float
  Dᵢ = lower_exchanged t t c c e s.upper s.lower

  abbrev low : ℕ → ℕ → Float
  low r q = cond (ltb q a || leb z q) (at t s.lower r q) (cond (ltb q c) (cond (eqb (suc r) e) (at b s.slice c (q - a)) (at t s.lower r q)) (eliminated c (at t Uᵢ c) (at t Dᵢ r) q))

  off : (x y : Bool) → x ≡ false → y ≡ false → (x || y) ≡ false
  off x y p q = cc

  low_right : (r q : ℕ) → c ≤ q → q < z → low r q ≡ eliminated c (at t Uᵢ c) (at t Dᵢ r) q
  low_right r q k i = cond_false (ltb q a || leb z q) _ _ (off (ltb q a) (leb z q) (le-ltb q a (omega arith)) (lt-leb z q i)) ∙ cond_false (ltb q c) _ _ (le-ltb q c k)

  pub within_shows : ((r q : ℕ) → r < t → q < z → finite (at t (couple_within t b a z c s).lower r q) ≡ true) → every finite (within_computes t z c s) ≡ true
  unfolding couple_within within_computes below every
  within_shows = both (λ (n : List Float) (x : Inner). ((r q : ℕ) → r < t → q < z → finite (at t x.lower r q) ≡ true) → every finite n ≡ true) (is_zero (couple_pivot t c s.upper s.lower).magnitude) _ _ _ _
      (λ h. refl)
      (λ h. every_rows _ 0 t (λ r k i. row_shows t c hc S fu fd z r o (omega arith) u
      (λ q j m. ap finite (sym (low_right r q j m)) ∙ (ap finite (sym (at_block t t low r q (omega arith) (omega arith))) ∙ h r q (omega arith) m))))

  pub within_on : FiniteBlock t b s.slice → every finite (within_computes t z c s) ≡ true
      → FiniteBlock t t (couple_within t b a z c s).upper × FiniteBlock t t (couple_within t b a z c s).lower × FiniteBlock t b (couple_within t b a z c s).slice
  unfolding couple_within within_computes below every
  within_on fs = both (λ (n : List Float) (x : Inner). every finite n ≡ true → FiniteBlock t t x.upper × FiniteBlock t t x.lower × FiniteBlock t b x.slice) (is_zero (couple_pivot t c s.upper s.lower).magnitude) _ _ _ _
      (λ h. (fu, fd, fs))
      (λ h. (
        block_finite t t _ (λ r q hr hq. chosen (ltb q z) _ _ (λ m. old_upper t c hc S fu fd r q hr hq) (λ m. fu r q hr hq)),
        block_finite t t low (λ r q hr hq. chosen (ltb q a || leb z q) _ _ (λ m. fd r q hr hq)
            (λ m. chosen (ltb q c) _ _ (λ k. chosen (eqb (suc r) e) _ _ (λ i. let v : a ≤ q = ltb-false q a (or_false_left (ltb q a) _ m) in let w : q < c = ltb-true q c k in fs c (q - a) hc (omega arith)) (λ i. fd r q hr hq))
            (λ k. row_on t c hc S fu fd z r q o hr (ltb-false q c k) (leb-false z q (or_false_right (ltb q a) _ m)) (rows h r hr)))),
        block_finite t b _ (λ r p hr hp. chosen (ltb 0 e && eqb r c && ltb p (c - a)) _ _
            (λ m. let v : 0 < e = ltb-true 0 e (and_left (ltb 0 e) (eqb r c) (and_left (ltb 0 e && eqb r c) _ m)) in let w : e ≤ t = couple_place t c s.upper s.lower in fd (pred e) (a + p) (omega arith) (omega arith)) (λ m. fs r p hr hp)),
      ))
    where
      rows : every finite (joined (map (λ r. quotient (at t Dᵢ r c) (at t Uᵢ c c) ∷ joined (map (λ q. update_computes (at t Dᵢ r q) (quotient (at t Dᵢ r c) (at t Uᵢ c c)) (at t Uᵢ c q)) (run (suc c) (z - suc c)))) (run 0 t))) ≡ true
          → (r : ℕ) → r < t → every finite (quotient (at t Dᵢ r c) (at t Uᵢ c c) ∷ joined (map (λ q. update_computes (at t Dᵢ r q) (quotient (at t Dᵢ r c) (at t Uᵢ c c)) (at t Uᵢ c q)) (run (suc c) (z - suc c)))) ≡ true
      rows h r hr = every_of_joined finite (λ r. quotient (at t Dᵢ r c) (at t Uᵢ c c) ∷ joined (map (λ q. update_computes (at t Dᵢ r q) (quotient (at t Dᵢ r c) (at t Uᵢ c c)) (at t Uᵢ c q)) (run (suc c) (z - suc c)))) 0 t r (omega arith) (omega arith) h
