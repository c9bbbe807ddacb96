-- A column of T-4 on blocks, by single columns and by panels, is the theory's. Assumes nothing.
use Prim.Native.Nat.{ℕ, zero, suc, ◌+◌, pred, ◌≤◌, ◌<◌}
use mathlib.Core.Bool.{true, false, cond, ◌&&◌}
use mathlib.Core.List.{List}
use mathlib.Core.Option.{Option}
use mathlib.Core.Path.{◌≡◌, refl, sym, ap₂, ◌∙◌}
use mathlib.Core.Logic.{◌⊎◌, inl, inr}
use native.Mathlib.Omega.{arith}
use native.Mathlib.Nat.{add-sub_cancel_left}
use lib.ListN.{get_or}
use lib.Dec.{eqb, ltb, eqb-suc-suc}
use lib.Ieee.{Float}
use borrow.Author.Tests.{ne_eqb, ltb-true, lt-ltb, le-leb, lt-leb}
use Rattle.inner_theory.specs.Stack.{Place, up, low, Column, swap, exchanged, exchanges, updated, upper_updated, lower_updated, uppers, lowers, panel}
use Rattle.inner_theory.specs.Columns.{col, multipliers, held}
use Rattle.inner_theory.specs.Sound.{Inside}
use Rattle.inner_theory.specs.Alike.{Alike}
use Rattle.inner_theory.proofs.Alike.{exchanged_alike}
use Rattle.inner_theory.proofs.Tests.{true_or_false, cond_false}
use Rattle.model.specs.Num.{update}
use Rattle.model.specs.Tile.{at}
use Rattle.model.specs.Column.{upper_exchanged, lower_exchanged, Paired, pair_exchanged, pair_column}
use Rattle.inner_tiles.specs.Instance.{Row, ieee, named}
use Rattle.inner_tiles.specs.Inner.{panel_exchanged, panel_upper, panel_lower, panel_paired}
use Rattle.inner_tiles.specs.Views.{stack}
use Rattle.laws.proofs.Blocks.{at_block}
use Rattle.inner_tiles.proofs.Instance.{named_row, laws}
use Rattle.inner_tiles.proofs.Exchanges.{up_left, up_right, low_left, low_right}

pub up_swap : (t c e r : ℕ) (x : Column (ieee t)) (g : ℕ → Float) → e ≤ t → ((ρ : Row t) → x (low ρ) ≡ g ρ.0) → cond (ltb 0 e && eqb r c) (g (pred e)) (x (up r)) ≡ exchanged (ieee t) c (named t e) x (up r)
unfolding exchanged swap named
up_swap t c zero r x g l h = refl
up_swap t c (suc k) r x g l h = go (lt-ltb k t l) (true_or_false (eqb r c))
  where
    go : ltb k t ≡ true → (eqb r c ≡ true) ⊎ (eqb r c ≡ false) → cond (ltb 0 (suc k) && eqb r c) (g k) (x (up r)) ≡ exchanged (ieee t) c (named t (suc k)) x (up r)
    go p (inl e) = rw (lt-ltb 0 (suc k) (omega arith), named_row t (k, p), e) (sym (h (k, p)))
    go p (inr e) = rw (lt-ltb 0 (suc k) (omega arith), named_row t (k, p), e)

pub low_swap : (t c e : ℕ) (x : Column (ieee t)) → e ≤ t → (ρ : Row t) → cond (eqb (suc ρ.0) e) (x (up c)) (x (low ρ)) ≡ exchanged (ieee t) c (named t e) x (low ρ)
unfolding exchanged swap named
low_swap t c zero x l ρ = cond_false (eqb (suc ρ.0) 0) _ _ (ne_eqb (suc ρ.0) 0 (λ (z : suc ρ.0 ≡ 0). omega arith))
low_swap t c (suc k) x l ρ = go (lt-ltb k t l) (true_or_false (eqb ρ.0 k))
  where
    go : ltb k t ≡ true → (eqb ρ.0 k ≡ true) ⊎ (eqb ρ.0 k ≡ false) → cond (eqb (suc ρ.0) (suc k)) (x (up c)) (x (low ρ)) ≡ exchanged (ieee t) c (named t (suc k)) x (low ρ)
    go p (inl e) = rw (eqb-suc-suc ρ.0 k, named_row t (k, p), e)
    go p (inr e) = rw (eqb-suc-suc ρ.0 k, named_row t (k, p), e)

module _ (t w f c e : ℕ) (u d : List Float) (fits : e ≤ t) where
  pub up_exchanged : (r q : ℕ) → r < t → q < w → f ≤ q → at w (upper_exchanged t w f c e u d) r q ≡ exchanged (ieee t) c (named t e) (col (ieee t) (stack t w u d) q) (up r)
  unfolding stack col
  up_exchanged r q hr hq hf = up_right t w f c e u d r q hr hq hf ∙ (up_swap t c e r (col (ieee t) (stack t w u d) q) (λ i. at w d i q) fits (λ ρ. refl))

  pub low_exchanged : (r : Row t) (q : ℕ) → q < w → f ≤ q → at w (lower_exchanged t w f c e u d) r.0 q ≡ exchanged (ieee t) c (named t e) (col (ieee t) (stack t w u d) q) (low r)
  unfolding stack col
  low_exchanged r q hq hf = low_right t w f c e u d r.0 q (ltb-true r.0 t r.1) hq hf ∙ (low_swap t c e (col (ieee t) (stack t w u d) q) fits r)

-- one column of T-4, b = 1
pub fourth_alike : (t w c q : ℕ) (k l : List Float) (p : List ℕ) (s : Paired) → c < t → q < w → get_or p c 0 ≤ t
    → Alike (ieee t) t (col (ieee t) (stack t w (pair_column t w c l p s).upper (pair_column t w c l p s).lower) q)
    (updated (ieee t) c (multipliers (ieee t) (col (ieee t) (stack t t k l) c)) (exchanged (ieee t) c (named t (get_or p c 0)) (col (ieee t) (stack t w s.upper s.lower) q)))
unfolding pair_column pair_exchanged stack col updated multipliers
fourth_alike t w c q k l p s hc hq fits (up i) hp =
    up_exchanged t w 0 c (get_or p c 0) s.upper s.lower fits i q (omega (arith, hp.1)) hq (omega arith)
    ∙ sym ((laws t).zero_update _ _ _ (laws t).nought_zero)
fourth_alike t w c q k l p s hc hq fits (low r) hp =
    at_block t w _ r.0 q (ltb-true r.0 t r.1) hq
    ∙ ap₂ (λ (x y : Float). update x (at t l r.0 c) y) (low_exchanged t w 0 c (get_or p c 0) s.upper s.lower fits r q hq (omega arith)) (up_exchanged t w 0 c (get_or p c 0) s.upper s.lower fits c q hc hq (omega arith))

-- ---- the panel

module _ (t w f b : ℕ) (p : List ℕ) (a : ℕ) (s : Paired) where
  abbrev entries : ℕ → Option (Row t)
  entries c = named t (get_or p c 0)

  -- columns from f on
  pub panel_exchanged_alike : (n q : ℕ) → a + n ≤ t → q < w → f ≤ q → ((c : ℕ) → c < a + n → get_or p c 0 ≤ t)
      → Alike (ieee t) t (col (ieee t) (stack t w (panel_exchanged t w f p a n s).upper (panel_exchanged t w f p a n s).lower) q) (exchanges (ieee t) entries a n (col (ieee t) (stack t w s.upper s.lower) q))
  unfolding panel_exchanged exchanges stack col
  panel_exchanged_alike zero q o hq hf fits x hx = refl
  panel_exchanged_alike (suc n) q o hq hf fits x hx = on x hx ∙ exchanged_alike (ieee t) t (a + n) (entries (a + n)) before after (omega arith) (panel_exchanged_alike n q (omega arith) hq hf (λ c l. fits c (omega arith))) x hx
    where
      before : Column (ieee t)
      before = col (ieee t) (stack t w (panel_exchanged t w f p a n s).upper (panel_exchanged t w f p a n s).lower) q

      after : Column (ieee t)
      after = exchanges (ieee t) entries a n (col (ieee t) (stack t w s.upper s.lower) q)

      on : (x : Place (Row t)) → Inside 0 t x → col (ieee t) (stack t w (panel_exchanged t w f p a (suc n) s).upper (panel_exchanged t w f p a (suc n) s).lower) q x ≡ exchanged (ieee t) (a + n) (entries (a + n)) before x
      on (up i) hx = up_exchanged t w f (a + n) (get_or p (a + n) 0) (panel_exchanged t w f p a n s).upper (panel_exchanged t w f p a n s).lower (fits (a + n) (omega arith)) i q (omega (arith, hx.1)) hq hf
      on (low r) hx = low_exchanged t w f (a + n) (get_or p (a + n) 0) (panel_exchanged t w f p a n s).upper (panel_exchanged t w f p a n s).lower (fits (a + n) (omega arith)) r q hq hf

  panel_exchanged_left : (n q : ℕ) → q < w → q < f → (i : ℕ) → i < t → (at w (panel_exchanged t w f p a n s).upper i q ≡ at w s.upper i q) × (at w (panel_exchanged t w f p a n s).lower i q ≡ at w s.lower i q)
  unfolding panel_exchanged
  panel_exchanged_left zero q hq hf i hi = (refl, refl)
  panel_exchanged_left (suc n) q hq hf i hi = (
    up_left t w f (a + n) (get_or p (a + n) 0) (panel_exchanged t w f p a n s).upper (panel_exchanged t w f p a n s).lower i q hi hq hf ∙ (panel_exchanged_left n q hq hf i hi).0,
    low_left t w f (a + n) (get_or p (a + n) 0) (panel_exchanged t w f p a n s).upper (panel_exchanged t w f p a n s).lower i q hi hq hf ∙ (panel_exchanged_left n q hq hf i hi).1,
  )

module _ (t w f b a z : ℕ) (k l sl : List Float) where
  abbrev mult : ℕ → Column (ieee t)
  mult = held (ieee t) a (stack t t k l) (λ i x. at b sl i x)

  panel_upper_alike : (n q : ℕ) (u : List Float) (x : Column (ieee t)) → a + n ≤ t → q < w → f ≤ q → ((i : ℕ) → i < t → at w u i q ≡ x (up i)) → (i : ℕ) → i < t → at w (panel_upper t w f b sl z a n u) i q ≡ uppers (ieee t) mult z a n x (up i)
  unfolding panel_upper uppers upper_updated held
  panel_upper_alike zero q u x o hq hf h i hi = h i hi
  panel_upper_alike (suc n) q u x o hq hf h i hi =
      at_block t w _ i q hi hq
      ∙ rw (le-leb f q hf, panel_upper_alike n q u x (omega arith) hq hf h i hi, panel_upper_alike n q u x (omega arith) hq hf h (a + n) (omega arith), add-sub_cancel_left a n)

  panel_upper_left : (n q : ℕ) (u : List Float) → q < w → q < f → (i : ℕ) → i < t → at w (panel_upper t w f b sl z a n u) i q ≡ at w u i q
  unfolding panel_upper
  panel_upper_left zero q u hq hf i hi = refl
  panel_upper_left (suc n) q u hq hf i hi = at_block t w _ i q hi hq ∙ rw (lt-leb f q hf) (panel_upper_left n q u hq hf i hi)

  lowers_keep : (n : ℕ) (x : Column (ieee t)) (i : ℕ) → lowers (ieee t) mult a n x (up i) ≡ x (up i)
  unfolding lowers lower_updated
  lowers_keep zero x i = refl
  lowers_keep (suc n) x i = lowers_keep n x i

  uppers_keep : (n : ℕ) (x : Column (ieee t)) (r : Row t) → uppers (ieee t) mult z a n x (low r) ≡ x (low r)
  unfolding uppers upper_updated
  uppers_keep zero x r = refl
  uppers_keep (suc n) x r = uppers_keep n x r

  panel_lower_alike : (n q : ℕ) (u d : List Float) (x : Column (ieee t)) → a + n ≤ t → q < w → f ≤ q → ((i : ℕ) → i < t → at w u i q ≡ x (up i)) → ((r : Row t) → at w d r.0 q ≡ x (low r)) → (r : Row t) → at w (panel_lower t w f l u a n d) r.0 q ≡ lowers (ieee t) mult a n x (low r)
  unfolding panel_lower lowers lower_updated held stack
  panel_lower_alike zero q u d x o hq hf h g r = g r
  panel_lower_alike (suc n) q u d x o hq hf h g r =
      at_block t w _ r.0 q (ltb-true r.0 t r.1) hq
      ∙ rw (le-leb f q hf)
      (ap₂ (λ (y v : Float). update y (at t l r.0 (a + n)) v) (panel_lower_alike n q u d x (omega arith) hq hf h g r) (h (a + n) (omega arith) ∙ sym (lowers_keep n x (a + n))))

  panel_lower_left : (n q : ℕ) (u d : List Float) → q < w → q < f → (i : ℕ) → i < t → at w (panel_lower t w f l u a n d) i q ≡ at w d i q
  unfolding panel_lower
  panel_lower_left zero q u d hq hf i hi = refl
  panel_lower_left (suc n) q u d hq hf i hi = at_block t w _ i q hi hq ∙ rw (lt-leb f q hf) (panel_lower_left n q u d hq hf i hi)

module _ (t w f b a : ℕ) (k l sl : List Float) (p : List ℕ) (s : Paired) where
  pub panel_paired_alike : (q : ℕ) → a + b ≤ t → q < w → f ≤ q → ((c : ℕ) → c < a + b → get_or p c 0 ≤ t)
      → Alike (ieee t) t (col (ieee t) (stack t w (panel_paired t w f b l sl p a s).upper (panel_paired t w f b l sl p a s).lower) q)
      (panel (ieee t) (λ c. named t (get_or p c 0)) (held (ieee t) a (stack t t k l) (λ i x. at b sl i x)) a b (col (ieee t) (stack t w s.upper s.lower) q))
  unfolding panel_paired panel stack col
  panel_paired_alike q o hq hf fits x hx = go x hx
    where
      start : Column (ieee t)
      start = exchanges (ieee t) (λ c. named t (get_or p c 0)) a b (col (ieee t) (stack t w s.upper s.lower) q)

      begun : Alike (ieee t) t (col (ieee t) (stack t w (panel_exchanged t w f p a b s).upper (panel_exchanged t w f p a b s).lower) q) start
      begun = panel_exchanged_alike t w f b p a s b q o hq hf fits

      ups : (i : ℕ) → i < t → at w (panel_upper t w f b sl (a + b) a b (panel_exchanged t w f p a b s).upper) i q ≡ uppers (ieee t) (held (ieee t) a (stack t t k l) (λ i x. at b sl i x)) (a + b) a b start (up i)
      ups = panel_upper_alike t w f b a (a + b) k l sl b q (panel_exchanged t w f p a b s).upper start o hq hf (λ i hi. begun (up i) (omega arith, omega arith))

      go : (x : Place (Row t)) → Inside 0 t x → col (ieee t) (stack t w (panel_paired t w f b l sl p a s).upper (panel_paired t w f b l sl p a s).lower) q x ≡ panel (ieee t) (λ c. named t (get_or p c 0)) (held (ieee t) a (stack t t k l) (λ i x. at b sl i x)) a b (col (ieee t) (stack t w s.upper s.lower) q) x
      go (up i) hx = ups i (omega (arith, hx.1)) ∙ sym (lowers_keep t w f b a (a + b) k l sl b _ i)
      go (low r) hx =
          panel_lower_alike t w f b a (a + b) k l sl b q (panel_upper t w f b sl (a + b) a b (panel_exchanged t w f p a b s).upper) (panel_exchanged t w f p a b s).lower _ o hq hf ups
          (λ r. begun (low r) tt ∙ sym (uppers_keep t w f b a (a + b) k l sl b start r)) r

  pub panel_paired_left : (q : ℕ) → q < w → q < f → (i : ℕ) → i < t → (at w (panel_paired t w f b l sl p a s).upper i q ≡ at w s.upper i q) × (at w (panel_paired t w f b l sl p a s).lower i q ≡ at w s.lower i q)
  unfolding panel_paired
  panel_paired_left q hq hf i hi = (
    panel_upper_left t w f b a (a + b) k l sl b q (panel_exchanged t w f p a b s).upper hq hf i hi ∙ (panel_exchanged_left t w f b p a s b q hq hf i hi).0,
    panel_lower_left t w f b a (a + b) k l sl b q (panel_upper t w f b sl (a + b) a b (panel_exchanged t w f p a b s).upper) (panel_exchanged t w f p a b s).lower hq hf i hi ∙ (panel_exchanged_left t w f b p a s b q hq hf i hi).1,
  )
