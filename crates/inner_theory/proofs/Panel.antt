-- A deferred panel leaves what its single columns leave. Assumes nothing.
use Prim.Native.Nat.{ℕ, zero, suc, ◌+◌, ◌≤◌, ◌<◌}
use mathlib.Core.Bool.{true, false, cond, ◌&&◌}
use mathlib.Core.Path.{◌≡◌, refl, sym, ap, ap₂, ◌∙◌, fun_ext}
use mathlib.Core.Logic.{◌⊎◌, inl, inr}
use mathlib.Core.Option.{Option}
use native.Mathlib.Omega.{arith}
use native.Mathlib.Nat.{add-suc, add-zero}
use lib.Dec.{eqb, ltb}
use borrow.Author.Tests.{eqb-false, ltb-true, ltb-false, le-ltb}
use Rattle.inner_theory.specs.Setting.{Setting, Laws}
use Rattle.inner_theory.specs.Stack.{Place, up, low, Column, swap, exchanged, exchanges, updated, updates, steps, stored, upper_updated, lower_updated, uppers, lowers, panel}
use Rattle.inner_theory.proofs.Tests.{true_or_false, and_false, and_left, and_right}
use Rattle.inner_theory.proofs.Vector.{swap_other, deferred}

module _ (N : Setting) (L : Laws N) where
  -- ---- where a panel's multipliers are zeros

  module _ (e : ℕ → Option N.Row) (m : ℕ → Column N) (a : ℕ) (none_above : (c i : ℕ) → N.is_zero (m c (up i)) ≡ true) where
    pub stored_above : (n c i : ℕ) → i ≤ c → c < a + n → N.is_zero (stored N e m a n c (up i)) ≡ true
    unfolding stored
    stored_above zero c i h l = L.nought_zero
    stored_above (suc n) c i h l = go (λ k. stored_above n c i h k) (true_or_false (eqb c (a + n)))
      where
        go : (c < a + n → N.is_zero (stored N e m a n c (up i)) ≡ true) → (eqb c (a + n) ≡ true) ⊎ (eqb c (a + n) ≡ false) → N.is_zero (cond (eqb c (a + n)) (m c (up i)) (stored N e m a n c (swap N (a + n) (e (a + n)) (up i)))) ≡ true
        go ih (inl t) = rw t (none_above c i)
        go ih (inr f) =
            let d : c ≡ a + n → ⊥ = eqb-false c (a + n) f in
            let k : c < a + n = omega arith in
            rw (f, swap_other N (a + n) (e (a + n)) i (λ (z : i ≡ a + n). omega arith)) (ih k)

    pub stored_below : (n c i : ℕ) → a + n ≤ i → N.is_zero (stored N e m a n c (up i)) ≡ true
    unfolding stored
    stored_below zero c i h = L.nought_zero
    stored_below (suc n) c i h = go (stored_below n c i (omega arith)) (true_or_false (eqb c (a + n)))
      where
        go : N.is_zero (stored N e m a n c (up i)) ≡ true → (eqb c (a + n) ≡ true) ⊎ (eqb c (a + n) ≡ false) → N.is_zero (cond (eqb c (a + n)) (m c (up i)) (stored N e m a n c (swap N (a + n) (e (a + n)) (up i)))) ≡ true
        go ih (inl t) = rw t (none_above c i)
        go ih (inr f) = rw (f, swap_other N (a + n) (e (a + n)) i (λ (z : i ≡ a + n). omega arith)) ih

  -- ---- first the upper rows, then the lower: the same numbers as all rows column by column

  module _ (m : ℕ → Column N) (a n : ℕ) (x : Column N)
      (above : (c i : ℕ) → i ≤ c → c < a + n → N.is_zero (m c (up i)) ≡ true)
      (below : (c i : ℕ) → a + n ≤ i → N.is_zero (m c (up i)) ≡ true) where
    pub uppers_up : (k : ℕ) → k ≤ n → (i : ℕ) → uppers N m (a + n) a k x (up i) ≡ updates N m a k x (up i)
    unfolding uppers updates upper_updated updated
    uppers_up zero h i = refl
    uppers_up (suc k) h i = go (uppers_up k (omega arith) i) (uppers_up k (omega arith) (a + k)) (true_or_false (ltb (a + k) i && ltb i (a + n)))
      where
        go : uppers N m (a + n) a k x (up i) ≡ updates N m a k x (up i)
            → uppers N m (a + n) a k x (up (a + k)) ≡ updates N m a k x (up (a + k))
            → ((ltb (a + k) i && ltb i (a + n)) ≡ true) ⊎ ((ltb (a + k) i && ltb i (a + n)) ≡ false)
            → cond (ltb (a + k) i && ltb i (a + n)) (N.update (uppers N m (a + n) a k x (up i)) (m (a + k) (up i)) (uppers N m (a + n) a k x (up (a + k)))) (uppers N m (a + n) a k x (up i)) ≡ N.update (updates N m a k x (up i)) (m (a + k) (up i)) (updates N m a k x (up (a + k)))
        go p q (inl t) = rw (t, p, q)
        go p q (inr f) = rw (f, p) (sym (L.zero_update _ _ _ (out (and_false _ _ f))))
          where
            out : (ltb (a + k) i ≡ false) ⊎ (ltb i (a + n) ≡ false) → N.is_zero (m (a + k) (up i)) ≡ true
            out (inl g) = above (a + k) i (ltb-false (a + k) i g) (omega arith)
            out (inr g) = below (a + k) i (ltb-false i (a + n) g)

    pub uppers_low : (k : ℕ) (r : N.Row) → uppers N m (a + n) a k x (low r) ≡ x (low r)
    unfolding uppers upper_updated
    uppers_low zero r = refl
    uppers_low (suc k) r = uppers_low k r

    -- row i is settled once its column is reached
    pub settled : (k j i : ℕ) → i ≤ a + k → uppers N m (a + n) a (k + j) x (up i) ≡ uppers N m (a + n) a k x (up i)
    unfolding uppers upper_updated
    settled k zero i h = rw add-zero
    settled k (suc j) i h = rw (add-suc, le-ltb (a + (k + j)) i (omega arith)) (settled k j i h)

    pub lowers_up : (k : ℕ) (y : Column N) (i : ℕ) → lowers N m a k y (up i) ≡ y (up i)
    unfolding lowers lower_updated
    lowers_up zero y i = refl
    lowers_up (suc k) y i = lowers_up k y i

    pub settled_all : (k j : ℕ) → k + j ≡ n → uppers N m (a + n) a n x (up (a + k)) ≡ updates N m a k x (up (a + k))
    settled_all k j h = ap (λ (l : ℕ). uppers N m (a + n) a l x (up (a + k))) (sym h) ∙ (settled k j (a + k) (omega arith) ∙ uppers_up k (omega arith) (a + k))

    pub lowers_low : (k j : ℕ) → k + j ≡ n → (r : N.Row) → lowers N m a k (uppers N m (a + n) a n x) (low r) ≡ updates N m a k x (low r)
    unfolding lowers lower_updated updates updated
    lowers_low zero j h r = uppers_low n r
    lowers_low (suc k) j h r =
        ap₂ (λ (u v : N.Num). N.update u (m (a + k) (low r)) v) (lowers_low k (suc j) (omega arith) r)
        (lowers_up k (uppers N m (a + n) a n x) (a + k) ∙ settled_all k (suc j) (omega arith))

    pub in_order : lowers N m a n (uppers N m (a + n) a n x) ≡ updates N m a n x
    in_order = fun_ext at
      where
        at : (p : Place N.Row) → lowers N m a n (uppers N m (a + n) a n x) p ≡ updates N m a n x p
        at (up i) = lowers_up n (uppers N m (a + n) a n x) i ∙ uppers_up n (omega arith) i
        at (low r) = lowers_low n 0 (omega arith) r

  pub panel_steps : (e : ℕ → Option N.Row) (m : ℕ → Column N) → ((c i : ℕ) → N.is_zero (m c (up i)) ≡ true) → (a n : ℕ) (x : Column N) → panel N e (stored N e m a n) a n x ≡ steps N e m a n x
  unfolding panel
  panel_steps e m z a n x = in_order (stored N e m a n) a n (exchanges N e a n x) (stored_above e m a z n) (stored_below e m a z n) ∙ deferred N e m a x n

  -- ---- a panel reads only its own entries and multipliers

  pub exchanges_cong : (e e' : ℕ → Option N.Row) (a n : ℕ) (x : Column N) → ((c : ℕ) → a ≤ c → c < a + n → e c ≡ e' c) → exchanges N e a n x ≡ exchanges N e' a n x
  unfolding exchanges
  exchanges_cong e e' a zero x h = refl
  exchanges_cong e e' a (suc n) x h = ap₂ (exchanged N (a + n)) (h (a + n) (omega arith) (omega arith)) (exchanges_cong e e' a n x (λ c l u. h c l (omega arith)))

  pub uppers_cong : (m m' : ℕ → Column N) (z a n : ℕ) (x : Column N) → ((c i : ℕ) → a ≤ c → c < a + n → c < i → i < z → m c (up i) ≡ m' c (up i)) → uppers N m z a n x ≡ uppers N m' z a n x
  unfolding uppers upper_updated
  uppers_cong m m' z a zero x h = refl
  uppers_cong m m' z a (suc n) x h =
      fun_ext (at (uppers N m z a n x)) ∙ ap (upper_updated N z (a + n) (m' (a + n))) (uppers_cong m m' z a n x (λ c i l u. h c i l (omega arith)))
    where
      at : (y : Column N) (p : Place N.Row) → upper_updated N z (a + n) (m (a + n)) y p ≡ upper_updated N z (a + n) (m' (a + n)) y p
      at y (up i) = go (true_or_false (ltb (a + n) i && ltb i z))
        where
          go : ((ltb (a + n) i && ltb i z) ≡ true) ⊎ ((ltb (a + n) i && ltb i z) ≡ false) → upper_updated N z (a + n) (m (a + n)) y (up i) ≡ upper_updated N z (a + n) (m' (a + n)) y (up i)
          go (inl t) = rw (t, h (a + n) i (omega arith) (omega arith) (ltb-true (a + n) i (and_left _ _ t)) (ltb-true i z (and_right _ _ t)))
          go (inr f) = rw f
      at y (low r) = refl

  pub lowers_cong : (m m' : ℕ → Column N) (a n : ℕ) (x : Column N) → ((c : ℕ) (r : N.Row) → a ≤ c → c < a + n → m c (low r) ≡ m' c (low r)) → lowers N m a n x ≡ lowers N m' a n x
  unfolding lowers lower_updated
  lowers_cong m m' a zero x h = refl
  lowers_cong m m' a (suc n) x h =
      fun_ext (at (lowers N m a n x)) ∙ ap (lower_updated N (a + n) (m' (a + n))) (lowers_cong m m' a n x (λ c r l u. h c r l (omega arith)))
    where
      at : (y : Column N) (p : Place N.Row) → lower_updated N (a + n) (m (a + n)) y p ≡ lower_updated N (a + n) (m' (a + n)) y p
      at y (up i) = refl
      at y (low r) = ap (λ (v : N.Num). N.update (y (low r)) v (y (up (a + n)))) (h (a + n) r (omega arith) (omega arith))

  pub panel_cong : (e e' : ℕ → Option N.Row) (m m' : ℕ → Column N) (a n : ℕ) (x : Column N)
      → ((c : ℕ) → a ≤ c → c < a + n → e c ≡ e' c)
      → ((c i : ℕ) → a ≤ c → c < a + n → c < i → i < a + n → m c (up i) ≡ m' c (up i))
      → ((c : ℕ) (r : N.Row) → a ≤ c → c < a + n → m c (low r) ≡ m' c (low r))
      → panel N e m a n x ≡ panel N e' m' a n x
  unfolding panel
  panel_cong e e' m m' a n x he hu hl =
      lowers_cong m m' a n (uppers N m (a + n) a n (exchanges N e a n x)) hl
      ∙ ap (lowers N m' a n) (uppers_cong m m' (a + n) a n (exchanges N e a n x) hu ∙ ap (uppers N m' (a + n) a n) (exchanges_cong e e' a n x he))
