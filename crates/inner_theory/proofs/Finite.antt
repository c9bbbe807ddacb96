-- A deferred panel computes finite numbers only, just where its single columns do. Assumes nothing.
use Prim.Native.Nat.{ℕ, zero, suc, ◌+◌, ◌-◌, ◌≤◌, ◌<◌}
use mathlib.Core.Bool.{true, false, cond}
use mathlib.Core.Path.{◌≡◌, refl, sym, ap, ◌∙◌, subst}
use mathlib.Core.Logic.{◌⊎◌, inl, inr}
use mathlib.Core.Option.{Option, none, some}
use native.Mathlib.Omega.{arith}
use lib.Dec.{eqb}
use borrow.Author.Tests.{eqb-true, eq-eqb}
use Rattle.inner_theory.specs.Setting.{Setting, Laws}
use Rattle.inner_theory.specs.Stack.{Place, up, low, Column, swap, exchanged, exchanges, updated, updates, steps, stored, uppers, lowers}
use Rattle.inner_theory.specs.Sound.{Inside, AllFinite, Fine, SoundSteps, SoundPanel}
use Rattle.inner_theory.proofs.Tests.{true_or_false, never, lt_or_le}
use Rattle.inner_theory.proofs.Vector.{on_the_way}
use Rattle.inner_theory.proofs.Panel.{stored_above, stored_below, uppers_up, lowers_low, exchanges_cong, uppers_cong, lowers_cong}
use Rattle.inner_theory.proofs.Inside.{swap_inside}

module _ (N : Setting) (L : Laws N) where
  pub swap_swap : (c : ℕ) (e : Option N.Row) (p : Place N.Row) → swap N c e (swap N c e p) ≡ p
  unfolding swap
  swap_swap c none p = refl
  swap_swap c (some r) (up i) = go (true_or_false (eqb i c))
    where
      go : (eqb i c ≡ true) ⊎ (eqb i c ≡ false) → swap N c (some r) (cond (eqb i c) (low r) (up i)) ≡ up i
      go (inl t) = rw (t, L.same_refl r) (ap up (sym (eqb-true i c t)))
      go (inr f) = rw (f, f)
  swap_swap c (some r) (low q) = go (true_or_false (N.same q r))
    where
      go : (N.same q r ≡ true) ⊎ (N.same q r ≡ false) → swap N c (some r) (cond (N.same q r) (up c) (low q)) ≡ low q
      go (inl t) = rw (t, eq-eqb c c refl) (ap low (sym (L.same_eq q r t)))
      go (inr f) = rw (f, f)

  module _ (a b : ℕ) where
    pub exchange_keeps : (c : ℕ) (e : Option N.Row) (x : Column N) → a ≤ c → c < a + b → AllFinite N a b x → AllFinite N a b (exchanged N c e x)
    unfolding exchanged
    exchange_keeps c e x l u h p hp = h (swap N c e p) (swap_inside N a b c e p l u hp)

    pub exchange_tells : (c : ℕ) (e : Option N.Row) (x : Column N) → a ≤ c → c < a + b → AllFinite N a b (exchanged N c e x) → AllFinite N a b x
    unfolding exchanged
    exchange_tells c e x l u h p hp = subst (λ (q : Place N.Row). N.finite (x q) ≡ true) (swap_swap c e p) (h (swap N c e p) (swap_inside N a b c e p l u hp))

    pub exchanges_keep : (e : ℕ → Option N.Row) (d j : ℕ) (x : Column N) → a ≤ d → d + j ≤ a + b → AllFinite N a b x → AllFinite N a b (exchanges N e d j x)
    unfolding exchanges
    exchanges_keep e d zero x l u h = h
    exchanges_keep e d (suc j) x l u h = exchange_keeps (d + j) (e (d + j)) (exchanges N e d j x) (omega arith) (omega arith) (exchanges_keep e d j x l (omega arith) h)

    pub exchanges_tell : (e : ℕ → Option N.Row) (d j : ℕ) (x : Column N) → a ≤ d → d + j ≤ a + b → AllFinite N a b (exchanges N e d j x) → AllFinite N a b x
    unfolding exchanges
    exchanges_tell e d zero x l u h = h
    exchanges_tell e d (suc j) x l u h = exchanges_tell e d j x l (omega arith) (exchange_tells (d + j) (e (d + j)) (exchanges N e d j x) (omega arith) (omega arith) h)

    -- kept, or computed and finite
    pub update_keeps : (c : ℕ) (m x : Column N) → AllFinite N a b x → ((p : Place N.Row) → Inside a b p → Fine N (m p) (updated N c m x p)) → AllFinite N a b (updated N c m x)
    unfolding updated
    update_keeps c m x h g p hp = go (true_or_false (N.is_zero (m p)))
      where
        go : (N.is_zero (m p) ≡ true) ⊎ (N.is_zero (m p) ≡ false) → N.finite (N.update (x p) (m p) (x (up c))) ≡ true
        go (inl t) = rw (L.zero_update (x p) (m p) (x (up c)) t) (h p hp)
        go (inr f) = g p hp f

  module _ (e : ℕ → Option N.Row) (m : ℕ → Column N) (none_above : (c i : ℕ) → N.is_zero (m c (up i)) ≡ true) (a : ℕ) (x : Column N) where
    -- ---- single columns
    pub steps_finite : (d b n : ℕ) → d ≤ a → a + n ≤ d + b → AllFinite N d b x → SoundSteps N e m a n x → (k : ℕ) → k ≤ n → AllFinite N d b (steps N e m a k x)
    unfolding steps
    steps_finite d b n i o h g zero l = h
    steps_finite d b n i o h g (suc k) l =
        update_keeps d b (a + k) (m (a + k)) (exchanged N (a + k) (e (a + k)) (steps N e m a k x))
        (exchange_keeps d b (a + k) (e (a + k)) (steps N e m a k x) (omega arith) (omega arith) (steps_finite d b n i o h g k (omega arith)))
        at
      where
        at : (p : Place N.Row) → Inside d b p → Fine N (m (a + k) p) (steps N e m a (suc k) x p)
        at (up i) hp f = never (none_above (a + k) i) f
        at (low r) hp f = g k l r f

    way : (n k j : ℕ) → k + j ≡ n → updates N (stored N e m a n) a k (exchanges N e a n x) ≡ exchanges N e (a + k) j (steps N e m a k x)
    way n k j h = subst (λ (n : ℕ). updates N (stored N e m a n) a k (exchanges N e a n x) ≡ exchanges N e (a + k) j (steps N e m a k x)) h (on_the_way N e m a x k j)

    -- ---- the panel

    -- its numbers are those of all rows column by column
    panel_up : (n k i : ℕ) → k ≤ n → uppers N (stored N e m a n) (a + n) a k (exchanges N e a n x) (up i) ≡ updates N (stored N e m a n) a k (exchanges N e a n x) (up i)
    panel_up n k i h = uppers_up N L (stored N e m a n) a n (exchanges N e a n x) (stored_above N L e m a none_above n) (stored_below N L e m a none_above n) k h i

    panel_low : (n k j : ℕ) (r : N.Row) → k + j ≡ n → lowers N (stored N e m a n) a k (uppers N (stored N e m a n) (a + n) a n (exchanges N e a n x)) (low r) ≡ updates N (stored N e m a n) a k (exchanges N e a n x) (low r)
    panel_low n k j r h = lowers_low N L (stored N e m a n) a n (exchanges N e a n x) (stored_above N L e m a none_above n) (stored_below N L e m a none_above n) k j h r

    panel_finite : (n : ℕ) → SoundPanel N e (stored N e m a n) a n x → AllFinite N a n x → (k j : ℕ) → k + j ≡ n → AllFinite N a n (updates N (stored N e m a n) a k (exchanges N e a n x))
    unfolding updates
    panel_finite n s h zero j l = exchanges_keep a n e a n x (omega arith) (omega arith) h
    panel_finite n s h (suc k) j l =
        update_keeps a n (a + k) (stored N e m a n (a + k)) (updates N (stored N e m a n) a k (exchanges N e a n x)) (panel_finite n s h k (suc j) (omega arith)) at
      where
        at : (p : Place N.Row) → Inside a n p → Fine N (stored N e m a n (a + k) p) (updates N (stored N e m a n) a (suc k) (exchanges N e a n x) p)
        at (up i) hp f = go (lt_or_le (a + k) i)
          where
            go : (a + k < i) ⊎ (i ≤ a + k) → N.finite (updates N (stored N e m a n) a (suc k) (exchanges N e a n x) (up i)) ≡ true
            go (inl g) = ap N.finite (sym (panel_up n (suc k) i (omega arith))) ∙ s.upper k i (omega arith) g hp.1 f
            go (inr g) = never (stored_above N L e m a none_above n (a + k) i g (omega arith)) f
        at (low r) hp f = ap N.finite (sym (panel_low n (suc k) j r l)) ∙ s.lower k (omega arith) r f

    pub sound_panel : (n : ℕ) → AllFinite N a n x → SoundSteps N e m a n x → SoundPanel N e (stored N e m a n) a n x
    sound_panel n h g = record {
      upper = λ k i l u v f. ap N.finite (panel_up n (suc k) i l) ∙ all (suc k) l (up i) (omega arith, v);
      lower = λ k l r f. ap N.finite (panel_low n (suc k) (n - suc k) r (omega arith)) ∙ all (suc k) l (low r) tt;
    }
      where
        all : (k : ℕ) → k ≤ n → AllFinite N a n (updates N (stored N e m a n) a k (exchanges N e a n x))
        all k l = rw (way n k (n - k) (omega arith)) (exchanges_keep a n e (a + k) (n - k) (steps N e m a k x) (omega arith) (omega arith) (steps_finite a n n (omega arith) (omega arith) h g k l))

    pub sound_steps : (n : ℕ) → AllFinite N a n x → SoundPanel N e (stored N e m a n) a n x → SoundSteps N e m a n x
    sound_steps n h s k l r f =
        exchanges_tell a n e (a + suc k) (n - suc k) (steps N e m a (suc k) x) (omega arith) (omega arith)
        (rw (way n (suc k) (n - suc k) (omega arith)) at (panel_finite n s h (suc k) (n - suc k) (omega arith)))
        (low r) tt

  -- ---- all that a panel computes depends only on its own entries and multipliers

  pub sound_cong : (e e' : ℕ → Option N.Row) (m m' : ℕ → Column N) (a n : ℕ) (x x' : Column N)
      → ((c : ℕ) → a ≤ c → c < a + n → e c ≡ e' c)
      → ((c : ℕ) → a ≤ c → c < a + n → (p : Place N.Row) → Inside a n p → m c p ≡ m' c p)
      → x ≡ x'
      → SoundPanel N e m a n x → SoundPanel N e' m' a n x'
  sound_cong e e' m m' a n x x' he hm hx s = record {
    upper = λ k i l u v f.
        ap (λ (y : Column N). N.finite (y (up i))) (sym (ups (suc k) l)) ∙ s.upper k i l u v (ap N.is_zero (hm (a + k) (omega arith) (omega arith) (up i) (omega arith, v)) ∙ f);
    lower = λ k l r f.
        ap (λ (y : Column N). N.finite (y (low r))) (sym (lows (suc k) l)) ∙ s.lower k l r (ap N.is_zero (hm (a + k) (omega arith) (omega arith) (low r) tt) ∙ f);
  }
    where
      ups : (k : ℕ) → k ≤ n → uppers N m (a + n) a k (exchanges N e a n x) ≡ uppers N m' (a + n) a k (exchanges N e' a n x')
      ups k l = uppers_cong N L m m' (a + n) a k (exchanges N e a n x) (λ c i g u v w. hm c g (omega arith) (up i) (omega arith, w)) ∙ ap (uppers N m' (a + n) a k) (exchanges_cong N L e e' a n x he ∙ ap (exchanges N e' a n) hx)

      lows : (k : ℕ) → k ≤ n → lowers N m a k (uppers N m (a + n) a n (exchanges N e a n x)) ≡ lowers N m' a k (uppers N m' (a + n) a n (exchanges N e' a n x'))
      lows k l = lowers_cong N L m m' a k (uppers N m (a + n) a n (exchanges N e a n x)) (λ c r g u. hm c g (omega arith) (low r) tt) ∙ ap (lowers N m' a k) (ups n (omega arith))

  pub narrow : (d b a n : ℕ) (x : Column N) → d ≤ a → a + n ≤ d + b → AllFinite N d b x → AllFinite N a n x
  narrow d b a n x l u h (up i) hp = h (up i) (omega (arith, hp.0), omega (arith, hp.1))
  narrow d b a n x l u h (low r) hp = h (low r) tt
