-- Where no update makes a finite number of one that isn't, what a panel leaves shows what it computed. Assumes nothing.
use Prim.Native.Nat.{ℕ, zero, suc, ◌+◌, ◌-◌, ◌<◌}
use mathlib.Core.Bool.{Bool, true, false, cond, ◌&&◌}
use mathlib.Core.Path.{◌≡◌, refl, sym, ap, ◌∙◌, subst}
use mathlib.Core.Option.{Option}
use native.Mathlib.Omega.{arith}
use native.Mathlib.Nat.{add-suc, add-zero}
use lib.Dec.{ltb}
use Rattle.inner_theory.specs.Setting.{Setting}
use Rattle.inner_theory.specs.Stack.{up, low, Column, exchanges, upper_updated, lower_updated, uppers, lowers, panel}
use Rattle.inner_theory.specs.Sound.{AllFinite, SoundPanel}

module _ (N : Setting) (keeps : (x m y : N.Num) → N.finite (N.update x m y) ≡ true → N.finite x ≡ true) where
  lowers_back : (m : ℕ → Column N) (a : ℕ) (x : Column N) (r : N.Row) (k j : ℕ) → N.finite (lowers N m a (k + j) x (low r)) ≡ true → N.finite (lowers N m a k x (low r)) ≡ true
  unfolding lowers lower_updated
  lowers_back m a x r k zero h = rw add-zero at h
  lowers_back m a x r k (suc j) h = lowers_back m a x r k j (keeps _ _ _ (rw add-suc at h))

  uppers_step : (m : ℕ → Column N) (z a n i : ℕ) (x : Column N) → N.finite (uppers N m z a (suc n) x (up i)) ≡ true → N.finite (uppers N m z a n x (up i)) ≡ true
  unfolding uppers upper_updated
  uppers_step m z a n i x = go (ltb (a + n) i && ltb i z)
    where
      go : (b : Bool) → N.finite (cond b (N.update (uppers N m z a n x (up i)) (m (a + n) (up i)) (uppers N m z a n x (up (a + n)))) (uppers N m z a n x (up i))) ≡ true → N.finite (uppers N m z a n x (up i)) ≡ true
      go true h = keeps _ _ _ h
      go false h = h

  uppers_back : (m : ℕ → Column N) (z a i : ℕ) (x : Column N) (k j : ℕ) → N.finite (uppers N m z a (k + j) x (up i)) ≡ true → N.finite (uppers N m z a k x (up i)) ≡ true
  uppers_back m z a i x k zero h = rw add-zero at h
  uppers_back m z a i x k (suc j) h = uppers_back m z a i x k j (uppers_step m z a (k + j) i x (rw add-suc at h))

  lowers_up : (m : ℕ → Column N) (a n i : ℕ) (x : Column N) → lowers N m a n x (up i) ≡ x (up i)
  unfolding lowers lower_updated
  lowers_up m a zero i x = refl
  lowers_up m a (suc n) i x = lowers_up m a n i x

  pub sound_after : (e : ℕ → Option N.Row) (m : ℕ → Column N) (a n : ℕ) (x : Column N) → AllFinite N a n (panel N e m a n x) → SoundPanel N e m a n x
  unfolding panel
  sound_after e m a n x h = record {
    upper = λ k i l u v f. uppers_back m (a + n) a i (exchanges N e a n x) (suc k) (n - suc k) (same k i l (ap N.finite (sym (lowers_up m a n i _)) ∙ h (up i) (omega arith, v)));
    lower = λ k l r f. lowers_back m a (uppers N m (a + n) a n (exchanges N e a n x)) r (suc k) (n - suc k) (same' k r l (h (low r) tt));
  }
    where
      same : (k i : ℕ) → k < n → N.finite (uppers N m (a + n) a n (exchanges N e a n x) (up i)) ≡ true → N.finite (uppers N m (a + n) a (suc k + (n - suc k)) (exchanges N e a n x) (up i)) ≡ true
      same k i l g = let d : n ≡ suc k + (n - suc k) = omega arith in subst (λ (c : ℕ). N.finite (uppers N m (a + n) a c (exchanges N e a n x) (up i)) ≡ true) d g

      same' : (k : ℕ) (r : N.Row) → k < n → N.finite (lowers N m a n (uppers N m (a + n) a n (exchanges N e a n x)) (low r)) ≡ true → N.finite (lowers N m a (suc k + (n - suc k)) (uppers N m (a + n) a n (exchanges N e a n x)) (low r)) ≡ true
      same' k r l g = let d : n ≡ suc k + (n - suc k) = omega arith in subst (λ (c : ℕ). N.finite (lowers N m a c (uppers N m (a + n) a n (exchanges N e a n x)) (low r)) ≡ true) d g
