-- T-3 by single columns: what each leaves, and what all of a panel do to a column right of it. Assumes nothing.
use Prim.Native.Nat.{ℕ, zero, suc, ◌+◌, ◌≤◌, ◌<◌}
use mathlib.Core.Bool.{true, false, cond}
use mathlib.Core.Path.{◌≡◌, refl, sym, ap, ap₂, ◌∙◌, fun_ext}
use mathlib.Core.Logic.{◌⊎◌, inl, inr}
use mathlib.Core.Option.{Option, none, some}
use native.Mathlib.Omega.{arith}
use native.Mathlib.Nat.{add-suc, add-zero, zero-add, add_assoc}
use lib.Dec.{eqb}
use borrow.Author.Tests.{eq-eqb, ne_eqb}
use Rattle.inner_theory.specs.Setting.{Setting, Laws}
use Rattle.inner_theory.specs.Stack.{Place, up, low, Column, swap, exchanged, updated, steps}
use Rattle.inner_theory.specs.Columns.{put, Tiles, col, candidates, zero_pivot, entry, fresh, multipliers, onward, Coupled, run₃, run₄}
use Rattle.inner_theory.proofs.Tests.{true_or_false, cond_true, cond_false, Side, before, equal, after, side, at_before, at_equal, at_after}

-- ---- a tile after column c

module _ (N : Setting) where
  pub split_steps : (e : ℕ → Option N.Row) (m : ℕ → Column N) (a k n : ℕ) (x : Column N) → steps N e m a (k + n) x ≡ steps N e m (a + k) n (steps N e m a k x)
  unfolding steps
  split_steps e m a k zero x = rw add-zero
  split_steps e m a k (suc n) x = rw (add-suc, add_assoc) (ap (λ (y : Column N). updated N (a + (k + n)) (m (a + (k + n))) (exchanged N (a + (k + n)) (e (a + (k + n))) y)) (split_steps e m a k n x))

  pub steps_cong : (e e' : ℕ → Option N.Row) (m m' : ℕ → Column N) (a n : ℕ) (x : Column N) → ((c : ℕ) → a ≤ c → c < a + n → e c ≡ e' c) → ((c : ℕ) → a ≤ c → c < a + n → m c ≡ m' c) → steps N e m a n x ≡ steps N e' m' a n x
  unfolding steps
  steps_cong e e' m m' a zero x h g = refl
  steps_cong e e' m m' a (suc n) x h g =
      ap₂ (updated N (a + n)) (g (a + n) (omega arith) (omega arith)) (ap₂ (exchanged N (a + n)) (h (a + n) (omega arith) (omega arith)) (steps_cong e e' m m' a n x (λ c l u. h c l (omega arith)) (λ c l u. g c l (omega arith))))

  pub run₄-steps : (A : Tiles N) (e : ℕ → Option N.Row) (n : ℕ) (x : Column N) → run₄ N A e n x ≡ steps N e (λ c. multipliers N (col N A c)) 0 n x
  unfolding run₄ steps
  run₄-steps A e zero x = refl
  run₄-steps A e (suc n) x = rw zero-add (ap (λ (y : Column N). updated N n (multipliers N (col N A n)) (exchanged N n (e n) y)) (run₄-steps A e n x))

  pub no_multiplier_above : Laws N → (x : Column N) (i : ℕ) → N.is_zero (multipliers N x (up i)) ≡ true
  unfolding multipliers
  no_multiplier_above L x i = L.nought_zero

  pub fresh_flat : (c : ℕ) (y : Column N) → zero_pivot N c y ≡ true → fresh N c y ≡ y
  unfolding fresh
  fresh_flat c y t = rw t

  pub entry_flat : (c : ℕ) (y : Column N) → zero_pivot N c y ≡ true → entry N c y ≡ none
  unfolding entry
  entry_flat c y t = rw t

  pub flat_zeros : Laws N → (c : ℕ) (y : Column N) → ((o : Option N.Row) → N.finite (candidates N c y o) ≡ true) → zero_pivot N c y ≡ true → (p : Place N.Row) → N.is_zero (multipliers N (fresh N c y) p) ≡ true
  unfolding multipliers zero_pivot candidates
  flat_zeros L c y h t (up i) = L.nought_zero
  flat_zeros L c y h t (low r) = rw (fresh_flat c y t) (L.flat_zero (candidates N c y) h t (some r))

  -- nothing exchanged and everything updated by zeros
  pub idle : Laws N → (c : ℕ) (m x : Column N) → ((p : Place N.Row) → N.is_zero (m p) ≡ true) → updated N c m (exchanged N c none x) ≡ x
  unfolding updated exchanged swap
  idle L c m x z = fun_ext (λ p. L.zero_update _ _ _ (z p))

  -- a zero pivot's column is zeros, so it may as well exchange nothing and update by them
  pub onward_law : Laws N → (c : ℕ) (y x : Column N) → ((o : Option N.Row) → N.finite (candidates N c y o) ≡ true) → onward N c y x ≡ updated N c (multipliers N (fresh N c y)) (exchanged N c (entry N c y) x)
  unfolding onward
  onward_law L c y x h = go (true_or_false (zero_pivot N c y))
    where
      go : (zero_pivot N c y ≡ true) ⊎ (zero_pivot N c y ≡ false) → cond (zero_pivot N c y) x (updated N c (multipliers N (fresh N c y)) (exchanged N c (entry N c y) x)) ≡ updated N c (multipliers N (fresh N c y)) (exchanged N c (entry N c y) x)
      go (inl t) = rw (t, entry_flat c y t) (sym (idle L c (multipliers N (fresh N c y)) x (flat_zeros L c y h t)))
      go (inr f) = rw f

  module _ (s : Coupled N) where
    abbrev pub before₃ : ℕ → Column N
    before₃ c = col N (run₃ N c s).tiles c

    abbrev pub E : ℕ → Option N.Row
    E c = entry N c (before₃ c)

    abbrev pub F : ℕ → Column N
    F c = fresh N c (before₃ c)

    abbrev pub M : ℕ → Column N
    M c = multipliers N (F c)

    pub left : (n q : ℕ) → q < n → (p : Place N.Row) → (run₃ N n s).tiles p q ≡ F q p
    unfolding run₃
    left zero q h p = absurd (omega arith)
    left (suc n) q h p = go (λ k. left n q k p) (side q n)
      where
        go : (q < n → (run₃ N n s).tiles p q ≡ F q p) → Side q n → (run₃ N (suc n) s).tiles p q ≡ F q p
        go ih (before k) = at_before q n _ _ _ k ∙ ih k
        go ih (equal k) = at_equal q n _ _ _ k ∙ ap (λ (c : ℕ). F c p) (sym k)
        go ih (after k) = absurd (omega arith)

    pub rows_left_lem : (n q : ℕ) → q < n → (run₃ N n s).rows q ≡ E q
    unfolding run₃ put
    rows_left_lem zero q h = absurd (omega arith)
    rows_left_lem (suc n) q h = go (λ k. rows_left_lem n q k) (side q n)
      where
        go : (q < n → (run₃ N n s).rows q ≡ E q) → Side q n → (run₃ N (suc n) s).rows q ≡ E q
        go ih (before k) = cond_false (eqb q n) _ _ (ne_eqb q n (λ (z : q ≡ n). omega arith)) ∙ ih k
        go ih (equal k) = cond_true (eqb q n) _ _ (eq-eqb q n k) ∙ ap E (sym k)
        go ih (after k) = absurd (omega arith)

    abbrev pub Pivots : ℕ → ℕ → Type 0
    Pivots a n = (c : ℕ) → a ≤ c → c < a + n → (o : Option N.Row) → N.finite (candidates N c (before₃ c) o) ≡ true

    pub right_one : Laws N → (c q : ℕ) → c < q → ((o : Option N.Row) → N.finite (candidates N c (before₃ c) o) ≡ true) → col N (run₃ N (suc c) s).tiles q ≡ updated N c (M c) (exchanged N c (E c) (col N (run₃ N c s).tiles q))
    unfolding run₃ col
    right_one L c q k h = fun_ext (λ p. at_after q c _ _ _ k ∙ ap (λ (x : Column N). x p) (onward_law L c (before₃ c) (col N (run₃ N c s).tiles q) h))

    -- right of a panel, single columns
    pub right : Laws N → (a n q : ℕ) → a + n ≤ q → Pivots a n → col N (run₃ N (a + n) s).tiles q ≡ steps N E M a n (col N (run₃ N a s).tiles q)
    unfolding steps
    right L a zero q k h = rw add-zero
    right L a (suc n) q k h =
        rw add-suc (right_one L (a + n) q (omega arith) (h (a + n) (omega arith) (omega arith))
        ∙ ap (λ (y : Column N). updated N (a + n) (M (a + n)) (exchanged N (a + n) (E (a + n)) y)) (right L a n q (omega arith) (λ c l u. h c l (omega arith))))
