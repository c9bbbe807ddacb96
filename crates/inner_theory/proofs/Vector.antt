-- The vector lemma: a panel's exchanges may all go before its updates, if they move the multipliers too. Assumes nothing.
use Prim.Native.Nat.{ℕ, zero, suc, ◌+◌, ◌≤◌, ◌<◌}
use mathlib.Core.Path.{◌≡◌, refl, sym, ap, ap₂, ◌∙◌, fun_ext}
use native.Mathlib.Omega.{arith}
use native.Mathlib.Nat.{add-suc, add-zero, add_assoc}
use mathlib.Core.Option.{Option, none, some}
use lib.Dec.{eqb}
use borrow.Author.Tests.{eq-eqb, ne_eqb}
use Rattle.inner_theory.specs.Setting.{Setting}
use Rattle.inner_theory.specs.Stack.{Place, up, low, Column, swap, exchanged, exchanges, updated, updates, steps, stored}
use Rattle.inner_theory.proofs.Tests.{cond_true, cond_false}

module _ (N : Setting) where
  -- an exchange at column c leaves every other upper row alone
  pub swap_other : (c : ℕ) (e : Option N.Row) (i : ℕ) → (i ≡ c → ⊥) → swap N c e (up i) ≡ up i
  unfolding swap
  swap_other c none i h = refl
  swap_other c (some r) i h = cond_false (eqb i c) (low r) (up i) (ne_eqb i c h)

  pub updates_cong : (m m' : ℕ → Column N) (a n : ℕ) (x : Column N) → ((c : ℕ) → a ≤ c → c < a + n → m c ≡ m' c) → updates N m a n x ≡ updates N m' a n x
  unfolding updates
  updates_cong m m' a zero x h = refl
  updates_cong m m' a (suc n) x h = ap₂ (updated N (a + n)) (h (a + n) (omega arith) (omega arith)) (updates_cong m m' a n x (λ c l u. h c l (omega arith)))

  pub pass_one : (m x : Column N) (k c : ℕ) (e : Option N.Row) → k < c → exchanged N c e (updated N k m x) ≡ updated N k (exchanged N c e m) (exchanged N c e x)
  unfolding exchanged updated
  pass_one m x k c e h = fun_ext (λ p. ap (λ (q : Place N.Row). N.update (x (swap N c e p)) (m (swap N c e p)) (x q)) (sym (swap_other c e k (λ (z : k ≡ c). omega arith))))

  -- one exchange of a later column passes the updates already made
  pub pass : (m : ℕ → Column N) (a n c : ℕ) (e : Option N.Row) (x : Column N) → a + n ≤ c → exchanged N c e (updates N m a n x) ≡ updates N (λ k. exchanged N c e (m k)) a n (exchanged N c e x)
  unfolding updates
  pass m a zero c e x h = refl
  pass m a (suc n) c e x h = pass_one (m (a + n)) (updates N m a n x) (a + n) c e (omega arith) ∙ ap (updated N (a + n) (exchanged N c e (m (a + n)))) (pass m a n c e x (omega arith))

  module _ (e : ℕ → Option N.Row) (m : ℕ → Column N) (a : ℕ) where
    pub stored_new : (n c : ℕ) → c ≡ a + n → stored N e m a (suc n) c ≡ m c
    unfolding stored
    stored_new n c h = fun_ext (λ p. cond_true (eqb c (a + n)) (m c p) _ (eq-eqb c (a + n) h))

    pub stored_old : (n c : ℕ) → c < a + n → stored N e m a (suc n) c ≡ exchanged N (a + n) (e (a + n)) (stored N e m a n c)
    unfolding stored exchanged
    stored_old n c h = fun_ext (λ p. cond_false (eqb c (a + n)) (m c p) _ (ne_eqb c (a + n) (λ (z : c ≡ a + n). omega arith)))

    -- the first k of n columns, with the exchanges of all n made before: the same with those of n + 1
    pub one_more : (x : Column N) (k n : ℕ) (z : Column N) → k ≤ n → updates N (stored N e m a n) a k (exchanges N e a n x) ≡ z → updates N (stored N e m a (suc n)) a k (exchanges N e a (suc n) x) ≡ exchanged N (a + n) (e (a + n)) z
    unfolding exchanges
    one_more x k n z h q =
        updates_cong (stored N e m a (suc n)) (λ c. exchanged N (a + n) (e (a + n)) (stored N e m a n c)) a k (exchanges N e a (suc n) x) (λ c l u. stored_old n c (omega arith))
        ∙ (sym (pass (stored N e m a n) a k (a + n) (e (a + n)) (exchanges N e a n x) (omega arith)) ∙ ap (exchanged N (a + n) (e (a + n))) q)

    pub deferred : (x : Column N) (n : ℕ) → updates N (stored N e m a n) a n (exchanges N e a n x) ≡ steps N e m a n x
    unfolding updates steps exchanges
    deferred x zero = refl
    deferred x (suc n) = ap₂ (updated N (a + n)) (stored_new n (a + n) refl) (one_more x n n (steps N e m a n x) (omega arith) (deferred x n))

    -- the numbers met on the way: after k of the panel's n = k + j columns, the deferred process holds what the other holds, in the places where the later exchanges put it
    pub on_the_way : (x : Column N) (k j : ℕ) → updates N (stored N e m a (k + j)) a k (exchanges N e a (k + j) x) ≡ exchanges N e (a + k) j (steps N e m a k x)
    unfolding exchanges
    on_the_way x k zero = rw add-zero (deferred x k)
    on_the_way x k (suc j) = rw (add-suc, add_assoc) (one_more x k (k + j) _ (omega arith) (on_the_way x k j))
