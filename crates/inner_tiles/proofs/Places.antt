-- Where T-3 with b leaves its multipliers. Assumes nothing.
use Prim.Native.Nat.{ℕ, zero, suc, ◌+◌, ◌-◌, ◌*◌, ◌/◌, ◌%◌, ◌≤◌, ◌<◌}
use mathlib.Core.Bool.{true, false, cond}
use mathlib.Core.List.{List}
use mathlib.Core.Option.{Option}
use mathlib.Core.Path.{◌≡◌, refl, sym, ap, ◌∙◌}
use mathlib.Core.Logic.{◌⊎◌, inl, inr}
use native.Mathlib.Omega.{arith}
use native.Mathlib.Nat.{div-add-mod', mod-lt, mul-le-mul_right, add-zero, add-suc}
use lib.ListN.{get_or}
use lib.Dec.{eqb, ltb}
use lib.Ieee.{Float}
use borrow.Author.Tests.{eqb-true, eqb-false, eq-eqb, ne_eqb, lt-ltb, le-ltb}
use Rattle.inner_theory.specs.Setting.{Setting}
use Rattle.inner_theory.specs.Stack.{Place, up, low, Column, swap, exchanged, stored}
use Rattle.inner_theory.specs.Columns
use Rattle.inner_theory.specs.Columns.{col, multipliers, held}
use Rattle.inner_theory.specs.Sound.{Inside}
use Rattle.inner_theory.specs.Theorem
use Rattle.inner_theory.specs.Theorem.{Good₃}
use Rattle.inner_theory.proofs.Tests.{cond_true, cond_false, lt_or_le}
use Rattle.inner_theory.proofs.Vector.{stored_new, stored_old}
use Rattle.inner_theory.proofs.Base.{E, M, left, rows_left_lem, Pivots}
use Rattle.inner_theory.proofs.Inside.{swap_inside}
use Rattle.inner_theory.proofs.Panels.{At, run_at}
use Rattle.inner_theory.proofs.Blocks.{finite_pivots}
use Rattle.model.specs.Tile.{at, swapped}
use Rattle.model.specs.Column.{Coupled}
use Rattle.laws.proofs.Tests.{true_or_false}
use Rattle.inner_tiles.specs.Instance.{Row, ieee, named}
use Rattle.inner_tiles.specs.Inner.{Inner, panel_start}
use Rattle.inner_tiles.specs.Views.{stack, view₃}
use Rattle.inner_tiles.specs.K5.{couple_columns, inner_couple_columns, opened, Sized, FiniteBlock, SoundCouple}
use Rattle.inner_tiles.specs.Places.{entry_swapped, came_from, multiplier_of, columns_left, Permuted}
use Rattle.inner_tiles.proofs.Instance.{laws, named_row}
use Rattle.inner_tiles.proofs.ThirdRuns.{third_sized, third_follows, inner_follows}
use Rattle.inner_tiles.proofs.Marks.{known, good}
use Rattle.inner_tiles.proofs.TaskSound.{couple_done}

-- ---- exchanges undone, in the theory

module _ (N : Setting) (e : ℕ → Option N.Row) where
  backs : ℕ → ℕ → Place N.Row → Place N.Row
  backs c zero q = q
  backs c (suc n) q = backs c n (swap N (suc (c + n)) (e (suc (c + n))) q)

  stored_backs : (m : ℕ → Column N) (a c k : ℕ) → a ≤ c → (q : Place N.Row) → stored N e m a (suc (c - a) + k) c q ≡ m c (backs c k q)
  unfolding backs exchanged
  stored_backs m a c zero l q = rw add-zero (ap (λ (x : Column N). x q) (stored_new N e m a (c - a) c (omega arith)))
  stored_backs m a c (suc k) l q =
      rw add-suc
      (ap (λ (x : Column N). x q) (stored_old N e m a (suc (c - a) + k) c (omega arith))
      ∙ (let d : a + (suc (c - a) + k) ≡ suc (c + k) = omega arith in
      ap (λ (y : ℕ). stored N e m a (suc (c - a) + k) c (swap N y (e y) q)) d ∙ stored_backs m a c k l (swap N (suc (c + k)) (e (suc (c + k))) q)))

-- ---- rows numbered through

module _ (t : ℕ) where
  number : Place (Row t) → ℕ
  number (up i) = i
  number (low r) = t + r.0

  abbrev Below : Place (Row t) → Type 0
  Below p = Inside 0 t p

  number_swap : (c e : ℕ) → c < t → e ≤ t → (q : Place (Row t)) → Below q → number (swap (ieee t) c (named t e) q) ≡ entry_swapped t c e (number q)
  unfolding swap named number entry_swapped swapped
  number_swap c zero hc he q h = refl
  number_swap c (suc r) hc he (up i) h = rw (ne_eqb (suc r) 0 (λ (z : suc r ≡ 0). omega arith), named_row t (r, lt-ltb r t he)) (go (true_or_false (eqb i c)))
    where
      go : (eqb i c ≡ true) ⊎ (eqb i c ≡ false) → number (cond (eqb i c) (low (r, lt-ltb r t he)) (up i)) ≡ cond (eqb i c) (t + r) (cond (eqb i (t + r)) c i)
      go (inl z) = rw z
      go (inr z) = rw (z, ne_eqb i (t + r) (λ (w : i ≡ t + r). omega (arith, h.1)))
  number_swap c (suc r) hc he (low s) h = rw (ne_eqb (suc r) 0 (λ (z : suc r ≡ 0). omega arith), named_row t (r, lt-ltb r t he), ne_eqb (t + s.0) c (λ (z : t + s.0 ≡ c). omega arith)) (go (true_or_false (eqb s.0 r)))
    where
      go : (eqb s.0 r ≡ true) ⊎ (eqb s.0 r ≡ false) → number (cond (eqb s.0 r) (up c) (low s)) ≡ cond (eqb (t + s.0) (t + r)) c (t + s.0)
      go (inl z) = let w : s.0 ≡ r = eqb-true s.0 r z in rw (z, eq-eqb (t + s.0) (t + r) (omega arith))
      go (inr z) = let w : s.0 ≡ r → ⊥ = eqb-false s.0 r z in rw (z, ne_eqb (t + s.0) (t + r) (λ (v : t + s.0 ≡ t + r). w (omega arith)))

  number_backs : (p : List ℕ) → ((c : ℕ) → c < t → get_or p c 0 ≤ t) → (c n : ℕ) → c + n < t → (q : Place (Row t)) → Below q → number (backs (ieee t) (λ c. named t (get_or p c 0)) c n q) ≡ came_from t p c n (number q)
  unfolding backs came_from
  number_backs p h c zero o q b = refl
  number_backs p h c (suc n) o q b =
      number_backs p h c n (omega arith) (swap (ieee t) (suc (c + n)) (named t (get_or p (suc (c + n)) 0)) q) (swap_inside (ieee t) 0 t (suc (c + n)) (named t (get_or p (suc (c + n)) 0)) q (omega arith) (omega arith) b)
      ∙ ap (came_from t p c n) (number_swap (suc (c + n)) (get_or p (suc (c + n)) 0) (omega arith) (h (suc (c + n)) (omega arith)) q b)

  backs_below : (e : ℕ → Option (Row t)) (c n : ℕ) → c + n < t → (q : Place (Row t)) → Below q → Below (backs (ieee t) e c n q)
  unfolding backs
  backs_below e c zero o q b = b
  backs_below e c (suc n) o q b = backs_below e c n (omega arith) (swap (ieee t) (suc (c + n)) (e (suc (c + n))) q) (swap_inside (ieee t) 0 t (suc (c + n)) (e (suc (c + n))) q (omega arith) (omega arith) b)

  multiplier_at : (u l : List Float) (c : ℕ) (q : Place (Row t)) → Below q → multipliers (ieee t) (col (ieee t) (stack t t u l) c) q ≡ multiplier_of t l c (number q)
  unfolding multipliers col stack multiplier_of number
  multiplier_at u l c (up i) h = sym (cond_true (ltb i t) _ _ (lt-ltb i t (omega (arith, h.1))))
  multiplier_at u l c (low r) h = let d : t + r.0 - t ≡ r.0 = omega arith in sym (cond_false (ltb (t + r.0) t) _ _ (le-ltb (t + r.0) t (omega arith)) ∙ ap (λ (x : ℕ). at t l x c) d)

  backs_same : (e e' : ℕ → Option (Row t)) (c n : ℕ) → ((d : ℕ) → c < d → d ≤ c + n → e d ≡ e' d) → (q : Place (Row t)) → backs (ieee t) e c n q ≡ backs (ieee t) e' c n q
  unfolding backs
  backs_same e e' c zero h q = refl
  backs_same e e' c (suc n) h q = ap (λ (x : Option (Row t)). backs (ieee t) e c n (swap (ieee t) (suc (c + n)) x q)) (h (suc (c + n)) (omega arith) (omega arith)) ∙ backs_same e e' c n (λ d l u. h d l (omega arith)) _

-- ---- T-3

module _ (b k : ℕ) (pos : 0 < b) (s : Coupled) (size : Sized (k * b) s) (fu : FiniteBlock (k * b) (k * b) s.upper) (fl : FiniteBlock (k * b) (k * b) s.lower) (h : SoundCouple (k * b) s) where
  abbrev t : ℕ
  t = k * b

  g : Good₃ (ieee t) t (view₃ t s)
  g = good b k pos s size fu fl ((couple_done t s fu fl).0 h)

  piv : Pivots (ieee t) (view₃ t s) 0 t
  piv = finite_pivots (ieee t) (laws t) b k pos (view₃ t s) (known b k pos s size fu fl) g

  abbrev I : Inner
  I = inner_couple_columns t b t (opened t b s)

  abbrev C : Coupled
  C = couple_columns t t s

  abbrev K : Columns.Blocked (ieee t)
  K = Columns.runᵇ₃ (ieee t) b t (Theorem.opened (ieee t) (view₃ t s))

  abbrev R : Columns.Coupled (ieee t)
  R = Columns.run₃ (ieee t) t (view₃ t s)

  end : At (ieee t) (view₃ t s) b t K
  end = run_at (ieee t) (view₃ t s) b (laws t) (Theorem.opened (ieee t) (view₃ t s)) refl refl (λ i p. refl) pos k piv

  abbrev p : List ℕ
  p = C.rows

  entry_is : (c : ℕ) → c < t → E (ieee t) (view₃ t s) c ≡ named t (get_or p c 0)
  entry_is c l = sym (rows_left_lem (ieee t) (view₃ t s) t c l) ∙ sym ((third_follows t t s (omega arith) size).rows c l)

  fresh_is : (c : ℕ) → c < t → (q : Place (Row t)) → Inside 0 t q → M (ieee t) (view₃ t s) c q ≡ multipliers (ieee t) (col (ieee t) (stack t t C.upper C.lower) c) q
  unfolding multipliers col
  fresh_is c l (up i) w = refl
  fresh_is c l (low r) w = sym (left (ieee t) (view₃ t s) t c l (low r)) ∙ sym ((third_follows t t s (omega arith) size).tiles c l (low r) tt)

  -- the multiplier of column c, in panel j, that stands at q
  stands : (j c : ℕ) → j * b + b ≤ t → j * b ≤ c → c < j * b + b → (q : Place (Row t)) → Inside (j * b) b q → Inside 0 t q
      → held (ieee t) (j * b) K.tiles K.slice c q ≡ multiplier_of t C.lower c (came_from t p c (j * b + b - suc c) (number t q))
  stands j c o l u q w w' =
      let n : ℕ = j * b + b - suc c in
      let d : suc (c - j * b) + n ≡ b = omega arith in
      let hc : c < t = omega arith in
      let E' = E (ieee t) (view₃ t s) in
      let e : ℕ → Option (Row t) = λ c. named t (get_or p c 0) in
      end.kept j o c l u q w
      ∙ (ap (λ (x : ℕ). stored (ieee t) E' (M (ieee t) (view₃ t s)) (j * b) x c q) (sym d)
      ∙ (stored_backs (ieee t) E' (M (ieee t) (view₃ t s)) (j * b) c n l q
      ∙ (ap (M (ieee t) (view₃ t s) c) (backs_same t E' e c n (λ x v y. entry_is x (omega arith)) q)
      ∙ (fresh_is c hc (backs (ieee t) e c n q) (backs_below t e c n (omega arith) q w')
      ∙ (multiplier_at t C.upper C.lower c (backs (ieee t) e c n q) (backs_below t e c n (omega arith) q w')
      ∙ ap (multiplier_of t C.lower c) (number_backs t p (third_sized t t s (omega arith) size).entries c n (omega arith) q w'))))))

  panel_of : (c : ℕ) → c < t → (panel_start b c ≡ c / b * b) × (c / b * b + b ≤ t) × (c / b * b ≤ c) × (c < c / b * b + b)
  unfolding panel_start
  panel_of c l =
      let n_lt : c % b < b = mod-lt c pos in
      let w : c / b * b + c % b ≡ c = div-add-mod' c b in
      (omega arith, go (lt_or_le (c / b) k), omega arith, omega arith)
    where
      go : (c / b < k) ⊎ (k ≤ c / b) → c / b * b + b ≤ t
      go (inl o) = omega (arith, mul-le-mul_right b o)
      go (inr o) = absurd (omega (arith, div-add-mod' c b, mul-le-mul_right b o))

  pub permuted : Permuted t b p C.lower I.lower I.slice
  unfolding columns_left held stack col number
  permuted = record {
    lower = λ c r hc hr.
        let (e, o, l, u) = panel_of c hc in
        rw e ((inner_follows b k pos s size t (omega arith)).tiles c hc (low (r, lt-ltb r t hr)) tt ∙ stands (c / b) c o l u (low (r, lt-ltb r t hr)) tt tt);
    slice = λ c i hc li ui.
        let (e, o, l, u) = panel_of c hc in
        rw e ((inner_follows b k pos s size t (omega arith)).slice i (c - c / b * b) (omega arith) (omega arith) ∙ stands (c / b) c o l u (up i) (omega arith, omega arith) (omega arith, omega arith));
  }
