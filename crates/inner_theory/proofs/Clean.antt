-- T-3 with b leaves finite numbers after every column, just where b = 1 does. Assumes nothing.
use Prim.Native.Nat.{ℕ, zero, suc, ◌+◌, ◌*◌, ◌/◌, ◌%◌, ◌≤◌, ◌<◌}
use mathlib.Core.Bool.{Bool, true, false, cond}
use mathlib.Core.Path.{◌≡◌, refl, sym, ap, ◌∙◌, subst}
use mathlib.Core.Logic.{◌⊎◌, inl, inr, ◌↔◌}
use native.Mathlib.Omega.{arith}
use native.Mathlib.Nat.{zero-add, div-add-mod', mod-lt, mul-le-mul_right}
use lib.Dec.{eqb, ltb}
use borrow.Author.Tests.{eq-eqb, lt-ltb, le-ltb}
use Rattle.inner_theory.specs.Setting.{Setting, Laws}
use Rattle.inner_theory.specs.Stack.{Place, up, low, Column, swap, stored, panel}
use Rattle.inner_theory.specs.Columns.{Tiles, col, zero_pivot, divided, fresh, multipliers, Coupled, column₃, run₃, Blocked, held, inside, beyond, first, last, columnᵇ₃, runᵇ₃}
use Rattle.inner_theory.specs.Sound.{Inside, AllFinite, SoundColumn, SoundInner}
use Rattle.inner_theory.specs.Theorem.{opened, Good₃, Goodᵇ₃, Finite₃}
use Rattle.inner_theory.specs.Clean.{Keeps, Clean₃, Cleanᵇ₃}
use Rattle.inner_theory.proofs.Tests.{true_or_false, cond_true, cond_false, lt_or_le}
use Rattle.inner_theory.proofs.Base.{before₃, E, F, M, left, Pivots, fresh_flat}
use Rattle.inner_theory.proofs.Inside.{swap_inside, Kept, Within}
use Rattle.inner_theory.proofs.Panels.{At, run_within, run_at}
use Rattle.inner_theory.proofs.Finite.{exchange_keeps, narrow}
use Rattle.inner_theory.proofs.Agree.{finite_run, base_fresh, pivots}
use Rattle.inner_theory.proofs.Alike.{Fits, fits}
use Rattle.inner_theory.proofs.After.{sound_after}
use Rattle.inner_theory.proofs.Blocks.{blocks}

module _ (N : Setting) (L : Laws N) (t : ℕ) (s : Coupled N) (known : Finite₃ N t s) where
  pub good_of_clean : Clean₃ N t s → Good₃ N t s
  unfolding run₃ col
  good_of_clean h c l = record { quotients = λ f r. h c l c l (low r) tt; differences = λ f q k u r g. h c l q u (low r) tt }

  module _ (good : Good₃ N t s) where
    upto : (n q : ℕ) → n ≤ q → q < t → AllFinite N 0 t (col N (run₃ N n s).tiles q)
    unfolding run₃
    upto n q l u = rw zero-add at (finite_run N L s t 0 n t (omega arith) (λ k g. rw zero-add (good k (omega arith))) q (omega arith) u (known q u))

    fresh_finite : (q : ℕ) → q < t → AllFinite N 0 t (F N s q)
    unfolding fresh divided
    fresh_finite q u = go (true_or_false (zero_pivot N q (before₃ N s q)))
      where
        go : (zero_pivot N q (before₃ N s q) ≡ true) ⊎ (zero_pivot N q (before₃ N s q) ≡ false) → AllFinite N 0 t (F N s q)
        go (inl e) p hp = ap (λ (x : Column N). N.finite (x p)) (fresh_flat N q (before₃ N s q) e) ∙ upto q q (omega arith) u p hp
        go (inr e) (up i) hp = ap (λ (x : Column N). N.finite (x (up i))) (cond_false (zero_pivot N q (before₃ N s q)) _ _ e) ∙ exchange_keeps N L 0 t q (E N s q) (before₃ N s q) (omega arith) (omega arith) (upto q q (omega arith) u) (up i) hp
        go (inr e) (low r) hp = ap N.finite (sym (base_fresh N L s q (low r))) ∙ (good q u).quotients e r

    pub finite_all : (n : ℕ) → n ≤ t → (q : ℕ) → q < t → AllFinite N 0 t (col N (run₃ N n s).tiles q)
    unfolding col
    finite_all n o q u p hp = go (lt_or_le q n)
      where
        go : (q < n) ⊎ (n ≤ q) → N.finite ((run₃ N n s).tiles p q) ≡ true
        go (inl l) = ap N.finite (left N s n q l p) ∙ fresh_finite q u p hp
        go (inr l) = upto n q l u p hp

    pub clean_of_good : Clean₃ N t s
    clean_of_good c l = finite_all (suc c) l

    stored_finite : (a n c : ℕ) → a + n ≤ t → a ≤ c → c < t → AllFinite N 0 t (stored N (E N s) (M N s) a n c)
    unfolding stored multipliers
    stored_finite a zero c o l u p hp = L.nought_finite
    stored_finite a (suc n) c o l u p hp = go (eqb c (a + n)) p hp (stored_finite a n c (omega arith) l u)
      where
        mult : (p : Place N.Row) → Inside 0 t p → N.finite (M N s c p) ≡ true
        mult (up i) hp = L.nought_finite
        mult (low r) hp = fresh_finite c u (low r) hp

        go : (b : Bool) (p : Place N.Row) → Inside 0 t p → AllFinite N 0 t (stored N (E N s) (M N s) a n c) → N.finite (cond b (M N s c p) (stored N (E N s) (M N s) a n c (swap N (a + n) (E N s (a + n)) p))) ≡ true
        go true p hp ih = mult p hp
        go false p hp ih = ih (swap N (a + n) (E N s (a + n)) p) (swap_inside N 0 t (a + n) (E N s (a + n)) p (omega arith) (omega arith) hp)

    -- multipliers of finished panels
    kept_finite : (b j : ℕ) → 0 < b → j * b ≤ t → (A : Tiles N) (S : ℕ → ℕ → N.Num) → Kept N s b (j * b) A S → (q : ℕ) → q < j * b → (r : N.Row) → N.finite (A (low r) q) ≡ true
    unfolding held
    kept_finite b j pos o A S h q u r = go (lt_or_le (q / b) j)
      where
        whole : q / b * b + q % b ≡ q
        whole = div-add-mod' q b

        go : (q / b < j) ⊎ (j ≤ q / b) → N.finite (A (low r) q) ≡ true
        go (inl g) =
            let f : q / b * b + b ≤ j * b = omega (arith, mul-le-mul_right b g) in
            ap N.finite (h (q / b) f q (omega (arith, whole)) (omega (arith, whole, mod-lt q pos)) (low r) tt) ∙ stored_finite (q / b * b) b q (omega arith) (omega (arith, whole)) (omega arith) (low r) tt
        go (inr g) = absurd (omega (arith, whole, mul-le-mul_right b g))

    within_clean : (b j n : ℕ) (K : Blocked N) → 0 < b → j * b + b ≤ t → n < b → Within N s b (j * b) n K → (q : ℕ) → q < t → AllFinite N 0 t (col N K.tiles q)
    unfolding col held
    within_clean b j n K pos o l w q u (up i) hp = go (lt_or_le q (j * b + b))
      where
        go : (q < j * b + b) ⊎ (j * b + b ≤ q) → N.finite (K.tiles (up i) q) ≡ true
        go (inl g) = ap N.finite (w.upper i q g) ∙ finite_all (j * b + n) (omega arith) q u (up i) hp
        go (inr g) = ap N.finite (w.waiting q g (up i)) ∙ finite_all (j * b) (omega arith) q u (up i) hp
    within_clean b j n K pos o l w q u (low r) hp = go (lt_or_le q (j * b + b)) (lt_or_le q (j * b + n)) (lt_or_le q (j * b))
      where
        go : (q < j * b + b) ⊎ (j * b + b ≤ q) → (q < j * b + n) ⊎ (j * b + n ≤ q) → (q < j * b) ⊎ (j * b ≤ q) → N.finite (K.tiles (low r) q) ≡ true
        go (inr g) y z = ap N.finite (w.waiting q g (low r)) ∙ finite_all (j * b) (omega arith) q u (low r) hp
        go (inl g) (inr y) z = ap N.finite (w.mid q y g (low r)) ∙ finite_all (j * b + n) (omega arith) q u (low r) hp
        go (inl g) (inl y) (inr z) = ap N.finite (w.here q z y (low r) tt) ∙ stored_finite (j * b) n q (omega arith) z u (low r) tt
        go (inl g) (inl y) (inl z) = kept_finite b j pos (omega arith) K.tiles K.slice w.kept q z r

    at_clean : (b j : ℕ) (K : Blocked N) → 0 < b → j * b ≤ t → At N s b (j * b) K → (q : ℕ) → q < t → AllFinite N 0 t (col N K.tiles q)
    unfolding col
    at_clean b j K pos o h q u (up i) hp = ap N.finite (h.upper i q) ∙ finite_all (j * b) o q u (up i) hp
    at_clean b j K pos o h q u (low r) hp = go (lt_or_le q (j * b))
      where
        go : (q < j * b) ⊎ (j * b ≤ q) → N.finite (K.tiles (low r) q) ≡ true
        go (inl g) = kept_finite b j pos o K.tiles K.slice h.kept q g r
        go (inr g) = ap N.finite (h.ahead q g (low r)) ∙ finite_all (j * b) o q u (low r) hp

run_none : {N : Setting} (s : Coupled N) → run₃ N 0 s ≡ s
unfolding run₃
run_none s = refl

module _ (N : Setting) (L : Laws N) (b k : ℕ) (pos : 0 < b) (s : Coupled N) (known : Finite₃ N (k * b) s) where
  clean_of_goodᵇ : Good₃ N (k * b) s → Cleanᵇ₃ N b (k * b) s
  clean_of_goodᵇ good c l q u = subst (λ (d : ℕ). AllFinite N 0 (k * b) (col N (runᵇ₃ N b d (opened N s)).tiles q)) (div-add-mod' (suc c) b) (go (lt_or_le (suc c / b) k))
    where
      piv : (j : ℕ) → j * b ≤ k * b → Pivots N s 0 (j * b)
      piv j o = few j o (pivots N L s (k * b) 0 (k * b) (k * b) (omega arith) (omega arith) (λ n g. subst (λ (d : ℕ). SoundColumn N d (k * b) (run₃ N d s).tiles (column₃ N d (run₃ N d s)).tiles) (sym (zero-add n)) (good n g)) (λ q l u. subst (λ (S : Coupled N). AllFinite N 0 (k * b) (col N S.tiles q)) (sym (run_none s)) (known q u)))
        where
          few : (j : ℕ) → j * b ≤ k * b → Pivots N s 0 (k * b) → Pivots N s 0 (j * b)
          few j o h c l u = h c l (omega arith)

      end : (j : ℕ) → j * b ≤ k * b → At N s b (j * b) (runᵇ₃ N b (j * b) (opened N s))
      end j o = run_at N s b L (opened N s) refl refl (λ i p. refl) pos j (piv j o)

      go : (suc c / b < k) ⊎ (k ≤ suc c / b) → AllFinite N 0 (k * b) (col N (runᵇ₃ N b (suc c / b * b + suc c % b) (opened N s)).tiles q)
      go (inl g) =
          let f : suc c / b * b + b ≤ k * b = omega (arith, mul-le-mul_right b g) in
          within_clean N L (k * b) s known good b (suc c / b) (suc c % b) _ pos f (mod-lt (suc c) pos)
          (run_within N s b L (opened N s) refl refl (λ i p. refl) pos (suc c / b) (suc c % b) (mod-lt (suc c) pos) (end (suc c / b) (omega arith))) q u
      go (inr g) =
          let f : k * b ≤ suc c / b * b = mul-le-mul_right b g in
          let w : suc c / b * b + suc c % b ≡ suc c = div-add-mod' (suc c) b in
          let z : suc c / b * b + suc c % b ≡ k * b = omega arith in
          subst (λ (d : ℕ). AllFinite N 0 (k * b) (col N (runᵇ₃ N b d (opened N s)).tiles q)) (sym z) (at_clean N L (k * b) s known good b k _ pos (omega arith) (end k (omega arith)) q u)

  inner_same : (x : Bool) (a : ℕ) (K : Blocked N) (q : ℕ) → q < a + b → (p : Place N.Row) → (cond x (beyond N a b K) K).tiles p q ≡ K.tiles p q
  inner_same true a K q h p = cond_true (ltb q (a + b)) _ _ (lt-ltb q (a + b) h)
  inner_same false a K q h p = refl

  outer_same : (x : Bool) (a : ℕ) (K : Blocked N) (q : ℕ) → x ≡ true → a + b ≤ q → (p : Place N.Row) → (cond x (beyond N a b K) K).tiles p q ≡ panel N K.rows (held N a K.tiles K.slice) a b (col N K.tiles q) p
  outer_same x a K q e h p = rw e (cond_false (ltb q (a + b)) _ _ (le-ltb q (a + b) h))

  -- inside the panel a column leaves what the run has after it
  good_of_cleanᵇ : Keeps N → Cleanᵇ₃ N b (k * b) s → Goodᵇ₃ N b (k * b) s
  unfolding runᵇ₃ columnᵇ₃ col last
  good_of_cleanᵇ keeps h c l = go (fits N b k c pos l)
    where
      K' : Blocked N
      K' = inside N (first N b c) (first N b c + b) c (runᵇ₃ N b c (opened N s))

      go : Fits N b (k * b) c → SoundInner N (first N b c) b (k * b) c (runᵇ₃ N b c (opened N s))
      go f = record {
        within = record { quotients = λ z r. fin c f.to (low r) tt; differences = λ z q x u r g. fin q u (low r) tt };
        last_one = λ e q lo hi.
            sound_after N keeps K'.rows (held N (first N b c) K'.tiles K'.slice) (first N b c) b (col N K'.tiles q)
            (narrow N L 0 (k * b) (first N b c) b _ (omega arith) (omega (arith, f.whole))
            (λ p hp. ap N.finite (sym (outer_same (last N b c) (first N b c) K' q (eq-eqb (suc c) (first N b c + b) e) lo p)) ∙ h c l q hi p hp));
      }
        where
          fin : (q : ℕ) → q < first N b c + b → (p : Place N.Row) → Inside 0 (k * b) p → N.finite (K'.tiles p q) ≡ true
          fin q u p hp = ap N.finite (sym (inner_same (last N b c) (first N b c) K' q u p)) ∙ h c l q (omega (arith, f.whole)) p hp

  pub clean : Keeps N → Clean₃ N (k * b) s ↔ Cleanᵇ₃ N b (k * b) s
  clean keeps = (
    λ h. clean_of_goodᵇ (good_of_clean N L (k * b) s known h),
    λ h. clean_of_good N L (k * b) s known ((blocks N L b k pos s known).mark₃.1 (good_of_cleanᵇ keeps h)),
  )
