-- T-4 by panels computes finite numbers only, just where single columns do. Assumes nothing.
use Prim.Native.Nat.{ℕ, zero, suc, ◌+◌, ◌-◌, ◌*◌, ◌/◌, ◌%◌, pred, ◌≤◌, ◌<◌}
use mathlib.Core.Bool.{true}
use mathlib.Core.Path.{◌≡◌, refl, sym, ap, ◌∙◌, subst}
use mathlib.Core.Logic.{◌⊎◌, inl, inr}
use mathlib.Core.Option.{Option}
use native.Mathlib.Omega.{arith}
use native.Mathlib.Nat.{add-suc, zero-add, div-add-mod', mod-lt, mul-le-mul_right}
use Rattle.inner_theory.specs.Setting.{Setting, Laws}
use Rattle.inner_theory.specs.Stack.{up, low, Column, steps, stored, panel}
use Rattle.inner_theory.specs.Columns.{Tiles, multipliers, Coupled, run₃, Blocked, held, first, last, runᵇ₃, run₄, columnᵇ₄, runᵇ₄}
use Rattle.inner_theory.specs.Sound.{AllFinite, Fine, SoundSteps, SoundPanel, Sound₄, Soundᵇ₄}
use Rattle.inner_theory.proofs.Tests.{lt_or_le, cond_true}
use Rattle.inner_theory.proofs.Base.{E, F, M, left, rows_left_lem, Pivots, no_multiplier_above, split_steps}
use Rattle.inner_theory.proofs.Panels.{first_at, last_true, At, run_at, plain₄, idle₄, blocked₄}
use Rattle.inner_theory.specs.Clean.{Keeps}
use Rattle.inner_theory.proofs.After.{sound_after}
use Rattle.inner_theory.proofs.Alike.{fits}
use Rattle.inner_theory.proofs.Finite.{steps_finite, sound_panel, sound_steps, sound_cong, narrow}

panel_now : (N : Setting) (b : ℕ) (A : Tiles N) (S : ℕ → ℕ → N.Num) (e : ℕ → Option N.Row) (c : ℕ) (x : Column N) → last N b c ≡ true → runᵇ₄ N b A S e (suc c) x ≡ panel N e (held N (first N b c) A S) (first N b c) b (runᵇ₄ N b A S e c x)
unfolding runᵇ₄ columnᵇ₄
panel_now N b A S e c x z = cond_true (last N b c) _ _ z

module _ (N : Setting) (L : Laws N) (s : Coupled N) (b : ℕ) (b-pos : 0 < b) (k₀ : Blocked N) (same-tiles : k₀.tiles ≡ s.tiles) (same_list : k₀.rows ≡ s.rows) (clear : (i p : ℕ) → k₀.slice i p ≡ N.nought)
    (k : ℕ) (piv : Pivots N s 0 (k * b)) (x : Column N) where
  abbrev A : Tiles N
  A = (run₃ N (k * b) s).tiles

  abbrev e : ℕ → Option N.Row
  e = (run₃ N (k * b) s).rows

  abbrev K : Blocked N
  K = runᵇ₃ N b (k * b) k₀

  end : At N s b (k * b) (runᵇ₃ N b (k * b) k₀)
  end = run_at N s b L k₀ same-tiles same_list clear b-pos k piv

  above : (c i : ℕ) → N.is_zero (M N s c (up i)) ≡ true
  above c i = no_multiplier_above N L (F N s c) i

  -- ---- by single columns

  value : (c : ℕ) → c < k * b → (r : N.Row) → run₄ N A e (suc c) x (low r) ≡ steps N (E N s) (M N s) 0 (suc c) x (low r)
  value c l r = ap (λ (y : Column N). y (low r)) (plain₄ N s b L k₀ same-tiles same_list clear b-pos k piv (suc c) x l)

  multiplier : (c : ℕ) → c < k * b → (r : N.Row) → A (low r) c ≡ M N s c (low r)
  unfolding multipliers
  multiplier c l r = left N s (k * b) c l (low r)

  to_steps : Sound₄ N A e (k * b) x → SoundSteps N (E N s) (M N s) 0 (k * b) x
  to_steps h c l r = rw zero-add (λ f. ap N.finite (sym (value c l r)) ∙ h c l r (ap N.is_zero (multiplier c l r) ∙ f))

  from_steps : SoundSteps N (E N s) (M N s) 0 (k * b) x → Sound₄ N A e (k * b) x
  from_steps h c l r f = ap N.finite (value c l r) ∙ (rw zero-add at (h c l r)) (ap N.is_zero (sym (multiplier c l r)) ∙ f)

  -- ---- a panel's part

  part : (a n : ℕ) → steps N (E N s) (M N s) a n (steps N (E N s) (M N s) 0 a x) ≡ steps N (E N s) (M N s) 0 (a + n) x
  part a n = sym (rw zero-add at (split_steps N (E N s) (M N s) 0 a n x))

  to_part : (a n t : ℕ) → a + n ≤ t → SoundSteps N (E N s) (M N s) 0 t x → SoundSteps N (E N s) (M N s) a n (steps N (E N s) (M N s) 0 a x)
  to_part a n t o h i l r f = ap (λ (y : Column N). N.finite (y (low r))) (part a (suc i)) ∙ rw add-suc ((rw zero-add at (h (a + i) (omega arith) r)) f)

  from_part : (a n : ℕ) → SoundSteps N (E N s) (M N s) 0 a x → SoundSteps N (E N s) (M N s) a n (steps N (E N s) (M N s) 0 a x) → SoundSteps N (E N s) (M N s) 0 (a + n) x
  from_part a n h g c l r = go (lt_or_le c a)
    where
      go : (c < a) ⊎ (a ≤ c) → Fine N (M N s (0 + c) (low r)) (steps N (E N s) (M N s) 0 (suc c) x (low r))
      go (inl i) = h c i r
      go (inr i) =
          let d : a + (c - a) ≡ c = omega arith in
          subst (λ (c : ℕ). Fine N (M N s (0 + c) (low r)) (steps N (E N s) (M N s) 0 (suc c) x (low r))) d
          (rw zero-add (λ f. ap (λ (y : Column N). N.finite (y (low r))) (sym (rw add-suc at (part a (suc (c - a))))) ∙ g (c - a) (omega arith) r f))

  -- ---- the panel that T-3 left

  module _ (j : ℕ) (o : j * b + b ≤ k * b) (y : Column N) where
    own_rows : (c : ℕ) → j * b ≤ c → c < j * b + b → K.rows c ≡ E N s c
    own_rows c l u = ap (λ (f : ℕ → Option N.Row). f c) end.rows ∙ rows_left_lem N s (k * b) c (omega arith)

    blocked_part : SoundPanel N (E N s) (stored N (E N s) (M N s) (j * b) b) (j * b) b y → SoundPanel N K.rows (held N (j * b) K.tiles K.slice) (j * b) b y
    blocked_part = sound_cong N L (E N s) K.rows (stored N (E N s) (M N s) (j * b) b) (held N (j * b) K.tiles K.slice) (j * b) b y y (λ c l u. sym (own_rows c l u)) (λ c l u p hp. sym (end.kept j o c l u p hp)) refl

    base_part : SoundPanel N K.rows (held N (j * b) K.tiles K.slice) (j * b) b y → SoundPanel N (E N s) (stored N (E N s) (M N s) (j * b) b) (j * b) b y
    base_part = sound_cong N L K.rows (E N s) (held N (j * b) K.tiles K.slice) (stored N (E N s) (M N s) (j * b) b) (j * b) b y y own_rows (λ c l u p hp. end.kept j o c l u p hp) refl

  reached : (j n : ℕ) → n < b → j ≤ k → runᵇ₄ N b K.tiles K.slice K.rows (j * b + n) x ≡ steps N (E N s) (M N s) 0 (j * b) x
  reached j n h l = idle₄ N s b L k₀ same-tiles same_list clear b-pos k piv j n x h ∙ blocked₄ N s b L k₀ same-tiles same_list clear b-pos k piv j x l

  part_finite : (j : ℕ) → j * b + b ≤ k * b → AllFinite N 0 (k * b) x → SoundSteps N (E N s) (M N s) 0 (j * b) x → AllFinite N (j * b) b (steps N (E N s) (M N s) 0 (j * b) x)
  part_finite j o fin h =
      narrow N L 0 (k * b) (j * b) b (steps N (E N s) (M N s) 0 (j * b) x) (omega arith) (omega arith)
      (steps_finite N L (E N s) (M N s) above 0 x 0 (k * b) (j * b) (omega arith) (omega arith) fin h (j * b) (omega arith))

  module _ (fin : AllFinite N 0 (k * b) x) where
    panel_sound : SoundSteps N (E N s) (M N s) 0 (k * b) x → (j n : ℕ) → j * b + b ≤ k * b → j ≤ k → n < b → SoundPanel N K.rows (held N (j * b) K.tiles K.slice) (j * b) b (runᵇ₄ N b K.tiles K.slice K.rows (j * b + n) x)
    panel_sound h j n o q l =
        rw (reached j n l q)
        (blocked_part j o (steps N (E N s) (M N s) 0 (j * b) x)
        (sound_panel N L (E N s) (M N s) above (j * b) (steps N (E N s) (M N s) 0 (j * b) x) b (part_finite j o fin (λ c i r. h c (omega arith) r)) (to_part (j * b) b (k * b) o h)))

    pub blocked_sound₄ : Sound₄ N A e (k * b) x → Soundᵇ₄ N b K.tiles K.slice K.rows (k * b) x
    blocked_sound₄ h c l z = go (lt_or_le (c / b) k)
      where
        n_lt : c % b < b
        n_lt = mod-lt c b-pos

        whole : c / b * b + c % b ≡ c
        whole = div-add-mod' c b

        go : (c / b < k) ⊎ (k ≤ c / b) → SoundPanel N K.rows (held N (first N b c) K.tiles K.slice) (first N b c) b (runᵇ₄ N b K.tiles K.slice K.rows c x)
        go (inl g) =
            let o : c / b * b + b ≤ k * b = omega (arith, mul-le-mul_right b g) in
            subst (λ (c : ℕ). SoundPanel N K.rows (held N (first N b c) K.tiles K.slice) (first N b c) b (runᵇ₄ N b K.tiles K.slice K.rows c x)) whole
            (rw (first_at N b (c / b) (c % b) n_lt) (panel_sound (to_steps h) (c / b) (c % b) o (omega arith) n_lt))
        go (inr g) = absurd (omega (arith, whole, mul-le-mul_right b g))

    steps_sound : Soundᵇ₄ N b K.tiles K.slice K.rows (k * b) x → (j : ℕ) → j ≤ k → SoundSteps N (E N s) (M N s) 0 (j * b) x
    steps_sound h zero o = λ c l. absurd (omega arith)
    steps_sound h (suc j) o = go (steps_sound h j (omega arith))
      where
        fits : j * b + b ≤ k * b
        fits = omega (arith, mul-le-mul_right b o)

        n_lt : pred b < b
        n_lt = omega arith

        n_last : suc (pred b) ≡ b
        n_last = omega arith

        there : SoundPanel N K.rows (held N (j * b) K.tiles K.slice) (j * b) b (steps N (E N s) (M N s) 0 (j * b) x)
        there = rw (first_at N b j (pred b) n_lt, reached j (pred b) n_lt (omega arith)) at (h (j * b + pred b) (omega (arith, fits)) (last_true N b j (pred b) n_last))

        go : SoundSteps N (E N s) (M N s) 0 (j * b) x → SoundSteps N (E N s) (M N s) 0 (suc j * b) x
        go ih =
            let d : j * b + b ≡ suc j * b = omega arith in
            subst (λ (n : ℕ). SoundSteps N (E N s) (M N s) 0 n x) d
            (from_part (j * b) b ih
            (sound_steps N L (E N s) (M N s) above (j * b) (steps N (E N s) (M N s) 0 (j * b) x) b (part_finite j fits fin ih) (base_part j fits (steps N (E N s) (M N s) 0 (j * b) x) there)))

    pub base_sound₄ : Soundᵇ₄ N b K.tiles K.slice K.rows (k * b) x → Sound₄ N A e (k * b) x
    base_sound₄ h = from_steps (steps_sound h k (omega arith))

    -- ---- what the columns leave

    pub run_finite : Sound₄ N A e (k * b) x → (n : ℕ) → n ≤ k * b → AllFinite N 0 (k * b) (run₄ N A e n x)
    run_finite h n o =
        rw (plain₄ N s b L k₀ same-tiles same_list clear b-pos k piv n x o)
        (steps_finite N L (E N s) (M N s) above 0 x 0 (k * b) (k * b) (omega arith) (omega arith) fin (to_steps h) n o)

    pub runᵇ-finite : Sound₄ N A e (k * b) x → (n : ℕ) → n ≤ k * b → AllFinite N 0 (k * b) (runᵇ₄ N b K.tiles K.slice K.rows n x)
    runᵇ-finite h n o =
        subst (λ (d : ℕ). AllFinite N 0 (k * b) (runᵇ₄ N b K.tiles K.slice K.rows d x)) (div-add-mod' n b)
        (rw (reached (n / b) (n % b) (mod-lt n b-pos) (below (lt_or_le k (n / b))))
        (steps_finite N L (E N s) (M N s) above 0 x 0 (k * b) (k * b) (omega arith) (omega arith) fin (to_steps h) (n / b * b) (omega (arith, div-add-mod' n b))))
      where
        below : (k < n / b) ⊎ (n / b ≤ k) → n / b ≤ k
        below (inl g) = absurd (omega (arith, div-add-mod' n b, mul-le-mul_right b g))
        below (inr g) = g

    pub clean₄ : ((c : ℕ) → c < k * b → AllFinite N 0 (k * b) (run₄ N A e (suc c) x)) → (c : ℕ) → c < k * b → AllFinite N 0 (k * b) (runᵇ₄ N b K.tiles K.slice K.rows (suc c) x)
    clean₄ h c l = runᵇ-finite (λ c l r f. h c l (low r) tt) (suc c) l

    pub cleanᵇ₄ : Keeps N → ((c : ℕ) → c < k * b → AllFinite N 0 (k * b) (runᵇ₄ N b K.tiles K.slice K.rows (suc c) x)) → (c : ℕ) → c < k * b → AllFinite N 0 (k * b) (run₄ N A e (suc c) x)
    cleanᵇ₄ keeps h c l = run_finite (base_sound₄ sound) (suc c) l
      where
        sound : Soundᵇ₄ N b K.tiles K.slice K.rows (k * b) x
        sound d u z =
            sound_after N keeps K.rows (held N (first N b d) K.tiles K.slice) (first N b d) b (runᵇ₄ N b K.tiles K.slice K.rows d x)
            (narrow N L 0 (k * b) (first N b d) b _ (omega arith) (omega (arith, (fits N b k d b-pos u).whole))
            (subst (λ (y : Column N). AllFinite N 0 (k * b) y) (panel_now N b K.tiles K.slice K.rows d x z) (h d u)))
