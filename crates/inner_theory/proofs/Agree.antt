-- T-3 by panels computes finite numbers only, just where single columns do. Assumes nothing.
use Prim.Native.Nat.{ℕ, zero, suc, ◌+◌, ◌-◌, ◌*◌, pred, ◌≤◌, ◌<◌}
use mathlib.Core.Bool.{true, false}
use mathlib.Core.Path.{◌≡◌, refl, sym, ap, ap₂, ◌∙◌, fun_ext, subst}
use mathlib.Core.Logic.{◌⊎◌, inl, inr}
use mathlib.Core.Option.{Option, none, some}
use native.Mathlib.Omega.{arith}
use native.Mathlib.Nat.{add-suc, add-zero, zero-add}
use Rattle.inner_theory.specs.Setting.{Setting, Laws}
use Rattle.inner_theory.specs.Stack.{Place, up, low, Column, exchanged, updated, steps, stored}
use Rattle.inner_theory.specs.Columns.{Tiles, col, candidates, zero_pivot, entry, fresh, multipliers, onward, Coupled, column₃, run₃, Blocked, held, inside, runᵇ₃}
use Rattle.inner_theory.specs.Sound.{Inside, AllFinite, Fine, SoundSteps, SoundPanel, SoundColumn, Sound₃, SoundInner, Soundᵇ₃}
use Rattle.inner_theory.proofs.Tests.{true_or_false, never, lt_or_le, Side, before, equal, after, side, at_equal, at_after}
use Rattle.inner_theory.proofs.Base.{before₃, E, F, M, rows_left_lem, Pivots, right, no_multiplier_above, flat_zeros}
use Rattle.inner_theory.proofs.Inside.{Within, step, in_at, in_mid, same_column, same_fresh}
use Rattle.inner_theory.proofs.Panels.{first_at, run_within, run_at}
use Rattle.inner_theory.proofs.Finite.{exchange_keeps, update_keeps, sound_panel, sound_steps, sound_cong, narrow}

module _ (N : Setting) (L : Laws N) where
  onward_flat : (c : ℕ) (y x : Column N) → zero_pivot N c y ≡ true → onward N c y x ≡ x
  unfolding onward
  onward_flat c y x t = rw t

  onward_live : (c : ℕ) (y x : Column N) → zero_pivot N c y ≡ false → onward N c y x ≡ updated N c (multipliers N (fresh N c y)) (exchanged N c (entry N c y) x)
  unfolding onward
  onward_live c y x f = rw f

  -- a column right of c stays finite
  onward_finite : (t c z q : ℕ) → c < t → c < q → q < z → (A A' : Tiles N)
      → ((r : N.Row) → A' (low r) c ≡ fresh N c (col N A c) (low r))
      → ((p : Place N.Row) → A' p q ≡ onward N c (col N A c) (col N A q) p)
      → SoundColumn N c z A A' → AllFinite N 0 t (col N A q) → AllFinite N 0 t (col N A' q)
  unfolding col multipliers
  onward_finite t c z q b l u A A' hc hq s fin p hp = go (true_or_false (zero_pivot N c (col N A c)))
    where
      go : (zero_pivot N c (col N A c) ≡ true) ⊎ (zero_pivot N c (col N A c) ≡ false) → N.finite (A' p q) ≡ true
      go (inl e) = ap N.finite (hq p ∙ ap (λ (x : Column N). x p) (onward_flat c (col N A c) (col N A q) e)) ∙ fin p hp
      go (inr f) =
          ap N.finite (hq p ∙ ap (λ (x : Column N). x p) (onward_live c (col N A c) (col N A q) f))
          ∙ update_keeps N L 0 t c (multipliers N (fresh N c (col N A c))) (exchanged N c (entry N c (col N A c)) (col N A q))
          (exchange_keeps N L 0 t c (entry N c (col N A c)) (col N A q) (omega arith) (omega arith) fin) at p hp
        where
          at : (p : Place N.Row) → Inside 0 t p → Fine N (multipliers N (fresh N c (col N A c)) p) (updated N c (multipliers N (fresh N c (col N A c))) (exchanged N c (entry N c (col N A c)) (col N A q)) p)
          at (up i) hp g = never L.nought_zero g
          at (low r) hp g =
              ap N.finite (sym (hq (low r) ∙ ap (λ (x : Column N). x (low r)) (onward_live c (col N A c) (col N A q) f)))
              ∙ s.differences f q l u r (ap N.is_zero (hc r) ∙ g)

  column_cong : (c z : ℕ) (A A' B B' : Tiles N) → c < z → col N A c ≡ col N B c → ((q : ℕ) (r : N.Row) → c ≤ q → q < z → A' (low r) q ≡ B' (low r) q) → SoundColumn N c z A A' → SoundColumn N c z B B'
  column_cong c z A A' B B' l hc h s = record {
    quotients = λ f r. ap N.finite (sym (h c r (omega arith) l)) ∙ s.quotients (ap (zero_pivot N c) hc ∙ f) r;
    differences = λ f q k u r g. ap N.finite (sym (h q r (omega arith) u)) ∙ s.differences (ap (zero_pivot N c) hc ∙ f) q k u r (ap N.is_zero (h c r (omega arith) l) ∙ g);
  }

  fewer : (c z t : ℕ) (A A' : Tiles N) → z ≤ t → SoundColumn N c t A A' → SoundColumn N c z A A'
  fewer c z t A A' l s = record { quotients = s.quotients; differences = λ f q k u r g. s.differences f q k (omega arith) r g }

  module _ (s : Coupled N) where
    pub base_fresh : (c : ℕ) (p : Place N.Row) → (column₃ N c (run₃ N c s)).tiles p c ≡ F N s c p
    base_fresh c p = at_equal c c _ _ _ refl

    base_onward : (c q : ℕ) → c < q → (p : Place N.Row) → (column₃ N c (run₃ N c s)).tiles p q ≡ onward N c (before₃ N s c) (col N (run₃ N c s).tiles q) p
    base_onward c q h p = at_after q c _ _ _ h

    -- single columns keep a column finite
    pub finite_run : (t a n z : ℕ) → a + n ≤ t → ((k : ℕ) → k < n → Sound₃ N z (a + k) (run₃ N (a + k) s)) → (q : ℕ) → a + n ≤ q → q < z → AllFinite N 0 t (col N (run₃ N a s).tiles q) → AllFinite N 0 t (col N (run₃ N (a + n) s).tiles q)
    unfolding run₃
    finite_run t a zero z o h q l u fin = rw add-zero fin
    finite_run t a (suc n) z o h q l u fin =
        rw add-suc (onward_finite t (a + n) z q (omega arith) (omega arith) u (run₃ N (a + n) s).tiles (column₃ N (a + n) (run₃ N (a + n) s)).tiles
        (λ r. base_fresh (a + n) (low r)) (base_onward (a + n) q (omega arith)) (h n (omega arith))
        (finite_run t a n z (omega arith) (λ k g. h k (omega arith)) q (omega arith) u fin))

    candidates_finite : (t c : ℕ) (y : Column N) → c < t → AllFinite N 0 t y → (o : Option N.Row) → N.finite (candidates N c y o) ≡ true
    unfolding candidates
    candidates_finite t c y l h none = h (up c) (omega arith)
    candidates_finite t c y l h (some r) = h (low r) tt

    pub pivots : (t a n z : ℕ) → a + n ≤ t → a + n ≤ z → ((k : ℕ) → k < n → Sound₃ N z (a + k) (run₃ N (a + k) s)) → ((q : ℕ) → a ≤ q → q < z → AllFinite N 0 t (col N (run₃ N a s).tiles q)) → Pivots N s a n
    pivots t a n z o g h fin c l u =
        candidates_finite t c (before₃ N s c) (omega arith)
        (subst (λ (d : ℕ). AllFinite N 0 t (col N (run₃ N d s).tiles c)) d (finite_run t a (c - a) z (omega arith) (λ k i. h k (omega arith)) c (omega arith) (omega arith) (fin c l (omega arith))))
      where
        d : a + (c - a) ≡ c
        d = omega arith

    -- ---- right of the panel

    module _ (t a b : ℕ) (piv : Pivots N s a b) where
      value : (n q : ℕ) → n < b → a + b ≤ q → (r : N.Row) → (column₃ N (a + n) (run₃ N (a + n) s)).tiles (low r) q ≡ steps N (E N s) (M N s) a (suc n) (col N (run₃ N a s).tiles q) (low r)
      unfolding run₃ col
      value n q h l r = ap (λ (x : Column N). x (low r)) (rw add-suc at (right N s L a (suc n) q (omega arith) (λ c i u. piv c i (omega arith))))

      to_steps : ((n : ℕ) → n < b → Sound₃ N t (a + n) (run₃ N (a + n) s)) → (q : ℕ) → a + b ≤ q → q < t → SoundSteps N (E N s) (M N s) a b (col N (run₃ N a s).tiles q)
      unfolding multipliers
      to_steps h q l u n k r g = go (true_or_false (zero_pivot N (a + n) (before₃ N s (a + n))))
        where
          go : (zero_pivot N (a + n) (before₃ N s (a + n)) ≡ true) ⊎ (zero_pivot N (a + n) (before₃ N s (a + n)) ≡ false) → N.finite (steps N (E N s) (M N s) a (suc n) (col N (run₃ N a s).tiles q) (low r)) ≡ true
          go (inl e) = never (flat_zeros N L (a + n) (before₃ N s (a + n)) (piv (a + n) (omega arith) (omega arith)) e (low r)) g
          go (inr f) = ap N.finite (sym (value n q k l r)) ∙ (h n k).differences f q (omega arith) u r (ap N.is_zero (base_fresh (a + n) (low r)) ∙ g)

      from_steps : ((n : ℕ) → n < b → Sound₃ N (a + b) (a + n) (run₃ N (a + n) s)) → ((q : ℕ) → a + b ≤ q → q < t → SoundSteps N (E N s) (M N s) a b (col N (run₃ N a s).tiles q)) → (n : ℕ) → n < b → Sound₃ N t (a + n) (run₃ N (a + n) s)
      unfolding multipliers
      from_steps h g n k = record { quotients = (h n k).quotients; differences = λ f q l u r z. go f q l u r z (lt_or_le q (a + b)) }
        where
          go : zero_pivot N (a + n) (before₃ N s (a + n)) ≡ false → (q : ℕ) → a + n < q → q < t → (r : N.Row) → N.is_zero ((column₃ N (a + n) (run₃ N (a + n) s)).tiles (low r) (a + n)) ≡ false → (q < a + b) ⊎ (a + b ≤ q) → N.finite ((column₃ N (a + n) (run₃ N (a + n) s)).tiles (low r) q) ≡ true
          go f q l u r z (inl i) = (h n k).differences f q l i r z
          go f q l u r z (inr i) = ap N.finite (value n q k i r) ∙ g q i u n k r (ap N.is_zero (sym (base_fresh (a + n) (low r))) ∙ z)

    -- ---- inside the panel

    module _ (b a n : ℕ) (K : Blocked N) (u : n < b) (w : Within N s b a n K) where
      same_low : (q : ℕ) (r : N.Row) → a + n ≤ q → q < a + b → (inside N a (a + b) (a + n) K).tiles (low r) q ≡ (column₃ N (a + n) (run₃ N (a + n) s)).tiles (low r) q
      same_low q r l k = go (side q (a + n))
        where
          go : Side q (a + n) → (inside N a (a + b) (a + n) K).tiles (low r) q ≡ (column₃ N (a + n) (run₃ N (a + n) s)).tiles (low r) q
          go (before h) = absurd (omega arith)
          go (equal h) = in_at N a (a + b) (a + n) K (omega arith) (omega arith) q h (low r) ∙ (ap (λ (x : Column N). x (low r)) (same_fresh N s b a n K u w) ∙ sym (at_equal q (a + n) _ _ _ h))
          go (after h) =
              in_mid N a (a + b) (a + n) K (omega arith) (omega arith) q h k (low r)
              ∙ (ap₂ (λ (y x : Column N). onward N (a + n) y x (low r)) (same_column N s b a n K u w (a + n) (omega arith) (omega arith)) (same_column N s b a n K u w q (omega arith) k)
              ∙ sym (at_after q (a + n) _ _ _ h))

      blocked_within : Sound₃ N (a + b) (a + n) (run₃ N (a + n) s) → SoundColumn N (a + n) (a + b) K.tiles (inside N a (a + b) (a + n) K).tiles
      blocked_within = column_cong (a + n) (a + b) _ _ _ _ (omega arith) (sym (same_column N s b a n K u w (a + n) (omega arith) (omega arith))) (λ q r l k. sym (same_low q r l k))

      base_within : SoundColumn N (a + n) (a + b) K.tiles (inside N a (a + b) (a + n) K).tiles → Sound₃ N (a + b) (a + n) (run₃ N (a + n) s)
      base_within = column_cong (a + n) (a + b) _ _ _ _ (omega arith) (same_column N s b a n K u w (a + n) (omega arith) (omega arith)) same_low

    -- the panel's work right of it, on what stands there
    module _ (b a : ℕ) (K : Blocked N) (w : Within N s b a b K) (q : ℕ) (l : a + b ≤ q) where
      same_waiting : col N K.tiles q ≡ col N (run₃ N a s).tiles q
      unfolding col
      same_waiting = fun_ext (λ p. w.waiting q l p)

      same_rows : (c : ℕ) → a ≤ c → c < a + b → K.rows c ≡ E N s c
      same_rows c i o = ap (λ (f : ℕ → Option N.Row). f c) w.rows ∙ rows_left_lem N s (a + b) c o

      blocked_after : SoundPanel N (E N s) (stored N (E N s) (M N s) a b) a b (col N (run₃ N a s).tiles q) → SoundPanel N K.rows (held N a K.tiles K.slice) a b (col N K.tiles q)
      blocked_after = sound_cong N L (E N s) K.rows (stored N (E N s) (M N s) a b) (held N a K.tiles K.slice) a b _ _ (λ c i o. sym (same_rows c i o)) (λ c i o p hp. sym (w.here c i o p hp)) (sym same_waiting)

      base_after : SoundPanel N K.rows (held N a K.tiles K.slice) a b (col N K.tiles q) → SoundPanel N (E N s) (stored N (E N s) (M N s) a b) a b (col N (run₃ N a s).tiles q)
      base_after = sound_cong N L K.rows (E N s) (held N a K.tiles K.slice) (stored N (E N s) (M N s) a b) a b _ _ same_rows (λ c i o p hp. w.here c i o p hp) same_waiting

    -- ---- one panel

    module _ (b t a : ℕ) (K : ℕ → Blocked N) (b-pos : 0 < b) (o : a + b ≤ t)
        (w : (n : ℕ) → n < b → Within N s b a n (K n))
        (fin : (q : ℕ) → a ≤ q → q < t → AllFinite N 0 t (col N (run₃ N a s).tiles q)) where
      whole : (n : ℕ) → suc n ≡ b → Within N s b a b (inside N a (a + b) (a + n) (K n))
      whole n h = subst (λ (k : ℕ). Within N s b a k (inside N a (a + b) (a + n) (K n))) h (step N s b a n (K n) (omega arith) (w n (omega arith)))

      pub blocked_panel : ((n : ℕ) → n < b → Sound₃ N t (a + n) (run₃ N (a + n) s)) → (n : ℕ) → n < b → SoundInner N a b t (a + n) (K n)
      blocked_panel h n k = record {
        within = blocked_within b a n (K n) k (w n k) (fewer (a + n) (a + b) t _ _ o (h n k));
        last_one = λ e q l u.
            blocked_after b a (inside N a (a + b) (a + n) (K n)) (whole n (omega arith)) q l
            (sound_panel N L (E N s) (M N s) (λ c i. no_multiplier_above N L (F N s c) i) a (col N (run₃ N a s).tiles q) b
            (narrow N L 0 t a b (col N (run₃ N a s).tiles q) (omega arith) (omega arith) (fin q (omega arith) u))
            (to_steps t a b (pivots t a b t o o h fin) h q l u));
      }

      pub base_panel : ((n : ℕ) → n < b → SoundInner N a b t (a + n) (K n)) → (n : ℕ) → n < b → Sound₃ N t (a + n) (run₃ N (a + n) s)
      base_panel h = from_steps t a b piv inner outer
        where
          inner : (n : ℕ) → n < b → Sound₃ N (a + b) (a + n) (run₃ N (a + n) s)
          inner n k = base_within b a n (K n) k (w n k) (h n k).within

          piv : Pivots N s a b
          piv = pivots t a b (a + b) o (omega arith) inner (λ q l u. fin q l (omega arith))

          end : suc (pred b) ≡ b
          end = omega arith

          outer : (q : ℕ) → a + b ≤ q → q < t → SoundSteps N (E N s) (M N s) a b (col N (run₃ N a s).tiles q)
          outer q l u =
              sound_steps N L (E N s) (M N s) (λ c i. no_multiplier_above N L (F N s c) i) a (col N (run₃ N a s).tiles q) b
              (narrow N L 0 t a b (col N (run₃ N a s).tiles q) (omega arith) (omega arith) (fin q (omega arith) u))
              (base_after b a (inside N a (a + b) (a + pred b) (K (pred b))) (whole (pred b) end) q l ((h (pred b) (omega arith)).last_one (omega arith) q l u))

    -- ---- all panels

    module _ (b k : ℕ) (b-pos : 0 < b) (k₀ : Blocked N) (same-tiles : k₀.tiles ≡ s.tiles) (same_list : k₀.rows ≡ s.rows) (clear : (i p : ℕ) → k₀.slice i p ≡ N.nought)
        (fin : (q : ℕ) → q < k * b → AllFinite N 0 (k * b) (col N s.tiles q)) where
      so_far : (j : ℕ) → j * b ≤ k * b → ((c : ℕ) → c < j * b → Sound₃ N (k * b) c (run₃ N c s)) → (q : ℕ) → j * b ≤ q → q < k * b → AllFinite N 0 (k * b) (col N (run₃ N (j * b) s).tiles q)
      unfolding run₃
      so_far j o h q l u = rw zero-add at (finite_run (k * b) 0 (j * b) (k * b) (omega arith) (λ n g. rw zero-add (h n g)) q (omega arith) u (fin q u))

      enough : (j : ℕ) → j * b ≤ k * b → ((c : ℕ) → c < j * b → Sound₃ N (k * b) c (run₃ N c s)) → Pivots N s 0 (j * b)
      unfolding run₃
      enough j o h = pivots (k * b) 0 (j * b) (k * b) (omega arith) (omega arith) (λ n g. rw zero-add (h n g)) (λ q l u. fin q u)

      inner_runs : (j : ℕ) → j * b ≤ k * b → ((c : ℕ) → c < j * b → Sound₃ N (k * b) c (run₃ N c s)) → (n : ℕ) → n < b → Within N s b (j * b) n (runᵇ₃ N b (j * b + n) k₀)
      inner_runs j o h n l = run_within N s b L k₀ same-tiles same_list clear b-pos j n l (run_at N s b L k₀ same-tiles same_list clear b-pos j (enough j o h))

      pub blocked_sound : (j : ℕ) → j * b ≤ k * b → ((c : ℕ) → c < j * b → Sound₃ N (k * b) c (run₃ N c s)) → (c : ℕ) → c < j * b → Soundᵇ₃ N b (k * b) c (runᵇ₃ N b c k₀)
      blocked_sound zero o h c l = absurd (omega arith)
      blocked_sound (suc j) o h c l = go (λ i. blocked_sound j (omega arith) (λ c g. h c (omega arith)) c i) (lt_or_le c (j * b))
        where
          here : (n : ℕ) → n < b → SoundInner N (j * b) b (k * b) (j * b + n) (runᵇ₃ N b (j * b + n) k₀)
          here = blocked_panel b (k * b) (j * b) (λ n. runᵇ₃ N b (j * b + n) k₀) b-pos (omega arith) (inner_runs j (omega arith) (λ c g. h c (omega arith))) (so_far j (omega arith) (λ c g. h c (omega arith))) (λ n g. h (j * b + n) (omega arith))

          go : (c < j * b → Soundᵇ₃ N b (k * b) c (runᵇ₃ N b c k₀)) → (c < j * b) ⊎ (j * b ≤ c) → Soundᵇ₃ N b (k * b) c (runᵇ₃ N b c k₀)
          go ih (inl i) = ih i
          go ih (inr i) =
              let n : ℕ = c - j * b in
              let e : j * b + (c - j * b) ≡ c = omega arith in
              subst (λ (d : ℕ). Soundᵇ₃ N b (k * b) d (runᵇ₃ N b d k₀)) e
              (rw (first_at N b j (c - j * b) (omega arith)) (here (c - j * b) (omega arith)))

      pub base_sound : (j : ℕ) → j * b ≤ k * b → ((c : ℕ) → c < j * b → Soundᵇ₃ N b (k * b) c (runᵇ₃ N b c k₀)) → (c : ℕ) → c < j * b → Sound₃ N (k * b) c (run₃ N c s)
      base_sound zero o h c l = absurd (omega arith)
      base_sound (suc j) o h c l = go (λ c i. base_sound j (omega arith) (λ c g. h c (omega arith)) c i) (lt_or_le c (j * b))
        where
          go : ((c : ℕ) → c < j * b → Sound₃ N (k * b) c (run₃ N c s)) → (c < j * b) ⊎ (j * b ≤ c) → Sound₃ N (k * b) c (run₃ N c s)
          go ih (inl i) = ih c i
          go ih (inr i) =
              let e : j * b + (c - j * b) ≡ c = omega arith in
              subst (λ (d : ℕ). Sound₃ N (k * b) d (run₃ N d s)) e
              (base_panel b (k * b) (j * b) (λ n. runᵇ₃ N b (j * b + n) k₀) b-pos (omega arith) (inner_runs j (omega arith) ih) (so_far j (omega arith) ih)
              (λ n g. rw (first_at N b j n g) at (h (j * b + n) (omega arith))) (c - j * b) (omega arith))
