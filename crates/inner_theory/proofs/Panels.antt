-- T-3 and T-4 over all panels. Assumes nothing.
use Prim.Native.Nat.{ℕ, zero, suc, ◌+◌, ◌*◌, pred, ◌≤◌, ◌<◌}
use mathlib.Core.Bool.{true, false}
use mathlib.Core.Path.{◌≡◌, refl, sym, ap, ◌∙◌, fun_ext, subst, subst₂}
use mathlib.Core.Logic.{◌⊎◌, inl, inr}
use mathlib.Core.Option.{Option}
use native.Mathlib.Omega.{arith}
use native.Mathlib.Nat.{add-suc, add-zero, zero-add, zero-mul, mul-add-mod_self_right, mod-eq_of_lt, mul-le-mul_right}
use lib.Dec.{ltb}
use borrow.Author.Tests.{eq-eqb, ne_eqb, lt-ltb, le-ltb}
use Rattle.inner_theory.specs.Setting.{Setting, Laws}
use Rattle.inner_theory.specs.Stack.{Place, up, low, Column, steps, stored, panel}
use Rattle.inner_theory.specs.Columns.{Tiles, col, multipliers, Coupled, run₃, run₄, Blocked, held, inside, beyond, first, last, columnᵇ₃, runᵇ₃, columnᵇ₄, runᵇ₄}
use Rattle.inner_theory.specs.Sound.{Inside}
use Rattle.inner_theory.proofs.Tests.{cond_true, cond_false, lt_or_le}
use Rattle.inner_theory.proofs.Panel.{panel_steps, panel_cong}
use Rattle.inner_theory.proofs.Base.{E, F, M, left, rows_left_lem, Pivots, right, no_multiplier_above, split_steps, steps_cong, run₄-steps}
use Rattle.inner_theory.proofs.Inside.{Kept, Within, step}

module _ (N : Setting) where
  pub first_at : (b j n : ℕ) → n < b → first N b (j * b + n) ≡ j * b
  unfolding first
  first_at b j n h = rw (mul-add-mod_self_right j b n, mod-eq_of_lt h) (omega arith)

  pub last_true : (b j n : ℕ) → suc n ≡ b → last N b (j * b + n) ≡ true
  unfolding last
  last_true b j n h = rw (first_at b j n (omega arith)) (eq-eqb (suc (j * b + n)) (j * b + b) (omega arith))

  pub last_false : (b j n : ℕ) → suc n < b → last N b (j * b + n) ≡ false
  unfolding last
  last_false b j n h = rw (first_at b j n (omega arith)) (ne_eqb (suc (j * b + n)) (j * b + b) (λ (z : suc (j * b + n) ≡ j * b + b). omega arith))

  pub column_inside : (b j n : ℕ) (K : Blocked N) → suc n < b → columnᵇ₃ N b (j * b + n) K ≡ inside N (j * b) (j * b + b) (j * b + n) K
  unfolding columnᵇ₃
  column_inside b j n K h = rw (last_false b j n h, first_at b j n (omega arith))

  pub column_last : (b j n : ℕ) (K : Blocked N) → suc n ≡ b → columnᵇ₃ N b (j * b + n) K ≡ beyond N (j * b) b (inside N (j * b) (j * b + b) (j * b + n) K)
  unfolding columnᵇ₃
  column_last b j n K h = rw (last_true b j n h, first_at b j n (omega arith))

  module _ (s : Coupled N) (b : ℕ) where
    -- between panels, a columns worked
    pub record At (a : ℕ) (K : Blocked N) : Type 0 where
      pub rows : K.rows ≡ (run₃ N a s).rows
      pub upper : (i q : ℕ) → K.tiles (up i) q ≡ (run₃ N a s).tiles (up i) q
      pub ahead : (q : ℕ) → a ≤ q → (p : Place N.Row) → K.tiles p q ≡ (run₃ N a s).tiles p q
      pub blank : (i p : ℕ) → a ≤ i → K.slice i p ≡ N.nought
      pub kept : Kept N s b a K.tiles K.slice

    pub start : (a : ℕ) (K : Blocked N) → At a K → Within N s b a 0 K
    start a K h = record {
      rows = rw add-zero h.rows;
      upper = λ i q k. rw add-zero (h.upper i q);
      mid = λ q k l p. rw add-zero (h.ahead q (omega arith) p);
      here = λ c k l p hp. absurd (omega arith);
      blank = λ i p k l. h.blank i p k;
      blank_below = λ i p k. h.blank i p (omega arith);
      waiting = λ q k p. h.ahead q (omega arith) p;
      kept = h.kept;
    }

    module _ (L : Laws N) (j : ℕ) (K : Blocked N) (w : Within N s b (j * b) b K) (piv : Pivots N s (j * b) b) where
      own_entries : (c : ℕ) → j * b ≤ c → c < j * b + b → K.rows c ≡ E N s c
      own_entries c l u = ap (λ (f : ℕ → Option N.Row). f c) w.rows ∙ rows_left_lem N s (j * b + b) c u

      -- right of the panel, whole
      done_beyond : (q : ℕ) → j * b + b ≤ q → panel N K.rows (held N (j * b) K.tiles K.slice) (j * b) b (col N K.tiles q) ≡ col N (run₃ N (j * b + b) s).tiles q
      unfolding col
      done_beyond q h =
          panel_cong N L K.rows (E N s) (held N (j * b) K.tiles K.slice) (stored N (E N s) (M N s) (j * b) b) (j * b) b (col N K.tiles q) own_entries
          (λ c i l u k v. w.here c l u (up i) (omega arith, v))
          (λ c r l u. w.here c l u (low r) tt)
          ∙ (ap (panel N (E N s) (stored N (E N s) (M N s) (j * b) b) (j * b) b) (fun_ext (λ p. w.waiting q h p))
          ∙ (panel_steps N L (E N s) (M N s) (λ c i. no_multiplier_above N L (F N s c) i) (j * b) b (col N (run₃ N (j * b) s).tiles q)
          ∙ sym (right N s L (j * b) b q h piv)))

      done_ahead : (q : ℕ) → j * b + b ≤ q → (p : Place N.Row) → (beyond N (j * b) b K).tiles p q ≡ (run₃ N (j * b + b) s).tiles p q
      unfolding col
      done_ahead q h p = cond_false (ltb q (j * b + b)) _ _ (le-ltb q (j * b + b) h) ∙ ap (λ (x : Column N). x p) (done_beyond q h)

      done_inside : (q : ℕ) → q < j * b + b → (p : Place N.Row) → (beyond N (j * b) b K).tiles p q ≡ K.tiles p q
      done_inside q h p = cond_true (ltb q (j * b + b)) _ _ (lt-ltb q (j * b + b) h)

      done_kept : Kept N s b (j * b + b) (beyond N (j * b) b K).tiles (beyond N (j * b) b K).slice
      unfolding held
      done_kept i h c l u p hp = at p ∙ go (lt_or_le i j)
        where
          at : (p : Place N.Row) → held N (i * b) (beyond N (j * b) b K).tiles K.slice c p ≡ held N (i * b) K.tiles K.slice c p
          at (up k) = refl
          at (low r) = done_inside c (omega arith) (low r)

          go : (i < j) ⊎ (j ≤ i) → held N (i * b) K.tiles K.slice c p ≡ stored N (E N s) (M N s) (i * b) b c p
          go (inl g) = w.kept i (omega (arith, mul-le-mul_right b g)) c l u p hp
          go (inr g) =
              let z : j * b ≡ i * b = omega (arith, mul-le-mul_right b g) in
              subst (λ (a : ℕ). (c : ℕ) → a ≤ c → c < a + b → (p : Place N.Row) → Inside a b p → held N a K.tiles K.slice c p ≡ stored N (E N s) (M N s) a b c p) z w.here c l u p hp

      pub finish : At (j * b + b) (beyond N (j * b) b K)
      finish = record {
        rows = w.rows;
        upper = λ i q. go i q (lt_or_le q (j * b + b));
        ahead = done_ahead;
        blank = w.blank_below;
        kept = done_kept;
      }
        where
          go : (i q : ℕ) → (q < j * b + b) ⊎ (j * b + b ≤ q) → (beyond N (j * b) b K).tiles (up i) q ≡ (run₃ N (j * b + b) s).tiles (up i) q
          go i q (inl h) = done_inside q h (up i) ∙ w.upper i q h
          go i q (inr h) = done_ahead q h (up i)

    -- ---- T-3, whole

    module _ (L : Laws N) (k₀ : Blocked N) (same-tiles : k₀.tiles ≡ s.tiles) (same_rows : k₀.rows ≡ s.rows) (clear : (i p : ℕ) → k₀.slice i p ≡ N.nought) (b-pos : 0 < b) where
      opening : At 0 k₀
      unfolding run₃
      opening = record {
        rows = same_rows;
        upper = λ i q. ap (λ (A : Tiles N). A (up i) q) same-tiles;
        ahead = λ q h p. ap (λ (A : Tiles N). A p q) same-tiles;
        blank = λ i p h. clear i p;
        kept = λ j h. absurd (omega arith);
      }

      -- columns inside a panel
      pub run_within : (j n : ℕ) → n < b → At (j * b) (runᵇ₃ N b (j * b) k₀) → Within N s b (j * b) n (runᵇ₃ N b (j * b + n) k₀)
      unfolding runᵇ₃
      run_within j zero h t = rw add-zero (start (j * b) (runᵇ₃ N b (j * b) k₀) t)
      run_within j (suc n) h t =
          rw (add-suc, column_inside b j n (runᵇ₃ N b (j * b + n) k₀) h)
          (step N s b (j * b) n (runᵇ₃ N b (j * b + n) k₀) (omega arith) (run_within j n (omega arith) t))

      next_panel : (j n : ℕ) → suc n ≡ b → Pivots N s (j * b) b → At (j * b) (runᵇ₃ N b (j * b) k₀) → At (j * b + b) (runᵇ₃ N b (suc (j * b + n)) k₀)
      unfolding runᵇ₃
      next_panel j n h piv t =
          rw (column_last b j n (runᵇ₃ N b (j * b + n) k₀) h)
          (finish L j (inside N (j * b) (j * b + b) (j * b + n) (runᵇ₃ N b (j * b + n) k₀))
          (subst (λ (k : ℕ). Within N s b (j * b) k (inside N (j * b) (j * b + b) (j * b + n) (runᵇ₃ N b (j * b + n) k₀))) h
          (step N s b (j * b) n (runᵇ₃ N b (j * b + n) k₀) (omega arith) (run_within j n (omega arith) t)))
          piv)

      pub run_at : (j : ℕ) → Pivots N s 0 (j * b) → At (j * b) (runᵇ₃ N b (j * b) k₀)
      unfolding runᵇ₃
      run_at zero piv = rw zero-mul opening
      run_at (suc j) piv =
          let e : suc (j * b + pred b) ≡ suc j * b = omega arith in
          let f : j * b + b ≡ suc j * b = omega arith in
          subst₂ (λ (a c : ℕ). At a (runᵇ₃ N b c k₀)) f e (next_panel j (pred b) (omega arith) (λ c l u. piv c (omega arith) (omega arith)) (run_at j (λ c l u. piv c l (omega arith))))

      -- ---- T-4, whole

      module _ (k : ℕ) (piv : Pivots N s 0 (k * b)) where
        abbrev pub K : Blocked N
        K = runᵇ₃ N b (k * b) k₀

        pub plain₄ : (n : ℕ) (x : Column N) → n ≤ k * b → run₄ N (run₃ N (k * b) s).tiles (run₃ N (k * b) s).rows n x ≡ steps N (E N s) (M N s) 0 n x
        unfolding col
        plain₄ n x h =
            run₄-steps N (run₃ N (k * b) s).tiles (run₃ N (k * b) s).rows n x
            ∙ steps_cong N (run₃ N (k * b) s).rows (E N s) (λ c. multipliers N (col N (run₃ N (k * b) s).tiles c)) (M N s) 0 n x
            (λ c l u. rows_left_lem N s (k * b) c (omega arith))
            (λ c l u. ap (multipliers N) (fun_ext (λ p. left N s (k * b) c (omega arith) p)))

        -- the blocked T-4's columns inside a panel only advance
        pub idle₄ : (j n : ℕ) (x : Column N) → n < b → runᵇ₄ N b K.tiles K.slice K.rows (j * b + n) x ≡ runᵇ₄ N b K.tiles K.slice K.rows (j * b) x
        unfolding runᵇ₄ columnᵇ₄
        idle₄ j zero x h = rw add-zero
        idle₄ j (suc n) x h = rw (add-suc, last_false b j n h) (idle₄ j n x (omega arith))

        panel₄ : (j n : ℕ) (x : Column N) → suc n ≡ b → runᵇ₄ N b K.tiles K.slice K.rows (suc (j * b + n)) x ≡ panel N K.rows (held N (j * b) K.tiles K.slice) (j * b) b (runᵇ₄ N b K.tiles K.slice K.rows (j * b) x)
        unfolding runᵇ₄ columnᵇ₄
        panel₄ j n x h = rw (last_true b j n h, first_at b j n (omega arith)) (ap (panel N K.rows (held N (j * b) K.tiles K.slice) (j * b) b) (idle₄ j n x (omega arith)))

        -- one panel of T-4
        pub one-panel₄ : (j : ℕ) (x : Column N) → j * b + b ≤ k * b → panel N K.rows (held N (j * b) K.tiles K.slice) (j * b) b x ≡ steps N (E N s) (M N s) (j * b) b x
        one-panel₄ j x h =
            panel_cong N L K.rows (E N s) (held N (j * b) K.tiles K.slice) (stored N (E N s) (M N s) (j * b) b) (j * b) b x
            (λ c l u. ap (λ (f : ℕ → Option N.Row). f c) (run_at k piv).rows ∙ rows_left_lem N s (k * b) c (omega arith))
            (λ c i l u g v. (run_at k piv).kept j h c l u (up i) (omega arith, v))
            (λ c r l u. (run_at k piv).kept j h c l u (low r) tt)
            ∙ panel_steps N L (E N s) (M N s) (λ c i. no_multiplier_above N L (F N s c) i) (j * b) b x

        pub blocked₄ : (j : ℕ) (x : Column N) → j ≤ k → runᵇ₄ N b K.tiles K.slice K.rows (j * b) x ≡ steps N (E N s) (M N s) 0 (j * b) x
        unfolding runᵇ₄ steps
        blocked₄ zero x h = rw zero-mul
        blocked₄ (suc j) x h =
            let e : suc j * b ≡ suc (j * b + pred b) = omega arith in
            let f : suc j * b ≡ j * b + b = omega arith in
            let g : j * b + b ≤ k * b = omega (arith, mul-le-mul_right b h) in
            ap (λ (c : ℕ). runᵇ₄ N b K.tiles K.slice K.rows c x) e
            ∙ (panel₄ j (pred b) x (omega arith)
            ∙ (one-panel₄ j (runᵇ₄ N b K.tiles K.slice K.rows (j * b) x) g
            ∙ (ap (steps N (E N s) (M N s) (j * b) b) (blocked₄ j x (omega arith))
            ∙ (sym (rw zero-add at (split_steps N (E N s) (M N s) 0 (j * b) b x)) ∙ ap (λ (c : ℕ). steps N (E N s) (M N s) 0 c x) (sym f)))))

        -- T-4, on any column of numbers
        pub same₄ : (x : Column N) → runᵇ₄ N b (runᵇ₃ N b (k * b) k₀).tiles (runᵇ₃ N b (k * b) k₀).slice (runᵇ₃ N b (k * b) k₀).rows (k * b) x ≡ run₄ N (run₃ N (k * b) s).tiles (run₃ N (k * b) s).rows (k * b) x
        same₄ x = blocked₄ k x (omega arith) ∙ sym (plain₄ (k * b) x (omega arith))
