-- T-3 inside a panel: its columns are worked as with b = 1, and the multipliers move. Assumes nothing.
use Prim.Native.Nat.{ℕ, suc, ◌+◌, ◌-◌, ◌*◌, ◌≤◌, ◌<◌}
use mathlib.Core.Bool.{Bool, true, false, cond}
use mathlib.Core.Path.{◌≡◌, sym, ap, ap₂, ◌∙◌, fun_ext}
use mathlib.Core.Logic.{◌⊎◌, inl, inr}
use mathlib.Core.Option.{Option, none, some}
use native.Mathlib.Omega.{arith}
use native.Mathlib.Nat.{add-suc, add-sub_cancel_left}
use lib.Dec.{eqb, ltb}
use borrow.Author.Tests.{lt-ltb, le-ltb}
use Rattle.inner_theory.specs.Setting.{Setting}
use Rattle.inner_theory.specs.Stack.{Place, up, low, Column, swap, exchanged, stored}
use Rattle.inner_theory.specs.Columns.{put, Tiles, col, entry, fresh, multipliers, onward, Coupled, run₃, Blocked, held, moved, inside}
use Rattle.inner_theory.specs.Sound.{Inside}
use Rattle.inner_theory.proofs.Tests.{cond_true, cond_false, lt_or_le, Side, before, equal, after, side, at_before, at_equal, at_after}
use Rattle.inner_theory.proofs.Vector.{swap_other, stored_new, stored_old}
use Rattle.inner_theory.proofs.Base.{E, F, M}

module _ (N : Setting) where
  pub swap_inside : (a b c : ℕ) (e : Option N.Row) (p : Place N.Row) → a ≤ c → c < a + b → Inside a b p → Inside a b (swap N c e p)
  unfolding swap
  swap_inside a b c none p l u h = h
  swap_inside a b c (some r) (up i) l u h = go (eqb i c)
    where
      go : (t : Bool) → Inside a b (cond t (low r) (up i))
      go true = tt
      go false = h
  swap_inside a b c (some r) (low s) l u h = go (N.same s r)
    where
      go : (t : Bool) → Inside a b (cond t (up c) (low s))
      go true = (l, u)
      go false = tt

  -- ---- what `inside` leaves
  module _ (a z c : ℕ) (K : Blocked N) (l : a ≤ c) (u : c < z) where
    pub in_left : (q : ℕ) → q < a → (p : Place N.Row) → (inside N a z c K).tiles p q ≡ K.tiles p q
    in_left q h p = cond_true (ltb q a) _ _ (lt-ltb q a h)

    pub in_moved : (q : ℕ) → a ≤ q → q < c → (p : Place N.Row) → (inside N a z c K).tiles p q ≡ moved N a c K.tiles K.slice q p
    in_moved q h k p = cond_false (ltb q a) _ _ (le-ltb q a h) ∙ cond_true (ltb q c) _ _ (lt-ltb q c k)

    pub in_at : (q : ℕ) → q ≡ c → (p : Place N.Row) → (inside N a z c K).tiles p q ≡ fresh N c (col N K.tiles c) p
    in_at q h p = cond_false (ltb q a) _ _ (le-ltb q a (omega arith)) ∙ at_equal q c _ _ _ h

    pub in_mid : (q : ℕ) → c < q → q < z → (p : Place N.Row) → (inside N a z c K).tiles p q ≡ onward N c (col N K.tiles c) (col N K.tiles q) p
    in_mid q h k p = cond_false (ltb q a) _ _ (le-ltb q a (omega arith)) ∙ (at_after q c _ _ _ h ∙ cond_true (ltb q z) _ _ (lt-ltb q z k))

    pub in_right : (q : ℕ) → z ≤ q → (p : Place N.Row) → (inside N a z c K).tiles p q ≡ K.tiles p q
    in_right q h p = cond_false (ltb q a) _ _ (le-ltb q a (omega arith)) ∙ (at_after q c _ _ _ (omega arith) ∙ cond_false (ltb q z) _ _ (le-ltb q z h))

    pub slice_same : (i p : ℕ) → c - a ≤ p → (inside N a z c K).slice i p ≡ K.slice i p
    slice_same i p h = cond_false (ltb p (c - a)) _ _ (le-ltb p (c - a) h)

    pub slice_old : (i p : ℕ) → p < c - a → (inside N a z c K).slice i p ≡ exchanged N c (entry N c (col N K.tiles c)) (held N a K.tiles K.slice (a + p)) (up i)
    slice_old i p h = cond_true (ltb p (c - a)) _ _ (lt-ltb p (c - a) h)

    pub slice_other : (i p : ℕ) → (i ≡ c → ⊥) → (inside N a z c K).slice i p ≡ K.slice i p
    unfolding exchanged held
    slice_other i p d = go (lt_or_le p (c - a))
      where
        go : (p < c - a) ⊎ (c - a ≤ p) → (inside N a z c K).slice i p ≡ K.slice i p
        go (inl h) = slice_old i p h ∙ (ap (held N a K.tiles K.slice (a + p)) (swap_other N c (entry N c (col N K.tiles c)) i d) ∙ ap (K.slice i) (add-sub_cancel_left a p))
        go (inr h) = slice_same i p h

    -- a column of multipliers already there is exchanged, slice and all
    pub held_old : (q : ℕ) → a ≤ q → q < c → (p : Place N.Row) → held N a (inside N a z c K).tiles (inside N a z c K).slice q p ≡ exchanged N c (entry N c (col N K.tiles c)) (held N a K.tiles K.slice q) p
    unfolding held moved
    held_old q h k (up i) = slice_old i (q - a) (omega arith) ∙ ap (λ (x : ℕ). exchanged N c (entry N c (col N K.tiles c)) (held N a K.tiles K.slice x) (up i)) (omega arith)
    held_old q h k (low r) = in_moved q h k (low r)

-- ---- the invariant

module _ (N : Setting) (s : Coupled N) (b : ℕ) where
  -- the panels that end at or before column a hold the multipliers, moved
  abbrev pub Kept : ℕ → Tiles N → (ℕ → ℕ → N.Num) → Type 0
  Kept a A S = (j : ℕ) → j * b + b ≤ a → (c : ℕ) → j * b ≤ c → c < j * b + b → (p : Place N.Row) → Inside (j * b) b p → held N (j * b) A S c p ≡ stored N (E N s) (M N s) (j * b) b c p

  -- n columns of the panel from a on are worked
  pub record Within (a n : ℕ) (K : Blocked N) : Type 0 where
    pub rows : K.rows ≡ (run₃ N (a + n) s).rows
    pub upper : (i q : ℕ) → q < a + b → K.tiles (up i) q ≡ (run₃ N (a + n) s).tiles (up i) q
    pub mid : (q : ℕ) → a + n ≤ q → q < a + b → (p : Place N.Row) → K.tiles p q ≡ (run₃ N (a + n) s).tiles p q
    pub here : (c : ℕ) → a ≤ c → c < a + n → (p : Place N.Row) → Inside a b p → held N a K.tiles K.slice c p ≡ stored N (E N s) (M N s) a n c p
    pub blank : (i p : ℕ) → a ≤ i → n ≤ p → K.slice i p ≡ N.nought
    pub blank_below : (i p : ℕ) → a + b ≤ i → K.slice i p ≡ N.nought
    pub waiting : (q : ℕ) → a + b ≤ q → (p : Place N.Row) → K.tiles p q ≡ (run₃ N a s).tiles p q
    pub kept : Kept a K.tiles K.slice

  module _ (a n : ℕ) (K : Blocked N) (u : n < b) (w : Within a n K) where
    pub same_column : (q : ℕ) → a + n ≤ q → q < a + b → col N K.tiles q ≡ col N (run₃ N (a + n) s).tiles q
    unfolding col
    same_column q h k = fun_ext (λ p. w.mid q h k p)

    pub same_entry : entry N (a + n) (col N K.tiles (a + n)) ≡ E N s (a + n)
    same_entry = ap (entry N (a + n)) (same_column (a + n) (omega arith) (omega arith))

    pub same_fresh : fresh N (a + n) (col N K.tiles (a + n)) ≡ F N s (a + n)
    same_fresh = ap (fresh N (a + n)) (same_column (a + n) (omega arith) (omega arith))

    step_rows : (inside N a (a + b) (a + n) K).rows ≡ (run₃ N (a + suc n) s).rows
    unfolding run₃
    step_rows = rw add-suc (ap₂ (put (a + n)) same_entry w.rows)

    step_mid : (q : ℕ) → a + n < q → q < a + b → (p : Place N.Row) → (inside N a (a + b) (a + n) K).tiles p q ≡ (run₃ N (a + suc n) s).tiles p q
    unfolding run₃
    step_mid q h k p =
        rw add-suc (in_mid N a (a + b) (a + n) K (omega arith) (omega arith) q h k p
        ∙ (ap₂ (λ (y x : Column N). onward N (a + n) y x p) (same_column (a + n) (omega arith) (omega arith)) (same_column q (omega arith) k)
        ∙ sym (at_after q (a + n) _ _ _ h)))

    step_upper : (i q : ℕ) → q < a + b → (inside N a (a + b) (a + n) K).tiles (up i) q ≡ (run₃ N (a + suc n) s).tiles (up i) q
    unfolding run₃ moved
    step_upper i q k = go (side q (a + n)) (lt_or_le q a)
      where
        go : Side q (a + n) → (q < a) ⊎ (a ≤ q) → (inside N a (a + b) (a + n) K).tiles (up i) q ≡ (run₃ N (a + suc n) s).tiles (up i) q
        go (before h) (inl g) = rw add-suc (in_left N a (a + b) (a + n) K (omega arith) (omega arith) q g (up i) ∙ (w.upper i q k ∙ sym (at_before q (a + n) _ _ _ h)))
        go (before h) (inr g) = rw add-suc (in_moved N a (a + b) (a + n) K (omega arith) (omega arith) q g h (up i) ∙ (w.upper i q k ∙ sym (at_before q (a + n) _ _ _ h)))
        go (equal h) g = rw add-suc (in_at N a (a + b) (a + n) K (omega arith) (omega arith) q h (up i) ∙ (ap (λ (x : Column N). x (up i)) same_fresh ∙ sym (at_equal q (a + n) _ _ _ h)))
        go (after h) g = step_mid q h k (up i)

    step_here : (c : ℕ) → a ≤ c → c < a + suc n → (p : Place N.Row) → Inside a b p → held N a (inside N a (a + b) (a + n) K).tiles (inside N a (a + b) (a + n) K).slice c p ≡ stored N (E N s) (M N s) a (suc n) c p
    unfolding exchanged held multipliers
    step_here c l k p hp = go (side c (a + n)) p hp
      where
        go : Side c (a + n) → (p : Place N.Row) → Inside a b p → held N a (inside N a (a + b) (a + n) K).tiles (inside N a (a + b) (a + n) K).slice c p ≡ stored N (E N s) (M N s) a (suc n) c p
        go (before h) p hp =
            held_old N a (a + b) (a + n) K (omega arith) (omega arith) c l h p
            ∙ (ap (λ (e : Option N.Row). held N a K.tiles K.slice c (swap N (a + n) e p)) same_entry
            ∙ (w.here c l h (swap N (a + n) (E N s (a + n)) p) (swap_inside N a b (a + n) (E N s (a + n)) p (omega arith) (omega arith) hp)
            ∙ ap (λ (x : Column N). x p) (sym (stored_old N (E N s) (M N s) a n c h))))
        go (equal h) (up i) hp =
            slice_same N a (a + b) (a + n) K (omega arith) (omega arith) i (c - a) (omega arith)
            ∙ (w.blank i (c - a) hp.0 (omega arith) ∙ ap (λ (x : Column N). x (up i)) (sym (stored_new N (E N s) (M N s) a n c h)))
        go (equal h) (low r) hp =
            in_at N a (a + b) (a + n) K (omega arith) (omega arith) c h (low r)
            ∙ (ap (λ (x : Column N). x (low r)) same_fresh
            ∙ (ap (λ (x : ℕ). F N s x (low r)) (sym h) ∙ ap (λ (x : Column N). x (low r)) (sym (stored_new N (E N s) (M N s) a n c h))))
        go (after h) p hp = absurd (omega arith)

    step_kept : Kept a (inside N a (a + b) (a + n) K).tiles (inside N a (a + b) (a + n) K).slice
    unfolding held
    step_kept j h c l k (up i) hp = slice_other N a (a + b) (a + n) K (omega arith) (omega arith) i (c - j * b) (λ (z : i ≡ a + n). omega (arith, hp.1)) ∙ w.kept j h c l k (up i) hp
    step_kept j h c l k (low r) hp = in_left N a (a + b) (a + n) K (omega arith) (omega arith) c (omega arith) (low r) ∙ w.kept j h c l k (low r) hp

    pub step : Within a (suc n) (inside N a (a + b) (a + n) K)
    step = record {
      rows = step_rows;
      upper = step_upper;
      mid = λ q h k p. step_mid q (omega arith) k p;
      here = step_here;
      blank = λ i p h k. slice_same N a (a + b) (a + n) K (omega arith) (omega arith) i p (omega arith) ∙ w.blank i p h (omega arith);
      blank_below = λ i p h. slice_other N a (a + b) (a + n) K (omega arith) (omega arith) i p (λ (z : i ≡ a + n). omega arith) ∙ w.blank_below i p h;
      waiting = λ q h p. in_right N a (a + b) (a + n) K (omega arith) (omega arith) q h p ∙ w.waiting q h p;
      kept = step_kept;
    }
