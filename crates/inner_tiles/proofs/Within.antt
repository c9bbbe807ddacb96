-- A column of T-3 with b on tiles is the theory's: inside its panel, and right of it. Assumes nothing.
use Prim.Native.Nat.{ℕ, suc, ◌+◌, ◌-◌, pred, ◌≤◌, ◌<◌}
use mathlib.Core.Bool.{Bool, true, false, cond, ◌&&◌, ◌||◌}
use mathlib.Core.List.{List}
use mathlib.Core.Option.{Option}
use mathlib.Core.Path.{◌≡◌, refl, sym, ap, ◌∙◌}
use mathlib.Core.Logic.{◌⊎◌, inl, inr}
use native.Mathlib.Omega.{arith}
use native.Mathlib.Nat.{add-sub_cancel_left}
use lib.ListN.{get_or, set, length}
use lib.Dec.{eqb, ltb, leb}
use lib.Ieee.{Float}
use borrow.Author.Tests.{ltb-true, lt-ltb, le-ltb, le-leb, lt-leb}
use Rattle.inner_theory.specs.Stack.{Place, up, low, Column, swap, exchanged}
use Rattle.inner_theory.specs.Columns
use Rattle.inner_theory.specs.Columns.{col, entry, held, moved, inside, beyond}
use Rattle.inner_theory.specs.Sound.{Inside}
use Rattle.inner_theory.specs.Alike.{Alikeᵇ₃}
use Rattle.inner_theory.proofs.Tests.{true_or_false, cond_true, cond_false, lt_or_le, Side, before, equal, after, side}
use Rattle.inner_theory.proofs.Inside.{in_left, in_moved, in_at, in_mid, in_right, slice_same, slice_old}
use Rattle.model.specs.Num.{is_zero, magnitude}
use Rattle.model.specs.Tile.{at, block}
use Rattle.model.specs.Column
use Rattle.model.specs.Column.{couple_pivot, eliminated, upper_exchanged, lower_exchanged}
use Rattle.inner_tiles.specs.Instance.{Row, ieee}
use Rattle.inner_tiles.specs.Inner.{Inner, couple_within, couple_right, panel_paired}
use Rattle.inner_tiles.specs.Views.{stack, viewᵇ}
use Rattle.laws.proofs.Blocks.{at_block}
use Rattle.inner_tiles.proofs.Fourth.{up_swap, low_swap, panel_paired_alike, panel_paired_left}
use Rattle.inner_tiles.proofs.Third.{entry_set, named_none, entry_flat, entry_live, fresh_flat, onward_flat, up_at, up_on, low_at_lem, low_on, e}
use Rattle.inner_tiles.proofs.Pivots.{couple_place}
use Rattle.inner_tiles.proofs.Exchanges.{and_off, up_left}
use Rattle.inner_tiles.proofs.Sides.{elim_eq, elim_gt}
use Rattle.laws.proofs.Tests.{or_left, or_right, false_or, and-true}

module _ (t b a c : ℕ) (s : Inner) (l : a ≤ c) (u : c < a + b) (o : a + b ≤ t) (hl : length s.rows ≡ t) where
  abbrev pub K : Columns.Blocked (ieee t)
  K = viewᵇ t b s

  abbrev pub E : ℕ
  E = e t c s.upper s.lower

  abbrev pub Flat : Bool → Type 0
  Flat x = is_zero (couple_pivot t c s.upper s.lower).magnitude ≡ x

  abbrev pub idle : Inner
  idle = record { upper = s.upper; lower = s.lower; slice = s.slice; rows = set s.rows c 0 }

  abbrev pub U : List Float
  U = upper_exchanged t t c c E s.upper s.lower

  abbrev pub D : List Float
  D = lower_exchanged t t c c E s.upper s.lower

  abbrev pub live : Inner
  live = record {
    upper = block t t (λ r q. cond (ltb q (a + b)) (at t U r q) (at t s.upper r q));
    lower = block t t (λ r q. cond (ltb q a || leb (a + b) q) (at t s.lower r q) (cond (ltb q c) (cond (eqb (suc r) E) (at b s.slice c (q - a)) (at t s.lower r q)) (eliminated c (at t U c) (at t D r) q)));
    slice = block t b (λ r p. cond (ltb 0 E && eqb r c && ltb p (c - a)) (at t s.lower (pred E) (a + p)) (at b s.slice r p));
    rows = set s.rows c E;
  }

  pub within_flat : Flat true → couple_within t b a (a + b) c s ≡ idle
  unfolding couple_within
  within_flat h = rw (h, couple_within)

  pub within_live : Flat false → couple_within t b a (a + b) c s ≡ live
  unfolding couple_within
  within_live h = rw (h, couple_within)

  still : Flat true → (q : ℕ) (p : Place (Row t)) → moved (ieee t) a c K.tiles K.slice q p ≡ stack t t s.upper s.lower p q
  unfolding moved exchanged swap held stack
  still h q (up i) = refl
  still h q (low r) = ap (λ (x : Option (Row t)). exchanged (ieee t) c x (held (ieee t) a (stack t t s.upper s.lower) (λ i p. at b s.slice i p) q) (low r)) (entry_flat t c s.upper s.lower h)

  flat_tiles : Flat true → (q : ℕ) (p : Place (Row t)) → stack t t s.upper s.lower p q ≡ (inside (ieee t) a (a + b) c K).tiles p q
  unfolding col
  flat_tiles h q p = go (lt_or_le q a) (side q c) (lt_or_le q (a + b))
    where
      go : (q < a) ⊎ (a ≤ q) → Side q c → (q < a + b) ⊎ (a + b ≤ q) → stack t t s.upper s.lower p q ≡ (inside (ieee t) a (a + b) c K).tiles p q
      go (inl f) i j = sym (in_left (ieee t) a (a + b) c K l u q f p)
      go (inr f) (before i) j = sym (in_moved (ieee t) a (a + b) c K l u q f i p ∙ still h q p)
      go (inr f) (equal i) j = ap (λ (k : ℕ). stack t t s.upper s.lower p k) i ∙ sym (in_at (ieee t) a (a + b) c K l u q i p ∙ ap (λ (x : Column (ieee t)). x p) (fresh_flat t c s.upper s.lower h))
      go (inr f) (after i) (inl j) = sym (in_mid (ieee t) a (a + b) c K l u q i j p ∙ ap (λ (x : Column (ieee t)). x p) (onward_flat t c s.upper s.lower (col (ieee t) (stack t t s.upper s.lower) q) h))
      go (inr f) (after i) (inr j) = sym (in_right (ieee t) a (a + b) c K l u q j p)

  flat_slice : Flat true → (i p : ℕ) → at b s.slice i p ≡ (inside (ieee t) a (a + b) c K).slice i p
  unfolding exchanged swap held
  flat_slice h i p = go (lt_or_le p (c - a))
    where
      go : (p < c - a) ⊎ (c - a ≤ p) → at b s.slice i p ≡ (inside (ieee t) a (a + b) c K).slice i p
      go (inl f) =
          sym (slice_old (ieee t) a (a + b) c K l u i p f
          ∙ (ap (λ (x : Option (Row t)). exchanged (ieee t) c x (held (ieee t) a (stack t t s.upper s.lower) (λ i p. at b s.slice i p) (a + p)) (up i)) (entry_flat t c s.upper s.lower h)
          ∙ ap (at b s.slice i) (add-sub_cancel_left a p)))
      go (inr f) = sym (slice_same (ieee t) a (a + b) c K l u i p f)

  -- multipliers, moved
  moved_low : Flat false → (q : ℕ) (r : Row t) → cond (eqb (suc r.0) E) (at b s.slice c (q - a)) (at t s.lower r.0 q) ≡ moved (ieee t) a c K.tiles K.slice q (low r)
  unfolding moved held stack
  moved_low h q r =
      low_swap t c E (held (ieee t) a (stack t t s.upper s.lower) (λ i p. at b s.slice i p) q) (couple_place t c s.upper s.lower) r
      ∙ ap (λ (x : Option (Row t)). exchanged (ieee t) c x (held (ieee t) a (stack t t s.upper s.lower) (λ i p. at b s.slice i p) q) (low r)) (sym (entry_live t c s.upper s.lower h))

  moved_up : (q i : ℕ) → at t s.upper i q ≡ moved (ieee t) a c K.tiles K.slice q (up i)
  unfolding moved stack
  moved_up q i = refl

  live_up : Flat false → (q : ℕ) → q < t → (i : ℕ) → i < t → at t live.upper i q ≡ (inside (ieee t) a (a + b) c K).tiles (up i) q
  unfolding stack
  live_up h q hq i hi = at_block t t _ i q hi hq ∙ go (lt_or_le q a) (side q c) (lt_or_le q (a + b))
    where
      go : (q < a) ⊎ (a ≤ q) → Side q c → (q < a + b) ⊎ (a + b ≤ q) → cond (ltb q (a + b)) (at t U i q) (at t s.upper i q) ≡ (inside (ieee t) a (a + b) c K).tiles (up i) q
      go (inl f) k j =
          cond_true (ltb q (a + b)) _ _ (lt-ltb q (a + b) (omega arith))
          ∙ (up_left t t c c E s.upper s.lower i q hi hq (omega arith) ∙ sym (in_left (ieee t) a (a + b) c K l u q f (up i)))
      go (inr f) (before k) j =
          cond_true (ltb q (a + b)) _ _ (lt-ltb q (a + b) (omega arith))
          ∙ (up_left t t c c E s.upper s.lower i q hi hq k ∙ (moved_up q i ∙ sym (in_moved (ieee t) a (a + b) c K l u q f k (up i))))
      go (inr f) (equal k) j =
          cond_true (ltb q (a + b)) _ _ (lt-ltb q (a + b) (omega arith))
          ∙ (ap (λ (x : ℕ). at t U i x) k ∙ (up_at t c s.upper s.lower (omega arith) h i hi ∙ sym (in_at (ieee t) a (a + b) c K l u q k (up i))))
      go (inr f) (after k) (inl j) =
          cond_true (ltb q (a + b)) _ _ (lt-ltb q (a + b) j)
          ∙ (up_on t c s.upper s.lower (omega arith) h i q hi hq k ∙ sym (in_mid (ieee t) a (a + b) c K l u q k j (up i)))
      go (inr f) (after k) (inr j) = cond_false (ltb q (a + b)) _ _ (le-ltb q (a + b) j) ∙ sym (in_right (ieee t) a (a + b) c K l u q j (up i))

  live_low : Flat false → (q : ℕ) → q < t → (r : Row t) → at t live.lower r.0 q ≡ (inside (ieee t) a (a + b) c K).tiles (low r) q
  unfolding stack
  live_low h q hq r = at_block t t _ r.0 q (ltb-true r.0 t r.1) hq ∙ go (lt_or_le q a) (side q c) (lt_or_le q (a + b))
    where
      here : a ≤ q → q < a + b → (ltb q a || leb (a + b) q) ≡ false
      here f j = false_or (ltb q a) (leb (a + b) q) (le-ltb q a f) (lt-leb (a + b) q j)

      go : (q < a) ⊎ (a ≤ q) → Side q c → (q < a + b) ⊎ (a + b ≤ q) → cond (ltb q a || leb (a + b) q) (at t s.lower r.0 q) (cond (ltb q c) (cond (eqb (suc r.0) E) (at b s.slice c (q - a)) (at t s.lower r.0 q)) (eliminated c (at t U c) (at t D r.0) q)) ≡ (inside (ieee t) a (a + b) c K).tiles (low r) q
      go (inl f) k j = cond_true (ltb q a || leb (a + b) q) _ _ (or_left (ltb q a) (leb (a + b) q) (lt-ltb q a f)) ∙ sym (in_left (ieee t) a (a + b) c K l u q f (low r))
      go (inr f) (before k) j =
          cond_false (ltb q a || leb (a + b) q) _ _ (here f (omega arith))
          ∙ (cond_true (ltb q c) _ _ (lt-ltb q c k) ∙ (moved_low h q r ∙ sym (in_moved (ieee t) a (a + b) c K l u q f k (low r))))
      go (inr f) (equal k) j =
          cond_false (ltb q a || leb (a + b) q) _ _ (here f (omega arith))
          ∙ (cond_false (ltb q c) _ _ (le-ltb q c (omega arith)) ∙ (elim_eq c q (at t U c) (at t D r.0) k ∙ (low_at_lem t c s.upper s.lower (omega arith) h r ∙ sym (in_at (ieee t) a (a + b) c K l u q k (low r)))))
      go (inr f) (after k) (inl j) =
          cond_false (ltb q a || leb (a + b) q) _ _ (here f j)
          ∙ (cond_false (ltb q c) _ _ (le-ltb q c (omega arith)) ∙ (elim_gt c q (at t U c) (at t D r.0) k ∙ (low_on t c s.upper s.lower (omega arith) h r q hq k ∙ sym (in_mid (ieee t) a (a + b) c K l u q k j (low r)))))
      go (inr f) (after k) (inr j) = cond_true (ltb q a || leb (a + b) q) _ _ (or_right (ltb q a) (leb (a + b) q) (le-leb (a + b) q j)) ∙ sym (in_right (ieee t) a (a + b) c K l u q j (low r))

  slice_swap : Flat false → (i p : ℕ) → cond (ltb 0 E && eqb i c) (at t s.lower (pred E) (a + p)) (at b s.slice i p) ≡ exchanged (ieee t) c (entry (ieee t) c (col (ieee t) (stack t t s.upper s.lower) c)) (held (ieee t) a (stack t t s.upper s.lower) (λ i p. at b s.slice i p) (a + p)) (up i)
  unfolding held stack
  slice_swap h i p =
      ap (λ (k : ℕ). cond (ltb 0 E && eqb i c) (at t s.lower (pred E) (a + p)) (at b s.slice i k)) (sym (add-sub_cancel_left a p))
      ∙ (up_swap t c E i (held (ieee t) a (stack t t s.upper s.lower) (λ i p. at b s.slice i p) (a + p)) (λ k. at t s.lower k (a + p)) (couple_place t c s.upper s.lower) (λ ρ. refl)
      ∙ ap (λ (x : Option (Row t)). exchanged (ieee t) c x (held (ieee t) a (stack t t s.upper s.lower) (λ i p. at b s.slice i p) (a + p)) (up i)) (sym (entry_live t c s.upper s.lower h)))

  live_slice : Flat false → (i p : ℕ) → i < t → p < b → at b live.slice i p ≡ (inside (ieee t) a (a + b) c K).slice i p
  live_slice h i p hi hp = at_block t b _ i p hi hp ∙ go (lt_or_le p (c - a))
    where
      go : (p < c - a) ⊎ (c - a ≤ p) → cond (ltb 0 E && eqb i c && ltb p (c - a)) (at t s.lower (pred E) (a + p)) (at b s.slice i p) ≡ (inside (ieee t) a (a + b) c K).slice i p
      go (inl f) = rw (lt-ltb p (c - a) f, and-true (ltb 0 E && eqb i c)) (slice_swap h i p)
      go (inr f) = rw (le-ltb p (c - a) f, and_off (ltb 0 E && eqb i c))

  live_tiles : Flat false → (q : ℕ) → q < t → (p : Place (Row t)) → Inside 0 t p → stack t t live.upper live.lower p q ≡ (inside (ieee t) a (a + b) c K).tiles p q
  unfolding stack
  live_tiles h q hq (up i) hp = live_up h q hq i (omega (arith, hp.1))
  live_tiles h q hq (low r) hp = live_low h q hq r

  pub within_alike : Alikeᵇ₃ (ieee t) b t (viewᵇ t b (couple_within t b a (a + b) c s)) (inside (ieee t) a (a + b) c (viewᵇ t b s))
  unfolding col
  within_alike = go (true_or_false (is_zero (couple_pivot t c s.upper s.lower).magnitude))
    where
      go : Flat true ⊎ Flat false → Alikeᵇ₃ (ieee t) b t (viewᵇ t b (couple_within t b a (a + b) c s)) (inside (ieee t) a (a + b) c (viewᵇ t b s))
      go (inl h) = rw (within_flat h) (record {
        tiles = λ q hq p hp. flat_tiles h q p;
        slice = λ i p hi hp. flat_slice h i p;
        rows = λ d hd. entry_set t c 0 d s.rows _ (omega arith) hl hd (entry_flat t c s.upper s.lower h ∙ named_none t);
      })
      go (inr h) = rw (within_live h) (record {
        tiles = λ q hq p hp. live_tiles h q hq p hp;
        slice = live_slice h;
        rows = λ d hd. entry_set t c E d s.rows _ (omega arith) hl hd (entry_live t c s.upper s.lower h);
      })

right_left : (t b a : ℕ) (s : Inner) (q : ℕ) → q < t → q < a + b → (p : Place (Row t)) → Inside 0 t p
    → stack t t (panel_paired t t (a + b) b s.lower s.slice s.rows a (record { upper = s.upper; lower = s.lower })).upper (panel_paired t t (a + b) b s.lower s.slice s.rows a (record { upper = s.upper; lower = s.lower })).lower p q ≡ stack t t s.upper s.lower p q
unfolding stack
right_left t b a s q hq j (up i) hp = (panel_paired_left t t (a + b) b a s.upper s.lower s.slice s.rows (record { upper = s.upper; lower = s.lower }) q hq j i (omega (arith, hp.1))).0
right_left t b a s q hq j (low r) hp = (panel_paired_left t t (a + b) b a s.upper s.lower s.slice s.rows (record { upper = s.upper; lower = s.lower }) q hq j r.0 (ltb-true r.0 t r.1)).1

pub right_of_alike : (t b a : ℕ) (s : Inner) → a + b ≤ t → ((c : ℕ) → c < a + b → get_or s.rows c 0 ≤ t) → Alikeᵇ₃ (ieee t) b t (viewᵇ t b (couple_right t b a s)) (beyond (ieee t) a b (viewᵇ t b s))
unfolding couple_right col
right_of_alike t b a s o fits = record { tiles = λ q hq p hp. go q hq p hp (lt_or_le q (a + b)); slice = λ i p hi hp. refl; rows = λ c hc. refl }
  where
    go : (q : ℕ) → q < t → (p : Place (Row t)) → Inside 0 t p → (q < a + b) ⊎ (a + b ≤ q)
        → stack t t (panel_paired t t (a + b) b s.lower s.slice s.rows a (record { upper = s.upper; lower = s.lower })).upper (panel_paired t t (a + b) b s.lower s.slice s.rows a (record { upper = s.upper; lower = s.lower })).lower p q ≡ (beyond (ieee t) a b (viewᵇ t b s)).tiles p q
    go q hq p hp (inl j) = right_left t b a s q hq j p hp ∙ sym (cond_true (ltb q (a + b)) _ _ (lt-ltb q (a + b) j))
    go q hq p hp (inr j) = panel_paired_alike t t (a + b) b a s.upper s.lower s.slice s.rows (record { upper = s.upper; lower = s.lower }) q o hq j fits p hp ∙ sym (cond_false (ltb q (a + b)) _ _ (le-ltb q (a + b) j))
