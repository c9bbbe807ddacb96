-- Columns go by what stands in their t rows and columns alone. Assumes nothing.
use Prim.Native.Nat.{ℕ, zero, suc, ◌+◌, ◌-◌, ◌*◌, ◌/◌, ◌%◌, ◌≤◌, ◌<◌}
use mathlib.Core.Bool.{Bool, true, false, cond, ◌&&◌}
use mathlib.Core.Path.{◌≡◌, refl, sym, ap, ap₂, ◌∙◌, fun_ext, subst}
use mathlib.Core.Logic.{◌⊎◌, inl, inr}
use mathlib.Core.Option.{Option, none, some}
use native.Mathlib.Omega.{arith}
use native.Mathlib.Nat.{div-add-mod', mod-lt, mul-le-mul_right}
use lib.Dec.{eqb, ltb}
use borrow.Author.Tests.{ltb-true}
use Rattle.inner_theory.specs.Setting.{Setting}
use Rattle.inner_theory.specs.Stack.{Place, up, low, Column, swap, exchanged, exchanges, updated, upper_updated, lower_updated, uppers, lowers, panel}
use Rattle.inner_theory.specs.Columns.{put, Tiles, col, candidates, zero_pivot, entry, divided, fresh, multipliers, onward, Coupled, column₃, run₃, Blocked, held, moved, inside, beyond, first, last, columnᵇ₃, runᵇ₃}
use Rattle.inner_theory.specs.Sound.{Inside}
use Rattle.inner_theory.specs.Alike.{Alike, Alike₃, Alikeᵇ₃, Follows₃, Followsᵇ₃}
use Rattle.inner_theory.proofs.Tests.{true_or_false, cond_true, cond_false, and_right, lt_or_le, Side, before, equal, after, side, at_before, at_equal, at_after}
use Rattle.inner_theory.proofs.Inside.{swap_inside, in_left, in_moved, in_at, in_mid, in_right, slice_same, slice_old}
use Rattle.inner_theory.proofs.Panels.{first_at}

module _ (N : Setting) (t : ℕ) where
  pub exchanged_alike : (c : ℕ) (e : Option N.Row) (x y : Column N) → c < t → Alike N t x y → Alike N t (exchanged N c e x) (exchanged N c e y)
  unfolding exchanged
  exchanged_alike c e x y l h p hp = h (swap N c e p) (swap_inside N 0 t c e p (omega arith) (omega arith) hp)

  pub updated_alike : (c : ℕ) (m m' x y : Column N) → c < t → Alike N t m m' → Alike N t x y → Alike N t (updated N c m x) (updated N c m' y)
  unfolding updated
  updated_alike c m m' x y l g h p hp =
      let a : x p ≡ y p = h p hp in
      let b : m p ≡ m' p = g p hp in
      let d : x (up c) ≡ y (up c) = h (up c) (omega arith) in
      cc

  -- ---- column c

  module _ (c : ℕ) (y y' : Column N) (l : c < t) (h : Alike N t y y') where
    same_candidates : candidates N c y ≡ candidates N c y'
    unfolding candidates
    same_candidates = fun_ext at
      where
        at : (o : Option N.Row) → candidates N c y o ≡ candidates N c y' o
        at none = h (up c) (omega arith)
        at (some r) = h (low r) tt

    pub same_pivot : zero_pivot N c y ≡ zero_pivot N c y'
    unfolding zero_pivot
    same_pivot = ap N.flat same_candidates

    pub same_entry : entry N c y ≡ entry N c y'
    unfolding entry zero_pivot
    same_entry = ap (λ (f : Option N.Row → N.Num). cond (N.flat f) none (N.winner f)) same_candidates

    divided_alike : (x x' : Column N) → Alike N t x x' → Alike N t (divided N c x) (divided N c x')
    unfolding divided
    divided_alike x x' g (up i) hp = g (up i) hp
    divided_alike x x' g (low r) hp = ap₂ N.quotient (g (low r) tt) (g (up c) (omega arith))

    pub fresh_alike : Alike N t (fresh N c y) (fresh N c y')
    unfolding fresh
    fresh_alike p hp =
        rw (same_pivot, same_entry) (go (zero_pivot N c y'))
      where
        go : (b : Bool) → cond b y (divided N c (exchanged N c (entry N c y') y)) p ≡ cond b y' (divided N c (exchanged N c (entry N c y') y')) p
        go true = h p hp
        go false = divided_alike (exchanged N c (entry N c y') y) (exchanged N c (entry N c y') y') (exchanged_alike c (entry N c y') y y' l h) p hp

    multipliers_alike : Alike N t (multipliers N (fresh N c y)) (multipliers N (fresh N c y'))
    unfolding multipliers
    multipliers_alike (up i) hp = refl
    multipliers_alike (low r) hp = fresh_alike (low r) hp

    pub onward_alike : (x x' : Column N) → Alike N t x x' → Alike N t (onward N c y x) (onward N c y' x')
    unfolding onward
    onward_alike x x' g p hp =
        rw (same_pivot, same_entry) (go (zero_pivot N c y'))
      where
        go : (b : Bool) → cond b x (updated N c (multipliers N (fresh N c y)) (exchanged N c (entry N c y') x)) p ≡ cond b x' (updated N c (multipliers N (fresh N c y')) (exchanged N c (entry N c y') x')) p
        go true = g p hp
        go false = updated_alike c (multipliers N (fresh N c y)) (multipliers N (fresh N c y')) (exchanged N c (entry N c y') x) (exchanged N c (entry N c y') x') l multipliers_alike (exchanged_alike c (entry N c y') x x' l g) p hp

  -- ---- T-3 with b = 1

  pub column₃-alike : (c : ℕ) → c < t → (s s' : Coupled N) → Alike₃ N t s s' → Alike₃ N t (column₃ N c s) (column₃ N c s')
  unfolding col put
  column₃-alike c l s s' h = record {
    tiles = λ q u p hp. at q u p hp (side q c);
    rows = λ d u. ap₂ (λ (e f : Option N.Row). cond (eqb d c) e f) (same_entry c (col N s.tiles c) (col N s'.tiles c) l (h.tiles c l)) (h.rows d u);
  }
    where
      at : (q : ℕ) → q < t → (p : Place N.Row) → Inside 0 t p → Side q c → (column₃ N c s).tiles p q ≡ (column₃ N c s').tiles p q
      at q u p hp (before k) = at_before q c _ _ _ k ∙ (h.tiles q u p hp ∙ sym (at_before q c _ _ _ k))
      at q u p hp (equal k) = at_equal q c _ _ _ k ∙ (fresh_alike c (col N s.tiles c) (col N s'.tiles c) l (h.tiles c l) p hp ∙ sym (at_equal q c _ _ _ k))
      at q u p hp (after k) = at_after q c _ _ _ k ∙ (onward_alike c (col N s.tiles c) (col N s'.tiles c) l (h.tiles c l) (col N s.tiles q) (col N s'.tiles q) (h.tiles q u) p hp ∙ sym (at_after q c _ _ _ k))

  trans₃ : (s s' s'' : Coupled N) → Alike₃ N t s s' → Alike₃ N t s' s'' → Alike₃ N t s s''
  trans₃ s s' s'' h g = record { tiles = λ q u p hp. h.tiles q u p hp ∙ g.tiles q u p hp; rows = λ c u. h.rows c u ∙ g.rows c u }

  pub follows₃ : (l : ℕ → Coupled N) → Follows₃ N t l → (n : ℕ) → n ≤ t → Alike₃ N t (l n) (run₃ N n (l 0))
  unfolding run₃
  follows₃ l h zero o = record { tiles = λ q u p hp. refl; rows = λ c u. refl }
  follows₃ l h (suc n) o = trans₃ (l (suc n)) (column₃ N n (l n)) (column₃ N n (run₃ N n (l 0))) (h n o) (column₃-alike n o (l n) (run₃ N n (l 0)) (follows₃ l h n (omega arith)))

  -- ---- the panel

  exchanges_alike : (e e' : ℕ → Option N.Row) (a n : ℕ) (x y : Column N) → a + n ≤ t → ((c : ℕ) → a ≤ c → c < a + n → e c ≡ e' c) → Alike N t x y → Alike N t (exchanges N e a n x) (exchanges N e' a n y)
  unfolding exchanges
  exchanges_alike e e' a zero x y o he h p hp = h p hp
  exchanges_alike e e' a (suc n) x y o he h p hp =
      ap (λ (d : Option N.Row). exchanged N (a + n) d (exchanges N e a n x) p) (he (a + n) (omega arith) (omega arith))
      ∙ exchanged_alike (a + n) (e' (a + n)) (exchanges N e a n x) (exchanges N e' a n y) (omega arith) (exchanges_alike e e' a n x y (omega arith) (λ c l u. he c l (omega arith)) h) p hp

  uppers_alike : (m m' : ℕ → Column N) (z a n : ℕ) (x y : Column N) → a + n ≤ t → z ≤ t → ((c i : ℕ) → a ≤ c → c < a + n → i < z → m c (up i) ≡ m' c (up i)) → Alike N t x y → Alike N t (uppers N m z a n x) (uppers N m' z a n y)
  unfolding uppers upper_updated
  uppers_alike m m' z a zero x y o k hm h p hp = h p hp
  uppers_alike m m' z a (suc n) x y o k hm h p hp = go p hp (uppers_alike m m' z a n x y (omega arith) k (λ c i l u. hm c i l (omega arith)) h)
    where
      go : (p : Place N.Row) → Inside 0 t p → Alike N t (uppers N m z a n x) (uppers N m' z a n y) → uppers N m z a (suc n) x p ≡ uppers N m' z a (suc n) y p
      go (up i) hp g = on (true_or_false (ltb (a + n) i && ltb i z))
        where
          on : ((ltb (a + n) i && ltb i z) ≡ true) ⊎ ((ltb (a + n) i && ltb i z) ≡ false) → uppers N m z a (suc n) x (up i) ≡ uppers N m' z a (suc n) y (up i)
          on (inl e) = rw (e, g (up i) hp, g (up (a + n)) (omega arith), hm (a + n) i (omega arith) (omega arith) (ltb-true i z (and_right _ _ e)))
          on (inr e) = rw e (g (up i) hp)
      go (low r) hp g = g (low r) hp

  lowers_alike : (m m' : ℕ → Column N) (a n : ℕ) (x y : Column N) → a + n ≤ t → ((c : ℕ) (r : N.Row) → a ≤ c → c < a + n → m c (low r) ≡ m' c (low r)) → Alike N t x y → Alike N t (lowers N m a n x) (lowers N m' a n y)
  unfolding lowers lower_updated
  lowers_alike m m' a zero x y o hm h p hp = h p hp
  lowers_alike m m' a (suc n) x y o hm h p hp = go p hp (lowers_alike m m' a n x y (omega arith) (λ c r l u. hm c r l (omega arith)) h)
    where
      go : (p : Place N.Row) → Inside 0 t p → Alike N t (lowers N m a n x) (lowers N m' a n y) → lowers N m a (suc n) x p ≡ lowers N m' a (suc n) y p
      go (up i) hp g = g (up i) hp
      go (low r) hp g =
          let u : lowers N m a n x (low r) ≡ lowers N m' a n y (low r) = g (low r) hp in
          let v : lowers N m a n x (up (a + n)) ≡ lowers N m' a n y (up (a + n)) = g (up (a + n)) (omega arith) in
          let w : m (a + n) (low r) ≡ m' (a + n) (low r) = hm (a + n) r (omega arith) (omega arith) in
          ap₂ (λ (f : N.Num → N.Num) (z : N.Num). f z) (ap₂ N.update u w) v

  pub panel_alike : (e e' : ℕ → Option N.Row) (m m' : ℕ → Column N) (a n : ℕ) (x y : Column N) → a + n ≤ t
      → ((c : ℕ) → a ≤ c → c < a + n → e c ≡ e' c) → ((c : ℕ) → a ≤ c → c < a + n → Alike N t (m c) (m' c)) → Alike N t x y
      → Alike N t (panel N e m a n x) (panel N e' m' a n y)
  unfolding panel
  panel_alike e e' m m' a n x y o he hm h =
      lowers_alike m m' a n (uppers N m (a + n) a n (exchanges N e a n x)) (uppers N m' (a + n) a n (exchanges N e' a n y)) o (λ c r l u. hm c l u (low r) tt)
      (uppers_alike m m' (a + n) a n (exchanges N e a n x) (exchanges N e' a n y) o o (λ c i l u k. hm c l u (up i) (omega arith)) (exchanges_alike e e' a n x y o he h))

  -- ---- T-3 with inner blocks

  pub held_alike : (a b q : ℕ) (A A' : Tiles N) (S S' : ℕ → ℕ → N.Num) → a ≤ q → q < a + b → ((i p : ℕ) → i < t → p < b → S i p ≡ S' i p) → Alike N t (col N A q) (col N A' q) → Alike N t (held N a A S q) (held N a A' S' q)
  unfolding held col
  held_alike a b q A A' S S' l u hs h (up i) hp = hs i (q - a) (omega (arith, hp.1)) (omega arith)
  held_alike a b q A A' S S' l u hs h (low r) hp = h (low r) tt

  module _ (a b c : ℕ) (l : a ≤ c) (u : c < a + b) (o : a + b ≤ t) (s s' : Blocked N) (h : Alikeᵇ₃ N b t s s') where
    y : Column N
    y = col N s.tiles c

    inside_tiles : (q : ℕ) → q < t → (p : Place N.Row) → Inside 0 t p → (inside N a (a + b) c s).tiles p q ≡ (inside N a (a + b) c s').tiles p q
    unfolding col moved
    inside_tiles q k p hp = go (lt_or_le q a) (side q c) (lt_or_le q (a + b))
      where
        go : (q < a) ⊎ (a ≤ q) → Side q c → (q < a + b) ⊎ (a + b ≤ q) → (inside N a (a + b) c s).tiles p q ≡ (inside N a (a + b) c s').tiles p q
        go (inl f) i j = in_left N a (a + b) c s l u q f p ∙ (h.tiles q k p hp ∙ sym (in_left N a (a + b) c s' l u q f p))
        go (inr f) (before i) j = in_moved N a (a + b) c s l u q f i p ∙ (on p hp ∙ sym (in_moved N a (a + b) c s' l u q f i p))
          where
            on : (p : Place N.Row) → Inside 0 t p → moved N a c s.tiles s.slice q p ≡ moved N a c s'.tiles s'.slice q p
            on (up x) hp = h.tiles q k (up x) hp
            on (low r) hp =
                ap (λ (e : Option N.Row). exchanged N c e (held N a s.tiles s.slice q) (low r)) (same_entry c (col N s.tiles c) (col N s'.tiles c) (omega arith) (h.tiles c (omega arith)))
                ∙ exchanged_alike c (entry N c (col N s'.tiles c)) (held N a s.tiles s.slice q) (held N a s'.tiles s'.slice q) (omega arith) (held_alike a b q s.tiles s'.tiles s.slice s'.slice f (omega arith) h.slice (h.tiles q k)) (low r) hp
        go (inr f) (equal i) j = in_at N a (a + b) c s l u q i p ∙ (fresh_alike c (col N s.tiles c) (col N s'.tiles c) (omega arith) (h.tiles c (omega arith)) p hp ∙ sym (in_at N a (a + b) c s' l u q i p))
        go (inr f) (after i) (inl j) =
            in_mid N a (a + b) c s l u q i j p
            ∙ (onward_alike c (col N s.tiles c) (col N s'.tiles c) (omega arith) (h.tiles c (omega arith)) (col N s.tiles q) (col N s'.tiles q) (h.tiles q k) p hp
            ∙ sym (in_mid N a (a + b) c s' l u q i j p))
        go (inr f) (after i) (inr j) = in_right N a (a + b) c s l u q j p ∙ (h.tiles q k p hp ∙ sym (in_right N a (a + b) c s' l u q j p))

    inside_slice : (i p : ℕ) → i < t → p < b → (inside N a (a + b) c s).slice i p ≡ (inside N a (a + b) c s').slice i p
    inside_slice i p k m = go (lt_or_le p (c - a))
      where
        go : (p < c - a) ⊎ (c - a ≤ p) → (inside N a (a + b) c s).slice i p ≡ (inside N a (a + b) c s').slice i p
        go (inl f) =
            slice_old N a (a + b) c s l u i p f
            ∙ (ap (λ (e : Option N.Row). exchanged N c e (held N a s.tiles s.slice (a + p)) (up i)) (same_entry c (col N s.tiles c) (col N s'.tiles c) (omega arith) (h.tiles c (omega arith)))
            ∙ (exchanged_alike c (entry N c (col N s'.tiles c)) (held N a s.tiles s.slice (a + p)) (held N a s'.tiles s'.slice (a + p)) (omega arith)
            (held_alike a b (a + p) s.tiles s'.tiles s.slice s'.slice (omega arith) (omega arith) h.slice (h.tiles (a + p) (omega arith))) (up i) (omega arith)
            ∙ sym (slice_old N a (a + b) c s' l u i p f)))
        go (inr f) = slice_same N a (a + b) c s l u i p f ∙ (h.slice i p k m ∙ sym (slice_same N a (a + b) c s' l u i p f))

    pub inside_alike : Alikeᵇ₃ N b t (inside N a (a + b) c s) (inside N a (a + b) c s')
    unfolding col put
    inside_alike = record {
      tiles = λ q k p hp. inside_tiles q k p hp;
      slice = inside_slice;
      rows = λ d k. ap₂ (λ (e f : Option N.Row). cond (eqb d c) e f) (same_entry c (col N s.tiles c) (col N s'.tiles c) (omega arith) (h.tiles c (omega arith))) (h.rows d k);
    }

  pub beyond_alike : (a b : ℕ) → a + b ≤ t → (s s' : Blocked N) → Alikeᵇ₃ N b t s s' → Alikeᵇ₃ N b t (beyond N a b s) (beyond N a b s')
  unfolding col
  beyond_alike a b o s s' h = record { tiles = λ q k p hp. at q k p hp (true_or_false (ltb q (a + b))); slice = h.slice; rows = h.rows }
    where
      at : (q : ℕ) → q < t → (p : Place N.Row) → Inside 0 t p → (ltb q (a + b) ≡ true) ⊎ (ltb q (a + b) ≡ false) → (beyond N a b s).tiles p q ≡ (beyond N a b s').tiles p q
      at q k p hp (inl e) = cond_true (ltb q (a + b)) _ _ e ∙ (h.tiles q k p hp ∙ sym (cond_true (ltb q (a + b)) _ _ e))
      at q k p hp (inr e) =
          cond_false (ltb q (a + b)) _ _ e
          ∙ (panel_alike s.rows s'.rows (held N a s.tiles s.slice) (held N a s'.tiles s'.slice) a b (col N s.tiles q) (col N s'.tiles q) o
          (λ c l u. h.rows c (omega arith)) (λ c l u. held_alike a b c s.tiles s'.tiles s.slice s'.slice l u h.slice (h.tiles c (omega arith))) (h.tiles q k) p hp
          ∙ sym (cond_false (ltb q (a + b)) _ _ e))

-- the panel of a column below t lies below t
pub record Fits (N : Setting) (b t c : ℕ) : Type 0 where
  pub from : first N b c ≤ c
  pub to : c < first N b c + b
  pub whole : first N b c + b ≤ t

pub fits : (N : Setting) (b k c : ℕ) → 0 < b → c < k * b → Fits N b (k * b) c
fits N b k c pos l = subst (λ (d : ℕ). Fits N b (k * b) d) (div-add-mod' c b) (go (lt_or_le (c / b) k))
  where
    go : (c / b < k) ⊎ (k ≤ c / b) → Fits N b (k * b) (c / b * b + c % b)
    go (inl g) =
        let e : first N b (c / b * b + c % b) ≡ c / b * b = first_at N b (c / b) (c % b) (mod-lt c pos) in
        record { from = omega arith; to = omega (arith, mod-lt c pos); whole = omega (arith, mul-le-mul_right b g) }
    go (inr g) = absurd (omega (arith, div-add-mod' c b, mul-le-mul_right b g))

module _ (N : Setting) (b k : ℕ) (pos : 0 < b) where
  pub columnᵇ₃-alike : (c : ℕ) → c < k * b → (s s' : Blocked N) → Alikeᵇ₃ N b (k * b) s s' → Alikeᵇ₃ N b (k * b) (columnᵇ₃ N b c s) (columnᵇ₃ N b c s')
  unfolding columnᵇ₃
  columnᵇ₃-alike c l s s' h = go (fits N b k c pos l) (last N b c)
    where
      go : Fits N b (k * b) c → (e : Bool) → Alikeᵇ₃ N b (k * b) (cond e (beyond N (first N b c) b (inside N (first N b c) (first N b c + b) c s)) (inside N (first N b c) (first N b c + b) c s)) (cond e (beyond N (first N b c) b (inside N (first N b c) (first N b c + b) c s')) (inside N (first N b c) (first N b c + b) c s'))
      go f true = beyond_alike N (k * b) (first N b c) b f.whole _ _ (inside_alike N (k * b) (first N b c) b c f.from f.to f.whole s s' h)
      go f false = inside_alike N (k * b) (first N b c) b c f.from f.to f.whole s s' h

  transᵇ₃ : (s s' s'' : Blocked N) → Alikeᵇ₃ N b (k * b) s s' → Alikeᵇ₃ N b (k * b) s' s'' → Alikeᵇ₃ N b (k * b) s s''
  transᵇ₃ s s' s'' h g = record { tiles = λ q u p hp. h.tiles q u p hp ∙ g.tiles q u p hp; slice = λ i p u v. h.slice i p u v ∙ g.slice i p u v; rows = λ c u. h.rows c u ∙ g.rows c u }

  pub followsᵇ₃ : (l : ℕ → Blocked N) (s : Blocked N) → Alikeᵇ₃ N b (k * b) (l 0) s → Followsᵇ₃ N b (k * b) l → (n : ℕ) → n ≤ k * b → Alikeᵇ₃ N b (k * b) (l n) (runᵇ₃ N b n s)
  unfolding runᵇ₃
  followsᵇ₃ l s z h zero o = z
  followsᵇ₃ l s z h (suc n) o = transᵇ₃ (l (suc n)) (columnᵇ₃ N b n (l n)) (columnᵇ₃ N b n (runᵇ₃ N b n s)) (h n o) (columnᵇ₃-alike n o (l n) (runᵇ₃ N b n s) (followsᵇ₃ l s z h n (omega arith)))
