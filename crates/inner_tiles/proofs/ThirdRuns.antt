-- All columns of T-3 on tiles, with b and by document 01, follow the theory's: the same upper tile and list. Assumes nothing.
use Prim.Native.Nat.{ℕ, zero, suc, ◌+◌, ◌*◌, ◌≤◌, ◌<◌}
use mathlib.Core.Bool.{Bool, true, false, cond}
use mathlib.Core.List.{List}
use mathlib.Core.Option.{Option, none, some}
use mathlib.Core.Path.{◌≡◌, refl, sym, ap, ◌∙◌, subst}
use mathlib.Core.Logic.{◌⊎◌, inl, inr}
use native.Mathlib.Omega.{arith}
use lib.ListN.{get_or, set, length, length-set, get_or-replicate}
use lib.Seq.{get_or-set_same, get_or-set_other, ext_get_or}
use lib.Dec.{eqb}
use lib.Ieee.{nan}
use borrow.Author.Tests.{eqb-true, eqb-false, lt-ltb}
use Rattle.inner_theory.specs.Stack.{up}
use Rattle.inner_theory.specs.Columns
use Rattle.inner_theory.specs.Columns.{col, first, last, inside, beyond, columnᵇ₃}
use Rattle.inner_theory.specs.Alike.{Alike₃, Alikeᵇ₃}
use Rattle.inner_theory.specs.Theorem
use Rattle.inner_theory.specs.Theorem.{Good₃, Finite₃, Blocks}
use Rattle.inner_theory.proofs.Tests.{true_or_false}
use Rattle.inner_theory.proofs.Alike.{follows₃, followsᵇ₃, beyond_alike, fits, Fits}
use Rattle.inner_theory.proofs.Blocks.{blocks}
use Rattle.model.specs.Num.{plus_zero, is_zero}
use Rattle.model.specs.Tile.{at, zeros}
use Rattle.model.specs.Column.{couple_pivot, Coupled, couple_column}
use Rattle.inner_tiles.specs.Instance.{Row, ieee, named}
use Rattle.inner_tiles.specs.Inner.{Inner, couple_within, couple_right, inner_couple_column, panel_start, panel_ends}
use Rattle.inner_tiles.specs.Views.{stack, view₃, viewᵇ}
use Rattle.inner_tiles.specs.K5.{couple_columns, inner_couple_columns, opened, Sized, Same}
use Rattle.laws.proofs.Blocks.{length_block, in_block}
use Rattle.inner_tiles.proofs.Pivots.{couple_place}
use Rattle.inner_tiles.proofs.Exchanges.{same_block, length_upper}
use Rattle.inner_tiles.proofs.Sizes.{size_panel_upper}
use Rattle.inner_tiles.proofs.Instance.{named_row, laws}
use Rattle.inner_tiles.proofs.Third.{third_alike, couple_column_flat, couple_column_live}
use Rattle.inner_tiles.proofs.Within.{within_alike, right_of_alike, within_flat, within_live}

-- ---- sizes

set_entries : (t c e : ℕ) (l : List ℕ) → c < t → e ≤ t → length l ≡ t → ((d : ℕ) → d < t → get_or l d 0 ≤ t) → (d : ℕ) → d < t → get_or (set l c e) d 0 ≤ t
set_entries t c e l hc he hl h d hd = go (true_or_false (eqb d c))
  where
    go : (eqb d c ≡ true) ⊎ (eqb d c ≡ false) → get_or (set l c e) d 0 ≤ t
    go (inl q) = rw (eqb-true d c q, get_or-set_same l c e 0 (omega arith)) he
    go (inr q) = rw (get_or-set_other l c d e 0 (eqb-false d c q)) (h d hd)

column_sized : (t c : ℕ) (s : Coupled) → c < t → Sized t s → Sized t (couple_column t c s)
column_sized t c s hc h = go (true_or_false (is_zero (couple_pivot t c s.upper s.lower).magnitude))
  where
    go : (is_zero (couple_pivot t c s.upper s.lower).magnitude ≡ true) ⊎ (is_zero (couple_pivot t c s.upper s.lower).magnitude ≡ false) → Sized t (couple_column t c s)
    go (inl q) = rw (couple_column_flat t c s q) (record { upper = h.upper; lower = h.lower; rows = length-set s.rows c 0 ∙ h.rows; entries = set_entries t c 0 s.rows hc (omega arith) h.rows h.entries })
    go (inr q) = rw (couple_column_live t c s q) (record { upper = length_upper t t c c (couple_pivot t c s.upper s.lower).place s.upper s.lower; lower = length_block t t _; rows = length-set s.rows c _ ∙ h.rows; entries = set_entries t c _ s.rows hc (couple_place t c s.upper s.lower) h.rows h.entries })

pub third_sized : (t n : ℕ) (s : Coupled) → n ≤ t → Sized t s → Sized t (couple_columns t n s)
unfolding couple_columns
third_sized t zero s o h = h
third_sized t (suc n) s o h = column_sized t n (couple_columns t n s) o (third_sized t n s (omega arith) h)

pub third_follows : (t n : ℕ) (s : Coupled) → n ≤ t → Sized t s → Alike₃ (ieee t) t (view₃ t (couple_columns t n s)) (Columns.run₃ (ieee t) n (view₃ t s))
unfolding couple_columns
third_follows t n s o h = follows₃ (ieee t) t (λ c. view₃ t (couple_columns t c s)) (λ c l. third_alike t c (couple_columns t c s) l (third_sized t c s (omega arith) h).rows) n o

-- ---- entries

number_of : (t : ℕ) → Option (Row t) → ℕ
number_of t none = 0
number_of t (some r) = suc r.0

number_named : (t e : ℕ) → e ≤ t → number_of t (named t e) ≡ e
unfolding number_of named
number_named t zero h = refl
number_named t (suc r) h = ap (number_of t) (named_row t (r, lt-ltb r t h))

named_once : (t e e' : ℕ) → e ≤ t → e' ≤ t → named t e ≡ named t e' → e ≡ e'
named_once t e e' h h' q = sym (number_named t e h) ∙ (ap (number_of t) q ∙ number_named t e' h')

-- ---- with inner blocks

pub record Sizedᵇ (t : ℕ) (s : Inner) : Type 0 where
  pub upper : length s.upper ≡ t * t
  pub rows : length s.rows ≡ t
  pub entries : (c : ℕ) → c < t → get_or s.rows c 0 ≤ t

pub within_sized : (t b a c : ℕ) (s : Inner) → a ≤ c → c < a + b → a + b ≤ t → Sizedᵇ t s → Sizedᵇ t (couple_within t b a (a + b) c s)
within_sized t b a c s l u o h = go (true_or_false (is_zero (couple_pivot t c s.upper s.lower).magnitude))
  where
    go : (is_zero (couple_pivot t c s.upper s.lower).magnitude ≡ true) ⊎ (is_zero (couple_pivot t c s.upper s.lower).magnitude ≡ false) → Sizedᵇ t (couple_within t b a (a + b) c s)
    go (inl q) = rw (within_flat t b a c s l u o h.rows q) (record { upper = h.upper; rows = length-set s.rows c 0 ∙ h.rows; entries = set_entries t c 0 s.rows (omega arith) (omega arith) h.rows h.entries })
    go (inr q) = rw (within_live t b a c s l u o h.rows q) (record { upper = length_block t t _; rows = length-set s.rows c _ ∙ h.rows; entries = set_entries t c _ s.rows (omega arith) (couple_place t c s.upper s.lower) h.rows h.entries })

right_sized : (t b a : ℕ) (s : Inner) → Sizedᵇ t s → Sizedᵇ t (couple_right t b a s)
unfolding couple_right
right_sized t b a s h = record {
  upper = size_panel_upper t t (a + b) b s.lower s.slice s.rows a (record { upper = s.upper; lower = s.lower }) h.upper;
  rows = h.rows;
  entries = h.entries;
}

seen : (t b : ℕ) (s : Coupled) (r q : ℕ)
    → col (ieee t) (stack t t (inner_couple_columns t b t (opened t b s)).upper (inner_couple_columns t b t (opened t b s)).lower) q (up r) ≡ col (ieee t) (Columns.runᵇ₃ (ieee t) b t (Theorem.opened (ieee t) (view₃ t s))).tiles q (up r)
    → (Columns.runᵇ₃ (ieee t) b t (Theorem.opened (ieee t) (view₃ t s))).tiles (up r) q ≡ (Columns.run₃ (ieee t) t (view₃ t s)).tiles (up r) q
    → col (ieee t) (stack t t (couple_columns t t s).upper (couple_columns t t s).lower) q (up r) ≡ col (ieee t) (Columns.run₃ (ieee t) t (view₃ t s)).tiles q (up r)
    → at t (inner_couple_columns t b t (opened t b s)).upper r q ≡ at t (couple_columns t t s).upper r q
unfolding col stack
seen t b s r q x y z = x ∙ (y ∙ sym z)

module _ (b k : ℕ) (pos : 0 < b) where
  abbrev pub t : ℕ
  t = k * b

  transᵇ : (x y z : Columns.Blocked (ieee t)) → Alikeᵇ₃ (ieee t) b t x y → Alikeᵇ₃ (ieee t) b t y z → Alikeᵇ₃ (ieee t) b t x z
  transᵇ x y z h g = record { tiles = λ q u p hp. h.tiles q u p hp ∙ g.tiles q u p hp; slice = λ i p u v. h.slice i p u v ∙ g.slice i p u v; rows = λ c u. h.rows c u ∙ g.rows c u }

  inner_sized : (c : ℕ) (s : Inner) → c < t → Sizedᵇ t s → Sizedᵇ t (inner_couple_column t b c s)
  unfolding inner_couple_column panel_start first
  inner_sized c s l h = go (fits (ieee t) b k c pos l) (panel_ends b c)
    where
      go : Fits (ieee t) b t c → (x : Bool) → Sizedᵇ t (cond x (couple_right t b (panel_start b c) (couple_within t b (panel_start b c) (panel_start b c + b) c s)) (couple_within t b (panel_start b c) (panel_start b c + b) c s))
      go f true = right_sized t b (panel_start b c) _ (within_sized t b (panel_start b c) c s f.from f.to f.whole h)
      go f false = within_sized t b (panel_start b c) c s f.from f.to f.whole h

  inner_alike : (c : ℕ) (s : Inner) → c < t → Sizedᵇ t s → Alikeᵇ₃ (ieee t) b t (viewᵇ t b (inner_couple_column t b c s)) (columnᵇ₃ (ieee t) b c (viewᵇ t b s))
  unfolding inner_couple_column columnᵇ₃ panel_start first panel_ends last
  inner_alike c s l h = go (fits (ieee t) b k c pos l) (panel_ends b c)
    where
      go : Fits (ieee t) b t c → (x : Bool) → Alikeᵇ₃ (ieee t) b t (viewᵇ t b (cond x (couple_right t b (panel_start b c) (couple_within t b (panel_start b c) (panel_start b c + b) c s)) (couple_within t b (panel_start b c) (panel_start b c + b) c s))) (cond x (beyond (ieee t) (panel_start b c) b (inside (ieee t) (panel_start b c) (panel_start b c + b) c (viewᵇ t b s))) (inside (ieee t) (panel_start b c) (panel_start b c + b) c (viewᵇ t b s)))
      go f true =
          transᵇ _ (beyond (ieee t) (panel_start b c) b (viewᵇ t b (couple_within t b (panel_start b c) (panel_start b c + b) c s))) _
          (right_of_alike t b (panel_start b c) (couple_within t b (panel_start b c) (panel_start b c + b) c s) f.whole (λ d u. (within_sized t b (panel_start b c) c s f.from f.to f.whole h).entries d (omega (arith, f.whole))))
          (beyond_alike (ieee t) t (panel_start b c) b f.whole _ _ (within_alike t b (panel_start b c) c s f.from f.to f.whole h.rows))
      go f false = within_alike t b (panel_start b c) c s f.from f.to f.whole h.rows

  module _ (s : Coupled) (size : Sized t s) where
    pub third_sizedᵇ : (n : ℕ) → n ≤ t → Sizedᵇ t (inner_couple_columns t b n (opened t b s))
    unfolding inner_couple_columns
    third_sizedᵇ zero o = record { upper = size.upper; rows = size.rows; entries = size.entries }
    third_sizedᵇ (suc n) o = inner_sized n (inner_couple_columns t b n (opened t b s)) o (third_sizedᵇ n (omega arith))

    -- the opening
    opened_alike : Alikeᵇ₃ (ieee t) b t (viewᵇ t b (opened t b s)) (Theorem.opened (ieee t) (view₃ t s))
    unfolding at zeros
    opened_alike = record { tiles = λ q u p hp. refl; slice = λ i p u v. get_or-replicate (t * b) (i * b + p) plus_zero nan (in_block t b i p u v); rows = λ c u. refl }

    pub inner_follows : (n : ℕ) → n ≤ t → Alikeᵇ₃ (ieee t) b t (viewᵇ t b (inner_couple_columns t b n (opened t b s))) (Columns.runᵇ₃ (ieee t) b n (Theorem.opened (ieee t) (view₃ t s)))
    unfolding inner_couple_columns
    inner_follows n o = followsᵇ₃ (ieee t) b k pos (λ c. viewᵇ t b (inner_couple_columns t b c (opened t b s))) (Theorem.opened (ieee t) (view₃ t s)) opened_alike (λ c l. inner_alike c (inner_couple_columns t b c (opened t b s)) l (third_sizedᵇ c (omega arith))) n o

    module _ (known : Finite₃ (ieee t) t (view₃ t s)) (good : Good₃ (ieee t) t (view₃ t s)) where
      pub theory : Blocks (ieee t) b t (view₃ t s)
      theory = blocks (ieee t) (laws t) b k pos (view₃ t s) known

      same_up : (r q : ℕ) → r < t → q < t → at t (inner_couple_columns t b t (opened t b s)).upper r q ≡ at t (couple_columns t t s).upper r q
      same_up r q hr hq = via ((inner_follows t (omega arith)).tiles q hq (up r) (omega arith, omega arith)) (theory.upper good r q) ((third_follows t t s (omega arith) size).tiles q hq (up r) (omega arith, omega arith))
        where
          via : col (ieee t) (stack t t (inner_couple_columns t b t (opened t b s)).upper (inner_couple_columns t b t (opened t b s)).lower) q (up r) ≡ col (ieee t) (Columns.runᵇ₃ (ieee t) b t (Theorem.opened (ieee t) (view₃ t s))).tiles q (up r)
              → (Columns.runᵇ₃ (ieee t) b t (Theorem.opened (ieee t) (view₃ t s))).tiles (up r) q ≡ (Columns.run₃ (ieee t) t (view₃ t s)).tiles (up r) q
              → col (ieee t) (stack t t (couple_columns t t s).upper (couple_columns t t s).lower) q (up r) ≡ col (ieee t) (Columns.run₃ (ieee t) t (view₃ t s)).tiles q (up r)
              → at t (inner_couple_columns t b t (opened t b s)).upper r q ≡ at t (couple_columns t t s).upper r q
          via x y z = seen t b s r q x y z

      -- K5, T-3
      pub same : Same b t s
      same = record {
        upper = same_block t t _ _ (third_sizedᵇ t (omega arith)).upper (third_sized t t s (omega arith) size).upper same_up;
        rows = ext_get_or 0 _ _ ((third_sizedᵇ t (omega arith)).rows ∙ sym (third_sized t t s (omega arith) size).rows)
            (λ i h. let l : i < t = subst (λ (n : ℕ). i < n) (third_sizedᵇ t (omega arith)).rows h in
            named_once t _ _ ((third_sizedᵇ t (omega arith)).entries i l) ((third_sized t t s (omega arith) size).entries i l)
            ((inner_follows t (omega arith)).rows i l ∙ (ap (λ (f : ℕ → Option (Row t)). f i) (theory.rows good) ∙ sym ((third_follows t t s (omega arith) size).rows i l))));
      }
