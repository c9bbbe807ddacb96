-- One T-3 and its T-4s, with marks by the numbers that each column computes. Assumes nothing.
use Prim.Native.Nat.{ℕ, zero, suc, ◌+◌, ◌*◌, ◌≤◌, ◌<◌}
use mathlib.Core.Bool.{Bool, true, false, cond}
use mathlib.Core.List.{List, [], ◌++◌}
use mathlib.Core.Path.{◌≡◌, refl, sym, ap, ◌∙◌}
use mathlib.Core.Logic.{◌↔◌}
use native.Mathlib.Omega.{arith}
use lib.ListN.{get_or, get_or-replicate}
use lib.Ieee.{Float, nan}
use Rattle.model.specs.Lists.{every}
use Rattle.model.specs.Num.{plus_zero, finite}
use Rattle.model.specs.Tile.{at, zeros}
use Rattle.model.specs.Column.{Coupled, Paired}
use Rattle.laws.proofs.Blocks.{in_block}
use Rattle.laws.proofs.Every.{every_both}
use Rattle.inner_theory.specs.Columns.{first}
use Rattle.inner_theory.proofs.Alike.{fits, Fits}
use Rattle.inner_tiles.specs.Instance.{ieee}
use Rattle.inner_tiles.specs.Inner.{Inner, panel_start, panel_ends, panel_paired, panel_computes, inner_pair_column, inner_pair_computes, couple_within, within_computes, couple_right, right_computes, inner_couple_column, inner_couple_computes}
use Rattle.inner_tiles.specs.K5.{FiniteBlock, couple_columns, inner_couple_columns, pair_columns, inner_pair_columns, opened, Sized, Done₃, Doneᵇ₃, Done₄, Doneᵇ₄, SoundCouple, SoundInnerCouple, SoundPair, SoundInnerPair, Leaves, Tasks}
use Rattle.inner_tiles.proofs.Fourth.{panel_paired_left}
use Rattle.inner_tiles.proofs.ThirdRuns.{third_sized, third_sizedᵇ, Sizedᵇ, within_sized}
use Rattle.inner_tiles.proofs.Marks.{leaves}
use Rattle.inner_tiles.proofs.PanelSound.{first_part, second_part, panel_on, panel_shows}
use Rattle.inner_tiles.proofs.ColumnSound.{couple_shows, couple_on, pair_shows, pair_on, within_shows, within_on}

-- ---- T-3, b = 1

module _ (t : ℕ) (s : Coupled) (fu : FiniteBlock t t s.upper) (fd : FiniteBlock t t s.lower) where
  couple_finite : SoundCouple t s → (n : ℕ) → n ≤ t → FiniteBlock t t (couple_columns t n s).upper × FiniteBlock t t (couple_columns t n s).lower
  unfolding couple_columns
  couple_finite h zero o = (fu, fd)
  couple_finite h (suc n) o = let x = couple_finite h n (omega arith) in couple_on t n o (couple_columns t n s) x.0 x.1 (h n o)

  done_sound : Done₃ t s → SoundCouple t s
  unfolding couple_columns
  done_sound h zero l = couple_shows t 0 l s fu fd (h.lower 0 l)
  done_sound h (suc c) l = couple_shows t (suc c) l (couple_columns t (suc c) s) (h.upper c (omega arith)) (h.lower c (omega arith)) (h.lower (suc c) l)

  pub couple_done : SoundCouple t s ↔ Done₃ t s
  couple_done = (λ h. record { upper = λ c l. (couple_finite h (suc c) l).0; lower = λ c l. (couple_finite h (suc c) l).1 }, done_sound)

-- ---- T-3, inner blocks: one column

module _ (b k : ℕ) (pos : 0 < b) (c : ℕ) (hc : c < k * b) (s : Inner) (size : Sizedᵇ (k * b) s) (fu : FiniteBlock (k * b) (k * b) s.upper) (fd : FiniteBlock (k * b) (k * b) s.lower) where
  abbrev t : ℕ
  t = k * b

  abbrev a : ℕ
  a = panel_start b c

  abbrev W : Inner
  W = couple_within t b a (a + b) c s

  pub inner_on : FiniteBlock t b s.slice → every finite (inner_couple_computes t b c s) ≡ true
      → FiniteBlock t t (inner_couple_column t b c s).upper × FiniteBlock t t (inner_couple_column t b c s).lower × FiniteBlock t b (inner_couple_column t b c s).slice
  unfolding inner_couple_column inner_couple_computes panel_start first right_computes couple_right
  inner_on fs e = go (fits (ieee t) b k c pos hc) (panel_ends b c) (second_part (within_computes t (a + b) c s) _ e)
    where
      go : Fits (ieee t) b t c → (x : Bool) → every finite (cond x (right_computes t b a W) []) ≡ true
          → FiniteBlock t t (cond x (couple_right t b a W) W).upper × FiniteBlock t t (cond x (couple_right t b a W) W).lower × FiniteBlock t b (cond x (couple_right t b a W) W).slice
      go f true m =
          let w = within_on t b a c s f.from f.to f.whole fu fd fs (first_part (within_computes t (a + b) c s) _ e) in
          let p = panel_on t t (a + b) b W.lower W.slice W.rows a f.whole (record { upper = W.upper; lower = W.lower })
          (λ d l. (within_sized t b a c s f.from f.to f.whole size).entries d (omega (arith, f.whole))) w.0 w.1 m in
          (p.0, p.1, w.2)
      go f false m = within_on t b a c s f.from f.to f.whole fu fd fs (first_part (within_computes t (a + b) c s) _ e)

  inner_shows : FiniteBlock t t (inner_couple_column t b c s).upper → FiniteBlock t t (inner_couple_column t b c s).lower → every finite (inner_couple_computes t b c s) ≡ true
  unfolding inner_couple_column inner_couple_computes panel_start first right_computes couple_right
  inner_shows hu hd = go (fits (ieee t) b k c pos hc) (panel_ends b c) hu hd
    where
      go : Fits (ieee t) b t c → (x : Bool) → FiniteBlock t t (cond x (couple_right t b a W) W).upper → FiniteBlock t t (cond x (couple_right t b a W) W).lower
          → every finite (within_computes t (a + b) c s ++ cond x (right_computes t b a W) []) ≡ true
      go f true gu gd = every_both finite (within_computes t (a + b) c s) _
          (within_shows t b a c s f.from f.to f.whole fu fd (λ r q hr hq. ap finite (sym (panel_paired_left t t (a + b) b a W.upper W.lower W.slice W.rows (record { upper = W.upper; lower = W.lower }) q (omega (arith, f.whole)) hq r hr).1) ∙ gd r q hr (omega (arith, f.whole))))
          (panel_shows t t (a + b) b W.lower W.slice W.rows a f.whole (record { upper = W.upper; lower = W.lower }) gu gd)
      go f false gu gd = every_both finite (within_computes t (a + b) c s) [] (within_shows t b a c s f.from f.to f.whole fu fd (λ r q hr hq. gd r q hr (omega (arith, f.whole)))) (unfold every in refl)

pub zeros_finite : (t b : ℕ) → FiniteBlock t b (zeros (t * b))
unfolding zeros at finite
zeros_finite t b r q hr hq = ap finite (get_or-replicate (t * b) (r * b + q) plus_zero nan (in_block t b r q hr hq))

module _ (b k : ℕ) (pos : 0 < b) (s : Coupled) (size : Sized (k * b) s) (fu : FiniteBlock (k * b) (k * b) s.upper) (fd : FiniteBlock (k * b) (k * b) s.lower) where
  inner_finite : SoundInnerCouple b (k * b) s → (n : ℕ) → n ≤ k * b
      → FiniteBlock (k * b) (k * b) (inner_couple_columns (k * b) b n (opened (k * b) b s)).upper × FiniteBlock (k * b) (k * b) (inner_couple_columns (k * b) b n (opened (k * b) b s)).lower × FiniteBlock (k * b) b (inner_couple_columns (k * b) b n (opened (k * b) b s)).slice
  unfolding inner_couple_columns
  inner_finite h zero o = (fu, fd, zeros_finite (k * b) b)
  inner_finite h (suc n) o =
      let x = inner_finite h n (omega arith) in
      inner_on b k pos n o (inner_couple_columns (k * b) b n (opened (k * b) b s)) (third_sizedᵇ b k pos s size n (omega arith)) x.0 x.1 x.2 (h n o)

  inner_sound : Doneᵇ₃ b (k * b) s → SoundInnerCouple b (k * b) s
  unfolding inner_couple_columns
  inner_sound h zero l = inner_shows b k pos 0 l (opened (k * b) b s) (third_sizedᵇ b k pos s size 0 (omega arith)) fu fd (h.upper 0 l) (h.lower 0 l)
  inner_sound h (suc c) l = inner_shows b k pos (suc c) l _ (third_sizedᵇ b k pos s size (suc c) (omega arith)) (h.upper c (omega arith)) (h.lower c (omega arith)) (h.upper (suc c) l) (h.lower (suc c) l)

  inner_done : SoundInnerCouple b (k * b) s ↔ Doneᵇ₃ b (k * b) s
  inner_done = (λ h. record { upper = λ c l. (inner_finite h (suc c) l).0; lower = λ c l. (inner_finite h (suc c) l).1 }, inner_sound)

-- ---- T-4

module _ (t w : ℕ) (l : List Float) (p : List ℕ) (he : (c : ℕ) → c < t → get_or p c 0 ≤ t) (x : Paired) (fu : FiniteBlock t w x.upper) (fd : FiniteBlock t w x.lower) where
  pub pair_finite : SoundPair t w l p x → (n : ℕ) → n ≤ t → FiniteBlock t w (pair_columns t w l p n x).upper × FiniteBlock t w (pair_columns t w l p n x).lower
  unfolding pair_columns
  pair_finite h zero o = (fu, fd)
  pair_finite h (suc n) o = let y = pair_finite h n (omega arith) in pair_on t w n o l p (he n o) (pair_columns t w l p n x) y.0 y.1 (h n o)

  pair_sound : Done₄ t w l p x → SoundPair t w l p x
  unfolding pair_columns
  pair_sound h zero o = pair_shows t w 0 o l p (he 0 o) x fu fd (h.lower 0 o)
  pair_sound h (suc c) o = pair_shows t w (suc c) o l p (he (suc c) o) (pair_columns t w l p (suc c) x) (h.upper c (omega arith)) (h.lower c (omega arith)) (h.lower (suc c) o)

  pub pair_done : SoundPair t w l p x ↔ Done₄ t w l p x
  pair_done = (λ h. record { upper = λ c o. (pair_finite h (suc c) o).0; lower = λ c o. (pair_finite h (suc c) o).1 }, pair_sound)

module _ (b k w : ℕ) (pos : 0 < b) (l sl : List Float) (p : List ℕ) (he : (c : ℕ) → c < k * b → get_or p c 0 ≤ k * b) where
  pub inner_pair_on : (c : ℕ) → c < k * b → (x : Paired) → FiniteBlock (k * b) w x.upper → FiniteBlock (k * b) w x.lower → every finite (inner_pair_computes (k * b) w b c l sl p x) ≡ true
      → FiniteBlock (k * b) w (inner_pair_column (k * b) w b c l sl p x).upper × FiniteBlock (k * b) w (inner_pair_column (k * b) w b c l sl p x).lower
  unfolding inner_pair_column inner_pair_computes panel_start first
  inner_pair_on c hc x fu fd = go (fits (ieee (k * b)) b k c pos hc) (panel_ends b c)
    where
      go : Fits (ieee (k * b)) b (k * b) c → (v : Bool) → every finite (cond v (panel_computes (k * b) w 0 b l sl p (panel_start b c) x) []) ≡ true
          → FiniteBlock (k * b) w (cond v (panel_paired (k * b) w 0 b l sl p (panel_start b c) x) x).upper × FiniteBlock (k * b) w (cond v (panel_paired (k * b) w 0 b l sl p (panel_start b c) x) x).lower
      go f true m = panel_on (k * b) w 0 b l sl p (panel_start b c) f.whole x (λ d u. he d (omega (arith, f.whole))) fu fd m
      go f false m = (fu, fd)

  inner_pair_shows : (c : ℕ) → c < k * b → (x : Paired) → FiniteBlock (k * b) w (inner_pair_column (k * b) w b c l sl p x).upper → FiniteBlock (k * b) w (inner_pair_column (k * b) w b c l sl p x).lower
      → every finite (inner_pair_computes (k * b) w b c l sl p x) ≡ true
  unfolding inner_pair_column inner_pair_computes panel_start first
  inner_pair_shows c hc x = go (fits (ieee (k * b)) b k c pos hc) (panel_ends b c)
    where
      go : Fits (ieee (k * b)) b (k * b) c → (v : Bool) → FiniteBlock (k * b) w (cond v (panel_paired (k * b) w 0 b l sl p (panel_start b c) x) x).upper → FiniteBlock (k * b) w (cond v (panel_paired (k * b) w 0 b l sl p (panel_start b c) x) x).lower
          → every finite (cond v (panel_computes (k * b) w 0 b l sl p (panel_start b c) x) []) ≡ true
      go f true hu hd = panel_shows (k * b) w 0 b l sl p (panel_start b c) f.whole x hu hd
      go f false hu hd = unfold every in refl

  module _ (x : Paired) (fu : FiniteBlock (k * b) w x.upper) (fd : FiniteBlock (k * b) w x.lower) where
    inner_pair_finite : SoundInnerPair b (k * b) w l sl p x → (n : ℕ) → n ≤ k * b → FiniteBlock (k * b) w (inner_pair_columns (k * b) w b l sl p n x).upper × FiniteBlock (k * b) w (inner_pair_columns (k * b) w b l sl p n x).lower
    unfolding inner_pair_columns
    inner_pair_finite h zero o = (fu, fd)
    inner_pair_finite h (suc n) o = let y = inner_pair_finite h n (omega arith) in inner_pair_on n o _ y.0 y.1 (h n o)

    inner_pair_done : SoundInnerPair b (k * b) w l sl p x ↔ Doneᵇ₄ b (k * b) w l sl p x
    unfolding inner_pair_columns
    inner_pair_done = (
      λ h. record { upper = λ c o. (inner_pair_finite h (suc c) o).0; lower = λ c o. (inner_pair_finite h (suc c) o).1 },
      λ h c o. inner_pair_shows c o _ (h.upper c o) (h.lower c o),
    )

pub tasks_same : (b k : ℕ) → 0 < b → (s : Coupled) → Sized (k * b) s → FiniteBlock (k * b) (k * b) s.upper → FiniteBlock (k * b) (k * b) s.lower → Tasks b (k * b) s
tasks_same b k pos s size fu fd = record {
  mark = (λ h. (inner_done b k pos s size fu fd).1 (K.mark.0 ((couple_done (k * b) s fu fd).0 h)), λ h. (couple_done (k * b) s fu fd).1 (K.mark.1 ((inner_done b k pos s size fu fd).0 h)));
  third_same = λ h. K.third_same ((couple_done (k * b) s fu fd).0 h);
  fourth_same = λ h. K.fourth_same ((couple_done (k * b) s fu fd).0 h);
  fourth_mark = λ h w x xu xl. (
    λ g. (inner_pair_done b k w pos _ _ _ (third_sizedᵇ b k pos s size (k * b) (omega arith)).entries x xu xl).1
        ((K.fourth_mark ((couple_done (k * b) s fu fd).0 h) w x xu xl).0 ((pair_done (k * b) w _ _ (third_sized (k * b) (k * b) s (omega arith) size).entries x xu xl).0 g)),
    λ g. (pair_done (k * b) w _ _ (third_sized (k * b) (k * b) s (omega arith) size).entries x xu xl).1
        ((K.fourth_mark ((couple_done (k * b) s fu fd).0 h) w x xu xl).1 ((inner_pair_done b k w pos _ _ _ (third_sizedᵇ b k pos s size (k * b) (omega arith)).entries x xu xl).0 g)),
  );
}
  where
    K : Leaves b (k * b) s
    K = leaves b k pos s size fu fd
