-- A column of T-3 on tiles, by document 01, is the theory's. Assumes nothing.
use Prim.Native.Nat.{ℕ, suc, ◌+◌, ◌<◌}
use mathlib.Core.Bool.{true, false, cond}
use mathlib.Core.List.{List, ◌∷◌}
use mathlib.Core.Option.{Option, none}
use mathlib.Core.Path.{◌≡◌, refl, sym, ap, ap₂, ◌∙◌}
use mathlib.Core.Logic.{◌⊎◌, inl, inr}
use native.Mathlib.Omega.{arith}
use native.Mathlib.Nat.{zero-add}
use lib.ListN.{get_or, set, length}
use lib.Seq.{get_or-set_same, get_or-set_other}
use lib.Dec.{eqb}
use lib.Ieee.{Float}
use borrow.Author.Tests.{eqb-true, eqb-false, ltb-true, lt-ltb}
use Rattle.inner_theory.specs.Stack.{Place, up, low, Column, exchanged, updated}
use Rattle.inner_theory.specs.Columns
use Rattle.inner_theory.specs.Columns.{col, candidates, zero_pivot, entry, divided, fresh, multipliers, onward, put}
use Rattle.inner_theory.specs.Sound.{Inside}
use Rattle.inner_theory.specs.Alike.{Alike₃}
use Rattle.inner_theory.proofs.Tests.{true_or_false, cond_true, cond_false, Side, before, equal, after, side, at_before, at_equal, at_after}
use Rattle.model.specs.Lists.{run, below}
use Rattle.model.specs.Num.{is_zero, update, quotient, magnitude}
use Rattle.model.specs.Tile.{at, block}
use Rattle.model.specs.Column
use Rattle.model.specs.Column.{couple_pivot, search, eliminated, couple_candidates, upper_exchanged, lower_exchanged, couple_column}
use Rattle.inner_tiles.specs.Instance.{Row, ieee, named, listed}
use Rattle.inner_tiles.specs.Views.{stack, view₃}
use Rattle.laws.proofs.Blocks.{at_block}
use Rattle.inner_tiles.proofs.Instance.{named_row, laws}
use Rattle.laws.proofs.Runs.{map_runs}
use Rattle.inner_tiles.proofs.Pivots.{couple_place}
use Rattle.inner_tiles.proofs.Exchanges.{up_left, low_left}
use Rattle.inner_tiles.proofs.Sides.{elim_lt, elim_eq, elim_gt}
use Rattle.inner_tiles.proofs.Fourth.{up_exchanged, low_exchanged}

first_one : (t c : ℕ) (u d : List Float) → candidates (ieee t) c (col (ieee t) (stack t t u d) c) (named t 0) ≡ at t u c c
unfolding candidates col stack named
first_one t c u d = refl

other_one : (t c : ℕ) (u d : List Float) (i : ℕ) → i < t → candidates (ieee t) c (col (ieee t) (stack t t u d) c) (named t (suc i)) ≡ at t d i c
unfolding candidates col stack
other_one t c u d i h = rw (named_row t (i, lt-ltb i t h))

pub same_list : (t c : ℕ) (u d : List Float) → listed t (candidates (ieee t) c (col (ieee t) (stack t t u d) c)) ≡ couple_candidates t c u d
unfolding listed couple_candidates below run
same_list t c u d = ap₂ (λ (x : Float) (l : List Float). x ∷ l) (first_one t c u d) (map_runs (λ e. candidates (ieee t) c (col (ieee t) (stack t t u d) c) (named t e)) (λ r. at t d r c) 1 0 t (λ i h. let e : 1 + i ≡ suc i = omega arith in rw (e, zero-add i) (other_one t c u d i h)))

-- ---- one column of T-3, b = 1

module _ (t c : ℕ) (u d : List Float) where
  abbrev pub y : Column (ieee t)
  y = col (ieee t) (stack t t u d) c

  abbrev pub e : ℕ
  e = (couple_pivot t c u d).place

  same_flat : zero_pivot (ieee t) c y ≡ is_zero (couple_pivot t c u d).magnitude
  unfolding zero_pivot couple_pivot
  same_flat = ap (λ (l : List Float). is_zero (search l).magnitude) (same_list t c u d)

  pub entry_flat : is_zero (couple_pivot t c u d).magnitude ≡ true → entry (ieee t) c y ≡ none
  unfolding entry
  entry_flat h = cond_true (zero_pivot (ieee t) c y) _ _ (same_flat ∙ h)

  pub entry_live : is_zero (couple_pivot t c u d).magnitude ≡ false → entry (ieee t) c y ≡ named t e
  unfolding entry couple_pivot
  entry_live h = cond_false (zero_pivot (ieee t) c y) _ _ (same_flat ∙ h) ∙ ap (λ (l : List Float). named t (search l).place) (same_list t c u d)

  pub fresh_flat : is_zero (couple_pivot t c u d).magnitude ≡ true → fresh (ieee t) c y ≡ y
  unfolding fresh
  fresh_flat h = cond_true (zero_pivot (ieee t) c y) _ _ (same_flat ∙ h)

  fresh_live : is_zero (couple_pivot t c u d).magnitude ≡ false → fresh (ieee t) c y ≡ divided (ieee t) c (exchanged (ieee t) c (named t e) y)
  unfolding fresh
  fresh_live h = cond_false (zero_pivot (ieee t) c y) _ _ (same_flat ∙ h) ∙ ap (λ (o : Option (Row t)). divided (ieee t) c (exchanged (ieee t) c o y)) (entry_live h)

  pub onward_flat : (x : Column (ieee t)) → is_zero (couple_pivot t c u d).magnitude ≡ true → onward (ieee t) c y x ≡ x
  unfolding onward
  onward_flat x h = cond_true (zero_pivot (ieee t) c y) _ _ (same_flat ∙ h)

  onward_live : (x : Column (ieee t)) → is_zero (couple_pivot t c u d).magnitude ≡ false → onward (ieee t) c y x ≡ updated (ieee t) c (multipliers (ieee t) (divided (ieee t) c (exchanged (ieee t) c (named t e) y))) (exchanged (ieee t) c (named t e) x)
  unfolding onward
  onward_live x h = cond_false (zero_pivot (ieee t) c y) _ _ (same_flat ∙ h) ∙ ap₂ (λ (f : Column (ieee t)) (o : Option (Row t)). updated (ieee t) c (multipliers (ieee t) f) (exchanged (ieee t) c o x)) (fresh_live h) (entry_live h)

  -- column q of the upper tile after the exchange, and of the lower after the elimination
  module _ (l : c < t) (h : is_zero (couple_pivot t c u d).magnitude ≡ false) where
    pub up_at : (i : ℕ) → i < t → at t (upper_exchanged t t c c e u d) i c ≡ fresh (ieee t) c y (up i)
    unfolding divided
    up_at i hi = up_exchanged t t c c e u d (couple_place t c u d) i c hi l (omega arith) ∙ ap (λ (x : Column (ieee t)). x (up i)) (sym (fresh_live h))

    pub up_on : (i q : ℕ) → i < t → q < t → c < q → at t (upper_exchanged t t c c e u d) i q ≡ onward (ieee t) c y (col (ieee t) (stack t t u d) q) (up i)
    unfolding updated multipliers
    up_on i q hi hq k =
        up_exchanged t t c c e u d (couple_place t c u d) i q hi hq (omega arith)
        ∙ (sym ((laws t).zero_update _ _ _ (laws t).nought_zero) ∙ ap (λ (x : Column (ieee t)). x (up i)) (sym (onward_live (col (ieee t) (stack t t u d) q) h)))

    pub low_at_lem : (r : Row t) → quotient (at t (lower_exchanged t t c c e u d) r.0 c) (at t (upper_exchanged t t c c e u d) c c) ≡ fresh (ieee t) c y (low r)
    unfolding divided
    low_at_lem r =
        ap₂ quotient (low_exchanged t t c c e u d (couple_place t c u d) r c l (omega arith)) (up_exchanged t t c c e u d (couple_place t c u d) c c l l (omega arith))
        ∙ ap (λ (x : Column (ieee t)). x (low r)) (sym (fresh_live h))

    pub low_on : (r : Row t) (q : ℕ) → q < t → c < q → update (at t (lower_exchanged t t c c e u d) r.0 q) (quotient (at t (lower_exchanged t t c c e u d) r.0 c) (at t (upper_exchanged t t c c e u d) c c)) (at t (upper_exchanged t t c c e u d) c q) ≡ onward (ieee t) c y (col (ieee t) (stack t t u d) q) (low r)
    unfolding updated multipliers
    low_on r q hq k =
        ap₂ (λ (x v : Float). update x (quotient (at t (lower_exchanged t t c c e u d) r.0 c) (at t (upper_exchanged t t c c e u d) c c)) v)
        (low_exchanged t t c c e u d (couple_place t c u d) r q hq (omega arith)) (up_exchanged t t c c e u d (couple_place t c u d) c q l hq (omega arith))
        ∙ (ap (λ (m : Float). update (exchanged (ieee t) c (named t e) (col (ieee t) (stack t t u d) q) (low r)) m (exchanged (ieee t) c (named t e) (col (ieee t) (stack t t u d) q) (up c))) (low_at_lem r ∙ ap (λ (x : Column (ieee t)). x (low r)) (fresh_live h))
        ∙ ap (λ (x : Column (ieee t)). x (low r)) (sym (onward_live (col (ieee t) (stack t t u d) q) h)))

pub couple_column_flat : (t c : ℕ) (s : Column.Coupled) → is_zero (couple_pivot t c s.upper s.lower).magnitude ≡ true → couple_column t c s ≡ record { upper = s.upper; lower = s.lower; rows = set s.rows c 0 }
unfolding couple_column
couple_column_flat t c s h = rw (h, couple_column)

pub couple_column_live : (t c : ℕ) (s : Column.Coupled) → is_zero (couple_pivot t c s.upper s.lower).magnitude ≡ false → couple_column t c s ≡ record { upper = upper_exchanged t t c c (couple_pivot t c s.upper s.lower).place s.upper s.lower; lower = block t t (λ r. eliminated c (at t (upper_exchanged t t c c (couple_pivot t c s.upper s.lower).place s.upper s.lower) c) (at t (lower_exchanged t t c c (couple_pivot t c s.upper s.lower).place s.upper s.lower) r)); rows = set s.rows c (couple_pivot t c s.upper s.lower).place }
unfolding couple_column
couple_column_live t c s h = rw (h, couple_column)

-- the list of entries
pub entry_set : (t c e d : ℕ) (l : List ℕ) (o : Option (Row t)) → c < t → length l ≡ t → d < t → o ≡ named t e → named t (get_or (set l c e) d 0) ≡ put c o (λ i. named t (get_or l i 0)) d
unfolding put
entry_set t c e d l o hc hl hd ho = go (true_or_false (eqb d c))
  where
    go : (eqb d c ≡ true) ⊎ (eqb d c ≡ false) → named t (get_or (set l c e) d 0) ≡ cond (eqb d c) o (named t (get_or l d 0))
    go (inl h) = rw (h, eqb-true d c h) (ap (named t) (get_or-set_same l c e 0 (omega arith)) ∙ sym ho)
    go (inr h) = rw h (ap (named t) (get_or-set_other l c d e 0 (eqb-false d c h)))

pub named_none : (t : ℕ) → none ≡ named t 0
unfolding named
named_none t = refl

flat_case : (t c : ℕ) (s : Column.Coupled) → c < t → length s.rows ≡ t → is_zero (couple_pivot t c s.upper s.lower).magnitude ≡ true → Alike₃ (ieee t) t (view₃ t (record { upper = s.upper; lower = s.lower; rows = set s.rows c 0 })) (Columns.column₃ (ieee t) c (view₃ t s))
unfolding col
flat_case t c s l hl h = record {
  tiles = λ q hq p hp. at_q q p (side q c);
  rows = λ d hd. entry_set t c 0 d s.rows (entry (ieee t) c (y t c s.upper s.lower)) l hl hd (entry_flat t c s.upper s.lower h ∙ named_none t);
}
  where
    at_q : (q : ℕ) (p : Place (Row t)) → Side q c → stack t t s.upper s.lower p q ≡ (Columns.column₃ (ieee t) c (view₃ t s)).tiles p q
    at_q q p (before k) = sym (at_before q c _ _ _ k)
    at_q q p (equal k) = ap (λ (i : ℕ). stack t t s.upper s.lower p i) k ∙ sym (at_equal q c _ _ _ k ∙ ap (λ (x : Column (ieee t)). x p) (fresh_flat t c s.upper s.lower h))
    at_q q p (after k) = sym (at_after q c _ _ _ k ∙ ap (λ (x : Column (ieee t)). x p) (onward_flat t c s.upper s.lower (col (ieee t) (stack t t s.upper s.lower) q) h))

live_case : (t c : ℕ) (s : Column.Coupled) → c < t → length s.rows ≡ t → is_zero (couple_pivot t c s.upper s.lower).magnitude ≡ false → Alike₃ (ieee t) t (view₃ t (record { upper = upper_exchanged t t c c (couple_pivot t c s.upper s.lower).place s.upper s.lower; lower = block t t (λ r. eliminated c (at t (upper_exchanged t t c c (couple_pivot t c s.upper s.lower).place s.upper s.lower) c) (at t (lower_exchanged t t c c (couple_pivot t c s.upper s.lower).place s.upper s.lower) r)); rows = set s.rows c (couple_pivot t c s.upper s.lower).place })) (Columns.column₃ (ieee t) c (view₃ t s))
unfolding col stack
live_case t c s l hl h = record {
  tiles = λ q hq p hp. at_q q hq p hp (side q c);
  rows = λ d hd. entry_set t c (e t c s.upper s.lower) d s.rows (entry (ieee t) c (y t c s.upper s.lower)) l hl hd (entry_live t c s.upper s.lower h);
}
  where
    U : List Float
    U = upper_exchanged t t c c (e t c s.upper s.lower) s.upper s.lower

    D : List Float
    D = lower_exchanged t t c c (e t c s.upper s.lower) s.upper s.lower

    at_q : (q : ℕ) → q < t → (p : Place (Row t)) → Inside 0 t p → Side q c → stack t t U (block t t (λ r. eliminated c (at t U c) (at t D r))) p q ≡ (Columns.column₃ (ieee t) c (view₃ t s)).tiles p q
    at_q q hq (up i) hp (before k) = up_left t t c c (e t c s.upper s.lower) s.upper s.lower i q (omega (arith, hp.1)) hq k ∙ sym (at_before q c _ _ _ k)
    at_q q hq (up i) hp (equal k) = ap (λ (j : ℕ). at t U i j) k ∙ (up_at t c s.upper s.lower l h i (omega (arith, hp.1)) ∙ sym (at_equal q c _ _ _ k))
    at_q q hq (up i) hp (after k) = up_on t c s.upper s.lower l h i q (omega (arith, hp.1)) hq k ∙ sym (at_after q c _ _ _ k)
    at_q q hq (low r) hp (before k) =
        at_block t t _ r.0 q (ltb-true r.0 t r.1) hq
        ∙ (elim_lt c q (at t U c) (at t D r.0) k ∙ (low_left t t c c (e t c s.upper s.lower) s.upper s.lower r.0 q (ltb-true r.0 t r.1) hq k ∙ sym (at_before q c _ _ _ k)))
    at_q q hq (low r) hp (equal k) =
        at_block t t _ r.0 q (ltb-true r.0 t r.1) hq ∙ (elim_eq c q (at t U c) (at t D r.0) k ∙ (low_at_lem t c s.upper s.lower l h r ∙ sym (at_equal q c _ _ _ k)))
    at_q q hq (low r) hp (after k) =
        at_block t t _ r.0 q (ltb-true r.0 t r.1) hq ∙ (elim_gt c q (at t U c) (at t D r.0) k ∙ (low_on t c s.upper s.lower l h r q hq k ∙ sym (at_after q c _ _ _ k)))

pub third_alike : (t c : ℕ) (s : Column.Coupled) → c < t → length s.rows ≡ t → Alike₃ (ieee t) t (view₃ t (couple_column t c s)) (Columns.column₃ (ieee t) c (view₃ t s))
third_alike t c s l hl = go (true_or_false (is_zero (couple_pivot t c s.upper s.lower).magnitude))
  where
    go : (is_zero (couple_pivot t c s.upper s.lower).magnitude ≡ true) ⊎ (is_zero (couple_pivot t c s.upper s.lower).magnitude ≡ false) → Alike₃ (ieee t) t (view₃ t (couple_column t c s)) (Columns.column₃ (ieee t) c (view₃ t s))
    go (inl h) = rw (couple_column_flat t c s h) (flat_case t c s l hl h)
    go (inr h) = rw (couple_column_live t c s h) (live_case t c s l hl h)
