-- `fill_upper` meets its contract: after r turns the first r rows are done. Assumes nothing.
use mathlib.Core.Path.{◌≡◌, sym, ap, ◌∙◌, subst}
use mathlib.Core.Logic.{inr, ⊎_elim}
use mathlib.Core.Bool.{cond}
use mathlib.Core.List.{List}
use Prim.Native.Nat.{ℕ, ◌+◌, ◌*◌, ◌-◌, ◌/◌, ◌%◌, ◌≤◌, ◌<◌}
use native.Mathlib.Nat.{add_assoc, suc-mul}
use native.Mathlib.Numerals.{add-one}
use native.Mathlib.Omega.{arith}
use lib.Dec.{leb}
use lib.ListN.{length, get_or, length-replicate, get_or-replicate}
use lib.Ieee.{Float, nan, of_bits}
use borrow.Author.Tests.{le-leb, lt-leb}
use Rattle.model.specs.Lists.{part, with_part}
use Rattle.model.specs.Num.{plus_zero}
use Rattle.model.specs.Tile.{at, block, zeros, upper_filled}
use Rattle.laws.proofs.Tests.{lt_or_le}
use Rattle.laws.proofs.Blocks.{get_or_table, length_block, row_of, column_of_lem, in_block, row_below, column_below, row_end}
use Rattle.laws.proofs.Parts.{Fits, length_put, get_in, get_before, get_after, get_part}
use Rattle.fills.proofs.Stores.{Stored, stored_join, stored_is}
use Rattle.upper_fills.proofs.fill_upper.Invariants.{cell, upper}
use Rattle.upper_fills.proofs.fill_upper.Goals as goal

-- one row more

module _ (t start r : ℕ) (first second third : List Float) (h : r < t) (room : start + t * t ≤ length first) (s : Stored nan start (r * t) (upper t start first) first second)
    (e : third ≡ with_part (start + r * t + r) (t - r) (zeros (t - r)) second) where
  fits : Fits (t - r) (start + r * t + r) second (zeros (t - r))
  unfolding zeros
  fits = record { whole = length-replicate (t - r) plus_zero; room = omega (arith, s.long, row_end r t t h) }

  -- what a place holds, by what it holds in the list with the zeros put in
  by : (x : ℕ) (y : Float) → get_or (with_part (start + r * t + r) (t - r) (zeros (t - r)) second) x nan ≡ y → get_or third x nan ≡ y
  by x y q = ap (λ (l : List Float). get_or l x nan) e ∙ q

  in_row : (q : ℕ) → q < t → get_or third (start + r * t + q) nan ≡ cell t start second r q
  unfolding zeros
  in_row q l =
      ⊎_elim
      (λ g. rw (lt-leb r q g) (by (start + r * t + q) (get_or second (start + r * t + q) nan) (get_before (t - r) nan (start + r * t + r) second (zeros (t - r)) fits (start + r * t + q) (omega arith))))
      (λ g.
      let j = q - r in
      let b : j < t - r = omega arith in
      let p : start + r * t + r + j ≡ start + r * t + q = omega arith in
      rw (le-leb r q g) (by (start + r * t + q) plus_zero (subst (λ (z : ℕ). get_or (with_part (start + r * t + r) (t - r) (zeros (t - r)) second) z nan ≡ plus_zero) p
      (get_in (t - r) nan (start + r * t + r) second (zeros (t - r)) fits j b ∙ get_or-replicate (t - r) j plus_zero nan b))))
      (lt_or_le q r)

  row_stored : Stored nan (start + r * t) t (cell t start second r) second third
  row_stored = record {
    long = ap length e ∙ length_put (t - r) nan (start + r * t + r) second (zeros (t - r)) fits;
    inside = in_row;
    outside = λ x o.
        ⊎_elim
        (λ l. by x _ (get_before (t - r) nan (start + r * t + r) second (zeros (t - r)) fits x (omega arith)))
        (λ g. by x _ (get_after (t - r) nan (start + r * t + r) second (zeros (t - r)) fits x (omega arith)))
        o;
  }

  cell_same : (q : ℕ) → q < t → cell t start second r q ≡ upper t start first (r * t + q)
  unfolding upper
  cell_same q l =
      rw (row_of t r q l, column_of_lem t r q l)
      (ap (λ (x : Float). cond (leb r q) plus_zero x) (s.outside (start + r * t + q) (inr (omega arith))))

  upper_more : Stored nan start ((r + 1) * t) (upper t start first) first third
  upper_more =
      subst (λ (k : ℕ). Stored nan start k (upper t start first) first third) (sym (ap (λ (z : ℕ). z * t) (add-one r) ∙ suc-mul r t))
      (stored_join nan start (r * t) t (upper t start first) (cell t start second r) first second third s row_stored cell_same)

length_upper : (t : ℕ) (a : List Float) → length (upper_filled t a) ≡ t * t
unfolding upper_filled
length_upper t a = simp length_block

upper_at_lem : (t start : ℕ) (m : List Float) (j : ℕ) → j < t * t → get_or (upper_filled t (part start (t * t) m)) j nan ≡ upper t start m j
unfolding upper_filled upper block at
upper_at_lem t start m j h =
    get_or_table (t * t) _ j nan h
    ∙ ap (λ (x : Float). cond (leb (j / t) (j % t)) plus_zero x)
    (get_part start (t * t) m nan (j / t * t + j % t) (in_block t t (j / t) (j % t) (row_below t t j h) (column_below t t j h))
    ∙ ap (λ (z : ℕ). get_or m z nan) (sym (add_assoc start (j / t * t) (j % t))))

upper_all : (t start r : ℕ) (before after : List Float) → r ≡ t → Stored nan start (r * t) (upper t start before) before after → start + t * t ≤ length before
    → after ≡ with_part start (t * t) (upper_filled t (part start (t * t) before)) before
upper_all t start r before after e s room =
    stored_is nan start (t * t) (upper t start before) before after (upper_filled t (part start (t * t) before)) (rw e at s)
    (record { whole = length_upper t (part start (t * t) before); room = room })
    (upper_at_lem t start before)

pub loop-r-preserved : goal.loop-r-preserved
unfolding zeros of_bits
loop-r-preserved c =
    upper_more _ _ _ _ _ _ c.loop-r-test.true c.requires.1 c.loop-r.invariant c.fill_part.ensures

pub returns : goal.returns
returns c =
    upper_all _ _ _ _ _ (omega arith) c.loop-r.invariant c.requires.1
