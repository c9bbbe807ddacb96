-- One column of T-4(k,i) on the right side, blocks of width 1 at k·t and i·t, from what the blocks' steps leave. Assumes nothing.
use mathlib.Core.Path.{◌≡◌, sym, ◌∙◌, ap}
use mathlib.Core.Bool.{Bool, true}
use mathlib.Core.List.{List}
use Prim.Native.Nat.{ℕ, ◌+◌, ◌*◌, ◌<◌, ◌≤◌}
use native.Mathlib.Omega.{arith}
use lib.ListN.{length, get_or}
use lib.Ieee.{Float, nan}
use Rattle.model.specs.declared.Sizes.{Sizes}
use Rattle.model.specs.Lists.{every, part, with_part}
use Rattle.model.specs.Num.{finite}
use Rattle.model.specs.Tile.{at, all_finite}
use Rattle.model.specs.Column.{pair_exchanged, pair_column, pair_computes}
use Rattle.model.specs.Plan.{plan, plan_of}
use Rattle.model.specs.Buffer.{Buffers, tile, rows, tile_of, rows_of}
use Rattle.model.specs.Solve.{going, stepped, right_part, with_right, right_pair}
use Rattle.model.specs.Solve as M
use Rattle.laws.specs.Apart.{Apart}
use Rattle.laws.proofs.Parts.{Fits, length_put, length_part, get_part}
use Rattle.column_laws.specs.Steps.{tile_start, list_start, RowsPaired, paired_block, paired_computes, upper_at, lower_at, with_two}
use Rattle.column_laws.proofs.Pairs.{length_upper, length_lower, length_paired, finite_upper, finite_lower}
use Rattle.column_laws.proofs.Sound.{paired_all_finite}
use Rattle.progress.specs.Right.{ColumnPassed}
use Rattle.progress.proofs.Stepped.{finite_put, finite_whole, step_goes, step_stops}

-- two finite blocks put into a finite list
finite_two : (n u d : ℕ) (m x w : List Float) → length x ≡ n → length w ≡ n → u + n ≤ length m → d + n ≤ length m
    → all_finite x ≡ true → all_finite w ≡ true → all_finite m ≡ true → all_finite (with_two n u d x w m) ≡ true
unfolding with_two
finite_two n u d m x w hx hw ru rd fx fw fm =
    let lower : Fits n d m w = record { whole = hw; room = rd } in
    finite_put n u (with_part d n w m) x (record { whole = hx; room = rw (length_put n nan d m w lower) ru }) fx (finite_put n d m w lower fw fm)

module _ (z : Sizes) (m : List Float) (l : List ℕ) (k i c : ℕ) (y : List Float) where
  abbrev s : Buffers
  s = record { matrix = m; lists = l }

  abbrev t : ℕ
  t = z.side

  abbrev N : ℕ
  N = z.tiles

  abbrev by : ℕ → Float
  by r = at t (part (tile_start N t i k) (t * t) m) r c

  -- the blocks once row c is exchanged by entry e
  abbrev upper : ℕ → List Float
  upper e = upper_at t 1 0 c e (k * t) (i * t) y

  abbrev lower : ℕ → List Float
  lower e = lower_at t 1 0 c e (k * t) (i * t) y

  one : t * 1 ≡ t
  one = omega arith

  module _ (hc : c < t) (lists : list_start N t i k + t ≤ length l) (e : ℕ) (he : e ≡ get_or l (list_start N t i k + c) 0) where
    entry : get_or (part (list_start N t i k) t l) c 0 ≡ e
    entry = get_part (list_start N t i k) t l 0 c hc ∙ sym he

    paired_is : M.paired (plan_of z) s k i c (going y)
        ≡ stepped i (paired_computes t 1 c by (upper e) (lower e)) (with_two t (k * t) (i * t) (upper e) (paired_block t 1 c by (upper e) (lower e)) y)
    unfolding M.paired plan right_part with_right right_pair tile_of rows_of tile rows pair_column pair_computes pair_exchanged paired_block paired_computes upper_at lower_at with_two
    paired_is = rw (entry, one)

    module _ (ru : k * t + t ≤ length y) (rd : i * t + t ≤ length y) (apart : Apart t (k * t) (i * t)) (f : ℕ) (hf : f ≡ tile_start N t i k) (after : List Float) (answer : Bool)
        (p : RowsPaired t 1 c e (k * t) (i * t) (λ r. at t (part f (t * t) m) r c) y after answer) where
      answer_is : answer ≡ every finite (paired_computes t 1 c by (upper e) (lower e))
      answer_is = p.sound ∙ rw hf

      after_is : answer ≡ true → after ≡ with_two t (k * t) (i * t) (upper e) (paired_block t 1 c by (upper e) (lower e)) y
      after_is h = p.whole h ∙ rw (one, hf)

      both_finite : e ≤ t → all_finite y ≡ true → answer ≡ true → all_finite (with_two t (k * t) (i * t) (upper e) (paired_block t 1 c by (upper e) (lower e)) y) ≡ true
      unfolding upper_at lower_at
      both_finite most fine h =
          let a = part (k * t) (t * 1) y in
          let b = part (i * t) (t * 1) y in
          let ha : length a ≡ t * 1 = length_part (k * t) (t * 1) y (rw one ru) in
          let hb : length b ≡ t * 1 = length_part (i * t) (t * 1) y (rw one rd) in
          let fa = finite_whole (k * t) (t * 1) y (rw one ru) fine in
          let fb = finite_whole (i * t) (t * 1) y (rw one rd) fine in
          finite_two t (k * t) (i * t) y (upper e) (paired_block t 1 c by (upper e) (lower e)) (length_upper t 1 0 c e (k * t) (i * t) y ∙ one) (length_paired t 1 c by (upper e) (lower e) ∙ one) ru rd
          (finite_upper t 1 0 c e a b most ha hb fa fb)
          (paired_all_finite t 1 c by (upper e) (lower e) (length_lower t 1 0 c e (k * t) (i * t) y) (finite_lower t 1 0 c e a b hc ha hb fa fb) (sym answer_is ∙ h))
          fine

      pub column_paired : e ≤ t → all_finite y ≡ true → ColumnPassed i after answer (M.paired (plan_of z) s k i c (going y))
      column_paired most fine = record {
        goes = λ h. sym (paired_is ∙ step_goes i (paired_computes t 1 c by (upper e) (lower e)) _ (sym answer_is ∙ h) ∙ ap going (sym (after_is h)));
        stops = λ h. sym (paired_is ∙ step_stops i (paired_computes t 1 c by (upper e) (lower e)) _ (sym answer_is ∙ h));
        finite_then = λ h. rw (after_is h) (both_finite most fine h);
      }
