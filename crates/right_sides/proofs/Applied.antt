-- One column of T-2(k) on the right side, a block of width 1 at k·t, from what the block's steps leave. Assumes nothing.
use mathlib.Core.Path.{◌≡◌, refl, sym, ◌∙◌, ap}
use mathlib.Core.Bool.{Bool, true}
use mathlib.Core.List.{List}
use Prim.Native.Nat.{ℕ, ◌+◌, ◌*◌, ◌<◌, ◌≤◌}
use native.Mathlib.Omega.{arith}
use lib.ListN.{length, get_or}
use lib.Ieee.{Float, nan}
use Rattle.model.specs.declared.Sizes.{Sizes}
use Rattle.model.specs.Lists.{every, part, with_part}
use Rattle.model.specs.Num.{finite}
use Rattle.model.specs.Tile.{at, all_finite}
use Rattle.model.specs.Column.{apply_start, apply_column, apply_computes}
use Rattle.model.specs.Plan.{plan, plan_of}
use Rattle.model.specs.Buffer.{Buffers, tile, rows, tile_of, rows_of}
use Rattle.model.specs.Solve.{going, stepped, right_part, with_right}
use Rattle.model.specs.Solve as M
use Rattle.laws.proofs.Parts.{Fits, part_put, put_put, length_part, get_part}
use Rattle.column_laws.specs.Steps.{tile_start, list_start, RowsApplied, applied_block, applied_computes}
use Rattle.column_laws.proofs.Pairs.{length_applied}
use Rattle.column_laws.proofs.Permutes.{length_start, finite_start}
use Rattle.column_laws.proofs.Sound.{applied_all_finite}
use Rattle.progress.specs.Right.{ColumnPassed}
use Rattle.progress.proofs.Stepped.{finite_put, finite_whole, step_goes, step_stops}

module _ (z : Sizes) (m : List Float) (l : List ℕ) (k c : ℕ) (y : List Float) where
  abbrev s : Buffers
  s = record { matrix = m; lists = l }

  abbrev t : ℕ
  t = z.side

  abbrev N : ℕ
  N = z.tiles

  -- the multipliers, and the block that column c finds
  abbrev by : ℕ → Float
  by r = at t (part (tile_start N t k k) (t * t) m) r c

  abbrev found : List Float
  found = apply_start t 1 c (part (list_start N t k k) t l) (part (k * t) t y)

  applied_is : M.applied (plan_of z) s k c (going y) ≡ stepped k (applied_computes t 1 c by found) (with_part (k * t) t (applied_block t 1 c by found) y)
  unfolding M.applied plan right_part with_right tile_of rows_of tile rows apply_column apply_computes applied_block applied_computes
  applied_is = refl

  module _ (room : k * t + t ≤ length y) (f : ℕ) (hf : f ≡ tile_start N t k k) (mid after : List Float) (answer : Bool)
      (x : mid ≡ with_part (k * t) (t * 1) (apply_start t 1 c (part (list_start N t k k) t l) (part (k * t) (t * 1) y)) y)
      (p : RowsApplied t 1 c (k * t) (λ r. at t (part f (t * t) m) r c) mid after answer) where
    one : t * 1 ≡ t
    one = omega arith

    begins : mid ≡ with_part (k * t) t found y
    begins = rw one at x

    found_fits : Fits t (k * t) y found
    found_fits = record { whole = length_start t 1 c (part (list_start N t k k) t l) (part (k * t) t y) (length_part (k * t) t y room ∙ sym one) ∙ one; room = room }

    part_mid : part (k * t) (t * 1) mid ≡ found
    part_mid = rw (one, begins) (part_put t nan (k * t) y found found_fits)

    answer_is : answer ≡ every finite (applied_computes t 1 c by found)
    answer_is = p.sound ∙ rw (part_mid, hf)

    after_is : answer ≡ true → after ≡ with_part (k * t) t (applied_block t 1 c by found) y
    after_is h =
        p.whole h
        ∙ rw (part_mid, one, hf, begins)
        (put_put t nan (k * t) y found found_fits (applied_block t 1 c by found))

    pub column_applied : list_start N t k k + t ≤ length l → ((i : ℕ) → i < t → get_or l (list_start N t k k + i) 0 < t) → all_finite y ≡ true
        → ColumnPassed k after answer (M.applied (plan_of z) s k c (going y))
    column_applied lists entries fine = record {
      goes = λ h. sym (applied_is ∙ step_goes k (applied_computes t 1 c by found) _ (sym answer_is ∙ h) ∙ ap going (sym (after_is h)));
      stops = λ h. sym (applied_is ∙ step_stops k (applied_computes t 1 c by found) _ (sym answer_is ∙ h));
      finite_then = λ h.
          let whole = length_applied t 1 c by found in
          let start = finite_start t 1 c (part (list_start N t k k) t l) (part (k * t) t y) (λ i hi. rw (get_part (list_start N t k k) t l 0 i hi) (entries i hi))
          (length_part (k * t) t y room ∙ sym one) (rw one at (finite_whole (k * t) (t * 1) y (omega arith) fine)) in
          let block = applied_all_finite t 1 c by found (found_fits.whole ∙ sym one) start (sym answer_is ∙ h) in
          rw (after_is h) (finite_put t (k * t) y (applied_block t 1 c by found) (record { whole = whole ∙ one; room = room }) block fine);
    }
