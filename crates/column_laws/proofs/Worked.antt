-- What a worked column of each task makes of the lent slices, and what it computes, by where the tiles and lists start. Assumes nothing.
use mathlib.Core.Path.{◌≡◌, refl}
use mathlib.Core.Bool.{true, false}
use mathlib.Core.List.{List, []}
use Prim.Native.Nat.{ℕ, ◌+◌, ◌*◌, ◌<◌, ◌≤◌}
use lib.ListN.{length, get_or, set}
use lib.Ieee.{Float}
use borrow.Rule.Slice.PartMut.{put_same, set_mid_at}
use Rattle.model.specs.Lists.{part, with_part}
use Rattle.model.specs.Num.{is_zero}
use Rattle.model.specs.Tile.{at}
use Rattle.model.specs.Column.{factor_pivot, factor_exchanged, factor_column, factor_computes, apply_start, apply_column, apply_computes, couple_pivot, couple_column, couple_computes, pair_exchanged, pair_column, pair_computes}
use Rattle.model.specs.Task.{t_1, t_2, t_3, t_4}
use Rattle.model.specs.Plan.{plan}
use Rattle.model.specs.Buffer.{tile, put_tile, rows, put_rows, tile_of, rows_of, with_tile, with_rows, factor_input, couple_input, pair_input, worked, computed}
use Rattle.laws.proofs.Parts.{length_part, get_part}
use Rattle.column_laws.specs.Steps.{tile_start, list_start, applied_block, applied_computes, paired_block, paired_computes, upper_at, lower_at, with_two, eliminated_rows, eliminated_computes, factored, factored_computes, exchanged_at}

-- an entry set in a list is set in the lists
set_entry : (p t c v : ℕ) (l : List ℕ) → p + t ≤ length l → c < t → with_part p t (set (part p t l) c v) l ≡ set l (p + c) v
set_entry p t c v l room h = set_mid_at p t c l v (rw (length_part p t l room) h)

module _ (N t c : ℕ) (m : List Float) (l : List ℕ) where
  -- ---- T-1(k): with a pivot, and with none

  module _ (k : ℕ) (hc : c < t) (room : list_start N t k k + t ≤ length l) where
    pub factor_worked : is_zero (factor_pivot t c (part (tile_start N t k k) (t * t) m)).magnitude ≡ false
        → worked (plan N t) (t_1 k) c (record { matrix = m; lists = l })
        ≡ record {
          matrix = with_part (tile_start N t k k) (t * t) (factored t c (exchanged_at t c (c + (factor_pivot t c (part (tile_start N t k k) (t * t) m)).place) (tile_start N t k k) m)) m;
          lists = set l (list_start N t k k + c) (c + (factor_pivot t c (part (tile_start N t k k) (t * t) m)).place);
        }
    unfolding plan worked with_tile with_rows factor_input tile_of rows_of tile put_tile rows put_rows factor_column factored exchanged_at factor_exchanged
    factor_worked nz = rw (nz, factor_column, set_entry (list_start N t k k) t c (c + (factor_pivot t c (part (tile_start N t k k) (t * t) m)).place) l room hc)

    pub factor_skipped : is_zero (factor_pivot t c (part (tile_start N t k k) (t * t) m)).magnitude ≡ true
        → worked (plan N t) (t_1 k) c (record { matrix = m; lists = l }) ≡ record { matrix = m; lists = set l (list_start N t k k + c) c }
    unfolding plan worked with_tile with_rows factor_input tile_of rows_of tile put_tile rows put_rows factor_column
    factor_skipped z = rw (z, factor_column, set_entry (list_start N t k k) t c c l room hc, put_same (tile_start N t k k) (t * t) m)

  module _ (k : ℕ) where
    pub factor_computed : is_zero (factor_pivot t c (part (tile_start N t k k) (t * t) m)).magnitude ≡ false
        → computed (plan N t) (t_1 k) c (record { matrix = m; lists = l })
        ≡ factored_computes t c (exchanged_at t c (c + (factor_pivot t c (part (tile_start N t k k) (t * t) m)).place) (tile_start N t k k) m)
    unfolding plan computed factor_input tile_of tile factor_computes factored_computes exchanged_at factor_exchanged
    factor_computed nz = rw (nz, factor_computes)

    pub factor_none : is_zero (factor_pivot t c (part (tile_start N t k k) (t * t) m)).magnitude ≡ true
        → computed (plan N t) (t_1 k) c (record { matrix = m; lists = l }) ≡ []
    unfolding plan computed factor_input tile_of tile factor_computes
    factor_none z = rw (z, factor_computes)

  -- ---- T-2(k,j)

  module _ (k j : ℕ) where
    pub apply_worked : worked (plan N t) (t_2 k j) c (record { matrix = m; lists = l })
        ≡ record {
          matrix = with_part (tile_start N t k j) (t * t) (applied_block t t c (λ r. at t (part (tile_start N t k k) (t * t) m) r c) (apply_start t t c (part (list_start N t k k) t l) (part (tile_start N t k j) (t * t) m))) m;
          lists = l;
        }
    unfolding plan worked with_tile tile_of rows_of tile put_tile rows apply_column applied_block
    apply_worked = refl

    pub apply_computed : computed (plan N t) (t_2 k j) c (record { matrix = m; lists = l })
        ≡ applied_computes t t c (λ r. at t (part (tile_start N t k k) (t * t) m) r c) (apply_start t t c (part (list_start N t k k) t l) (part (tile_start N t k j) (t * t) m))
    unfolding plan computed tile_of rows_of tile rows apply_computes applied_computes
    apply_computed = refl

  -- ---- T-3(k,i): with a pivot, and with none

  module _ (k i : ℕ) (hc : c < t) (room : list_start N t i k + t ≤ length l) where
    pub couple_worked : is_zero (couple_pivot t c (part (tile_start N t k k) (t * t) m) (part (tile_start N t i k) (t * t) m)).magnitude ≡ false
        → (e : ℕ) → e ≡ (couple_pivot t c (part (tile_start N t k k) (t * t) m) (part (tile_start N t i k) (t * t) m)).place
        → worked (plan N t) (t_3 k i) c (record { matrix = m; lists = l })
        ≡ record {
          matrix = with_two (t * t) (tile_start N t k k) (tile_start N t i k) (upper_at t t c c e (tile_start N t k k) (tile_start N t i k) m)
              (eliminated_rows t t c (at t (upper_at t t c c e (tile_start N t k k) (tile_start N t i k) m) c) (lower_at t t c c e (tile_start N t k k) (tile_start N t i k) m)) m;
          lists = set l (list_start N t i k + c) e;
        }
    unfolding plan worked with_tile with_rows couple_input tile_of rows_of tile put_tile rows put_rows couple_column with_two upper_at lower_at eliminated_rows
    couple_worked nz e p = rw (p, nz, couple_column, set_entry (list_start N t i k) t c (couple_pivot t c (part (tile_start N t k k) (t * t) m) (part (tile_start N t i k) (t * t) m)).place l room hc)

    pub couple_skipped : is_zero (couple_pivot t c (part (tile_start N t k k) (t * t) m) (part (tile_start N t i k) (t * t) m)).magnitude ≡ true
        → worked (plan N t) (t_3 k i) c (record { matrix = m; lists = l }) ≡ record { matrix = m; lists = set l (list_start N t i k + c) 0 }
    unfolding plan worked with_tile with_rows couple_input tile_of rows_of tile put_tile rows put_rows couple_column
    couple_skipped z = rw (z, couple_column, set_entry (list_start N t i k) t c 0 l room hc, put_same (tile_start N t i k) (t * t) m, put_same (tile_start N t k k) (t * t) m)

  module _ (k i : ℕ) where
    pub couple_computed : is_zero (couple_pivot t c (part (tile_start N t k k) (t * t) m) (part (tile_start N t i k) (t * t) m)).magnitude ≡ false
        → (e : ℕ) → e ≡ (couple_pivot t c (part (tile_start N t k k) (t * t) m) (part (tile_start N t i k) (t * t) m)).place
        → computed (plan N t) (t_3 k i) c (record { matrix = m; lists = l })
        ≡ eliminated_computes t t c (at t (upper_at t t c c e (tile_start N t k k) (tile_start N t i k) m) c) (lower_at t t c c e (tile_start N t k k) (tile_start N t i k) m)
    unfolding plan computed couple_input tile_of tile couple_computes upper_at lower_at eliminated_computes
    couple_computed nz e p = rw (p, nz, couple_computes)

    pub couple_none : is_zero (couple_pivot t c (part (tile_start N t k k) (t * t) m) (part (tile_start N t i k) (t * t) m)).magnitude ≡ true
        → computed (plan N t) (t_3 k i) c (record { matrix = m; lists = l }) ≡ []
    unfolding plan computed couple_input tile_of tile couple_computes
    couple_none z = rw (z, couple_computes)

  -- ---- T-4(k,i,j)

  module _ (k i j : ℕ) (hc : c < t) (room : list_start N t i k + t ≤ length l) where
    entry : get_or (part (list_start N t i k) t l) c 0 ≡ get_or l (list_start N t i k + c) 0
    entry = get_part (list_start N t i k) t l 0 c hc

    pub pair_worked : (e : ℕ) → e ≡ get_or l (list_start N t i k + c) 0
        → worked (plan N t) (t_4 k i j) c (record { matrix = m; lists = l })
        ≡ record {
          matrix = with_two (t * t) (tile_start N t k j) (tile_start N t i j) (upper_at t t 0 c e (tile_start N t k j) (tile_start N t i j) m)
              (paired_block t t c (λ r. at t (part (tile_start N t i k) (t * t) m) r c) (upper_at t t 0 c e (tile_start N t k j) (tile_start N t i j) m) (lower_at t t 0 c e (tile_start N t k j) (tile_start N t i j) m)) m;
          lists = l;
        }
    unfolding plan worked with_tile pair_input tile_of rows_of tile put_tile rows pair_column pair_exchanged paired_block upper_at lower_at with_two
    pair_worked e p = rw (p, entry)

    pub pair_computed : (e : ℕ) → e ≡ get_or l (list_start N t i k + c) 0
        → computed (plan N t) (t_4 k i j) c (record { matrix = m; lists = l })
        ≡ paired_computes t t c (λ r. at t (part (tile_start N t i k) (t * t) m) r c) (upper_at t t 0 c e (tile_start N t k j) (tile_start N t i j) m) (lower_at t t 0 c e (tile_start N t k j) (tile_start N t i j) m)
    unfolding plan computed pair_input tile_of rows_of tile rows pair_computes pair_exchanged paired_computes upper_at lower_at
    pair_computed e p = rw (p, entry)
