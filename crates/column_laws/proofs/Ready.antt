-- What a workable column tells of its slices: that they are short, where its tiles and lists end, that the tiles share no number and are
-- finite, and that the entries are in range. Assumes nothing.
use mathlib.Core.List.{List}
use Prim.Native.Nat.{ℕ, ◌+◌, ◌*◌, ◌<◌, ◌≤◌}
use native.Mathlib.Omega.{arith}
use lib.ListN.{length, get_or}
use lib.Ieee.{Float}
use Rattle.model.specs.declared.Sizes.{Sizes}
use Rattle.model.specs.Task.{Task, t_1, t_2, t_3, t_4}
use Rattle.laws.specs.Apart.{Apart}
use Rattle.laws.proofs.Blocks.{place_room, square_most, row_end}
use Rattle.column_laws.specs.Steps.{tile_start, list_start}
use Rattle.column_laws.proofs.Places.{matrix_most, lists_most, rows_apart}
use Rattle.column_laws.proofs.Touched.{FiniteAt, factor_touched, apply_touched, couple_touched, pair_touched}
use Rattle.column_laws.specs.Workable.{Workable}

module _ {z : Sizes} {a : Task} {c : ℕ} {m : List Float} {l : List ℕ} (w : Workable z a c m l) where
  numbers_few : length m ≤ 65536
  numbers_few = omega (arith, w.lengths.matrix_fits, matrix_most z.tiles z.side w.tiles_most w.side_most)

  lists_few : length l ≤ 4096
  lists_few = omega (arith, w.lengths.lists_fit, lists_most z.tiles z.side w.tiles_most w.side_most)

  tile_room : (i j : ℕ) → i < z.tiles → j < z.tiles → tile_start z.tiles z.side i j + z.side * z.side ≤ length m
  tile_room i j hi hj = omega (arith, w.lengths.matrix_fits, place_room z.tiles (z.side * z.side) i j hi hj)

  list_room : (i j : ℕ) → i < z.tiles → j < z.tiles → list_start z.tiles z.side i j + z.side ≤ length l
  list_room i j hi hj = omega (arith, w.lengths.lists_fit, place_room z.tiles z.side i j hi hj)

-- ---- T-1

pub record FactorReady (N t k c : ℕ) (m : List Float) (l : List ℕ) : Type 0 where
  pub side_most : t ≤ 16
  pub square : t * t ≤ 256
  pub column : c < t
  pub row : c * t + t ≤ t * t
  pub few : length m ≤ 65536
  pub lists_few : length l ≤ 4096
  pub room : tile_start N t k k + t * t ≤ length m
  pub list_room : list_start N t k k + t ≤ length l
  pub tile_finite : FiniteAt N t m l k k

pub factor_ready : {z : Sizes} {k c : ℕ} {m : List Float} {l : List ℕ} → Workable z (t_1 k) c m l → FactorReady z.tiles z.side k c m l
factor_ready {z} {k} {c} {m} {l} w = record {
  side_most = w.side_most;
  square = square_most z.side w.side_most;
  column = w.column;
  row = row_end c z.side z.side w.column;
  few = numbers_few w;
  lists_few = lists_few w;
  room = tile_room w k k w.placed w.placed;
  list_room = list_room w k k w.placed w.placed;
  tile_finite = factor_touched z.tiles z.side m l k w.tiles_finite;
}

-- ---- T-2

pub record ApplyReady (N t k j c : ℕ) (m : List Float) (l : List ℕ) : Type 0 where
  pub side_most : t ≤ 16
  pub square : t * t ≤ 256
  pub column : c < t
  pub row : c * t + t ≤ t * t
  pub few : length m ≤ 65536
  pub lists_few : length l ≤ 4096
  pub mult_left : tile_start N t k k + t * t ≤ tile_start N t k j
  pub room : tile_start N t k j + t * t ≤ length m
  pub list_room : list_start N t k k + t ≤ length l
  pub entries : (x : ℕ) → x < t → get_or l (list_start N t k k + x) 0 < t
  pub tile_finite : FiniteAt N t m l k j

pub apply_ready : {z : Sizes} {k j c : ℕ} {m : List Float} {l : List ℕ} → Workable z (t_2 k j) c m l → ApplyReady z.tiles z.side k j c m l
apply_ready {z} {k} {j} {c} {m} {l} w =
    let hk : k < z.tiles = omega (arith, w.placed) in
    let hj : j < z.tiles = omega (arith, w.placed) in
    record {
      side_most = w.side_most;
      square = square_most z.side w.side_most;
      column = w.column;
      row = row_end c z.side z.side w.column;
      few = numbers_few w;
      lists_few = lists_few w;
      mult_left = row_end (k * z.tiles + k) (k * z.tiles + j) (z.side * z.side) (omega (arith, w.placed));
      room = tile_room w k j hk hj;
      list_room = list_room w k k hk hk;
      entries = w.entries;
      tile_finite = (apply_touched z.tiles z.side m l k j w.tiles_finite).1;
    }

-- ---- T-3

pub record CoupleReady (N t k i c : ℕ) (m : List Float) (l : List ℕ) : Type 0 where
  pub side_most : t ≤ 16
  pub square : t * t ≤ 256
  pub column : c < t
  pub row : c * t + t ≤ t * t
  pub few : length m ≤ 65536
  pub lists_few : length l ≤ 4096
  pub upper_room : tile_start N t k k + t * t ≤ length m
  pub lower_room : tile_start N t i k + t * t ≤ length m
  pub list_room : list_start N t i k + t ≤ length l
  pub apart : Apart (t * t) (tile_start N t k k) (tile_start N t i k)
  pub upper_finite : FiniteAt N t m l k k
  pub lower_finite : FiniteAt N t m l i k

pub couple_ready : {z : Sizes} {k i c : ℕ} {m : List Float} {l : List ℕ} → Workable z (t_3 k i) c m l → CoupleReady z.tiles z.side k i c m l
couple_ready {z} {k} {i} {c} {m} {l} w =
    let hk : k < z.tiles = omega (arith, w.placed) in
    let hi : i < z.tiles = omega (arith, w.placed) in
    let f = couple_touched z.tiles z.side m l k i w.tiles_finite in
    record {
      side_most = w.side_most;
      square = square_most z.side w.side_most;
      column = w.column;
      row = row_end c z.side z.side w.column;
      few = numbers_few w;
      lists_few = lists_few w;
      upper_room = tile_room w k k hk hk;
      lower_room = tile_room w i k hi hk;
      list_room = list_room w i k hi hk;
      apart = rows_apart z.tiles (z.side * z.side) k i k hk w.placed.0;
      upper_finite = f.0;
      lower_finite = f.1;
    }

-- ---- T-4

pub record PairReady (N t k i j c : ℕ) (m : List Float) (l : List ℕ) : Type 0 where
  pub side_most : t ≤ 16
  pub square : t * t ≤ 256
  pub column : c < t
  pub row : c * t + t ≤ t * t
  pub few : length m ≤ 65536
  pub lists_few : length l ≤ 4096
  pub mult_below : tile_start N t k j + t * t ≤ tile_start N t i k
  pub mult_left : tile_start N t i k + t * t ≤ tile_start N t i j
  pub upper_room : tile_start N t k j + t * t ≤ length m
  pub lower_room : tile_start N t i j + t * t ≤ length m
  pub list_room : list_start N t i k + t ≤ length l
  pub entry : get_or l (list_start N t i k + c) 0 ≤ t
  pub apart : Apart (t * t) (tile_start N t k j) (tile_start N t i j)
  pub upper_finite : FiniteAt N t m l k j
  pub lower_finite : FiniteAt N t m l i j

pub pair_ready : {z : Sizes} {k i j c : ℕ} {m : List Float} {l : List ℕ} → Workable z (t_4 k i j) c m l → PairReady z.tiles z.side k i j c m l
pair_ready {z} {k} {i} {j} {c} {m} {l} w =
    let hk : k < z.tiles = omega (arith, w.placed) in
    let hi : i < z.tiles = omega (arith, w.placed) in
    let hj : j < z.tiles = omega (arith, w.placed) in
    let f = pair_touched z.tiles z.side m l k i j w.tiles_finite in
    record {
      side_most = w.side_most;
      square = square_most z.side w.side_most;
      column = w.column;
      row = row_end c z.side z.side w.column;
      few = numbers_few w;
      lists_few = lists_few w;
      mult_below = row_end (k * z.tiles + j) (i * z.tiles + k) (z.side * z.side) (omega (arith, row_end k i z.tiles w.placed.0, hj));
      mult_left = row_end (i * z.tiles + k) (i * z.tiles + j) (z.side * z.side) (omega (arith, w.placed));
      upper_room = tile_room w k j hk hj;
      lower_room = tile_room w i j hi hj;
      list_room = list_room w i k hi hk;
      entry = w.entries c w.column;
      apart = rows_apart z.tiles (z.side * z.side) k i j hj w.placed.0;
      upper_finite = f.1;
      lower_finite = f.2;
    }
