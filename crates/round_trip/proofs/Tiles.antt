-- The tiles of a text: the lines that hold them, and the matrix that is read from those lines. Assumes nothing.
use mathlib.Core.Path.{◌≡◌, refl, sym, ap, ◌∙◌, subst}
use mathlib.Core.Logic.{⊎_elim}
use mathlib.Core.List.{List, [], ◌∷◌, ◌++◌, map, map-map, map-append}
use Prim.Native.Nat.{ℕ, ◌+◌, ◌*◌, ◌/◌, ◌%◌, ◌≤◌, ◌<◌}
use native.Mathlib.Nat.{zero-mul, suc-mul, mul-le-mul_right, div-add-mod'}
use native.Mathlib.Numerals.{add-one}
use native.Mathlib.Omega.{arith}
use lib.ListN.{length, get_or, take, drop, length-drop, get_or-eq_default, length-take}
use lib.Seq.{length-take-le, take_all, get_or-take, get_or-drop}
use lib.Ieee.{Float, nan, binary64, fits, of_bits}
use Rattle.model.specs.Lists.{below, table, joined, part}
use Rattle.model.specs.Num.{finite}
use Rattle.model.specs.Tile.{all_finite}
use Rattle.model.specs.Buffer.{tile}
use Rattle.model.specs.Read.{field, numbers_in, tiles_of}
use Rattle.laws.proofs.Tests.{lt_or_le}
use Rattle.laws.proofs.Each.{Each, each_run, each_joined}
use Rattle.laws.proofs.Runs.{map_below, joined_append}
use Rattle.laws.proofs.Every.{every_take, every_drop}
use Rattle.laws.proofs.Blocks.{in_block, row_below, column_below, length_table, table_unique}
use Rattle.round_trip.specs.Trips.{Held, Matrix}
use Rattle.round_trip.proofs.Grid.{grid, grid_is, pieces, piece}
use Rattle.round_trip.proofs.Checks.{Fine, frame, tile_line, tile_fine, numbers_read, tile_again}

-- ---- grids

module _ {A B : Type 0} (g : A → B) where
  map_joined : (xss : List (List A)) → map g (joined xss) ≡ joined (map (map g) xss)
  unfolding joined
  map_joined [] = refl
  map_joined (xs ∷ xss) = map-append g xs (joined xss) ∙ ap (λ (l : List B). map g xs ++ l) (map_joined xss)

  -- a function of a grid's elements
  pub map_grid : (w : ℕ → ℕ) (F : ℕ → ℕ → A) (n : ℕ) → map g (grid w F n) ≡ grid w (λ i j. g (F i j)) n
  map_grid w F n =
      map_joined (map (λ i. map (F i) (below (w i))) (below n)) ∙ ap joined (map-map (map g) (λ i. map (F i) (below (w i))) (below n))
      ∙ ap joined (map_below (λ i. map g (map (F i) (below (w i)))) (λ i. map (λ j. g (F i j)) (below (w i))) n (λ i h. map-map g (F i) (below (w i))))

joined_joined : {A : Type 0} (xsss : List (List (List A))) → joined (joined xsss) ≡ joined (map joined xsss)
unfolding joined
joined_joined [] = refl
joined_joined (xss ∷ xsss) = joined_append xss (joined xsss) ∙ ap (λ l. joined xss ++ l) (joined_joined xsss)

-- the rows of a grid of lists, joined
pub joined_grid : {A : Type 0} (w : ℕ → ℕ) (F : ℕ → ℕ → List A) (n : ℕ) → joined (grid w F n) ≡ joined (map (λ i. joined (map (F i) (below (w i)))) (below n))
joined_grid w F n = joined_joined (map (λ i. map (F i) (below (w i))) (below n)) ∙ ap joined (map-map joined (λ i. map (F i) (below (w i))) (below n))

module _ {A : Type 0} (P : A → Type 0) where
  pub each_grid : (w : ℕ → ℕ) (F : ℕ → ℕ → A) (n : ℕ) → ((i j : ℕ) → i < n → j < w i → P (F i j)) → Each P (grid w F n)
  unfolding below
  each_grid w F n h = each_joined P (λ i. map (F i) (below (w i))) 0 n (λ i l b. each_run P (F i) 0 (w i) (λ j m c. h i j (omega arith) (omega arith)))

-- ---- N by N

module _ (N : ℕ) where
  abbrev pub wide : ℕ → ℕ
  wide i = N

  abbrev pub before : ℕ → ℕ
  before i = i * N

  pub before_none : before 0 ≡ 0
  before_none = zero-mul N

  pub before_step : (i : ℕ) → before (i + 1) ≡ before i + wide i
  before_step i = ap (λ (k : ℕ). k * N) (add-one i) ∙ suc-mul i N

-- what belongs to tile (i,j) stands in the whole
pub cell : (N s i j x : ℕ) → i < N → j < N → x ≡ N * N * s → (i * N + j) * s + s ≤ x
cell N s i j x hi hj e = omega (arith, mul-le-mul_right s (in_block N N i j hi hj), suc-mul (i * N + j) s)

held_part : (a n : ℕ) (m : List Float) → Held m → Held (part a n m)
unfolding fits
held_part a n m h k =
    ⊎_elim (λ l. rw (get_or-take n (drop a m) k nan l, get_or-drop a m k nan) (h (a + k)))
    (λ g. let b : n ≤ k = g in rw (get_or-eq_default (part a n m) nan {n = k} (rw length-take (omega arith))) tt)
    (lt_or_le k n)

module _ (N t : ℕ) (m : List Float) where
  module _ (w : Matrix N t m) (i j : ℕ) (hi : i < N) (hj : j < N) where
    length_tile : length (tile N t m i j) ≡ t * t
    unfolding tile
    length_tile = length-take-le (t * t) (drop ((i * N + j) * (t * t)) m) (rw length-drop (omega (arith, cell N (t * t) i j (length m) hi hj w.long)))

    tile_held : Held (tile N t m i j)
    unfolding tile
    tile_held = held_part ((i * N + j) * (t * t)) (t * t) m w.held

    pub tile_written : N < 256 → Fine t (frame 2 i j) (tile_line i j (tile N t m i j))
    unfolding tile all_finite
    tile_written h =
        tile_fine t i j (tile N t m i j) length_tile (omega arith) (omega arith) tile_held
        (every_take finite (t * t) (drop ((i * N + j) * (t * t)) m) (every_drop finite ((i * N + j) * (t * t)) m w.finite_all))

    pub tile_read : numbers_in t (tile_line i j (tile N t m i j)) ≡ tile N t m i j
    tile_read = numbers_read t i j (tile N t m i j) length_tile tile_held

  -- lines that hold the tiles of m are read as m
  pub tiles_read : length m ≡ N * N * (t * t) → (ls : List (List ℕ)) → N * N ≤ length ls → ((i j : ℕ) → i < N → j < N → numbers_in t (get_or ls (i * N + j) []) ≡ tile N t m i j) → tiles_of N t ls ≡ m
  unfolding tiles_of tile table
  tiles_read long ls h is =
      let n = N * N in
      ap (λ (l : List (List ℕ)). joined (map (numbers_in t) l)) (table_unique n (λ k. get_or ls k []) (take n ls) [] (length-take-le n ls h) (λ k b. get_or-take n ls k [] b))
      ∙ ap joined (map-map (numbers_in t) (λ k. get_or ls k []) (below n))
      ∙ ap joined (map_below (λ k. numbers_in t (get_or ls k [])) (λ k. part (k * (t * t)) (t * t) m) n
      (λ k b.
      let e : k / N * N + k % N ≡ k = div-add-mod' k N in
      subst (λ (x : ℕ). numbers_in t (get_or ls x []) ≡ part (x * (t * t)) (t * t) m) e (is (k / N) (k % N) (row_below N N k b) (column_below N N k b))))
      ∙ pieces (t * t) n m ∙ take_all (n * (t * t)) m (omega arith)

length_numbers : (t : ℕ) (l : List ℕ) → length (numbers_in t l) ≡ t * t
unfolding numbers_in table
length_numbers t l = length_table (t * t) (λ x. of_bits binary64 (field (6 + 16 * x) 16 l))

-- a tile of what was read is what its line holds
pub tile_of_lem : (N t : ℕ) (ls : List (List ℕ)) (i j : ℕ) → i < N → j < N → N * N ≤ length ls → tile N t (tiles_of N t ls) i j ≡ numbers_in t (get_or ls (i * N + j) [])
unfolding tile tiles_of
tile_of_lem N t ls i j hi hj h =
    piece (numbers_in t) (t * t) (length_numbers t) (take (N * N) ls) (i * N + j) [] (rw (length-take-le (N * N) ls h) (in_block N N i j hi hj))
    ∙ ap (numbers_in t) (get_or-take (N * N) ls (i * N + j) [] (in_block N N i j hi hj))

-- lines that are accepted as tiles are the lines of what was read
pub tiles_again : (N t : ℕ) (ls : List (List ℕ)) → N * N ≤ length ls → ((i j : ℕ) → i < N → j < N → Fine t (frame 2 i j) (get_or ls (i * N + j) []))
    → take (N * N) ls ≡ grid (wide N) (λ i j. tile_line i j (tile N t (tiles_of N t ls) i j)) N
tiles_again N t ls h fine =
    grid_is (wide N) (before N) (before_none N) (before_step N) (λ i j. tile_line i j (tile N t (tiles_of N t ls) i j)) N (take (N * N) ls) [] (length-take-le (N * N) ls h)
    (λ i j hi hj.
    get_or-take (N * N) ls (i * N + j) [] (in_block N N i j hi hj)
    ∙ tile_again t i j (get_or ls (i * N + j) []) (fine i j hi hj)
    ∙ ap (tile_line i j) (sym (tile_of_lem N t ls i j hi hj h)))
