-- A column, its test and a fill on the lent buffers are those of the system on the buffers' cells.
-- Assumes nothing.
use Prim.Native.Nat.{ℕ, ◌*◌, ◌<◌}
use mathlib.Core.Path.{◌≡◌, refl, sym, ap, ◌∙◌}
use mathlib.Core.List.{List}
use native.Mathlib.Omega.{arith}
use lib.Ieee.{Float}
use lib.ListN.{length, replicate, length-replicate}
use Rattle.model.specs.Lists.{every}
use Rattle.model.specs.Num.{plus_zero, finite}
use Rattle.model.specs.Tile.{zeros, upper_filled}
use Rattle.model.specs.Column.{factor_pivot, couple_pivot, factor_column, factor_computes, apply_column, apply_computes, couple_column, couple_computes, pair_column, pair_computes}
use Rattle.model.specs.Task.{Task, t_1, t_2, t_3, t_4}
use Rattle.model.specs.Plan.{Plan, plan}
use Rattle.model.specs.Links.{task}
use Rattle.model.specs.Buffer.{Buffers, tile_of, rows_of, with_tile, with_rows, factor_input, couple_input, pair_input, worked, computed, column_ties, sound, fill_tile, fill_rows, fill_upper, filled}
use Rattle.order_free.proofs.Tests.{set_there}
use Rattle.laws.proofs.Each.{Each}
use Rattle.laws.proofs.Blocks.{length_block}
use Rattle.cells.specs.Cells.{Val, tile_val, tile_at, low_at, list_at, view, put_tile, put_factored, put_coupled, put_paired, put_zeros, factor_in, couple_in, pair_in, worked_at, computed_at, ties_at, sound_at, filled_at, plan_for, system}
use Rattle.cells.proofs.Places.{cell_lt}
use Rattle.cells.proofs.Lows.{low_low, apply_low, computes_low, couple_low}
use Rattle.cells.proofs.Lengths.{factor_size, apply_size, couple_size, pair_size}
use Rattle.cells.proofs.Valid.{Valid, v₁, v₂, v₃, v₄, task_valid}
use Rattle.cells.proofs.View.{Sized, Same, tile_cell, rows_cell, length_tile, length_rows, low_cell, put_whole, put_tile_lem, put_diagonal, put_kept, put_rows_lem}

module _ (N t : ℕ) (ts : List Task) where
  abbrev z : Plan
  z = plan_for N t ts

  -- ---- what a column gets

  module _ (s : Buffers) where
    abbrev σ : ℕ → Val
    σ = view N t s

    tile_in : (i j : ℕ) → i < N → j < N → tile_of z s i j ≡ (σ (tile_at N i j)).floats
    unfolding tile_of plan
    tile_in i j hi hj = sym (tile_cell N t s i j hi hj)

    rows_in : (i j : ℕ) → rows_of z s i j ≡ (σ (list_at N i j)).bytes
    unfolding rows_of plan
    rows_in i j = sym (rows_cell N t s i j)

    low_in : (k : ℕ) → k < N → upper_filled t (tile_of z s k k) ≡ (σ (low_at N k)).floats
    unfolding tile_of plan
    low_in k h = ap (λ (x : Val). x.floats) (sym (low_cell N t s k h))

    factor_in_lem : (k : ℕ) → k < N → factor_input z s k ≡ factor_in N t k σ
    unfolding factor_input
    factor_in_lem k h = λ i. record { tile = tile_in k k h h i; rows = rows_in k k i }

    -- T-2 gets the strictly lower part of the diagonal tile, for what it leaves and for the numbers that it computes
    apply_in : (k j c : ℕ) → k < N → j < N → apply_column t t c (tile_of z s k k) (rows_of z s k k) (tile_of z s k j)
        ≡ apply_column t t c (σ (low_at N k)).floats (σ (list_at N k k)).bytes (σ (tile_at N k j)).floats
    apply_in k j c h l = sym (apply_low t t c (tile_of z s k k) (rows_of z s k k) (tile_of z s k j))
        ∙ (λ i. apply_column t t c (low_in k h i) (rows_in k k i) (tile_in k j h l i))

    computes_in : (k j c : ℕ) → k < N → j < N → apply_computes t t c (tile_of z s k k) (rows_of z s k k) (tile_of z s k j)
        ≡ apply_computes t t c (σ (low_at N k)).floats (σ (list_at N k k)).bytes (σ (tile_at N k j)).floats
    computes_in k j c h l = sym (computes_low t t c (tile_of z s k k) (rows_of z s k k) (tile_of z s k j))
        ∙ (λ i. apply_computes t t c (low_in k h i) (rows_in k k i) (tile_in k j h l i))

    couple_in_lem : (k m : ℕ) → k < N → m < N → couple_input z s k m ≡ couple_in N t k m σ
    unfolding couple_input
    couple_in_lem k m h l = λ i. record { upper = tile_in k k h h i; lower = tile_in m k l h i; rows = rows_in m k i }

    pair_in_lem : (k m j : ℕ) → k < N → m < N → j < N → pair_input z s k m j ≡ pair_in N t k m j σ
    unfolding pair_input
    pair_in_lem k m j h l f = λ i. record { upper = tile_in k j h f i; lower = tile_in m j l f i }

  -- ---- what it leaves

  worked_view : (a : Task) → Valid N a → (c : ℕ) (s : Buffers) → Sized N t s → Same N t (worked z a c s) (worked_at N t a c (view N t s))
  unfolding worked worked_at plan factor_input couple_input tile_of rows_of with_tile with_rows
  worked_view (t_1 k) (v₁ h) c s d =
      let n = factor_size t c (factor_input z s k) (record { tile = length_tile N t s d k k h h; rows = length_rows N t s d k k h h }) in
      let w = put_diagonal N t _ _ (put_rows_lem N t s (view N t s) (d, refl) k k h h _ n.rows) k h _ n.tile in
      (w.0, w.1 ∙ (λ i. put_factored N t k (factor_column t c (factor_in_lem s k h i)) (view N t s)))
  worked_view (t_2 k j) (v₂ h l m) c s d =
      let n = apply_size t c t (tile_of z s k k) (rows_of z s k k) (tile_of z s k j) in
      let w = put_tile_lem N t s (view N t s) (d, refl) k j h l (λ q. omega arith) _ n in
      (w.0, w.1 ∙ (λ i. put_tile N t k j (apply_in s k j c h l i) (view N t s)))
  worked_view (t_3 k m) (v₃ h l f) c s d =
      let n = couple_size t c (couple_input z s k m)
      (record { upper = length_tile N t s d k k h h; lower = length_tile N t s d m k l h; rows = length_rows N t s d m k l h }) in
      let w' = put_tile_lem N t _ _ (put_rows_lem N t s (view N t s) (d, refl) m k l h _ n.rows) m k l h (λ q. omega arith) _ n.lower in
      let w = put_kept N t _ _ w' k h _ n.upper
      (set_there _ (tile_at N m k) _ (low_at N k) (λ q. omega (arith, cell_lt l h)) ∙ set_there _ (list_at N m k) _ (low_at N k) (λ q. omega arith)
      ∙ low_cell N t s k h ∙ ap tile_val (sym (couple_low t c (couple_input z s k m)))) in
      (w.0, w.1 ∙ (λ i. put_coupled N t k m (couple_column t c (couple_in_lem s k m h l i)) (view N t s)))
  worked_view (t_4 k m j) (v₄ h l f e g) c s d =
      let n = pair_size t c t (tile_of z s m k) (rows_of z s m k) (pair_input z s k m j) in
      let w = put_tile_lem N t _ _ (put_whole N t s (view N t s) (d, refl) m j l f _ n.1) k j h f (λ q. omega arith) _ n.0 in
      (w.0, w.1 ∙ (λ i. put_paired N t k m j (pair_column t t c (tile_in s m k l h i) (rows_in s m k i) (pair_in_lem s k m j h l f i)) (view N t s)))

  -- ---- the numbers that it computes

  computed_view : (a : Task) → Valid N a → (c : ℕ) (s : Buffers) → computed z a c s ≡ computed_at N t a c (view N t s)
  unfolding computed computed_at
  computed_view (t_1 k) (v₁ h) c s = ap (factor_computes t c) (factor_in_lem s k h)
  computed_view (t_2 k j) (v₂ h l m) c s = computes_in s k j c h l
  computed_view (t_3 k m) (v₃ h l f) c s = ap (couple_computes t c) (couple_in_lem s k m h l)
  computed_view (t_4 k m j) (v₄ h l f e g) c s = λ i. pair_computes t t c (tile_in s m k l h i) (rows_in s m k i) (pair_in_lem s k m j h l f i)

  sound_view : (a : Task) → Valid N a → (c : ℕ) (s : Buffers) → sound z a c s ≡ sound_at N t a c (view N t s)
  unfolding sound sound_at
  sound_view a v c s = ap (every finite) (computed_view a v c s)

  -- ---- the ties of its search

  ties_view : (a : Task) → Valid N a → (c : ℕ) (s : Buffers) → column_ties z a c s ≡ ties_at N t a c (view N t s)
  unfolding column_ties ties_at plan
  ties_view (t_1 k) (v₁ h) c s = λ i. (factor_pivot t c (tile_in s k k h h i)).ties
  ties_view (t_2 k j) v c s = refl
  ties_view (t_3 k m) (v₃ h l f) c s = λ i. (couple_pivot t c (tile_in s k k h h i) (tile_in s m k l h i)).ties
  ties_view (t_4 k m j) v c s = refl

  -- ---- what a fill leaves

  length_zeros : length (zeros (t * t)) ≡ t * t
  unfolding zeros
  length_zeros = length-replicate (t * t) plus_zero

  length_upper : (a : List Float) → length (upper_filled t a) ≡ t * t
  unfolding upper_filled
  length_upper a = length_block t t _

  filled_view : (a : Task) → Valid N a → (s : Buffers) → Sized N t s → Same N t (filled z a s) (filled_at N t a (view N t s))
  unfolding filled filled_at fill_tile fill_rows fill_upper plan tile_of with_tile with_rows
  filled_view (t_1 k) (v₁ h) s d = put_diagonal N t _ _ (put_rows_lem N t s (view N t s) (d, refl) k k h h _ (length-replicate t 0)) k h _ length_zeros
  filled_view (t_2 k j) (v₂ h l m) s d = put_tile_lem N t s (view N t s) (d, refl) k j h l (λ q. omega arith) _ length_zeros
  filled_view (t_3 k m) (v₃ h l f) s d =
      let s' : Buffers = with_tile z m k (zeros (t * t)) (with_rows z m k (replicate t 0) s) in
      let σ' : ℕ → Val = put_zeros N t m k (view N t s) in
      let w : Same N t s' σ' = put_tile_lem N t _ _ (put_rows_lem N t s (view N t s) (d, refl) m k l h _ (length-replicate t 0)) m k l h
      (λ q. omega arith) _ length_zeros in
      let q = put_kept N t s' σ' w k h (upper_filled t (tile_of z s' k k)) (length_upper _)
      ((λ i. sym w.1 i (low_at N k)) ∙ low_cell N t s' k h ∙ ap tile_val (sym (low_low t (tile_of z s' k k)))) in
      let x : tile_of z s' k k ≡ (σ' (tile_at N k k)).floats = sym (tile_cell N t s' k k h h) ∙ (λ i. (w.1 i (tile_at N k k)).floats) in
      (q.0, q.1 ∙ (λ i. put_tile N t k k (upper_filled t (x i)) σ'))
  filled_view (t_4 k m j) (v₄ h l f e g) s d = put_tile_lem N t _ _ (put_whole N t s (view N t s) (d, refl) m j l f _ length_zeros) k j h f
      (λ q. omega arith) _ length_zeros

  -- ---- the same by a task's number

  module _ (va : Each (Valid N) ts) (p : ℕ) (h : p < length ts) (s : Buffers) (σ : ℕ → Val) (w : Same N t s σ) where
    abbrev v : Valid N (task ts p)
    v = task_valid N ts va p h

    pub worked_same : (c : ℕ) → Same N t (worked z (task ts p) c s) ((system N t ts).col p c σ)
    worked_same c = let x = worked_view (task ts p) v c s w.0 in (x.0, x.1 ∙ ap (worked_at N t (task ts p) c) w.1)

    pub filled_same : Same N t (filled z (task ts p) s) ((system N t ts).fill p σ)
    filled_same = let x = filled_view (task ts p) v s w.0 in (x.0, x.1 ∙ ap (filled_at N t (task ts p)) w.1)

    pub sound_same : (c : ℕ) → sound z (task ts p) c s ≡ (system N t ts).ok p c σ
    sound_same c = sound_view (task ts p) v c s ∙ ap (sound_at N t (task ts p) c) w.1

    pub ties_same : (c : ℕ) → column_ties z (task ts p) c s ≡ ties_at N t (task ts p) c σ
    ties_same c = ties_view (task ts p) v c s ∙ ap (ties_at N t (task ts p) c) w.1
