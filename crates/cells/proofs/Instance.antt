-- The nine laws of order_free, of the system of specs/Cells: a task changes only what it writes and depends only on what it touches.
-- Assumes nothing.
use Prim.Native.Nat.{ℕ, ◌+◌, ◌*◌, ◌≤◌, ◌<◌}
use mathlib.Core.Bool.{Bool, true, false, cond}
use mathlib.Core.Path.{◌≡◌, refl, ap, ◌∙◌, subst}
use mathlib.Core.List.{List, [], ◌∷◌}
use lib.Dec.{eqb}
use lib.Ieee.{Float}
use Rattle.model.specs.Lists.{some, every}
use Rattle.model.specs.Num.{finite}
use Rattle.model.specs.Column.{factor_pivot, couple_pivot, factor_column, factor_computes, apply_column, apply_computes, couple_column, couple_computes, pair_column, pair_computes}
use Rattle.model.specs.Task.{Task, t_1, t_2, t_3, t_4, Place, A, low, list, low_of, touches, writes, reads}
use Rattle.model.specs.Links.{task}
use Rattle.model.specs.Tile.{upper_filled}
use Rattle.order_free.specs.Below.{set}
use Rattle.order_free.specs.System.{Laws}
use Rattle.order_free.specs.Sums.{Local}
use Rattle.laws.proofs.Tests.{never, or_false}
use Rattle.laws.proofs.Each.{Each}
use Rattle.cells.specs.Cells.{Val, tile_at, low_at, list_at, cell_of, at_cell, put_tile, put_low, put_low_of, put_factored, put_coupled, put_paired, put_zeros, factor_in, couple_in, pair_in, worked_at, computed_at, ties_at, sound_at, filled_at, system, ties}
use Rattle.cells.proofs.Members.{Member, first, later}
use Rattle.cells.proofs.Valid.{Valid}
use Rattle.cells.proofs.Places.{touched_proper, proper_in, at_member, member_at, writes_touch}

module _ (N t : ℕ) where
  -- ---- frame

  skip : (f : ℕ → Val) (i j : ℕ) (v : Val) → eqb i j ≡ false → set f i v j ≡ f j
  unfolding set
  skip f i j v e = ap (λ (b : Bool). cond b v (f j)) e

  apart : (x : Place) (xs : List Place) (r : ℕ) → at_cell N (x ∷ xs) r ≡ false → eqb (cell_of N x) r ≡ false
  unfolding at_cell some
  apart x xs r e = (or_false (eqb (cell_of N x) r) (some (λ y. eqb (cell_of N y) r) xs) e).0

  rest : (x : Place) (xs : List Place) (r : ℕ) → at_cell N (x ∷ xs) r ≡ false → at_cell N xs r ≡ false
  unfolding at_cell some
  rest x xs r e = (or_false (eqb (cell_of N x) r) (some (λ y. eqb (cell_of N y) r) xs) e).1

  -- a cell that is not the strictly lower part's stays
  low_skip : (i j : ℕ) (a : List Float) (σ : ℕ → Val) (r : ℕ) → at_cell N (low_of i j) r ≡ false → put_low_of N t i j a σ r ≡ σ r
  unfolding low_of
  low_skip i j a σ r = go (eqb i j)
    where
      go : (b : Bool) → at_cell N (cond b (low i ∷ []) []) r ≡ false → cond b (put_low N t i a σ r) (σ r) ≡ σ r
      go true e = skip σ (low_at N i) r _ (apart _ _ _ e)
      go false e = refl

  worked_frame : (a : Task) (c : ℕ) (σ : ℕ → Val) (r : ℕ) → at_cell N (writes a) r ≡ false → worked_at N t a c σ r ≡ σ r
  unfolding worked_at writes
  worked_frame (t_1 k) c σ r e =
      skip _ (tile_at N k k) r _ (apart _ _ _ e) ∙ skip _ (low_at N k) r _ (apart _ _ _ (rest _ _ _ e))
      ∙ skip _ (list_at N k k) r _ (apart _ _ _ (rest _ _ _ (rest _ _ _ e)))
  worked_frame (t_2 k j) c σ r e = skip _ (tile_at N k j) r _ (apart _ _ _ e)
  worked_frame (t_3 k i) c σ r e =
      skip _ (tile_at N k k) r _ (apart _ _ _ e) ∙ skip _ (tile_at N i k) r _ (apart _ _ _ (rest _ _ _ e))
      ∙ skip _ (list_at N i k) r _ (apart _ _ _ (rest _ _ _ (rest _ _ _ e)))
  worked_frame (t_4 k i j) c σ r e =
      skip _ (tile_at N k j) r _ (apart _ _ _ e) ∙ skip _ (tile_at N i j) r _ (apart _ _ _ (rest _ _ _ e))
      ∙ low_skip i j _ σ r (rest _ _ _ (rest _ _ _ e))

  filled_frame : (a : Task) (σ : ℕ → Val) (r : ℕ) → at_cell N (writes a) r ≡ false → filled_at N t a σ r ≡ σ r
  unfolding filled_at writes
  filled_frame (t_1 k) σ r e =
      skip _ (tile_at N k k) r _ (apart _ _ _ e) ∙ skip _ (low_at N k) r _ (apart _ _ _ (rest _ _ _ e))
      ∙ skip _ (list_at N k k) r _ (apart _ _ _ (rest _ _ _ (rest _ _ _ e)))
  filled_frame (t_2 k j) σ r e = skip _ (tile_at N k j) r _ (apart _ _ _ e)
  filled_frame (t_3 k i) σ r e =
      skip _ (tile_at N k k) r _ (apart _ _ _ e) ∙ skip _ (tile_at N i k) r _ (apart _ _ _ (rest _ _ _ e))
      ∙ skip _ (list_at N i k) r _ (apart _ _ _ (rest _ _ _ (rest _ _ _ e)))
  filled_frame (t_4 k i j) σ r e =
      skip _ (tile_at N k j) r _ (apart _ _ _ e) ∙ skip _ (tile_at N i j) r _ (apart _ _ _ (rest _ _ _ e))
      ∙ low_skip i j _ σ r (rest _ _ _ (rest _ _ _ e))

  -- ---- locality: the cells that a task reads are the same, so all that it does with them is

  abbrev Agrees : Task → (ℕ → Val) → (ℕ → Val) → Type 0
  Agrees a σ τ = (r : ℕ) → at_cell N (touches a) r ≡ true → σ r ≡ τ r

  module _ (σ τ : ℕ → Val) where
    agree : (a : Task) → Agrees a σ τ → (x : Place) → Member x (touches a) → σ (cell_of N x) ≡ τ (cell_of N x)
    agree a h x m = h (cell_of N x) (member_at N (touches a) x m)

    same_factor : (k : ℕ) → Agrees (t_1 k) σ τ → factor_in N t k σ ≡ factor_in N t k τ
    unfolding touches reads
    same_factor k h =
        let a : σ (tile_at N k k) ≡ τ (tile_at N k k) = agree (t_1 k) h (A k k) first in
        let p : σ (list_at N k k) ≡ τ (list_at N k k) = agree (t_1 k) h (list k k) (later (later first)) in
        λ i. record { tile = (a i).floats; rows = (p i).bytes }

    same_apply : (k j : ℕ) → Agrees (t_2 k j) σ τ
        → (σ (low_at N k) ≡ τ (low_at N k)) × (σ (list_at N k k) ≡ τ (list_at N k k)) × (σ (tile_at N k j) ≡ τ (tile_at N k j))
    unfolding touches reads
    same_apply k j h = (agree (t_2 k j) h (low k) first, agree (t_2 k j) h (list k k) (later first), agree (t_2 k j) h (A k j) (later (later first)))

    same_couple : (k i : ℕ) → Agrees (t_3 k i) σ τ → couple_in N t k i σ ≡ couple_in N t k i τ
    unfolding touches reads
    same_couple k m h =
        let u : σ (tile_at N k k) ≡ τ (tile_at N k k) = agree (t_3 k m) h (A k k) first in
        let d : σ (tile_at N m k) ≡ τ (tile_at N m k) = agree (t_3 k m) h (A m k) (later first) in
        let p : σ (list_at N m k) ≡ τ (list_at N m k) = agree (t_3 k m) h (list m k) (later (later first)) in
        λ i. record { upper = (u i).floats; lower = (d i).floats; rows = (p i).bytes }

    same_pair : (k i j : ℕ) → Agrees (t_4 k i j) σ τ
        → (σ (tile_at N i k) ≡ τ (tile_at N i k)) × (σ (list_at N i k) ≡ τ (list_at N i k)) × (pair_in N t k i j σ ≡ pair_in N t k i j τ)
    unfolding touches reads
    same_pair k m j h =
        let u : σ (tile_at N k j) ≡ τ (tile_at N k j) = agree (t_4 k m j) h (A k j) (later (later first)) in
        let d : σ (tile_at N m j) ≡ τ (tile_at N m j) = agree (t_4 k m j) h (A m j) (later (later (later first))) in
        (agree (t_4 k m j) h (A m k) first, agree (t_4 k m j) h (list m k) (later first), λ i. record { upper = (u i).floats; lower = (d i).floats })

    worked_local : (a : Task) (c : ℕ) → Agrees a σ τ → (r : ℕ) → σ r ≡ τ r → worked_at N t a c σ r ≡ worked_at N t a c τ r
    unfolding worked_at set
    worked_local (t_1 k) c h r e = let x = same_factor k h in λ i. put_factored N t k (factor_column t c (x i)) (λ q. e i) r
    worked_local (t_2 k j) c h r e = let (l, p, x) = same_apply k j h in λ i. put_tile N t k j (apply_column t t c (l i).floats (p i).bytes (x i).floats)
        (λ q. e i) r
    worked_local (t_3 k m) c h r e = let x = same_couple k m h in λ i. put_coupled N t k m (couple_column t c (x i)) (λ q. e i) r
    worked_local (t_4 k m j) c h r e = let (l, p, x) = same_pair k m j h in λ i. put_paired N t k m j (pair_column t t c (l i).floats (p i).bytes (x i))
        (λ q. e i) r

    computed_local : (a : Task) (c : ℕ) → Agrees a σ τ → computed_at N t a c σ ≡ computed_at N t a c τ
    unfolding computed_at
    computed_local (t_1 k) c h = ap (factor_computes t c) (same_factor k h)
    computed_local (t_2 k j) c h = let (l, p, x) = same_apply k j h in λ i. apply_computes t t c (l i).floats (p i).bytes (x i).floats
    computed_local (t_3 k m) c h = ap (couple_computes t c) (same_couple k m h)
    computed_local (t_4 k m j) c h = let (l, p, x) = same_pair k m j h in λ i. pair_computes t t c (l i).floats (p i).bytes (x i)

    sound_local : (a : Task) (c : ℕ) → Agrees a σ τ → sound_at N t a c σ ≡ sound_at N t a c τ
    unfolding sound_at
    sound_local a c h = ap (every finite) (computed_local a c h)

    ties_local : (a : Task) (c : ℕ) → Agrees a σ τ → ties_at N t a c σ ≡ ties_at N t a c τ
    unfolding ties_at
    ties_local (t_1 k) c h = λ i. (factor_pivot t c (same_factor k h i).tile).ties
    ties_local (t_2 k j) c h = refl
    ties_local (t_3 k m) c h = λ i. (couple_pivot t c (same_couple k m h i).upper (same_couple k m h i).lower).ties
    ties_local (t_4 k m j) c h = refl

    -- a fill reads nothing, but for T-3's upper tile
    filled_local : (a : Task) → Agrees a σ τ → (r : ℕ) → σ r ≡ τ r → filled_at N t a σ r ≡ filled_at N t a τ r
    unfolding filled_at set
    filled_local (t_1 k) h r e = λ i. filled_at N t (t_1 k) (λ q. e i) r
    filled_local (t_2 k j) h r e = λ i. filled_at N t (t_2 k j) (λ q. e i) r
    filled_local (t_3 k m) h r e =
        let a : σ (tile_at N k k) ≡ τ (tile_at N k k) = unfold touches reads in (agree (t_3 k m) h (A k k) first) in
        λ i. put_tile N t k k (upper_filled t (put_zeros N t m k (λ q. a i) (tile_at N k k)).floats) (put_zeros N t m k (λ q. e i)) r
    filled_local (t_4 k m j) h r e = λ i. filled_at N t (t_4 k m j) (λ q. e i) r

  pub system_laws : (ts : List Task) → Each (Valid N) ts → 1 ≤ t → Laws (system N t ts)
  system_laws ts va ht = record {
    in_range = λ p r h e. let (x, m, q) = at_member N (touches (task ts p)) r e in subst (λ (y : ℕ). y < N * N + N + N * N) q
        (proper_in N x (touched_proper N ts va p h x m));
    writes_touches = λ p r h e. writes_touch N (task ts p) r e;
    has_column = λ p h. ht;
    omitted_touches = λ p r h e. never e refl;
    frame_col = λ p c σ r h l e. worked_frame (task ts p) c σ r e;
    frame_fill = λ p σ r h e. filled_frame (task ts p) σ r e;
    local_ok = λ p c σ τ h l a. sound_local σ τ (task ts p) c a;
    local_col = λ p c σ τ h l a r e. worked_local σ τ (task ts p) c a r (a r (writes_touch N (task ts p) r e));
    local_fill = λ p σ τ h a r e. filled_local σ τ (task ts p) a r (a r (writes_touch N (task ts p) r e));
  }

  pub ties_laws : (ts : List Task) → Local (system N t ts) (ties N t ts)
  ties_laws ts p c σ τ h l a = ties_local σ τ (task ts p) c a
