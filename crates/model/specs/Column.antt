-- One column of each of the four steps, on blocks of t rows, and the numbers that it computes. In the order of document 01,
-- section "Columns". T-2 and T-4 work on tiles of width t and on a right side of width 1, so they take a width w.
-- The steps' verbs: T-1 factors a tile, T-2 applies it to a block, T-3 couples two tiles, T-4 pairs two blocks.
-- Assumes nothing.
use Prim.Native.Nat.{ℕ, suc, ◌+◌, ◌-◌, pred, compare, Ordering}
use Rattle.std.specs.Prelude.{true, false, cond, not, ◌&&◌, List, [], ◌∷◌, map, get_or, set, eqb, ltb, leb, Float}
use Rattle.model.specs.declared.Pivot.{Pivot}
use Rattle.model.specs.Lists.{below, run, joined, in_turn}
use Rattle.model.specs.Num.{plus_zero, is_zero, magnitude, exceeds, same_magnitude, update, update_computes, quotient}
use Rattle.model.specs.Tile.{at, block, exchanged, tile_open}

-- ---- the pivot search: the largest magnitude, the first candidate on a tie, and how many others tie with it (K7)

-- the candidate x at place n alone
abbrev pub candidate : ℕ → Float → Pivot
candidate n x = record { place = n; magnitude = magnitude x; ties = 0 }

-- the pivot p, behind which the candidate x stands: one tie more where x has its magnitude, but none where that is zero
unfoldable pub tied : Pivot → Float → Pivot
tied p x = record { place = p.place; magnitude = p.magnitude; ties = cond (same_magnitude x p.magnitude && not (is_zero p.magnitude)) (suc p.ties) p.ties }

-- the better of the pivot p and the candidate x at place n
unfoldable pub better : Pivot → ℕ → Float → Pivot
better p n x = cond (exceeds x p.magnitude) (candidate n x) (tied p x)

-- the best of p and the candidates from place n on
unfoldable pub search_from : ℕ → Pivot → List Float → Pivot
search_from n p [] = p
search_from n p (x ∷ xs) = search_from (suc n) (better p n x) xs

unfoldable pub search : List Float → Pivot
search [] = record { place = 0; magnitude = plus_zero; ties = 0 }
search (x ∷ xs) = search_from 1 (candidate 0 x) xs

-- ---- the rows of a column

-- rows c + 1 to t - 1: those below row c, and the columns right of column c
unfoldable pub beyond : ℕ → ℕ → List ℕ
beyond t c = run (suc c) (t - suc c)

-- x, y or z, for less, equal or greater
abbrev pub sides : Ordering → Float → Float → Float → Float
sides Ordering.lt x y z = x
sides Ordering.eq x y z = y
sides Ordering.gt x y z = z

-- Column q of the row x, once the pivot row u is eliminated from it: left of c it stays, in c it is the multiplier, right of c it is updated
unfoldable pub eliminated : ℕ → (ℕ → Float) → (ℕ → Float) → ℕ → Float
eliminated c u x q = let m = quotient (x c) (u c) in sides (compare q c) (x q) m (update (x q) m (u q))

-- the numbers that this computes: the quotient, and what the updates right of c compute
unfoldable pub elimination_computes : ℕ → ℕ → (ℕ → Float) → (ℕ → Float) → List Float
elimination_computes t c u x = let m = quotient (x c) (u c) in m ∷ joined (map (λ q. update_computes (x q) m (u q)) (beyond t c))

-- the numbers that the update of a row x of width w by the multiplier m and the row u computes
unfoldable pub row_computes : ℕ → Float → (ℕ → Float) → (ℕ → Float) → List Float
row_computes w m u x = joined (map (λ q. update_computes (x q) m (u q)) (below w))

-- ---- T-1 factors: a tile and its list

pub record Factored : Type 0 where
  pub tile : List Float
  pub rows : List ℕ

-- the candidates: column c, rows c to t - 1
unfoldable pub factor_candidates : ℕ → ℕ → List Float → List Float
factor_candidates t c a = map (λ r. at t a r c) (run c (t - c))

-- the pivot of column c of the tile a
unfoldable pub factor_pivot : ℕ → ℕ → List Float → Pivot
factor_pivot t c a = search (factor_candidates t c a)

-- the pivot's row exchanged with row c, whole
unfoldable pub factor_exchanged : ℕ → ℕ → List Float → List Float
factor_exchanged t c a = exchanged t t c (c + (factor_pivot t c a).place) a

unfoldable pub factor_column : ℕ → ℕ → Factored → Factored
factor_column t c s =
    let found = factor_pivot t c s.tile in
    let b = factor_exchanged t c s.tile in
    elim (is_zero found.magnitude) [
      | true ↦ record { tile = s.tile; rows = set s.rows c c }
      | false ↦ record {
        tile = block t t (λ r. cond (leb r c) (at t b r) (eliminated c (at t b c) (at t b r)));
        rows = set s.rows c (c + found.place);
      }
    ]

unfoldable pub factor_computes : ℕ → ℕ → Factored → List Float
factor_computes t c s =
    let b = factor_exchanged t c s.tile in
    elim (is_zero (factor_pivot t c s.tile).magnitude) [
      | true ↦ []
      | false ↦ joined (map (λ r. elimination_computes t c (at t b c) (at t b r)) (beyond t c))
    ]

-- ---- T-2 applies T-1's tile l and list p to a block

-- all exchanges of the list, in order
unfoldable pub permuted : ℕ → ℕ → List ℕ → List Float → List Float
permuted t w p a = in_turn (λ c. exchanged t w c (get_or p c 0)) (below t) a

-- the block when column c begins: before column 0 the exchanges are made
unfoldable pub apply_start : ℕ → ℕ → ℕ → List ℕ → List Float → List Float
apply_start t w c p a = cond (eqb c 0) (permuted t w p a) a

unfoldable pub apply_column : ℕ → ℕ → ℕ → List Float → List ℕ → List Float → List Float
apply_column t w c l p a =
    let b = apply_start t w c p a in
    block t w (λ r q. cond (leb r c) (at w b r q) (update (at w b r q) (at t l r c) (at w b c q)))

unfoldable pub apply_computes : ℕ → ℕ → ℕ → List Float → List ℕ → List Float → List Float
apply_computes t w c l p a =
    let b = apply_start t w c p a in
    joined (map (λ r. row_computes w (at t l r c) (at w b c) (at w b r)) (beyond t c))

-- ---- T-3 couples: the upper tile, the lower tile and the lower tile's list

pub record Coupled : Type 0 where
  pub upper : List Float
  pub lower : List Float
  pub rows : List ℕ

-- The candidates: element (c,c) of the upper tile, then column c of the lower one from its first row on. A place among them is a list entry: 0 for no exchange, r + 1 for lower row r
unfoldable pub couple_candidates : ℕ → ℕ → List Float → List Float → List Float
couple_candidates t c u d = at t u c c ∷ map (λ r. at t d r c) (below t)

unfoldable pub couple_pivot : ℕ → ℕ → List Float → List Float → Pivot
couple_pivot t c u d = search (couple_candidates t c u d)

-- Row c of the upper block and the lower row that entry e names, exchanged from column f on: what becomes of the upper block, and of the lower
unfoldable pub upper_exchanged : ℕ → ℕ → ℕ → ℕ → ℕ → List Float → List Float → List Float
upper_exchanged t w f c e u d = block t w (λ r q. cond (ltb 0 e && eqb r c && leb f q) (at w d (pred e) q) (at w u r q))

unfoldable pub lower_exchanged : ℕ → ℕ → ℕ → ℕ → ℕ → List Float → List Float → List Float
lower_exchanged t w f c e u d = block t w (λ r q. cond (eqb (suc r) e && leb f q) (at w u c q) (at w d r q))

-- only columns c to t - 1 are exchanged
unfoldable pub couple_column : ℕ → ℕ → Coupled → Coupled
couple_column t c s =
    let found = couple_pivot t c s.upper s.lower in
    let u = upper_exchanged t t c c found.place s.upper s.lower in
    let d = lower_exchanged t t c c found.place s.upper s.lower in
    elim (is_zero found.magnitude) [
      | true ↦ record { upper = s.upper; lower = s.lower; rows = set s.rows c 0 }
      | false ↦ record { upper = u; lower = block t t (λ r. eliminated c (at t u c) (at t d r)); rows = set s.rows c found.place }
    ]

unfoldable pub couple_computes : ℕ → ℕ → Coupled → List Float
couple_computes t c s =
    let found = couple_pivot t c s.upper s.lower in
    let u = upper_exchanged t t c c found.place s.upper s.lower in
    let d = lower_exchanged t t c c found.place s.upper s.lower in
    elim (is_zero found.magnitude) [
      | true ↦ []
      | false ↦ joined (map (λ r. elimination_computes t c (at t u c) (at t d r)) (below t))
    ]

-- ---- T-4 pairs an upper and a lower block, by T-3's lower tile l and list p

pub record Paired : Type 0 where
  pub upper : List Float
  pub lower : List Float

-- whole rows exchanged by entry c
unfoldable pub pair_exchanged : ℕ → ℕ → ℕ → List ℕ → Paired → Paired
pair_exchanged t w c p s = record {
  upper = upper_exchanged t w 0 c (get_or p c 0) s.upper s.lower;
  lower = lower_exchanged t w 0 c (get_or p c 0) s.upper s.lower;
}

unfoldable pub pair_column : ℕ → ℕ → ℕ → List Float → List ℕ → Paired → Paired
pair_column t w c l p s =
    let x = pair_exchanged t w c p s in
    record { upper = x.upper; lower = block t w (λ r q. update (at w x.lower r q) (at t l r c) (at w x.upper c q)) }

unfoldable pub pair_computes : ℕ → ℕ → ℕ → List Float → List ℕ → Paired → List Float
pair_computes t w c l p s =
    let x = pair_exchanged t w c p s in
    joined (map (λ r. row_computes w (at t l r c) (at w x.upper c) (at w x.lower r)) (below t))

unfoldable pub column_open : Unit {0}
unfolding tile_open tied better search_from search beyond eliminated elimination_computes row_computes factor_candidates factor_pivot factor_exchanged factor_column factor_computes permuted apply_start apply_column apply_computes couple_candidates couple_pivot upper_exchanged lower_exchanged couple_column couple_computes pair_exchanged pair_column pair_computes
column_open = tt
