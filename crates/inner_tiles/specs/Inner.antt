-- K5: one column of T-3 and of T-4 with 000's inner block size b, on blocks of t rows, and the numbers that it computes. b divides t; the panel of
-- column c is the b columns of the tile among which c stands. Column c of T-3 works inside its panel alone; what is right of the panel waits for the
-- panel's last column, and so does all of T-4. With b = 1 these are document 01's columns (crates/inner_tiles/specs/Single).
-- Assumes nothing.
use Rattle.std.specs.Prelude.{ℕ, zero, suc, ◌+◌, ◌-◌, ◌*◌, ◌%◌, pred, Bool, true, false, cond, ◌&&◌, ◌||◌, List, [], ◌∷◌, ◌++◌, map, get_or, set, eqb, ltb, leb, Float}
use Rattle.model.specs.Lists.{run, below, joined}
use Rattle.model.specs.Num.{is_zero, update, update_computes, quotient}
use Rattle.model.specs.Tile.{at, block}
use Rattle.model.specs.Column.{couple_pivot, upper_exchanged, lower_exchanged, eliminated, Paired, column_open}

-- ---- panels

-- the first column of c's panel
unfoldable pub panel_start : ℕ → ℕ → ℕ
panel_start b c = c - c % b

-- c is the last column of its panel
unfoldable pub panel_ends : ℕ → ℕ → Bool
panel_ends b c = eqb (suc c) (panel_start b c + b)

-- ---- the work of the panel that starts at column a, on the columns from f on of an upper and a lower block of width w (000's Figures 4 and 6)

-- rows exchanged by the entries of its first n columns, in order
unfoldable pub panel_exchanged : ℕ → ℕ → ℕ → List ℕ → ℕ → ℕ → Paired → Paired
panel_exchanged t w f p a zero s = s
panel_exchanged t w f p a (suc n) s =
    let s' = panel_exchanged t w f p a n s in
    record {
      upper = upper_exchanged t w f (a + n) (get_or p (a + n) 0) s'.upper s'.lower;
      lower = lower_exchanged t w f (a + n) (get_or p (a + n) 0) s'.upper s'.lower;
    }

-- The panel's upper rows, those before row z, updated by its first n of them: upper row r by row a + n with the multiplier in the slice sl, row r, place n
unfoldable pub panel_upper : ℕ → ℕ → ℕ → ℕ → List Float → ℕ → ℕ → ℕ → List Float → List Float
panel_upper t w f b sl z a zero u = u
panel_upper t w f b sl z a (suc n) u =
    let u' = panel_upper t w f b sl z a n u in
    block t w (λ r q. cond (leb f q && (ltb (a + n) r && ltb r z)) (update (at w u' r q) (at b sl r n) (at w u' (a + n) q)) (at w u' r q))

-- all lower rows, updated by the first n of the panel's upper rows u: lower row r by row a + n with the multiplier in the tile l, row r, column a + n
unfoldable pub panel_lower : ℕ → ℕ → ℕ → List Float → List Float → ℕ → ℕ → List Float → List Float
panel_lower t w f l u a zero d = d
panel_lower t w f l u a (suc n) d =
    let d' = panel_lower t w f l u a n d in
    block t w (λ r q. cond (leb f q) (update (at w d' r q) (at t l r (a + n)) (at w u (a + n) q)) (at w d' r q))

-- the exchanges, then the upper rows, then the lower ones: each element meets its multipliers one by one, in rising column order
unfoldable pub panel_paired : ℕ → ℕ → ℕ → ℕ → List Float → List Float → List ℕ → ℕ → Paired → Paired
panel_paired t w f b l sl p a s =
    let s' = panel_exchanged t w f p a b s in
    let u = panel_upper t w f b sl (a + b) a b s'.upper in
    record { upper = u; lower = panel_lower t w f l u a b s'.lower }

-- ---- the numbers that this computes

-- columns f to w - 1
unfoldable pub columns_from : ℕ → ℕ → List ℕ
columns_from w f = run f (w - f)

unfoldable pub upper_computes : ℕ → ℕ → ℕ → ℕ → List Float → ℕ → ℕ → ℕ → List Float → List Float
upper_computes t w f b sl z a zero u = []
upper_computes t w f b sl z a (suc n) u =
    let u' = panel_upper t w f b sl z a n u in
    upper_computes t w f b sl z a n u
    ++ joined (map (λ r. joined (map (λ q. update_computes (at w u' r q) (at b sl r n) (at w u' (a + n) q)) (columns_from w f))) (run (suc (a + n)) (z - suc (a + n))))

unfoldable pub lower_computes : ℕ → ℕ → ℕ → List Float → List Float → ℕ → ℕ → List Float → List Float
lower_computes t w f l u a zero d = []
lower_computes t w f l u a (suc n) d =
    let d' = panel_lower t w f l u a n d in
    lower_computes t w f l u a n d
    ++ joined (map (λ r. joined (map (λ q. update_computes (at w d' r q) (at t l r (a + n)) (at w u (a + n) q)) (columns_from w f))) (below t))

unfoldable pub panel_computes : ℕ → ℕ → ℕ → ℕ → List Float → List Float → List ℕ → ℕ → Paired → List Float
panel_computes t w f b l sl p a s =
    let s' = panel_exchanged t w f p a b s in
    let u = panel_upper t w f b sl (a + b) a b s'.upper in
    upper_computes t w f b sl (a + b) a b s'.upper ++ lower_computes t w f l u a b s'.lower

-- ---- T-4 pairs two blocks, by T-3's lower tile l, multipliers sl of the upper rows and list p: a panel's last column does all of its work

unfoldable pub inner_pair_column : ℕ → ℕ → ℕ → ℕ → List Float → List Float → List ℕ → Paired → Paired
inner_pair_column t w b c l sl p s = cond (panel_ends b c) (panel_paired t w 0 b l sl p (panel_start b c) s) s

unfoldable pub inner_pair_computes : ℕ → ℕ → ℕ → ℕ → List Float → List Float → List ℕ → Paired → List Float
inner_pair_computes t w b c l sl p s = cond (panel_ends b c) (panel_computes t w 0 b l sl p (panel_start b c) s) []

-- ---- T-3 couples: the upper tile, the lower tile, the multipliers of the upper rows, and the lower tile's list

pub record Inner : Type 0 where
  pub upper : List Float
  pub lower : List Float
  -- upper row r's multiplier for column p of its panel stands at r·b + p
  pub slice : List Float
  pub rows : List ℕ

-- Column c inside its panel, which is the columns from a on, before z. The pivot's rows are exchanged there: their columns c to z - 1, and left of c
-- their multipliers, those of upper row c standing in the slice. Then the lower column is divided, and what is right of it in the panel is updated
unfoldable pub couple_within : ℕ → ℕ → ℕ → ℕ → ℕ → Inner → Inner
couple_within t b a z c s =
    let found = couple_pivot t c s.upper s.lower in
    let e = found.place in
    let u = upper_exchanged t t c c e s.upper s.lower in
    let d = lower_exchanged t t c c e s.upper s.lower in
    elim (is_zero found.magnitude) [
      | true ↦ record { upper = s.upper; lower = s.lower; slice = s.slice; rows = set s.rows c 0 }
      | false ↦ record {
        upper = block t t (λ r q. cond (ltb q z) (at t u r q) (at t s.upper r q));
        lower = block t t (λ r q. cond (ltb q a || leb z q) (at t s.lower r q) (cond (ltb q c) (cond (eqb (suc r) e) (at b s.slice c (q - a)) (at t s.lower r q)) (eliminated c (at t u c) (at t d r) q)));
        slice = block t b (λ r p. cond (ltb 0 e && eqb r c && ltb p (c - a)) (at t s.lower (pred e) (a + p)) (at b s.slice r p));
        rows = set s.rows c e;
      }
    ]

-- the quotients of column c, and what the updates of columns c + 1 to z - 1 compute
unfoldable pub within_computes : ℕ → ℕ → ℕ → Inner → List Float
within_computes t z c s =
    let found = couple_pivot t c s.upper s.lower in
    let u = upper_exchanged t t c c found.place s.upper s.lower in
    let d = lower_exchanged t t c c found.place s.upper s.lower in
    elim (is_zero found.magnitude) [
      | true ↦ []
      | false ↦ joined (map (λ r. let m = quotient (at t d r c) (at t u c c) in m ∷ joined (map (λ q. update_computes (at t d r q) m (at t u c q)) (run (suc c) (z - suc c)))) (below t))
    ]

-- right of the panel that starts at column a
unfoldable pub couple_right : ℕ → ℕ → ℕ → Inner → Inner
couple_right t b a s =
    let s' = panel_paired t t (a + b) b s.lower s.slice s.rows a (record { upper = s.upper; lower = s.lower }) in
    record { upper = s'.upper; lower = s'.lower; slice = s.slice; rows = s.rows }

unfoldable pub right_computes : ℕ → ℕ → ℕ → Inner → List Float
right_computes t b a s = panel_computes t t (a + b) b s.lower s.slice s.rows a (record { upper = s.upper; lower = s.lower })

-- the panel's last column does the work right of the panel too, also where its own pivot is zero
unfoldable pub inner_couple_column : ℕ → ℕ → ℕ → Inner → Inner
inner_couple_column t b c s =
    let s' = couple_within t b (panel_start b c) (panel_start b c + b) c s in
    cond (panel_ends b c) (couple_right t b (panel_start b c) s') s'

unfoldable pub inner_couple_computes : ℕ → ℕ → ℕ → Inner → List Float
inner_couple_computes t b c s =
    let s' = couple_within t b (panel_start b c) (panel_start b c + b) c s in
    within_computes t (panel_start b c + b) c s ++ cond (panel_ends b c) (right_computes t b (panel_start b c) s') []

unfoldable pub inner_open : Unit {0}
unfolding panel_start panel_ends panel_exchanged panel_upper panel_lower panel_paired columns_from upper_computes lower_computes panel_computes inner_pair_column inner_pair_computes couple_within within_computes couple_right right_computes inner_couple_column inner_couple_computes column_open
inner_open = tt
