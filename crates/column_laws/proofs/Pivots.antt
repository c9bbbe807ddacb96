-- The pivot searches of T-1 and T-3: where the candidates stand in the flat matrix, what the search tells of a column, that the row told is
-- one, and that the quotients by the pivot are finite, of magnitude at most 1. Assumes nothing.
use mathlib.Core.Path.{◌≡◌, refl, sym, ◌∙◌, ap}
use mathlib.Core.Bool.{Bool, true, false, cond, ◌&&◌}
use mathlib.Core.List.{List, map}
use Prim.Native.Nat.{ℕ, zero, suc, pred, ◌+◌, ◌-◌, ◌*◌, ◌<◌, ◌≤◌}
use native.Mathlib.Nat.{zero-add, add-zero, le_of_suc-le-suc}
use native.Mathlib.Omega.{arith}
use lib.Dec.{eqb, ltb, leb}
use lib.ListN.{length, get_or, set}
use lib.Ieee.{Float, nan}
use borrow.Author.Tests.{ltb-true, ltb-false, eq-eqb, ne_eqb, le-leb}
use Rattle.model.specs.declared.Pivot.{Pivot}
use Rattle.model.specs.Lists.{run, below, table, part}
use Rattle.model.specs.Num.{finite, is_zero, quotient}
use Rattle.model.specs.Tile.{at, swapped, exchanged, all_finite}
use Rattle.model.specs.Column.{search, factor_candidates, factor_pivot, factor_column, couple_candidates, couple_pivot, couple_column, upper_exchanged, lower_exchanged}
use Rattle.model.specs.Best.{Best, Searched, Told, FactorTold, CoupleTold}
use Rattle.pivot_search.specs.Candidates.{candidates}
use Rattle.laws.proofs.Blocks.{at_block}
use Rattle.laws.proofs.Runs.{map_runs, length_map_run, get_or_map_run}
use Rattle.float_laws.proofs.Rounding.{within}
use Rattle.float_laws.proofs.Quotient.{within_finite}
use Rattle.float_laws.proofs.Search.{zero_first, multiplier_at_most_one}
use Rattle.column_laws.specs.Steps.{upper_at, lower_at, exchanged_at}
use Rattle.laws.proofs.Finite.{finite_at, finite_all}
use Rattle.laws.proofs.Parts.{length_part}
use Rattle.column_laws.proofs.Updates.{at_part}

-- ---- what a search tells, once its rows count from `from`

module _ (xs : List Float) (from c : ℕ) (listed : List ℕ → List ℕ) (p q : Pivot) (s : Searched xs p) (e : q ≡ record { place = from + p.place; magnitude = p.magnitude; ties = p.ties }) where
  told_from : ((rows : List ℕ) → listed rows ≡ set rows c (from + (search xs).place)) → Told xs from c listed q
  told_from h = record {
    told = e ∙ ap (λ (f : Pivot). record { place = from + f.place; magnitude = f.magnitude; ties = f.ties }) s.found;
    best = rw (← s.found) s.best;
    zeros = λ z. e ∙ rw (s.zeros z, add-zero from);
    recorded = λ rows. h rows ∙ ap (λ (f : Pivot). set rows c (from + f.place)) (sym s.found) ∙ ap (λ (f : Pivot). set rows c f.place) (sym e);
  }

-- a pivot of zero is told by the first row
pub told_zero : (xs : List Float) (from c : ℕ) (listed : List ℕ → List ℕ) (p : Pivot) → Told xs from c listed p → is_zero p.magnitude ≡ true → p.place ≡ from
told_zero xs from c listed p h z =
    let e = zero_first xs (search xs) h.best (ap (λ (q : Pivot). is_zero q.magnitude) (sym h.told) ∙ z) in
    ap (λ (q : Pivot). q.place) h.told ∙ rw (e, add-zero from)

-- ---- T-1

-- the entry of column c is the row found: where that is a zero's, it is row c
factor_recorded : (t c : ℕ) (a : List Float) → Best (factor_candidates t c a) (factor_pivot t c a) → (rows : List ℕ)
    → (factor_column t c (record { tile = a; rows = rows })).rows ≡ set rows c (c + (factor_pivot t c a).place)
unfolding factor_column
factor_recorded t c a b rows = go (is_zero (factor_pivot t c a).magnitude) refl
  where
    go : (z : Bool) → is_zero (factor_pivot t c a).magnitude ≡ z → (factor_column t c (record { tile = a; rows = rows })).rows ≡ set rows c (c + (factor_pivot t c a).place)
    go true e = rw (e, factor_column, zero_first (factor_candidates t c a) (factor_pivot t c a) b e, add-zero c)
    go false e = rw (e, factor_column)

pub factor_told : (t c : ℕ) (a : List Float) (p q : Pivot) → Searched (factor_candidates t c a) p → q ≡ record { place = c + p.place; magnitude = p.magnitude; ties = p.ties } → FactorTold t c a q
unfolding factor_pivot
factor_told t c a p q s e = told_from (factor_candidates t c a) c c _ p q s e (factor_recorded t c a (rw (← s.found) s.best))

module _ (t c a : ℕ) (hc : c < t) (m : List Float) (room : a + t * t ≤ length m) where
  -- the code's candidates are the definition's
  pub factor_candidates_lem : (first rest k : ℕ) → suc c + k ≡ t → first ≡ a + (c * t + c) → rest ≡ a + (suc c * t + c)
      → candidates m first rest t k ≡ factor_candidates t c (part a (t * t) m)
  unfolding factor_candidates candidates table below run
  factor_candidates_lem first rest k ends ef er =
      let n : t - c ≡ suc k = omega arith in
      let top : get_or m first nan ≡ at t (part a (t * t) m) c c = rw ef (sym (at_part t t a m c c room hc hc)) in
      let others : map (λ i. get_or m (rest + i * t) nan) (run 0 k) ≡ map (λ r. at t (part a (t * t) m) r c) (run (suc c) k) =
      map_runs (λ i. get_or m (rest + i * t) nan) (λ r. at t (part a (t * t) m) r c) 0 (suc c) k
      (λ i h.
      let e : rest + i * t ≡ a + ((suc c + i) * t + c) = omega arith in
      rw (zero-add i, e) (sym (at_part t t a m (suc c + i) c room (omega arith) hc))) in
      rw (n, top, others)

  pub factor_length : length (factor_candidates t c (part a (t * t) m)) ≡ t - c
  unfolding factor_candidates
  factor_length = length_map_run (λ r. at t (part a (t * t) m) r c) c (t - c)

  candidate : (i : ℕ) → i < t - c → get_or (factor_candidates t c (part a (t * t) m)) i nan ≡ at t (part a (t * t) m) (c + i) c
  unfolding factor_candidates
  candidate i h = get_or_map_run (λ r. at t (part a (t * t) m) r c) c (t - c) i nan h

  module _ (f : all_finite (part a (t * t) m) ≡ true) where
    pub factor_finite : all_finite (factor_candidates t c (part a (t * t) m)) ≡ true
    factor_finite =
        finite_all (factor_candidates t c (part a (t * t) m))
        (λ i h.
        let l : i < t - c = rw (← factor_length) h in
        rw (candidate i l) (finite_at t t (part a (t * t) m) (c + i) c f (length_part a (t * t) m room) (omega (arith, l)) hc))

    -- row r of the tile with rows c and y exchanged, column c: a candidate
    moved_by : (y r : ℕ) → c ≤ y → y < t → c < r → r < t → (b : Bool) → eqb r y ≡ b → (c ≤ cond b c r) × (cond b c r < t)
    moved_by y r hy ht h l true e = (omega arith, hc)
    moved_by y r hy ht h l false e = (omega arith, l)

    -- by what the search told
    module _ (found : Pivot) (h : FactorTold t c (part a (t * t) m) found) where
      pub factor_row : found.place < t
      factor_row = let e = ap (λ (p : Pivot). p.place) h.told in omega (arith, e, h.best.inside, factor_length)

      -- a multiplier has magnitude at most 1
      pub factor_quotient : is_zero found.magnitude ≡ false → (r : ℕ) → c < r → r < t
          → within (quotient (at t (exchanged t t c found.place (part a (t * t) m)) r c) (at t (exchanged t t c found.place (part a (t * t) m)) c c)) 1 1 ≡ true
      unfolding exchanged swapped
      factor_quotient nz r k l =
          let tile = part a (t * t) m in
          let xs = factor_candidates t c tile in
          let y = found.place in
          let place = (search xs).place in
          let is : y ≡ c + place = ap (λ (p : Pivot). p.place) h.told in
          let inside : place < t - c = rw (← factor_length) h.best.inside in
          let s : ℕ = cond (eqb r y) c r in
          let w = moved_by y r (omega (arith, is)) factor_row k l (eqb r y) refl in
          let i : c + (s - c) ≡ s = omega (arith, w.0) in
          let j : s - c < t - c = omega (arith, w.0, w.1) in
          let q = multiplier_at_most_one xs (search xs) h.best factor_finite (rw (← (ap (λ (p : Pivot). p.magnitude) h.told)) nz) (s - c) (rw factor_length j) in
          let ne : eqb r c ≡ false = ne_eqb r c (λ x. omega arith) in
          let up : at t (exchanged t t c y tile) c c ≡ get_or xs place nan = at_block t t _ c c hc hc ∙ rw (eq-eqb c c refl, is) (sym (candidate place inside)) in
          let low : at t (exchanged t t c y tile) r c ≡ get_or xs (s - c) nan = at_block t t _ r c l hc ∙ rw ne (ap (λ (n : ℕ). at t tile n c) (sym i) ∙ sym (candidate (s - c) j)) in
          rw (up, low) q

      pub factor_fine : is_zero found.magnitude ≡ false → (r : ℕ) → c < r → r < t
          → finite (quotient (at t (exchanged_at t c found.place a m) r c) (at t (exchanged_at t c found.place a m) c c)) ≡ true
      unfolding exchanged_at
      factor_fine nz r k l = within_finite _ 1 1 (factor_quotient nz r k l)

-- ---- T-3

couple_recorded : (t c : ℕ) (u d : List Float) → Best (couple_candidates t c u d) (couple_pivot t c u d) → (rows : List ℕ)
    → (couple_column t c (record { upper = u; lower = d; rows = rows })).rows ≡ set rows c (0 + (couple_pivot t c u d).place)
unfolding couple_column
couple_recorded t c u d b rows = go (is_zero (couple_pivot t c u d).magnitude) refl
  where
    go : (z : Bool) → is_zero (couple_pivot t c u d).magnitude ≡ z → (couple_column t c (record { upper = u; lower = d; rows = rows })).rows ≡ set rows c (0 + (couple_pivot t c u d).place)
    go true e = rw (e, couple_column, zero_first (couple_candidates t c u d) (couple_pivot t c u d) b e)
    go false e = rw (e, couple_column, zero-add (couple_pivot t c u d).place)

pub couple_told : (t c : ℕ) (u d : List Float) (p : Pivot) → Searched (couple_candidates t c u d) p → CoupleTold t c u d p
unfolding couple_pivot
couple_told t c u d p s =
    told_from (couple_candidates t c u d) 0 c _ p p s (ap (λ (n : ℕ). record { place = n; magnitude = p.magnitude; ties = p.ties }) (sym (zero-add p.place))) (couple_recorded t c u d (rw (← s.found) s.best))

module _ (t c u d : ℕ) (hc : c < t) (m : List Float) (ru : u + t * t ≤ length m) (rd : d + t * t ≤ length m) where
  pub couple_candidates_lem : (first rest : ℕ) → first ≡ u + (c * t + c) → rest ≡ d + c → candidates m first rest t t ≡ couple_candidates t c (part u (t * t) m) (part d (t * t) m)
  unfolding couple_candidates candidates table below
  couple_candidates_lem first rest ef er =
      let top : get_or m first nan ≡ at t (part u (t * t) m) c c = rw ef (sym (at_part t t u m c c ru hc hc)) in
      let others : map (λ i. get_or m (rest + i * t) nan) (run 0 t) ≡ map (λ r. at t (part d (t * t) m) r c) (run 0 t) =
      map_runs (λ i. get_or m (rest + i * t) nan) (λ r. at t (part d (t * t) m) r c) 0 0 t
      (λ i h.
      let e : rest + i * t ≡ d + (i * t + c) = omega arith in
      rw (zero-add i, e) (sym (at_part t t d m i c rd h hc))) in
      rw (top, others)

  entrants : List Float
  entrants = couple_candidates t c (part u (t * t) m) (part d (t * t) m)

  entrant_lower : (r : ℕ) → r < t → get_or entrants (suc r) nan ≡ at t (part d (t * t) m) r c
  unfolding entrants couple_candidates below
  entrant_lower r h = get_or_map_run (λ r. at t (part d (t * t) m) r c) 0 t r nan h ∙ ap (λ (i : ℕ). at t (part d (t * t) m) i c) (zero-add r)

  long : length entrants ≡ suc t
  unfolding entrants couple_candidates below
  long = ap suc (length_map_run (λ r. at t (part d (t * t) m) r c) 0 t)

  module _ (fu : all_finite (part u (t * t) m) ≡ true) (fd : all_finite (part d (t * t) m) ≡ true) where
    entrant_finite : (i : ℕ) → i < suc t → finite (get_or entrants i nan) ≡ true
    entrant_finite zero h = unfold entrants couple_candidates in finite_at t t (part u (t * t) m) c c fu (length_part u (t * t) m ru) hc hc
    entrant_finite (suc r) h = ap finite (entrant_lower r (le_of_suc-le-suc h)) ∙ finite_at t t (part d (t * t) m) r c fd (length_part d (t * t) m rd) (le_of_suc-le-suc h) hc

    pub couple_finite : all_finite (couple_candidates t c (part u (t * t) m) (part d (t * t) m)) ≡ true
    unfolding entrants
    couple_finite = finite_all entrants (λ i h. entrant_finite i (rw (← long) h))

    -- after the exchange the pivot stands in the upper tile's diagonal
    upper_by : (e : ℕ) → e ≤ t → (b : Bool) → ltb 0 e ≡ b → cond (b && eqb c c && leb c c) (at t (part d (t * t) m) (pred e) c) (at t (part u (t * t) m) c c) ≡ get_or entrants e nan
    upper_by e h true p =
        let l = ltb-true 0 e p in
        let q : suc (pred e) ≡ e = omega arith in
        rw (eq-eqb c c refl, le-leb c c (omega arith)) (sym (entrant_lower (pred e) (omega arith)) ∙ ap (λ (i : ℕ). get_or entrants i nan) q)
    upper_by e h false p = let z : e ≡ 0 = (let l = ltb-false 0 e p in omega arith) in rw z (unfold entrants couple_candidates in refl)

    lower_by : (e r : ℕ) → r < t → (b : Bool) → eqb (suc r) e ≡ b → (i : ℕ) × (i < suc t) × (cond (b && leb c c) (at t (part u (t * t) m) c c) (at t (part d (t * t) m) r c) ≡ get_or entrants i nan)
    lower_by e r h true p = (0, omega arith, rw (le-leb c c (omega arith)) (unfold entrants couple_candidates in refl))
    lower_by e r h false p = (suc r, omega arith, sym (entrant_lower r h))

    -- by what the search told
    module _ (found : Pivot) (h : CoupleTold t c (part u (t * t) m) (part d (t * t) m) found) where
      entry_is : found.place ≡ (search entrants).place
      unfolding entrants
      entry_is = ap (λ (p : Pivot). p.place) h.told ∙ zero-add (search entrants).place

      pub couple_entry : found.place ≤ t
      unfolding entrants
      couple_entry = omega (arith, entry_is, h.best.inside, long)

      -- a multiplier has magnitude at most 1
      pub couple_quotient : is_zero found.magnitude ≡ false → (r : ℕ) → r < t
          → within (quotient (at t (lower_exchanged t t c c found.place (part u (t * t) m) (part d (t * t) m)) r c) (at t (upper_exchanged t t c c found.place (part u (t * t) m) (part d (t * t) m)) c c)) 1 1 ≡ true
      unfolding upper_exchanged lower_exchanged entrants
      couple_quotient nz r k =
          let e = found.place in
          let (i, l, low) = lower_by e r k (eqb (suc r) e) refl in
          let up = upper_by e couple_entry (ltb 0 e) refl ∙ ap (λ (n : ℕ). get_or entrants n nan) entry_is in
          let q = multiplier_at_most_one entrants (search entrants) h.best couple_finite (rw (← (ap (λ (p : Pivot). p.magnitude) h.told)) nz) i (rw long l) in
          rw (
            at_block t t (λ r q. cond (eqb (suc r) e && leb c q) (at t (part u (t * t) m) c q) (at t (part d (t * t) m) r q)) r c k hc,
            at_block t t (λ r q. cond (ltb 0 e && eqb r c && leb c q) (at t (part d (t * t) m) (pred e) q) (at t (part u (t * t) m) r q)) c c hc hc,
            low,
            up,
          )
          q

      pub couple_fine : is_zero found.magnitude ≡ false → (r : ℕ) → r < t
          → finite (quotient (at t (lower_at t t c c found.place u d m) r c) (at t (upper_at t t c c found.place u d m) c c)) ≡ true
      unfolding upper_at lower_at
      couple_fine nz r k = within_finite _ 1 1 (couple_quotient nz r k)
