-- How a column ends: from what the inner steps promise to the definition of a column's end. Assumes nothing.
use mathlib.Core.Path.{◌≡◌, refl, sym, ◌∙◌, ap}
use mathlib.Core.Logic.{inr}
use mathlib.Core.Bool.{Bool, true, false}
use mathlib.Core.List.{List}
use Prim.Native.Nat.{ℕ, ◌+◌, ◌*◌, ◌<◌, ◌≤◌}
use native.Mathlib.Nat.{zero-add}
use native.Mathlib.Omega.{arith}
use lib.ListN.{length, get_or, set, replicate, length-replicate}
use lib.Ieee.{Float, nan}
use Rattle.model.specs.declared.ColumnEnd.{ColumnEnd}
use Rattle.model.specs.declared.ColumnEnd.TheVariants.{Failed}
use Rattle.model.specs.declared.Pivot.{Pivot}
use Rattle.model.specs.Lists.{every, part, with_part}
use Rattle.model.specs.Num.{finite, plus_zero, is_zero}
use Rattle.model.specs.Tile.{at, zeros, upper_filled}
use Rattle.model.specs.Column.{apply_start, factor_pivot, couple_pivot}
use Rattle.model.specs.Best.{FactorTold, CoupleTold}
use Rattle.model.specs.Task.{Task, t_1, t_2, t_3, t_4}
use Rattle.model.specs.Plan.{Plan, plan}
use Rattle.model.specs.Buffer.{Buffers, tile, put_tile, put_rows, tile_of, with_tile, with_rows, worked, column_ties, sound, fill_tile, fill_rows, fill_upper, filled, column_ends, Completed, ended_with}
use Rattle.laws.specs.Apart.{Apart}
use Rattle.laws.proofs.Parts.{Fits, length_put, part_put, part_other, put_put, length_part}
use Rattle.column_laws.specs.Steps.{tile_start, list_start, RowsApplied, applied_block, RowsPaired, upper_at, lower_at, with_two, TileFactored, factored, exchanged_at, TilesCoupled, eliminated_rows}
use Rattle.column_laws.proofs.Pivots.{told_zero}
use Rattle.column_laws.proofs.Two.{put_upper, put_lower}
use Rattle.column_laws.proofs.Pairs.{length_upper, length_paired, length_eliminated, length_factored, length_applied}
use Rattle.column_laws.proofs.Permutes.{length_start}
use Rattle.column_laws.proofs.Worked.{pair_worked, pair_computed, apply_worked, apply_computed, factor_worked, factor_skipped, factor_computed, factor_none, couple_worked, couple_skipped, couple_computed, couple_none}

-- ---- by whether every number computed is finite

module _ (z : Plan) (a : Task) (c : ℕ) (s w : Buffers) where
  ends_sound : (n : ℕ) (end : ColumnEnd) → n ≡ column_ties z a c s → w ≡ worked z a c s → sound z a c s ≡ true → Completed z.t c n end → ended_with end w ≡ column_ends z a c s
  unfolding column_ends
  ends_sound n end q p h e = rw (p, e.mark, e.ties, q, h, column_ends)

  ends_failed : w ≡ filled z a (worked z a c s) → sound z a c s ≡ false → ended_with Failed w ≡ column_ends z a c s
  unfolding column_ends
  ends_failed p h = rw (p, h, column_ends)

-- ---- what a failed task leaves, by where its tiles and lists start

module _ (N t : ℕ) (m : List Float) (l : List ℕ) where
  pub factor_filled : (k : ℕ) → filled (plan N t) (t_1 k) (record { matrix = m; lists = l })
      ≡ record { matrix = with_part (tile_start N t k k) (t * t) (zeros (t * t)) m; lists = with_part (list_start N t k k) t (replicate t 0) l }
  unfolding plan filled fill_tile fill_rows with_tile with_rows put_tile put_rows
  factor_filled k = refl

  pub apply_filled : (k j : ℕ) → filled (plan N t) (t_2 k j) (record { matrix = m; lists = l })
      ≡ record { matrix = with_part (tile_start N t k j) (t * t) (zeros (t * t)) m; lists = l }
  unfolding plan filled fill_tile with_tile put_tile
  apply_filled k j = refl

  pub couple_filled : (k i : ℕ) → filled (plan N t) (t_3 k i) (record { matrix = m; lists = l })
      ≡ record {
        matrix = with_part (tile_start N t k k) (t * t) (upper_filled t (part (tile_start N t k k) (t * t) (with_part (tile_start N t i k) (t * t) (zeros (t * t)) m)))
            (with_part (tile_start N t i k) (t * t) (zeros (t * t)) m);
        lists = with_part (list_start N t i k) t (replicate t 0) l;
      }
  unfolding plan filled fill_upper fill_tile fill_rows with_tile with_rows put_tile put_rows tile_of tile
  couple_filled k i = refl

  pub pair_filled : (k i j : ℕ) → filled (plan N t) (t_4 k i j) (record { matrix = m; lists = l })
      ≡ record { matrix = with_part (tile_start N t k j) (t * t) (zeros (t * t)) (with_part (tile_start N t i j) (t * t) (zeros (t * t)) m); lists = l }
  unfolding plan filled fill_tile with_tile put_tile
  pair_filled k i j = refl

pub length_zeros : (n : ℕ) → length (zeros n) ≡ n
unfolding zeros
length_zeros n = length-replicate n plus_zero

-- two blocks filled, whatever they held
filled_two : (n u d : ℕ) (m : List Float) (apart : Apart n u d) → u + n ≤ length m → d + n ≤ length m → (x y : List Float) → length x ≡ n → length y ≡ n
    → (after : List Float) → after ≡ with_two n u d x y m → with_part u n (zeros n) (with_part d n (zeros n) after) ≡ with_two n u d (zeros n) (zeros n) m
filled_two n u d m apart ru rd x y hx hy after e =
    rw (e, put_lower n u d m apart ru rd x y hx hy (zeros n) (length_zeros n), put_upper n u d m apart ru rd x (zeros n) hx (length_zeros n) (zeros n))

-- ---- T-4

module _ (N t k i j c e u d : ℕ) (hc : c < t) (m : List Float) (l : List ℕ) (lists : list_start N t i k + t ≤ length l)
    (he : e ≡ get_or l (list_start N t i k + c) 0) (hu : u ≡ tile_start N t k j) (hd : d ≡ tile_start N t i j)
    (f : ℕ) (hf : f ≡ tile_start N t i k) (after : List Float) (answer : Bool) (p : RowsPaired t t c e u d (λ r. at t (part f (t * t) m) r c) m after answer) where
  pair_sound : answer ≡ sound (plan N t) (t_4 k i j) c (record { matrix = m; lists = l })
  unfolding sound
  pair_sound = p.sound ∙ rw (hu, hd, hf) (ap (every finite) (sym (pair_computed N t c m l k i j hc lists e he)))

  pub pair_ends : (end : ColumnEnd) → answer ≡ true → Completed t c 0 end
      → ended_with end (record { matrix = after; lists = l }) ≡ column_ends (plan N t) (t_4 k i j) c (record { matrix = m; lists = l })
  unfolding plan column_ties
  pair_ends end h q =
      ends_sound (plan N t) (t_4 k i j) c (record { matrix = m; lists = l }) (record { matrix = after; lists = l }) 0 end refl
      (rw (p.whole h, hu, hd, hf) (sym (pair_worked N t c m l k i j hc lists e he)))
      (sym pair_sound ∙ h) q

  -- the worked column and the matrix where the code stopped differ only in the two tiles, which are filled
  pub pair_fails : (half last : List Float) → u + t * t ≤ length m → d + t * t ≤ length m → Apart (t * t) u d
      → answer ≡ false → half ≡ with_part d (t * t) (zeros (t * t)) after → last ≡ with_part u (t * t) (zeros (t * t)) half
      → ended_with Failed (record { matrix = last; lists = l }) ≡ column_ends (plan N t) (t_4 k i j) c (record { matrix = m; lists = l })
  pair_fails half last ru rd apart h q q' =
      let n = t * t in
      let long = length_upper t t 0 c e u d m in
      let stopped = filled_two n u d m apart ru rd (upper_at t t 0 c e u d m) (part d n after) long (length_part d n after (rw p.long rd)) after p.frame in
      let whole = filled_two n u d m apart ru rd (upper_at t t 0 c e u d m) _ long (length_paired t t c (λ r. at t (part (tile_start N t i k) (t * t) m) r c) (upper_at t t 0 c e u d m) (lower_at t t 0 c e u d m)) _ refl in
      ends_failed (plan N t) (t_4 k i j) c (record { matrix = m; lists = l }) (record { matrix = last; lists = l })
      (rw (pair_worked N t c m l k i j hc lists e he, pair_filled N t, ← hu, ← hd)
      (ap (λ (a : List Float). record { matrix = a; lists = l }) (q' ∙ ap (with_part u n (zeros n)) q ∙ stopped ∙ sym whole)))
      (sym pair_sound ∙ h)

-- ---- T-2

module _ (N t k j c a b : ℕ) (m : List Float) (l : List ℕ) (ha : a ≡ tile_start N t k j) (hb : b ≡ list_start N t k k) (room : a + t * t ≤ length m)
    (f : ℕ) (hf : f ≡ tile_start N t k k) (left : f + t * t ≤ a) (mid after : List Float) (answer : Bool)
    (x : mid ≡ with_part a (t * t) (apply_start t t c (part b t l) (part a (t * t) m)) m)
    (p : RowsApplied t t c a (λ r. at t (part f (t * t) mid) r c) mid after answer) where
  start_fits : Fits (t * t) a m (apply_start t t c (part b t l) (part a (t * t) m))
  start_fits = record { whole = length_start t t c (part b t l) (part a (t * t) m) (length_part a (t * t) m room); room = room }

  begun : part a (t * t) mid ≡ apply_start t t c (part b t l) (part a (t * t) m)
  begun = rw x (part_put (t * t) nan a m (apply_start t t c (part b t l) (part a (t * t) m)) start_fits)

  put_mid : (z : List Float) → with_part a (t * t) z mid ≡ with_part a (t * t) z m
  put_mid z = rw x (put_put (t * t) nan a m (apply_start t t c (part b t l) (part a (t * t) m)) start_fits z)

  -- the multipliers stand elsewhere
  kept : part f (t * t) mid ≡ part f (t * t) m
  kept = rw x (part_other (t * t) nan a f m (apply_start t t c (part b t l) (part a (t * t) m)) start_fits (omega arith) (inr left))

  apply_sound : answer ≡ sound (plan N t) (t_2 k j) c (record { matrix = m; lists = l })
  unfolding sound
  apply_sound = p.sound ∙ rw (kept, begun, hf, ha, hb) (ap (every finite) (sym (apply_computed N t c m l k j)))

  pub apply_ends : (end : ColumnEnd) → answer ≡ true → Completed t c 0 end
      → ended_with end (record { matrix = after; lists = l }) ≡ column_ends (plan N t) (t_2 k j) c (record { matrix = m; lists = l })
  unfolding plan column_ties
  apply_ends end h q =
      ends_sound (plan N t) (t_2 k j) c (record { matrix = m; lists = l }) (record { matrix = after; lists = l }) 0 end refl
      (ap (λ (y : List Float). record { matrix = y; lists = l }) (p.whole h ∙ put_mid (applied_block t t c (λ r. at t (part f (t * t) mid) r c) (part a (t * t) mid)))
      ∙ rw (kept, begun, hf, ha, hb) (sym (apply_worked N t c m l k j)))
      (sym apply_sound ∙ h) q

  pub apply_fails : (last : List Float) → length after ≡ length mid → answer ≡ false → last ≡ with_part a (t * t) (zeros (t * t)) after
      → ended_with Failed (record { matrix = last; lists = l }) ≡ column_ends (plan N t) (t_2 k j) c (record { matrix = m; lists = l })
  apply_fails last long h q =
      let n = t * t in
      let here : a + n ≤ length mid = rw (ap length x ∙ length_put n nan a m _ start_fits) room in
      let stopped : with_part a n (zeros n) after ≡ with_part a n (zeros n) m =
      ap (with_part a n (zeros n)) p.frame
      ∙ put_put n nan a mid (part a n after) (record { whole = length_part a n after (rw long here); room = here }) (zeros n) ∙ put_mid (zeros n) in
      let whole = put_put n nan a m (applied_block t t c (λ r. at t (part (tile_start N t k k) n m) r c) (apply_start t t c (part b t l) (part a n m)))
      (record { whole = length_applied t t c _ _; room = room }) (zeros n) in
      ends_failed (plan N t) (t_2 k j) c (record { matrix = m; lists = l }) (record { matrix = last; lists = l })
      (rw (apply_worked N t c m l k j, apply_filled N t, ← ha, ← hb) (ap (λ (y : List Float). record { matrix = y; lists = l }) (q ∙ stopped ∙ sym whole)))
      (sym apply_sound ∙ h)

-- ---- T-1: f is what the search told of the tile at a, and l' the lists with its row

module _ (N t k c a b : ℕ) (ha : a ≡ tile_start N t k k) (hb : b ≡ list_start N t k k) (hc : c < t) (m : List Float) (l l' : List ℕ) (lists : b + t ≤ length l)
    (f : Pivot) (told : FactorTold t c (part a (t * t) m) f) (hl : l' ≡ set l (b + c) f.place) where
  lists_here : list_start N t k k + t ≤ length l
  lists_here = rw (← hb) lists

  pivot_is : f ≡ record {
    place = c + (factor_pivot t c (part (tile_start N t k k) (t * t) m)).place;
    magnitude = (factor_pivot t c (part (tile_start N t k k) (t * t) m)).magnitude;
    ties = (factor_pivot t c (part (tile_start N t k k) (t * t) m)).ties;
  }
  unfolding factor_pivot
  pivot_is = told.told ∙ rw ha

  magnitude_is : f.magnitude ≡ (factor_pivot t c (part (tile_start N t k k) (t * t) m)).magnitude
  magnitude_is = ap (λ (p : Pivot). p.magnitude) pivot_is

  row_is : c + (factor_pivot t c (part (tile_start N t k k) (t * t) m)).place ≡ f.place
  row_is = ap (λ (p : Pivot). p.place) (sym pivot_is)

  ties_is : f.ties ≡ column_ties (plan N t) (t_1 k) c (record { matrix = m; lists = l })
  unfolding column_ties plan tile_of tile
  ties_is = ap (λ (p : Pivot). p.ties) pivot_is

  -- a pivot of zero stands in row c, and nothing is computed
  pub factor_skips : (end : ColumnEnd) → is_zero f.magnitude ≡ true → Completed t c f.ties end
      → ended_with end (record { matrix = m; lists = l' }) ≡ column_ends (plan N t) (t_1 k) c (record { matrix = m; lists = l })
  unfolding plan sound every
  factor_skips end z q =
      let zero = rw magnitude_is at z in
      let first : f.place ≡ c = told_zero _ c c _ f told z in
      ends_sound (plan N t) (t_1 k) c (record { matrix = m; lists = l }) (record { matrix = m; lists = l' }) f.ties end ties_is
      (rw (hl, first, hb) (sym (factor_skipped N t c m l k hc lists_here zero))) (ap (every finite) (factor_none N t c m l k zero)) q

  module _ (room : a + t * t ≤ length m) (nz : is_zero f.magnitude ≡ false)
      (after : List Float) (answer : Bool) (p : TileFactored t c f.place a m after answer) where
    some : is_zero (factor_pivot t c (part (tile_start N t k k) (t * t) m)).magnitude ≡ false
    some = rw magnitude_is at nz

    factor_sound : answer ≡ sound (plan N t) (t_1 k) c (record { matrix = m; lists = l })
    unfolding sound
    factor_sound = p.sound ∙ rw (factor_computed N t c m l k some, row_is, ← ha)

    worked_is : worked (plan N t) (t_1 k) c (record { matrix = m; lists = l }) ≡ record { matrix = with_part a (t * t) (factored t c (exchanged_at t c f.place a m)) m; lists = l' }
    worked_is = factor_worked N t c m l k hc lists_here some ∙ rw (row_is, ← ha, ← hb, ← hl)

    pub factor_ends : (end : ColumnEnd) → answer ≡ true → Completed t c f.ties end
        → ended_with end (record { matrix = after; lists = l' }) ≡ column_ends (plan N t) (t_1 k) c (record { matrix = m; lists = l })
    unfolding plan
    factor_ends end h q =
        ends_sound (plan N t) (t_1 k) c (record { matrix = m; lists = l }) (record { matrix = after; lists = l' }) f.ties end ties_is
        (ap (λ (x : List Float). record { matrix = x; lists = l' }) (p.whole h) ∙ sym worked_is) (sym factor_sound ∙ h) q

    pub factor_fails : (last : List Float) (l'' : List ℕ) → answer ≡ false → last ≡ with_part a (t * t) (zeros (t * t)) after → l'' ≡ with_part b t (replicate t 0) l'
        → ended_with Failed (record { matrix = last; lists = l'' }) ≡ column_ends (plan N t) (t_1 k) c (record { matrix = m; lists = l })
    factor_fails last l'' h q q' =
        let n = t * t in
        let stopped : with_part a n (zeros n) after ≡ with_part a n (zeros n) m =
        ap (with_part a n (zeros n)) p.frame ∙ put_put n nan a m (part a n after) (record { whole = length_part a n after (rw p.long room); room = room }) (zeros n) in
        let whole = put_put n nan a m (factored t c (exchanged_at t c f.place a m)) (record { whole = length_factored t c _; room = room }) (zeros n) in
        ends_failed (plan N t) (t_1 k) c (record { matrix = m; lists = l }) (record { matrix = last; lists = l'' })
        (rw (worked_is, factor_filled N t, ← ha, ← hb, ← q') (ap (λ (x : List Float). record { matrix = x; lists = l'' }) (q ∙ stopped ∙ sym whole)))
        (sym factor_sound ∙ h)

-- ---- T-3: f is what the search told of the tiles at u and d, and l' the lists with its entry

module _ (N t k i c u d b : ℕ) (hu : u ≡ tile_start N t k k) (hd : d ≡ tile_start N t i k) (hb : b ≡ list_start N t i k) (hc : c < t) (m : List Float) (l l' : List ℕ)
    (lists : b + t ≤ length l) (f : Pivot) (told : CoupleTold t c (part u (t * t) m) (part d (t * t) m) f) (hl : l' ≡ set l (b + c) f.place) where
  list_here : list_start N t i k + t ≤ length l
  list_here = rw (← hb) lists

  found_is : f ≡ couple_pivot t c (part (tile_start N t k k) (t * t) m) (part (tile_start N t i k) (t * t) m)
  unfolding couple_pivot
  found_is = told.told ∙ rw (hu, hd, zero-add (couple_pivot t c (part (tile_start N t k k) (t * t) m) (part (tile_start N t i k) (t * t) m)).place)

  ties_found : f.ties ≡ column_ties (plan N t) (t_3 k i) c (record { matrix = m; lists = l })
  unfolding column_ties plan tile_of tile
  ties_found = ap (λ (p : Pivot). p.ties) found_is

  pub couple_skips : (end : ColumnEnd) → is_zero f.magnitude ≡ true → Completed t c f.ties end
      → ended_with end (record { matrix = m; lists = l' }) ≡ column_ends (plan N t) (t_3 k i) c (record { matrix = m; lists = l })
  unfolding plan sound every
  couple_skips end z q =
      let zero = rw found_is at z in
      let first : f.place ≡ 0 = told_zero _ 0 c _ f told z in
      ends_sound (plan N t) (t_3 k i) c (record { matrix = m; lists = l }) (record { matrix = m; lists = l' }) f.ties end ties_found
      (rw (hl, first, hb) (sym (couple_skipped N t c m l k i hc list_here zero))) (ap (every finite) (couple_none N t c m l k i zero)) q

  module _ (ru : u + t * t ≤ length m) (rd : d + t * t ≤ length m) (apart : Apart (t * t) u d)
      (nz : is_zero f.magnitude ≡ false) (after : List Float) (answer : Bool) (p : TilesCoupled t c f.place u d m after answer) where
    found : is_zero (couple_pivot t c (part (tile_start N t k k) (t * t) m) (part (tile_start N t i k) (t * t) m)).magnitude ≡ false
    found = rw found_is at nz

    entry_is : f.place ≡ (couple_pivot t c (part (tile_start N t k k) (t * t) m) (part (tile_start N t i k) (t * t) m)).place
    entry_is = ap (λ (p : Pivot). p.place) found_is

    couple_sound : answer ≡ sound (plan N t) (t_3 k i) c (record { matrix = m; lists = l })
    unfolding sound
    couple_sound = p.sound ∙ rw (hu, hd) (ap (every finite) (sym (couple_computed N t c m l k i found f.place entry_is)))

    coupled_is : worked (plan N t) (t_3 k i) c (record { matrix = m; lists = l })
        ≡ record { matrix = with_two (t * t) u d (upper_at t t c c f.place u d m) (eliminated_rows t t c (at t (upper_at t t c c f.place u d m) c) (lower_at t t c c f.place u d m)) m; lists = l' }
    coupled_is = couple_worked N t c m l k i hc list_here found f.place entry_is ∙ rw (hl, hu, hd, hb)

    pub couple_ends : (end : ColumnEnd) → answer ≡ true → Completed t c f.ties end
        → ended_with end (record { matrix = after; lists = l' }) ≡ column_ends (plan N t) (t_3 k i) c (record { matrix = m; lists = l })
    unfolding plan
    couple_ends end h q =
        ends_sound (plan N t) (t_3 k i) c (record { matrix = m; lists = l }) (record { matrix = after; lists = l' }) f.ties end ties_found
        (ap (λ (x : List Float). record { matrix = x; lists = l' }) (p.whole h) ∙ sym coupled_is) (sym couple_sound ∙ h) q

    pub couple_fails : (half last : List Float) (l'' : List ℕ) → answer ≡ false → half ≡ with_part d (t * t) (zeros (t * t)) after
        → last ≡ with_part u (t * t) (upper_filled t (part u (t * t) half)) half → l'' ≡ with_part b t (replicate t 0) l'
        → ended_with Failed (record { matrix = last; lists = l'' }) ≡ column_ends (plan N t) (t_3 k i) c (record { matrix = m; lists = l })
    couple_fails half last l'' h q q' q'' =
        let n = t * t in
        let x = upper_at t t c c f.place u d m in
        let long = length_upper t t c c f.place u d m in
        let stopped = ap (with_part d n (zeros n)) p.frame ∙ put_lower n u d m apart ru rd x (part d n after) long (length_part d n after (rw p.long rd)) (zeros n) (length_zeros n) in
        let whole = put_lower n u d m apart ru rd x (eliminated_rows t t c (at t x c) (lower_at t t c c f.place u d m)) long (length_eliminated t t c _ _) (zeros n) (length_zeros n) in
        ends_failed (plan N t) (t_3 k i) c (record { matrix = m; lists = l }) (record { matrix = last; lists = l'' })
        (rw (coupled_is, couple_filled N t, ← hu, ← hd, ← hb, ← q'', whole)
        (ap (λ (y : List Float). record { matrix = y; lists = l'' }) (q' ∙ ap (λ (y : List Float). with_part u n (upper_filled t (part u n y)) y) (q ∙ stopped))))
        (sym couple_sound ∙ h)
