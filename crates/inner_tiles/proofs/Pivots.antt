-- The pivot of a column of T-3: its place is a list entry, and where its magnitude is a zero so is every candidate, if those of the lower tile are finite.
-- Assumes nothing.
use Prim.Native.Nat.{ℕ, zero, suc, ◌+◌, ◌*◌, ◌≤◌, ◌<◌}
use mathlib.Core.Bool.{Bool, true, false, cond, ◌&&◌}
use mathlib.Core.List.{List, [], ◌∷◌, map}
use mathlib.Core.Path.{◌≡◌, refl, sym, ap, ◌∙◌}
use native.Mathlib.Nat.{zero-mul, mul-pos}
use native.Mathlib.Omega.{arith}
use lib.ListN.{length}
use lib.Ieee.{Float, nan, inf, fin, lt, eq, up, down}
use lib.Ieee.Fits.{up_pos, down_pos}
use Rattle.model.specs.declared.Pivot.{Pivot}
use Rattle.model.specs.Lists.{run, below, every}
use Rattle.model.specs.Num.{finite, is_zero, magnitude, exceeds}
use Rattle.model.specs.Tile.{at}
use Rattle.model.specs.Column.{candidate, tied, better, search_from, search, couple_candidates, couple_pivot}
use Rattle.laws.proofs.Tests.{never, and_left, and_right, and_intro, every_run_intro, every_run_elim}
use Rattle.laws.proofs.Runs.{length_map_below}
use Rattle.float_laws.proofs.Finite.{zero_is_zero, suc_is_not_zero, zero_magnitude}
use Rattle.float_laws.proofs.Order.{false_exceeds, exceeds_false}

-- ---- the place

better_place : (m n : ℕ) (p : Pivot) (x : Float) → p.place ≤ m → n ≤ m → (better p n x).place ≤ m
unfolding better tied
better_place m n p x h l = go (exceeds x p.magnitude)
  where
    go : (b : Bool) → (cond b (candidate n x) (tied p x)).place ≤ m
    go true = l
    go false = h

place_from : (n m : ℕ) (p : Pivot) (xs : List Float) → p.place ≤ m → n + length xs ≤ suc m → (search_from n p xs).place ≤ m
unfolding search_from
place_from n m p [] h l = h
place_from n m p (x ∷ xs) h l = place_from (suc n) m (better p n x) xs (better_place m n p x h (omega arith)) (omega arith)

pub couple_place : (t c : ℕ) (u d : List Float) → (couple_pivot t c u d).place ≤ t
unfolding couple_pivot couple_candidates search
couple_place t c u d = let l : length (map (λ r. at t d r c) (below t)) ≡ t = length_map_below _ t in place_from 1 t (candidate 0 (at t u c c)) (map (λ r. at t d r c) (below t)) (omega arith) (omega arith)

-- ---- zeros

-- a zero exceeds nothing
zero_exceeds : {A : Type 0} (x y : Float) → is_zero x ≡ true → exceeds x y ≡ true → A
unfolding is_zero eq exceeds magnitude lt
zero_exceeds nan y h g = never h refl
zero_exceeds (inf s) y h g = never h refl
zero_exceeds (fin s m e) nan h g = never g refl
zero_exceeds (fin s m e) (inf t) h g = never g refl
zero_exceeds (fin s (suc m) e) (fin t n d) h g = never h (suc_is_not_zero s m e)
zero_exceeds (fin s zero e) (fin t n d) h g = never g (exceeds_false s t 0 n e d (let z : 0 * up e * down d ≡ 0 = rw (zero-mul (up e)) (zero-mul (down d)) in omega (arith, z)))

-- a finite number that doesn't exceed a zero is one
zero_below : (x y : Float) → finite x ≡ true → is_zero y ≡ true → exceeds x y ≡ false → is_zero x ≡ true
unfolding finite is_zero eq
zero_below nan y f h g = never f refl
zero_below (inf s) y f h g = never f refl
zero_below (fin s m e) nan f h g = never h refl
zero_below (fin s m e) (inf t) f h g = never h refl
zero_below (fin s m e) (fin t (suc n) d) f h g = never h (suc_is_not_zero t n d)
zero_below (fin s zero e) (fin t zero d) f h g = zero_is_zero s e
zero_below (fin s (suc m) e) (fin t zero d) f h g =
    let l : suc m * up e * down d ≤ 0 * up d * down e = false_exceeds s t (suc m) 0 e d g in
    let z : 0 * up d * down e ≡ 0 = rw (zero-mul (up d)) (zero-mul (down e)) in
    let p : 0 < suc m * up e * down d = mul-pos (mul-pos (omega arith) (up_pos e)) (down_pos d) in
    absurd (omega (arith, l, z, p))

zeros_from : (n : ℕ) (p : Pivot) (xs : List Float) → every finite xs ≡ true → is_zero (search_from n p xs).magnitude ≡ true → (is_zero p.magnitude ≡ true) × (every is_zero xs ≡ true)
unfolding search_from every better tied
zeros_from n p [] f h = (h, refl)
zeros_from n p (x ∷ xs) f h =
    let on = zeros_from (suc n) (better p n x) xs (and_right (finite x) _ f) h in
    let this = go (exceeds x p.magnitude) refl on.0 in
    (this.0, and_intro (is_zero x) (every is_zero xs) this.1 on.1)
  where
    go : (b : Bool) → exceeds x p.magnitude ≡ b → is_zero (cond b (candidate n x) (tied p x)).magnitude ≡ true → (is_zero p.magnitude ≡ true) × (is_zero x ≡ true)
    go true e z = zero_exceeds x p.magnitude (sym (zero_magnitude x) ∙ z) e
    go false e z = (z, zero_below x p.magnitude (and_left (finite x) _ f) z e)

-- a search that finds a zero has met zeros only
search_zeros : (x : Float) (xs : List Float) → every finite xs ≡ true → is_zero (search (x ∷ xs)).magnitude ≡ true → every is_zero (x ∷ xs) ≡ true
unfolding search every
search_zeros x xs f h = let z = zeros_from 1 (candidate 0 x) xs f h in and_intro (is_zero x) (every is_zero xs) (sym (zero_magnitude x) ∙ z.0) z.1

-- ---- a column of candidates

every_map : (p : Float → Bool) (g : ℕ → Float) (xs : List ℕ) → every p (map g xs) ≡ every (λ x. p (g x)) xs
unfolding every
every_map p g [] = refl
every_map p g (x ∷ xs) = ap (λ (b : Bool). p (g x) && b) (every_map p g xs)

-- numbers g 0 to g (n - 1), before which x stands, all finite: where their search finds a zero they are zeros
pub zeros_below : (x : Float) (g : ℕ → Float) (a n : ℕ) → ((i : ℕ) → a ≤ i → i < a + n → finite (g i) ≡ true) → is_zero (search (x ∷ map g (run a n))).magnitude ≡ true
    → (is_zero x ≡ true) × ((i : ℕ) → a ≤ i → i < a + n → is_zero (g i) ≡ true)
unfolding every
zeros_below x g a n f h =
    let z = search_zeros x (map g (run a n)) (every_map finite g (run a n) ∙ every_run_intro (λ i. finite (g i)) a n f) h in
    (and_left (is_zero x) _ z, every_run_elim (λ i. is_zero (g i)) a n (sym (every_map is_zero g (run a n)) ∙ and_right (is_zero x) _ z))

pub couple_zeros : (t c : ℕ) (u d : List Float) → ((r : ℕ) → r < t → finite (at t d r c) ≡ true) → is_zero (couple_pivot t c u d).magnitude ≡ true → (r : ℕ) → r < t → is_zero (at t d r c) ≡ true
unfolding couple_pivot couple_candidates below
couple_zeros t c u d f h r l = (zeros_below (at t u c c) (λ r. at t d r c) 0 t (λ i a b. f i (omega arith)) h).1 r (omega arith) (omega arith)
