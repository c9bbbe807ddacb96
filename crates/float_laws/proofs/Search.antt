-- The pivot search keeps the best of the candidates, with its ties: of those so far after each one, and there is only one best. Where it is a zero, it
-- is the first candidate; otherwise all candidates divided by it are finite, of magnitude at most 1. Assumes nothing.
use mathlib.Core.Path.{◌≡◌, refl, sym, ap, ◌∙◌, subst}
use mathlib.Core.Logic.{◌⊎◌, inl, inr}
use Prim.Native.Nat.{ℕ, zero, suc, ◌+◌, ◌*◌, ◌≤◌, ◌<◌}
use native.Mathlib.Nat.{eq-or-lt_of_le, le_of_suc-le-suc, le_antisymm, zero-lt-suc, zero-mul, not-suc-le-zero}
use native.Mathlib.Omega.{arith}
use mathlib.Core.Bool.{Bool, true, false, cond, not, ◌&&◌}
use mathlib.Core.List.{List, [], ◌∷◌, ◌++◌, append-nil, append_assoc}
use lib.ListN.{length, get_or, take, length-append, get_or-append}
use lib.Seq.{take-suc, length-take-le}
use lib.IntN.{ℤ}
use lib.Dec.{T, eqb}
use lib.Ieee.{Float, nan, inf, fin, binary64, up, down, lt, eq, fits}
use borrow.Author.Tests.{eq-eqb, ne_eqb}
use Rattle.model.specs.Lists.{below, run, every, keep}
use Rattle.model.specs.Num.{finite, plus_zero, is_zero, magnitude, exceeds, same_magnitude, quotient}
use Rattle.model.specs.Tile.{all_finite}
use Rattle.model.specs.declared.Pivot.{Pivot}
use Rattle.model.specs.Column.{candidate, tied, better, search_from, search}
use Rattle.model.specs.Best.{others, Best, Searched}
use Rattle.laws.proofs.Every.{every_at, every_take, every_append}
use Rattle.laws.proofs.Counts.{count_last, count_same, count_none, count_most}
use Rattle.laws.proofs.Finite.{finite_get}
use Rattle.laws.proofs.Tests.{never, and_left, lt_or_le}
use Rattle.float_laws.proofs.Finite.{zero_exponent, magnitude_twice, zero_magnitude, suc_is_not_zero}
use Rattle.float_laws.proofs.Order.{true_exceeds, exceeds_false, exceeds_irreflexive, largest_replaced, largest_is_first}
use Rattle.float_laws.proofs.Rounding.{within}
use Rattle.float_laws.proofs.Quotient.{quotient_at_most_one}

-- ---- a magnitude in the place of the number

pub exceeds_magnitude : (x y : Float) → exceeds x (magnitude y) ≡ exceeds x y
unfolding exceeds
exceeds_magnitude x y = ap (λ (a : Float). lt a (magnitude x)) (magnitude_twice y)

pub magnitude_exceeds : (x y : Float) → exceeds (magnitude x) y ≡ exceeds x y
unfolding exceeds
magnitude_exceeds x y = ap (lt (magnitude y)) (magnitude_twice x)

-- ---- the same magnitude

same_magnitude_lem : (x y : Float) → same_magnitude x (magnitude y) ≡ same_magnitude x y
unfolding same_magnitude
same_magnitude_lem x y = ap (eq (magnitude x)) (magnitude_twice y)

-- a larger number has another one
other_magnitude : (x y : Float) → finite x ≡ true → exceeds y x ≡ true → same_magnitude x y ≡ false
unfolding finite exceeds same_magnitude magnitude eq lt
other_magnitude nan y f h = never f refl
other_magnitude (inf s) y f h = never f refl
other_magnitude (fin s m e) nan f h = refl
other_magnitude (fin s m e) (inf t) f h = refl
other_magnitude (fin s m e) (fin t n d) f h = apart (true_exceeds t s n m d e h)
  where
    apart : m * up e * down d < n * up d * down e → (eqb (m * up e * down d) (n * up d * down e) && true) ≡ false
    apart l = ap (λ (b : Bool). b && true) (ne_eqb (m * up e * down d) (n * up d * down e) (λ q. omega (arith, q, l)))

-- ---- one candidate more

up_to {ℓ} : {A : Type ℓ} (i n : ℕ) → i < suc n → (i ≡ n → A) → (i < n → A) → A
up_to i n h f g = elim (eq-or-lt_of_le (le_of_suc-le-suc h)) [ inl e ↦ f e | inr l ↦ g l ]

-- no other candidate, so no tie
no_others : (z : Bool) (k : ℕ) → k ≡ 0 → 0 ≡ cond z 0 k
no_others true k e = refl
no_others false k e = sym e

-- x stands behind the candidates xs
module _ (xs : List Float) (x : Float) where
  last : get_or (xs ++ x ∷ []) (length xs) nan ≡ x
  last = go xs
    where
      go : (ys : List Float) → get_or (ys ++ x ∷ []) (length ys) nan ≡ x
      go [] = refl
      go (y ∷ ys) = go ys

  one_more : length (xs ++ x ∷ []) ≡ suc (length xs)
  one_more = length-append xs (x ∷ []) ∙ (omega arith)

  old : (n : ℕ) → n < length xs → get_or (xs ++ x ∷ []) n nan ≡ get_or xs n nan
  old n h = get_or-append xs (x ∷ []) nan n h

  -- the last may be a tie as well
  tie_last : (place : ℕ) (v : Float) → length (others place v (xs ++ x ∷ [])) ≡ length (others place v xs) + cond (not (eqb (length xs) place) && same_magnitude x v) 1 0
  unfolding others
  tie_last place v =
      let f : ℕ → Bool = λ n. not (eqb n place) && same_magnitude (get_or (xs ++ x ∷ []) n nan) v in
      ap (λ (k : ℕ). length (keep f (below k))) one_more ∙ count_last f (length xs)
      ∙ (λ i. count_same f (λ n. not (eqb n place) && same_magnitude (get_or xs n nan) v) (length xs) (λ n l. ap (λ (y : Float). not (eqb n place) && same_magnitude y v) (old n l)) i
      + cond (not (eqb (length xs) place) && same_magnitude (last i) v) 1 0)

  module _ (p : Pivot) (b : Best xs p) where
    -- the ties of p, once x stands behind the candidates
    tie_more : (tied p x).ties ≡ cond (is_zero p.magnitude) 0 (length (others p.place p.magnitude (xs ++ x ∷ [])))
    unfolding tied
    tie_more = go p.ties (length (others p.place p.magnitude xs)) _ (is_zero p.magnitude) (same_magnitude x p.magnitude) b.ties (tie_last p.place p.magnitude ∙ ap (λ (a : Bool). length (others p.place p.magnitude xs) + cond (a && same_magnitude x p.magnitude) 1 0) elsewhere)
      where
        elsewhere : not (eqb (length xs) p.place) ≡ true
        elsewhere = ap not (ne_eqb (length xs) p.place (λ e. omega (arith, e, b.inside)))

        go : (k l m : ℕ) (z s : Bool) → k ≡ cond z 0 l → m ≡ l + cond s 1 0 → cond (s && not z) (suc k) k ≡ cond z 0 m
        go k l m true true e f = e
        go k l m true false e f = e
        go k l m false true e f = omega (arith, e, f)
        go k l m false false e f = omega (arith, e, f)

    kept : exceeds x p.magnitude ≡ false → Best (xs ++ x ∷ []) (tied p x)
    unfolding tied
    kept h = record {
      inside = omega (arith, b.inside, one_more);
      own = b.own ∙ ap magnitude (sym (old p.place b.inside));
      largest = λ n l.
          up_to n (length xs) (omega (arith, one_more, l))
          (λ e. ap (λ (y : Float). exceeds y p.magnitude) (ap (λ (i : ℕ). get_or (xs ++ x ∷ []) i nan) e ∙ last) ∙ h)
          (λ k. ap (λ (y : Float). exceeds y p.magnitude) (old n k) ∙ b.largest n k);
      first = λ n l. ap (exceeds p.magnitude) (old n (omega (arith, b.inside, l))) ∙ b.first n l;
      ties = tie_more;
    }

    -- x exceeds all of them
    all_exceeded : all_finite xs ≡ true → exceeds x p.magnitude ≡ true → (n : ℕ) → n < length xs → exceeds x (get_or xs n nan) ≡ true
    all_exceeded fine h n l = largest_is_first (get_or xs n nan) p.magnitude x (finite_get xs n fine l) h (b.largest n l)

    no_tie : all_finite xs ≡ true → exceeds x p.magnitude ≡ true → 0 ≡ cond (is_zero (magnitude x)) 0 (length (others (length xs) (magnitude x) (xs ++ x ∷ [])))
    unfolding others
    no_tie fine h =
        no_others (is_zero (magnitude x)) _
        (tie_last (length xs) (magnitude x)
        ∙ ap (λ (a : Bool). length (others (length xs) (magnitude x) xs) + cond (not a && same_magnitude x (magnitude x)) 1 0) (eq-eqb (length xs) (length xs) refl)
        ∙ omega (arith, count_none (λ n. not (eqb n (length xs)) && same_magnitude (get_or xs n nan) (magnitude x)) (length xs) (λ n l. and_not (not (eqb n (length xs))) _ (other n l))))
      where
        and_not : (c d : Bool) → d ≡ false → (c && d) ≡ false
        and_not true d e = e
        and_not false d e = refl

        other : (n : ℕ) → n < length xs → same_magnitude (get_or xs n nan) (magnitude x) ≡ false
        other n l = same_magnitude_lem (get_or xs n nan) x ∙ other_magnitude (get_or xs n nan) x (finite_get xs n fine l) (all_exceeded fine h n l)

    replaced : all_finite xs ≡ true → exceeds x p.magnitude ≡ true → Best (xs ++ x ∷ []) (candidate (length xs) x)
    replaced fine h = record {
      inside = omega (arith, one_more);
      own = ap magnitude (sym last);
      largest = λ n l.
          exceeds_magnitude (get_or (xs ++ x ∷ []) n nan) x
          ∙ up_to n (length xs) (omega (arith, one_more, l))
          (λ e. ap (λ (y : Float). exceeds y x) (ap (λ (i : ℕ). get_or (xs ++ x ∷ []) i nan) e ∙ last) ∙ exceeds_irreflexive x)
          (λ k. ap (λ (y : Float). exceeds y x) (old n k) ∙ largest_replaced (get_or xs n nan) p.magnitude x h (b.largest n k));
      first = λ n l.
          magnitude_exceeds x (get_or (xs ++ x ∷ []) n nan) ∙ ap (exceeds x) (old n l)
          ∙ all_exceeded fine h n l;
      ties = no_tie fine h;
    }

    pub best_next : all_finite xs ≡ true → Best (xs ++ x ∷ []) (better p (length xs) x)
    unfolding better
    best_next fine = go (exceeds x p.magnitude) refl
      where
        go : (c : Bool) → exceeds x p.magnitude ≡ c → Best (xs ++ x ∷ []) (cond c (candidate (length xs) x) (tied p x))
        go true e = replaced fine e
        go false e = kept e

-- ---- the whole search

pub best_one : (x : Float) → Best (x ∷ []) (candidate 0 x)
unfolding others below run keep
best_one x = record {
  inside = omega arith;
  own = refl;
  largest = λ n l. let e : 0 ≡ n = omega arith in subst (λ (i : ℕ). exceeds (get_or (x ∷ []) i nan) (magnitude x) ≡ false) e (exceeds_magnitude x x ∙ exceeds_irreflexive x);
  first = λ n l. absurd (not-suc-le-zero l);
  ties = no_others (is_zero (magnitude x)) 0 refl;
}

-- from the best of xs on through ys
best_on : (ys xs : List Float) (p : Pivot) → all_finite (xs ++ ys) ≡ true → Best xs p → Best (xs ++ ys) (search_from (length xs) p ys)
unfolding search_from all_finite
best_on [] xs p fine b = subst (λ (l : List Float). Best l p) (sym (append-nil xs)) b
best_on (y ∷ ys) xs p fine b =
    let e : (xs ++ y ∷ []) ++ ys ≡ xs ++ y ∷ ys = append_assoc xs (y ∷ []) ys in
    let before : every finite xs ≡ true = and_left (every finite xs) (every finite (y ∷ ys)) (sym (every_append finite xs (y ∷ ys)) ∙ fine) in
    rw (← e, ← one_more xs y) (best_on ys (xs ++ y ∷ []) (better p (length xs) y) (rw e fine) (best_next xs y p b before))

pub search_best : (xs : List Float) → 0 < length xs → all_finite xs ≡ true → Best xs (search xs)
unfolding search
search_best [] h fine = absurd (not-suc-le-zero h)
search_best (x ∷ xs) h fine = best_on xs (x ∷ []) (candidate 0 x) fine (best_one x)

-- one candidate more is compared with what was found before it
searched_on : (ys : List Float) (n : ℕ) (p : Pivot) (y : Float) → search_from n p (ys ++ y ∷ []) ≡ better (search_from n p ys) (n + length ys) y
unfolding search_from
searched_on [] n p y = ap (λ (i : ℕ). better p i y) (omega arith)
searched_on (x ∷ xs) n p y = let e : suc n + length xs ≡ n + suc (length xs) = omega arith in searched_on xs (suc n) (better p n x) y ∙ rw e

search_next : (xs : List Float) (y : Float) → 0 < length xs → search (xs ++ y ∷ []) ≡ better (search xs) (length xs) y
unfolding search
search_next [] y h = absurd (not-suc-le-zero h)
search_next (x ∷ xs) y h = let e : 1 + length xs ≡ suc (length xs) = omega arith in searched_on xs 1 (candidate 0 x) y ∙ rw e

-- ---- there is one best

-- the magnitude found, by the number that has it
found_exceeds : (xs : List Float) (p : Pivot) (y : Float) → Best xs p → exceeds p.magnitude y ≡ exceeds (get_or xs p.place nan) y
found_exceeds xs p y b = ap (λ (a : Float). exceeds a y) b.own ∙ magnitude_exceeds (get_or xs p.place nan) y

exceeds_found : (xs : List Float) (p : Pivot) (y : Float) → Best xs p → exceeds y p.magnitude ≡ exceeds y (get_or xs p.place nan)
exceeds_found xs p y b = ap (exceeds y) b.own ∙ exceeds_magnitude y (get_or xs p.place nan)

not_before : (xs : List Float) (p q : Pivot) → Best xs p → Best xs q → p.place < q.place → ⊥
not_before xs p q b d h =
    never (sym (found_exceeds xs q (get_or xs p.place nan) d) ∙ d.first p.place h)
    (sym (exceeds_found xs p (get_or xs q.place nan) b) ∙ b.largest q.place d.inside)

-- a pivot is its place, its magnitude and its ties
same : (p q : Pivot) → p.place ≡ q.place → p.magnitude ≡ q.magnitude → p.ties ≡ q.ties → p ≡ q
same p q e h t = λ i. record { place = e i; magnitude = h i; ties = t i }

pub best_unique : (xs : List Float) (p q : Pivot) → Best xs p → Best xs q → p ≡ q
best_unique xs p q b d = go (lt_or_le p.place q.place) (lt_or_le q.place p.place)
  where
    go : (p.place < q.place) ⊎ (q.place ≤ p.place) → (q.place < p.place) ⊎ (p.place ≤ q.place) → p ≡ q
    go (inl h) k = absurd (not_before xs p q b d h)
    go (inr h) (inl k) = absurd (not_before xs q p d b k)
    go (inr h) (inr k) =
        let e : p.place ≡ q.place = le_antisymm k h in
        let m : p.magnitude ≡ q.magnitude = b.own ∙ ap (λ (i : ℕ). magnitude (get_or xs i nan)) e ∙ sym d.own in
        same p q e m (b.ties ∙ (λ i. cond (is_zero (m i)) 0 (length (others (e i) (m i) xs))) ∙ sym d.ties)

-- ---- the ties are fewer than the candidates

pub ties_fewer : (xs : List Float) (p : Pivot) → Best xs p → p.ties ≤ length xs
unfolding others
ties_fewer xs p b = go (is_zero p.magnitude) b.ties
  where
    few : length (others p.place p.magnitude xs) ≤ length xs
    few = count_most (λ n. not (eqb n p.place) && same_magnitude (get_or xs n nan) p.magnitude) (length xs)

    go : (z : Bool) → p.ties ≡ cond z 0 (length (others p.place p.magnitude xs)) → p.ties ≤ length xs
    go true e = omega (arith, e)
    go false e = omega (arith, e, few)

-- ---- zeros

-- a zero exceeds nothing
zero_least : (x y : Float) → is_zero x ≡ true → exceeds x y ≡ false
unfolding is_zero eq exceeds magnitude lt
zero_least nan y h = never h refl
zero_least (inf s) y h = never h refl
zero_least (fin s m e) nan h = refl
zero_least (fin s m e) (inf t) h = refl
zero_least (fin s (suc m) e) (fin t n d) h = never h (suc_is_not_zero s m e)
zero_least (fin s zero e) (fin t n d) h = exceeds_false s t 0 n e d (nothing (0 * up e) (n * up d * down e) (down d) (zero-mul (up e)))
  where
    nothing : (a b c : ℕ) → a ≡ 0 → a * c ≤ b
    nothing a b c q = let e : a * c ≡ 0 = rw (q, zero-mul c) in omega (arith, e)

-- so a pivot of zero is the first candidate
pub zero_first : (xs : List Float) (p : Pivot) → Best xs p → is_zero p.magnitude ≡ true → p.place ≡ 0
zero_first xs p b z = go p.place refl
  where
    go : (n : ℕ) → p.place ≡ n → n ≡ 0
    go zero e = refl
    go (suc n) e = never (b.first 0 (rw e (zero-lt-suc n))) (zero_least p.magnitude (get_or xs 0 nan) z)

-- a zero of the format is +0 without its sign
zero_magnitude_is : (x : Float) → T (fits binary64 x) → is_zero x ≡ true → magnitude x ≡ plus_zero
unfolding is_zero eq magnitude
zero_magnitude_is nan f h = never h refl
zero_magnitude_is (inf s) f h = never h refl
zero_magnitude_is (fin s (suc m) e) f h = never h (suc_is_not_zero s m e)
zero_magnitude_is (fin s zero e) f h = ap (λ (d : ℤ). fin false 0 d) (zero_exponent binary64 s e f)

-- all candidates are zeros of the format
zeros_found : (xs : List Float) (p : Pivot) → Best xs p → ((n : ℕ) → n < length xs → T (fits binary64 (get_or xs n nan))) → every is_zero xs ≡ true
    → p ≡ record { place = 0; magnitude = plus_zero; ties = 0 }
zeros_found xs p b f z =
    let w = get_or xs p.place nan in
    let zero = every_at is_zero xs nan p.place z b.inside in
    let m : p.magnitude ≡ plus_zero = b.own ∙ zero_magnitude_is w (f p.place b.inside) zero in
    let none : is_zero p.magnitude ≡ true = ap is_zero b.own ∙ zero_magnitude w ∙ zero in
    same p _ (zero_first xs p b none) m (b.ties ∙ ap (λ (z : Bool). cond z 0 (length (others p.place p.magnitude xs))) none)

-- ---- K4 of the candidates xs, of which p is the best

pub searched : (xs : List Float) (p : Pivot) → Best xs p → all_finite xs ≡ true → ((n : ℕ) → n < length xs → T (fits binary64 (get_or xs n nan))) → Searched xs p
unfolding all_finite
searched xs p b fine f = record {
  found = best_unique xs p (search xs) b (search_best xs (omega (arith, b.inside)) fine);
  carried = λ n h.
      let long : length (take (suc n) xs) ≡ suc n = length-take-le (suc n) xs (omega (arith, h)) in
      ap search (take-suc xs (suc n) nan h) ∙ search_next (take (suc n) xs) (get_or xs (suc n) nan) (rw long (zero-lt-suc n)) ∙ ap (λ (i : ℕ). better (search (take (suc n) xs)) i (get_or xs (suc n) nan)) long;
  so_far = λ n h. search_best (take (suc n) xs) (rw (length-take-le (suc n) xs h) (zero-lt-suc n)) (every_take finite (suc n) xs fine);
  best = b;
  zeros = zeros_found xs p b f;
}

-- ---- a pivot that isn't a zero: the multipliers have magnitude at most 1, and so they are finite

pub multiplier_at_most_one : (xs : List Float) (p : Pivot) → Best xs p → all_finite xs ≡ true → is_zero p.magnitude ≡ false → (n : ℕ) → n < length xs
    → within (quotient (get_or xs n nan) (get_or xs p.place nan)) 1 1 ≡ true
multiplier_at_most_one xs p b fine z n h =
    quotient_at_most_one (get_or xs n nan) (get_or xs p.place nan) (finite_get xs n fine h) (finite_get xs p.place fine b.inside)
    (sym (zero_magnitude (get_or xs p.place nan)) ∙ ap is_zero (sym b.own) ∙ z) (sym (exceeds_found xs p (get_or xs n nan) b) ∙ b.largest n h)
