-- The line that starts at a place is told by no more bytes than the line due has. Assumes nothing.
use Prim.Native.Nat.{ℕ, zero, suc, ◌+◌, ◌-◌, ◌≤◌, ◌<◌}
use mathlib.Core.Path.{◌≡◌, refl, sym, ap, ◌∙◌}
use mathlib.Core.Logic.{◌⊎◌, inl, inr}
use mathlib.Core.Bool.{true, false, not, ◌&&◌, ◌||◌}
use mathlib.Core.List.{List, [], ◌∷◌, ◌++◌, reverse, reverse_aux, reverse_aux-eq, append-nil, append_assoc}
use native.Mathlib.Nat.{not-suc-le-zero}
use native.Mathlib.Omega.{arith}
use lib.Dec.{eqb, ltb}
use lib.ListN.{length, get_or, take, drop, take-append-drop, length-append}
use lib.Seq.{take-suc, take_at, length-take-le, get_or-take, take-take}
use borrow.Author.Tests.{eqb-true, not-false, ltb-true, ltb-false}
use Rattle.laws.proofs.Tests.{and_left, and_right, true_or_false, or_left, or_right}
use Rattle.laws.proofs.Texts.{digit_goes_on}
use Rattle.model.specs.Lists.{every}
use Rattle.model.specs.Read.{last_line, lines_from, is_digit, not_digits}

-- ---- a line of digits ends at its 0A

digits_line : (acc ds ys : List ℕ) → every is_digit ds ≡ true → lines_from acc (ds ++ 10 ∷ ys) ≡ reverse_aux acc (ds ++ 10 ∷ []) ∷ lines_from [] ys
unfolding lines_from every
digits_line acc [] ys e = refl
digits_line acc (d ∷ ds) ys e =
    rw (digit_goes_on d (and_left (is_digit d) (every is_digit ds) e), lines_from) (digits_line (d ∷ acc) ds ys (and_right (is_digit d) (every is_digit ds) e))

-- ---- the first line of a text that is not empty, and what comes after it

record Head (acc xs : List ℕ) : Type 0 where
  line : List ℕ
  others : List (List ℕ)
  rest : List ℕ
  lines : lines_from acc xs ≡ line ∷ others
  whole : reverse_aux acc xs ≡ line ++ rest

head : (acc xs : List ℕ) → 0 < length acc + length xs → Head acc xs
unfolding lines_from last_line
head [] [] h = absurd (omega arith)
head (x ∷ acc) [] h = record { line = reverse (x ∷ acc); others = []; rest = []; lines = refl; whole = sym (append-nil (reverse (x ∷ acc))) }
head acc (y ∷ ys) h = go (head (y ∷ acc) ys (omega arith)) (true_or_false (eqb y 10))
  where
    go : Head (y ∷ acc) ys → (eqb y 10 ≡ true) ⊎ (eqb y 10 ≡ false) → Head acc (y ∷ ys)
    go r (inl e) = record { line = reverse (y ∷ acc); others = lines_from [] ys; rest = ys; lines = rw (e, lines_from); whole = reverse_aux-eq (y ∷ acc) ys }
    go r (inr e) = record { line = r.line; others = r.others; rest = r.rest; lines = rw (e, lines_from) r.lines; whole = r.whole }

-- ---- by the length due

-- the first line of xs, where a line of L bytes is due
pub data First (L : ℕ) (xs : List ℕ) : Type 0 where
  none : xs ≡ [] → First L xs
  bad : (l : List ℕ) (ls : List (List ℕ)) → 0 < length xs → lines_from [] xs ≡ l ∷ ls → (not_digits l || not (eqb (length l) L)) ≡ true
      → (L ≤ length xs → not_digits (take L xs) ≡ true) → First L xs
  good : L ≤ length xs → not_digits (take L xs) ≡ false → lines_from [] xs ≡ take L xs ∷ lines_from [] (drop L xs) → First L xs

-- a line of L bytes that is digits and a 0A is a line of the text
pub whole_line : (L : ℕ) (xs : List ℕ) → 0 < L → L ≤ length xs → not_digits (take L xs) ≡ false → lines_from [] xs ≡ take L xs ∷ lines_from [] (drop L xs)
unfolding not_digits
whole_line zero xs p h e = absurd (not-suc-le-zero p)
whole_line (suc k) xs p h e =
    let l = take (suc k) xs in
    let size : length l ≡ suc k = length-take-le (suc k) xs h in
    let k_is : length l - 1 ≡ k = omega arith in
    let both = rw k_is at (not-false (every is_digit (take (length l - 1) l) && eqb (get_or l (length l - 1) 0) 10) e) in
    let front : take k l ≡ take k xs = take-take k (suc k) xs (omega arith) in
    let ds : every is_digit (take k xs) ≡ true = rw front at (and_left (every is_digit (take k l)) (eqb (get_or l k 0) 10) both) in
    let end : get_or xs k 0 ≡ 10 = sym (get_or-take (suc k) xs k 0 (omega arith)) ∙ eqb-true (get_or l k 0) 10 (and_right (every is_digit (take k l)) (eqb (get_or l k 0) 10) both) in
    let l-is : take (suc k) xs ≡ take k xs ++ 10 ∷ [] = take-suc xs k 0 h ∙ ap (λ (d : ℕ). take k xs ++ d ∷ []) end in
    let xs-is : xs ≡ take k xs ++ 10 ∷ drop (suc k) xs =
    sym (take-append-drop (suc k) xs) ∙ ap (λ (z : List ℕ). z ++ drop (suc k) xs) l-is ∙ append_assoc (take k xs) (10 ∷ []) (drop (suc k) xs) in
    ap (lines_from []) xs-is ∙ digits_line [] (take k xs) (drop (suc k) xs) ds ∙ ap (λ (z : List ℕ). z ∷ lines_from [] (drop (suc k) xs)) (sym l-is)

-- any other first line is not digits ended by 0A, or has another length
other_line : (L : ℕ) (xs : List ℕ) → 0 < length xs → (L ≤ length xs → not_digits (take L xs) ≡ true) → First L xs
other_line L xs h n = bad r.line r.others h r.lines (go (true_or_false (eqb (length r.line) L))) n
  where
    r : Head [] xs
    r = head [] xs (omega arith)

    go : (eqb (length r.line) L ≡ true) ⊎ (eqb (length r.line) L ≡ false) → (not_digits r.line || not (eqb (length r.line) L)) ≡ true
    go (inl e) =
        let size : length r.line ≡ L = eqb-true (length r.line) L e in
        let whole : xs ≡ r.line ++ r.rest = r.whole in
        let is : take L xs ≡ r.line = ap (take L) whole ∙ take_at r.line r.rest L size in
        let fits : L ≤ length xs = omega (arith, ap length whole, length-append r.line r.rest) in
        or_left (not_digits r.line) (not (eqb (length r.line) L)) (rw is at (n fits))
    go (inr e) = or_right (not_digits r.line) (not (eqb (length r.line) L)) (ap not e)

pub first : (L : ℕ) (xs : List ℕ) → 0 < L → First L xs
first L [] p = none refl
first L (x ∷ xs) p = go (true_or_false (ltb (length (x ∷ xs)) L)) (true_or_false (not_digits (take L (x ∷ xs))))
  where
    go : (ltb (length (x ∷ xs)) L ≡ true) ⊎ (ltb (length (x ∷ xs)) L ≡ false) → (not_digits (take L (x ∷ xs)) ≡ true) ⊎ (not_digits (take L (x ∷ xs)) ≡ false) → First L (x ∷ xs)
    go (inl s) q = other_line L (x ∷ xs) (omega arith) (λ h. absurd (omega (arith, ltb-true (length (x ∷ xs)) L s)))
    go (inr s) (inl q) = other_line L (x ∷ xs) (omega arith) (λ h. q)
    go (inr s) (inr q) = let h = ltb-false (length (x ∷ xs)) L s in good h q (whole_line L (x ∷ xs) p h q)
