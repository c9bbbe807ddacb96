-- Which bit patterns are those of finite numbers, and what the leading digits of one tell. Assumes nothing.
use Prim.Native.Nat.{ℕ, zero, suc, ◌+◌, ◌*◌, ◌/◌, ◌%◌, ◌^◌, ◌≤◌, ◌<◌}
use mathlib.Core.Path.{◌≡◌, refl, sym, ap, ◌∙◌, subst}
use mathlib.Core.Logic.{◌⊎◌, inl, inr}
use mathlib.Core.Bool.{Bool, true, false, not, cond, ◌&&◌}
use mathlib.Core.List.{List}
use native.Mathlib.Nat.{add-zero, add-suc, pow-suc}
use native.Mathlib.Omega.{arith}
use lib.Dec.{T, eqb}
use lib.ListN.{length, get_or}
use lib.Ieee.{Float, nan, inf, binary64, odd, of_fields, of_bits, nan_bits}
use lib.Ieee.Bits.{nan_bits_is}
use borrow.Author.Tests.{eqb-false, not-true, ne_eqb}
use Rattle.model.specs.Num.{finite}
use Rattle.model.specs.Read.{is_digit, digit_value, field}
use Rattle.laws.proofs.Finite.{not_nan}
use Rattle.laws.proofs.Tests.{and_left, and_right}
use Rattle.laws.proofs.Texts.{digit_cases, value_low, value_high, value_lt}
use Rattle.digits_read.specs.Digits.{FieldOfDigits}
use Rattle.digits_read.proofs.Fields.{field_none, field_suc, field_lt}

-- ---- the exponent decides

odd_finite : (d : ℕ) (s : Bool) (q k l : ℕ) → finite (odd d s q k l) ≡ true
unfolding odd finite
odd_finite d s zero k l = refl
odd_finite d s (suc q) k l = refl

by_tests : (a b s : Bool) (x : Float) → finite x ≡ true → finite (cond a (cond b (inf s) nan) x) ≡ not a
unfolding finite
by_tests true true s x h = refl
by_tests true false s x h = refl
by_tests false b s x h = h

fields_finite : (s : Bool) (x t : ℕ) → finite (of_fields binary64 s x t) ≡ not (eqb x 2047)
unfolding of_fields
fields_finite s zero t = odd_finite 53 s t 0 1074
fields_finite s (suc x) t = by_tests (eqb (suc x) 2047) (eqb t 0) s (odd 53 s (2 ^ 52 + t) x 1074) (odd_finite 53 s (2 ^ 52 + t) x 1074)

bits_finite : (n : ℕ) → finite (of_bits binary64 n) ≡ not (eqb (n % 2 ^ 63 / 2 ^ 52) 2047)
unfolding of_bits
bits_finite n = fields_finite _ (n % 2 ^ 63 / 2 ^ 52) (n % 2 ^ 52)

-- ---- the exponent is in the first three digits

-- k digits and then m digits
field_join : (p k m : ℕ) (l : List ℕ) → p + k + m ≤ length l → field p (k + m) l ≡ field p k l * 16 ^ m + field (p + k) m l
field_join p k zero l h = rw (add-zero k, field_none (p + k) l) (omega arith)
field_join p k (suc m) l h =
    let ih : field p (k + m) l ≡ field p k l * 16 ^ m + field (p + k) m l = field_join p k m l (omega arith) in
    let e : p + (k + m) ≡ p + k + m = omega arith in
    rw (add-suc k m, field_suc p (k + m) l (omega arith), field_suc (p + k) m l (omega arith), ih, e, pow-suc 16 m) (omega arith)

exponent : (a b : ℕ) → b < 2 ^ 52 → (a * 2 ^ 52 + b) % 2 ^ 63 / 2 ^ 52 ≡ a % 2048
exponent a b h = omega arith

pub leading : (l : List ℕ) (p : ℕ) → FieldOfDigits l p 16 → not (eqb (field p 3 l % 2048) 2047) ≡ finite (of_bits binary64 (field p 16 l))
leading l p f =
    let rest : field (p + 3) 13 l < 2 ^ 52 = field_lt (p + 3) 13 l (omega (arith, f.inside)) (λ k h. subst (λ (x : ℕ). is_digit (get_or l x 0) ≡ true) (omega arith) (f.digits (3 + k) (omega arith))) in
    let split = field_join p 3 13 l (omega (arith, f.inside)) in
    sym (bits_finite (field p 16 l) ∙ ap (λ (n : ℕ). not (eqb (n % 2 ^ 63 / 2 ^ 52) 2047)) split ∙ ap (λ (x : ℕ). not (eqb x 2047)) (exponent (field p 3 l) (field (p + 3) 13 l) rest))

-- a first digit other than '7' and 'F' has a bit of the exponent that is 0
value_short : (d : ℕ) → is_digit d ≡ true → (d ≡ 55 → ⊥) → (d ≡ 70 → ⊥) → digit_value d % 8 < 7
value_short d e n m = go (digit_cases d e)
  where
    go : ((48 ≤ d) × (d ≤ 57)) ⊎ ((65 ≤ d) × (d ≤ 70)) → digit_value d % 8 < 7
    go (inl q) = rw (← (value_low d q.1)) (omega arith)
    go (inr q) = rw (← (value_high d (omega arith))) (omega arith)

pub by_first : (l : List ℕ) (p : ℕ) → FieldOfDigits l p 16 → (not (eqb (get_or l p 0) 55) && not (eqb (get_or l p 0) 70)) ≡ true → true ≡ finite (of_bits binary64 (field p 16 l))
by_first l p f t = sym (ap not (ne_eqb (field p 3 l % 2048) 2047 other)) ∙ leading l p f
  where
    isnt : (v : ℕ) → not (eqb (get_or l p 0) v) ≡ true → get_or l (p + 0) 0 ≡ v → ⊥
    isnt v h q = eqb-false (get_or l p 0) v (not-true (eqb (get_or l p 0) v) h) (ap (λ (x : ℕ). get_or l x 0) (sym (add-zero p)) ∙ q)

    not_7 : get_or l (p + 0) 0 ≡ 55 → ⊥
    not_7 = isnt 55 (and_left (not (eqb (get_or l p 0) 55)) (not (eqb (get_or l p 0) 70)) t)

    not_F : get_or l (p + 0) 0 ≡ 70 → ⊥
    not_F = isnt 70 (and_right (not (eqb (get_or l p 0) 55)) (not (eqb (get_or l p 0) 70)) t)

    other : field p 3 l % 2048 ≡ 2047 → ⊥
    other e = omega (
      arith,
      field_suc p 2 l (omega (arith, f.inside)),
      field_suc p 1 l (omega (arith, f.inside)),
      field_suc p 0 l (omega (arith, f.inside)),
      field_none p l,
      value_short (get_or l (p + 0) 0) (f.digits 0 (omega arith)) not_7 not_F,
      value_lt (get_or l (p + 1) 0) (f.digits 1 (omega arith)),
      value_lt (get_or l (p + 2) 0) (f.digits 2 (omega arith)),
    )

-- ---- a finite number is no NaN

pub no_nan_bits : (n : ℕ) → finite (of_bits binary64 n) ≡ true → T (not (nan_bits binary64 n))
no_nan_bits n e = rw (nan_bits_is binary64 n) (not_nan (of_bits binary64 n) e)
