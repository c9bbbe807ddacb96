-- Hexadecimal digits: a number's digits stand for it, and digits are those of the number that they stand for. Assumes nothing.
use mathlib.Core.Path.{◌≡◌, refl, sym, ap, ◌∙◌}
use mathlib.Core.Logic.{⊎_elim}
use mathlib.Core.Bool.{Bool, true, not, ◌&&◌, ◌||◌}
use mathlib.Core.List.{List, [], ◌∷◌}
use Prim.Native.Nat.{ℕ, zero, suc, ◌+◌, ◌*◌, ◌/◌, ◌%◌, ◌^◌, ◌≤◌, ◌<◌}
use native.Mathlib.Nat.{zero-mul, add-mul, mul_assoc, pow-suc, pow-succ', mod-lt, mod-eq_of_lt, mul-add-mod_self_right, add_assoc, mod-one, mul-pos}
use native.Mathlib.Omega.{arith}
use lib.Arith.{mod-mul, digits_div, digits_lt}
use lib.Dec.{eqb}
use lib.ListN.{length}
use borrow.Author.Tests.{eqb-true}
use Rattle.model.specs.Lists.{run, every, in_turn}
use Rattle.model.specs.Text.{digit, hex}
use Rattle.model.specs.Read.{is_digit, digit_value}
use Rattle.laws.proofs.Tests.{and_left, and_right, and_intro, every_run_elim, else_or}
use Rattle.laws.proofs.Texts.{digit_cases, value_lt}

-- ---- one digit

abbrev right : ℕ → Bool
right d = is_digit (digit d) && eqb (digit_value (digit d)) d

rights : (d : ℕ) → d < 16 → right d ≡ true
unfolding every run is_digit digit_value digit
rights d h = every_run_elim right 0 16 refl d (omega arith) h

pub digit_is : (d : ℕ) → d < 16 → is_digit (digit d) ≡ true
digit_is d h = and_left (is_digit (digit d)) (eqb (digit_value (digit d)) d) (rights d h)

pub value_digit : (d : ℕ) → d < 16 → digit_value (digit d) ≡ d
value_digit d h = eqb-true (digit_value (digit d)) d (and_right (is_digit (digit d)) (eqb (digit_value (digit d)) d) (rights d h))

abbrev back : ℕ → Bool
back c = not (is_digit c) || eqb (digit (digit_value c)) c

backs : (c : ℕ) → c ≤ 70 → back c ≡ true
unfolding every run is_digit digit_value digit
backs c h = every_run_elim back 0 71 refl c (omega arith) (omega arith)

pub digit_value_lem : (c : ℕ) → is_digit c ≡ true → digit (digit_value c) ≡ c
digit_value_lem c e = eqb-true (digit (digit_value c)) c (else_or (not (is_digit c)) (eqb (digit (digit_value c)) c) (backs c small) (ap not e))
  where
    small : c ≤ 70
    small = ⊎_elim (λ l. omega arith) (λ r. r.1) (digit_cases c e)

-- ---- numbers

-- what the digits stand for, after v
abbrev pub value : List ℕ → ℕ → ℕ
value ds v = in_turn (λ d v. v * 16 + digit_value d) ds v

pow_pos_16 : (n : ℕ) → 0 < 16 ^ n
pow_pos_16 zero = omega arith
pow_pos_16 (suc n) = rw pow-suc (mul-pos (pow_pos_16 n) (omega arith))

pub hex_digits : (n x : ℕ) → every is_digit (hex n x) ≡ true
unfolding every hex
hex_digits zero x = refl
hex_digits (suc n) x = and_intro (is_digit (digit (x / 16 ^ n % 16))) (every is_digit (hex n x)) (digit_is (x / 16 ^ n % 16) (mod-lt (x / 16 ^ n) (omega arith))) (hex_digits n x)

pub value_hex : (n x v : ℕ) → value (hex n x) v ≡ v * 16 ^ n + x % 16 ^ n
unfolding in_turn hex
value_hex zero x v = omega (arith, mod-one x)
value_hex (suc n) x v =
    let q = x / 16 ^ n % 16 in
    ap (λ (k : ℕ). value (hex n x) (v * 16 + k)) (value_digit q (mod-lt (x / 16 ^ n) (omega arith)))
    ∙ value_hex n x (v * 16 + q)
    ∙ ap (λ (k : ℕ). k + x % 16 ^ n) (add-mul (v * 16) q (16 ^ n)) ∙ add_assoc (v * 16 * 16 ^ n) (q * 16 ^ n) (x % 16 ^ n)
    ∙ ap (λ (k : ℕ). k + (q * 16 ^ n + x % 16 ^ n)) (mul_assoc v 16 (16 ^ n) ∙ ap (λ (k : ℕ). v * k) (sym (pow-succ' 16 n)))
    ∙ ap (λ (k : ℕ). v * 16 ^ suc n + k) (sym (mod-mul x {m = 16} {c = 16 ^ n} (omega arith) (pow_pos_16 n)) ∙ ap (λ (k : ℕ). x % k) (sym (pow-succ' 16 n)))

-- the digits of a number stand for it
pub value_of_hex : (n x : ℕ) → x < 16 ^ n → value (hex n x) 0 ≡ x
value_of_hex n x h = value_hex n x 0 ∙ omega (arith, zero-mul (16 ^ n), mod-eq_of_lt h)

value_behind : (ds : List ℕ) (v : ℕ) → value ds v ≡ v * 16 ^ length ds + value ds 0
unfolding in_turn
value_behind [] v = omega arith
value_behind (d ∷ ds) v =
    value_behind ds (v * 16 + digit_value d)
    ∙ ap (λ (k : ℕ). k + value ds 0) (add-mul (v * 16) (digit_value d) (16 ^ length ds)) ∙ add_assoc (v * 16 * 16 ^ length ds) (digit_value d * 16 ^ length ds) (value ds 0)
    ∙ ap (λ (k : ℕ). k + (digit_value d * 16 ^ length ds + value ds 0)) (mul_assoc v 16 (16 ^ length ds) ∙ ap (λ (k : ℕ). v * k) (sym (pow-succ' 16 (length ds))))
    ∙ ap (λ (k : ℕ). v * 16 ^ suc (length ds) + k) (sym (ap (value ds) (omega arith) ∙ value_behind ds (digit_value d)))

pub value_below : (ds : List ℕ) → every is_digit ds ≡ true → value ds 0 < 16 ^ length ds
unfolding every in_turn
value_below [] e = omega arith
value_below (d ∷ ds) e =
    let q = digit_value d in
    let is : value ds (0 * 16 + q) ≡ q * 16 ^ length ds + value ds 0 = ap (value ds) (omega arith) ∙ value_behind ds q in
    rw (is, pow-succ') (digits_lt (value_lt d (and_left (is_digit d) (every is_digit ds) e)) (value_below ds (and_right (is_digit d) (every is_digit ds) e)))

-- digits are those of the number that they stand for
pub hex_of_value : (ds : List ℕ) (v : ℕ) → every is_digit ds ≡ true → hex (length ds) (value ds v) ≡ ds
unfolding every hex in_turn
hex_of_value [] v e = refl
hex_of_value (d ∷ ds) v e =
    let q = digit_value d in
    let w = v * 16 + q in
    let x = value ds w in
    let n = length ds in
    let first = and_left (is_digit d) (every is_digit ds) e in
    let rest = and_right (is_digit d) (every is_digit ds) e in
    let top : x / 16 ^ n ≡ w = ap (λ (k : ℕ). k / 16 ^ n) (value_behind ds w) ∙ digits_div w (value_below ds rest) in
    let last : w % 16 ≡ q = mul-add-mod_self_right v 16 q ∙ mod-eq_of_lt (value_lt d first) in
    ap (λ (k : ℕ). digit (k % 16) ∷ hex n x) top ∙ ap (λ (k : ℕ). digit k ∷ hex n x) last ∙ ap (λ (k : ℕ). k ∷ hex n x) (digit_value_lem d first)
    ∙ ap (λ (l : List ℕ). d ∷ l) (hex_of_value ds w rest)
