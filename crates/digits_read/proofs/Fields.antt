-- Laws of digits and of fields of digits. Assumes nothing.
use Prim.Native.Nat.{ℕ, zero, suc, ◌+◌, ◌-◌, ◌*◌, ◌/◌, ◌%◌, ◌^◌, ◌≤◌, ◌<◌}
use mathlib.Core.Path.{◌≡◌, refl, ap, ◌∙◌}
use mathlib.Core.Logic.{◌⊎◌, inl, inr}
use mathlib.Core.Bool.{true}
use mathlib.Core.List.{List, [], ◌∷◌}
use native.Mathlib.Omega.{arith}
use lib.ListN.{length, get_or, take, drop, length-drop}
use lib.Seq.{take-suc, get_or-drop}
use lib.Pow.{pow-add, pow_mono}
use Rattle.model.specs.Lists.{in_turn}
use Rattle.model.specs.Read.{is_digit, digit_value, field}
use Rattle.laws.proofs.Runs.{in_turn_append}
use Rattle.laws.proofs.Texts.{digit_cases, value_low, value_high, value_lt}
use Rattle.digits_read.specs.Digits.{FieldOfDigits}

-- ---- one digit

-- a digit's value by its bits
pub value_by_bits : (d : ℕ) → is_digit d ≡ true → d % 16 + d / 64 * 9 ≡ digit_value d
value_by_bits d e = go (digit_cases d e)
  where
    go : ((48 ≤ d) × (d ≤ 57)) ⊎ ((65 ≤ d) × (d ≤ 70)) → d % 16 + d / 64 * 9 ≡ digit_value d
    go (inl q) = let v : d % 16 + d / 64 * 9 ≡ d - 48 = omega arith in v ∙ value_low d q.1
    go (inr q) = let v : d % 16 + d / 64 * 9 ≡ d - 55 = omega arith in v ∙ value_high d (omega arith)

-- ---- a field

pub field_none : (p : ℕ) (l : List ℕ) → field p 0 l ≡ 0
unfolding field in_turn
field_none p l = refl

-- one digit more
pub field_suc : (p k : ℕ) (l : List ℕ) → p + k < length l → field p (suc k) l ≡ field p k l * 16 + digit_value (get_or l (p + k) 0)
unfolding field in_turn
field_suc p k l h =
    ap (λ (xs : List ℕ). in_turn (λ d v. v * 16 + digit_value d) xs 0) (take-suc (drop p l) k 0 (rw length-drop (omega arith)))
    ∙ in_turn_append (λ d v. v * 16 + digit_value d) (take k (drop p l)) (get_or (drop p l) k 0 ∷ []) 0
    ∙ ap (λ (d : ℕ). in_turn (λ d v. v * 16 + digit_value d) (take k (drop p l)) 0 * 16 + digit_value d) (get_or-drop p l k 0)

-- n digits stand for less than 16 to the n
pub field_lt : (p n : ℕ) (l : List ℕ) → p + n ≤ length l → ((k : ℕ) → k < n → is_digit (get_or l (p + k) 0) ≡ true) → field p n l < 2 ^ (4 * n)
field_lt p zero l h d = rw field_none (omega arith)
field_lt p (suc n) l h d =
    let ih : field p n l < 2 ^ (4 * n) = field_lt p n l (omega arith) (λ k b. d k (omega arith)) in
    let e : 4 * suc n ≡ 4 * n + 4 = omega arith in
    rw (field_suc p n l (omega arith), e, pow-add 2 (4 * n) 4) (omega (arith, value_lt (get_or l (p + n) 0) (d n (omega arith))))

-- before its last digit a field of at most 16 digits has room for one more
pub field_room : (l : List ℕ) (p n k : ℕ) → FieldOfDigits l p n → k < n → field p k l < 2 ^ 60
field_room l p n k f h =
    let b = field_lt p k l (omega (arith, f.inside)) (λ j i. f.digits j (omega arith)) in
    let m : 2 ^ (4 * k) ≤ 2 ^ 60 = pow_mono {i = 4 * k} {j = 60} (omega (arith, f.short)) in
    omega arith
