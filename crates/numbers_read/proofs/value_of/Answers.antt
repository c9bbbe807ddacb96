-- `numbers_read::value_of` meets its contract: a digit is a byte from '0' to 'F'. Assumes nothing.
use Prim.Native.Nat.{ℕ, ◌+◌, ◌-◌, ◌≤◌}
use mathlib.Core.Path.{◌≡◌, ap, ◌∙◌}
use mathlib.Core.Logic.{◌⊎◌, inl, inr}
use mathlib.Core.Bool.{true}
use mathlib.Core.List.{List}
use native.Mathlib.Omega.{arith}
use lib.ListN.{length, get_or}
use Rattle.model.specs.Read.{is_digit, digit_value}
use Rattle.laws.proofs.Blocks.{length_table, get_or_table}
use Rattle.laws.proofs.Texts.{digit_cases}
use Rattle.numbers_read.specs.Decoded.{digit_values}
use Rattle.numbers_read.proofs.value_of.Goals as goal

between : (b : ℕ) → is_digit b ≡ true → (48 ≤ b) × (b ≤ 70)
between b e = go (digit_cases b e)
  where
    go : ((48 ≤ b) × (b ≤ 57)) ⊎ ((65 ≤ b) × (b ≤ 70)) → (48 ≤ b) × (b ≤ 70)
    go (inl q) = (omega arith, omega arith)
    go (inr q) = (omega arith, omega arith)

long : (l : List ℕ) → l ≡ digit_values → length l ≡ 23
unfolding digit_values
long l e = ap length e ∙ length_table 23 _

looked_up : (l : List ℕ) (b : ℕ) → l ≡ digit_values → is_digit b ≡ true → get_or l (b - 48) 0 ≡ digit_value b
unfolding digit_values
looked_up l b e h =
    let r = between b h in
    let back : 48 + (b - 48) ≡ b = omega arith in
    ap (λ (v : List ℕ). get_or v (b - 48) 0) e ∙ get_or_table 23 (λ x. digit_value (48 + x)) (b - 48) 0 (omega arith) ∙ ap digit_value back

pub overflow_sub-result : goal.overflow_sub-result
overflow_sub-result c =
    omega (arith, between _ c.requires.b_value)

pub bounds-values-b : goal.bounds-values-b
bounds-values-b c =
    omega (arith, between _ c.requires.b_value, long _ c.requires.values_value)

pub returns : goal.returns
returns c =
    looked_up _ _ c.requires.values_value c.requires.b_value
