-- `digits_written::put_bits` meets its contract: the digits are written from the lowest on. Assumes nothing.
use mathlib.Core.Path.{◌≡◌, ap, ◌∙◌}
use mathlib.Core.List.{List}
use Prim.Native.Nat.{ℕ, ◌%◌, ◌<◌}
use native.Mathlib.Omega.{arith}
use lib.ListN.{length, get_or}
use Rattle.model.specs.Lists.{table}
use Rattle.model.specs.Text.{digit}
use Rattle.laws.proofs.Blocks.{length_table, get_or_table}
use Rattle.digits_written.proofs.Put.{hexed_none, hexed_more}
use Rattle.digits_written.proofs.put_bits.Goals as goal

looked_up : (l : List ℕ) (x d : ℕ) → l ≡ table 16 digit → x < 16 → get_or l x d ≡ digit x
looked_up l x d e h = ap (λ (v : List ℕ). get_or v x d) e ∙ get_or_table 16 digit x d h

pub loop-k-init : goal.loop-k-init
loop-k-init c = hexed_none _ _ _ _ c.requires.at_in_bounds

pub bounds-digits-rest : goal.bounds-digits-rest
bounds-digits-rest c = omega (arith, ap length c.requires.digits_value ∙ length_table 16 digit)

pub loop-k-preserved : goal.loop-k-preserved
loop-k-preserved c = rw (looked_up c.args.digits.now (c.loop-k.rest % 16) 0 c.requires.digits_value (omega arith)) (hexed_more _ _ _ _ _ _ _ c.loop-k-test.true c.loop-k.invariant)
