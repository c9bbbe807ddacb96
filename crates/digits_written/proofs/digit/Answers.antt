-- `digits_written::digit` meets its contract: each of the sixteen digits is computed. Assumes nothing.
use mathlib.Core.Path.{◌≡◌, refl}
use mathlib.Core.Bool.{Bool}
use Prim.Native.Nat.{ℕ, ◌+◌, ◌*◌, ◌/◌, ◌<◌}
use native.Mathlib.Omega.{arith}
use borrow.Author.Tests.{eqb-true}
use lib.Dec.{eqb}
use Rattle.model.specs.Lists.{run, every}
use Rattle.model.specs.Text.{digit}
use Rattle.laws.proofs.Tests.{every_run_elim}
use Rattle.digits_written.proofs.digit.Goals as goal

abbrev computed : ℕ → ℕ
computed x = 48 + x + (x + 6) / 16 * 7

abbrev right : ℕ → Bool
right x = eqb (computed x) (digit x)

each : (x : ℕ) → x < 16 → computed x ≡ digit x
unfolding run every digit
each x h = eqb-true (computed x) (digit x) (every_run_elim right 0 16 refl x (omega arith) h)

pub returns : goal.returns
returns c = each c.args.x c.requires
