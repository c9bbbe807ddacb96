-- `digits_read::finite_at` meets its contract: the first three digits hold the exponent. Assumes nothing.
use mathlib.Core.Path.{ap, ◌∙◌}
use mathlib.Core.Bool.{not}
use Prim.Native.Nat.{ℕ, ◌%◌}
use lib.Dec.{eqb}
use Rattle.digits_read.proofs.Bits.{leading, by_first}
use Rattle.digits_read.proofs.finite_at.Goals as goal

pub returns-then-first : goal.returns-then-first
returns-then-first c =
    by_first _ _ c.requires c.if-first.true

pub returns : goal.returns
returns c =
    ap (λ (v : ℕ). not (eqb (v % 2048) 2047)) c.field_at.ensures ∙ leading _ _ c.requires
