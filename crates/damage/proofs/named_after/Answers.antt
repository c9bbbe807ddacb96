-- Within a row one is added to j; else the record is made anew. Assumes nothing.
use Prim.Native.Nat.{ℕ, ◌+◌}
use mathlib.Core.Path.{ap, ◌∙◌}
use native.Mathlib.Omega.{arith}
use Rattle.damage.proofs.Laws.{name_next, name_bytes}
use Rattle.damage.proofs.named_after.Goals as goal

pub overflow_add-result : goal.overflow_add-result
overflow_add-result c =
    let a = c.args.a in
    let e = name_next a.k a.i a.j c.if-a.true in
    let b = name_bytes a.k a.i a.j (omega arith) (omega arith) (omega arith) in
    omega (arith, c.requires c.if-a.true, e, b.kind_fits, b.k_fits, b.i_fits, b.j_fits)

pub returns-then-a : goal.returns-then-a
returns-then-a c =
    let a = c.args.a in
    ap (λ (n : ℕ). n + 16777216) (c.requires c.if-a.true) ∙ name_next a.k a.i a.j c.if-a.true
