-- By the mark. Assumes nothing.
use native.Mathlib.Omega.{arith}
use Rattle.holds.proofs.Laws.{allowed_free, marks_2_3, mark_4, other_marks}
use Rattle.holds.proofs.free_limits.Goals as goal

pub returns-in-2 : goal.returns-in-2
returns-in-2 c =
    λ r h p e d.
    let m = marks_2_3 c.args.mark c.args.z.side (omega arith) (omega arith) in
    allowed_free c.args.z r h p _ e d _ _ m.0 m.1 (omega (arith, c.requires.small_side))

pub returns-in-4 : goal.returns-in-4
returns-in-4 c =
    λ r h p e d.
    let m = mark_4 c.args.mark c.args.z.side (omega arith) in
    allowed_free c.args.z r h p _ e d _ _ m.0 m.1 (omega (arith, c.requires.small_side))

pub returns-in_default : goal.returns-in_default
returns-in_default c =
    λ r h p e d.
    let m = other_marks c.args.mark c.args.z.side (λ f. omega arith) (λ f. omega arith) (λ f. omega arith) in
    allowed_free c.args.z r h p _ e d _ _ m.0 m.1 (omega arith)

pub returns-in_default-2 : goal.returns-in_default-2
returns-in_default-2 c =
    λ r h p e d.
    let m = other_marks c.args.mark c.args.z.side (λ f. omega arith) (λ f. omega arith) (λ f. omega arith) in
    allowed_free c.args.z r h p _ e d _ _ m.0 m.1 (omega arith)
