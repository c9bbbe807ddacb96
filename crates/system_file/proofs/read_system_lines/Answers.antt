-- `system_file::read_system_lines` meets its contract. Assumes nothing.
use mathlib.Core.Path.{sym, ◌∙◌}
use native.Mathlib.Nat.{mul-le-mul}
use native.Mathlib.Omega.{arith}
use Rattle.laws.proofs.Refusals.{passed_on}
use Rattle.system_checked.proofs.Headers.{facts}
use Rattle.system_file.proofs.Systems.{length_refused, lines_refused, system_read, system_lines}
use Rattle.system_file.proofs.read_system_lines.Goals as goal

pub overflow_mul-order : goal.overflow_mul-order
overflow_mul-order c =
    let f = facts c.requires in omega (arith, mul-le-mul f.tiles.1 f.side.1)

pub overflow_mul-order-2 : goal.overflow_mul-order-2
overflow_mul-order-2 c =
    let f = facts c.requires in let b = mul-le-mul f.tiles.1 f.side.1 in omega (arith, mul-le-mul b b)

pub returns-then-matrix-order : goal.returns-then-matrix-order
returns-then-matrix-order c =
    rw c.at.ensures (length_refused _ _ _ _ c.requires c.if-matrix-order.true)

pub check_system_lines-requires : goal.check_system_lines-requires
check_system_lines-requires c =
    let f = facts c.requires in (f.long, f.side.1)

pub overflow_mul-side : goal.overflow_mul-side
overflow_mul-side c =
    let f = facts c.requires in omega (arith, mul-le-mul f.side.1 f.side.1)

pub overflow_mul-tiles : goal.overflow_mul-tiles
overflow_mul-tiles c =
    let f = facts c.requires in omega (arith, mul-le-mul f.tiles.1 f.tiles.1)

pub load_tiles-requires : goal.load_tiles-requires
load_tiles-requires c =
    let f = facts c.requires in record { tile_lines = system_lines _ _ _ c.requires (sym c.check_system_lines.ensures ∙ c.in_ok-check_system_lines.was); matrix_len = omega (arith, c.if-matrix-order.false); s_bound = (mul-le-mul f.side.1 f.side.1, mul-le-mul f.tiles.1 f.tiles.1) }

pub returns-in_err-check_system_lines : goal.returns-in_err-check_system_lines
returns-in_err-check_system_lines c =
    rw (passed_on _ _ _ c.from_residual.ensures.1 c.in_err-check_system_lines.was)
    (lines_refused _ _ _ _ c.requires c.if-matrix-order.false _ (sym c.check_system_lines.ensures ∙ c.in_err-check_system_lines.was))

pub returns : goal.returns
returns c =
    system_read _ _ _ _ c.requires c.if-matrix-order.false _ (sym c.check_system_lines.ensures ∙ c.in_ok-check_system_lines.was) c.load_tiles.ensures
