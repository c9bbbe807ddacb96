-- The order fits the work slice. Assumes nothing.
use mathlib.Core.Path.{sym}
use Prim.Native.Nat.{◌*◌, ◌≤◌}
use native.Mathlib.Nat.{mul-le-mul}
use native.Mathlib.Omega.{arith}
use lib.Seq.{length-take-le}
use Rattle.solving.proofs.solve_with.Goals as goal

pub slice_bounds-solve_in-end : goal.slice_bounds-solve_in-end
slice_bounds-solve_in-end c =
    let few : c.args.z.tiles * c.args.z.side ≤ 256 = mul-le-mul c.requires.solvable.tiles_most c.requires.solvable.side_most in omega (arith, few, c.requires.matrix_value.2)

pub slice_bounds-solve_in-end-2 : goal.slice_bounds-solve_in-end-2
slice_bounds-solve_in-end-2 c =
    let few : c.args.z.tiles * c.args.z.side ≤ 256 = mul-le-mul c.requires.solvable.tiles_most c.requires.solvable.side_most in sym (length-take-le _ _ (omega (arith, few, c.requires.matrix_value.2)))

pub solve_in-requires : goal.solve_in-requires
solve_in-requires c =
    let few : c.args.z.tiles * c.args.z.side ≤ 256 = mul-le-mul c.requires.solvable.tiles_most c.requires.solvable.side_most in record { solvable = c.requires.solvable; right_side = c.requires.right_side; matrix_value = (c.requires.matrix_value.0, c.requires.matrix_value.1, length-take-le _ _ (omega (arith, few, c.requires.matrix_value.2))) }
