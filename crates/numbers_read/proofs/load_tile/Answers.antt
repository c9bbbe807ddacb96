-- `numbers_read::load_tile` meets its contract: after x turns the first x numbers are written. Assumes nothing.
use Prim.Native.Nat.{ℕ}
use mathlib.Core.Path.{◌≡◌, refl, ap, ◌∙◌}
use mathlib.Core.List.{List, [], ◌∷◌}
use native.Mathlib.Omega.{arith}
use lib.ListN.{length, set}
use lib.Ieee.{Float, nan}
use Rattle.model.specs.Lists.{run, below, table}
use Rattle.model.specs.Read.{digit_value}
use Rattle.numbers_read.specs.Decoded.{digit_values, numbers_of}
use Rattle.numbers_read.proofs.Filled.{written, written_none, written_next, written_all}
use Rattle.numbers_read.proofs.load_tile.Invariants.{number}
use Rattle.numbers_read.proofs.load_tile.Goals as goal

all_values : (0 ∷ 1 ∷ 2 ∷ 3 ∷ 4 ∷ 5 ∷ 6 ∷ 7 ∷ 8 ∷ 9 ∷ 3 ∷ 4 ∷ 5 ∷ 6 ∷ 7 ∷ 8 ∷ 9 ∷ 10 ∷ 11 ∷ 12 ∷ 13 ∷ 14 ∷ 15 ∷ []) ≡ digit_values
unfolding run below table digit_value digit_values
all_values = refl

pub loop-x-init : goal.loop-x-init
loop-x-init c =
    (written_none _ _, all_values)

pub loop-x-preserved : goal.loop-x-preserved
loop-x-preserved c =
    let l = c.loop-x in
    let line = c.args.line.now in
    let d = c.args.tile.now in (
      ap (λ (z : List Float). set z l.x c.number_at.result) l.invariant.0
          ∙ ap (set (written (number line) d l.x) l.x) c.number_at.ensures
          ∙ written_next (number line) nan d l.x (omega arith),
      l.invariant.1,
    )

pub returns : goal.returns
unfolding numbers_of
returns c =
    let l = c.loop-x in
    let line = c.args.line.now in
    let d = c.args.tile.now in
    let e : l.x ≡ length d = omega arith in
    l.invariant.0 ∙ written_all (number line) d l.x (omega arith) ∙ ap (λ (n : ℕ). numbers_of n line) e
