-- `lines_read::not_finite` meets its contract: the test over the range is the one over the numbers. Assumes nothing.
use Prim.Native.Nat.{◌+◌, ◌*◌, ◌≤◌}
use mathlib.Core.Path.{◌≡◌, refl, sym, ◌∙◌}
use mathlib.Core.Bool.{not}
use native.Mathlib.Omega.{arith}
use lib.ListN.{length}
use lib.Ieee.{binary64, of_bits}
use borrow.Author.Tests.{tests}
use Rattle.std.proofs.Common.{rules}
use Rattle.std.proofs.lemmas.Iterator.{YieldsList-from_range, serves_from_Range}
use Rattle.std.proofs.lemmas.Iterator.Search.{any_from_yields_List}
use Rattle.laws.proofs.Blocks.{square_most}
use Rattle.model.specs.Num.{finite}
use Rattle.model.specs.Tile.{all_finite}
use Rattle.model.specs.Read.{field, numbers_in}
use Rattle.lines_read.proofs.Runs.{any_not_below}
use Rattle.lines_read.proofs.Tested.{field_in, tile_length, no_tile, tile_finite}
use Rattle.lines_read.proofs.not_finite.Goals as goal

pub returns-then-due-number : goal.returns-then-due-number
returns-then-due-number c =
    no_tile _ _ _ (λ e. c.if-due-number.true (e ∙ sym c.number.ensures))

pub any-requires-clause-callable : goal.any-requires-clause-callable
any-requires-clause-callable c =
    let t = c.args.t in
    let size : length c.args.line.now ≡ 7 + 16 * (t * t) = c.requires.line_len ∙ tile_length t _ (c.if-due-number.false ∙ c.number.ensures) in
    let most : t * t ≤ 256 = square_most t c.requires.t_le_most_side in
    serves_from_Range (λ x q k. search rules) (λ x low high. let f = field_in c.args.line.now (6 + 16 * x) 16 c.requires.line_of_digits (omega arith) (omega arith) in search rules)

pub returns : goal.returns
unfolding numbers_in all_finite
returns c =
    let l = c.args.line.now in
    let t = c.args.t in
    any_from_yields_List (λ x. not (finite (of_bits binary64 (field (6 + 16 * x) 16 l)))) _ _ _ c.any.ensures.ran (YieldsList-from_range 0 (t * t) (t * t) refl (omega arith)) (λ x b q k. search (rules, tests))
    ∙ any_not_below (λ x. of_bits binary64 (field (6 + 16 * x) 16 l)) finite (t * t) ∙ tile_finite t _ l _ (c.if-due-number.false ∙ c.number.ensures) refl
