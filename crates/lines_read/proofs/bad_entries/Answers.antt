-- `lines_read::bad_entries` meets its contract: the test over the range is the one over the entries. Assumes nothing.
use Prim.Native.Nat.{◌+◌, ◌*◌}
use mathlib.Core.Path.{refl, ◌∙◌}
use native.Mathlib.Omega.{arith}
use lib.Dec.{ltb}
use borrow.Author.Tests.{tests}
use Rattle.std.proofs.Common.{rules}
use Rattle.std.proofs.lemmas.Iterator.{YieldsList-from_range}
use Rattle.std.proofs.lemmas.Iterator.Search.{any_from_yields_List}
use Rattle.model.specs.Read.{field, entries_in}
use Rattle.lines_read.proofs.Runs.{any_below}
use Rattle.lines_read.proofs.Tested.{other_size, right_size}
use Rattle.lines_read.proofs.bad_entries.Goals as goal

pub returns-then-line-t : goal.returns-then-line-t
returns-then-line-t c =
    other_size _ _ c.if-line-t.true

pub returns : goal.returns
unfolding entries_in
returns c =
    let l = c.args.line.now in
    let t = c.args.t in
    any_from_yields_List (λ x. ltb t (field (6 + 2 * x) 2 l)) _ _ _ c.any.ensures.ran (YieldsList-from_range 0 t t refl (omega arith)) (λ x b q k. search (rules, tests))
    ∙ any_below (λ x. field (6 + 2 * x) 2 l) (ltb t) t ∙ right_size _ _ c.if-line-t.false
