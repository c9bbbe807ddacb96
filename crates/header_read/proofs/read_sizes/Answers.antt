-- Line 1 by itself answers what the header does. Assumes nothing.
use mathlib.Core.Path.{sym, ◌∙◌}
use Rattle.laws.proofs.Refusals.{passed_on}
use Rattle.header_read.proofs.Heads.{sizes_alone, foretold}
use Rattle.header_read.proofs.read_sizes.Goals as goal

pub returns-in_err-shape : goal.returns-in_err-shape
returns-in_err-shape c =
    let e = sym c.in_err-shape.was ∙ c.check_header.ensures in
    rw (passed_on _ _ _ c.from_residual.ensures.1 c.in_err-shape.was) (record { value = sizes_alone _ _ e; foretells = foretold _ _ e })

pub returns : goal.returns
returns c =
    let e = sym c.in_ok-shape.was ∙ c.check_header.ensures in record { value = sizes_alone _ _ e; foretells = foretold _ _ e }
