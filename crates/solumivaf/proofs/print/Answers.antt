-- What is printed is the front of the buffer. Assumes nothing.
use Rattle.std.proofs.Common.{rules, sym, subst, OnOk, length-take-le}
use Rattle.std.specs.Io.KnownBytes.{Appends}
use Rattle.printing.proofs.Printed.{printed_within}
use Rattle.printing.proofs.Whole.{text_printed, never_refused}
use Rattle.solumivaf.proofs.print.Goals as goal

pub slice_bounds-output-end : goal.slice_bounds-output-end
slice_bounds-output-end g c =
    printed_within _ _ _ _ _ c.print_result.ensures.out_after c.in-Ok.is

pub slice_bounds-write_full-end : goal.slice_bounds-write_full-end
slice_bounds-write_full-end g c =
    sym (length-take-le _ _ (printed_within _ _ _ _ _ c.print_result.ensures.out_after c.in-Ok.is))

pub returns-in-Ok : goal.returns-in-Ok
returns-in-Ok g c =
    subst (λ l. OnOk c.write_full.result (Appends (g.W.Write.contents c.args.to.now) (g.W.Write.contents c.write_full.new.to) l)) (text_printed _ _ _ _ c.print_result.ensures.out_after (search rules) _ c.in-Ok.is) c.write_full.ensures

pub returns-in-Err : goal.returns-in-Err
returns-in-Err g c =
    never_refused _ _ _ _ c.print_result.ensures.out_after (search rules) _ c.in-Err.is
