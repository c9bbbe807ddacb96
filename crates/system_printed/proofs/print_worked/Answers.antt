-- `system_printed::print_worked` meets its contract. Assumes nothing.
use borrow.Author.Rules.{rules}
use mathlib.Core.Path.{◌∙◌}
use Rattle.system_printed.proofs.Checked.{checked}
use Rattle.system_printed.proofs.Printed.{numbers_read, lendable, result_printed, result_short}
use Rattle.system_printed.proofs.print_worked.Goals as goal

pub run_alone-outcome-requires : goal.run_alone-outcome-requires
run_alone-outcome-requires c =
    lendable _ _ _ (checked _ _ _ c.requires.side_value) _ _ _ _ _ c.requires.lent_fits c.read_system.ensures (search rules)

pub returns : goal.returns
returns c =
    let k = checked _ _ _ c.requires.side_value in
    let read = numbers_read _ _ _ k _ _ _ _ _ c.requires.lent_fits c.read_system.ensures in record { out_after = c.write_result.ensures ∙ result_printed _ _ _ k _ _ _ _ _ read c.run_alone-outcome.ensures.result_after _ (search rules) (search rules); text_len_bound = result_short _ _ _ k _ _ _ _ _ read c.run_alone-outcome.ensures.result_after (search rules) (search rules) }
