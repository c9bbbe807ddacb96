-- `system_printed::print_system` meets its contract. Assumes nothing.
use mathlib.Core.Path.{sym, ◌∙◌}
use native.Mathlib.Omega.{arith}
use lib.Seq.{length-take-le}
use Rattle.task_counts.proofs.Laws.{few_tasks}
use Rattle.system_printed.proofs.Checked.{checked, small_sizes}
use Rattle.system_printed.proofs.print_system.Goals as goal

pub overflow_mul-order : goal.overflow_mul-order
overflow_mul-order c =
    let s = small_sizes (checked _ _ _ c.requires) in omega arith

pub overflow_mul-elements : goal.overflow_mul-elements
overflow_mul-elements c =
    let s = small_sizes (checked _ _ _ c.requires) in omega arith

pub overflow_mul-listed : goal.overflow_mul-listed
overflow_mul-listed c =
    let s = small_sizes (checked _ _ _ c.requires) in omega arith

pub overflow_mul-listed-2 : goal.overflow_mul-listed-2
overflow_mul-listed-2 c =
    let s = small_sizes (checked _ _ _ c.requires) in omega arith

pub task_count-count-requires : goal.task_count-count-requires
task_count-count-requires c =
    let s = small_sizes (checked _ _ _ c.requires) in s.tiles.1

pub slice_bounds-numbers-end : goal.slice_bounds-numbers-end
slice_bounds-numbers-end c =
    let s = small_sizes (checked _ _ _ c.requires) in s.size

pub slice_bounds-print_worked-end : goal.slice_bounds-print_worked-end
slice_bounds-print_worked-end c =
    let s = small_sizes (checked _ _ _ c.requires) in sym (length-take-le _ _ (omega arith))

pub slice_bounds-entries-end : goal.slice_bounds-entries-end
slice_bounds-entries-end c =
    let s = small_sizes (checked _ _ _ c.requires) in s.listed

pub slice_bounds-print_worked-end-2 : goal.slice_bounds-print_worked-end-2
slice_bounds-print_worked-end-2 c =
    let s = small_sizes (checked _ _ _ c.requires) in sym (length-take-le _ _ (omega arith))

pub slice_bounds-records-end : goal.slice_bounds-records-end
slice_bounds-records-end c =
    let s = small_sizes (checked _ _ _ c.requires) in let k = few_tasks _ s.tiles.1 in omega (arith, c.task_count-count.ensures)

pub slice_bounds-print_worked-end-3 : goal.slice_bounds-print_worked-end-3
slice_bounds-print_worked-end-3 c =
    let s = small_sizes (checked _ _ _ c.requires) in let k = few_tasks _ s.tiles.1 in sym (length-take-le _ _ (omega (arith, c.task_count-count.ensures)))

pub print_worked-requires-clause-lent_fits : goal.print_worked-requires-clause-lent_fits
print_worked-requires-clause-lent_fits c =
    let s = small_sizes (checked _ _ _ c.requires) in
    let k = few_tasks _ s.tiles.1 in record {
      buffers = record {
        matrix_fits = length-take-le _ _ (omega arith);
        lists_fit = length-take-le _ _ (omega arith);
      };
      records_fit = length-take-le _ _ (omega (arith, c.task_count-count.ensures)) ∙ c.task_count-count.ensures;
    }
