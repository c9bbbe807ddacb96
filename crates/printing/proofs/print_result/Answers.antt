-- `printing::print_result` meets its contract. Assumes nothing.
use Prim.Native.Nat.{ℕ}
use mathlib.Core.Path.{sym, ap, ◌∙◌}
use Rattle.std.specs.Prelude.{Ok}
use Rattle.refusal_written.specs.Refusal.{write_refusal}
use Rattle.printing.proofs.Refused.{no_result, refusal_printed, refusal_short}
use Rattle.printing.proofs.print_result.Goals as goal

pub returns-in-Err : goal.returns-in-Err
returns-in-Err c =
    let e = sym c.in-Err.is ∙ c.check_system.ensures in
    record {
      out_after = c.write_refusal-in-Err.ensures ∙ ap (λ (n : ℕ). write_refusal n c.in-Err.why.place c.args.out.now) c.number.ensures ∙ refusal_printed _ _ e _;
      text_len_bound = refusal_short _ _ e;
    }

pub returns-in-Ok-ResultRead : goal.returns-in-Ok-ResultRead
returns-in-Ok-ResultRead c =
    absurd (no_result _ _ _ _ (sym (c.in-Ok-ResultRead.is ∙ ap Ok c.in-Ok-ResultRead.field-0-is) ∙ c.check_system.ensures))
