-- Printing what the program prints into a lent text. Assumes nothing.
use Rattle.std.specs.Prelude.{ℕ, List, ltb, length}
use Rattle.model.specs.Answer.{accepted}
use Rattle.model.specs.declared.Rule.TheVariants.{NoRoom}
use Rattle.model.specs.Refusal.{refuse, ◌otherwise◌}
use Rattle.model.specs.Text.{Writing, writing}
use Rattle.model.specs.Read.{program}

-- the front of the lent text is filled with what the program prints for a text; 15 where it is too short
unfoldable pub print_result : List ℕ → List ℕ → Writing
print_result text out =
    let new = program text in
    writing (refuse NoRoom 0 (ltb (length out) (length new)) otherwise accepted) new out
