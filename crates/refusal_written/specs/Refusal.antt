-- Writing the one line 05. Assumes nothing.
use Rattle.std.specs.Prelude.{ℕ, List, length, ltb}
use Rattle.model.specs.Answer.{accepted}
use Rattle.model.specs.declared.Rule.TheVariants.{NoRoom}
use Rattle.model.specs.Refusal.{refuse, ◌otherwise◌}
use Rattle.model.specs.Text.{refusal_frame, Writing, writing}

-- 15 where the text is too short for its line
unfoldable pub write_refusal : ℕ → ℕ → List ℕ → Writing
write_refusal n x text =
    let new = refusal_frame n x in
    writing (refuse NoRoom 0 (ltb (length text) (length new)) otherwise accepted) new text
