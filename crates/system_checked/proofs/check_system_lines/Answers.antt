-- `system_checked::check_system_lines` meets its contract. Assumes nothing.
use mathlib.Core.Path.{ap, ◌∙◌}
use Rattle.model.specs.Read.{system_frames}
use Rattle.frames_read.specs.Follow.{text_end}
use Rattle.system_checked.proofs.check_system_lines.Goals as goal

pub returns : goal.returns
unfolding system_frames
returns c =
    c.text_end.ensures ∙ ap (text_end _) c.check_tiles.ensures
