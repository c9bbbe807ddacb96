-- The t entries of the list are filled where it stands. Assumes nothing.
use Prim.Native.Nat.{ℕ}
use mathlib.Core.Path.{◌∙◌, ap}
use lib.ListN.{replicate}
use Rattle.model.specs.Lists.{with_part}
use Rattle.model.specs.Buffer.{put_rows}
use Rattle.filling.proofs.fill_list.Goals as goal

pub returns : goal.returns
unfolding put_rows
returns c =
    c.fill_part.ensures
    ∙ ap (λ (s : ℕ). with_part s c.args.z.side (replicate c.args.z.side 0) c.args.lists.now) c.list_start-start.ensures
