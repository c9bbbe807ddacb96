-- `frames_read::check_rows` meets its contract. The loop's invariant: following what is left from here is following all rows. Assumes nothing.
use Prim.Native.Nat.{ℕ}
use mathlib.Core.Path.{◌≡◌}
use mathlib.Core.List.{List, map}
use Rattle.model.specs.Lists.{below, joined}
use Rattle.model.specs.Read.{Frame}
use Rattle.lines_read.specs.Line.{kind_number}
use Rattle.lines_read.proofs.Runs.{up_to}
use Rattle.cursors.specs.Steps.{CursorFits}
use Rattle.frames_read.specs.Follow.{follow, row_frames}
use Rattle.frames_read.proofs.check_rows.Given as goal

-- the frames of row i
abbrev pub row : ℕ → (ℕ → ℕ) → ℕ → List Frame
row kind widths i = row_frames kind (widths i) i

abbrev pub invariant-loop-i : goal.invariant-loop-i
invariant-loop-i g l =
    CursorFits l.text l.here
    × (follow l.t l.text (joined (map (row (kind_number l.kind) g.widths) (up_to l.i l.tiles))) l.here
    ≡ follow l.t l.text (joined (map (row (kind_number l.kind) g.widths) (below l.tiles))) l.initial.here)
