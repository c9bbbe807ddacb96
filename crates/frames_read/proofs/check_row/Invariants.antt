-- `frames_read::check_row` meets its contract. The loop's invariant: following what is left from here is following the row. Assumes nothing.
use Prim.Native.Nat.{ℕ}
use mathlib.Core.Path.{◌≡◌}
use mathlib.Core.List.{map}
use Rattle.model.specs.Read.{Frame}
use Rattle.lines_read.proofs.Runs.{up_to}
use Rattle.lines_read.specs.Line.{kind_number}
use Rattle.cursors.specs.Steps.{CursorFits}
use Rattle.frames_read.specs.Follow.{follow, row_frames}
use Rattle.frames_read.proofs.check_row.Given as goal

abbrev pub frame : ℕ → ℕ → ℕ → Frame
frame kind i j = record { kind = kind; i = i; j = j }

abbrev pub invariant-loop-j : goal.invariant-loop-j
invariant-loop-j l = CursorFits l.text l.here × (follow l.t l.text (map (frame (kind_number l.fn.kind) l.i) (up_to l.j l.count)) l.here ≡ follow l.t l.text (row_frames (kind_number l.fn.kind) l.count l.i) l.initial.here)
