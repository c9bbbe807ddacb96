-- `frames_read::check_lists` meets its contract: row i has i + 1 lists. Assumes nothing.
use Prim.Native.Nat.{suc}
use Rattle.frames_read.proofs.check_lists.Given as goal

abbrev pub ghost-check_rows : goal.ghost-check_rows
ghost-check_rows a = suc
