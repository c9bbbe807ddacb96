-- `frames_read::check_tiles` meets its contract: every row has as many tiles. Assumes nothing.
use Rattle.frames_read.proofs.check_tiles.Given as goal

abbrev pub ghost-check_rows : goal.ghost-check_rows
ghost-check_rows a = λ i. a.tiles
