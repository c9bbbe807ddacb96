-- What a column needs of its caller: refusals 1, 2 and 4 and the numbering give it to the calls. Assumes nothing.
use Rattle.std.specs.Prelude.{ℕ, ◌<◌, ◌≤◌, ◌≡◌, true, List, Float}
use Rattle.model.specs.declared.Sizes.{Sizes}
use Rattle.model.specs.Lengths.{BuffersFit}
use Rattle.model.specs.Limits.{most_tiles, most_side}
use Rattle.model.specs.Task.{Task}
use Rattle.model.specs.Plan.{plan_of}
use Rattle.model.specs.Buffer.{finite_tiles}
use Rattle.column_laws.specs.Placed.{Placed, EntriesFit}

-- column c of task a can be worked: sizes in range, lengths as stated, and what the task touches in order
pub record Workable (z : Sizes) (a : Task) (c : ℕ) (m : List Float) (l : List ℕ) : Type 0 where
  pub tiles_some : 1 ≤ z.tiles
  pub tiles_most : z.tiles ≤ most_tiles
  pub side_some : 1 ≤ z.side
  pub side_most : z.side ≤ most_side
  pub lengths : BuffersFit z m l
  pub placed : Placed z.tiles a
  pub column : c < z.side
  pub entries : EntriesFit z.tiles z.side a l
  pub tiles_finite : finite_tiles (plan_of z) a (record { matrix = m; lists = l }) ≡ true
