-- Records copied one by one from one list into another. Assumes nothing.
use Rattle.std.specs.Prelude.{ℕ, zero, suc, ◌+◌, List, get_or, set}
use Rattle.model.specs.declared.TaskRecord.{TaskRecord}
use Rattle.records.specs.Records.{blank}

-- the n records of rs from place p on, put into xs in the same places
unfoldable pub copied : ℕ → ℕ → List TaskRecord → List TaskRecord → List TaskRecord
copied zero p rs xs = xs
copied (suc n) p rs xs = copied n (p + 1) rs (set xs p (get_or rs p blank))
