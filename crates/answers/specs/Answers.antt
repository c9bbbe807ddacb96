-- Whether an answer accepts its call. Assumes nothing.
use Rattle.std.specs.Prelude.{Ok, Err, Bool, true, false}
use Rattle.model.specs.Answer.{Answer}

unfoldable pub accepts : Answer → Bool
accepts (Ok _) = true
accepts (Err why) = false
