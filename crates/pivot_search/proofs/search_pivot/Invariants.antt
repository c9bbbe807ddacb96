-- `search_pivot` meets its contract: before each candidate the pivot carried is the best of those before it. Assumes nothing.
use Rattle.model.specs.Best.{Best}
use Rattle.pivot_search.specs.Candidates.{candidates}
use Rattle.pivot_search.proofs.search_pivot.Given as goal

-- ---- the loop

abbrev pub invariant-loop-i : goal.invariant-loop-i
invariant-loop-i l = Best (candidates l.m l.first l.rest l.stride l.i) l.best
