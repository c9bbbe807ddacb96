-- The three marks decide whether a task is spoiled. Assumes nothing.
use Prim.Native.Nat.{ℕ, ◌<◌}
use mathlib.Core.Bool.{Bool, ◌||◌}
use mathlib.Core.List.{List}
use mathlib.Core.Path.{◌≡◌, sym}
use Rattle.model.specs.Task.{tasks, task_count}
use Rattle.model.specs.Links.{broken, spoils}
use Rattle.links.specs.Closed.{key_at, spoils_at}
use Rattle.links.proofs.Summary.{number_back, spoils_closed}
use Rattle.neighbours.specs.declared.LinkMarks.{LinkMarks}
use Rattle.neighbours.specs.Linked.{link_marks}

pub marks_spoil : (n p : ℕ) (ms : List ℕ) → p < task_count n → (m : LinkMarks) → m ≡ link_marks n ms p
    → {r s t : Bool} → r ≡ broken m.back → s ≡ broken m.above → t ≡ broken m.left → (r || s || t) ≡ spoils (tasks n) ms p
unfolding link_marks spoils_at
marks_spoil n p ms h m e a b c = let (w, q) = number_back n p h in rw (a, b, c, e) (sym (rw q at (spoils_closed n ms (key_at n p) w)))
