-- The three marks decide whether a waiting task is ready. Assumes nothing.
use Prim.Native.Nat.{ℕ, ◌<◌}
use mathlib.Core.Bool.{Bool, true, false, ◌&&◌}
use mathlib.Core.List.{List}
use mathlib.Core.Path.{◌≡◌, sym, ◌∙◌}
use mathlib.Core.Logic.{◌≢◌}
use borrow.Author.Tests.{eq-eqb, ne_eqb}
use Rattle.model.specs.Task.{tasks, task_count}
use Rattle.model.specs.Links.{mark, finished, ready}
use Rattle.links.specs.Closed.{key_at, ready_at}
use Rattle.links.proofs.Summary.{number_back, ready_closed}
use Rattle.neighbours.specs.declared.LinkMarks.{LinkMarks}
use Rattle.neighbours.specs.Linked.{link_marks}

-- x is the mark of task p that was read
module _ (n p : ℕ) (ms : List ℕ) (x : ℕ) (hx : x ≡ mark ms p) where
  pub not_waiting : x ≢ 0 → false ≡ ready (tasks n) ms p
  unfolding ready
  not_waiting d = rw (ne_eqb (mark ms p) 0 (λ f. d (hx ∙ f)))

  -- the task waits, and m has the marks of the tasks linked to it
  module _ (z : x ≡ 0) (h : p < task_count n) (m : LinkMarks) (hm : m ≡ link_marks n ms p) where
    waiting : ready (tasks n) ms p ≡ (finished m.back && finished m.above && finished m.left)
    unfolding link_marks ready_at
    waiting = let (w, q) = number_back n p h in rw hm (rw (q, eq-eqb (mark ms p) 0 (sym hx ∙ z)) at (ready_closed n ms (key_at n p) w))

    pub back_stops : {r : Bool} → r ≡ finished m.back → r ≡ false → false ≡ ready (tasks n) ms p
    back_stops a f = rw (waiting, ← a, f)

    pub others_decide : {r s t : Bool} → r ≡ finished m.back → r ≡ true → s ≡ finished m.above → t ≡ finished m.left → (s && t) ≡ ready (tasks n) ms p
    others_decide a f b c = rw (waiting, ← a, f, ← b, ← c)
