-- The accepted takes and columns of a list of calls, one by one, those inside runs among them: which task a column counts for, and when a
-- task is finished. Document 01, section "Lists of calls". Assumes nothing.
use Rattle.std.specs.Prelude.{Ok, Err, ℕ, zero, suc, ◌%◌, ◌≡◌, Bool, true, false, cond, ◌&&◌, ◌||◌, List, [], ◌∷◌, ◌++◌, eqb, length}
use Rattle.model.specs.declared.Sizes.{Sizes}
use Rattle.model.specs.Answer.{Answer}
use Rattle.model.specs.Lists.{some, keep}
use Rattle.model.specs.Plan.{Plan, plan_of}
use Rattle.model.specs.Links.{mark, finished, broken}
use Rattle.model.specs.Calls.{Lent, marks_of, worker, column_of, all_finished, next_worker, turn}
use Rattle.model.specs.Refusal.{open_call, take_answer, column_answer, run_answer}
use Rattle.model.specs.History.{Asked, Call, take, column, whole_run, left_by, turn_task, spent_on}
use Rattle.demand.specs.Demand.{end}

-- an accepted take of task p by worker w, or an accepted column of worker w, each with what was lent to it
pub data Deed : Type 0 where
  did_take : (w p : ℕ) → Lent → Deed
  did_column : (w : ℕ) → Lent → Deed

-- ---- those of a list of calls

-- a run's turn of worker w
unfoldable pub turn_deed : Plan → ℕ → Lent → Deed
turn_deed z w s = cond (worker s w).busy (did_column w s) (did_take w (turn_task z w s) s)

-- a run; b calls are left of the budget, and the turn is worker w's
unfoldable pub run_deeds : Plan → ℕ → ℕ → ℕ → Lent → List Deed
run_deeds z W zero w s = []
run_deeds z W (suc b) w s =
    let v = next_worker z W w s in
    elim (all_finished z s) [ true ↦ [] | false ↦ turn_deed z v s ∷ run_deeds z W b (suc v % W) (turn z v s) ]

unfoldable pub where_accepted : Answer → List Deed → List Deed
where_accepted (Ok _) ds = ds
where_accepted (Err why) ds = []

unfoldable pub deeds_by : Sizes → Asked → Lent → List Deed
deeds_by z (take w p) s = where_accepted (take_answer z w p s) (did_take w p s ∷ [])
deeds_by z (column w) s = where_accepted (column_answer z w s) (did_column w s ∷ [])
deeds_by z (whole_run budget) s = where_accepted (run_answer z s) (run_deeds (plan_of z) z.workers budget 0 s)

unfoldable pub deeds : List Call → Lent → List Deed
deeds [] s = []
deeds (c ∷ cs) s = deeds_by c.sizes c.asked s ++ deeds cs (left_by c.sizes c.asked s)

-- ---- a column counts for the task that its worker took last: l tells for each worker which one that is

unfoldable pub took_then : (ℕ → ℕ) → Deed → ℕ → ℕ
took_then l (did_take w p s) v = cond (eqb v w) p (l v)
took_then l (did_column w s) v = l v

unfoldable pub Belongs : (ℕ → ℕ) → Deed → Type 0
Belongs l (did_take w p s) = Unit {0}
Belongs l (did_column w s) = (worker s w).task ≡ l w

unfoldable pub AllBelong : (ℕ → ℕ) → List Deed → Type 0
AllBelong l [] = Unit {0}
AllBelong l (d ∷ ds) = Belongs l d × AllBelong (took_then l d) ds

-- ---- what a deed is about, and whether it finishes a task

-- the task taken, or the one that the worker holds
unfoldable pub about : ℕ → Deed → Bool
about q (did_take w p s) = eqb p q
about q (did_column w s) = eqb (worker s w).task q

-- a column of task p that is its last, t - 1, or that ends it failed or spoiled
unfoldable pub finishes : Plan → ℕ → Deed → Bool
finishes z p (did_take w q s) = false
finishes z p (did_column w s) =
    let h = worker s w in
    eqb h.task p && (eqb (suc h.column) z.t || broken (column_of z s h.task h.column).mark)

-- ---- s is lent to an accepted opening told z; then the calls cs are made

pub record Listed (z : Sizes) (s : Lent) (cs : List Call) : Type 0 where
  -- each column is one of the task that its worker took last, whatever l says of the time before the opening
  pub belong : (l : ℕ → ℕ) → AllBelong l (deeds cs (open_call z s).left)
  -- the takes and columns that demand 3 counts for task q are the deeds about it
  pub counted : (q : ℕ) → spent_on q cs (open_call z s).left ≡ length (keep (about q) (deeds cs (open_call z s).left))
  -- the mark of task p is 2, 3 or 4 exactly when a column has finished it
  pub finished_by : (p : ℕ) → finished (mark (marks_of (end z s cs)) p) ≡ some (finishes (plan_of z) p) (deeds cs (open_call z s).left)
