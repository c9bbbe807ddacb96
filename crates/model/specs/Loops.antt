-- The published loops, which do the tasks in number order, and the outcome. Document 01, sections "The published loops" and
-- "The outcome, and solving". Assumes nothing.
use Rattle.std.specs.Prelude.{ℕ, zero, suc, ◌+◌, ◌*◌, true, false, List, length, set, replicate, eqb, Float}
use Rattle.model.specs.declared.Outcome.{Outcome}
use Rattle.model.specs.declared.Outcome.TheVariants.{Good, Overflow, Singular}
use Rattle.model.specs.Lists.{below, in_turn, keep, first_or}
use Rattle.model.specs.Num.{is_zero}
use Rattle.model.specs.Task.{Task}
use Rattle.model.specs.Plan.{Plan, order}
use Rattle.model.specs.Links.{task, mark, waiting, done, failed, spoiled, spoils, links_open}
use Rattle.model.specs.Buffer.{Buffers, Ended, element, worked, column_ties, sound, filled, buffer_open}

-- the loops' state: the buffers, and for each task one mark and, by K7, the sum of the ties of the columns that it completed
pub record State : Type 0 where
  pub buffers : Buffers
  pub marks : List ℕ
  pub ties : List ℕ

-- the failed tasks, lowest first
unfoldable pub failed_tasks : List ℕ → List ℕ
failed_tasks ms = keep (λ p. eqb (mark ms p) failed) (below (length ms))

-- the end e, with n ties more
abbrev pub with_ties : ℕ → Ended → Ended
with_ties n e = record { left = e.left; mark = e.mark; ties = n + e.ties }

module _ (z : Plan) where
  -- n columns of a task, from column c on: at the first that computes a number that isn't finite it is failed, and after the last it is done
  unfoldable pub columns : ℕ → ℕ → Task → Buffers → Ended
  columns zero c a s = record { left = s; mark = done; ties = 0 }
  columns (suc n) c a s = elim (sound z a c s) [
    | true ↦ with_ties (column_ties z a c s) (columns n (suc c) a (worked z a c s))
    | false ↦ record { left = filled z a (worked z a c s); mark = failed; ties = 0 }
  ]

  -- task number p: spoiled, with no column worked, or its columns from 0 on
  unfoldable pub ended : State → ℕ → Ended
  ended s p =
      let a = task z.tasks p in
      elim (spoils z.tasks s.marks p) [
        | true ↦ record { left = filled z a s.buffers; mark = spoiled; ties = 0 }
        | false ↦ columns z.t 0 a s.buffers
      ]

  -- the state after task p
  unfoldable pub performed : ℕ → State → State
  performed p s = let e = ended s p in record { buffers = e.left; marks = set s.marks p e.mark; ties = set s.ties p e.ties }

  -- all lists 0, all marks waiting, all sums 0
  unfoldable pub start : List Float → State
  start m = record {
    buffers = record { matrix = m; lists = replicate (z.N * z.N * z.t) 0 };
    marks = replicate (length z.tasks) waiting;
    ties = replicate (length z.tasks) 0;
  }

  -- document 01's published loops: the tasks in number order
  unfoldable pub loops : List Float → State
  loops m = in_turn performed (below (length z.tasks)) (start m)

  -- ---- the outcome

  -- the rows of n with a zero on the diagonal, lowest first
  unfoldable pub zero_rows : List Float → List ℕ
  zero_rows m = keep (λ x. is_zero (element z.N z.t m x x)) (below (order z))

  -- overflow with the first task that failed; without one singular with the first row whose diagonal element ends as zero; without that good
  unfoldable pub outcome : State → Outcome
  outcome s = first_or (failed_tasks s.marks) Overflow (first_or (zero_rows s.buffers.matrix) Singular Good)

-- how files write an outcome: its number and its place
abbrev pub outcome_number : Outcome → ℕ
outcome_number Good = 0
outcome_number (Overflow p) = 1
outcome_number (Singular x) = 2

abbrev pub outcome_place : Outcome → ℕ
outcome_place Good = 0
outcome_place (Overflow p) = p
outcome_place (Singular x) = x

unfoldable pub loops_open : Unit {0}
unfolding buffer_open links_open columns ended performed start loops failed_tasks zero_rows outcome
loops_open = tt
