-- Specimens of document 02's requests, stated of the definitions of specs/: a table beside P1 to P8, proved by computation.
-- Assumes nothing.
use mathlib.Core.Bool.{true, false}
use mathlib.Core.Path.{◌≡◌, refl}
use mathlib.Core.List.{List, [], ◌∷◌, map}
use Prim.Native.Nat.{ℕ}
use lib.Ieee.{Float, of_int, of_bits, neg}
use lib.ListN.{take}
use Rattle.model.specs.Lists.{below}
use Rattle.model.specs.Num.{plus_zero}
use Rattle.model.specs.Column.{search, column_open}
use Rattle.model.specs.Plan.{plan, sizes}
use Rattle.model.specs.Loops.{loops}
use Rattle.model.specs.Task.{t_2, t_4, A, low, clash, tasks}
use Rattle.model.specs.Links.{links_to, link_count, latest_writer, latest_writers, links_open}
use Rattle.model.specs.Old.{old_link_count, old_open}
use Rattle.model.specs.Calls.{Lent, opened}
use Rattle.model.specs.Refusal.{take_call, run_call, bad_calls, bad_number, refusal_open}
use Rattle.model.proofs.Specimens.{int, M, square, marks}

-- the tasks that each of the 14 tasks of N = 3 waits for
abbrev pub waits : List (List ℕ)
waits =
    []
    ∷ (0 ∷ []) ∷ (0 ∷ [])
    ∷ (0 ∷ []) ∷ (1 ∷ 3 ∷ []) ∷ (2 ∷ 3 ∷ [])
    ∷ (3 ∷ []) ∷ (4 ∷ 6 ∷ []) ∷ (5 ∷ 6 ∷ [])
    ∷ (4 ∷ []) ∷ (5 ∷ 9 ∷ [])
    ∷ (7 ∷ 9 ∷ []) ∷ (8 ∷ 10 ∷ 11 ∷ [])
    ∷ (12 ∷ []) ∷ []

-- the tie sums that the published loops leave
abbrev pub sums : ℕ → ℕ → List Float → List ℕ
sums N t m = (loops (plan N t) m).ties

-- what two workers leave of P2's system, in a run with that budget
abbrev pub two_workers : ℕ → Lent
two_workers budget = (run_call (sizes 2 1 2) budget (opened (plan 2 1) 2 (square (int 1) (int 2) (int 4) (int 4)))).left

-- for each task the numbers of the calls that took and that ended it, and the worker that did
abbrev pub took : Lent → List ℕ
took s = map (λ r. r.took) s.records

abbrev pub ended : Lent → List ℕ
ended s = map (λ r. r.ended) s.records

abbrev pub finishers : Lent → List ℕ
finishers s = map (λ r. r.worker) s.records

-- with another number
abbrev pub numbered : ℕ → Lent → Lent
numbered n s = record { buffers = s.buffers; records = s.records; workers = s.workers; number = n }

-- with only the first worker lent
abbrev pub by_one : Lent → Lent
by_one s = record { buffers = s.buffers; records = s.records; workers = take 1 s.workers; number = s.number }

pub record Requests : Type 0 where
  -- K2: N = 2 has 5 links, where document 01 had 4, and N = 3 has 21
  pub K2_two : link_count (tasks 2) ≡ 5
  pub K2_old_two : old_link_count (tasks 2) ≡ 4
  pub K2_three : link_count (tasks 3) ≡ 21
  -- K2: the links of N = 3, and that they are the latest writers of what each task touches
  pub K2_links : map (links_to (tasks 3)) (below 14) ≡ waits
  pub K2_writers : map (latest_writers (tasks 3)) (below 14) ≡ waits
  -- K2: two tasks that read the same part do not clash; the number of links would not show it
  pub K2_readers : clash (t_2 0 1) (t_2 0 2) ≡ false
  -- K2: on a diagonal tile T-4 writes the strictly lower part too, which T-2 reads one stage later
  pub K2_both : clash (t_4 0 1 1) (t_2 1 2) ≡ true
  -- K2: when all 14 tasks are done, the strictly lower part was last written by T-1(0), and the rest by T-3(0,2)
  pub K2_lower : latest_writer (tasks 3) (low 0) 14 0 ≡ true
  pub K2_rest : latest_writer (tasks 3) (A 0 0) 14 6 ≡ true
  -- K4: of 1, -3, 3, 2 the second is the best, told with its magnitude, and of -0, +0 the first, with +0
  pub K4_first : search (int 1 ∷ neg (int 3) ∷ int 3 ∷ int 2 ∷ []) ≡ record { place = 1; magnitude = int 3; ties = 1 }
  pub K4_zeros : search (neg plus_zero ∷ plus_zero ∷ []) ≡ record { place = 0; magnitude = plus_zero; ties = 0 }
  -- K7: an overtaken candidate's tie does not count, and the winner is no tie
  pub K7_overtaken : (search (int 2 ∷ neg (int 2) ∷ int 3 ∷ [])).ties ≡ 0
  -- K7: rows 2 2 / -2 1, one tile: column 0 has a tie; with N = 2 the tie is T-3's, with the upper diagonal element
  pub K7_tile : sums 1 2 (square (int 2) (int 2) (neg (int 2)) (int 1)) ≡ 1 ∷ []
  pub K7_upper : sums 2 1 (square (int 2) (int 2) (neg (int 2)) (int 1)) ≡ 0 ∷ 0 ∷ 1 ∷ 0 ∷ 0 ∷ []
  -- K7: rows 1 1 1 / 1 1 2 / 1 1 3, one tile: column 0 has two ties, column 1 zeros alone, which are none, and column 2 one candidate
  pub K7_columns : sums 1 3 (int 1 ∷ int 1 ∷ int 1 ∷ int 1 ∷ int 1 ∷ int 2 ∷ int 1 ∷ int 1 ∷ int 3 ∷ []) ≡ 2 ∷ []
  -- K7: 1 M / -1 M, one tile: column 0 has a tie and fails, so that it does not count
  pub K7_failed : sums 1 2 (square (int 1) M (neg (int 1)) M) ≡ 0 ∷ []
  pub K7_failed_mark : marks 1 2 (square (int 1) M (neg (int 1)) M) ≡ 3 ∷ []
  -- K9: a whole run of two workers: five tasks of one column each, so ten calls
  pub K9_number : (two_workers 100).number ≡ 10
  pub K9_took : took (two_workers 100) ≡ 1 ∷ 3 ∷ 4 ∷ 7 ∷ 9 ∷ []
  pub K9_ended : ended (two_workers 100) ≡ 2 ∷ 5 ∷ 6 ∷ 8 ∷ 10 ∷ []
  pub K9_worker : finishers (two_workers 100) ≡ 0 ∷ 1 ∷ 0 ∷ 1 ∷ 0 ∷ []
  -- K9: after five calls tasks 0 and 1 are finished and task 2 is taken, which is the limit: 2 + 2 + 1
  pub K9_five : took (two_workers 5) ≡ 1 ∷ 3 ∷ 4 ∷ 0 ∷ 0 ∷ []
  pub K9_five_ended : ended (two_workers 5) ≡ 2 ∷ 5 ∷ 0 ∷ 0 ∷ 0 ∷ []
  pub K9_most : bad_number (plan 2 1) (two_workers 5) ≡ false
  pub K9_above : bad_number (plan 2 1) (numbered 6 (two_workers 5)) ≡ true
  -- K9: below a call number in a record, and a worker that is none of those lent
  pub K9_below : bad_calls (plan 2 1) (numbered 4 (two_workers 5)) 1 ≡ true
  pub K9_workers : bad_calls (plan 2 1) (by_one (two_workers 5)) 1 ≡ true
  -- K9: a take that is refused, of a task that waits for others, is not counted
  pub K9_refused : (take_call (sizes 2 1 2) 1 4 (two_workers 5)).left.number ≡ 5

pub requests : Requests
unfolding links_open old_open column_open refusal_open of_int of_bits neg
requests = record {
  K2_two = refl;
  K2_old_two = refl;
  K2_three = refl;
  K2_links = refl;
  K2_writers = refl;
  K2_readers = refl;
  K2_both = refl;
  K2_lower = refl;
  K2_rest = refl;
  K4_first = refl;
  K4_zeros = refl;
  K7_overtaken = refl;
  K7_tile = refl;
  K7_upper = refl;
  K7_columns = refl;
  K7_failed = refl;
  K7_failed_mark = refl;
  K9_number = refl;
  K9_took = refl;
  K9_ended = refl;
  K9_worker = refl;
  K9_five = refl;
  K9_five_ended = refl;
  K9_most = refl;
  K9_above = refl;
  K9_below = refl;
  K9_workers = refl;
  K9_refused = refl;
}
