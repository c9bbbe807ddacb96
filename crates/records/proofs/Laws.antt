-- Laws of the records as lent: reading one, its mark, lengths; and of the workers. Assumes nothing.
use Prim.Native.Nat.{ℕ, ◌≤◌, ◌<◌}
use mathlib.Core.Path.{◌≡◌, refl, sym, ap, ◌∙◌}
use mathlib.Core.Bool.{Bool}
use mathlib.Core.List.{List, []}
use native.Mathlib.Omega.{arith}
use lib.ListN.{length, get_or, set, take, length-map, length-set, get_or-map, get_or-eq_default}
use lib.Seq.{take-set-lt}
use lib.Ieee.{Float}
use Rattle.worker.specs.declared.Worker.{Worker}
use Rattle.worker.specs.declared.Workers.{Workers}
use Rattle.worker.specs.contracts.Workers as Ws
use Rattle.worker.specs.Holding.{idle}
use Rattle.model.specs.Lists.{below, table, keep}
use Rattle.model.specs.Links.{mark}
use Rattle.model.specs.Calls.{marks_of, ties_of}
use Rattle.laws.proofs.Blocks.{length_table, get_or_table}
use Rattle.laws.proofs.Searches.{keep_map, by_places}
use Rattle.records.specs.Records.{record_from, records_from, marks_from, ties_from, blank, crew, lent}

pub length_records : (l : List (List ℕ)) → length (records_from l) ≡ length l
unfolding records_from
length_records l = length-map l record_from

pub length_marks : (l : List (List ℕ)) → length (marks_from l) ≡ length l
unfolding marks_from
length_marks l = length-map (records_from l) (λ r. r.mark) ∙ length_records l

pub get_record : (l : List (List ℕ)) (p : ℕ) → get_or (records_from l) p blank ≡ record_from (get_or l p [])
unfolding records_from record_from
get_record l p = get_or-map record_from l p []

-- the mark of a record is the mark in the list of marks
pub get_mark : (l : List (List ℕ)) (p : ℕ) → mark (marks_from l) p ≡ (get_or (records_from l) p blank).mark
unfolding marks_from mark
get_mark l p = get_or-map (λ r. r.mark) (records_from l) p blank

-- and so with its ties
pub get_ties : (l : List (List ℕ)) (p : ℕ) → get_or (ties_from l) p 0 ≡ (get_or (records_from l) p blank).ties
unfolding ties_from
get_ties l p = get_or-map (λ r. r.ties) (records_from l) p blank

-- the marks of what is lent
pub marks_lent : (m : List Float) (l : List ℕ) (r : List (List ℕ)) (h : List Worker) (W n : ℕ) → marks_of (lent m l r h W n) ≡ marks_from r
unfolding marks_of lent marks_from
marks_lent m l r h W n = refl

pub ties_lent : (m : List Float) (l : List ℕ) (r : List (List ℕ)) (h : List Worker) (W n : ℕ) → ties_of (lent m l r h W n) ≡ ties_from r
unfolding ties_of lent ties_from
ties_lent m l r h W n = refl

-- ---- workers

module _ (slots : List Worker) (W : ℕ) where
  pub length_crew : length (crew slots W) ≡ W
  unfolding crew
  length_crew = length_table W (λ w. get_or slots w idle)

  pub worker_at : (w : ℕ) → w < W → get_or (crew slots W) w idle ≡ get_or slots w idle
  unfolding crew
  worker_at w h = get_or_table W (λ v. get_or slots v idle) w idle h

  -- beyond the workers there is none, and it reads as idle
  pub no_worker_lem : (w : ℕ) → W ≤ w → get_or (crew slots W) w idle ≡ idle
  no_worker_lem w h = get_or-eq_default (crew slots W) idle (omega (arith, length_crew))

  pub keep_workers : (p : Worker → Bool) → length (keep p (crew slots W)) ≡ length (keep (λ w. p (get_or slots w idle)) (below W))
  unfolding crew table
  keep_workers p = keep_map (λ w. get_or slots w idle) p (below W)

-- with a slot for each they are the first slots
pub first_slots : (slots : List Worker) (W : ℕ) → W ≤ length slots → crew slots W ≡ take W slots
unfolding crew table
first_slots slots W h = sym (by_places (λ (v : Worker). v.busy) W slots idle h)

pub crew_set : (slots : List Worker) (W w : ℕ) (v : Worker) → W ≤ length slots → w < W → crew (set slots w v) W ≡ set (crew slots W) w v
crew_set slots W w v h l =
    first_slots (set slots w v) W (omega (arith, length-set slots w v)) ∙ take-set-lt W slots w v l ∙ sym (ap (λ (ws : List Worker). set ws w v) (first_slots slots W h))

-- the slots of workers that are handed over have the length of what the machine holds for them
pub length_slots : (ws : Workers) (n : ℕ) → length ((Ws.the_type).to ws).0 ≡ n → length ws.slots ≡ n
length_slots ws n e = e
