-- The numbering written record by record, and idle workers. Assumes nothing.
use Prim.Native.Nat.{ℕ, ◌+◌, ◌≤◌, ◌<◌}
use mathlib.Core.Path.{◌≡◌, sym, ap, ◌∙◌}
use mathlib.Core.Logic.{◌⊎◌, inl, inr, ◌≢◌}
use mathlib.Core.List.{List, ◌++◌, map}
use native.Mathlib.Omega.{arith}
use lib.ListN.{length, get_or, set, replicate, length-map, length-replicate, get_or-map}
use lib.Seq.{ext_get_or, get_or-set_same, get_or-set_other}
use Rattle.std.proofs.lemmas.List.{length-append, take-append-le, take-replicate}
use Rattle.model.specs.declared.TaskRecord.{TaskRecord}
use Rattle.worker.specs.declared.Worker.{Worker}
use Rattle.model.specs.Task.{t_1, tasks}
use Rattle.model.specs.Links.{task}
use Rattle.model.specs.Calls.{record_of}
use Rattle.worker.specs.Holding.{idle}
use Rattle.laws.proofs.Tests.{same_or_not}
use Rattle.links.specs.Closed.{Key, In, task_at, number}
use Rattle.links.proofs.Numbering.{task_is}
use Rattle.records.specs.Records.{records_from, crew}
use Rattle.records.proofs.Laws.{length_records, first_slots}

-- ---- the numbering, record by record

-- the first p records are those of the first p tasks, waiting
abbrev pub Numbered : ℕ → List TaskRecord → ℕ → Type 0
Numbered n rs p = (q : ℕ) → q < p → get_or rs q (record_of (t_1 0)) ≡ record_of (task (tasks n) q)

module _ (n : ℕ) where
  pub numbered_more : (rs new : List TaskRecord) (p : ℕ) (r : TaskRecord) → new ≡ set rs p r → p < length rs → r ≡ record_of (task (tasks n) p)
      → Numbered n rs p → Numbered n new (p + 1)
  numbered_more rs new p r e h d before q l = ap (λ x. get_or x q (record_of (t_1 0))) e ∙ go (same_or_not q p)
    where
      go : (q ≡ p) ⊎ (q ≢ p) → get_or (set rs p r) q (record_of (t_1 0)) ≡ record_of (task (tasks n) q)
      go (inl k) = rw k (get_or-set_same rs p r (record_of (t_1 0)) h ∙ d)
      go (inr k) = get_or-set_other rs p q r (record_of (t_1 0)) k ∙ before q (omega arith)

  -- the record of the triple whose number is p
  pub numbered_step : (rs new : List (List ℕ)) (p : ℕ) (a : Key) (r : TaskRecord) → records_from new ≡ set (records_from rs) p r → p < length rs
      → number n a ≡ p → In n a → r ≡ record_of (task_at a) → Numbered n (records_from rs) p → Numbered n (records_from new) (p + 1)
  numbered_step rs new p a r e h k v d before =
      numbered_more (records_from rs) (records_from new) p r e (rw (length_records rs) h)
      (d ∙ ap record_of (sym (task_is n a v) ∙ ap (task (tasks n)) k)) before

  pub numbered_all : (rs : List TaskRecord) (p : ℕ) → length rs ≡ length (tasks n) → length (tasks n) ≤ p → Numbered n rs p → rs ≡ map record_of (tasks n)
  unfolding task
  numbered_all rs p e h all =
      ext_get_or (record_of (t_1 0)) rs (map record_of (tasks n)) (e ∙ sym (length-map (tasks n) record_of))
      (λ q l. all q (omega arith) ∙ sym (get_or-map record_of (tasks n) q (t_1 0)))

-- ---- idle workers

-- the first n slots are filled
pub idle_front : (ws rest : List Worker) (n m : ℕ) (h : Worker) → h ≡ idle → m ≡ n → ws ≡ replicate m h → crew (ws ++ rest) n ≡ replicate n idle
idle_front ws rest n m h e q f =
    let l : n ≤ length (ws ++ rest) = omega (arith, length-append ws rest, ap length f, length-replicate m h) in
    let k : n ≤ length (replicate n idle) = omega (arith, length-replicate n idle) in
    first_slots (ws ++ rest) n l ∙ rw (f, q, e) (take-append-le n (replicate n idle) rest k ∙ take-replicate n n idle (omega arith))
