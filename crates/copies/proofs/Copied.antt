-- From a call over copies of the first records to the call over all of them. Assumes nothing.
use Prim.Native.Nat.{ℕ, ◌<◌, ◌≤◌}
use native.Mathlib.Omega.{arith}
use mathlib.Core.Bool.{cond}
use mathlib.Core.Logic.{⊎_elim}
use mathlib.Core.Path.{◌≡◌, sym, ap, ◌∙◌}
use mathlib.Core.List.{List}
use lib.Dec.{ltb}
use lib.Ieee.{Float}
use lib.ListN.{length, take}
use lib.Seq.{length-take-le, take_all}
use borrow.Author.Tests.{lt-ltb, le-ltb}
use Rattle.model.specs.declared.TaskRecord.{TaskRecord}
use Rattle.worker.specs.declared.Workers.{Workers}
use Rattle.model.specs.Calls.{Lent}
use Rattle.laws.proofs.Tests.{lt_or_le}
use Rattle.records.specs.Records.{records_from, crew, lent, all_lent}
use Rattle.records.proofs.Laws.{length_records}
use Rattle.task_records.specs.Copies.{copied}
use Rattle.task_records.proofs.Laws.{length_copied, copied_front, copied_all, copied_same, take_records}
use Rattle.copies.specs.Whole.{whole}
use Rattle.copies.proofs.Steps.{looked_most, looked_there}

-- how many of n records are copied
abbrev pub looked : ℕ → ℕ
looked n = cond (ltb n 1497) n 1497

module _ (ms : List Float) (ls : List ℕ) (ys : List TaskRecord) (ws : Workers) (X₀ X : List (List ℕ)) (long : length X ≡ 1497)
    (loaded : records_from X ≡ copied (looked (length ys)) 0 ys (records_from X₀)) where
  abbrev n : ℕ
  n = looked (length ys)

  room : length (records_from X₀) ≡ 1497
  room = sym (length_copied n 0 ys (records_from X₀)) ∙ ap length (sym loaded) ∙ length_records X ∙ long

  pub front : records_from (take n X) ≡ take n ys
  front = take_records n X ∙ ap (take n) loaded ∙ copied_front n ys (records_from X₀) (looked_there (length ys)) (omega (arith, looked_most (length ys), room))

  pub lent_front : all_lent ms ls (take n X) ws ≡ whole ms ls (take n ys) ws
  unfolding lent whole
  lent_front = λ t. record { buffers = record { matrix = ms; lists = ls }; records = front t; workers = crew ws.slots ws.count; number = ws.number }

  -- ---- all records are copied

  module _ (few : length ys < 1497) where
    pub all_copied : n ≡ length ys
    all_copied = rw (lt-ltb (length ys) 1497 few)

    pub lent_whole : all_lent ms ls (take n X) ws ≡ whole ms ls ys ws
    lent_whole = lent_front ∙ ap (λ r. whole ms ls r ws) (take_all n ys (omega (arith, all_copied)))

  -- ---- more records than any system has

  module _ (many : 1497 ≤ length ys) where
    pub most_copied : n ≡ 1497
    most_copied = rw (le-ltb (length ys) 1497 many)

    pub front_long : 1497 ≤ length (take n ys)
    front_long = omega (arith, most_copied, length-take-le n ys (looked_there (length ys)))

  -- ---- what a call leaves

  module _ {Ans : Type 0} (answer : Lent → Ans) (left : Lent → Lent) (refusal : Ans) (long-answer : (s : Lent) → 1497 ≤ length s.records → answer s ≡ refusal)
      (a : Ans) (e : a ≡ answer (all_lent ms ls (take n X) ws)) where
    long_whole : 1497 ≤ length ys → 1497 ≤ length (whole ms ls ys ws).records
    unfolding whole
    long_whole many = many

    long_front : 1497 ≤ length ys → 1497 ≤ length (whole ms ls (take n ys) ws).records
    unfolding whole
    long_front many = front_long many

    pub answers : a ≡ answer (whole ms ls ys ws)
    answers =
        ⊎_elim
        (λ few. e ∙ ap answer (lent_whole few))
        (λ many. e ∙ ap answer lent_front ∙ long-answer (whole ms ls (take n ys) ws) (long_front many) ∙ sym (long-answer (whole ms ls ys ws) (long_whole many)))
        (lt_or_le (length ys) 1497)

    module _ (long-left : (s : Lent) → 1497 ≤ length s.records → left s ≡ s) (ms' : List Float) (ls' : List ℕ) (X' : List (List ℕ)) (ws' : Workers) (long' : length X' ≡ 1497)
        (f : all_lent ms' ls' (take n X') ws' ≡ left (all_lent ms ls (take n X) ws)) (zs : List TaskRecord) (stored : zs ≡ copied n 0 (records_from X') ys) where
      stored_all : length ys < 1497 → records_from (take n X') ≡ zs
      stored_all few =
          take_records n X' ∙ sym (copied_all n (records_from X') ys (all_copied few) (omega (arith, looked_most (length ys), length_records X', long'))) ∙ sym stored

      left_whole : length ys < 1497 → whole ms' ls' zs ws' ≡ all_lent ms' ls' (take n X') ws'
      unfolding lent whole
      left_whole few = λ t. record { buffers = record { matrix = ms'; lists = ls' }; records = sym (stored_all few) t; workers = crew ws'.slots ws'.count; number = ws'.number }

      module _ (many : 1497 ≤ length ys) where
        unchanged : all_lent ms' ls' (take n X') ws' ≡ whole ms ls (take n ys) ws
        unchanged = f ∙ ap left lent_front ∙ long-left (whole ms ls (take n ys) ws) (long_front many)

        same_records : zs ≡ ys
        unfolding lent whole
        same_records =
            stored ∙ copied_same n (records_from X') ys (looked_there (length ys)) (sym (take_records n X') ∙ ap (λ (s : Lent). s.records) unchanged)

        still_whole : whole ms' ls' zs ws' ≡ whole ms ls ys ws
        unfolding lent whole
        still_whole = λ t. record { buffers = (unchanged t).buffers; records = same_records t; workers = (unchanged t).workers; number = (unchanged t).number }

      pub leaves : whole ms' ls' zs ws' ≡ left (whole ms ls ys ws)
      leaves =
          ⊎_elim
          (λ few. left_whole few ∙ f ∙ ap left (lent_whole few))
          (λ many. still_whole many ∙ sym (long-left (whole ms ls ys ws) (long_whole many)))
          (lt_or_le (length ys) 1497)
