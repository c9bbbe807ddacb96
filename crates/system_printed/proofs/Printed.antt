-- Writing what was worked out is printing what the program prints. Assumes nothing.
use Prim.Native.Nat.{ℕ, ◌*◌, ◌≤◌}
use mathlib.Core.Path.{◌≡◌, sym, ap, ◌∙◌}
use mathlib.Core.List.{List}
use native.Mathlib.Omega.{arith}
use lib.Dec.{ltb}
use lib.ListN.{length}
use lib.Ieee.{Float}
use borrow.Author.Tests.{eq-eqb}
use Rattle.model.specs.declared.TaskRecord.{TaskRecord}
use Rattle.model.specs.declared.Outcome.{Outcome}
use Rattle.model.specs.Answer.{ReadAnswer, accepted}
use Rattle.model.specs.declared.Rule.TheVariants.{NoRoom}
use Rattle.model.specs.Lengths.{LentFits}
use Rattle.model.specs.Plan.{plan, order, sizes}
use Rattle.model.specs.Refusal.{refuse}
use Rattle.model.specs.Text.{result_text, writing, bad_matrix, bad_lists, write_result}
use Rattle.model.specs.Read.{SystemReading, read_system, result_of, program}
use Rattle.one_worker.specs.Alone.{Lendable, Result, alone}
use Rattle.rows_written.specs.Rows.{system_length, result_length}
use Rattle.rows_written.proofs.Shapes.{bounds, enough, small_tiles, half}
use Rattle.result_written.proofs.Answers.{length_result}
use Rattle.system_printed.specs.Print.{print_result}
use Rattle.system_printed.proofs.Checked.{Checked, small_sizes}

pub print_as : (text out new : List ℕ) → program text ≡ new → writing (refuse NoRoom 0 (ltb (length out) (length new)) accepted) new out ≡ print_result text out
unfolding print_result
print_as text out new e = ap (λ (k : List ℕ). writing (refuse NoRoom 0 (ltb (length out) (length k)) accepted) k out) (sym e)

module _ (text : List ℕ) (N t : ℕ) (c : Checked text N t) where
  -- ---- what was read

  module _ (m M : List Float) (l : List ℕ) (r : List (List ℕ)) (a : ReadAnswer) (fit : LentFits (sizes N t 1) m l r) (e : record { answer = a; matrix = M } ≡ read_system text m) where
    pub numbers_read : M ≡ c.numbers
    numbers_read = ap (λ (k : SystemReading). k.matrix) (e ∙ c.reads m fit.buffers.matrix_fits)

    pub lendable : length M ≡ length m → Lendable N t M l r
    lendable h = record {
      tiles = (small_sizes c).tiles;
      side = (small_sizes c).side;
      lengths = record {
        buffers = record { matrix_fits = h ∙ fit.buffers.matrix_fits; lists_fit = fit.buffers.lists_fit };
        records_fit = fit.records_fit;
      };
      finite_all = rw numbers_read c.finite_all;
    }

  -- ---- what is written

  module _ (M m' : List Float) (l' : List ℕ) (rs : List TaskRecord) (o : Outcome) (is : M ≡ c.numbers) (e : record { buffers = record { matrix = m'; lists = l' }; records = rs; outcome = o } ≡ alone (plan N t) M) where
    result_is : program text ≡ result_text (plan N t) (record { matrix = m'; lists = l' }) o
    unfolding alone result_of
    result_is = c.prints ∙ sym (ap (λ (k : Result). result_text (plan N t) k.buffers k.outcome) (e ∙ ap (alone (plan N t)) is))

    pub result_printed : (out : List ℕ) → length m' ≡ N * t * (N * t) → length l' ≡ N * N * t → write_result N t m' l' o out ≡ print_result text out
    unfolding write_result refuse bad_matrix bad_lists order plan
    result_printed out a b = rw (c.shape, eq-eqb (length m') (N * t * (N * t)) a, eq-eqb (length l') (N * N * t) b) (print_as text out _ result_is)

    pub result_short : length m' ≡ N * t * (N * t) → length l' ≡ N * N * t → length (program text) ≤ 65536
    unfolding result_length system_length
    result_short a b =
        let s = small_sizes c in
        let k = bounds N t s.tiles.1 s.side.1 in
        rw (result_is, length_result N t m' l' o (enough N t (length m') a) (omega arith))
        (omega (arith, small_tiles N t s.tiles.1 s.order, rw (half N s.tiles.1) at k.listing))
