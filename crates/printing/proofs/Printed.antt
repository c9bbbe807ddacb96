-- What was printed lies in the lent text. Assumes nothing.
use Prim.Native.Nat.{ℕ, ◌≤◌}
use mathlib.Core.Path.{◌≡◌, ap}
use mathlib.Core.List.{List, ◌++◌}
use native.Mathlib.Omega.{arith}
use lib.Dec.{ltb}
use lib.ListN.{length, drop, length-append}
use Rattle.std.specs.Prelude.{Ok, Err}
use Rattle.model.specs.Answer.{Answer, WriteAnswer, accepted}
use Rattle.model.specs.declared.Rule.TheVariants.{NoRoom}
use Rattle.model.specs.Refusal.{refuse}
use Rattle.model.specs.Text.{Writing, writing}
use Rattle.model.specs.Read.{program}
use Rattle.system_printed.specs.Print.{print_result}

pub printed_within : (text out out' : List ℕ) (r : WriteAnswer) (k : ℕ) → record { answer = r; left = out' } ≡ print_result text out → r ≡ Ok k → k ≤ length out'
unfolding print_result writing
printed_within text out out' r k e q = go (refuse NoRoom 0 (ltb (length out) (length (program text))) accepted) e
  where
    go : (a : Answer) → record { answer = r; left = out' } ≡ writing a (program text) out → k ≤ length out'
    go (Ok _) e =
        let a : r ≡ Ok (length (program text)) = ap (λ (w : Writing). w.answer) e in
        let b : k ≡ length (program text) = cc in
        let c : out' ≡ program text ++ drop (length (program text)) out = ap (λ (w : Writing). w.left) e in
        rw (b, c, length-append) (omega arith)
    go (Err why) e =
        let a : r ≡ Err why = ap (λ (w : Writing). w.answer) e in
        let z : ◌≡◌ {A = ℕ} 0 1 = cc in
        absurd (omega arith)
