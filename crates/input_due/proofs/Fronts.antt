-- The header is told by the first 7 bytes of a text. Assumes nothing.
use Prim.Native.Nat.{ℕ, ◌*◌, ◌≤◌, ◌<◌}
use mathlib.Core.Path.{◌≡◌, sym, ap, ◌∙◌}
use mathlib.Core.Logic.{◌⊎◌, inl, inr}
use mathlib.Core.Bool.{not, ◌||◌}
use mathlib.Core.List.{List}
use native.Mathlib.Omega.{arith}
use lib.Dec.{eqb, ltb}
use lib.ListN.{length, take}
use lib.Seq.{length-take-le, take_all, take-take}
use borrow.Author.Tests.{ne_eqb, le-ltb}
use Rattle.laws.proofs.Tests.{lt_or_le}
use Rattle.model.specs.Answer.{Answer, accepted}
use Rattle.model.specs.declared.Rule.TheVariants.{BadSizes, Malformed, WrongFrame}
use Rattle.model.specs.Refusal.{refuse}
use Rattle.model.specs.Text.{bad_shape}
use Rattle.model.specs.Read.{kind_in, tiles_in, side_in}
use Rattle.lines_read.specs.Line.{malformed}
use Rattle.header_read.specs.Heads.{header_answer}
use Rattle.system_checked.specs.Files.{Headed}

module _ (limit : ℕ) where
  -- what seven bytes answer
  seven_answer : List ℕ → Answer
  seven_answer h =
      refuse Malformed 1 (malformed 0 h) (refuse WrongFrame 1 (not (eqb (kind_in h) 1)) (refuse BadSizes 1 (bad_shape (tiles_in h) (side_in h) || ltb limit (tiles_in h * side_in h)) accepted))

  long_header : (text : List ℕ) → 7 ≤ length text → header_answer limit text ≡ seven_answer (take 7 text)
  unfolding header_answer seven_answer refuse
  long_header text h = rw (ne_eqb (length text) 0 (λ e. omega arith), le-ltb (length text) 7 h)

  front_header : (text : List ℕ) → header_answer limit (take 7 text) ≡ header_answer limit text
  front_header text = go (lt_or_le (length text) 7)
    where
      go : (length text < 7) ⊎ (7 ≤ length text) → header_answer limit (take 7 text) ≡ header_answer limit text
      go (inl h) = ap (header_answer limit) (take_all 7 text (omega arith))
      go (inr h) =
          long_header (take 7 text) (omega (arith, length-take-le 7 text h)) ∙ ap seven_answer (take-take 7 7 text (omega arith)) ∙ sym (long_header text h)

  pub same_header : (text front : List ℕ) → take 7 text ≡ take 7 front → header_answer limit text ≡ header_answer limit front
  same_header text front e = sym (front_header text) ∙ ap (header_answer limit) e ∙ front_header front

  pub same_headed : (text front : List ℕ) (N t : ℕ) → take 7 text ≡ take 7 front → Headed limit front N t → Headed limit text N t
  same_headed text front N t e h = record {
    accepted = same_header text front e ∙ h.accepted;
    tiles_told = h.tiles_told ∙ ap tiles_in (sym e);
    side_told = h.side_told ∙ ap side_in (sym e);
  }
