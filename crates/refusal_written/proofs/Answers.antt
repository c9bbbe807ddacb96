-- What writing the line 05 answers, by what the code has tested. Assumes nothing.
use mathlib.Core.Path.{◌≡◌}
use mathlib.Core.List.{List}
use Prim.Native.Nat.{ℕ, ◌≤◌, ◌<◌}
use lib.ListN.{length, length-append}
use Rattle.std.specs.Prelude.{Ok}
use Rattle.model.specs.Answer.{refused_by}
use Rattle.model.specs.declared.Rule.TheVariants.{NoRoom}
use Rattle.model.specs.Lists.{with_part}
use Rattle.model.specs.Text.{line, refusal_frame, Writing}
use Rattle.digits_written.proofs.Put.{length_hex}
use Rattle.lines_written.proofs.Fronts.{too_short, long_enough}
use Rattle.refusal_written.specs.Refusal.{write_refusal}

pub length_refusal : (n x : ℕ) → length (refusal_frame n x) ≡ 9
unfolding refusal_frame line
length_refusal n x = simp (length-append, length_hex)

module _ (n x : ℕ) (text : List ℕ) where
  pub refusal_short : length text < 9 → ◌≡◌ {A = Writing} (record { answer = refused_by NoRoom 0; left = text }) (write_refusal n x text)
  unfolding write_refusal
  refusal_short h = too_short (refusal_frame n x) text 9 (length_refusal n x) h

  pub refusal_written : (text' : List ℕ) → 9 ≤ length text → text' ≡ with_part 0 9 (refusal_frame n x) text → ◌≡◌ {A = Writing} (record { answer = Ok 9; left = text' }) (write_refusal n x text)
  unfolding write_refusal
  refusal_written text' h is = long_enough (refusal_frame n x) text 9 (length_refusal n x) text' h is
