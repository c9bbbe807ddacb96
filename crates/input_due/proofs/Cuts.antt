-- Frames are followed alike through a text and through its first bytes, as long as these reach past the frames. Assumes nothing.
use Prim.Native.Nat.{ℕ, zero, suc, ◌+◌, ◌*◌, ◌≤◌}
use mathlib.Core.Path.{◌≡◌, refl, sym, ap, ◌∙◌}
use mathlib.Core.List.{List, [], ◌∷◌}
use native.Mathlib.Nat.{suc-mul}
use native.Mathlib.Omega.{arith}
use lib.ListN.{length, take, drop, length-drop}
use lib.Seq.{length-take-le, take-take}
use Rattle.std.specs.Prelude.{Ok, Err}
use Rattle.model.specs.Answer.{Answer, accepted}
use Rattle.model.specs.Read.{Frame, line_length, line_answer}
use Rattle.cursors.specs.declared.Cursor.{Cursor}
use Rattle.cursors.specs.Steps.{Step, landed, step_of}
use Rattle.frames_read.specs.Follow.{onward, follow}
use Rattle.cursors.proofs.Steps.{stepped}
use Rattle.frames_read.proofs.Followed.{due_good}
use Rattle.system_checked.proofs.Uniform.{AllKind}

-- a part of the first bytes is that part of the text
cut : (a k L : ℕ) (l : List ℕ) → a + k ≤ L → take k (drop a (take L l)) ≡ take k (drop a l)
cut zero k L l h = take-take k L l (omega arith)
cut (suc a) k zero l h = absurd (omega arith)
cut (suc a) k (suc L) [] h = refl
cut (suc a) k (suc L) (x ∷ l) h = cut a k L l (omega arith)

module _ (t L : ℕ) (text : List ℕ) (long : L ≤ length text) where
  step_same : (f : Frame) (c : Cursor) → c.at + line_length t f.kind ≤ L → step_of t (take L text) f c ≡ step_of t text f c
  unfolding step_of
  step_same f c h =
      let n = line_length t f.kind in
      let size = length-take-le L text long in
      let a : n ≤ length (drop c.at (take L text)) = rw (length-drop c.at (take L text)) (omega arith) in
      let b : n ≤ length (drop c.at text) = rw (length-drop c.at text) (omega arith) in
      ap (λ (r : Answer). landed r (record { at = c.at + n; line = c.line + 1 }))
      (due_good t c.line f (drop c.at (take L text)) a
      ∙ ap (λ (l : List ℕ). line_answer t c.line f l accepted) (cut c.at n L text h)
      ∙ sym (due_good t c.line f (drop c.at text) b))

  pub follow_same : (k : ℕ) (fs : List Frame) (c : Cursor) → AllKind k fs → c.at + length fs * line_length t k ≤ L → follow t (take L text) fs c ≡ follow t text fs c
  unfolding follow
  follow_same k [] c a h = refl
  follow_same k (f ∷ fs) c (e, a) h =
      ap (onward (follow t (take L text) fs)) (step_same f c (rw e (omega (arith, suc-mul (length fs) (line_length t k)))))
      ∙ go (λ d j. follow_same k fs d a j) (step_of t text f c) refl
    where
      go : ((d : Cursor) → d.at + length fs * line_length t k ≤ L → follow t (take L text) fs d ≡ follow t text fs d) → (s : Step) → step_of t text f c ≡ s
          → onward (follow t (take L text) fs) s ≡ onward (follow t text fs) s
      go ih (Ok d) q =
          let at-is : d.at ≡ c.at + line_length t f.kind = ap (λ (z : Cursor). z.at) (stepped t text f c d q).next in
          ih d (omega (arith, at-is, suc-mul (length fs) (line_length t k), ap (line_length t) e))
      go ih (Err why) q = refl
