-- Lines in the order of their frames: they are accepted where each is, and only there. Assumes nothing.
use mathlib.Core.Path.{◌≡◌, refl, ap, ◌∙◌}
use mathlib.Core.List.{List, [], ◌∷◌, map}
use Prim.Native.Nat.{ℕ, zero, suc, ◌<◌}
use native.Mathlib.Nat.{not-suc-le-zero, le_of_suc-le-suc}
use native.Mathlib.Omega.{arith}
use lib.ListN.{length, get_or}
use Rattle.model.specs.Answer.{Answer, accepted}
use Rattle.model.specs.declared.Rule.TheVariants.{NotFinite, Malformed, WrongFrame}
use Rattle.model.specs.Refusal.{refuse}
use Rattle.model.specs.Read.{Frame, bad_line, wrong_frame, not_finite_in, line_answer, lines_answer}
use Rattle.laws.proofs.Refusals.{passed}
use Rattle.laws.proofs.Each.{Each, nil, cons}
use Rattle.round_trip.proofs.Checks.{Fine}

-- ---- one line

module _ (t x : ℕ) (f : Frame) (l : List ℕ) (r : Answer) where
  pub line_passes : Fine t f l → line_answer t x f l r ≡ r
  unfolding line_answer refuse
  line_passes w = rw (w.whole, w.placed, w.numbers)

  line_fine : line_answer t x f l r ≡ accepted → Fine t f l
  unfolding line_answer
  line_fine e =
      let a = passed Malformed x (bad_line t f.kind l) (refuse WrongFrame x (wrong_frame f l) (refuse NotFinite x (not_finite_in t f l) r)) e in
      let b = passed WrongFrame x (wrong_frame f l) (refuse NotFinite x (not_finite_in t f l) r) a.1 in
      record { whole = a.0; placed = b.0; numbers = (passed NotFinite x (not_finite_in t f l) r b.1).0 }

  line_rest : line_answer t x f l r ≡ accepted → r ≡ accepted
  unfolding line_answer
  line_rest e =
      let a = passed Malformed x (bad_line t f.kind l) (refuse WrongFrame x (wrong_frame f l) (refuse NotFinite x (not_finite_in t f l) r)) e in
      let b = passed WrongFrame x (wrong_frame f l) (refuse NotFinite x (not_finite_in t f l) r) a.1 in
      (passed NotFinite x (not_finite_in t f l) r b.1).1

-- ---- frames and lines

pub record InOrder (t : ℕ) (fs : List Frame) (ls : List (List ℕ)) : Type 0 where
  pub long : length ls ≡ length fs
  pub fine : (k : ℕ) (f : Frame) → k < length fs → Fine t (get_or fs k f) (get_or ls k [])

pub in_order : (t x : ℕ) (fs : List Frame) (ls : List (List ℕ)) → lines_answer t x fs ls ≡ accepted → InOrder t fs ls
unfolding lines_answer
in_order t x [] [] e = record { long = refl; fine = λ k f h. absurd (not-suc-le-zero h) }
in_order t x [] (l ∷ ls) e = let z : ◌≡◌ {A = ℕ} 0 1 = cc in absurd (omega arith)
in_order t x (f ∷ fs) [] e = let z : ◌≡◌ {A = ℕ} 0 1 = cc in absurd (omega arith)
in_order t x (f ∷ fs) (l ∷ ls) e = go (in_order t (suc x) fs ls (line_rest t x f l (lines_answer t (suc x) fs ls) e))
  where
    go : InOrder t fs ls → InOrder t (f ∷ fs) (l ∷ ls)
    go w = record { long = ap suc w.long; fine = at }
      where
        at : (k : ℕ) (g : Frame) → k < suc (length fs) → Fine t (get_or (f ∷ fs) k g) (get_or (l ∷ ls) k [])
        at zero g h = line_fine t x f l (lines_answer t (suc x) fs ls) e
        at (suc k) g h = w.fine k g (le_of_suc-le-suc h)

-- lines made of the frames
pub accepted_lem : (t : ℕ) (g : Frame → List ℕ) (x : ℕ) {fs : List Frame} → Each (λ f. Fine t f (g f)) fs → lines_answer t x fs (map g fs) ≡ accepted
unfolding lines_answer
accepted_lem t g x nil = refl
accepted_lem t g x (cons {x = f} {xs = fs} w ws) = line_passes t x f (g f) (lines_answer t (suc x) fs (map g fs)) w ∙ accepted_lem t g (suc x) ws
