-- Following the frames with a cursor gives what the definition by lines gives. Assumes nothing.
use Prim.Native.Nat.{ℕ, suc, ◌+◌, ◌≤◌, ◌<◌}
use mathlib.Core.Path.{◌≡◌, refl, sym, ap, ◌∙◌, subst}
use mathlib.Core.Logic.{◌⊎◌, inl, inr}
use mathlib.Core.Bool.{Bool, true, false, not, ◌||◌}
use mathlib.Core.List.{List, [], ◌∷◌}
use native.Mathlib.Numerals.{add-one}
use native.Mathlib.Omega.{arith}
use lib.Dec.{eqb, ltb}
use lib.ListN.{length, take, drop, length-drop}
use lib.Seq.{drop-drop}
use borrow.Author.Tests.{ne_eqb, lt-ltb, le-ltb, ltb-true, ltb-false}
use Rattle.laws.proofs.Tests.{true_or_false, or_left}
use Rattle.std.specs.Prelude.{Ok, Err}
use Rattle.model.specs.Answer.{Answer, accepted, refused_by}
use Rattle.model.specs.declared.Rule.{Rule}
use Rattle.model.specs.declared.Rule.TheVariants.{NotFinite, Malformed, WrongFrame, WrongEnd}
use Rattle.model.specs.Refusal.{refuse, inside}
use Rattle.model.specs.Read.{Frame, kind_in, line_length, lines_from, last_line, not_digits, bad_content, bad_line, wrong_frame, not_finite_in, line_answer, lines_answer}
use Rattle.lines_read.proofs.Tested.{length_above}
use Rattle.cursors.specs.declared.Cursor.{Cursor}
use Rattle.cursors.specs.Steps.{line_due, landed, step_of}
use Rattle.frames_read.specs.Follow.{onward, follow, text_end}
use Rattle.frames_read.proofs.Lines.{First, none, bad, good, first}

-- what is accepted goes on with r
abbrev pub passed : Answer → Answer → Answer
passed (Ok _) r = r
passed (Err why) r = Err why

-- ---- one line

pub bad_line_lem : (t due : ℕ) (l : List ℕ) → (not_digits l || not (eqb (length l) (line_length t due))) ≡ true → bad_line t due l ≡ true
unfolding bad_line
bad_line_lem t due l e = go (not_digits l) (not (inside 5 (kind_in l))) (not (eqb (length l) (line_length t due))) (bad_content t l) e
  where
    go : (a b c d : Bool) → (a || c) ≡ true → (a || b || c || d) ≡ true
    go true b c d e = refl
    go false true c d e = refl
    go false false true d e = refl
    go false false false true e = refl
    go false false false false e = e

refused : (t x : ℕ) (f : Frame) (l : List ℕ) (r : Answer) → bad_line t f.kind l ≡ true → line_answer t x f l r ≡ refused_by Malformed x
unfolding line_answer refuse
refused t x f l r e = rw e

pub refuse_passed : (n : Rule) (x : ℕ) (b : Bool) (a r : Answer) → refuse n x b (passed a r) ≡ passed (refuse n x b a) r
unfolding refuse
refuse_passed n x true a r = refl
refuse_passed n x false a r = refl

accepts : (t x : ℕ) (f : Frame) (l : List ℕ) (r : Answer) → line_answer t x f l r ≡ passed (line_answer t x f l accepted) r
unfolding line_answer
accepts t x f l r =
    let c = refuse_passed NotFinite x (not_finite_in t f l) accepted r in
    let b = refuse_passed WrongFrame x (wrong_frame f l) (refuse NotFinite x (not_finite_in t f l) accepted) r in
    let a = refuse_passed Malformed x (bad_line t f.kind l) (refuse WrongFrame x (wrong_frame f l) (refuse NotFinite x (not_finite_in t f l) accepted)) r in
    ap (λ (z : Answer). refuse Malformed x (bad_line t f.kind l) (refuse WrongFrame x (wrong_frame f l) z)) c ∙ ap (refuse Malformed x (bad_line t f.kind l)) b ∙ a

-- a line that is bad as the text has it is bad as it is looked at
due_bad : (t x : ℕ) (f : Frame) (xs : List ℕ) → 0 < length xs → (line_length t f.kind ≤ length xs → not_digits (take (line_length t f.kind) xs) ≡ true)
    → line_due t x f xs ≡ refused_by Malformed x
unfolding line_due refuse
due_bad t x f xs h n = rw (ne_eqb (length xs) 0 (λ e. omega arith)) (go (true_or_false (ltb (length xs) L)))
  where
    L : ℕ
    L = line_length t f.kind

    go : (ltb (length xs) L ≡ true) ⊎ (ltb (length xs) L ≡ false) → refuse Malformed x (ltb (length xs) L) (line_answer t x f (take L xs) accepted) ≡ refused_by Malformed x
    go (inl e) = rw e
    go (inr e) =
        rw e
        (refused t x f (take L xs) accepted (bad_line_lem t f.kind (take L xs) (or_left (not_digits (take L xs)) (not (eqb (length (take L xs)) L)) (n (ltb-false (length xs) L e)))))

pub due_good : (t x : ℕ) (f : Frame) (xs : List ℕ) → line_length t f.kind ≤ length xs → line_due t x f xs ≡ line_answer t x f (take (line_length t f.kind) xs) accepted
unfolding line_due refuse
due_good t x f xs h =
    rw (ne_eqb (length xs) 0 (λ e. omega (arith, length_above t f.kind)), le-ltb (length xs) (line_length t f.kind) h)

first_of : (t x : ℕ) (f : Frame) (fs : List Frame) (l : List ℕ) (ls : List (List ℕ)) → lines_answer t x (f ∷ fs) (l ∷ ls) ≡ line_answer t x f l (lines_answer t (suc x) fs ls)
unfolding lines_answer
first_of t x f fs l ls = refl

at_none : (t x : ℕ) (f : Frame) (fs : List Frame) (r : Answer) → lines_answer t x (f ∷ fs) (lines_from [] []) ≡ passed (line_due t x f []) r
unfolding lines_answer lines_from last_line line_due refuse
at_none t x f fs r = refl

module _ (t x : ℕ) (f : Frame) (fs : List Frame) where
  rest : List ℕ → Answer
  rest xs = lines_answer t (suc x) fs (lines_from [] (drop (line_length t f.kind) xs))

  pub due_line : (xs : List ℕ) → lines_answer t x (f ∷ fs) (lines_from [] xs) ≡ passed (line_due t x f xs) (lines_answer t (suc x) fs (lines_from [] (drop (line_length t f.kind) xs)))
  unfolding rest
  due_line xs = go (first (line_length t f.kind) xs (omega (arith, length_above t f.kind)))
    where
      go : First (line_length t f.kind) xs → lines_answer t x (f ∷ fs) (lines_from [] xs) ≡ passed (line_due t x f xs) (rest xs)
      go (none e) = subst (λ (ys : List ℕ). lines_answer t x (f ∷ fs) (lines_from [] ys) ≡ passed (line_due t x f ys) (rest xs)) (sym e) (at_none t x f fs (rest xs))
      go (bad l ls h e b n) = ap (lines_answer t x (f ∷ fs)) e ∙ first_of t x f fs l ls ∙ refused t x f l (lines_answer t (suc x) fs ls) (bad_line_lem t f.kind l b) ∙ sym (ap (λ (a : Answer). passed a (rest xs)) (due_bad t x f xs h n))
      go (good h q e) =
          ap (lines_answer t x (f ∷ fs)) e ∙ first_of t x f fs (take (line_length t f.kind) xs) (lines_from [] (drop (line_length t f.kind) xs))
          ∙ accepts t x f (take (line_length t f.kind) xs) (rest xs)
          ∙ sym (ap (λ (a : Answer). passed a (rest xs)) (due_good t x f xs h))

-- ---- all lines

extra : (t x : ℕ) (l : List ℕ) (ls : List (List ℕ)) → lines_answer t x [] (l ∷ ls) ≡ refuse WrongEnd x true accepted
unfolding lines_answer refuse
extra t x l ls = refl

ends : (t x : ℕ) → lines_answer t x [] (lines_from [] []) ≡ refuse WrongEnd x (ltb 0 0) accepted
unfolding lines_answer lines_from last_line refuse
ends t x = refl

behind : (t x : ℕ) (xs : List ℕ) → lines_answer t x [] (lines_from [] xs) ≡ refuse WrongEnd x (ltb 0 (length xs)) accepted
behind t x xs = go (first 1 xs (omega arith))
  where
    more : (l : List ℕ) (ls : List (List ℕ)) → lines_from [] xs ≡ l ∷ ls → 0 < length xs → lines_answer t x [] (lines_from [] xs) ≡ refuse WrongEnd x (ltb 0 (length xs)) accepted
    more l ls e h = ap (lines_answer t x []) e ∙ extra t x l ls ∙ ap (λ (b : Bool). refuse WrongEnd x b accepted) (sym (lt-ltb 0 (length xs) h))

    go : First 1 xs → lines_answer t x [] (lines_from [] xs) ≡ refuse WrongEnd x (ltb 0 (length xs)) accepted
    go (none e) = subst (λ (ys : List ℕ). lines_answer t x [] (lines_from [] ys) ≡ refuse WrongEnd x (ltb 0 (length ys)) accepted) (sym e) (ends t x)
    go (bad l ls h e b n) = more l ls e h
    go (good h q e) = more (take 1 xs) (lines_from [] (drop 1 xs)) e h

module _ (t : ℕ) (text : List ℕ) where
  at_last : (c : Cursor) → ltb 0 (length (drop c.at text)) ≡ ltb c.at (length text)
  at_last c = go (true_or_false (ltb c.at (length text)))
    where
      go : (ltb c.at (length text) ≡ true) ⊎ (ltb c.at (length text) ≡ false) → ltb 0 (length (drop c.at text)) ≡ ltb c.at (length text)
      go (inl e) = lt-ltb 0 (length (drop c.at text)) (omega (arith, length-drop c.at text, ltb-true c.at (length text) e)) ∙ sym e
      go (inr e) = le-ltb 0 (length (drop c.at text)) (omega (arith, length-drop c.at text, ltb-false c.at (length text) e)) ∙ sym e

  pub lines_followed : (fs : List Frame) (c : Cursor) → lines_answer t c.line fs (lines_from [] (drop c.at text)) ≡ text_end text (follow t text fs c)
  unfolding follow text_end step_of
  lines_followed [] c = behind t c.line (drop c.at text) ∙ ap (λ (b : Bool). refuse WrongEnd c.line b accepted) (at_last c)
  lines_followed (f ∷ fs) c = due_line t c.line f fs (drop c.at text) ∙ go (lines_followed fs) (line_due t c.line f (drop c.at text))
    where
      c' : Cursor
      c' = record { at = c.at + line_length t f.kind; line = c.line + 1 }

      go : ((c : Cursor) → lines_answer t c.line fs (lines_from [] (drop c.at text)) ≡ text_end text (follow t text fs c)) → (a : Answer)
          → passed a (lines_answer t (suc c.line) fs (lines_from [] (drop (line_length t f.kind) (drop c.at text)))) ≡ text_end text (onward (follow t text fs) (landed a c'))
      go ih (Ok _) = rw (drop-drop (line_length t f.kind) c.at text, ← add-one c.line) (ih c')
      go ih (Err why) = refl
