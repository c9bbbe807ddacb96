-- The header is told by seven bytes: by the way that the code takes it, and in the definition by lines. Assumes nothing.
use Prim.Native.Nat.{ℕ, ◌+◌, ◌*◌, ◌≤◌, ◌<◌}
use mathlib.Core.Path.{◌≡◌, refl, sym, ap, ◌∙◌, subst}
use mathlib.Core.Logic.{◌⊎◌, inl, inr}
use mathlib.Core.Bool.{Bool, true, false, not, ◌||◌}
use mathlib.Core.List.{List, [], ◌∷◌}
use native.Mathlib.Omega.{arith}
use lib.Dec.{eqb, ltb}
use lib.ListN.{length, take, drop}
use lib.Seq.{length-take-le}
use borrow.Author.Tests.{eq-eqb, ne_eqb, lt-ltb, le-ltb, ltb-false}
use Rattle.laws.proofs.Tests.{true_or_false}
use Rattle.std.specs.Prelude.{Ok, Err}
use Rattle.model.specs.Answer.{Answer, accepted, refused_by}
use Rattle.model.specs.declared.Refusal.{Refusal}
use Rattle.model.specs.declared.Rule.TheVariants.{BadSizes, BadLengths, Malformed, WrongFrame, WrongEnd}
use Rattle.model.specs.declared.FileRead.TheVariants.{SystemRead}
use Rattle.model.specs.Refusal.{refuse}
use Rattle.model.specs.Text.{bad_shape}
use Rattle.model.specs.Read.{Frame, kind_in, tiles_in, side_in, line_length, lines_from, last_line, not_digits, bad_line, lines_answer, file_answer, system_reading, no_limit}
use Rattle.digits_read.specs.Digits.{FieldOfDigits}
use Rattle.lines_read.specs.Line.{malformed}
use Rattle.lines_read.proofs.Tested.{line_of_digits, field_in, well_formed, as_malformed}
use Rattle.header_read.specs.Heads.{Header, shape, header_line, header_answer, shaped, header_of, sizes_in, sizes_told, Foretells}
use Rattle.frames_read.proofs.Lines.{First, none, bad, good, first}
use Rattle.frames_read.proofs.Followed.{passed, bad_line_lem, refuse_passed}

-- ---- by the way of the code

module _ (limit : ℕ) (text : List ℕ) where
  pub no_text : length text ≡ 0 → refused_by WrongEnd 1 ≡ header_of limit text
  unfolding header_of header_answer refuse
  no_text e = rw (eq-eqb (length text) 0 e)

  module _ (n : length text ≡ 0 → ⊥) where
    pub short_text : length text < 7 → refused_by Malformed 1 ≡ header_of limit text
    unfolding header_of header_answer refuse
    short_text h = rw (ne_eqb (length text) 0 n, lt-ltb (length text) 7 h)

    module _ (h : 7 ≤ length text) where
      pub header_12 : malformed 0 (header_line text) ≡ true → refused_by Malformed 1 ≡ header_of limit text
      unfolding header_of header_answer refuse
      header_12 a = rw (ne_eqb (length text) 0 n, le-ltb (length text) 7 h, a)

      module _ (a : malformed 0 (header_line text) ≡ false) where
        pub header_13 : (kind_in (header_line text) ≡ 1 → ⊥) → refused_by WrongFrame 1 ≡ header_of limit text
        unfolding header_of header_answer refuse
        header_13 b = rw (ne_eqb (length text) 0 n, le-ltb (length text) 7 h, a, ne_eqb (kind_in (header_line text)) 1 b)

        module _ (b : kind_in (header_line text) ≡ 1) (N k : ℕ) (p : N ≡ tiles_in (header_line text)) (q : k ≡ side_in (header_line text)) where
          pub header_1 : (bad_shape N k || ltb limit (N * k)) ≡ true → refused_by BadSizes 1 ≡ header_of limit text
          unfolding header_of header_answer refuse
          header_1 d = rw (ne_eqb (length text) 0 n, le-ltb (length text) 7 h, a, eq-eqb (kind_in (header_line text)) 1 b, ← p, ← q, d)

          pub header_shape : (bad_shape N k || ltb limit (N * k)) ≡ false → Ok (shape N k) ≡ header_of limit text
          unfolding header_of header_answer refuse
          header_shape d = rw (ne_eqb (length text) 0 n, le-ltb (length text) 7 h, a, eq-eqb (kind_in (header_line text)) 1 b, ← p, ← q, d) (cc)

pub length_header : (text : List ℕ) → 7 ≤ length text → length (header_line text) ≡ 7
length_header text h = length-take-le 7 text h

pub header_field : (text : List ℕ) (p n : ℕ) → 7 ≤ length text → malformed 0 (header_line text) ≡ false → p + n ≤ 6 → FieldOfDigits (header_line text) p n
header_field text p n h a b =
    let size = length_header text h in
    field_in (header_line text) p n (line_of_digits (header_line text) (omega arith) (well_formed 0 (header_line text) a)) (omega arith) (omega arith)

-- ---- in the definition by lines

module _ (limit : ℕ) (frames : ℕ → List Frame) (lengths : ℕ → ℕ → Bool) where
  -- what comes after an accepted header, where ls are the lines after it
  abbrev pub behind_header : List ℕ → List (List ℕ) → Answer
  behind_header h ls = refuse BadLengths 0 (lengths (tiles_in h) (side_in h)) (lines_answer (side_in h) 2 (frames (tiles_in h)) ls)

  -- the header's own refusals
  own_answer : Bool → List ℕ → Answer → Answer
  own_answer b h r = refuse Malformed 1 b (refuse WrongFrame 1 (not (eqb (kind_in h) 1)) (refuse BadSizes 1 (bad_shape (tiles_in h) (side_in h) || ltb limit (tiles_in h * side_in h)) r))

  own_passed : (b : Bool) (h : List ℕ) (r : Answer) → own_answer b h r ≡ passed (own_answer b h accepted) r
  unfolding own_answer
  own_passed b h r =
      let s = bad_shape (tiles_in h) (side_in h) || ltb limit (tiles_in h * side_in h) in
      let k = not (eqb (kind_in h) 1) in
      ap (λ (z : Answer). refuse Malformed 1 b (refuse WrongFrame 1 k z)) (refuse_passed BadSizes 1 s accepted r)
      ∙ ap (refuse Malformed 1 b) (refuse_passed WrongFrame 1 k (refuse BadSizes 1 s accepted) r)
      ∙ refuse_passed Malformed 1 b (refuse WrongFrame 1 k (refuse BadSizes 1 s accepted)) r

  file_of : (h : List ℕ) (ls : List (List ℕ)) → file_answer limit frames lengths (h ∷ ls) ≡ own_answer (bad_line 0 1 h) h (behind_header h ls)
  unfolding file_answer own_answer
  file_of h ls = refl

  no_file : (r : Answer) → file_answer limit frames lengths (lines_from [] []) ≡ passed (header_answer limit []) r
  unfolding file_answer lines_from last_line header_answer refuse
  no_file r = refl

  bad_first : (h : List ℕ) (r : Answer) → bad_line 0 1 h ≡ true → own_answer (bad_line 0 1 h) h r ≡ refused_by Malformed 1
  unfolding own_answer refuse
  bad_first h r e = rw e

  head_bad : (text : List ℕ) → 0 < length text → (7 ≤ length text → not_digits (take 7 text) ≡ true) → header_answer limit text ≡ refused_by Malformed 1
  unfolding header_answer own_answer refuse malformed
  head_bad text h n = rw (ne_eqb (length text) 0 (λ e. omega arith)) (go (true_or_false (ltb (length text) 7)))
    where
      go : (ltb (length text) 7 ≡ true) ⊎ (ltb (length text) 7 ≡ false)
          → refuse Malformed 1 (ltb (length text) 7) (own_answer (malformed 0 (take 7 text)) (take 7 text) accepted) ≡ refused_by Malformed 1
      go (inl e) = rw e
      go (inr e) = rw (e, n (ltb-false (length text) 7 e))

  head_good : (text : List ℕ) → 7 ≤ length text → header_answer limit text ≡ own_answer (bad_line 0 1 (take 7 text)) (take 7 text) accepted
  unfolding header_answer own_answer refuse line_length
  head_good text h =
      rw (ne_eqb (length text) 0 (λ e. omega arith), le-ltb (length text) 7 h, as_malformed 0 1 (take 7 text) (length-take-le 7 text h))

  pub file_headed : (text : List ℕ) → file_answer limit frames lengths (lines_from [] text) ≡ passed (header_answer limit text) (behind_header (header_line text) (lines_from [] (drop 7 text)))
  unfolding line_length
  file_headed text = go (first 7 text (omega arith))
    where
      r : Answer
      r = behind_header (header_line text) (lines_from [] (drop 7 text))

      go : First 7 text → file_answer limit frames lengths (lines_from [] text) ≡ passed (header_answer limit text) r
      go (none e) = subst (λ (ys : List ℕ). file_answer limit frames lengths (lines_from [] ys) ≡ passed (header_answer limit ys) r) (sym e) (no_file r)
      go (bad l ls h e b n) =
          ap (file_answer limit frames lengths) e ∙ file_of l ls ∙ bad_first l (behind_header l ls) (bad_line_lem 0 1 l b) ∙ sym (ap (λ (a : Answer). passed a r) (head_bad text h n))
      go (good h q e) =
          ap (file_answer limit frames lengths) e ∙ file_of (take 7 text) (lines_from [] (drop 7 text))
          ∙ own_passed (bad_line 0 1 (take 7 text)) (take 7 text) r ∙ sym (ap (λ (a : Answer). passed a r) (head_good text h))

-- ---- line 1 by itself

abbrev none_due : ℕ → List Frame
none_due N = []

abbrev any_length : ℕ → ℕ → Bool
any_length N t = false

abbrev line_alone : List (List ℕ) → Answer
line_alone ls = file_answer no_limit none_due any_length (take 1 ls)

-- where ls are the lines of the text, what line 1 tells is what the header answers
abbrev Alone : List ℕ → List (List ℕ) → Type 0
Alone text ls = (system_reading (line_alone ls) (take 1 ls) []).answer ≡ sizes_told (header_of no_limit text)

alone_none : Alone [] (lines_from [] [])
unfolding file_answer lines_from last_line header_of header_answer refuse system_reading
alone_none = refl

alone_bad : (text : List ℕ) (ls : List (List ℕ)) → line_alone ls ≡ refused_by Malformed 1 → header_answer no_limit text ≡ refused_by Malformed 1 → Alone text ls
unfolding header_of system_reading
alone_bad text ls p q = rw (p, q)

alone_told : (a : Answer) (h : List ℕ) → (system_reading a (h ∷ []) []).answer ≡ sizes_told (shaped a h)
unfolding system_reading
alone_told (Ok _) h = refl
alone_told (Err why) h = refl

nothing_behind : (h : List ℕ) → behind_header no_limit none_due any_length h [] ≡ accepted
unfolding lines_answer refuse
nothing_behind h = refl

module _ (text : List ℕ) where
  alone_good : (ls : List (List ℕ)) → 7 ≤ length text → Alone text (header_line text ∷ ls)
  unfolding header_of
  alone_good ls h =
      let l = header_line text in
      let e : line_alone (l ∷ ls) ≡ header_answer no_limit text =
      file_of no_limit none_due any_length l [] ∙ ap (own_answer no_limit none_due any_length (bad_line 0 1 l) l) (nothing_behind l) ∙ sym (head_good no_limit none_due any_length text h) in
      ap (λ (a : Answer). (system_reading a (l ∷ []) []).answer) e ∙ alone_told (header_answer no_limit text) l

  alone : First 7 text → Alone text (lines_from [] text)
  unfolding line_length
  alone (none e) = subst (λ (ys : List ℕ). Alone ys (lines_from [] ys)) (sym e) alone_none
  alone (bad l ls h e b n) =
      alone_bad text (lines_from [] text)
      (ap line_alone e ∙ file_of no_limit none_due any_length l [] ∙ bad_first no_limit none_due any_length l (behind_header no_limit none_due any_length l []) (bad_line_lem 0 1 l b))
      (head_bad no_limit none_due any_length text h n)
  alone (good h q e) = subst (Alone text) (sym e) (alone_good (lines_from [] (drop 7 text)) h)

  pub sizes_alone : (r : Header) → r ≡ header_of no_limit text → sizes_told r ≡ sizes_in text
  unfolding sizes_in
  sizes_alone r e = ap sizes_told e ∙ sym (alone (first 7 text (omega arith)))

  -- what it says of every reading
  module _ (frames : ℕ → List Frame) (lengths : ℕ → ℕ → Bool) where
    abbrev behind : Answer
    behind = behind_header no_limit frames lengths (header_line text) (lines_from [] (drop 7 text))

    told_refused : (a : Answer) (why : Refusal) → sizes_told (shaped a (header_line text)) ≡ Err why → passed a behind ≡ Err why
    told_refused (Ok _) why e = let z : ◌≡◌ {A = ℕ} 0 1 = cc in absurd (omega arith)
    told_refused (Err w) why e = cc

    told_sized : (a : Answer) (N t : ℕ) → sizes_told (shaped a (header_line text)) ≡ Ok (SystemRead N t)
        → passed a behind ≡ refuse BadLengths 0 (lengths N t) (lines_answer t 2 (frames N) (lines_from [] (drop 7 text)))
    told_sized (Ok _) N t e = let p : tiles_in (header_line text) ≡ N = cc in let q : side_in (header_line text) ≡ t = cc in rw (p, q)
    told_sized (Err why) N t e = let z : ◌≡◌ {A = ℕ} 0 1 = cc in absurd (omega arith)

  pub foretold : (r : Header) → r ≡ header_of no_limit text → Foretells text (sizes_told r)
  unfolding header_of
  foretold r e = record {
    refused = λ why q frames lengths. file_headed no_limit frames lengths text ∙ told_refused frames lengths (header_answer no_limit text) why (sym (ap sizes_told e) ∙ q);
    sized = λ N t q frames lengths. file_headed no_limit frames lengths text ∙ told_sized frames lengths (header_answer no_limit text) N t (sym (ap sizes_told e) ∙ q);
  }
