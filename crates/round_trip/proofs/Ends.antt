-- The header and the outcome's line: written, accepted and read back; and accepted lines are what is written of them. Assumes nothing.
use mathlib.Core.Path.{◌≡◌, refl, sym, ap, ◌∙◌, subst}
use mathlib.Core.Bool.{Bool, true, false, not, cond, ◌&&◌, ◌||◌, and-false}
use mathlib.Core.List.{List, [], ◌++◌, append-nil}
use Prim.Native.Nat.{ℕ, zero, suc, ◌<◌}
use native.Mathlib.Omega.{arith}
use lib.Dec.{eqb, ltb}
use lib.ListN.{length, drop, length-append, length-drop}
use lib.Seq.{take_all, take-add}
use borrow.Author.Tests.{eqb-true, eq-eqb, not-false, ltb-false}
use Rattle.model.specs.declared.Outcome.{Outcome}
use Rattle.model.specs.declared.Outcome.TheVariants.{Good, Overflow, Singular}
use Rattle.model.specs.Lists.{every, part}
use Rattle.model.specs.Loops.{outcome_number, outcome_place}
use Rattle.model.specs.Refusal.{inside}
use Rattle.model.specs.Text.{hex, line, outcome_frame}
use Rattle.model.specs.Read.{is_digit, field, kind_in, line_length, outcome_in, not_digits, bad_content, bad_line, wrong_frame, not_finite_in, tiles_in, side_in}
use Rattle.laws.proofs.Tests.{and_left, or_false_left}
use Rattle.laws.proofs.Every.{every_both}
use Rattle.laws.proofs.Parts.{empty}
use Rattle.digits_written.proofs.Put.{length_hex}
use Rattle.round_trip.proofs.Numbers.{hex_digits}
use Rattle.round_trip.proofs.Lines.{Line}
use Rattle.round_trip.proofs.Fields.{field_hex, field_reads, framed, length_framed, framed_digits, reads_a, reads_b, reads_c, framed_again}
use Rattle.round_trip.proofs.Checks.{Fine, frame, length_line, digits_line, sound, sound_of}

-- ---- 04: the outcome

abbrev short : ℕ → ℕ → ℕ → List ℕ
short a b c = hex 2 a ++ hex 2 b ++ hex 4 c

length_short : (a b c : ℕ) → length (short a b c) ≡ 8
length_short a b c = simp (length-append, length_hex)

short_digits : (a b c : ℕ) → every is_digit (short a b c) ≡ true
short_digits a b c = every_both is_digit (hex 2 a ++ hex 2 b) (hex 4 c) (every_both is_digit (hex 2 a) (hex 2 b) (hex_digits 2 a) (hex_digits 2 b)) (hex_digits 4 c)

module _ (a b c : ℕ) where
  first_two : part 0 2 (short a b c) ≡ hex 2 a
  unfolding hex
  first_two = refl

  next_two : part 2 2 (short a b c) ≡ hex 2 b
  unfolding hex
  next_two = refl

  last_four : part 4 4 (short a b c) ≡ hex 4 c
  unfolding hex
  last_four = refl

  short_a : a < 256 → field 0 2 (line (short a b c)) ≡ a
  short_a h = field_reads (short a b c) 0 2 (omega (arith, length_short a b c)) a h first_two

  short_b : b < 256 → field 2 2 (line (short a b c)) ≡ b
  short_b h = field_reads (short a b c) 2 2 (omega (arith, length_short a b c)) b h next_two

  short_c : c < 65536 → field 4 4 (line (short a b c)) ≡ c
  short_c h = field_reads (short a b c) 4 4 (omega (arith, length_short a b c)) c h last_four

number_small : (o : Outcome) → outcome_number o < 256
number_small Good = omega arith
number_small (Overflow p) = omega arith
number_small (Singular x) = omega arith

-- the tests of an outcome's content, by its number and its place
abbrev wrong : ℕ → ℕ → Bool
wrong n p = ltb 2 n || eqb n 0 && not (eqb p 0)

right : (o : Outcome) → wrong (outcome_number o) (outcome_place o) ≡ false
right Good = refl
right (Overflow p) = refl
right (Singular x) = refl

abbrev outcome_of : ℕ → ℕ → Outcome
outcome_of n p = cond (eqb n 0) Good (cond (eqb n 1) (Overflow p) (Singular p))

outcome_of_lem : (o : Outcome) → outcome_of (outcome_number o) (outcome_place o) ≡ o
outcome_of_lem Good = refl
outcome_of_lem (Overflow p) = refl
outcome_of_lem (Singular x) = refl

number_of : (n p : ℕ) → wrong n p ≡ false → outcome_number (outcome_of n p) ≡ n
number_of zero p e = refl
number_of (suc zero) p e = refl
number_of (suc (suc zero)) p e = refl
number_of (suc (suc (suc n))) p e = absurd (omega (arith, ltb-false 2 (suc (suc (suc n))) (or_false_left (ltb 2 (suc (suc (suc n)))) (eqb (suc (suc (suc n))) 0 && not (eqb p 0)) e)))

place_of : (n p : ℕ) → wrong n p ≡ false → outcome_place (outcome_of n p) ≡ p
place_of zero p e = sym (eqb-true p 0 (not-false (eqb p 0) e))
place_of (suc zero) p e = refl
place_of (suc (suc zero)) p e = refl
place_of (suc (suc (suc n))) p e = absurd (omega (arith, ltb-false 2 (suc (suc (suc n))) (or_false_left (ltb 2 (suc (suc (suc n)))) (eqb (suc (suc (suc n))) 0 && not (eqb p 0)) e)))

kind_4 : (t : ℕ) (l : List ℕ) → kind_in l ≡ 4 → wrong (field 2 2 l) (field 4 4 l) ≡ false → bad_content t l ≡ false
unfolding bad_content
kind_4 t l e w = rw (e, w) (and-false (eqb (length l) (line_length t 4)))

content_4 : (t : ℕ) (l : List ℕ) → kind_in l ≡ 4 → length l ≡ 9 → bad_content t l ≡ false → wrong (field 2 2 l) (field 4 4 l) ≡ false
unfolding bad_content line_length
content_4 t l e h b = rw (e, eq-eqb (length l) 9 h) at b

module _ (o : Outcome) (small : outcome_place o < 65536) where
  abbrev n : ℕ
  n = outcome_number o

  abbrev p : ℕ
  p = outcome_place o

  outcome_b : field 2 2 (outcome_frame o) ≡ n
  unfolding outcome_frame
  outcome_b = short_b 4 n p (number_small o)

  outcome_c : field 4 4 (outcome_frame o) ≡ p
  unfolding outcome_frame
  outcome_c = short_c 4 n p small

  pub outcome_read : outcome_in (outcome_frame o) ≡ o
  unfolding outcome_in
  outcome_read = rw (outcome_b, outcome_c) (outcome_of_lem o)

  outcome_kind : kind_in (outcome_frame o) ≡ 4
  unfolding outcome_frame kind_in
  outcome_kind = short_a 4 n p (omega arith)

  pub outcome_fine : (t : ℕ) → Fine t (frame 4 0 0) (outcome_frame o)
  unfolding outcome_frame line_length not_finite_in inside wrong_frame
  outcome_fine t = record {
    whole =
        sound t 4 4 (outcome_frame o) (digits_line (short 4 n p) (short_digits 4 n p)) outcome_kind refl (length_line (short 4 n p) ∙ omega (arith, length_short 4 n p))
        (kind_4 t (outcome_frame o) outcome_kind (rw (outcome_b, outcome_c) (right o)));
    placed = rw outcome_kind;
    numbers = refl;
  }

pub outcome_lined : (o : Outcome) → Line (outcome_frame o)
unfolding outcome_frame
outcome_lined o = record { digits = short 4 (outcome_number o) (outcome_place o); is = refl; right = short_digits 4 (outcome_number o) (outcome_place o) }

cut_short : (ds : List ℕ) → length ds ≡ 8 → ds ≡ part 0 2 ds ++ part 2 2 ds ++ part 4 4 ds
cut_short ds h =
    sym (take_all 8 ds (omega arith)) ∙ take-add 4 4 ds ∙ ap (λ (l : List ℕ). l ++ part 4 4 ds) (take-add 2 2 ds)

outcome_back : (t : ℕ) (ds : List ℕ) → every is_digit ds ≡ true → Fine t (frame 4 0 0) (line ds) → line ds ≡ outcome_frame (outcome_in (line ds))
unfolding outcome_frame outcome_in line_length wrong_frame kind_in
outcome_back t ds e w =
    let l = line ds in
    let s = sound_of t 4 l w.whole in
    let long : length ds ≡ 8 = omega (arith, length_line ds, s.long) in
    let k : field 0 2 l ≡ 4 = eqb-true (field 0 2 l) 4 (and_left (eqb (field 0 2 l) 4) true (not-false (eqb (field 0 2 l) 4 && true) w.placed)) in
    let r : wrong (field 2 2 l) (field 4 4 l) ≡ false = content_4 t l k s.long s.content in
    let cutted : ds ≡ short (field 0 2 l) (field 2 2 l) (field 4 4 l) =
    cut_short ds long ∙ sym (rw (field_hex ds 0 2 (omega arith) e, field_hex ds 2 2 (omega arith) e, field_hex ds 4 4 (omega arith) e)) in
    ap line
    (cutted ∙ ap (λ (x : ℕ). short x (field 2 2 l) (field 4 4 l)) k
    ∙ ap (λ (x : ℕ). short 4 x (field 4 4 l)) (sym (number_of (field 2 2 l) (field 4 4 l) r))
    ∙ ap (λ (x : ℕ). short 4 (outcome_number (outcome_of (field 2 2 l) (field 4 4 l))) x) (sym (place_of (field 2 2 l) (field 4 4 l) r)))

pub outcome_again : (t : ℕ) (l : List ℕ) → Fine t (frame 4 0 0) l → l ≡ outcome_frame (outcome_in l)
outcome_again t l w =
    let x = (sound_of t 4 l w.whole).lined in
    subst (λ (y : List ℕ). Fine t (frame 4 0 0) y → y ≡ outcome_frame (outcome_in y)) (sym x.is) (outcome_back t x.digits x.right) w

-- ---- 01: the header

abbrev pub header_line : ℕ → ℕ → List ℕ
header_line N t = line (hex 2 1 ++ hex 2 N ++ hex 2 t)

header_is : (N t : ℕ) → header_line N t ≡ line (framed 1 N t [])
header_is N t = ap line (sym (append-nil (hex 2 1 ++ hex 2 N ++ hex 2 t)))

kind_1 : (l : List ℕ) → kind_in l ≡ 1 → bad_content 0 l ≡ false
unfolding bad_content
kind_1 l e = rw e (and-false (eqb (length l) (line_length 0 1)))

module _ (N t : ℕ) where
  pub header_lined : Line (header_line N t)
  unfolding every
  header_lined = record { digits = framed 1 N t []; is = header_is N t; right = framed_digits 1 N t [] refl }

  pub header_kind : kind_in (header_line N t) ≡ 1
  unfolding kind_in
  header_kind = ap (field 0 2) (header_is N t) ∙ reads_a 1 N t [] (omega arith)

  pub header_tiles : N < 256 → tiles_in (header_line N t) ≡ N
  unfolding tiles_in
  header_tiles h = ap (field 2 2) (header_is N t) ∙ reads_b 1 N t [] h

  pub header_side : t < 256 → side_in (header_line N t) ≡ t
  unfolding side_in
  header_side h = ap (field 4 2) (header_is N t) ∙ reads_c 1 N t [] h

  pub header_fine : bad_line 0 1 (header_line N t) ≡ false
  unfolding line_length inside every
  header_fine =
      sound 0 1 1 (header_line N t) (ap not_digits (header_is N t) ∙ digits_line (framed 1 N t []) (framed_digits 1 N t [] refl)) header_kind refl
      (ap length (header_is N t) ∙ length_line (framed 1 N t []) ∙ omega (arith, length_framed 1 N t [])) (kind_1 (header_line N t) header_kind)

header_back : (ds : List ℕ) → every is_digit ds ≡ true → bad_line 0 1 (line ds) ≡ false → kind_in (line ds) ≡ 1 → line ds ≡ header_line (tiles_in (line ds)) (side_in (line ds))
unfolding line_length kind_in tiles_in side_in
header_back ds e w k =
    let l = line ds in
    let long : length ds ≡ 6 = omega (arith, length_line ds, (sound_of 0 1 l w).long) in
    let rest : drop 6 ds ≡ [] = empty (drop 6 ds) (length-drop 6 ds ∙ omega arith) in
    ap line (sym (framed_again ds e (omega arith)) ∙ ap (λ (x : ℕ). framed x (field 2 2 l) (field 4 2 l) (drop 6 ds)) k ∙ ap (framed 1 (field 2 2 l) (field 4 2 l)) rest)
    ∙ sym (header_is (field 2 2 l) (field 4 2 l))

pub header_again : (l : List ℕ) → bad_line 0 1 l ≡ false → kind_in l ≡ 1 → l ≡ header_line (tiles_in l) (side_in l)
header_again l w k =
    let x = (sound_of 0 1 l w).lined in
    subst (λ (y : List ℕ). bad_line 0 1 y ≡ false → kind_in y ≡ 1 → y ≡ header_line (tiles_in y) (side_in y)) (sym x.is) (header_back x.digits x.right) w k
