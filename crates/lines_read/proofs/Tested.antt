-- What the tests of a line come to, by the way that the code takes them. Assumes nothing.
use Prim.Native.Nat.{ℕ, ◌+◌, ◌-◌, ◌*◌, ◌≤◌, ◌<◌}
use mathlib.Core.Path.{◌≡◌, refl, sym, ap, ◌∙◌}
use mathlib.Core.Bool.{Bool, true, false, cond, not, ◌&&◌, ◌||◌, or-false}
use mathlib.Core.List.{List}
use native.Mathlib.Omega.{arith}
use lib.Dec.{eqb, ltb}
use lib.ListN.{length, get_or, take}
use lib.Seq.{get_or-take, length-take-le}
use borrow.Author.Tests.{eq-eqb, ne_eqb, le-leb, not-false}
use Rattle.laws.proofs.Tests.{and_left}
use Rattle.laws.proofs.Every.{every_at}
use Rattle.model.specs.Lists.{every, some}
use Rattle.model.specs.Answer.{accepted, refused_by}
use Rattle.model.specs.declared.Rule.TheVariants.{NotFinite, Malformed, WrongFrame}
use Rattle.model.specs.Tile.{all_finite}
use Rattle.model.specs.Refusal.{inside, refuse}
use Rattle.model.specs.Read.{Frame, is_digit, kind_in, line_length, entries_in, numbers_in, not_digits, bad_content, bad_line, wrong_frame, not_finite_in, line_answer}
use Rattle.digits_read.specs.Digits.{FieldOfDigits}
use Rattle.lines_read.specs.Line.{LineOfDigits, malformed, bad_entries, bad_outcome}

-- ---- digits ended by 0A

pub line_of_digits : (l : List ℕ) → 7 ≤ length l → not_digits l ≡ false → LineOfDigits l
unfolding not_digits
line_of_digits l h e =
    let front = take (length l - 1) l in
    let all : every is_digit front ≡ true = and_left (every is_digit front) (eqb (get_or l (length l - 1) 0) 10) (not-false _ e) in
    let size : length front ≡ length l - 1 = length-take-le (length l - 1) l (omega arith) in
    record {
      long = h;
      digits = λ k b. rw (get_or-take (length l - 1) l k 0 (omega arith)) at (every_at is_digit front 0 k all (omega arith));
    }

pub field_in : (l : List ℕ) (p n : ℕ) → LineOfDigits l → p + n < length l → n ≤ 16 → FieldOfDigits l p n
field_in l p n d h s = record { inside = omega arith; short = s; digits = λ k b. d.digits (p + k) (omega arith) }

-- ---- 12

pub as_malformed : (t due : ℕ) (l : List ℕ) → length l ≡ line_length t due → bad_line t due l ≡ malformed t l
unfolding bad_line malformed
as_malformed t due l e = rw (eq-eqb (length l) (line_length t due) e) (same (not_digits l) (not (inside 5 (kind_in l))) (bad_content t l))
  where
    same : (a b c : Bool) → (a || b || false || c) ≡ (a || b || c)
    same true b c = refl
    same false true c = refl
    same false false c = refl

-- the content test of the line's own kind
content_list : (t : ℕ) (l : List ℕ) → kind_in l ≡ 3 → bad_content t l ≡ bad_entries t l
unfolding bad_content bad_entries line_length
content_list t l e = rw e (ap (λ (b : Bool). eqb (length l) (7 + 2 * t) && b) (or-false (some (ltb t) (entries_in t l))))

content_outcome : (t : ℕ) (l : List ℕ) → kind_in l ≡ 4 → bad_content t l ≡ bad_outcome l
unfolding bad_content bad_outcome line_length
content_outcome t l e = rw e

module _ (t : ℕ) (l : List ℕ) (d : not_digits l ≡ false) where
  known : 1 ≤ kind_in l → kind_in l ≤ 5 → bad_content t l ≡ malformed t l
  unfolding malformed inside
  known b h = rw (d, le-leb 1 (kind_in l) b, le-leb (kind_in l) 5 h)

  pub list_line_lem : kind_in l ≡ 3 → bad_entries t l ≡ malformed t l
  list_line_lem e = sym (content_list t l e) ∙ known (omega arith) (omega arith)

  pub outcome_line_lem : kind_in l ≡ 4 → bad_outcome l ≡ malformed t l
  outcome_line_lem e = sym (content_outcome t l e) ∙ known (omega arith) (omega arith)

-- ---- the content tests of 12

pub other_size : (t : ℕ) (l : List ℕ) → (length l ≡ 7 + 2 * t → ⊥) → false ≡ bad_entries t l
unfolding bad_entries
other_size t l h = rw (ne_eqb (length l) (7 + 2 * t) h)

pub right_size : (t : ℕ) (l : List ℕ) → length l ≡ 7 + 2 * t → some (ltb t) (entries_in t l) ≡ bad_entries t l
unfolding bad_entries
right_size t l h = rw (eq-eqb (length l) (7 + 2 * t) h)

-- ---- 3

pub tile_length : (t k : ℕ) → k ≡ 2 → line_length t k ≡ 7 + 16 * (t * t)
unfolding line_length
tile_length t k e = rw e

pub no_tile : (t : ℕ) (f : Frame) (l : List ℕ) → (f.kind ≡ 2 → ⊥) → false ≡ not_finite_in t f l
unfolding not_finite_in
no_tile t f l n = rw (ne_eqb f.kind 2 n)

pub tile_finite : (t : ℕ) (f : Frame) (l : List ℕ) (b : Bool) → f.kind ≡ 2 → b ≡ all_finite (numbers_in t l) → not b ≡ not_finite_in t f l
unfolding not_finite_in
tile_finite t f l b e h = rw (eq-eqb f.kind 2 e) (ap not h)

-- ---- the three in turn

module _ (t x : ℕ) (f : Frame) (l : List ℕ) (size : length l ≡ line_length t f.kind) where
  pub answer_12 : malformed t l ≡ true → refused_by Malformed x ≡ line_answer t x f l accepted
  unfolding line_answer refuse
  answer_12 a = rw (as_malformed t f.kind l size, a)

  module _ (a : malformed t l ≡ false) where
    pub answer_13 : wrong_frame f l ≡ true → refused_by WrongFrame x ≡ line_answer t x f l accepted
    unfolding line_answer refuse
    answer_13 b = rw (as_malformed t f.kind l size, a, b)

    module _ (b : wrong_frame f l ≡ false) where
      pub answer_3 : not_finite_in t f l ≡ true → refused_by NotFinite x ≡ line_answer t x f l accepted
      unfolding line_answer refuse
      answer_3 d = rw (as_malformed t f.kind l size, a, b, d)

      pub answer_accepted : not_finite_in t f l ≡ false → accepted ≡ line_answer t x f l accepted
      unfolding line_answer refuse
      answer_accepted d = rw (as_malformed t f.kind l size, a, b, d)

-- a line of a kind that is due is at least 7 bytes long
pub length_above : (t k : ℕ) → 7 ≤ line_length t k
unfolding line_length
length_above t k = go (eqb k 1) (eqb k 2) (eqb k 3)
  where
    go : (a b c : Bool) → 7 ≤ cond a 7 (cond b (7 + 16 * (t * t)) (cond c (7 + 2 * t) 9))
    go true b c = omega arith
    go false true c = omega arith
    go false false true = omega arith
    go false false false = omega arith

pub well_formed : (t : ℕ) (l : List ℕ) → malformed t l ≡ false → not_digits l ≡ false
unfolding malformed
well_formed t l e = go (not_digits l) (not (inside 5 (kind_in l))) (bad_content t l) e
  where
    go : (a b c : Bool) → (a || b || c) ≡ false → a ≡ false
    go true b c e = e
    go false b c e = refl
