-- The fields of a line: what its digits stand for, and that they are the digits of what they stand for. Assumes nothing.
use mathlib.Core.Path.{◌≡◌, refl, sym, ap, ◌∙◌, subst}
use mathlib.Core.Bool.{true, false, ◌&&◌}
use mathlib.Core.List.{List, [], ◌∷◌, ◌++◌, map}
use Prim.Native.Nat.{ℕ, suc, ◌+◌, ◌-◌, ◌^◌, ◌≤◌, ◌<◌}
use native.Mathlib.Omega.{arith}
use lib.Dec.{eqb}
use lib.ListN.{length, get_or, take, drop, length-append, length-drop, take-append-drop}
use lib.Seq.{length-take-le, take-add, drop-cons, drop-length}
use borrow.Author.Tests.{eqb-true, not-false}
use Rattle.model.specs.Lists.{every, joined, part}
use Rattle.model.specs.Text.{hex, line}
use Rattle.model.specs.Read.{is_digit, field, not_digits}
use Rattle.laws.proofs.Tests.{never, and_left, and_right}
use Rattle.laws.proofs.Every.{every_take, every_drop, every_both}
use Rattle.digits_written.proofs.Put.{length_hex}
use Rattle.round_trip.proofs.Numbers.{value, hex_digits, value_of_hex, hex_of_value, value_below}
use Rattle.round_trip.proofs.Lines.{Line}
use Rattle.round_trip.proofs.Grid.{part_left, part_right}

-- ---- digits joined

pub digits_joined : {A : Type 0} (f : A → List ℕ) (xs : List A) → ((x : A) → every is_digit (f x) ≡ true) → every is_digit (joined (map f xs)) ≡ true
unfolding every joined
digits_joined f [] h = refl
digits_joined f (x ∷ xs) h = every_both is_digit (f x) (joined (map f xs)) (h x) (digits_joined f xs h)

-- ---- a field of a line of digits

module _ (ds : List ℕ) (p n : ℕ) (room : p + n ≤ length ds) where
  field_is : field p n (line ds) ≡ value (part p n ds) 0
  unfolding field line
  field_is = ap (λ (l : List ℕ). value l 0) (part_left p n ds (10 ∷ []) room)

  -- the digits of a field are those of what it stands for
  pub field_hex : every is_digit ds ≡ true → hex n (field p n (line ds)) ≡ part p n ds
  field_hex e =
      let l : length (part p n ds) ≡ n = length-take-le n (drop p ds) (rw length-drop (omega arith)) in
      ap (hex n) field_is ∙ subst (λ (k : ℕ). hex k (value (part p n ds) 0) ≡ part p n ds) l (hex_of_value (part p n ds) 0 (every_take is_digit n (drop p ds) (every_drop is_digit p ds e)))

  pub field_below : every is_digit ds ≡ true → field p n (line ds) < 16 ^ n
  field_below e =
      let l : length (part p n ds) ≡ n = length-take-le n (drop p ds) (rw length-drop (omega arith)) in
      rw field_is (subst (λ (k : ℕ). value (part p n ds) 0 < 16 ^ k) l (value_below (part p n ds) (every_take is_digit n (drop p ds) (every_drop is_digit p ds e))))

  -- where the digits of a number stand it is read
  pub field_reads : (x : ℕ) → x < 16 ^ n → part p n ds ≡ hex n x → field p n (line ds) ≡ x
  field_reads x h e = field_is ∙ ap (λ (l : List ℕ). value l 0) e ∙ value_of_hex n x h

-- a line that is digits ended by 0A
pub line_of : (l : List ℕ) → not_digits l ≡ false → Line l
unfolding not_digits line
line_of [] e = never (and_right (every is_digit []) (eqb 0 10) (not-false (every is_digit [] && eqb 0 10) e)) refl
line_of (x ∷ xs) e =
    let l = x ∷ xs in
    let k = length l - 1 in
    let b = not-false (every is_digit (take k l) && eqb (get_or l k 0) 10) e in
    let last : get_or l k 0 ≡ 10 = eqb-true (get_or l k 0) 10 (and_right (every is_digit (take k l)) (eqb (get_or l k 0) 10) b) in
    let s : suc k ≡ length l = omega arith in
    record {
      digits = take k l;
      is =
          sym (take-append-drop k l) ∙ ap (λ (r : List ℕ). take k l ++ r) (drop-cons l k 0 (omega arith) ∙ ap (λ (y : ℕ). y ∷ drop (suc k) l) last ∙ ap (λ (n : ℕ). 10 ∷ drop n l) s ∙ ap (λ (r : List ℕ). 10 ∷ r) (drop-length l));
      right = and_left (every is_digit (take k l)) (eqb (get_or l k 0) 10) b;
    }

-- ---- a frame's line: three numbers of two digits, and what follows

module _ (a b c : ℕ) (body : List ℕ) where
  abbrev pub framed : List ℕ
  framed = hex 2 a ++ hex 2 b ++ hex 2 c ++ body

  pub length_framed : length framed ≡ 6 + length body
  length_framed = simp (length-append, length_hex) (omega arith)

  pub framed_digits : every is_digit body ≡ true → every is_digit framed ≡ true
  framed_digits e =
      every_both is_digit (hex 2 a ++ hex 2 b ++ hex 2 c) body
      (every_both is_digit (hex 2 a ++ hex 2 b) (hex 2 c) (every_both is_digit (hex 2 a) (hex 2 b) (hex_digits 2 a) (hex_digits 2 b)) (hex_digits 2 c))
      e

  first_two : part 0 2 framed ≡ hex 2 a
  unfolding hex
  first_two = refl

  next_two : part 2 2 framed ≡ hex 2 b
  unfolding hex
  next_two = refl

  last_two : part 4 2 framed ≡ hex 2 c
  unfolding hex
  last_two = refl

  pub framed_part : (p n : ℕ) → part (6 + p) n framed ≡ part p n body
  framed_part p n = part_right 6 p n (hex 2 a ++ hex 2 b ++ hex 2 c) body (simp (length-append, length_hex))

  pub reads_a : a < 256 → field 0 2 (line framed) ≡ a
  reads_a h = field_reads framed 0 2 (omega (arith, length_framed)) a h first_two

  pub reads_b : b < 256 → field 2 2 (line framed) ≡ b
  reads_b h = field_reads framed 2 2 (omega (arith, length_framed)) b h next_two

  pub reads_c : c < 256 → field 4 2 (line framed) ≡ c
  reads_c h = field_reads framed 4 2 (omega (arith, length_framed)) c h last_two

-- digits cut into a frame's fields
pub cut : (ds : List ℕ) → ds ≡ part 0 2 ds ++ part 2 2 ds ++ part 4 2 ds ++ drop 6 ds
cut ds = sym (take-append-drop 6 ds) ∙ ap (λ (l : List ℕ). l ++ drop 6 ds) (take-add 4 2 ds ∙ ap (λ (l : List ℕ). l ++ part 4 2 ds) (take-add 2 2 ds))

pub framed_again : (ds : List ℕ) → every is_digit ds ≡ true → 6 ≤ length ds → framed (field 0 2 (line ds)) (field 2 2 (line ds)) (field 4 2 (line ds)) (drop 6 ds) ≡ ds
framed_again ds e h = rw (field_hex ds 0 2 (omega arith) e, field_hex ds 2 2 (omega arith) e, field_hex ds 4 2 (omega arith) e) (sym (cut ds))
