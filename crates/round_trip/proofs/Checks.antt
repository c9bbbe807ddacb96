-- A line of each kind: what is written is accepted and read back, and what is accepted is what is written of it. Assumes nothing.
use mathlib.Core.Path.{◌≡◌, refl, sym, ap, ◌∙◌, subst}
use mathlib.Core.Bool.{true, false, not, ◌&&◌, ◌||◌, and-false}
use mathlib.Core.List.{List, [], ◌∷◌, map, map-map}
use Prim.Native.Nat.{ℕ, suc, ◌+◌, ◌-◌, ◌*◌, ◌^◌, ◌≤◌, ◌<◌}
use native.Mathlib.Nat.{mul_comm}
use native.Mathlib.Omega.{arith}
use lib.Dec.{eqb, ltb}
use lib.ListN.{length, get_or, take, drop, length-append, length-drop}
use lib.Seq.{take-append_seam, take_all, get_or-append_seam, drop-drop}
use lib.Ieee.{Float, nan, binary64, to_bits, of_bits}
use lib.Ieee.Bits.{of_bits-to_bits, to_bits-of_bits, to_bits-lt}
use borrow.Author.Tests.{eqb-true, eq-eqb, not-false, le-ltb}
use Rattle.model.specs.Lists.{below, table, every, some, joined, part}
use Rattle.model.specs.Num.{finite}
use Rattle.model.specs.Tile.{all_finite}
use Rattle.model.specs.Refusal.{inside}
use Rattle.model.specs.Text.{hex, line, bits}
use Rattle.model.specs.Read.{Frame, is_digit, field, kind_in, line_length, numbers_in, entries_in, not_digits, bad_content, bad_line, wrong_frame, not_finite_in}
use Rattle.laws.proofs.Finite.{not_nan}
use Rattle.laws.proofs.Tests.{and_left, and_right, and_intro, or_false_left, or_false_right, false_or}
use Rattle.laws.proofs.Blocks.{length_table, get_or_table, table_unique}
use Rattle.laws.proofs.Runs.{map_below, length_joined}
use Rattle.digits_written.proofs.Put.{length_hex}
use Rattle.digits_written.proofs.Pieces.{length_bits}
use Rattle.laws.proofs.Every.{every_at}
use Rattle.round_trip.specs.Trips.{Held}
use Rattle.round_trip.proofs.Numbers.{hex_digits}
use Rattle.round_trip.proofs.Lines.{Line}
use Rattle.round_trip.proofs.Grid.{piece, pieces}
use Rattle.round_trip.proofs.Fields.{digits_joined, field_hex, field_below, field_reads, line_of, framed, length_framed, framed_digits, framed_part, reads_a, reads_b, reads_c, framed_again}

-- a line that is accepted where the frame f is due
pub record Fine (t : ℕ) (f : Frame) (l : List ℕ) : Type 0 where
  pub whole : bad_line t f.kind l ≡ false
  pub placed : wrong_frame f l ≡ false
  pub numbers : not_finite_in t f l ≡ false

-- ---- 12

pub length_line : (ds : List ℕ) → length (line ds) ≡ length ds + 1
unfolding line
length_line ds = length-append ds (10 ∷ [])

pub digits_line : (ds : List ℕ) → every is_digit ds ≡ true → not_digits (line ds) ≡ false
unfolding not_digits line
digits_line ds e =
    let k : length (line ds) - 1 ≡ length ds = omega (arith, length_line ds) in
    ap not (and_intro (every is_digit (take (length (line ds) - 1) (line ds))) (eqb (get_or (line ds) (length (line ds) - 1) 0) 10)
    (ap (λ (n : ℕ). every is_digit (take n (line ds))) k ∙ front)
    (eq-eqb (get_or (line ds) (length (line ds) - 1) 0) 10 (ap (λ (n : ℕ). get_or (line ds) n 0) k ∙ last)))
  where
    front : every is_digit (take (length ds) (line ds)) ≡ true
    front = ap (every is_digit) (take-append_seam ds (10 ∷ [])) ∙ e

    last : get_or (line ds) (length ds) 0 ≡ 10
    last = get_or-append_seam ds 10 [] 0

module _ (t due k : ℕ) (l : List ℕ) where
  pub sound : not_digits l ≡ false → kind_in l ≡ k → inside 5 k ≡ true → length l ≡ line_length t due → bad_content t l ≡ false → bad_line t due l ≡ false
  unfolding bad_line
  sound a b c d e = rw (a, b, c, eq-eqb (length l) (line_length t due) d, e)

-- what a line that is not 12 has
pub record Sound (t due : ℕ) (l : List ℕ) : Type 0 where
  pub lined : Line l
  pub long : length l ≡ line_length t due
  pub content : bad_content t l ≡ false

pub sound_of : (t due : ℕ) (l : List ℕ) → bad_line t due l ≡ false → Sound t due l
unfolding bad_line
sound_of t due l e =
    let a = not_digits l in
    let b = not (inside 5 (kind_in l)) in
    let c = not (eqb (length l) (line_length t due)) in
    let d = bad_content t l in
    record {
      lined = line_of l (or_false_left a b (or_false_left (a || b) c (or_false_left (a || b || c) d e)));
      long = eqb-true (length l) (line_length t due) (not-false (eqb (length l) (line_length t due)) (or_false_right (a || b) c (or_false_left (a || b || c) d e)));
      content = or_false_right (a || b || c) d e;
    }

-- ---- 13

-- what a line has where f, a frame with I and J, is due
pub record Placed (f : Frame) (l : List ℕ) : Type 0 where
  pub kind : kind_in l ≡ f.kind
  pub i : field 2 2 l ≡ f.i
  pub j : field 4 2 l ≡ f.j

pub placed_of : (f : Frame) (l : List ℕ) → eqb f.kind 4 ≡ false → wrong_frame f l ≡ false → Placed f l
unfolding wrong_frame
placed_of f l n e =
    let b = eqb (field 2 2 l) f.i && eqb (field 4 2 l) f.j in
    let a : (eqb (kind_in l) f.kind && b) ≡ true = not-false (eqb (kind_in l) f.kind && b) (rw n at e) in
    let q = and_right (eqb (kind_in l) f.kind) b a in
    record {
      kind = eqb-true (kind_in l) f.kind (and_left (eqb (kind_in l) f.kind) b a);
      i = eqb-true (field 2 2 l) f.i (and_left (eqb (field 2 2 l) f.i) (eqb (field 4 2 l) f.j) q);
      j = eqb-true (field 4 2 l) f.j (and_right (eqb (field 2 2 l) f.i) (eqb (field 4 2 l) f.j) q);
    }

pub right_place : (f : Frame) (l : List ℕ) → Placed f l → eqb f.kind 4 ≡ false → wrong_frame f l ≡ false
unfolding wrong_frame
right_place f l p n = rw (n, eq-eqb (kind_in l) f.kind p.kind, eq-eqb (field 2 2 l) f.i p.i, eq-eqb (field 4 2 l) f.j p.j)

-- ---- 02: tiles

abbrev pub tile_line : ℕ → ℕ → List Float → List ℕ
tile_line i j xs = line (framed 2 i j (joined (map bits xs)))

abbrev pub frame : ℕ → ℕ → ℕ → Frame
frame k i j = record { kind = k; i = i; j = j }

kind_2 : (t : ℕ) (l : List ℕ) → kind_in l ≡ 2 → bad_content t l ≡ false
unfolding bad_content
kind_2 t l e = rw e (and-false (eqb (length l) (line_length t 2)))

bits_digits : (x : Float) → every is_digit (bits x) ≡ true
unfolding bits
bits_digits x = hex_digits 16 (to_bits binary64 x)

module _ (i j : ℕ) (xs : List Float) where
  tile_digits : every is_digit (framed 2 i j (joined (map bits xs))) ≡ true
  tile_digits = framed_digits 2 i j (joined (map bits xs)) (digits_joined bits xs bits_digits)

  pub tile_lined : Line (tile_line i j xs)
  tile_lined = record { digits = framed 2 i j (joined (map bits xs)); is = refl; right = tile_digits }

module _ (t i j : ℕ) (xs : List Float) (long : length xs ≡ t * t) where
  length_body : length (joined (map bits xs)) ≡ 16 * (t * t)
  length_body = length_joined bits 16 length_bits xs ∙ ap (λ (n : ℕ). n * 16) long ∙ mul_comm (t * t) 16

  -- the numbers of a tile's line are read back
  pub numbers_read : Held xs → numbers_in t (tile_line i j xs) ≡ xs
  unfolding numbers_in table bits
  numbers_read held =
      sym (table_unique (t * t) (λ x. of_bits binary64 (field (6 + 16 * x) 16 (tile_line i j xs))) xs nan long
      (λ k h.
      let x = get_or xs k nan in
      let body = joined (map bits xs) in
      let there : part (6 + 16 * k) 16 (framed 2 i j body) ≡ hex 16 (to_bits binary64 x) =
      framed_part 2 i j body (16 * k) 16 ∙ ap (λ (n : ℕ). part n 16 body) (mul_comm 16 k) ∙ piece bits 16 length_bits xs k nan (omega arith) in
      sym (ap (of_bits binary64) (field_reads (framed 2 i j body) (6 + 16 * k) 16 (omega (arith, length_framed 2 i j body, length_body)) (to_bits binary64 x) (to_bits-lt binary64 x (held k)) there) ∙ of_bits-to_bits binary64 x (held k))))

  pub tile_fine : i < 256 → j < 256 → Held xs → all_finite xs ≡ true → Fine t (frame 2 i j) (tile_line i j xs)
  unfolding kind_in line_length not_finite_in inside
  tile_fine hi hj held fin' =
      let body = joined (map bits xs) in
      let l = tile_line i j xs in
      let k : kind_in l ≡ 2 = reads_a 2 i j body (omega arith) in
      record {
        whole = sound t 2 2 l (digits_line (framed 2 i j body) (tile_digits i j xs)) k refl (length_line (framed 2 i j body) ∙ omega (arith, length_framed 2 i j body, length_body)) (kind_2 t l k);
        placed = right_place (frame 2 i j) l (record { kind = k; i = reads_b 2 i j body hi; j = reads_c 2 i j body hj }) refl;
        numbers = ap (λ (ys : List Float). not (all_finite ys)) (numbers_read held) ∙ ap not fin';
      }

-- the pieces of a line's body, joined, are the body
body_again : (c n : ℕ) (g : ℕ → List ℕ) (ds : List ℕ) → length ds ≡ 6 + n * c → ((k : ℕ) → k < n → g k ≡ part (6 + c * k) c ds) → joined (map g (below n)) ≡ drop 6 ds
body_again c n g ds long h =
    ap joined
    (map_below g (λ k. part (k * c) c (drop 6 ds)) n
    (λ k b. h k b ∙ ap (λ (m : ℕ). part (6 + m) c ds) (mul_comm c k) ∙ sym (ap (take c) (drop-drop (k * c) 6 ds))))
    ∙ pieces c n (drop 6 ds) ∙ take_all (n * c) (drop 6 ds) (omega (arith, length-drop 6 ds))

-- digits that hold the fields of a frame are those of the frame
frame_again : (k i j : ℕ) (body ds : List ℕ) → every is_digit ds ≡ true → 6 ≤ length ds → Placed (frame k i j) (line ds) → body ≡ drop 6 ds → line ds ≡ line (framed k i j body)
unfolding kind_in
frame_again k i j body ds e h p b =
    ap line
    (sym (framed_again ds e h) ∙ ap (λ (x : ℕ). framed x (field 2 2 (line ds)) (field 4 2 (line ds)) (drop 6 ds)) p.kind
    ∙ ap (λ (x : ℕ). framed k x (field 4 2 (line ds)) (drop 6 ds)) p.i ∙ ap (λ (x : ℕ). framed k i x (drop 6 ds)) p.j ∙ ap (framed k i j) (sym b))

numbers_map : (t : ℕ) (l : List ℕ) → joined (map bits (numbers_in t l)) ≡ joined (map (λ x. bits (of_bits binary64 (field (6 + 16 * x) 16 l))) (below (t * t)))
unfolding numbers_in
numbers_map t l = ap joined (map-map bits (λ x. of_bits binary64 (field (6 + 16 * x) 16 l)) (below (t * t)))

number_at : (t : ℕ) (l : List ℕ) (k : ℕ) → k < t * t → every finite (numbers_in t l) ≡ true → finite (of_bits binary64 (field (6 + 16 * k) 16 l)) ≡ true
unfolding numbers_in table
number_at t l k h e =
    let f : ℕ → Float = λ x. of_bits binary64 (field (6 + 16 * x) 16 l) in
    ap finite (sym (get_or_table (t * t) f k nan h)) ∙ every_at finite (table (t * t) f) nan k e (rw length_table h)

bits_again : (x : ℕ) → x < 16 ^ 16 → finite (of_bits binary64 x) ≡ true → bits (of_bits binary64 x) ≡ hex 16 x
unfolding bits
bits_again x h e = ap (hex 16) (to_bits-of_bits binary64 x h (not_nan (of_bits binary64 x) e))

tile_back : (t i j : ℕ) (ds : List ℕ) → every is_digit ds ≡ true → Fine t (frame 2 i j) (line ds) → line ds ≡ tile_line i j (numbers_in t (line ds))
unfolding line_length not_finite_in all_finite
tile_back t i j ds e w =
    let n = t * t in
    let l = line ds in
    let g : ℕ → Float = λ x. of_bits binary64 (field (6 + 16 * x) 16 l) in
    let long : length ds ≡ 6 + n * 16 = omega (arith, length_line ds, (sound_of t 2 l w.whole).long) in
    let finite_all : every finite (numbers_in t l) ≡ true = not-false (every finite (numbers_in t l)) w.numbers in
    frame_again 2 i j (joined (map bits (numbers_in t l))) ds e (omega arith) (placed_of (frame 2 i j) l refl w.placed)
    (numbers_map t l ∙ body_again 16 n (λ x. bits (g x)) ds long
    (λ k h. bits_again (field (6 + 16 * k) 16 l) (field_below ds (6 + 16 * k) 16 (omega arith) e) (number_at t l k h finite_all) ∙ field_hex ds (6 + 16 * k) 16 (omega arith) e))

pub tile_again : (t i j : ℕ) (l : List ℕ) → Fine t (frame 2 i j) l → l ≡ tile_line i j (numbers_in t l)
tile_again t i j l w =
    let x = (sound_of t 2 l w.whole).lined in
    subst (λ (y : List ℕ). Fine t (frame 2 i j) y → y ≡ tile_line i j (numbers_in t y)) (sym x.is) (tile_back t i j x.digits x.right) w

-- ---- 03: row lists

abbrev pub row_line : ℕ → ℕ → List ℕ → List ℕ
row_line i j es = line (framed 3 i j (joined (map (hex 2) es)))

some_none : (t : ℕ) (es : List ℕ) → ((k : ℕ) → get_or es k 0 ≤ t) → some (ltb t) es ≡ false
unfolding some
some_none t [] h = refl
some_none t (x ∷ es) h = false_or (ltb t x) (some (ltb t) es) (le-ltb t x (h 0)) (some_none t es (λ k. h (suc k)))

kind_3 : (t : ℕ) (l : List ℕ) → kind_in l ≡ 3 → some (ltb t) (entries_in t l) ≡ false → bad_content t l ≡ false
unfolding bad_content
kind_3 t l e s = rw (e, s) (and-false (eqb (length l) (line_length t 3)))

module _ (i j : ℕ) (es : List ℕ) where
  row_digits : every is_digit (framed 3 i j (joined (map (hex 2) es))) ≡ true
  row_digits = framed_digits 3 i j (joined (map (hex 2) es)) (digits_joined (hex 2) es (hex_digits 2))

  pub row_lined : Line (row_line i j es)
  row_lined = record { digits = framed 3 i j (joined (map (hex 2) es)); is = refl; right = row_digits }

module _ (t i j : ℕ) (es : List ℕ) (long : length es ≡ t) where
  length_entries : length (joined (map (hex 2) es)) ≡ 2 * t
  length_entries = length_joined (hex 2) 2 (length_hex 2) es ∙ ap (λ (n : ℕ). n * 2) long ∙ mul_comm t 2

  -- the entries of a list's line are read back
  pub entries_read : ((k : ℕ) → get_or es k 0 < 256) → entries_in t (row_line i j es) ≡ es
  unfolding entries_in table
  entries_read small =
      sym (table_unique t (λ x. field (6 + 2 * x) 2 (row_line i j es)) es 0 long
      (λ k h.
      let body = joined (map (hex 2) es) in
      let there : part (6 + 2 * k) 2 (framed 3 i j body) ≡ hex 2 (get_or es k 0) =
      framed_part 3 i j body (2 * k) 2 ∙ ap (λ (n : ℕ). part n 2 body) (mul_comm 2 k) ∙ piece (hex 2) 2 (length_hex 2) es k 0 (omega arith) in
      sym (field_reads (framed 3 i j body) (6 + 2 * k) 2 (omega (arith, length_framed 3 i j body, length_entries)) (get_or es k 0) (small k) there)))

  pub row_fine : i < 256 → j < 256 → t < 256 → ((k : ℕ) → get_or es k 0 ≤ t) → Fine t (frame 3 i j) (row_line i j es)
  unfolding kind_in line_length not_finite_in inside
  row_fine hi hj ht small =
      let body = joined (map (hex 2) es) in
      let l = row_line i j es in
      let k : kind_in l ≡ 3 = reads_a 3 i j body (omega arith) in
      let none : some (ltb t) (entries_in t l) ≡ false = ap (some (ltb t)) (entries_read (λ k. omega (arith, small k))) ∙ some_none t es small in
      record {
        whole = sound t 3 3 l (digits_line (framed 3 i j body) (row_digits i j es)) k refl (length_line (framed 3 i j body) ∙ omega (arith, length_framed 3 i j body, length_entries)) (kind_3 t l k none);
        placed = right_place (frame 3 i j) l (record { kind = k; i = reads_b 3 i j body hi; j = reads_c 3 i j body hj }) refl;
        numbers = refl;
      }

row_back : (t i j : ℕ) (ds : List ℕ) → every is_digit ds ≡ true → Fine t (frame 3 i j) (line ds) → line ds ≡ row_line i j (entries_in t (line ds))
unfolding line_length entries_in
row_back t i j ds e w =
    let l = line ds in
    let long : length ds ≡ 6 + t * 2 = omega (arith, length_line ds, (sound_of t 3 l w.whole).long) in
    frame_again 3 i j (joined (map (hex 2) (entries_in t l))) ds e (omega arith) (placed_of (frame 3 i j) l refl w.placed)
    (ap joined (map-map (hex 2) (λ x. field (6 + 2 * x) 2 l) (below t)) ∙ body_again 2 t (λ x. hex 2 (field (6 + 2 * x) 2 l)) ds long (λ k h. field_hex ds (6 + 2 * k) 2 (omega arith) e))

pub row_again : (t i j : ℕ) (l : List ℕ) → Fine t (frame 3 i j) l → l ≡ row_line i j (entries_in t l)
row_again t i j l w =
    let x = (sound_of t 3 l w.whole).lined in
    subst (λ (y : List ℕ). Fine t (frame 3 i j) y → y ≡ row_line i j (entries_in t y)) (sym x.is) (row_back t i j x.digits x.right) w
