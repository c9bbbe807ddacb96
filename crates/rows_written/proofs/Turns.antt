-- What one turn of a row's loop, and of the loop over the rows, adds to the text. Assumes nothing.
use mathlib.Core.Path.{◌≡◌, sym, ap, ◌∙◌}
use mathlib.Core.Logic.{⊎_elim}
use mathlib.Core.List.{List, ◌++◌, map}
use Prim.Native.Nat.{ℕ, zero, suc, ◌+◌, ◌*◌, ◌≤◌, ◌<◌}
use native.Mathlib.Nat.{zero-mul, suc-mul, add-mul, mul-le-mul_right}
use native.Mathlib.Numerals.{add-one}
use native.Mathlib.Omega.{arith}
use lib.ListN.{length, length-append}
use lib.Ieee.{Float}
use Rattle.model.specs.Lists.{run, below, joined, part, with_part}
use Rattle.model.specs.Text.{hex, bits, line}
use Rattle.laws.proofs.Tests.{lt_or_le}
use Rattle.laws.proofs.Runs.{joined_last, length_joined_below}
use Rattle.digits_written.proofs.Put.{Put, put_length, put_none, put_size, put_text, joined_below, length_hex}
use Rattle.digits_written.proofs.Pieces.{put_next, length_part, length_bits}
use Rattle.lines_written.proofs.Lines.{length_frame}
use Rattle.laws.proofs.Blocks.{place_room}
use Rattle.rows_written.specs.Rows.{tile_row, tile_rows, list_row, list_rows, triangle}

-- ---- sizes

pub one_more : (j c : ℕ) → (j + 1) * c ≡ j * c + c
one_more j c = ap (λ (k : ℕ). k * c) (add-one j) ∙ suc-mul j c

-- what belongs to tile (i,j) stands in the lent slice
pub cell : (n s i j l : ℕ) → i < n → j < n → n * n * s ≤ l → (i * n + j) * s + s ≤ l
cell n s i j l hi hj h = omega (arith, place_room n s i j hi hj)

-- ---- pieces in a row

module _ (f : ℕ → List ℕ) where
  pub said_none : (a : ℕ) (xs : List ℕ) → a ≤ length xs → Put a 0 (joined (map f (below 0))) xs xs
  unfolding joined below run
  said_none a xs h = put_none a xs h

  pub said_more : (a w k b j : ℕ) (xs xs' xs'' : List ℕ) → Put a w (joined (map f (below j))) xs xs' → length (f j) ≡ k → b ≡ a + w → a + (w + k) ≤ length xs → xs'' ≡ with_part b k (f j) xs'
      → Put a (w + k) (joined (map f (below (j + 1)))) xs xs''
  said_more a w k b j xs xs' xs'' p s e r is = put_text (put_next b k (f j) p s e r is) (sym (joined_below f j))

-- ---- tiles and lists

abbrev pub tile_piece : ℕ → ℕ → List Float → ℕ → ℕ → List ℕ
tile_piece n s m i j = line (hex 2 2 ++ hex 2 i ++ hex 2 j ++ joined (map bits (part ((i * n + j) * s) s m)))

abbrev pub list_piece : ℕ → ℕ → List ℕ → ℕ → ℕ → List ℕ
list_piece n t l i j = line (hex 2 3 ++ hex 2 i ++ hex 2 j ++ joined (map (hex 2) (part ((i * n + j) * t) t l)))

pub length_tile : (n s : ℕ) (m : List Float) (i j : ℕ) → i < n → j < n → n * n * s ≤ length m → length (tile_piece n s m i j) ≡ 7 + s * 16
length_tile n s m i j hi hj h =
    length_frame 2 i j (joined (map bits (part ((i * n + j) * s) s m)))
    ∙ ap (λ (k : ℕ). 7 + k) (length_part bits 16 length_bits ((i * n + j) * s) s m (cell n s i j (length m) hi hj h))

pub length_list : (n t : ℕ) (l : List ℕ) (i j : ℕ) → i < n → j < n → n * n * t ≤ length l → length (list_piece n t l i j) ≡ 7 + t * 2
length_list n t l i j hi hj h =
    length_frame 3 i j (joined (map (hex 2) (part ((i * n + j) * t) t l)))
    ∙ ap (λ (k : ℕ). 7 + k) (length_part (hex 2) 2 (length_hex 2) ((i * n + j) * t) t l (cell n t i j (length l) hi hj h))

-- ---- a loop over n pieces, of which the first j are g j long

-- the first j have been written from a on, and the next goes to place
pub record Row (f : ℕ → List ℕ) (g : ℕ → ℕ) (a n : ℕ) (xs : List ℕ) (place j : ℕ) (xs' : List ℕ) : Type 0 where
  pub some : j ≤ n
  pub there : place ≡ a + g j
  pub written : Put a (g j) (joined (map f (below j))) xs xs'

module _ (f : ℕ → List ℕ) (g : ℕ → ℕ) (a n : ℕ) (xs : List ℕ) where
  pub row_none : g 0 ≡ 0 → a ≤ length xs → Row f g a n xs a 0 xs
  row_none z h = record { some = omega arith; there = omega arith; written = put_size (said_none f a xs h) (sym z) }

  module _ (place j k : ℕ) (xs' : List ℕ) (r : Row f g a n xs place j xs') (fits : g j + k ≤ g n) (room : a + g n ≤ length xs) where
    -- the next piece, of k, fits
    pub row_room : place + k ≤ length xs'
    row_room = omega (arith, r.there, put_length r.written)

    pub row_more : (xs'' : List ℕ) → j < n → g (j + 1) ≡ g j + k → length (f j) ≡ k → xs'' ≡ with_part place k (f j) xs' → Row f g a n xs (place + k) (j + 1) xs''
    row_more xs'' h e s is = record {
      some = omega arith;
      there = omega (arith, r.there);
      written = put_size (said_more f a (g j) k place j xs xs' xs'' r.written s r.there (omega arith) is) (sym e);
    }

  pub row_all : (place j : ℕ) (xs' : List ℕ) → Row f g a n xs place j xs' → n ≤ j → Put a (g n) (joined (map f (below n))) xs xs'
  row_all place j xs' r h =
      let e : j ≡ n = omega (arith, r.some) in
      rw e at r.written

pub length_tile_row : (n s : ℕ) (m : List Float) (i : ℕ) → i < n → n * n * s ≤ length m → length (tile_row n s m i) ≡ n * (7 + s * 16)
unfolding tile_row
length_tile_row n s m i hi h = length_joined_below (tile_piece n s m i) (7 + s * 16) n (λ j hj. length_tile n s m i j hi hj h)

pub length_tile_rows : (n s : ℕ) (m : List Float) → n * n * s ≤ length m → length (tile_rows n s m) ≡ n * (n * (7 + s * 16))
unfolding tile_rows
length_tile_rows n s m h = length_joined_below (tile_row n s m) (n * (7 + s * 16)) n (λ i hi. length_tile_row n s m i hi h)

pub length_list_row : (n t : ℕ) (l : List ℕ) (i : ℕ) → i < n → n * n * t ≤ length l → length (list_row n t l i) ≡ (i + 1) * (7 + t * 2)
unfolding list_row
length_list_row n t l i hi h = length_joined_below (list_piece n t l i) (7 + t * 2) (i + 1) (λ j hj. length_list n t l i j hi (omega arith) h)

-- ---- 1 + 2 + .. + n

pub triangle_more : (i : ℕ) → triangle (i + 1) ≡ triangle i + (i + 1)
unfolding triangle
triangle_more i = rw add-one

triangle_below : (n i : ℕ) → i < n → triangle i + (i + 1) ≤ triangle n
unfolding triangle
triangle_below zero i h = absurd (omega arith)
triangle_below (suc n) i h = ⊎_elim (λ l. omega (arith, triangle_below n i l)) (λ (g : n ≤ i). let e : i ≡ n = omega arith in rw e (omega arith)) (lt_or_le i n)

pub lists_more : (i c : ℕ) → triangle (i + 1) * c ≡ triangle i * c + (i + 1) * c
lists_more i c = ap (λ (k : ℕ). k * c) (triangle_more i) ∙ add-mul (triangle i) (i + 1) c

pub lists_fit : (i n c : ℕ) → i < n → triangle i * c + (i + 1) * c ≤ triangle n * c
lists_fit i n c h = omega (arith, mul-le-mul_right c (triangle_below n i h), add-mul (triangle i) (i + 1) c)

length_rows : (n t : ℕ) (l : List ℕ) (k : ℕ) → k ≤ n → n * n * t ≤ length l → length (joined (map (list_row n t l) (below k))) ≡ triangle k * (7 + t * 2)
unfolding triangle joined below run
length_rows n t l zero b h = sym (zero-mul (7 + t * 2))
length_rows n t l (suc k) b h =
    ap length (joined_last (list_row n t l) k)
    ∙ length-append (joined (map (list_row n t l) (below k))) (list_row n t l k)
    ∙ ap (λ (x : ℕ). x + length (list_row n t l k)) (length_rows n t l k (omega arith) h)
    ∙ ap (λ (x : ℕ). triangle k * (7 + t * 2) + x) (length_list_row n t l k (omega arith) h)
    ∙ sym (lists_more k (7 + t * 2)) ∙ ap (λ (x : ℕ). triangle x * (7 + t * 2)) (add-one k)

pub length_list_rows : (n t : ℕ) (l : List ℕ) → n * n * t ≤ length l → length (list_rows n t l) ≡ triangle n * (7 + t * 2)
unfolding list_rows
length_list_rows n t l h = length_rows n t l n (omega arith) h
