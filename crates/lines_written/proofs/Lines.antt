-- The pieces of a line, put one after the other. Assumes nothing.
use mathlib.Core.Path.{◌≡◌, refl}
use mathlib.Core.List.{List, ◌++◌}
use Prim.Native.Nat.{ℕ, ◌+◌, ◌≤◌}
use native.Mathlib.Omega.{arith}
use lib.ListN.{length, set, length-append}
use Rattle.model.specs.Lists.{with_part}
use Rattle.model.specs.Text.{hex, line}
use Rattle.digits_written.proofs.Put.{Put, put_length, put_one, put_then, put_size, length_hex}
use Rattle.digits_written.proofs.Pieces.{put_next}

-- the byte 0A ends the line
pub put_end : {a n : ℕ} {ys xs xs' : List ℕ} (b : ℕ) → Put a n ys xs xs' → b ≡ a + n → a + (n + 1) ≤ length xs → Put a (n + 1) (line ys) xs (set xs' b 10)
unfolding line
put_end {xs' = xs'} b p e r = put_then p (put_one b 10 xs' (omega (arith, put_length p))) e

abbrev pub three : ℕ → ℕ → ℕ → List ℕ
three p q r = hex 2 p ++ hex 2 q ++ hex 2 r

length_three : (p q r : ℕ) → length (three p q r) ≡ 6
length_three p q r = simp (length-append, length_hex)

module _ (a p q r : ℕ) (xs xs₁ : List ℕ) where
  -- hex 2 p is there, and the two numbers after it follow
  two_more : (k : ℕ) (xs₂ xs₃ : List ℕ) → a + (4 + k) ≤ length xs → xs₁ ≡ with_part a 2 (hex 2 p) xs → xs₂ ≡ with_part (a + 2) 2 (hex 2 q) xs₁ → xs₃ ≡ with_part (a + 4) k (hex k r) xs₂
      → Put a (4 + k) (hex 2 p ++ hex 2 q ++ hex k r) xs xs₃
  two_more k xs₂ xs₃ h e₁ e₂ e₃ =
      let first : Put a 2 (hex 2 p) xs xs₁ = record { size = length_hex 2 p; room = omega arith; is = e₁ } in
      let second : Put a 4 (hex 2 p ++ hex 2 q) xs xs₂ = put_next (a + 2) 2 (hex 2 q) first (length_hex 2 q) refl (omega arith) e₂ in
      put_next (a + 4) k (hex k r) second (length_hex k r) refl h e₃

  pub put_three : (xs₂ xs₃ : List ℕ) → a + 6 ≤ length xs → xs₁ ≡ with_part a 2 (hex 2 p) xs → xs₂ ≡ with_part (a + 2) 2 (hex 2 q) xs₁ → xs₃ ≡ with_part (a + 4) 2 (hex 2 r) xs₂
      → Put a 6 (three p q r) xs xs₃
  put_three = two_more 2

  pub put_short : (xs₂ xs₃ : List ℕ) → a + 9 ≤ length xs → xs₁ ≡ with_part a 2 (hex 2 p) xs → xs₂ ≡ with_part (a + 2) 2 (hex 2 q) xs₁ → xs₃ ≡ with_part (a + 4) 4 (hex 4 r) xs₂
      → Put a 9 (line (hex 2 p ++ hex 2 q ++ hex 4 r)) xs (set xs₃ (a + 8) 10)
  put_short xs₂ xs₃ h e₁ e₂ e₃ = put_end (a + 8) (two_more 4 xs₂ xs₃ (omega arith) e₁ e₂ e₃) refl h

  started : a + 6 ≤ length xs → xs₁ ≡ with_part a 6 (three p q r) xs → Put a 6 (three p q r) xs xs₁
  started h e = record { size = length_three p q r; room = h; is = e }

  pub put_header : a + 7 ≤ length xs → xs₁ ≡ with_part a 6 (three p q r) xs → Put a 7 (line (three p q r)) xs (set xs₁ (a + 6) 10)
  put_header h e = put_end (a + 6) (started (omega arith) e) refl h

  pub put_frame : (n : ℕ) (body xs₂ : List ℕ) → a + (7 + n) ≤ length xs → length body ≡ n → xs₁ ≡ with_part a 6 (three p q r) xs → xs₂ ≡ with_part (a + 6) n body xs₁
      → Put a (7 + n) (line (hex 2 p ++ hex 2 q ++ hex 2 r ++ body)) xs (set xs₂ (a + 6 + n) 10)
  put_frame n body xs₂ h s e₁ e₂ =
      let all : Put a (6 + n) (three p q r ++ body) xs xs₂ = put_next (a + 6) n body (started (omega arith) e₁) s refl (omega arith) e₂ in
      put_size (put_end (a + 6 + n) all (omega arith) (omega arith)) (omega arith)

pub length_frame : (p q r : ℕ) (body : List ℕ) → length (line (hex 2 p ++ hex 2 q ++ hex 2 r ++ body)) ≡ 7 + length body
unfolding line
length_frame p q r body = simp (length-append, length_hex) (omega arith)
