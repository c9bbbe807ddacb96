-- One piece more, and pieces of one size. Assumes nothing.
use mathlib.Core.Path.{◌≡◌, ap, ◌∙◌}
use mathlib.Core.List.{List, ◌++◌, map}
use Prim.Native.Nat.{ℕ, ◌+◌, ◌*◌, ◌≤◌, ◌<◌}
use native.Mathlib.Nat.{add-mul, one-mul, zero-mul}
use native.Mathlib.Omega.{arith}
use lib.ListN.{length, get_or, drop, length-drop}
use lib.Seq.{length-take-le}
use lib.Ieee.{Float, binary64, to_bits}
use Rattle.model.specs.Lists.{joined, part, with_part}
use Rattle.model.specs.Text.{bits}
use Rattle.laws.proofs.Runs.{length_joined}
use Rattle.digits_written.proofs.Put.{Put, put_length, put_none, put_then, joined_part, length_hex}

-- one piece more, from what a writer of it promises
pub put_next : {a n : ℕ} {ys xs xs' xs'' : List ℕ} (b k : ℕ) (zs : List ℕ) → Put a n ys xs xs' → length zs ≡ k → b ≡ a + n → a + (n + k) ≤ length xs → xs'' ≡ with_part b k zs xs'
    → Put a (n + k) (ys ++ zs) xs xs''
put_next b k zs p s e r is = put_then p (record { size = s; room = omega (arith, put_length p); is = is }) e

-- ---- pieces of one size, for the elements of a part

module _ {A : Type 0} (f : A → List ℕ) (c : ℕ) (size : (x : A) → length (f x) ≡ c) where
  pub length_part : (s n : ℕ) (m : List A) → s + n ≤ length m → length (joined (map f (part s n m))) ≡ n * c
  length_part s n m h = length_joined f c size (part s n m) ∙ ap (λ (k : ℕ). k * c) (length-take-le n (drop s m) (rw length-drop (omega arith)))

  pub part_none : (a s : ℕ) (m : List A) (xs : List ℕ) → a ≤ length xs → Put a (0 * c) (joined (map f (part s 0 m))) xs xs
  unfolding joined
  part_none a s m xs h = rw zero-mul (put_none a xs h)

  pub part_more : (a s k b : ℕ) (m : List A) (d : A) (xs xs' xs'' : List ℕ) → Put a (k * c) (joined (map f (part s k m))) xs xs' → s + k < length m → b ≡ a + k * c → a + (k + 1) * c ≤ length xs
      → xs'' ≡ with_part b c (f (get_or m (s + k) d)) xs' → Put a ((k + 1) * c) (joined (map f (part s (k + 1) m))) xs xs''
  part_more a s k b m d xs xs' xs'' p l e r is =
      let w : (k + 1) * c ≡ k * c + c = add-mul k 1 c ∙ ap (λ (n : ℕ). k * c + n) (one-mul c) in
      rw (w, joined_part f s k m d l) (put_next b c (f (get_or m (s + k) d)) p (size (get_or m (s + k) d)) e (omega arith) is)

pub length_bits : (x : Float) → length (bits x) ≡ 16
unfolding bits
length_bits x = length_hex 16 (to_bits binary64 x)
