-- Lists made of runs of numbers and of rows put one after the other. Assumes nothing.
use Prim.Native.Nat.{ℕ, zero, suc, ◌+◌, ◌*◌, ◌<◌}
use mathlib.Core.Path.{◌≡◌, ◌∙◌}
use mathlib.Core.List.{List, [], ◌++◌, map}
use native.Mathlib.Omega.{arith}
use lib.ListN.{length, get_or, length-append, get_or-append}
use lib.Seq.{get_or-append-add}
use Rattle.model.specs.Lists.{run, joined}

module _ {A : Type 0} where
  -- the lists f a, f (a + 1), .. in a row
  abbrev pub rows : (ℕ → List A) → ℕ → ℕ → List A
  rows f a n = joined (map f (run a n))

  pub length_rows_suc : (f : ℕ → List A) (a n : ℕ) → length (rows f a (suc n)) ≡ length (rows f a n) + length (f (a + n))
  unfolding run joined
  length_rows_suc f a zero = length-append (f a) [] ∙ (let e : a ≡ a + 0 = omega arith in rw (← e) (omega arith))
  length_rows_suc f a (suc n) =
      length-append (f a) (rows f (suc a) (suc n))
      ∙ (let e : suc a + n ≡ a + suc n = omega arith in rw (length_rows_suc f (suc a) n, e, length-append (f a) (rows f (suc a) n)) (omega arith))

  pub get_d_rows : (f : ℕ → List A) (a n x y : ℕ) (d : A) → x < n → y < length (f (a + x)) → get_or (rows f a n) (length (rows f a x) + y) d ≡ get_or (f (a + x)) y d
  unfolding run joined
  get_d_rows f a zero x y d h l = absurd (omega arith)
  get_d_rows f a (suc n) zero y d h l =
      let e : a + 0 ≡ a = omega arith in
      let z : 0 + y ≡ y = omega arith in
      rw (e, z) (get_or-append (f a) (rows f (suc a) n) d y (rw e at l))
  get_d_rows f a (suc n) (suc x) y d h l =
      let e : a + suc x ≡ suc a + x = omega arith in
      let s : length (f a ++ rows f (suc a) x) + y ≡ length (f a) + (length (rows f (suc a) x) + y) = omega (arith, length-append (f a) (rows f (suc a) x)) in
      rw (e, s) (get_or-append-add (f a) (rows f (suc a) n) (length (rows f (suc a) x) + y) d ∙ get_d_rows f (suc a) n x y d (omega arith) (rw e at l))

  -- rows of one length
  pub length_rows : (f : ℕ → List A) (w : ℕ) (a n : ℕ) → ((i : ℕ) → length (f i) ≡ w) → length (rows f a n) ≡ n * w
  unfolding run joined
  length_rows f w a zero h = omega arith
  length_rows f w a (suc n) h = length-append (f a) (rows f (suc a) n) ∙ omega (arith, h a, length_rows f w (suc a) n h)
