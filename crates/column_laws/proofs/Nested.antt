-- A part of a part, and what stands in a row of a tile that is a part of the matrix. Assumes nothing.
use mathlib.Core.Path.{◌≡◌, sym, ◌∙◌}
use mathlib.Core.List.{List, ◌++◌, append_assoc}
use Prim.Native.Nat.{ℕ, ◌+◌, ◌<◌, ◌≤◌}
use native.Mathlib.Nat.{add_assoc}
use native.Mathlib.Omega.{arith}
use lib.ListN.{length, take, drop, length-take, length-drop, take-append-drop}
use lib.Seq.{get_or-drop, get_or-take, take-take, drop-drop, take-add, drop-append-le, ext_get_or}
use Rattle.model.specs.Lists.{part, with_part}
use Rattle.laws.proofs.Parts.{length_part, get_part}

module _ {A : Type 0} (a n : ℕ) (m : List A) (room : a + n ≤ length m) where
  module _ (x k : ℕ) (inside : x + k ≤ n) where
    -- k elements of the part are k elements of the whole
    pub part_in : (d : A) → part (a + x) k m ≡ part x k (part a n m)
    part_in d =
        ext_get_or d (part (a + x) k m) (part x k (part a n m))
        (simp (length-take, length-drop) (omega arith))
        (λ i h.
        let l : i < k = (let q = simp (length-take, length-drop) at h in omega arith) in
        get_or-take k (drop (a + x) m) i d l ∙ get_or-drop (a + x) m i d ∙ rw (add_assoc a x i)
        (sym (get_or-take k (drop x (part a n m)) i d l ∙ get_or-drop x (part a n m) i d ∙ get_part a n m d (x + i) (omega arith))))

    rest : drop k (drop x (part a n m)) ++ drop n (drop a m) ≡ drop k (drop (a + x) m)
    rest =
        rw (drop-drop k x (part a n m))
        (sym (drop-append-le (x + k) (part a n m) (drop n (drop a m)) (rw (length_part a n m room) inside))
        ∙ rw (take-append-drop n (drop a m), drop-drop (x + k) a m, drop-drop k (a + x) m) (rw (add_assoc a x k)))

    -- k elements put into the whole are put into the part
    pub put_in : (ys : List A) → with_part (a + x) k ys m ≡ with_part a n (with_part x k ys (part a n m)) m
    put_in ys = sym
        (rw (take-take x n (drop a m) (omega arith), append_assoc (take x (drop a m)) (ys ++ drop k (drop x (part a n m))) (drop n (drop a m)), append_assoc ys (drop k (drop x (part a n m))) (drop n (drop a m)), rest, ← append_assoc (take a m) (take x (drop a m)) (ys ++ drop k (drop (a + x) m)))
        (rw (← take-add a x m)))
