-- A list that is written from the front, one element or one part at a time. Assumes nothing.
use Prim.Native.Nat.{ℕ, suc, ◌+◌, ◌-◌, ◌*◌, ◌≤◌, ◌<◌}
use mathlib.Core.Path.{◌≡◌, refl, sym, ap, ◌∙◌}
use mathlib.Core.List.{List, [], ◌∷◌, ◌++◌, map, append-nil, append_assoc}
use native.Mathlib.Nat.{suc-mul, zero-mul, add-sub_cancel_left}
use native.Mathlib.Numerals.{add-one}
use native.Mathlib.Omega.{arith}
use lib.ListN.{length, get_or, set, take, drop, length-drop, drop_of_length-le}
use lib.Seq.{drop-cons, drop-drop, set_at, take_at, drop_at, length-take-le}
use Rattle.model.specs.Lists.{run, below, joined, with_part}
use Rattle.laws.proofs.Runs.{length_map_below, table_last, joined_last, length_joined_below}

-- ---- one element at a time

module _ {A : Type 0} (g : ℕ → A) where
  -- the first x elements of d are written
  abbrev pub written : List A → ℕ → List A
  written d x = map g (below x) ++ drop x d

  pub written_none : (d : List A) → d ≡ written d 0
  unfolding below run
  written_none d = refl

  pub written_next : (e : A) (d : List A) (x : ℕ) → x < length d → set (written d x) x (g x) ≡ written d (x + 1)
  written_next e d x h =
      ap (λ (l : List A). set (map g (below x) ++ l) x (g x)) (drop-cons d x e h)
      ∙ set_at (map g (below x)) (get_or d x e) (drop (suc x) d) (g x) x (length_map_below g x)
      ∙ sym (append_assoc (map g (below x)) (g x ∷ []) (drop (suc x) d))
      ∙ rw (add-one x) (ap (λ (l : List A). l ++ drop (suc x) d) (sym (table_last g x)))

  pub written_all : (d : List A) (x : ℕ) → length d ≤ x → written d x ≡ map g (below x)
  written_all d x h = ap (λ (l : List A). map g (below x) ++ l) (drop_of_length-le d h) ∙ append-nil (map g (below x))

-- ---- one part at a time, all of length s

-- a part that is lent has the length asked for
pub length_lent : {A : Type 0} (a s : ℕ) (m : List A) → a + s ≤ length m → length (take (a + s - a) (drop a m)) ≡ s
length_lent a s m h = rw (add-sub_cancel_left a s) (length-take-le s (drop a m) (rw (length-drop a m) (omega arith)))

-- the first q parts of d are written
abbrev pub parted : {A : Type 0} → ℕ → (ℕ → List A) → List A → ℕ → List A
parted s g d q = joined (map g (below q)) ++ drop (q * s) d

module _ {A : Type 0} (s : ℕ) (g : ℕ → List A) (each : (q : ℕ) → length (g q) ≡ s) where
  pub parted_none : (d : List A) → d ≡ parted s g d 0
  unfolding below run joined
  parted_none d = ap (λ (k : ℕ). drop k d) (sym (zero-mul s))

  parted_next : (d : List A) (q : ℕ) → with_part (q * s) s (g q) (parted s g d q) ≡ parted s g d (q + 1)
  parted_next d q =
      let p = joined (map g (below q)) in
      let l : length p ≡ q * s = length_joined_below g s q (λ i h. each i) in
      let e : q * s + s ≡ (q + 1) * s = omega (arith, suc-mul q s) in
      ap (λ (z : List A). z ++ (g q ++ drop s (drop (q * s) (parted s g d q)))) (take_at p (drop (q * s) d) (q * s) l)
      ∙ ap (λ (z : List A). p ++ (g q ++ drop s z)) (drop_at p (drop (q * s) d) (q * s) l)
      ∙ ap (λ (z : List A). p ++ (g q ++ z)) (drop-drop s (q * s) d)
      ∙ sym (append_assoc p (g q) (drop (q * s + s) d))
      ∙ ap (λ (z : List A). z ++ drop (q * s + s) d) (sym (joined_last g q))
      ∙ rw (e, add-one q)

  -- a part that was lent, and came back as the next one
  pub turn : (d m ys : List A) (q : ℕ) → m ≡ parted s g d q → ys ≡ g q → take (q * s) m ++ (ys ++ drop (q * s + s - q * s) (drop (q * s) m)) ≡ parted s g d (q + 1)
  turn d m ys q e h = rw (e, h, add-sub_cancel_left (q * s) s) (parted_next d q)

  pub parted_all : (d : List A) (n : ℕ) → length d ≡ n * s → parted s g d n ≡ joined (map g (below n))
  parted_all d n h = ap (λ (l : List A). joined (map g (below n)) ++ l) (drop_of_length-le d {i = n * s} (omega arith)) ∙ append-nil (joined (map g (below n)))
