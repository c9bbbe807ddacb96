-- Pieces of text put one after the other: what a writer has written so far is one piece. Assumes nothing.
use mathlib.Core.Path.{◌≡◌, refl, sym, ap, ◌∙◌, subst}
use mathlib.Core.List.{List, [], ◌∷◌, ◌++◌, map, append_assoc, append-nil}
use Prim.Native.Nat.{ℕ, zero, suc, ◌+◌, ◌-◌, ◌/◌, ◌%◌, ◌^◌, ◌≤◌, ◌<◌}
use native.Mathlib.Nat.{sub_self, div-one, pow-suc, div-div-eq-div-mul, le_of_suc-le-suc, not-suc-le-zero}
use native.Mathlib.Numerals.{add-one}
use native.Mathlib.Omega.{arith}
use lib.ListN.{length, get_or, set, take, drop, length-append, length-take, length-drop, take-append-drop}
use lib.Seq.{length-take-le, take_at, drop_at, drop-drop, set_split, set-append_left, take-suc-set, take-set-lt, get_or-drop}
use Rattle.model.specs.Lists.{below, joined, part, with_part}
use Rattle.model.specs.Text.{digit, hex}
use Rattle.laws.proofs.Runs.{joined_last}

-- ys, which is n long, has been put into the text xs from place a on, and made it xs'
pub record Put {A : Type 0} (a n : ℕ) (ys xs xs' : List A) : Type 0 where
  pub size : length ys ≡ n
  pub room : a + n ≤ length xs
  pub is : xs' ≡ with_part a n ys xs

module _ {A : Type 0} where
  length_with : (a n : ℕ) (ys xs : List A) → length ys ≡ n → a + n ≤ length xs → length (with_part a n ys xs) ≡ length xs
  length_with a n ys xs s r = simp (length-append, length-take, length-drop) (omega arith)

  pub put_length : {a n : ℕ} {ys xs xs' : List A} → Put a n ys xs xs' → length xs' ≡ length xs
  put_length {a} {n} {ys} {xs} p = ap length p.is ∙ length_with a n ys xs p.size p.room

  pub put_none : (a : ℕ) (xs : List A) → a ≤ length xs → Put a 0 [] xs xs
  put_none a xs h = record { size = refl; room = omega arith; is = sym (take-append-drop a xs) }

  -- one store is a piece of one
  pub put_one : (a : ℕ) (v : A) (xs : List A) → a < length xs → Put a 1 (v ∷ []) xs (set xs a v)
  put_one a v xs h = record {
    size = refl;
    room = omega arith;
    is = set_split xs a v h ∙ ap (λ (l : List A). take a xs ++ v ∷ l) (ap (λ (k : ℕ). drop k xs) (sym (add-one a)) ∙ sym (drop-drop 1 a xs));
  }

  then_is : (a n k : ℕ) (ys zs xs : List A) → length (take a xs ++ ys) ≡ a + n → with_part (a + n) k zs (with_part a n ys xs) ≡ with_part a (n + k) (ys ++ zs) xs
  then_is a n k ys zs xs l =
      let r = drop n (drop a xs) in
      rw (← append_assoc (take a xs) ys r, take_at (take a xs ++ ys) r (a + n) l, drop_at (take a xs ++ ys) r (a + n) l, drop-drop k n (drop a xs)) (simp append_assoc)

  -- a piece after a piece
  pub put_then : {a n b k : ℕ} {ys zs xs xs' xs'' : List A} → Put a n ys xs xs' → Put b k zs xs' xs'' → b ≡ a + n → Put a (n + k) (ys ++ zs) xs xs''
  put_then {a} {n} {b} {k} {ys} {zs} {xs} {xs'} {xs''} p q e =
      let l : length xs' ≡ length xs = put_length p in
      record {
        size = length-append ys zs ∙ omega (arith, p.size, q.size);
        room = omega (arith, q.room);
        is =
            q.is ∙ ap (λ (c : ℕ). with_part c k zs xs') e ∙ ap (λ (x : List A). with_part (a + n) k zs x) p.is
            ∙ then_is a n k ys zs xs (length-append (take a xs) ys ∙ omega (arith, length-take-le a xs (omega (arith, p.room)), p.size));
      }

  pub put_size : {a n k : ℕ} {ys xs xs' : List A} → Put a n ys xs xs' → n ≡ k → Put a k ys xs xs'
  put_size {a} {n} {k} {ys} {xs} {xs'} p e = subst (λ (m : ℕ). Put a m ys xs xs') e p

  pub put_text : {a n : ℕ} {ys zs xs xs' : List A} → Put a n ys xs xs' → ys ≡ zs → Put a n zs xs xs'
  put_text {a} {n} {ys} {zs} {xs} {xs'} p e = subst (λ (l : List A). Put a n l xs xs') e p

  -- a store right before a piece
  pub put_before : {a n : ℕ} {ys xs xs' : List A} (v : A) → Put (suc a) n ys xs xs' → Put a (suc n) (v ∷ ys) xs (set xs' a v)
  put_before {a} {n} {ys} {xs} v p =
      let h : a < length xs = omega (arith, p.room) in
      let f : length (take (suc a) xs) ≡ suc a = length-take-le (suc a) xs h in
      let e : suc a + n ≡ a + suc n = omega arith in
      let r = ys ++ drop n (drop (suc a) xs) in
      record {
        size = ap suc p.size;
        room = omega (arith, p.room);
        is =
            ap (λ (l : List A). set l a v) p.is ∙ set-append_left (take (suc a) xs) r a v (omega arith)
            ∙ ap (λ (l : List A). l ++ r) (sym (take-set-lt (suc a) xs a v (omega arith)) ∙ take-suc-set xs a v h)
            ∙ append_assoc (take a xs) (v ∷ []) r
            ∙ ap (λ (l : List A). take a xs ++ v ∷ (ys ++ l)) (drop-drop n (suc a) xs ∙ ap (λ (k : ℕ). drop k xs) e ∙ sym (drop-drop (suc n) a xs));
      }

-- ---- pieces that a loop puts

module _ {A B : Type 0} (f : A → List B) where
  -- the pieces of one element more
  pub joined_take : (xs : List A) (k : ℕ) (d : A) → k < length xs → joined (map f (take (suc k) xs)) ≡ joined (map f (take k xs)) ++ f (get_or xs k d)
  unfolding joined
  joined_take [] k d h = absurd (not-suc-le-zero h)
  joined_take (x ∷ xs) zero d h = append-nil (f x)
  joined_take (x ∷ xs) (suc k) d h = ap (λ (l : List B). f x ++ l) (joined_take xs k d (le_of_suc-le-suc h)) ∙ sym (append_assoc (f x) (joined (map f (take k xs))) (f (get_or xs k d)))

  pub joined_part : (a k : ℕ) (m : List A) (d : A) → a + k < length m → joined (map f (part a (k + 1) m)) ≡ joined (map f (part a k m)) ++ f (get_or m (a + k) d)
  joined_part a k m d h =
      ap (λ (n : ℕ). joined (map f (part a n m))) (add-one k) ∙ joined_take (drop a m) k d (rw length-drop (omega arith))
      ∙ ap (λ (x : A). joined (map f (part a k m)) ++ f x) (get_or-drop a m k d)

module _ {B : Type 0} (f : ℕ → List B) where
  pub joined_below : (n : ℕ) → joined (map f (below (n + 1))) ≡ joined (map f (below n)) ++ f n
  joined_below n = ap (λ (k : ℕ). joined (map f (below k))) (add-one n) ∙ joined_last f n

-- ---- digits

pub length_hex : (n x : ℕ) → length (hex n x) ≡ n
unfolding hex
length_hex zero x = refl
length_hex (suc n) x = ap suc (length_hex n x)

-- what put_hex promises
pub put_hex : (a n x : ℕ) {xs xs' : List ℕ} → a + n ≤ length xs → xs' ≡ with_part a n (hex n x) xs → Put a n (hex n x) xs xs'
put_hex a n x r e = record { size = length_hex n x; room = r; is = e }

-- the digits of value have been written from the lowest on, all but the first `left` of them
pub record Hexed (a n value : ℕ) (xs : List ℕ) (left rest : ℕ) (xs' : List ℕ) : Type 0 where
  pub some : left ≤ n
  pub still : rest ≡ value / 16 ^ (n - left)
  pub written : Put (a + left) (n - left) (hex (n - left) value) xs xs'

module _ (a n value : ℕ) (xs : List ℕ) where
  pub hexed_none : a + n ≤ length xs → Hexed a n value xs n value xs
  unfolding hex
  hexed_none h = record { some = omega arith; still = rw sub_self (sym (div-one value)); written = rw sub_self (put_none (a + n) xs h) }

  -- one digit more
  more : (left k rest : ℕ) (xs' : List ℕ) → left < n → k ≡ n - suc left → rest ≡ value / 16 ^ k → Put (a + suc left) k (hex k value) xs xs'
      → Put (a + left) (suc k) (hex (suc k) value) xs (set xs' (a + left) (digit (rest % 16)))
  unfolding hex
  more left k rest xs' h e s p =
      let q : a + suc left ≡ suc (a + left) = omega arith in
      rw s (put_before (digit (value / 16 ^ k % 16)) (rw q at p))

  pub hexed_more : (left rest : ℕ) (xs' : List ℕ) → 0 < left → Hexed a n value xs left rest xs'
      → Hexed a n value xs (left - 1) (rest / 16) (set xs' (a + (left - 1)) (digit (rest % 16)))
  hexed_more left rest xs' h p =
      let k = n - left in
      let l = left - 1 in
      let b = p.some in
      let e : n - l ≡ suc k = omega arith in
      let f : left ≡ suc l = omega arith in
      record {
        some = omega arith;
        still = ap (λ (r : ℕ). r / 16) p.still ∙ div-div-eq-div-mul value (16 ^ k) 16 ∙ ap (λ (m : ℕ). value / m) (sym (pow-suc 16 k)) ∙ ap (λ (m : ℕ). value / 16 ^ m) (sym e);
        written = rw e (more l k rest xs' (omega arith) (omega arith) p.still (subst (λ (m : ℕ). Put (a + m) k (hex k value) xs xs') f p.written));
      }
