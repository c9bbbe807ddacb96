-- Lists of numbers, tests over lists, parts of lists, and doing things in turn. Nothing here is particular to the factorization.
-- Assumes nothing.
use Rattle.std.specs.Prelude.{ℕ, zero, suc, ◌+◌, Bool, true, false, cond, ◌&&◌, ◌||◌, List, [], ◌∷◌, ◌++◌, map, take, drop}

-- the n numbers from a on: a, a + 1, .. , a + n - 1
unfoldable pub run : ℕ → ℕ → List ℕ
run a zero = []
run a (suc n) = a ∷ run (suc a) n

-- the numbers below n, rising
unfoldable pub below : ℕ → List ℕ
below n = run 0 n

-- the sum of all
unfoldable pub total : List ℕ → ℕ
total [] = 0
total (x ∷ xs) = x + total xs

module _ {A : Type 0} where
  -- f 0, f 1, .. , f (n - 1)
  unfoldable pub table : ℕ → (ℕ → A) → List A
  table n f = map f (below n)

  unfoldable pub every : (A → Bool) → List A → Bool
  every p [] = true
  every p (x ∷ xs) = p x && every p xs

  unfoldable pub some : (A → Bool) → List A → Bool
  some p [] = false
  some p (x ∷ xs) = p x || some p xs

  unfoldable pub keep : (A → Bool) → List A → List A
  keep p [] = []
  keep p (x ∷ xs) = cond (p x) (x ∷ keep p xs) (keep p xs)

  unfoldable pub joined : List (List A) → List A
  joined [] = []
  joined (x ∷ xs) = x ++ joined xs

  -- f of the first, or z if there is none
  unfoldable pub first_or : List ℕ → (ℕ → A) → A → A
  first_or [] f z = z
  first_or (x ∷ xs) f z = f x

module _ {A : Type 0} where
  -- the k elements from place a on, and the list with ys in the place of those k
  abbrev pub part : ℕ → ℕ → List A → List A
  part a k xs = take k (drop a xs)

  abbrev pub with_part : ℕ → ℕ → List A → List A → List A
  with_part a k ys xs = take a xs ++ (ys ++ drop k (drop a xs))

module _ {A S : Type 0} where
  -- f done for each element, from the first to the last
  unfoldable pub in_turn : (A → S → S) → List A → S → S
  in_turn f [] s = s
  in_turn f (x ∷ xs) s = in_turn f xs (f x s)

unfoldable pub lists_open : Unit {0}
unfolding run below total table every some keep joined first_or in_turn
lists_open = tt
