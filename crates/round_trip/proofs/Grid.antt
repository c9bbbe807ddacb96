-- Lists put together row by row, and pieces of one length cut out of what they were joined to. Assumes nothing.
use mathlib.Core.Path.{◌≡◌, sym, ap, ◌∙◌, subst}
use mathlib.Core.Logic.{⊎_elim}
use mathlib.Core.List.{List, [], ◌∷◌, ◌++◌, map}
use Prim.Native.Nat.{ℕ, zero, suc, ◌+◌, ◌*◌, ◌≤◌, ◌<◌}
use native.Mathlib.Nat.{zero-mul, suc-mul, not-suc-le-zero, le_of_suc-le-suc}
use native.Mathlib.Numerals.{add-one}
use native.Mathlib.Omega.{arith}
use lib.ListN.{length, get_or, take, drop, length-append, length-drop, get_or-append, take-append-drop}
use lib.Seq.{length-take-le, take-add, take_at, drop-drop, drop-append-add, take-append-le, drop-append-le, get_or-append-add, get_or-take, get_or-drop}
use Rattle.model.specs.Lists.{run, below, table, joined, part}
use Rattle.laws.proofs.Tests.{lt_or_le}
use Rattle.laws.proofs.Runs.{joined_last, length_map_below}
use Rattle.laws.proofs.Parts.{empty}
use Rattle.laws.proofs.Blocks.{get_or_table, table_unique}

-- ---- parts

module _ {A : Type 0} where
  pub part_left : (p n : ℕ) (xs ys : List A) → p + n ≤ length xs → part p n (xs ++ ys) ≡ part p n xs
  part_left p n xs ys h = ap (take n) (drop-append-le p xs ys (omega arith)) ∙ take-append-le n (drop p xs) ys (rw length-drop (omega arith))

  pub part_right : (k p n : ℕ) (xs ys : List A) → length xs ≡ k → part (k + p) n (xs ++ ys) ≡ part p n ys
  part_right k p n xs ys e = ap (take n) (subst (λ (m : ℕ). drop (m + p) (xs ++ ys) ≡ drop p ys) e (drop-append-add xs ys p))

  -- a part of a part
  pub part_part : (a b k n : ℕ) (xs : List A) → b + k ≤ n → a + n ≤ length xs → part b k (part a n xs) ≡ part (a + b) k xs
  part_part a b k n xs h r =
      let e : length (part a n xs) ≡ n = length-take-le n (drop a xs) (rw length-drop (omega arith)) in
      sym (part_left b k (part a n xs) (drop n (drop a xs)) (omega arith)) ∙ ap (part b k) (take-append-drop n (drop a xs)) ∙ ap (take k) (drop-drop b a xs)

-- ---- pieces of one length

module _ {A B : Type 0} (f : A → List B) (c : ℕ) (size : (x : A) → length (f x) ≡ c) where
  -- piece k is the c elements from k·c on
  pub piece : (xs : List A) (k : ℕ) (d : A) → k < length xs → part (k * c) c (joined (map f xs)) ≡ f (get_or xs k d)
  unfolding joined
  piece [] k d h = absurd (not-suc-le-zero h)
  piece (x ∷ xs) zero d h = ap (λ (n : ℕ). part n c (f x ++ joined (map f xs))) (zero-mul c) ∙ take_at (f x) (joined (map f xs)) c (size x)
  piece (x ∷ xs) (suc k) d h =
      let e : suc k * c ≡ c + k * c = omega (arith, suc-mul k c) in
      ap (λ (n : ℕ). part n c (f x ++ joined (map f xs))) e ∙ part_right c (k * c) c (f x) (joined (map f xs)) (size x) ∙ piece xs k d (le_of_suc-le-suc h)

-- the pieces of a list joined are its front
pub pieces : {A : Type 0} (c n : ℕ) (xs : List A) → joined (map (λ k. part (k * c) c xs) (below n)) ≡ take (n * c) xs
unfolding joined below run
pieces c zero xs = sym (ap (λ (k : ℕ). take k xs) (zero-mul c))
pieces c (suc n) xs =
    joined_last (λ k. part (k * c) c xs) n
    ∙ ap (λ l. l ++ part (n * c) c xs) (pieces c n xs) ∙ sym (take-add (n * c) c xs) ∙ ap (λ (k : ℕ). take k xs) (sym (suc-mul n c))

-- ---- rows: row i has w i elements, and the rows before it have T i

abbrev pub grid : {A : Type 0} → (ℕ → ℕ) → (ℕ → ℕ → A) → ℕ → List A
grid w F n = joined (map (λ i. map (F i) (below (w i))) (below n))

module _ (w T : ℕ → ℕ) (none : T 0 ≡ 0) (step : (i : ℕ) → T (i + 1) ≡ T i + w i) where
  T_suc : (i : ℕ) → T (suc i) ≡ T i + w i
  T_suc i = ap T (sym (add-one i)) ∙ step i

  pub T_below : (n i : ℕ) → i < n → T i + w i ≤ T n
  T_below zero i h = absurd (not-suc-le-zero h)
  T_below (suc n) i h = ⊎_elim (λ l. omega (arith, T_below n i l, T_suc n)) (λ g.
      let b : n ≤ i = g in
      let e : i ≡ n = omega arith in
      rw e (omega (arith, T_suc n))) (lt_or_le i n)

  module _ {A : Type 0} (F : ℕ → ℕ → A) where
    grid_suc : (n : ℕ) → grid w F (suc n) ≡ grid w F n ++ map (F n) (below (w n))
    grid_suc n = joined_last (λ i. map (F i) (below (w i))) n

    pub length_grid : (n : ℕ) → length (grid w F n) ≡ T n
    unfolding joined below run
    length_grid zero = sym none
    length_grid (suc n) = ap length (grid_suc n) ∙ length-append (grid w F n) (map (F n) (below (w n))) ∙ omega (arith, length_grid n, length_map_below (F n) (w n), T_suc n)

    row_at : (n k j : ℕ) (d : A) → j < k → get_or (map (F n) (below k)) j d ≡ F n j
    unfolding table
    row_at n k j d h = get_or_table k (F n) j d h

    grid_last : (n j : ℕ) (d : A) → j < w n → get_or (grid w F n ++ map (F n) (below (w n))) (T n + j) d ≡ F n j
    grid_last n j d h =
        subst (λ (m : ℕ). get_or (grid w F n ++ map (F n) (below (w n))) (m + j) d ≡ F n j) (length_grid n)
        (get_or-append-add (grid w F n) (map (F n) (below (w n))) j d ∙ row_at n (w n) j d h)

    pub grid_at : (n i j : ℕ) (d : A) → i < n → j < w i → get_or (grid w F n) (T i + j) d ≡ F i j
    grid_at zero i j d h l = absurd (not-suc-le-zero h)
    grid_at (suc n) i j d h l =
        ap (λ (xs : List A). get_or xs (T i + j) d) (grid_suc n)
        ∙ ⊎_elim
        (λ g. get_or-append (grid w F n) (map (F n) (below (w n))) d (T i + j) (omega (arith, length_grid n, T_below n i g)) ∙ grid_at n i j d g l)
        (λ g.
        let e : n ≡ i = omega arith in
        subst (λ (m : ℕ). j < w m → get_or (grid w F n ++ map (F n) (below (w n))) (T m + j) d ≡ F m j) e (grid_last n j d) l)
        (lt_or_le i n)

    -- a list is the grid if it is as long and has F i j in its place
    pub grid_is : (n : ℕ) (xs : List A) (d : A) → length xs ≡ T n → ((i j : ℕ) → i < n → j < w i → get_or xs (T i + j) d ≡ F i j) → xs ≡ grid w F n
    unfolding joined below run table
    grid_is zero xs d e h = empty xs (e ∙ none)
    grid_is (suc n) xs d e h =
        let l : length xs ≡ T n + w n = e ∙ T_suc n in
        let front : take (T n) xs ≡ grid w F n =
        grid_is n (take (T n) xs) d (length-take-le (T n) xs (omega arith))
        (λ i j hi hj. get_or-take (T n) xs (T i + j) d (omega (arith, T_below n i hi)) ∙ h i j (omega arith) hj) in
        let back : drop (T n) xs ≡ map (F n) (below (w n)) =
        table_unique (w n) (F n) (drop (T n) xs) d (length-drop (T n) xs ∙ omega arith) (λ j hj. get_or-drop (T n) xs j d ∙ h n j (omega arith) hj) in
        sym (take-append-drop (T n) xs) ∙ ap (λ (ys : List A). ys ++ drop (T n) xs) front ∙ ap (λ (ys : List A). grid w F n ++ ys) back ∙ sym (grid_suc n)
