-- Records copied from place p on: what stands where, and what the first n are. Assumes nothing.
use Prim.Native.Nat.{ℕ, zero, suc, ◌+◌, ◌-◌, ◌<◌, ◌≤◌}
use native.Mathlib.Omega.{arith}
use mathlib.Core.Path.{◌≡◌, refl, sym, ap, ◌∙◌}
use mathlib.Core.Bool.{cond}
use mathlib.Core.Logic.{⊎_elim, ◌≢◌}
use mathlib.Core.List.{List}
use lib.Dec.{ltb}
use lib.ListN.{length, get_or, set, take, length-set}
use Rattle.std.proofs.lemmas.List.{take-map}
use lib.Seq.{get_or-set_same, get_or-set_other, get_or-take, length-take-le, take_all, ext_get_or, set_out}
use borrow.Author.Tests.{lt-ltb, le-ltb}
use Rattle.model.specs.declared.TaskRecord.{TaskRecord}
use Rattle.laws.proofs.Tests.{lt_or_le, same_or_not}
use Rattle.records.specs.Records.{record_from, records_from, blank}
use Rattle.task_records.specs.Copies.{copied}

pub length_copied : (k p : ℕ) (rs xs : List TaskRecord) → length (copied k p rs xs) ≡ length xs
unfolding copied
length_copied zero p rs xs = refl
length_copied (suc k) p rs xs = length_copied k (p + 1) rs (set xs p (get_or rs p blank)) ∙ length-set xs p (get_or rs p blank)

pub get_before : (k p : ℕ) (rs xs : List TaskRecord) (i : ℕ) → i < p → get_or (copied k p rs xs) i blank ≡ get_or xs i blank
unfolding copied
get_before zero p rs xs i h = refl
get_before (suc k) p rs xs i h =
    get_before k (p + 1) rs (set xs p (get_or rs p blank)) i (omega (arith, h)) ∙ get_or-set_other xs p i (get_or rs p blank) blank (λ e. absurd (omega (arith, h, e)))

pub get_after : (k p : ℕ) (rs xs : List TaskRecord) (i : ℕ) → p + k ≤ i → get_or (copied k p rs xs) i blank ≡ get_or xs i blank
unfolding copied
get_after zero p rs xs i h = refl
get_after (suc k) p rs xs i h =
    get_after k (p + 1) rs (set xs p (get_or rs p blank)) i (omega (arith, h)) ∙ get_or-set_other xs p i (get_or rs p blank) blank (λ e. absurd (omega (arith, h, e)))

pub get_copied : (k p : ℕ) (rs xs : List TaskRecord) (i : ℕ) → p ≤ i → i < p + k → i < length xs → get_or (copied k p rs xs) i blank ≡ get_or rs i blank
unfolding copied
get_copied zero p rs xs i h l b = absurd (omega (arith, h, l))
get_copied (suc k) p rs xs i h l b =
    ⊎_elim
    (λ g. get_copied k (p + 1) rs (set xs p (get_or rs p blank)) i (omega (arith, g)) (omega (arith, l)) (rw (length-set xs p (get_or rs p blank)) b))
    (λ g.
    let e : p ≡ i = omega (arith, h, g) in
    get_before k (p + 1) rs (set xs p (get_or rs p blank)) i (omega (arith, g)) ∙ ap (λ j. get_or (set xs p (get_or rs p blank)) j blank) (sym e)
    ∙ get_or-set_same xs p (get_or rs p blank) blank (omega (arith, b, e)) ∙ ap (λ j. get_or rs j blank) e)
    (lt_or_le p i)

-- ---- the records from p to n - 1, one at a time

module _ (n p : ℕ) (rs xs : List TaskRecord) where
  pub copied_more : p < n → copied (n - p) p rs xs ≡ copied (n - (p + 1)) (p + 1) rs (set xs p (get_or rs p blank))
  unfolding copied
  copied_more h = let e : n - p ≡ suc (n - (p + 1)) = omega (arith, h) in ap (λ (k : ℕ). copied k p rs xs) e

  pub copied_none : n ≤ p → copied (n - p) p rs xs ≡ xs
  unfolding copied
  copied_none h = let e : n - p ≡ 0 = omega (arith, h) in ap (λ (k : ℕ). copied k p rs xs) e

-- ---- the first n records

module _ (n : ℕ) (rs xs : List TaskRecord) where
  pub copied_front : n ≤ length rs → n ≤ length xs → take n (copied n 0 rs xs) ≡ take n rs
  copied_front a b =
      let long : length (take n (copied n 0 rs xs)) ≡ n = length-take-le n (copied n 0 rs xs) (rw (length_copied n 0 rs xs) b) in
      ext_get_or blank (take n (copied n 0 rs xs)) (take n rs) (long ∙ sym (length-take-le n rs a)) (λ i h.
      let l : i < n = omega (arith, h, long) in
      get_or-take n (copied n 0 rs xs) i blank l ∙ get_copied n 0 rs xs i (omega arith) (omega (arith, l)) (omega (arith, l, b)) ∙ sym (get_or-take n rs i blank l))

  -- all of xs are copied
  pub copied_all : n ≡ length xs → n ≤ length rs → copied n 0 rs xs ≡ take n rs
  copied_all e a = sym (take_all n (copied n 0 rs xs) (omega (arith, e, length_copied n 0 rs xs))) ∙ copied_front a (omega (arith, e))

  -- copies of what is there change nothing
  pub copied_same : n ≤ length xs → take n rs ≡ take n xs → copied n 0 rs xs ≡ xs
  copied_same b e =
      ext_get_or blank (copied n 0 rs xs) xs (length_copied n 0 rs xs) (λ i h.
      ⊎_elim
      (λ l. get_copied n 0 rs xs i (omega arith) (omega (arith, l)) (omega (arith, l, b)) ∙ sym (get_or-take n rs i blank l) ∙ ap (λ k. get_or k i blank) e ∙ get_or-take n xs i blank l)
      (λ l. get_after n 0 rs xs i (omega (arith, l)))
      (lt_or_le i n))

  -- where only record p may differ, to copy it is to copy all
  module _ (p : ℕ) (v : TaskRecord) (b : n ≤ length xs) (e : take n rs ≡ set (take n xs) p v) where
    abbrev count : ℕ
    count = cond (ltb p n) (p + 1) 0 - p

    same_elsewhere : (i : ℕ) → i ≢ p → get_or xs i blank ≡ get_or (copied n 0 rs xs) i blank
    same_elsewhere i d =
        ⊎_elim
        (λ l. sym (get_or-take n xs i blank l) ∙ sym (get_or-set_other (take n xs) p i v blank d) ∙ ap (λ k. get_or k i blank) (sym e) ∙ get_or-take n rs i blank l
        ∙ sym (get_copied n 0 rs xs i (omega arith) (omega (arith, l)) (omega (arith, l, b))))
        (λ l. sym (get_after n 0 rs xs i (omega (arith, l))))
        (lt_or_le i n)

    one_record : count ≡ 1 → copied count p rs xs ≡ set xs p (get_or rs p blank)
    unfolding copied
    one_record c = ap (λ k. copied k p rs xs) c

    no_record : count ≡ 0 → copied count p rs xs ≡ xs
    unfolding copied
    no_record c = ap (λ k. copied k p rs xs) c

    within : p < n → copied count p rs xs ≡ copied n 0 rs xs
    within l =
        one_record (rw (lt-ltb p n l) (omega arith)) ∙ ext_get_or blank (set xs p (get_or rs p blank)) (copied n 0 rs xs) (length-set xs p (get_or rs p blank) ∙ sym (length_copied n 0 rs xs)) (λ i h.
        ⊎_elim
        (λ q. ap (λ j. get_or (set xs p (get_or rs p blank)) j blank) q ∙ get_or-set_same xs p (get_or rs p blank) blank (omega (arith, l, b))
        ∙ sym (get_copied n 0 rs xs p (omega arith) (omega (arith, l)) (omega (arith, l, b))) ∙ ap (λ j. get_or (copied n 0 rs xs) j blank) (sym q))
        (λ q. get_or-set_other xs p i (get_or rs p blank) blank q ∙ same_elsewhere i q)
        (same_or_not i p))

    beyond : n ≤ p → copied count p rs xs ≡ copied n 0 rs xs
    beyond l =
        no_record (rw (le-ltb p n l) (omega arith)) ∙ sym (copied_same b (e ∙ set_out (take n xs) p v (omega (arith, length-take-le n xs b, l))))

    pub copied_one : copied count p rs xs ≡ copied n 0 rs xs
    copied_one = ⊎_elim within beyond (lt_or_le p n)

-- ---- copies as bytes

pub take_records : (n : ℕ) (l : List (List ℕ)) → records_from (take n l) ≡ take n (records_from l)
unfolding records_from
take_records n l = sym (take-map record_from n l)
