-- How many links there are: row by row, stage by stage. Assumes nothing.
use Prim.Native.Nat.{ℕ, zero, suc, ◌+◌, ◌-◌, ◌*◌, ◌/◌, ◌≤◌, ◌<◌}
use mathlib.Core.Bool.{Bool, true, false, cond}
use mathlib.Core.Path.{◌≡◌, refl, ap, ◌∙◌}
use mathlib.Core.Logic.{◌⊎◌, inl, inr, ◌≢◌}
use mathlib.Core.List.{[], ◌∷◌, ◌++◌, map}
use native.Mathlib.Omega.{arith}
use lib.Dec.{eqb}
use lib.ListN.{length, length-append}
use borrow.Author.Tests.{eq-eqb, ne_eqb}
use Rattle.model.specs.Lists.{run, below, joined}
use Rattle.model.specs.Task.{tasks, task_count}
use Rattle.model.specs.Links.{links_to, link_count, links_open}
use Rattle.laws.proofs.Tests.{same_or_not}
use Rattle.links.specs.Closed.{Key, key, In, offset, squares, number, back_of, above_of, left_of, back_link, above_link, left_link, links_at}
use Rattle.links.proofs.Order.{offset_suc, offset_squares, six_squares, number_at, length_tasks}
use Rattle.links.proofs.Direct.{links_are}

-- 0 where the test passes, else 1
there : Bool → ℕ
there t = cond t 0 1

there_zero : (x y : ℕ) → x ≡ y → there (eqb x y) ≡ 0
unfolding there
there_zero x y e = rw (eq-eqb x y e)

there_one : (x y : ℕ) → x ≢ y → there (eqb x y) ≡ 1
unfolding there
there_one x y e = rw (ne_eqb x y e)

length_unless : (t : Bool) (x : ℕ) → length (cond t [] (x ∷ [])) ≡ there t
unfolding there
length_unless true x = refl
length_unless false x = refl

module _ (N : ℕ) where
  -- ---- the links to one task

  links_at_lem : (b : Key) → In N b → length (links_to (tasks N) (number N b)) ≡ there (eqb b.k 0) + (there (eqb b.i b.k) + there (eqb b.j b.k))
  unfolding links_at back_link above_link left_link
  links_at_lem b w =
      ap length (links_are N b w) ∙ length-append (back_link N b) (above_link N b ++ left_link N b)
      ∙ (λ i. length_unless (eqb b.k 0) (number N (back_of b)) i + length-append (above_link N b) (left_link N b) i)
      ∙ (λ i. there (eqb b.k 0)
      + (length_unless (eqb b.i b.k) (number N (above_of b)) i + length_unless (eqb b.j b.k) (number N (left_of b)) i))

  -- ---- the links to the n tasks from a on

  total : ℕ → ℕ → ℕ
  total a n = length (joined (map (links_to (tasks N)) (run a n)))

  total_none : (a : ℕ) → total a 0 ≡ 0
  unfolding total joined run
  total_none a = refl

  total_first : (a n : ℕ) → total a (suc n) ≡ length (links_to (tasks N) a) + total (suc a) n
  unfolding total joined run
  total_first a n = length-append (links_to (tasks N) a) (joined (map (links_to (tasks N)) (run (suc a) n)))

  total_add : (n a m e : ℕ) → n + m ≡ e → total a e ≡ total a n + total (a + n) m
  total_add zero a m e q = let z : m ≡ e = omega arith in let y : a + 0 ≡ a = omega arith in rw (z, y) (omega (arith, total_none a))
  total_add (suc n) a m e q = go (e - 1) (omega arith) (total_add n (suc a) m (e - 1) (omega arith))
    where
      go : (d : ℕ) → e ≡ suc d → total (suc a) d ≡ total (suc a) n + total (suc a + n) m → total a e ≡ total a (suc n) + total (a + suc n) m
      go d s ih = let y : a + suc n ≡ suc a + n = omega arith in rw (s, y) (omega (arith, total_first a d, total_first a n, ih))

  total_one : (a : ℕ) → total a 1 ≡ length (links_to (tasks N) a)
  total_one a = omega (arith, total_first a 0, total_none (suc a))

  -- ---- a row: the first y tasks of row x of stage k, which has w rows

  module _ (k w : ℕ) (hw : k + w ≡ N) where
    task_links : (x y : ℕ) → x < w → y < w → length (links_to (tasks N) (offset N k + (x * w + y))) ≡ there (eqb k 0) + (there (eqb (k + x) k) + there (eqb (k + y) k))
    task_links x y hx hy = rw (← number_at N k x y w (omega arith)) (links_at_lem (key k (k + x) (k + y)) (omega arith))

    row : (x : ℕ) → x < w → (y : ℕ) → y ≤ w → total (offset N k + x * w) y ≡ y * (there (eqb k 0) + there (eqb (k + x) k)) + (y - 1)
    row x hx zero hy = omega (arith, total_none (offset N k + x * w))
    row x hx (suc y) hy = let e : suc y - 1 ≡ y = omega arith in rw e (go (row x hx y (omega arith)) (same_or_not y 0))
      where
        z : total (offset N k + x * w) (suc y) ≡ total (offset N k + x * w) y + length (links_to (tasks N) (offset N k + (x * w + y)))
        z = let q : offset N k + (x * w + y) ≡ offset N k + x * w + y = omega arith in
            rw q (total_add y (offset N k + x * w) 1 (suc y) (omega arith) ∙ ap (λ (r : ℕ). total (offset N k + x * w) y + r) (total_one (offset N k + x * w + y)))

        go : total (offset N k + x * w) y ≡ y * (there (eqb k 0) + there (eqb (k + x) k)) + (y - 1) → (y ≡ 0) ⊎ (y ≢ 0)
            → total (offset N k + x * w) (suc y) ≡ suc y * (there (eqb k 0) + there (eqb (k + x) k)) + y
        go ih (inl e) = omega (arith, z, ih, task_links x y hx (omega arith), there_zero (k + y) k (omega arith))
        go ih (inr e) = omega (arith, z, ih, task_links x y hx (omega arith), there_one (k + y) k (λ q. omega arith))

    -- ---- a stage: its first x rows

    stage : (x : ℕ) → x ≤ w → total (offset N k) (x * w) ≡ x * (w * there (eqb k 0)) + ((x - 1) * w + x * (w - 1))
    stage zero hx = let e : 0 * w ≡ 0 = omega arith in rw e (omega (arith, total_none (offset N k)))
    stage (suc x) hx = let e : suc x - 1 ≡ x = omega arith in rw e (go x hx (stage x (omega arith)))
      where
        more : (x : ℕ) → total (offset N k) (suc x * w) ≡ total (offset N k) (x * w) + total (offset N k + x * w) w
        more x = total_add (x * w) (offset N k) w (suc x * w) (omega arith)

        go : (x : ℕ) → x < w → total (offset N k) (x * w) ≡ x * (w * there (eqb k 0)) + ((x - 1) * w + x * (w - 1))
            → total (offset N k) (suc x * w) ≡ suc x * (w * there (eqb k 0)) + (x * w + suc x * (w - 1))
        go zero h ih = omega (arith, more 0, ih, rw (there_zero (k + 0) k (omega arith)) at (row 0 h w (omega arith)))
        go (suc x) h ih = let d : suc x - 1 ≡ x = omega arith in
            omega (arith, more (suc x), rw d at ih, rw (there_one (k + suc x) k (λ q. omega arith)) at (row (suc x) h w (omega arith)))

    whole_stage : total (offset N k) (w * w) ≡ w * w * there (eqb k 0) + 2 * (w * (w - 1))
    whole_stage = omega (arith, stage w (omega arith))

  -- ---- all stages: the first has no links from a stage before it

  later_stages : (w k : ℕ) → k + w ≡ N → 0 < k → 2 * total (offset N k) (squares w) + w * (w + 1) ≡ w * (w + 1) * (2 * w)
  unfolding squares
  later_stages zero k e h = omega (arith, total_none (offset N k))
  later_stages (suc w) k e h =
      let o : offset N (suc k) ≡ offset N k + suc w * suc w = offset_suc N k (suc w) (omega arith) in
      let t = total_add (suc w * suc w) (offset N k) (squares w) (squares w + suc w * suc w) (omega arith) in
      let d : suc w - 1 ≡ w = omega arith in
      omega (arith, rw (← o) at t, rw (d, there_one k 0 (λ q. omega arith)) at (whole_stage k (suc w) (omega arith)), later_stages w (suc k) (omega arith) (omega arith))

  as_total : link_count (tasks N) ≡ total 0 (task_count N)
  unfolding link_count below total
  as_total = ap (λ (n : ℕ). length (joined (map (links_to (tasks N)) (run 0 n)))) (length_tasks N)

  squares_count : squares N ≡ task_count N
  unfolding task_count
  squares_count = omega (arith, six_squares N)

module _ (n : ℕ) where
  abbrev M : ℕ
  M = suc n

  first_stage : total M 0 (M * M) ≡ 2 * (M * n)
  unfolding offset
  first_stage = let d : M - 1 ≡ n = omega arith in omega (arith, rw (there_zero 0 0 refl, d) at (whole_stage M 0 M (omega arith)))

  second_stage : offset M 1 ≡ 0 + M * M
  unfolding offset
  second_stage = offset_suc M 0 M (omega arith)

  all_stages : total M 0 (task_count M) ≡ M * n * (2 * M + 1) / 2
  all_stages =
      let d : M - 1 ≡ n = omega arith in
      let s : M * M + squares n ≡ task_count M = omega (arith, squares_count M, second_stage, rw d at (offset_squares M 1 (omega arith))) in
      omega (arith, total_add M (M * M) 0 (squares n) (task_count M) s, first_stage, rw second_stage at (later_stages M n 1 (omega arith) (omega arith)))

pub link_count_lem : (N : ℕ) → link_count (tasks N) ≡ N * (N - 1) * (2 * N + 1) / 2
link_count_lem zero = unfold links_open in refl
link_count_lem (suc n) = let d : suc n - 1 ≡ n = omega arith in rw d (as_total (suc n) ∙ all_stages n)
