-- A backward row cut into runs of columns that stand side by side in the matrix. Assumes nothing.
use mathlib.Core.Path.{◌≡◌, refl, sym, ◌∙◌, ap}
use mathlib.Core.List.{List}
use Prim.Native.Nat.{ℕ, zero, suc, ◌+◌, ◌-◌, ◌*◌, ◌<◌, ◌≤◌}
use native.Mathlib.Nat.{add-zero, zero-add, add-suc, suc-add}
use native.Mathlib.Omega.{arith}
use lib.ListN.{length, get_or}
use lib.Ieee.{Float, nan}
use Rattle.model.specs.Lists.{run}
use Rattle.model.specs.Num.{update}
use Rattle.model.specs.Plan.{Plan, plan}
use Rattle.model.specs.Buffer.{Buffers, tile, element}
use Rattle.model.specs.Solve.{coefficient, row_left}
use Rattle.laws.proofs.Blocks.{row_of, column_of_lem}
use Rattle.column_laws.specs.Steps.{tile_start}
use Rattle.column_laws.proofs.Updates.{at_part}
use Rattle.subtractions.specs.Subtracted.{subtracted}

-- ---- the inner loop

module _ (u v : ℕ → Float) where
  pub subtract_more : (j n : ℕ) (d whole : Float) → subtracted u v j (n - j) d ≡ whole → j < n → subtracted u v (j + 1) (n - (j + 1)) (update d (u j) (v j)) ≡ whole
  unfolding subtracted
  subtract_more j n d whole e h =
      let s : n - j ≡ suc (n - suc j) = omega arith in
      let k : j + 1 ≡ suc j = omega arith in
      rw k (rw s at e)

  pub subtract_ends : (j n : ℕ) (d whole : Float) → subtracted u v j (n - j) d ≡ whole → n ≤ j → d ≡ whole
  unfolding subtracted
  subtract_ends j n d whole e h = let s : n - j ≡ 0 = omega arith in rw s at e

-- what is subtracted in the same way
same_subtracted : (u v f g : ℕ → Float) (q j n : ℕ) (d : Float) → ((i : ℕ) → i < j + n → f (q + i) ≡ u i) → ((i : ℕ) → i < j + n → g (q + i) ≡ v i)
    → subtracted f g (q + j) n d ≡ subtracted u v j n d
unfolding subtracted
same_subtracted u v f g q j zero d hu hv = refl
same_subtracted u v f g q j (suc n) d hu hv =
    ap (λ (e : Float). subtracted f g (suc (q + j)) n e) (λ k. update d (hu j (omega arith) k) (hv j (omega arith) k))
    ∙ rw (← add-suc q j) (same_subtracted u v f g q (suc j) n (update d (u j) (v j)) (λ i h. hu i (omega arith)) (λ i h. hv i (omega arith)))

-- ---- rows

module _ (z : Plan) (s : Buffers) (x : ℕ) (y : List Float) where
  row_is : (q n : ℕ) (d : Float) → row_left z s x y (run q n) d ≡ subtracted (coefficient z s x) (λ j. get_or y j nan) q n d
  unfolding row_left run subtracted
  row_is q zero d = refl
  row_is q (suc n) d = row_is (suc q) n (update d (coefficient z s x q) (get_or y q nan))

  -- a run of columns from q on that stands at a in the matrix
  pub row_run : (a q n : ℕ) (d : Float) (m : List Float) → ((j : ℕ) → j < n → coefficient z s x (q + j) ≡ get_or m (a + j) nan)
      → subtracted (λ j. get_or m (a + j) nan) (λ j. get_or y (q + j) nan) 0 n d ≡ row_left z s x y (run q n) d
  row_run a q n d m h =
      sym (row_is q n d
      ∙ ap (λ (k : ℕ). subtracted (coefficient z s x) (λ j. get_or y j nan) k n d) (sym (add-zero q))
      ∙ same_subtracted (λ j. get_or m (a + j) nan) (λ j. get_or y (q + j) nan) (coefficient z s x) (λ j. get_or y j nan) q 0 n d (λ i k. h i (omega arith)) (λ i k. refl))

  -- one run after another
  pub row_split : (q n k : ℕ) (d : Float) → row_left z s x y (run q (n + k)) d ≡ row_left z s x y (run (q + n) k) (row_left z s x y (run q n) d)
  unfolding row_left run
  row_split q zero k d = rw (zero-add k, add-zero q)
  row_split q (suc n) k d = rw (suc-add n k, add-suc q n, ← suc-add q n) (row_split (suc q) n k (update d (coefficient z s x q) (get_or y q nan)))

-- ---- where a row's factors stand

pub factor_at : (N t i r j c : ℕ) (m : List Float) (l : List ℕ) → tile_start N t i j + t * t ≤ length m → r < t → c < t
    → coefficient (plan N t) (record { matrix = m; lists = l }) (i * t + r) (j * t + c) ≡ get_or m (tile_start N t i j + r * t + c) nan
unfolding coefficient plan element tile
factor_at N t i r j c m l room hr hc =
    let e : tile_start N t i j + (r * t + c) ≡ tile_start N t i j + r * t + c = omega arith in
    rw (row_of t i r hr, row_of t j c hc, column_of_lem t i r hr, column_of_lem t j c hc) (at_part t t (tile_start N t i j) m r c room hr hc ∙ ap (λ (k : ℕ). get_or m k nan) e)
