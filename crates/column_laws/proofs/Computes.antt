-- Lists of computed numbers, row after row: two are finite alike if they are row by row. Assumes nothing.
use mathlib.Core.Path.{◌≡◌, refl}
use mathlib.Core.Bool.{Bool}
use mathlib.Core.List.{List, map}
use Prim.Native.Nat.{ℕ, zero, suc, ◌+◌, ◌<◌}
use native.Mathlib.Nat.{add-zero, add-suc, suc-add}
use native.Mathlib.Omega.{arith}
use Rattle.model.specs.Lists.{run, every, joined}
use Rattle.laws.proofs.Every.{every_append}

module _ {A : Type 0} (p : A → Bool) where
  pub every_joined : (g h : ℕ → List A) (a b n : ℕ) → ((i : ℕ) → i < n → every p (g (a + i)) ≡ every p (h (b + i)))
      → every p (joined (map g (run a n))) ≡ every p (joined (map h (run b n)))
  unfolding joined run
  every_joined g h a b zero e = refl
  every_joined g h a b (suc n) e =
      let first : every p (g a) ≡ every p (h b) = rw (add-zero a, add-zero b) at (e 0 (omega arith)) in
      rw (
        every_append p (g a) (joined (map g (run (suc a) n))),
        every_append p (h b) (joined (map h (run (suc b) n))),
        first,
        every_joined g h (suc a) (suc b) n (λ i l. rw (suc-add a i, suc-add b i, ← add-suc a i, ← add-suc b i) (e (suc i) (omega arith))),
      )
