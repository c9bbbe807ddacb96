-- For every b the candidates of each column of a T-3 that is done are the same, and so is what a search tells of them: row, magnitude and ties.
-- Assumes nothing.
use Prim.Native.Nat.{ℕ, ◌+◌, ◌*◌, ◌/◌, ◌%◌, ◌≤◌, ◌<◌}
use mathlib.Core.List.{List, ◌∷◌}
use mathlib.Core.Path.{◌≡◌, refl, sym, ap₂, ◌∙◌, subst}
use native.Mathlib.Omega.{arith}
use native.Mathlib.Nat.{div-add-mod', mod-lt, mul-le-mul_right}
use mathlib.Core.Logic.{◌⊎◌, inl, inr}
use lib.Ieee.{Float}
use borrow.Author.Tests.{lt-ltb}
use Rattle.inner_theory.specs.Stack.{Place, up, low}
use Rattle.inner_theory.specs.Columns
use Rattle.inner_theory.specs.Columns.{col}
use Rattle.inner_theory.specs.Theorem
use Rattle.inner_theory.specs.Theorem.{Good₃}
use Rattle.inner_theory.proofs.Tests.{lt_or_le}
use Rattle.inner_theory.proofs.Base.{Pivots}
use Rattle.inner_theory.proofs.Panels.{run_at, run_within}
use Rattle.inner_theory.proofs.Blocks.{finite_pivots}
use Rattle.model.specs.Tile.{at}
use Rattle.model.specs.Column.{Coupled, couple_candidates}
use Rattle.laws.proofs.Runs.{map_below}
use Rattle.inner_tiles.specs.Instance.{ieee}
use Rattle.inner_tiles.specs.Inner.{Inner}
use Rattle.inner_tiles.specs.Views.{stack, view₃}
use Rattle.inner_tiles.specs.K5.{couple_columns, inner_couple_columns, opened, Sized, FiniteBlock, SoundCouple}
use Rattle.inner_tiles.proofs.Instance.{laws}
use Rattle.inner_tiles.proofs.ThirdRuns.{third_follows, inner_follows}
use Rattle.inner_tiles.proofs.Marks.{known, good}
use Rattle.inner_tiles.proofs.TaskSound.{couple_done}

module _ (b k : ℕ) (pos : 0 < b) (s : Coupled) (size : Sized (k * b) s) (fu : FiniteBlock (k * b) (k * b) s.upper) (fl : FiniteBlock (k * b) (k * b) s.lower) (h : SoundCouple (k * b) s) where
  abbrev t : ℕ
  t = k * b

  g : Good₃ (ieee t) t (view₃ t s)
  g = good b k pos s size fu fl ((couple_done t s fu fl).0 h)

  piv : Pivots (ieee t) (view₃ t s) 0 t
  piv = finite_pivots (ieee t) (laws t) b k pos (view₃ t s) (known b k pos s size fu fl) g

  abbrev K : ℕ → Columns.Blocked (ieee t)
  K n = Columns.runᵇ₃ (ieee t) b n (Theorem.opened (ieee t) (view₃ t s))

  abbrev B : ℕ → Columns.Coupled (ieee t)
  B n = Columns.run₃ (ieee t) n (view₃ t s)

  -- column c, before it is worked, is the same for every b
  column_same : (c : ℕ) → c < t → (p : Place _) → (K c).tiles p c ≡ (B c).tiles p c
  column_same c l p = go (lt_or_le (c / b) k)
    where
      go : (c / b < k) ⊎ (k ≤ c / b) → (K c).tiles p c ≡ (B c).tiles p c
      go (inl o) =
          let n_lt : c % b < b = mod-lt c pos in
          let j : c / b * b + b ≤ t = omega (arith, mul-le-mul_right b o) in
          let A = run_at (ieee t) (view₃ t s) b (laws t) (Theorem.opened (ieee t) (view₃ t s)) refl refl (λ i p. refl) pos (c / b) (λ d u v. piv d u (omega arith)) in
          let W = run_within (ieee t) (view₃ t s) b (laws t) (Theorem.opened (ieee t) (view₃ t s)) refl refl (λ i p. refl) pos (c / b) (c % b) n_lt A in
          subst (λ (x : ℕ). (K x).tiles p x ≡ (B x).tiles p x) (div-add-mod' c b) (W.mid (c / b * b + c % b) (omega arith) (omega arith) p)
      go (inr o) = absurd (omega (arith, div-add-mod' c b, mul-le-mul_right b o))

  abbrev I : ℕ → Inner
  I n = inner_couple_columns t b n (opened t b s)

  abbrev C : ℕ → Coupled
  C n = couple_columns t n s

  up_same : (c : ℕ) → c < t → (i : ℕ) → i < t → at t (I c).upper i c ≡ at t (C c).upper i c
  unfolding stack col
  up_same c l i hi = (inner_follows b k pos s size c (omega arith)).tiles c l (up i) (omega arith, omega arith) ∙ (column_same c l (up i) ∙ sym ((third_follows t c s (omega arith) size).tiles c l (up i) (omega arith, omega arith)))

  low_same : (c : ℕ) → c < t → (r : ℕ) → r < t → at t (I c).lower r c ≡ at t (C c).lower r c
  unfolding stack col
  low_same c l r hr = (inner_follows b k pos s size c (omega arith)).tiles c l (low (r, lt-ltb r t hr)) tt ∙ (column_same c l (low (r, lt-ltb r t hr)) ∙ sym ((third_follows t c s (omega arith) size).tiles c l (low (r, lt-ltb r t hr)) tt))

  pub candidates_same : (c : ℕ) → c < t → couple_candidates t c (I c).upper (I c).lower ≡ couple_candidates t c (C c).upper (C c).lower
  unfolding couple_candidates
  candidates_same c l = ap₂ (λ (x : Float) (xs : List Float). x ∷ xs) (up_same c l c l) (map_below (λ r. at t (I c).lower r c) (λ r. at t (C c).lower r c) t (low_same c l))
