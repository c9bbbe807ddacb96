-- K5's claim. Assumes nothing.
use Prim.Native.Nat.{ℕ, ◌*◌, ◌<◌}
use mathlib.Core.Path.{refl}
use native.Mathlib.Omega.{arith}
use native.Mathlib.Nat.{zero-add}
use Rattle.inner_theory.specs.Setting.{Setting, Laws}
use Rattle.inner_theory.specs.Columns.{Coupled, run₃, runᵇ₃}
use Rattle.inner_theory.specs.Theorem.{opened, Good₃, Finite₃, Blocks}
use Rattle.inner_theory.proofs.Base.{Pivots}
use Rattle.inner_theory.proofs.Panels.{At, run_at, same₄}
use Rattle.inner_theory.proofs.Agree.{blocked_sound, base_sound, pivots}
use Rattle.inner_theory.proofs.AgreeFour.{blocked_sound₄, base_sound₄}

module _ (N : Setting) (L : Laws N) (b k : ℕ) (b-pos : 0 < b) (s : Coupled N) (fin : Finite₃ N (k * b) s) where
  pub finite_pivots : Good₃ N (k * b) s → Pivots N s 0 (k * b)
  unfolding run₃
  finite_pivots h = pivots N L s (k * b) 0 (k * b) (k * b) (omega arith) (omega arith) (λ n g. rw zero-add (h n g)) (λ q l u. fin q u)

  end : Good₃ N (k * b) s → At N s b (k * b) (runᵇ₃ N b (k * b) (opened N s))
  end h = run_at N s b L (opened N s) refl refl (λ i p. refl) b-pos k (finite_pivots h)

  pub blocks : Blocks N b (k * b) s
  blocks = record {
    mark₃ = (blocked_sound N L s b k b-pos (opened N s) refl refl (λ i p. refl) fin k (omega arith), base_sound N L s b k b-pos (opened N s) refl refl (λ i p. refl) fin k (omega arith));
    rows = λ h. (end h).rows;
    upper = λ h. (end h).upper;
    fourth_same = λ h. same₄ N s b L (opened N s) refl refl (λ i p. refl) b-pos k (finite_pivots h);
    mark₄ = λ h x g. (blocked_sound₄ N L s b b-pos (opened N s) refl refl (λ i p. refl) k (finite_pivots h) x g, base_sound₄ N L s b b-pos (opened N s) refl refl (λ i p. refl) k (finite_pivots h) x g);
  }
