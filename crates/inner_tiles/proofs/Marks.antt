-- One T-3 and its T-4s, with marks by what each column leaves. Assumes nothing.
use Prim.Native.Nat.{ℕ, suc, ◌*◌, ◌<◌}
use mathlib.Core.List.{List}
use mathlib.Core.Path.{refl, sym, ap, ◌∙◌}
use native.Mathlib.Omega.{arith}
use lib.Ieee.{Float}
use borrow.Author.Tests.{lt-ltb, ltb-true}
use Rattle.inner_theory.specs.Stack.{up, low, Column}
use Rattle.inner_theory.specs.Columns.{col}
use Rattle.inner_theory.specs.Sound.{AllFinite}
use Rattle.inner_theory.specs.Alike.{Alike}
use Rattle.inner_theory.specs.Theorem
use Rattle.inner_theory.specs.Theorem.{Good₃, Finite₃}
use Rattle.inner_theory.specs.Clean.{Clean₃, Cleanᵇ₃}
use Rattle.inner_theory.proofs.Clean.{clean, good_of_clean}
use Rattle.model.specs.Num.{finite}
use Rattle.model.specs.Column.{Coupled, Paired}
use Rattle.inner_tiles.specs.Instance.{ieee}
use Rattle.inner_tiles.specs.Views.{stack, view₃}
use Rattle.inner_tiles.specs.K5.{couple_columns, inner_couple_columns, pair_columns, inner_pair_columns, opened, Sized, FiniteBlock, Done₃, Doneᵇ₃, Done₄, Doneᵇ₄, Leaves}
use Rattle.inner_tiles.proofs.Instance.{laws, keeps}
use Rattle.inner_tiles.proofs.ThirdRuns.{third_follows, inner_follows, same}
use Rattle.inner_tiles.proofs.FourthRuns.{same₄, base_follows, inner_follows₄}
use Rattle.inner_theory.proofs.AgreeFour.{clean₄, cleanᵇ₄}
use Rattle.inner_theory.proofs.Blocks.{finite_pivots}

blocks_finite : (t w : ℕ) (u d : List Float) → FiniteBlock t w u → FiniteBlock t w d → (q : ℕ) → q < w → AllFinite (ieee t) 0 t (col (ieee t) (stack t w u d) q)
unfolding col stack
blocks_finite t w u d hu hd q hq (up i) hp = hu i q (omega (arith, hp.1)) hq
blocks_finite t w u d hu hd q hq (low r) hp = hd r.0 q (ltb-true r.0 t r.1) hq

finite_upper : (t w : ℕ) (u d : List Float) → ((q : ℕ) → q < w → AllFinite (ieee t) 0 t (col (ieee t) (stack t w u d) q)) → FiniteBlock t w u
unfolding col stack
finite_upper t w u d h r q hr hq = h q hq (up r) (omega arith, omega arith)

finite_lower : (t w : ℕ) (u d : List Float) → ((q : ℕ) → q < w → AllFinite (ieee t) 0 t (col (ieee t) (stack t w u d) q)) → FiniteBlock t w d
unfolding col stack
finite_lower t w u d h r q hr hq = h q hq (low (r, lt-ltb r t hr)) tt

carry : (t : ℕ) (x y : Column (ieee t)) → Alike (ieee t) t x y → AllFinite (ieee t) 0 t x → AllFinite (ieee t) 0 t y
carry t x y h f p hp = ap finite (sym (h p hp)) ∙ f p hp

back : (t : ℕ) (x y : Column (ieee t)) → Alike (ieee t) t x y → AllFinite (ieee t) 0 t y → AllFinite (ieee t) 0 t x
back t x y h f p hp = ap finite (h p hp) ∙ f p hp

module _ (b k : ℕ) (pos : 0 < b) (s : Coupled) (size : Sized (k * b) s) (fu : FiniteBlock (k * b) (k * b) s.upper) (fl : FiniteBlock (k * b) (k * b) s.lower) where
  pub known : Finite₃ (ieee (k * b)) (k * b) (view₃ (k * b) s)
  known q hq = blocks_finite (k * b) (k * b) s.upper s.lower fu fl q hq

  clean_of : Done₃ (k * b) s → Clean₃ (ieee (k * b)) (k * b) (view₃ (k * b) s)
  clean_of h c l q hq = carry (k * b) _ _ ((third_follows (k * b) (suc c) s l size).tiles q hq) (blocks_finite (k * b) (k * b) _ _ (h.upper c l) (h.lower c l) q hq)

  done_of : Clean₃ (ieee (k * b)) (k * b) (view₃ (k * b) s) → Done₃ (k * b) s
  done_of h = record { upper = λ c l. finite_upper (k * b) (k * b) _ _ (at_c c l); lower = λ c l. finite_lower (k * b) (k * b) _ _ (at_c c l) }
    where
      at_c : (c : ℕ) → c < k * b → (q : ℕ) → q < k * b → AllFinite (ieee (k * b)) 0 (k * b) (col (ieee (k * b)) (stack (k * b) (k * b) (couple_columns (k * b) (suc c) s).upper (couple_columns (k * b) (suc c) s).lower) q)
      at_c c l q hq = back (k * b) _ _ ((third_follows (k * b) (suc c) s l size).tiles q hq) (h c l q hq)

  clean-ofᵇ : Doneᵇ₃ b (k * b) s → Cleanᵇ₃ (ieee (k * b)) b (k * b) (view₃ (k * b) s)
  clean-ofᵇ h c l q hq = carry (k * b) _ _ ((inner_follows b k pos s size (suc c) l).tiles q hq) (blocks_finite (k * b) (k * b) _ _ (h.upper c l) (h.lower c l) q hq)

  done_ofᵇ : Cleanᵇ₃ (ieee (k * b)) b (k * b) (view₃ (k * b) s) → Doneᵇ₃ b (k * b) s
  done_ofᵇ h = record { upper = λ c l. finite_upper (k * b) (k * b) _ _ (at_c c l); lower = λ c l. finite_lower (k * b) (k * b) _ _ (at_c c l) }
    where
      at_c : (c : ℕ) → c < k * b → (q : ℕ) → q < k * b → AllFinite (ieee (k * b)) 0 (k * b) (col (ieee (k * b)) (stack (k * b) (k * b) (inner_couple_columns (k * b) b (suc c) (opened (k * b) b s)).upper (inner_couple_columns (k * b) b (suc c) (opened (k * b) b s)).lower) q)
      at_c c l q hq = back (k * b) _ _ ((inner_follows b k pos s size (suc c) l).tiles q hq) (h c l q hq)

  pub good : Done₃ (k * b) s → Good₃ (ieee (k * b)) (k * b) (view₃ (k * b) s)
  good h = good_of_clean (ieee (k * b)) (laws (k * b)) (k * b) (view₃ (k * b) s) known (clean_of h)

  -- ---- T-4

  module _ (h : Done₃ (k * b) s) (w : ℕ) (x : Paired) (xu : FiniteBlock (k * b) w x.upper) (xl : FiniteBlock (k * b) w x.lower) where
    abbrev Base : Type 0
    Base = Done₄ (k * b) w (couple_columns (k * b) (k * b) s).lower (couple_columns (k * b) (k * b) s).rows x

    abbrev Inner₄ : Type 0
    Inner₄ = Doneᵇ₄ b (k * b) w (inner_couple_columns (k * b) b (k * b) (opened (k * b) b s)).lower (inner_couple_columns (k * b) b (k * b) (opened (k * b) b s)).slice (inner_couple_columns (k * b) b (k * b) (opened (k * b) b s)).rows x

    x_finite : (q : ℕ) → q < w → AllFinite (ieee (k * b)) 0 (k * b) (col (ieee (k * b)) (stack (k * b) w x.upper x.lower) q)
    x_finite = blocks_finite (k * b) w x.upper x.lower xu xl

    to_inner : Base → Inner₄
    to_inner g = record { upper = λ c l. finite_upper (k * b) w _ _ (at_c c l); lower = λ c l. finite_lower (k * b) w _ _ (at_c c l) }
      where
        at_c : (c : ℕ) → c < k * b → (q : ℕ) → q < w → AllFinite (ieee (k * b)) 0 (k * b) (col (ieee (k * b)) (stack (k * b) w (inner_pair_columns (k * b) w b (inner_couple_columns (k * b) b (k * b) (opened (k * b) b s)).lower (inner_couple_columns (k * b) b (k * b) (opened (k * b) b s)).slice (inner_couple_columns (k * b) b (k * b) (opened (k * b) b s)).rows (suc c) x).upper (inner_pair_columns (k * b) w b (inner_couple_columns (k * b) b (k * b) (opened (k * b) b s)).lower (inner_couple_columns (k * b) b (k * b) (opened (k * b) b s)).slice (inner_couple_columns (k * b) b (k * b) (opened (k * b) b s)).rows (suc c) x).lower) q)
        at_c c l q hq =
            back (k * b) _ _ (inner_follows₄ b k pos s size w x q hq (suc c) l)
            (clean₄ (ieee (k * b)) (laws (k * b)) (view₃ (k * b) s) b pos (Theorem.opened (ieee (k * b)) (view₃ (k * b) s)) refl refl (λ i p. refl) k (finite_pivots (ieee (k * b)) (laws (k * b)) b k pos (view₃ (k * b) s) known (good h)) _ (x_finite q hq)
            (λ d u. carry (k * b) _ _ (base_follows b k pos s size w x q hq (suc d) u) (blocks_finite (k * b) w _ _ (g.upper d u) (g.lower d u) q hq)) c l)

    to_base : Inner₄ → Base
    to_base g = record { upper = λ c l. finite_upper (k * b) w _ _ (at_c c l); lower = λ c l. finite_lower (k * b) w _ _ (at_c c l) }
      where
        at_c : (c : ℕ) → c < k * b → (q : ℕ) → q < w → AllFinite (ieee (k * b)) 0 (k * b) (col (ieee (k * b)) (stack (k * b) w (pair_columns (k * b) w (couple_columns (k * b) (k * b) s).lower (couple_columns (k * b) (k * b) s).rows (suc c) x).upper (pair_columns (k * b) w (couple_columns (k * b) (k * b) s).lower (couple_columns (k * b) (k * b) s).rows (suc c) x).lower) q)
        at_c c l q hq =
            back (k * b) _ _ (base_follows b k pos s size w x q hq (suc c) l)
            (cleanᵇ₄ (ieee (k * b)) (laws (k * b)) (view₃ (k * b) s) b pos (Theorem.opened (ieee (k * b)) (view₃ (k * b) s)) refl refl (λ i p. refl) k (finite_pivots (ieee (k * b)) (laws (k * b)) b k pos (view₃ (k * b) s) known (good h)) _ (x_finite q hq) (keeps (k * b))
            (λ d u. carry (k * b) _ _ (inner_follows₄ b k pos s size w x q hq (suc d) u) (blocks_finite (k * b) w _ _ (g.upper d u) (g.lower d u) q hq)) c l)

  pub leaves : Leaves b (k * b) s
  leaves = record {
    mark = (λ h. done_ofᵇ ((clean (ieee (k * b)) (laws (k * b)) b k pos (view₃ (k * b) s) known (keeps (k * b))).0 (clean_of h)), λ h. done_of ((clean (ieee (k * b)) (laws (k * b)) b k pos (view₃ (k * b) s) known (keeps (k * b))).1 (clean-ofᵇ h)));
    third_same = λ h. same b k pos s size known (good h);
    fourth_same = λ h w x hu hl. same₄ b k w pos s size x hu hl known (good h);
    fourth_mark = λ h w x xu xl. (to_inner h w x xu xl, to_base h w x xu xl);
  }
