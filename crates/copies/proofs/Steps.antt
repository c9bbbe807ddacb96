-- What the walks of the calls share: the array of copies, calls that ask nothing, and bounds of what is copied. Assumes nothing.
use mathlib.Core.Path.{◌≡◌, refl, sym, ap, subst}
use mathlib.Core.Bool.{Bool, true, false, cond}
use Prim.Native.Nat.{ℕ, ◌+◌, ◌≤◌, zero-le}
use native.Mathlib.Nat.{le_refl}
use native.Mathlib.Omega.{arith}
use mathlib.Core.List.{[], ◌∷◌, List}
use lib.Dec.{T as Holds, ltb, lit<}
use borrow.Author.Tests.{ltb-true, ltb-false}
use seplogic.Ra.Ura.{Ura}
use mir.Syntax.{w8, w64, ty_int}
use mir.Val.{Val, WT, has_ty}
use base.Logic.{SProp, ent, sep, emp, via, emp∗, comm∗}
use denote.RattleType.{RattleType}
use denote.Laws.{Is, Tells}
use denote.Plain.{uint_vals, uint_Tells}
use denote.Builtin.{u8, usize}
use denote.Array.{Array, array_vals, Array-Tells}
use denote.Slice.{Room}
use denote.Steps.{only}
use Rattle.task_records.proofs.Shelf.{bytes}

-- ---- the array of copies

abbrev pub N : ℕ
N = 1497

-- a copy
abbrev pub B : RattleType
B = Array u8 bytes

pub room : Room B N
room = (lit< tt, lit< tt)

abbrev pub byte_vals : List ℕ → List Val
byte_vals = array_vals (uint_vals w8)

pub byte_tells : Tells B (Is B) byte_vals
byte_tells = Array-Tells u8 (uint_vals w8) (uint_Tells w8) bytes

abbrev pub copies_val : List (List ℕ) → Val
copies_val xs = only (array_vals byte_vals xs)

-- ---- calls that ask nothing

pub unasked : {M : Type 1} (𝓤 : Ura M) {P Q : SProp 𝓤} → ent 𝓤 P Q → ent 𝓤 P (sep 𝓤 Q (emp 𝓤))
unasked 𝓤 {P} {Q} h = via 𝓤 Q h (via 𝓤 (sep 𝓤 (emp 𝓤) Q) (emp∗ 𝓤 Q) (comm∗ 𝓤 (emp 𝓤) Q))

pub word_typed : (n : ℕ) (w : Val) → Is usize n (w ∷ []) → Holds (has_ty (ty_int w64) w) × WT w
word_typed n w is = subst (λ (v : Val). Holds (has_ty (ty_int w64) v) × WT v) (sym (ap only is.0)) (tt, record { fits = is.1 })

-- ---- bounds

chosen_most : (t : Bool) (n : ℕ) → ltb n 1497 ≡ t → cond t n 1497 ≤ 1497
chosen_most true n e = omega (arith, ltb-true n 1497 e)
chosen_most false n e = le_refl 1497

chosen_there : (t : Bool) (n : ℕ) → ltb n 1497 ≡ t → cond t n 1497 ≤ n
chosen_there true n e = le_refl n
chosen_there false n e = ltb-false n 1497 e

pub looked_most : (n : ℕ) → cond (ltb n 1497) n 1497 ≤ 1497
looked_most n = chosen_most (ltb n 1497) n refl

pub looked_there : (n : ℕ) → cond (ltb n 1497) n 1497 ≤ n
looked_there n = chosen_there (ltb n 1497) n refl

passed : (t : Bool) (p n : ℕ) → ltb p n ≡ t → cond t (p + 1) 0 ≤ n
passed true p n e = omega (arith, ltb-true p n e)
passed false p n e = zero-le

pub past_most : (p n : ℕ) → cond (ltb p n) (p + 1) 0 ≤ n
past_most p n = passed (ltb p n) p n refl
