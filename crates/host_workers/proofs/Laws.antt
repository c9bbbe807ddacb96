-- Workers in three lists: the byte that is left of each, lists that a closure made, and all slots. Assumes nothing.
use Prim.Native.Nat.{ℕ, zero, suc, ◌+◌, ◌<◌, ◌≤◌}
use native.Mathlib.Omega.{arith}
use Rattle.std.proofs.lemmas.Bool.Decides.{nat_tests}
use mathlib.Core.Bool.{Bool, true, false}
use mathlib.Core.Logic.{⊎_elim}
use mathlib.Core.Path.{◌≡◌, sym, ap, subst, ◌∙◌}
use mathlib.Core.List.{List}
use lib.ListN.{length, get_or}
use Rattle.worker.specs.declared.Worker.{Worker}
use Rattle.worker.specs.Holding.{idle}
use Rattle.laws.proofs.Tests.{lt_or_le}
use denote.Param.Members.{Mut, Called}
use Rattle.std.specs.Array.{IsFromFnResultFrom, IsFromFnResult}
use Rattle.model.specs.Lists.{table}
use Rattle.laws.proofs.Blocks.{get_or_table, table_unique}
use Rattle.host_workers.specs.Workers.{says_busy, worker_in, slots_in, byte_left, bytes_left}

-- ---- the byte that is left

module _ (x : ℕ) where
  -- it says what it should
  says_left : (b : Bool) → says_busy (byte_left x b) ≡ b
  unfolding byte_left says_busy
  says_left true = grind (arith, nat_tests)
  says_left false = grind (arith, nat_tests)

  -- one that says so already stays
  pub stays : (b : Bool) → b ≡ says_busy x → byte_left x b ≡ x
  unfolding byte_left
  stays true e = rw (sym e)
  stays false e = rw (sym e)

-- ---- an array that a closure made, which stays as it is

module _ {F B : Type 0} {g : Mut F (ℕ × Unit {0}) B} {f : F} (p : ℕ → B) (n : ℕ) (h : (k : ℕ) (y : B) (q : F) → k < n → Called g f (k, tt) y q → (q ≡ f) × (y ≡ p k)) where
  made_from : (m i : ℕ) (ys : List B) → i + m ≤ n → IsFromFnResultFrom g f ys i m → (k : ℕ) (d : B) → i ≤ k → k < i + m → get_or ys k d ≡ p k
  made_from zero i ys b e k d l u = absurd (omega (arith, l, u))
  made_from (suc m) i ys b e k d l u =
      let one : (e.0 ≡ f) × (e.1 ≡ p i) = h i e.1 e.0 (omega (arith, b)) e.3 in
      ⊎_elim
      (λ w. made_from m (i + 1) ys (omega (arith, b)) (subst (λ (z : F). IsFromFnResultFrom g z ys (i + 1) m) one.0 e.4) k d (omega (arith, w)) (omega (arith, u)))
      (λ w. let q : i ≡ k = omega (arith, l, w) in subst (λ (z : ℕ). get_or ys z d ≡ p z) q (e.2.1 d ∙ one.1))
      (lt_or_le i k)

  pub made : (ys : List B) (d : B) → IsFromFnResult g f ys n → ys ≡ table n p
  made ys d r = table_unique n p ys d r.long (λ i l. made_from n 0 ys (omega arith) r.each i d (omega arith) (omega (arith, l)))

-- ---- all slots

module _ (b t c : List ℕ) (ws : List Worker) where
  -- a worker that stays as it was keeps its byte
  pub own_left : (v : ℕ) → v < 32 → get_or ws v idle ≡ get_or (slots_in b t c) v idle → get_or (bytes_left b ws) v 0 ≡ get_or b v 0
  unfolding bytes_left slots_in worker_in
  own_left v l e =
      get_or_table 32 (λ i. byte_left (get_or b i 0) (get_or ws i idle).busy) v 0 l
      ∙ stays (get_or b v 0) (get_or ws v idle).busy (ap (λ (w : Worker). w.busy) (e ∙ get_or_table 32 (worker_in b t c) v idle l))

  -- where each list has what is due of each worker, they are the workers
  pub scattered : (given : List ℕ) → length ws ≡ 32 → b ≡ bytes_left given ws → t ≡ table 32 (λ v. (get_or ws v idle).task) → c ≡ table 32 (λ v. (get_or ws v idle).column) → slots_in b t c ≡ ws
  unfolding slots_in worker_in bytes_left
  scattered given n e tasks columns =
      sym (table_unique 32 (worker_in b t c) ws idle n (λ i l.
      let x : ℕ = get_or given i 0 in
      let w : Worker = get_or ws i idle in
      let byte : get_or b i 0 ≡ byte_left x w.busy = ap (λ (z : List ℕ). get_or z i 0) e ∙ get_or_table 32 (λ v. byte_left (get_or given v 0) (get_or ws v idle).busy) i 0 l in
      let task : get_or t i 0 ≡ w.task = ap (λ (z : List ℕ). get_or z i 0) tasks ∙ get_or_table 32 (λ v. (get_or ws v idle).task) i 0 l in
      let column : get_or c i 0 ≡ w.column = ap (λ (z : List ℕ). get_or z i 0) columns ∙ get_or_table 32 (λ v. (get_or ws v idle).column) i 0 l in
      λ s. record { busy = sym (ap says_busy byte ∙ says_left x w.busy) s; task = sym task s; column = sym column s }))
