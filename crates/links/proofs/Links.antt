-- The tasks that document 01's definition links are those that the closed form links. Assumes nothing.
use Prim.Native.Nat.{ℕ, suc, ◌-◌, ◌<◌}
use mathlib.Core.Bool.{Bool, true, not, ◌&&◌}
use mathlib.Core.Path.{◌≡◌, ap}
use mathlib.Core.Logic.{◌↔◌}
use native.Mathlib.Omega.{arith}
use borrow.Author.Tests.{not-true}
use Rattle.model.specs.Lists.{run, some}
use Rattle.model.specs.Task.{tasks, task_count, clash}
use Rattle.model.specs.Links.{task, between, linked}
use Rattle.laws.proofs.Tests.{never, and_left, and_right, and_intro, false_if, some_run_intro, some_run_elim}
use Rattle.links.specs.Closed.{Key, In, number, key_at, Clash, Linked}
use Rattle.links.proofs.Numbering.{task_is}
use Rattle.links.proofs.Order.{back, number_fits, number_mono, before_of_number}
use Rattle.links.proofs.Clashes.{clash_of, of_clash}
use Rattle.links.proofs.Triples.{clash_before, linked_clash, linked_alone, clash_linked}

module _ (N : ℕ) where
  abbrev clashing : ℕ → ℕ → Bool
  clashing p q = clash (task (tasks N) p) (task (tasks N) q)

  -- r clashes with p and with q
  abbrev both : ℕ → ℕ → ℕ → Bool
  both p q r = clashing p r && clashing r q

  -- p and q clash, and no task between clashes with both
  abbrev Direct : ℕ → ℕ → Type 0
  Direct p q = (clashing p q ≡ true) × ((r : ℕ) → p < r → r < q → clashing p r ≡ true → clashing r q ≡ true → ⊥)

  linked_is_direct : (p q : ℕ) → linked (tasks N) p q ≡ true → Direct p q
  unfolding linked between
  linked_is_direct p q e = (
    and_left (clashing p q) (not inside) e,
    λ r h l c d. never (some_run_intro (both p q) (suc p) (q - suc p) r h (omega arith) (and_intro (clashing p r) (clashing r q) c d)) (not-true inside (and_right (clashing p q) (not inside) e)),
  )
    where
      inside : Bool
      inside = some (both p q) (run (suc p) (q - suc p))

  direct_is_linked : (p q : ℕ) → p < q → Direct p q → linked (tasks N) p q ≡ true
  unfolding linked between
  direct_is_linked p q h d = and_intro (clashing p q) (not inside) d.0 (ap not (false_if inside found))
    where
      inside : Bool
      inside = some (both p q) (run (suc p) (q - suc p))

      found : inside ≡ true → ⊥
      found e =
          let (r, l, k, g) = some_run_elim (both p q) (suc p) (q - suc p) e in
          d.1 r l (omega arith) (and_left (clashing p r) (clashing r q) g) (and_right (clashing p r) (clashing r q) g)

  -- ---- from triples to numbers and back

  to_clash : (a b : Key) → In N a → In N b → number N a < number N b → clashing (number N a) (number N b) ≡ true → Clash a b
  to_clash a b v w h e = clash_of a b N v w (before_of_number N a b v w h) (rw (task_is N a v, task_is N b w) at e)

  from_clash : (a b : Key) → In N a → In N b → Clash a b → clashing (number N a) (number N b) ≡ true
  from_clash a b v w c = rw (task_is N a v, task_is N b w) (of_clash a b c)

  module _ (a b : Key) (v : In N a) (w : In N b) where
    pub linked_order : Linked a b → number N a < number N b
    linked_order l = number_mono N a b v w (clash_before a b (linked_clash N a b v w l))

    linked_direct : Linked a b → Direct (number N a) (number N b)
    linked_direct l = (from_clash a b v w (linked_clash N a b v w l), alone (number_fits N b w))
      where
        alone : number N b < task_count N → (r : ℕ) → number N a < r → r < number N b → clashing (number N a) r ≡ true → clashing r (number N b) ≡ true → ⊥
        alone fits r h k e f =
            let (u, q) = back N r (omega arith) in
            linked_alone N a b v w l (key_at N r) u (to_clash a (key_at N r) v u (rw q h) (rw q e)) (to_clash (key_at N r) b u w (rw q k) (rw q f))

    direct_linked : number N a < number N b → Direct (number N a) (number N b) → Linked a b
    direct_linked h d =
        clash_linked N a b v w
        (λ r u c e. d.1 (number N r) (number_mono N a r v u (clash_before a r c)) (number_mono N r b u w (clash_before r b e)) (from_clash a r v u c) (from_clash r b u w e))
        (to_clash a b v w h d.0)

    pub links : number N a < number N b → (linked (tasks N) (number N a) (number N b) ≡ true) ↔ Linked a b
    links h = (λ e. direct_linked h (linked_is_direct (number N a) (number N b) e), λ l. direct_is_linked (number N a) (number N b) h (linked_direct l))
