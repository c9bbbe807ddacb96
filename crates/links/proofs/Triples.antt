-- Which triples are linked: they clash, and no triple between clashes with both. Arithmetic alone. Assumes nothing.
use Prim.Native.Nat.{ℕ, suc, ◌+◌, ◌≤◌, ◌<◌}
use mathlib.Core.Path.{◌≡◌, refl}
use mathlib.Core.Logic.{◌⊎◌, inl, inr, ◌≢◌}
use native.Mathlib.Omega.{arith}
use Rattle.laws.proofs.Tests.{same_or_not}
use Rattle.links.specs.Closed.{Key, key, In, Before, by_stage, by_row, by_column, Clash, same_tile, upper_tile, left_tile, down, across, Linked, stage_back, row_first, row_above}

-- a clash says which of the two stands first
pub clash_before : (a b : Key) → Clash a b → Before a b
clash_before a b (same_tile h p q) = by_stage h
clash_before a b (upper_tile h p q) = by_stage h
clash_before a b (left_tile h p q) = by_stage h
clash_before a b (down e h q) = by_row e h
clash_before a b (across e f p h) = by_column e f h

-- a clash by cases, for omega to prove
abbrev FromClash : Key → Key → Type 0 → Type 0
FromClash a b P =
    (a.k < b.k → a.i ≡ b.i → a.j ≡ b.j → P)
    × (a.k < b.k → a.i ≡ b.k → a.j ≡ b.j → P)
    × (a.k < b.k → a.i ≡ b.i → a.j ≡ b.k → P)
    × (a.k ≡ b.k → a.i < b.i → a.j ≡ b.j → P)
    × (a.k ≡ b.k → a.i ≡ b.i → a.j ≡ a.k → a.j < b.j → P)

from_clash : {P : Type 0} (a b : Key) → FromClash a b P → Clash a b → P
from_clash a b f (same_tile h p q) = f.0 h p q
from_clash a b f (upper_tile h p q) = f.1 h p q
from_clash a b f (left_tile h p q) = f.2 h p q
from_clash a b f (down e h q) = f.3 e h q
from_clash a b f (across e g p h) = f.4 e g p h

-- ---- what a clash says of stages, rows and columns

module _ (N : ℕ) (a b : Key) (v : In N a) (w : In N b) where
  clash_onward : Clash a b → (a.k ≤ b.k) × (a.i ≤ b.i)
  clash_onward = from_clash a b (omega arith)

  -- the sum grows
  clash_sum : Clash a b → a.k + a.i + a.j < b.k + b.i + b.j
  clash_sum = from_clash a b (omega arith)

  clash_in_row : Clash a b → a.k ≡ b.k → a.i ≡ b.i → (a.j ≡ a.k) × (a.j < b.j)
  clash_in_row = from_clash a b (omega arith)

module _ (N : ℕ) (a b : Key) (v : In N a) (w : In N b) where
  -- ---- what is linked clashes, and no triple between clashes with both

  pub linked_clash : Linked a b → Clash a b
  linked_clash (stage_back e p q) = same_tile (omega arith) p q
  linked_clash (row_first e f p h) = across e f (omega arith) (omega arith)
  linked_clash (row_above e f p) = down e (omega arith) p

  pub linked_alone : Linked a b → (r : Key) → In N r → Clash a r → Clash r b → ⊥
  linked_alone (stage_back e p q) r u c d = omega (arith, clash_sum N a r v u c, clash_sum N r b u w d)
  linked_alone (row_first e f p h) r u c d = go (clash_onward N a r v u c) (clash_onward N r b u w d)
    where
      go : (a.k ≤ r.k) × (a.i ≤ r.i) → (r.k ≤ b.k) × (r.i ≤ b.i) → ⊥
      go x y = omega (arith, clash_in_row N a r v u c (omega arith) (omega arith), clash_in_row N r b u w d (omega arith) (omega arith))
  linked_alone (row_above e f p) r u c d = omega (arith, clash_sum N a r v u c, clash_sum N r b u w d)

  -- ---- what clashes, with nothing between, is linked: any other clash has a triple between

  module _ (alone : (r : Key) → In N r → Clash a r → Clash r b → ⊥) where
    between : (r : Key) → In N r → Clash a r → Clash r b → Linked a b
    between r u c d = absurd (alone r u c d)

    from_same : a.k < b.k → a.i ≡ b.i → a.j ≡ b.j → Linked a b
    from_same h p q = go (same_or_not (suc a.k) b.k)
      where
        go : (suc a.k ≡ b.k) ⊎ (suc a.k ≢ b.k) → Linked a b
        go (inl e) = stage_back e p q
        go (inr e) = between (key (suc a.k) b.i b.j) (omega arith) (same_tile (omega arith) p q) (same_tile (omega arith) refl refl)

    from_upper : a.k < b.k → a.i ≡ b.k → a.j ≡ b.j → Linked a b
    from_upper h p q = go (same_or_not b.i b.k)
      where
        go : (b.i ≡ b.k) ⊎ (b.i ≢ b.k) → Linked a b
        go (inl e) = from_same h (omega arith) q
        go (inr e) = between (key b.k b.k b.j) (omega arith) (same_tile h p q) (down refl (omega arith) refl)

    from_left : a.k < b.k → a.i ≡ b.i → a.j ≡ b.k → Linked a b
    from_left h p q = go (same_or_not b.j b.k)
      where
        go : (b.j ≡ b.k) ⊎ (b.j ≢ b.k) → Linked a b
        go (inl e) = from_same h p (omega arith)
        go (inr e) = between (key b.k b.i b.k) (omega arith) (same_tile h p q) (across refl refl refl (omega arith))

    from_down : a.k ≡ b.k → a.i < b.i → a.j ≡ b.j → Linked a b
    from_down e h q = go (same_or_not (suc a.i) b.i)
      where
        go : (suc a.i ≡ b.i) ⊎ (suc a.i ≢ b.i) → Linked a b
        go (inl f) = row_above e f q
        go (inr f) = between (key a.k (suc a.i) a.j) (omega arith) (down refl (omega arith) refl) (down e (omega arith) q)

    pub clash_linked : Clash a b → Linked a b
    clash_linked (same_tile h p q) = from_same h p q
    clash_linked (upper_tile h p q) = from_upper h p q
    clash_linked (left_tile h p q) = from_left h p q
    clash_linked (down e h q) = from_down e h q
    clash_linked (across e f p h) = row_first e f (omega arith) (omega arith)
