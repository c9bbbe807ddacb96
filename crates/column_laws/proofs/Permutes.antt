-- The exchanges of a row list, made one after another in a block of the flat slice. Assumes nothing.
use mathlib.Core.Path.{◌≡◌, refl, sym, ◌∙◌, ap}
use mathlib.Core.Logic.{◌⊎◌, inl, inr}
use mathlib.Core.Bool.{Bool, true, false, cond}
use mathlib.Core.List.{List}
use Prim.Native.Nat.{ℕ, zero, suc, ◌+◌, ◌-◌, ◌*◌, ◌<◌, ◌≤◌}
use native.Mathlib.Nat.{mul-le-mul_right}
use native.Mathlib.Numerals.{add-one}
use native.Mathlib.Omega.{arith}
use lib.Dec.{eqb}
use lib.ListN.{length, get_or}
use lib.Ieee.{Float, nan}
use borrow.Author.Tests.{eq-eqb, ne_eqb}
use borrow.Rule.Slice.PartMut.{put_same}
use Rattle.model.specs.Lists.{run, below, in_turn, part, with_part}
use Rattle.model.specs.Tile.{exchanged, all_finite}
use Rattle.model.specs.Column.{permuted, apply_start}
use Rattle.exchanges.specs.Exchanged.{exchanged_parts}
use Rattle.laws.proofs.Tests.{Order, less, equal, more, order}
use Rattle.laws.proofs.Blocks.{length_block}
use Rattle.laws.specs.Apart.{Apart}
use Rattle.laws.proofs.Parts.{Fits, length_put, part_put, put_put, length_part, get_part}
use Rattle.column_laws.proofs.Exchanges.{exchange_tile}
use Rattle.column_laws.proofs.Pairs.{finite_exchanged}

-- two rows of one block are one row, or share no number
pub rows_exchangeable : (w a x y : ℕ) → (a + x * w ≡ a + y * w) ⊎ Apart w (a + x * w) (a + y * w)
rows_exchangeable w a x y = go (order x y)
  where
    go : Order x y → (a + x * w ≡ a + y * w) ⊎ Apart w (a + x * w) (a + y * w)
    go (less h) = inr (inl (omega (arith, mul-le-mul_right w h)))
    go (equal e) = inl (ap (λ (i : ℕ). a + i * w) e)
    go (more h) = inr (inr (omega (arith, mul-le-mul_right w h)))

-- ---- lengths, and finite blocks

pub length_exchanged : (t w x y : ℕ) (b : List Float) → length (exchanged t w x y b) ≡ t * w
unfolding exchanged
length_exchanged t w x y b = length_block t w _

length_turns : (t w : ℕ) (q : List ℕ) (a n : ℕ) (b : List Float) → length b ≡ t * w → length (in_turn (λ c. exchanged t w c (get_or q c 0)) (run a n) b) ≡ t * w
unfolding in_turn run
length_turns t w q a zero b h = h
length_turns t w q a (suc n) b h = length_turns t w q (suc a) n (exchanged t w a (get_or q a 0) b) (length_exchanged t w a (get_or q a 0) b)

finite_turns : (t w : ℕ) (q : List ℕ) → ((x : ℕ) → x < t → get_or q x 0 < t) → (a n : ℕ) (b : List Float) → a + n ≤ t → length b ≡ t * w → all_finite b ≡ true
    → all_finite (in_turn (λ c. exchanged t w c (get_or q c 0)) (run a n) b) ≡ true
unfolding in_turn run
finite_turns t w q e a zero b h l f = f
finite_turns t w q e a (suc n) b h l f =
    finite_turns t w q e (suc a) n (exchanged t w a (get_or q a 0) b) (omega arith) (length_exchanged t w a (get_or q a 0) b)
    (finite_exchanged t w a (get_or q a 0) b (omega arith) (e a (omega arith)) l f)

start_by_long : (t w : ℕ) (q : List ℕ) (b : List Float) → length b ≡ t * w → (z : Bool) → length (cond z (permuted t w q b) b) ≡ t * w
unfolding permuted below
start_by_long t w q b h true = length_turns t w q 0 t b h
start_by_long t w q b h false = h

pub length_start : (t w c : ℕ) (q : List ℕ) (b : List Float) → length b ≡ t * w → length (apply_start t w c q b) ≡ t * w
unfolding apply_start
length_start t w c q b h = start_by_long t w q b h (eqb c 0)

start_by_finite : (t w : ℕ) (q : List ℕ) (b : List Float) → ((x : ℕ) → x < t → get_or q x 0 < t) → length b ≡ t * w → all_finite b ≡ true
    → (z : Bool) → all_finite (cond z (permuted t w q b) b) ≡ true
unfolding permuted below
start_by_finite t w q b e h f true = finite_turns t w q e 0 t b (omega arith) h f
start_by_finite t w q b e h f false = f

pub finite_start : (t w c : ℕ) (q : List ℕ) (b : List Float) → ((x : ℕ) → x < t → get_or q x 0 < t) → length b ≡ t * w → all_finite b ≡ true
    → all_finite (apply_start t w c q b) ≡ true
unfolding apply_start
finite_start t w c q b e h f = start_by_finite t w q b e h f (eqb c 0)

-- column 0 finds the exchanges made, any other the block as it is
pub start_first : (t w c a : ℕ) (q : List ℕ) (m after : List Float) → c ≡ 0 → after ≡ with_part a (t * w) (permuted t w q (part a (t * w) m)) m
    → after ≡ with_part a (t * w) (apply_start t w c q (part a (t * w) m)) m
unfolding apply_start
start_first t w c a q m after z e = e ∙ rw (eq-eqb c 0 z)

pub start_later : (t w c a : ℕ) (q : List ℕ) (m : List Float) → (c ≡ 0 → ⊥) → m ≡ with_part a (t * w) (apply_start t w c q (part a (t * w) m)) m
unfolding apply_start
start_later t w c a q m z = rw (ne_eqb c 0 z) (sym (put_same a (t * w) m))

-- the block that column c finds: the slice is as long as before, and the block is finite
module _ (t w c a p : ℕ) (l : List ℕ) (m mid : List Float) (room : a + t * w ≤ length m) (x : mid ≡ with_part a (t * w) (apply_start t w c (part p t l) (part a (t * w) m)) m) where
  started : Fits (t * w) a m (apply_start t w c (part p t l) (part a (t * w) m))
  started = record { whole = length_start t w c (part p t l) (part a (t * w) m) (length_part a (t * w) m room); room = room }

  pub started_long : length mid ≡ length m
  started_long = rw x (length_put (t * w) nan a m (apply_start t w c (part p t l) (part a (t * w) m)) started)

  pub started_finite : p + t ≤ length l → ((i : ℕ) → i < t → get_or l (p + i) 0 < t) → all_finite (part a (t * w) m) ≡ true → all_finite (part a (t * w) mid) ≡ true
  started_finite lists e f =
      rw (x, part_put (t * w) nan a m (apply_start t w c (part p t l) (part a (t * w) m)) started)
      (finite_start t w c (part p t l) (part a (t * w) m) (λ i h. rw (get_part p t l 0 i h) (e i h)) (length_part a (t * w) m room) f)

-- ---- the loop over the entries: c of them are done

pub record Permuting (t w a p : ℕ) (l : List ℕ) (before present : List Float) (c : ℕ) : Type 0 where
  pub within : c ≤ t
  pub long : length present ≡ length before
  pub frame : present ≡ with_part a (t * w) (part a (t * w) present) before
  pub left : in_turn (λ x. exchanged t w x (get_or (part p t l) x 0)) (run c (t - c)) (part a (t * w) present) ≡ permuted t w (part p t l) (part a (t * w) before)

module _ (t w a p : ℕ) (l : List ℕ) (before : List Float) (room : a + t * w ≤ length before) (lists : p + t ≤ length l) where
  pub permute_none : Permuting t w a p l before before 0
  unfolding permuted below
  permute_none =
      let e : t - 0 ≡ t = omega arith in
      record { within = omega arith; long = refl; frame = sym (put_same a (t * w) before); left = rw e }

  module _ (present : List Float) (c : ℕ) (s : Permuting t w a p l before present c) where
    pub permute_more : (y : ℕ) (after : List Float) → c < t → y < t → y ≡ get_or l (p + c) 0 → after ≡ exchanged_parts (a + c * w) (a + y * w) w present
        → Permuting t w a p l before after (c + 1)
    unfolding in_turn run
    permute_more y after hc hy e x =
        let n = t * w in
        let b : List Float = part a n present in
        let b' : List Float = exchanged t w c y b in
        let here : a + n ≤ length present = rw s.long room in
        let put : after ≡ with_part a n b' present = x ∙ exchange_tile t w a c y hc hy present here in
        let fits : Fits n a present b' = record { whole = length_exchanged t w c y b; room = here } in
        let fits₀ : Fits n a before b = record { whole = length_part a n present here; room = room } in
        let own : part a n after ≡ b' = rw put (part_put n nan a present b' fits) in
        let more : t - c ≡ suc (t - suc c) = omega arith in
        let entry : get_or (part p t l) c 0 ≡ y = get_part p t l 0 c hc ∙ sym e in
        let next : permuted t w (part p t l) (part a n before) ≡ in_turn (λ x. exchanged t w x (get_or (part p t l) x 0)) (run (suc c) (t - suc c)) b' =
        sym s.left ∙ rw (more, ← entry) in
        record {
          within = omega arith;
          long = ap length put ∙ length_put n nan a present b' fits ∙ s.long;
          frame = put ∙ ap (λ (z : List Float). with_part a n b' z) s.frame ∙ put_put n nan a before b fits₀ b' ∙ ap (λ (z : List Float). with_part a n z before) (sym own);
          left = rw own (rw (add-one c) (sym next));
        }

    pub permute_all : t ≤ c → present ≡ with_part a (t * w) (permuted t w (part p t l) (part a (t * w) before)) before
    unfolding in_turn run
    permute_all h =
        let e : t - c ≡ 0 = omega arith in
        let last = s.left in
        s.frame ∙ ap (λ (z : List Float). with_part a (t * w) z before) (rw e at last)
