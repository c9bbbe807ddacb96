-- What the loop of an exchange has done, and that this is the exchange of the two parts. Assumes nothing.
use mathlib.Core.Path.{◌≡◌, sym, ◌∙◌, subst}
use mathlib.Core.Logic.{◌⊎◌, inl, inr, ⊎_elim, ◌≢◌}
use mathlib.Core.List.{List}
use Prim.Native.Nat.{ℕ, ◌+◌, ◌-◌, ◌≤◌, ◌<◌}
use native.Mathlib.Omega.{arith}
use lib.ListN.{length, get_or, set, length-set}
use lib.Ieee.{Float, nan}
use borrow.Author.Count.{below_more}
use Rattle.std.proofs.lemmas.List.Edits.{Swapped as Exchanged, swap_is, swapped_from_swap}
use Rattle.model.specs.Lists.{part, with_part}
use Rattle.laws.proofs.Tests.{lt_or_le}
use Rattle.laws.specs.Apart.{Apart}
use Rattle.laws.proofs.Parts.{Fits, length_put, get_in, get_before, get_after, length_part, get_part}
use Rattle.exchanges.specs.Exchanged.{exchanged_parts}
use Rattle.fills.proofs.Stores.{Outside, stored_is}

-- the first k numbers of the two parts are exchanged
pub record Swapped (a b k : ℕ) (before after : List Float) : Type 0 where
  pub long : length after ≡ length before
  pub in_a : (j : ℕ) → j < k → get_or after (a + j) nan ≡ get_or before (b + j) nan
  pub in_b : (j : ℕ) → j < k → get_or after (b + j) nan ≡ get_or before (a + j) nan
  pub other : (x : ℕ) → Outside a k x → Outside b k x → get_or after x nan ≡ get_or before x nan

module _ (n a b : ℕ) (apart : (a ≡ b) ⊎ Apart n a b) where
  -- places that differ in their parts
  differ : (i j : ℕ) → i < n → j < n → i ≢ j → a + i ≢ b + j
  differ i j hi hj ne e = ⊎_elim (λ q. ne (omega arith)) (λ s. ⊎_elim (λ l. omega arith) (λ r. omega arith) s) apart

  -- place k of one part is outside the first k of the other
  beside : (k : ℕ) → k < n → Outside b k (a + k)
  beside k h = ⊎_elim (λ q. inr (omega arith)) (λ s. ⊎_elim (λ l. inl (omega arith)) (λ r. inr (omega arith)) s) apart

  beside' : (k : ℕ) → k < n → Outside a k (b + k)
  beside' k h = ⊎_elim (λ q. inr (omega arith)) (λ s. ⊎_elim (λ l. inr (omega arith)) (λ r. inl (omega arith)) s) apart

  module _ (k : ℕ) (before after : List Float) (s : Swapped a b k before after) (h : k < n) (room-a : a + n ≤ length before) (room-b : b + n ≤ length before) where
    abbrev turned : List Float
    turned = set (set after (a + k) (get_or after (b + k) nan)) (b + k) (get_or after (a + k) nan)

    old_a : get_or after (a + k) nan ≡ get_or before (a + k) nan
    old_a = s.other (a + k) (inr (omega arith)) (beside k h)

    old_b : get_or after (b + k) nan ≡ get_or before (b + k) nan
    old_b = s.other (b + k) (beside' k h) (inr (omega arith))

    exchanged : Exchanged (λ i. get_or after i nan) (λ i. get_or turned i nan) (a + k) (b + k)
    exchanged =
        let first : a + k < length after = omega (arith, s.long) in
        let second : b + k < length after = omega (arith, s.long) in
        swapped_from_swap after turned (a + k) (b + k) nan first second (swap_is after (a + k) (b + k) nan first second)

    elsewhere : (x : ℕ) → x ≢ a + k → x ≢ b + k → get_or turned x nan ≡ get_or after x nan
    elsewhere = exchanged.2

    here_b : get_or turned (b + k) nan ≡ get_or before (a + k) nan
    here_b = exchanged.1 ∙ old_a

    here_a : get_or turned (a + k) nan ≡ get_or before (b + k) nan
    here_a = exchanged.0 ∙ old_b

    -- one pair more
    pub swapped_more : Swapped a b (k + 1) before turned
    swapped_more = record {
      long = simp length-set s.long;
      in_a = below_more (λ (j : ℕ). get_or turned (a + j) nan ≡ get_or before (b + j) nan) k
          (λ j l. elsewhere (a + j) (λ e. absurd (omega arith)) (differ j k (omega arith) h (λ e. absurd (omega arith))) ∙ s.in_a j l)
          here_a;
      in_b = below_more (λ (j : ℕ). get_or turned (b + j) nan ≡ get_or before (a + j) nan) k
          (λ j l. elsewhere (b + j) (λ e. differ k j h (omega arith) (λ d. absurd (omega arith)) (sym e)) (λ e. absurd (omega arith)) ∙ s.in_b j l)
          here_b;
      other = λ x p q.
          elsewhere x (λ e. ⊎_elim (λ l. absurd (omega arith)) (λ r. absurd (omega arith)) p) (λ e. ⊎_elim (λ l. absurd (omega arith)) (λ r. absurd (omega arith)) q)
          ∙ s.other x (⊎_elim (λ l. inl l) (λ r. inr (omega arith)) p) (⊎_elim (λ l. inl l) (λ r. inr (omega arith)) q);
    }

-- all pairs
module _ (n a b : ℕ) (before after : List Float) (s : Swapped a b n before after) (room-a : a + n ≤ length before) (room-b : b + n ≤ length before) where
  abbrev lower : List Float
  lower = with_part b n (part a n before) before

  lower_fits : Fits n b before (part a n before)
  lower_fits = record { whole = length_part a n before room-a; room = room-b }

  beyond_a : (x : ℕ) → Outside a n x → get_or after x nan ≡ get_or lower x nan
  beyond_a x o =
      ⊎_elim
      (λ l. s.other x o (inl l) ∙ sym (get_before n nan b before (part a n before) lower_fits x l))
      (λ g.
      ⊎_elim
      (λ l.
      let j = x - b in
      let e : b + j ≡ x = omega arith in
      let h : j < n = omega arith in
      subst (λ (z : ℕ). get_or after z nan ≡ get_or lower z nan) e
      (s.in_b j h ∙ sym (get_part a n before nan j h) ∙ sym (get_in n nan b before (part a n before) lower_fits j h)))
      (λ r. s.other x o (inr r) ∙ sym (get_after n nan b before (part a n before) lower_fits x r))
      (lt_or_le x (b + n)))
      (lt_or_le x b)

  pub swapped_is : after ≡ exchanged_parts a b n before
  unfolding exchanged_parts
  swapped_is =
      stored_is nan a n (λ j. get_or before (b + j) nan) lower after (part b n before)
      (record { long = s.long ∙ sym (length_put n nan b before (part a n before) lower_fits); inside = s.in_a; outside = beyond_a })
      (record { whole = length_part b n before room-b; room = rw (length_put n nan b before (part a n before) lower_fits) room-a })
      (λ j h. get_part b n before nan j h)
