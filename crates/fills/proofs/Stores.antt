-- What a loop has done that stores numbers at one place after another, from a on. Assumes nothing.
use mathlib.Core.Path.{◌≡◌, refl, sym, ◌∙◌, subst}
use mathlib.Core.Logic.{◌⊎◌, inl, inr, ⊎_elim}
use mathlib.Core.List.{List}
use Prim.Native.Nat.{ℕ, ◌+◌, ◌-◌, ◌≤◌, ◌<◌}
use native.Mathlib.Omega.{arith}
use lib.ListN.{length, get_or, set, length-set}
use lib.Seq.{ext_get_or, get_or-set_same, get_or-set_other}
use Rattle.model.specs.Lists.{part, with_part}
use Rattle.laws.proofs.Tests.{same_or_not, lt_or_le}
use Rattle.laws.proofs.Parts.{Fits, length_put, get_in, get_before, get_after, length_part, get_part}

-- an index outside the k places from a on
abbrev pub Outside : ℕ → ℕ → ℕ → Type 0
Outside a k x = (x < a) ⊎ (a + k ≤ x)

-- the k places from a on hold f 0, f 1, .. , and all others are as before; d is what reading past the end gives
pub record Stored {A : Type 0} (d : A) (a k : ℕ) (f : ℕ → A) (before after : List A) : Type 0 where
  pub long : length after ≡ length before
  pub inside : (j : ℕ) → j < k → get_or after (a + j) d ≡ f j
  pub outside : (x : ℕ) → Outside a k x → get_or after x d ≡ get_or before x d

module _ {A : Type 0} (d : A) (a : ℕ) where
  pub stored_none : (f : ℕ → A) (m : List A) → Stored d a 0 f m m
  stored_none f m = record { long = refl; inside = λ j h. absurd (omega arith); outside = λ x h. refl }

  -- one store more
  pub stored_more : (k : ℕ) (f : ℕ → A) (before after : List A) (v : A) → Stored d a k f before after → a + k < length before → v ≡ f k
      → Stored d a (k + 1) f before (set after (a + k) v)
  stored_more k f before after v s room e = record {
    long = length-set after (a + k) v ∙ s.long;
    inside = λ j h.
        ⊎_elim
        (λ q. subst (λ (i : ℕ). get_or (set after (a + k) v) (a + i) d ≡ f i) (sym q) (get_or-set_same after (a + k) v d (omega (arith, s.long)) ∙ e))
        (λ q. get_or-set_other after (a + k) (a + j) v d (λ p. q (omega arith)) ∙ s.inside j (let r : j ≡ k → ⊥ = q in ⊎_elim (λ l. l) (λ g. absurd (r (omega arith))) (lt_or_le j k)))
        (same_or_not j k);
    outside = λ x h.
        get_or-set_other after (a + k) x v d (λ p. ⊎_elim (λ l. absurd (omega arith)) (λ g. absurd (omega arith)) h) ∙ s.outside x (⊎_elim (λ l. inl l) (λ g. inr (omega arith)) h);
  }

  -- the k places from a on, and then the n after them
  pub stored_join : (k n : ℕ) (f g : ℕ → A) (first second third : List A) → Stored d a k f first second → Stored d (a + k) n g second third
      → ((j : ℕ) → j < n → g j ≡ f (k + j)) → Stored d a (k + n) f first third
  stored_join k n f g first second third s t same = record {
    long = t.long ∙ s.long;
    inside = λ j h.
        ⊎_elim
        (λ l. t.outside (a + j) (inl (omega arith)) ∙ s.inside j l)
        (λ r.
        let i = j - k in
        let e : k + i ≡ j = omega arith in
        subst (λ (z : ℕ). get_or third (a + z) d ≡ f z) e (subst (λ (z : ℕ). get_or third z d ≡ f (k + i)) (omega arith) (t.inside i (omega arith) ∙ same i (omega arith))))
        (lt_or_le j k);
    outside = λ x h.
        ⊎_elim (λ l. t.outside x (inl (omega arith)) ∙ s.outside x (inl l)) (λ g. t.outside x (inr (omega arith)) ∙ s.outside x (inr (omega arith))) h;
  }

  -- all n places: the part is put in
  pub stored_is : (n : ℕ) (f : ℕ → A) (before after ys : List A) → Stored d a n f before after → Fits n a before ys → ((j : ℕ) → j < n → get_or ys j d ≡ f j)
      → after ≡ with_part a n ys before
  stored_is n f before after ys s fits same =
      ext_get_or d after (with_part a n ys before) (s.long ∙ sym (length_put n d a before ys fits))
      (λ i h.
      ⊎_elim
      (λ l. s.outside i (inl l) ∙ sym (get_before n d a before ys fits i l))
      (λ g.
      ⊎_elim
      (λ l.
      let j = i - a in
      let e : a + j ≡ i = omega arith in
      subst (λ (z : ℕ). get_or after z d ≡ get_or (with_part a n ys before) z d) e (s.inside j (omega arith) ∙ sym (same j (omega arith)) ∙ sym (get_in n d a before ys fits j (omega arith))))
      (λ r. s.outside i (inr r) ∙ sym (get_after n d a before ys fits i r))
      (lt_or_le i (a + n)))
      (lt_or_le i a))

  -- whatever was stored, nothing outside has changed
  pub stored_frame : (k n : ℕ) (f : ℕ → A) (before after : List A) → Stored d a k f before after → k ≤ n → a + n ≤ length before → after ≡ with_part a n (part a n after) before
  stored_frame k n f before after s h room =
      stored_is n (λ j. get_or after (a + j) d) before after (part a n after)
      (record { long = s.long; inside = λ j l. refl; outside = λ x o. s.outside x (⊎_elim (λ l. inl l) (λ g. inr (omega arith)) o) })
      (record { whole = length_part a n after (rw s.long room); room = room })
      (λ j l. get_part a n after d j l)
