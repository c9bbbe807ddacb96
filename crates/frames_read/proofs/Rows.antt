-- Steps of a cursor in a row. Assumes nothing.
use Prim.Native.Nat.{ℕ, ◌+◌, ◌≤◌, ◌<◌}
use mathlib.Core.Path.{◌≡◌, refl, sym, ap, ◌∙◌, subst}
use mathlib.Core.List.{List, [], ◌∷◌, ◌++◌, map}
use native.Mathlib.Omega.{arith}
use Rattle.model.specs.Lists.{joined}
use Rattle.model.specs.Read.{Frame}
use Rattle.lines_read.proofs.Runs.{up_to, up_to_next, up_to_none}
use Rattle.cursors.specs.declared.Cursor.{Cursor}
use Rattle.std.specs.Prelude.{Ok, Err}
use Rattle.model.specs.declared.Refusal.{Refusal}
use Rattle.cursors.specs.Steps.{Step, CursorFits, step_of}
use Rattle.cursors.proofs.Steps.{step_placed}
use Rattle.frames_read.specs.Follow.{onward, follow}

module _ (t : ℕ) (text : List ℕ) where
  pub follow_placed : (fs : List Frame) (c d : Cursor) → CursorFits text c → follow t text fs c ≡ Ok d → CursorFits text d
  unfolding follow
  follow_placed [] c d p e = let q : c ≡ d = cc in subst (CursorFits text) q p
  follow_placed (f ∷ fs) c d p e = go (follow_placed fs) (step_of t text f c) refl e
    where
      go : ((c d : Cursor) → CursorFits text c → follow t text fs c ≡ Ok d → CursorFits text d) → (s : Step) → step_of t text f c ≡ s
          → onward (follow t text fs) s ≡ Ok d → CursorFits text d
      go ih (Ok c') q e = ih c' d (step_placed t text f c c' p q) e
      go ih (Err why) q e = let z : ◌≡◌ {A = ℕ} 0 1 = cc in absurd (omega arith)

  -- ---- steps in a row

  pub follow_append : (fs gs : List Frame) (c : Cursor) → follow t text (fs ++ gs) c ≡ onward (follow t text gs) (follow t text fs c)
  unfolding follow
  follow_append [] gs c = refl
  follow_append (f ∷ fs) gs c = go (follow_append fs gs) (step_of t text f c)
    where
      go : ((c : Cursor) → follow t text (fs ++ gs) c ≡ onward (follow t text gs) (follow t text fs c)) → (s : Step)
          → onward (follow t text (fs ++ gs)) s ≡ onward (follow t text gs) (onward (follow t text fs) s)
      go ih (Ok c') = ih c'
      go ih (Err why) = refl

  module _ (g : ℕ → Frame) where
    pub row_next : (x n : ℕ) (c : Cursor) → x < n → follow t text (map g (up_to x n)) c ≡ onward (follow t text (map g (up_to (x + 1) n))) (step_of t text (g x) c)
    unfolding follow
    row_next x n c h = ap (λ (js : List ℕ). follow t text (map g js) c) (up_to_next x n h)

    pub row_none : (x n : ℕ) (c : Cursor) → n ≤ x → follow t text (map g (up_to x n)) c ≡ Ok c
    unfolding follow
    row_none x n c h = ap (λ (js : List ℕ). follow t text (map g js) c) (up_to_none x n h)

  module _ (g : ℕ → List Frame) where
    pub rows_next : (x n : ℕ) (c : Cursor) → x < n
        → follow t text (joined (map g (up_to x n))) c ≡ onward (follow t text (joined (map g (up_to (x + 1) n)))) (follow t text (g x) c)
    unfolding joined
    rows_next x n c h =
        ap (λ (js : List ℕ). follow t text (joined (map g js)) c) (up_to_next x n h) ∙ follow_append (g x) (joined (map g (up_to (x + 1) n))) c

    pub rows_none : (x n : ℕ) (c : Cursor) → n ≤ x → follow t text (joined (map g (up_to x n))) c ≡ Ok c
    unfolding follow joined
    rows_none x n c h = ap (λ (js : List ℕ). follow t text (joined (map g js)) c) (up_to_none x n h)

-- ---- a step that stopped answers for all, and one that did not leaves the rest to do

module _ (k : Cursor → Step) {w s r : Step} where
  stops : (why : Refusal) → onward k s ≡ w → r ≡ s → r ≡ Err why → Err why ≡ w
  stops why h e q = sym (ap (onward k) (sym e ∙ q)) ∙ h

  goes_on : {d : Cursor} → onward k s ≡ w → r ≡ s → r ≡ Ok d → k d ≡ w
  goes_on h e q = sym (ap (onward k) (sym e ∙ q)) ∙ h

module _ (t : ℕ) (text : List ℕ) (n : ℕ) {w r : Step} (x : ℕ) (c : Cursor) (b : x < n) where
  module _ (g : ℕ → Frame) (h : follow t text (map g (up_to x n)) c ≡ w) (e : r ≡ step_of t text (g x) c) where
    pub row_stops : (why : Refusal) → r ≡ Err why → Err why ≡ w
    row_stops why q = stops (follow t text (map g (up_to (x + 1) n))) why (sym (row_next t text g x n c b) ∙ h) e q

    pub row_goes_on : {d : Cursor} → r ≡ Ok d → follow t text (map g (up_to (x + 1) n)) d ≡ w
    row_goes_on q = goes_on (follow t text (map g (up_to (x + 1) n))) (sym (row_next t text g x n c b) ∙ h) e q

  module _ (g : ℕ → List Frame) (h : follow t text (joined (map g (up_to x n))) c ≡ w) (e : r ≡ follow t text (g x) c) where
    pub rows_stop : (why : Refusal) → r ≡ Err why → Err why ≡ w
    rows_stop why q = stops (follow t text (joined (map g (up_to (x + 1) n)))) why (sym (rows_next t text g x n c b) ∙ h) e q

    pub rows_go_on : {d : Cursor} → r ≡ Ok d → follow t text (joined (map g (up_to (x + 1) n))) d ≡ w
    rows_go_on q = goes_on (follow t text (joined (map g (up_to (x + 1) n)))) (sym (rows_next t text g x n c b) ∙ h) e q
