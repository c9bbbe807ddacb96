-- The published loops on the lent buffers are order_free's loops on their cells.
-- Assumes nothing.
use Prim.Native.Nat.{ℕ, zero, suc, ◌+◌, ◌*◌, ◌≤◌, ◌<◌}
use mathlib.Core.Bool.{Bool, true, false, cond}
use mathlib.Core.Path.{◌≡◌, refl, sym, ap, ◌∙◌, subst}
use mathlib.Core.Logic.{◌⊎◌, inl, inr}
use mathlib.Core.List.{List}
use native.Mathlib.Nat.{zero-add, add-zero, add-suc, suc-add}
use native.Mathlib.Omega.{arith}
use lib.Ieee.{Float}
use lib.ListN.{length, get_or, length-set, length-replicate}
use lib.ListN as L
use lib.Seq.{get_or-set_same, get_or-set_other}
use Rattle.model.specs.Lists.{run, below, in_turn}
use Rattle.model.specs.Task.{Task}
use Rattle.model.specs.Plan.{Plan, plan}
use Rattle.model.specs.Links.{task, mark}
use Rattle.model.specs.Links as ML
use Rattle.model.specs.Buffer.{Buffers, Ended, worked, column_ties, sound}
use Rattle.model.specs.Loops.{State, with_ties, columns, ended, performed, start}
use Rattle.model.specs.Loops as M
use Rattle.order_free.specs.Below.{set}
use Rattle.order_free.specs.System.{System}
use Rattle.order_free.specs.Graph.{Mark, spoils}
use Rattle.order_free.specs.Graph as G
use Rattle.order_free.specs.Loops.{TaskEnd, Swept, loops}
use Rattle.order_free.specs.Loops as OL
use Rattle.order_free.specs.Sums.{Gain, run_gain, loop_gain}
use Rattle.order_free.proofs.Tests.{eq_or_lt}
use Rattle.laws.proofs.Each.{Each}
use Rattle.cells.specs.Cells.{Val, view, plan_for, system, ties}
use Rattle.cells.proofs.Elements.{get_or_same}
use Rattle.cells.proofs.Valid.{Valid}
use Rattle.cells.proofs.View.{Same}
use Rattle.cells.proofs.Columns.{worked_same, filled_same, sound_same, ties_same}
use Rattle.cells.proofs.Marks.{to_mark, marks_set}
use Rattle.cells.proofs.Spoils.{spoils_is}

-- the last of a run of numbers in turn comes last
in_turn_last : {A : Type 0} (f : ℕ → A → A) (a n : ℕ) (s : A) → in_turn f (run a (suc n)) s ≡ f (a + n) (in_turn f (run a n) s)
unfolding in_turn run
in_turn_last f a zero s = ap (λ (k : ℕ). f k s) (sym (add-zero a))
in_turn_last f a (suc n) s = in_turn_last f (suc a) n (f a s) ∙ ap (λ (k : ℕ). f k (in_turn f (run (suc a) n) (f a s))) (suc-add a n ∙ sym (add-suc a n))

module _ (N t : ℕ) (m : List Float) where
  -- the cells that the loops start from
  unfoldable pub σ₀ : ℕ → Val
  σ₀ = view N t (start (plan N t) m).buffers

  pub start_same : length m ≡ N * N * (t * t) → Same N t (start (plan N t) m).buffers σ₀
  unfolding start plan σ₀
  start_same hm = (record { matrix = hm; lists = length-replicate (N * N * t) 0 }, refl)

module _ (N t : ℕ) (ts : List Task) where
  abbrev S : System
  S = system N t ts

  abbrev z : Plan
  z = plan_for N t ts

  abbrev T : Gain S
  T = ties N t ts

  abbrev count : ℕ
  count = length ts

  abbrev tk : ℕ → Task
  tk p = task ts p

  -- ---- what is left in the model, and in the system

  -- by a task or a column
  pub record Ends (e : Ended) (o : TaskEnd S) : Type 0 where
    pub left : Same N t e.left o.cells
    pub mark : to_mark e.mark ≡ o.mark
    pub begun : 1 ≤ e.mark
    pub most : e.mark ≤ 4

  pub either_ends : (b b' : Bool) → b ≡ b' → (x y : Ended) (u v : TaskEnd S) → Ends x u → Ends y v
      → Ends (elim b as (λ q. Ended) [ true ↦ x | false ↦ y ]) (cond b' u v)
  either_ends true b' e x y u v p q = subst (λ (c : Bool). Ends x (cond c u v)) e p
  either_ends false b' e x y u v p q = subst (λ (c : Bool). Ends y (cond c u v)) e q

  with_ties_lem : (k : ℕ) (e : Ended) (o : TaskEnd S) → Ends e o → Ends (with_ties k e) o
  with_ties_lem k e o x = record { left = x.left; mark = x.mark; begun = x.begun; most = x.most }

  pub either_ties : (b b' : Bool) → b ≡ b' → (x y : Ended) (u v : ℕ) → x.ties ≡ u → y.ties ≡ v
      → (elim b as (λ q. Ended) [ true ↦ x | false ↦ y ]).ties ≡ cond b' u v
  either_ties true b' e x y u v p q = subst (λ (c : Bool). x.ties ≡ cond c u v) e p
  either_ties false b' e x y u v p q = subst (λ (c : Bool). y.ties ≡ cond c u v) e q

  -- by the loops so far
  pub record Matches (s : State) (x : Swept S) : Type 0 where
    pub cells : Same N t s.buffers x.cells
    pub marks : (λ (p : ℕ). to_mark (mark s.marks p)) ≡ x.marks
    pub long : length s.marks ≡ count

  module _ (va : Each (Valid N) ts) where
    -- ---- a task

    columns_run : (n c p : ℕ) → p < count → (s : Buffers) (σ : ℕ → Val) → Same N t s σ → Ends (columns z n c (tk p) s) (OL.run S p c n σ)
    unfolding columns OL.run
    columns_run zero c p h s σ w = record { left = w; mark = refl; begun = omega arith; most = omega arith }
    columns_run (suc n) c p h s σ w =
        let w' : Same N t (worked z (tk p) c s) (S.col p c σ) = worked_same N t ts va p h s σ w c in
        either_ends (sound z (tk p) c s) (S.ok p c σ) (sound_same N t ts va p h s σ w c) _ _ (OL.run S p (suc c) n (S.col p c σ))
        (record { cells = S.fill p (S.col p c σ); mark = G.failed })
        (with_ties_lem (column_ties z (tk p) c s) _ _ (columns_run n (suc c) p h (worked z (tk p) c s) (S.col p c σ) w'))
        (record { left = filled_same N t ts va p h _ _ w'; mark = refl; begun = omega arith; most = omega arith })

    ended_task : (p : ℕ) → p < count → (s : State) (x : Swept S) → Matches s x → Ends (ended z s p) (OL.task S p x.marks x.cells)
    unfolding ended OL.task
    ended_task p h s x m =
        either_ends (ML.spoils ts s.marks p) (spoils S x.marks p)
        (sym (spoils_is N t ts va s.marks p h) ∙ ap (λ (f : ℕ → Mark). spoils S f p) m.marks)
        _ _ (record { cells = S.fill p x.cells; mark = G.spoiled }) (OL.run S p zero t x.cells)
        (record { left = filled_same N t ts va p h _ _ m.cells; mark = refl; begun = omega arith; most = omega arith })
        (columns_run t 0 p h s.buffers x.cells m.cells)

    -- ---- its ties

    columns_ties : (n c p : ℕ) → p < count → (s : Buffers) (σ : ℕ → Val) → Same N t s σ → (columns z n c (tk p) s).ties ≡ run_gain S T p c n σ
    unfolding columns run_gain
    columns_ties zero c p h s σ w = refl
    columns_ties (suc n) c p h s σ w =
        let w' : Same N t (worked z (tk p) c s) (S.col p c σ) = worked_same N t ts va p h s σ w c in
        either_ties (sound z (tk p) c s) (S.ok p c σ) (sound_same N t ts va p h s σ w c) _ _ _ 0
        (λ i. ties_same N t ts va p h s σ w c i + columns_ties n (suc c) p h (worked z (tk p) c s) (S.col p c σ) w' i) refl

    ended_ties : (p : ℕ) → p < count → (s : State) (x : Swept S) → Matches s x
        → (ended z s p).ties ≡ cond (spoils S x.marks p) 0 (run_gain S T p zero t x.cells)
    unfolding ended
    ended_ties p h s x m =
        either_ties (ML.spoils ts s.marks p) (spoils S x.marks p)
        (sym (spoils_is N t ts va s.marks p h) ∙ ap (λ (f : ℕ → Mark). spoils S f p) m.marks)
        _ _ 0 (run_gain S T p zero t x.cells) refl (columns_ties t 0 p h s.buffers x.cells m.cells)

    -- ---- the loops

    performed_step : (p : ℕ) → p < count → (s : State) (x : Swept S) → Matches s x
        → Matches (performed z p s)
        (record { cells = (OL.task S p x.marks x.cells).cells; marks = set x.marks p (OL.task S p x.marks x.cells).mark })
    unfolding performed
    performed_step p h s x m =
        let e : Ends (ended z s p) (OL.task S p x.marks x.cells) = ended_task p h s x m in
        record {
          cells = e.left;
          marks = marks_set s.marks p (ended z s p).mark (subst (λ (k : ℕ). p < k) (sym m.long) h) ∙ (λ i. set (m.marks i) p (e.mark i));
          long = length-set s.marks p (ended z s p).mark ∙ m.long;
        }

    module _ (m : List Float) (hm : length m ≡ N * N * (t * t)) where
      begin : Matches (in_turn (performed z) (run 0 0) (start z m)) (record { cells = σ₀ N t m; marks = λ p. G.waiting })
      unfolding in_turn run start plan mark
      begin = record { cells = start_same N t m hm; marks = λ i p. to_mark (get_or_same count p 0 i); long = length-replicate count 0 }

      sweep : (k : ℕ) → k ≤ count → Matches (in_turn (performed z) (run 0 k) (start z m)) (loops S k (σ₀ N t m))
      unfolding loops
      sweep zero h = begin
      sweep (suc k) h =
          let s : State = in_turn (performed z) (run 0 k) (start z m) in
          subst (λ (y : State). Matches y (loops S (suc k) (σ₀ N t m)))
          (sym (in_turn_last (performed z) 0 k (start z m) ∙ ap (λ (q : ℕ). performed z q s) (zero-add k)))
          (performed_step k h s (loops S k (σ₀ N t m)) (sweep k (omega arith)))

      pub loops_match : Matches (M.loops z m) (loops S count (σ₀ N t m))
      unfolding M.loops below
      loops_match = sweep count (omega arith)

      -- ---- their tie sums

      pub record Summed (k : ℕ) (s : State) : Type 0 where
        pub sums : (q : ℕ) → q < k → get_or s.ties q 0 ≡ loop_gain S T (σ₀ N t m) q
        pub long : length s.ties ≡ count

      sum_step : (k : ℕ) → k < count → (s : State) → Matches s (loops S k (σ₀ N t m)) → Summed k s → Summed (suc k) (performed z k s)
      unfolding performed loop_gain
      sum_step k h s a b = record { sums = λ q l. go q (eq_or_lt k q l); long = length-set s.ties k _ ∙ b.long }
        where
          go : (q : ℕ) → (q ≡ k) ⊎ (q < k) → get_or (L.set s.ties k (ended z s k).ties) q 0 ≡ loop_gain S T (σ₀ N t m) q
          go q (inl e) = subst (λ (i : ℕ). get_or (L.set s.ties k (ended z s k).ties) i 0 ≡ loop_gain S T (σ₀ N t m) i) (sym e)
              (get_or-set_same s.ties k _ 0 (subst (λ (i : ℕ). k < i) (sym b.long) h) ∙ ended_ties k h s (loops S k (σ₀ N t m)) a)
          go q (inr l) = get_or-set_other s.ties k q _ 0 (λ e. omega arith) ∙ b.sums q l

      sweep_sums : (k : ℕ) → k ≤ count → Summed k (in_turn (performed z) (run 0 k) (start z m))
      unfolding in_turn run
      sweep_sums zero h = record { sums = λ q l. absurd (omega arith); long = unfold start in length-replicate count 0 }
      sweep_sums (suc k) h =
          let s : State = in_turn (performed z) (run 0 k) (start z m) in
          subst (Summed (suc k)) (sym (in_turn_last (performed z) 0 k (start z m) ∙ ap (λ (q : ℕ). performed z q s) (zero-add k)))
          (sum_step k h s (sweep k (omega arith)) (sweep_sums k (omega arith)))

      pub loops_sums : Summed count (M.loops z m)
      unfolding M.loops below
      loops_sums = sweep_sums count (omega arith)
