-- K9: the numbers of takes and ends are all different, and a task's take comes after the ends of those that it waits for.
-- Assumes nothing.
use Prim.Native.Nat.{ℕ, suc, ◌<◌}
use mathlib.Core.Bool.{Bool, true, false, cond, not}
use mathlib.Core.Path.{◌≡◌, refl, sym, ap, ◌∙◌, subst}
use mathlib.Core.Logic.{◌⊎◌, inl, inr, ◌≢◌}
use mathlib.Core.List.{List, [], ◌∷◌, ◌++◌}
use native.Mathlib.Omega.{arith}
use lib.Dec.{eqb}
use lib.Ieee.{Float}
use lib.ListN.{length, get_or, length-map, get_or-map}
use lib.ListN as L
use borrow.Author.Tests.{eq-eqb}
use Rattle.model.specs.declared.Sizes.{Sizes}
use Rattle.model.specs.declared.TaskRecord.{TaskRecord}
use Rattle.worker.specs.declared.Worker.{Worker}
use Rattle.worker.specs.Holding.{idle, holding}
use Rattle.model.specs.Answer.{accepted}
use Rattle.model.specs.Lists.{keep}
use Rattle.model.specs.Task.{t_1, tasks}
use Rattle.model.specs.Plan.{plan, plan_of}
use Rattle.model.specs.Links.{mark, finished, linked, ready}
use Rattle.model.specs.Buffer.{Buffers, Ended}
use Rattle.model.specs.Calls.{Lent, marks_of, record_of, with_take, with_column, changed, worker, opened, took, column_of, advanced}
use Rattle.model.specs.Refusal.{open_call}
use Rattle.model.specs.History.{Call}
use Rattle.demand.specs.Demand.{end}
use Rattle.laws.proofs.Tests.{never, and_right, same_or_not, true_or_false}
use Rattle.run_laws.proofs.Pointer.{links_elim}
use Rattle.cells.proofs.Elements.{map_set}
use Rattle.cells.proofs.Marks.{opened_marks}
use Rattle.cells.proofs.Machine.{count, record_at}
use Rattle.demand.specs.Numbered.{took_numbers, ended_numbers, distinct, InOrder}
use Rattle.demand.proofs.Distinct.{some_number, Most, cons, distinct_set, set_left, set_right, set_own, most_both, most_of}
use Rattle.demand.proofs.Whole.{AtWork, Whole, opened_untouched}
use Rattle.demand.proofs.Stores.{stored, record_here, record_there, mark_here, mark_there}
use Rattle.demand.proofs.Steps.{ready_waits}
use Rattle.demand.proofs.Moves.{Move, move_whole}
use Rattle.demand.proofs.Moves as M
use Rattle.demand.proofs.Opening.{Opened, opened_by, left_whole}
use Rattle.demand.proofs.Calls.{calls_keep}

module _ (z : Sizes) where
  abbrev rec : Lent → ℕ → TaskRecord
  rec s p = record_at z s p

  pub record Told (s : Lent) : Type 0 where
    pub whole : Whole z s
    pub unended : (p : ℕ) → p < count z → finished (mark (marks_of s) p) ≡ false → (rec s p).ended ≡ 0
    pub ended : (p : ℕ) → p < count z → finished (mark (marks_of s) p) ≡ true → 0 < (rec s p).ended
    pub order : (p q : ℕ) → p < q → q < count z → linked (tasks z.tiles) p q ≡ true → 0 < (rec s q).took
        → (0 < (rec s p).ended) × ((rec s p).ended < (rec s q).took)
    pub apart : distinct (keep some_number (took_numbers s ++ ended_numbers s)) ≡ true

  -- ---- the lists of numbers, read

  take_at : (s : Lent) (p : ℕ) → get_or (took_numbers s) p 0 ≡ (rec s p).took
  unfolding took_numbers record_of
  take_at s p = get_or-map (λ r. r.took) s.records p (record_of (t_1 0))

  end_at : (s : Lent) (p : ℕ) → get_or (ended_numbers s) p 0 ≡ (rec s p).ended
  unfolding ended_numbers record_of
  end_at s p = get_or-map (λ r. r.ended) s.records p (record_of (t_1 0))

  long_takes : (s : Lent) → Whole z s → length (took_numbers s) ≡ count z
  unfolding took_numbers
  long_takes s h = length-map s.records (λ r. r.took) ∙ h.stated.records

  long_ends : (s : Lent) → Whole z s → length (ended_numbers s) ≡ count z
  unfolding ended_numbers
  long_ends s h = length-map s.records (λ r. r.ended) ∙ h.stated.records

  all_most : (s : Lent) → Whole z s → Most s.number (took_numbers s ++ ended_numbers s)
  all_most s h = most_both s.number (took_numbers s) (ended_numbers s)
      (most_of s.number (took_numbers s) (λ i l. omega (arith, take_at s i, (h.calls i (subst (λ (k : ℕ). i < k) (long_takes s h) l)).took_most)))
      (most_of s.number (ended_numbers s) (λ i l. omega (arith, end_at s i, (h.calls i (subst (λ (k : ℕ). i < k) (long_ends s h) l)).ended_most)))

  -- ---- a record stored for task p

  module _ (s : Lent) (t : Told s) (b : Buffers) (p : ℕ) (new : TaskRecord) (w : ℕ) (x : Worker) (hp : p < count z) (hw : w < z.workers) where
    abbrev next : Lent
    next = stored z s t.whole b p new w x hp hw

    here : rec next p ≡ new
    here = record_here z s t.whole b p new w x hp hw

    there : (q : ℕ) → (q ≡ p → ⊥) → rec next q ≡ rec s q
    there q d = record_there z s t.whole b p new w x hp hw q d

    takes_next : took_numbers next ≡ L.set (took_numbers s) p new.took
    unfolding took_numbers
    takes_next = map_set (λ r. r.took) s.records p new

    ends_next : ended_numbers next ≡ L.set (ended_numbers s) p new.ended
    unfolding ended_numbers
    ends_next = map_set (λ r. r.ended) s.records p new

    takes_same : new.took ≡ (rec s p).took → took_numbers next ≡ took_numbers s
    takes_same e = takes_next ∙ ap (L.set (took_numbers s) p) (e ∙ sym (take_at s p)) ∙ set_own (took_numbers s) p

    ends_same : new.ended ≡ (rec s p).ended → ended_numbers next ≡ ended_numbers s
    ends_same e = ends_next ∙ ap (L.set (ended_numbers s) p) (e ∙ sym (end_at s p)) ∙ set_own (ended_numbers s) p

    -- a new number for the take, or for the end
    take_apart : new.took ≡ suc s.number → new.ended ≡ (rec s p).ended → distinct (keep some_number (took_numbers next ++ ended_numbers next)) ≡ true
    take_apart e f =
        let a : took_numbers next ++ ended_numbers next ≡ L.set (took_numbers s ++ ended_numbers s) p (suc s.number) =
        (λ i. takes_next i ++ ends_same f i) ∙ ap (λ (k : ℕ). L.set (took_numbers s) p k ++ ended_numbers s) e
        ∙ set_left (took_numbers s) (ended_numbers s) p (suc s.number) (subst (λ (k : ℕ). p < k) (sym (long_takes s t.whole)) hp) in
        ap (λ (l : List ℕ). distinct (keep some_number l)) a ∙ distinct_set s.number (took_numbers s ++ ended_numbers s) p (all_most s t.whole) t.apart

    end_apart : new.took ≡ (rec s p).took → new.ended ≡ suc s.number → distinct (keep some_number (took_numbers next ++ ended_numbers next)) ≡ true
    end_apart e f =
        let (j, r) = set_right (took_numbers s) (ended_numbers s) p (suc s.number) in
        let a : took_numbers next ++ ended_numbers next ≡ L.set (took_numbers s ++ ended_numbers s) j (suc s.number) =
        (λ i. takes_same e i ++ ends_next i) ∙ ap (λ (k : ℕ). took_numbers s ++ L.set (ended_numbers s) p k) f ∙ r in
        ap (λ (l : List ℕ). distinct (keep some_number l)) a ∙ distinct_set s.number (took_numbers s ++ ended_numbers s) j (all_most s t.whole) t.apart

    same_apart : new.took ≡ (rec s p).took → new.ended ≡ (rec s p).ended → distinct (keep some_number (took_numbers next ++ ended_numbers next)) ≡ true
    same_apart e f = ap (λ (l : List ℕ). distinct (keep some_number l)) (λ i. takes_same e i ++ ends_same f i) ∙ t.apart

    told_stored : Whole z next → (finished new.mark ≡ false → new.ended ≡ 0) → (finished new.mark ≡ true → 0 < new.ended)
        → ((a : ℕ) → a < p → linked (tasks z.tiles) a p ≡ true → 0 < new.took → (0 < (rec s a).ended) × ((rec s a).ended < new.took))
        → ((c : ℕ) → p < c → c < count z → linked (tasks z.tiles) p c ≡ true → 0 < (rec s c).took → (0 < new.ended) × (new.ended < (rec s c).took))
        → distinct (keep some_number (took_numbers next ++ ended_numbers next)) ≡ true → Told next
    told_stored h un en before after d = record {
      whole = h;
      unended = λ q hq f. unended' q hq f (same_or_not q p);
      ended = λ q hq f. ended' q hq f (same_or_not q p);
      order = λ a c l hc k m. order' a c l hc k m (same_or_not a p) (same_or_not c p);
      apart = d;
    }
      where
        own_mark : (q : ℕ) → q ≡ p → mark (marks_of next) q ≡ new.mark
        own_mark q e = ap (mark (marks_of next)) e ∙ mark_here z s t.whole b p new w x hp hw

        old_mark : (q : ℕ) → q ≢ p → mark (marks_of next) q ≡ mark (marks_of s) q
        old_mark q n = mark_there z s t.whole b p new w x hp hw q n

        own : (q : ℕ) → q ≡ p → rec next q ≡ new
        own q e = ap (rec next) e ∙ here

        unended' : (q : ℕ) → q < count z → finished (mark (marks_of next) q) ≡ false → (q ≡ p) ⊎ (q ≢ p) → (rec next q).ended ≡ 0
        unended' q hq f (inl e) = ap (λ (r : TaskRecord). r.ended) (own q e) ∙ un (sym (ap finished (own_mark q e)) ∙ f)
        unended' q hq f (inr n) = ap (λ (r : TaskRecord). r.ended) (there q n) ∙ t.unended q hq (sym (ap finished (old_mark q n)) ∙ f)

        ended' : (q : ℕ) → q < count z → finished (mark (marks_of next) q) ≡ true → (q ≡ p) ⊎ (q ≢ p) → 0 < (rec next q).ended
        ended' q hq f (inl e) = subst (λ (r : TaskRecord). 0 < r.ended) (sym (own q e)) (en (sym (ap finished (own_mark q e)) ∙ f))
        ended' q hq f (inr n) = subst (λ (r : TaskRecord). 0 < r.ended) (sym (there q n)) (t.ended q hq (sym (ap finished (old_mark q n)) ∙ f))

        carry : (a c : ℕ) (u v : TaskRecord) → rec next a ≡ u → rec next c ≡ v → (0 < u.ended) × (u.ended < v.took)
            → (0 < (rec next a).ended) × ((rec next a).ended < (rec next c).took)
        carry a c u v e f g =
            let x : (rec next a).ended ≡ u.ended = ap (λ (r : TaskRecord). r.ended) e in
            let y : (rec next c).took ≡ v.took = ap (λ (r : TaskRecord). r.took) f in
            (omega (arith, x, g.0), omega (arith, x, y, g.1))

        taken : (c : ℕ) (v : TaskRecord) → rec next c ≡ v → 0 < (rec next c).took → 0 < v.took
        taken c v e k = subst (λ (r : TaskRecord). 0 < r.took) e k

        order' : (a c : ℕ) → a < c → c < count z → linked (tasks z.tiles) a c ≡ true → 0 < (rec next c).took → (a ≡ p) ⊎ (a ≢ p) → (c ≡ p) ⊎ (c ≢ p)
            → (0 < (rec next a).ended) × ((rec next a).ended < (rec next c).took)
        order' a c l hc k m (inl e) (inl f) = absurd (omega arith)
        order' a c l hc k m (inr e) (inl f) = carry a c (rec s a) new (there a e) (own c f)
            (before a (omega arith) (ap (linked (tasks z.tiles) a) (sym f) ∙ k) (taken c new (own c f) m))
        order' a c l hc k m (inl e) (inr f) = carry a c new (rec s c) (own a e) (there c f)
            (after c (omega arith) hc (ap (λ (i : ℕ). linked (tasks z.tiles) i c) (sym e) ∙ k) (taken c (rec s c) (there c f) m))
        order' a c l hc k m (inr e) (inr f) = carry a c (rec s a) (rec s c) (there a e) (there c f) (t.order a c l hc k (taken c (rec s c) (there c f) m))

  -- ---- take

  ready_linked : (s : Lent) (p : ℕ) → ready (tasks z.tiles) (marks_of s) p ≡ true → (a : ℕ) → a < p → linked (tasks z.tiles) a p ≡ true
      → finished (mark (marks_of s) a) ≡ true
  unfolding ready
  ready_linked s p e a l k = links_elim (tasks z.tiles) (λ q. finished (mark (marks_of s) q)) p (and_right (eqb (mark (marks_of s) p) 0) _ e) a l k

  took_told : (s : Lent) → Told s → (w p : ℕ) → w < z.workers → (worker s w).busy ≡ false → p < count z
      → ready (tasks z.tiles) (marks_of s) p ≡ true → Told (took (plan_of z) w p s)
  unfolding took changed with_take finished
  took_told s t w p hw hb hp hr =
      let new = with_take (suc s.number) (rec s p) in
      told_stored s t s.buffers p new w (holding p 0) hp hw (unfold took changed in move_whole t.whole (M.takes w p hw hb hp hr))
      (λ f. unfold with_take in t.unended p hp (ap finished (ready_waits z s p hr)))
      (λ f. never f (unfold with_take in refl))
      (λ a l k m. let f = t.ended a (omega arith) (ready_linked s p hr a l k) in (f, unfold with_take in omega (arith, (t.whole.calls a (omega arith)).ended_most)))
      (λ c l hc k m. unfold with_take in t.order p c l hc k m)
      (take_apart s t s.buffers p new w (holding p 0) hp hw (unfold with_take in refl) (unfold with_take in refl))

  -- ---- column

  not_finished : (m : ℕ) → m ≡ 1 → finished m ≡ false
  unfolding finished
  not_finished m e = ap finished e

  -- the number of the call that ended it, after a column that goes on and after one that ends
  column_goes : (w k m x : ℕ) (r : TaskRecord) → finished m ≡ false → (with_column w k m x r).ended ≡ r.ended
  unfolding with_column
  column_goes w k m x r e = ap (λ (b : Bool). cond b k r.ended) e

  column_ends_lem : (w k m x : ℕ) (r : TaskRecord) → finished m ≡ true → (with_column w k m x r).ended ≡ k
  unfolding with_column
  column_ends_lem w k m x r e = ap (λ (b : Bool). cond b k r.ended) e

  advanced_told : (s : Lent) → Told s → (w : ℕ) → w < z.workers → (worker s w).busy ≡ true → Told (advanced (plan_of z) w s)
  unfolding advanced changed with_column
  advanced_told s t w hw hb =
      told_stored s t e.left p new w h a.task hw (unfold advanced changed in move_whole t.whole (M.works w hw hb))
      (λ f. column_goes w (suc s.number) v e.ties (rec s p) (unfold with_column in f) ∙ old)
      (λ f. omega (arith, column_ends_lem w (suc s.number) v e.ties (rec s p) (unfold with_column in f)))
      (λ c l k m. unfold with_column in t.order c p l a.task k m)
      (λ c l hc k m. let f = t.order p c l hc k m in absurd (omega (arith, f.0, old)))
      (pick (true_or_false (finished v)))
    where
      a : AtWork z s w
      a = t.whole.held w hw hb

      p : ℕ
      p = (worker s w).task

      e : Ended
      e = column_of (plan_of z) s p (worker s w).column

      v : ℕ
      v = e.mark

      new : TaskRecord
      new = with_column w (suc s.number) v e.ties (rec s p)

      h : Worker
      h = cond (finished v) idle (holding p (suc (worker s w).column))

      old : (rec s p).ended ≡ 0
      old = t.unended p a.task (not_finished (mark (marks_of s) p) a.mark)

      same : new.took ≡ (rec s p).took
      same = refl

      pick : (finished v ≡ true) ⊎ (finished v ≡ false)
          → distinct (keep some_number (took_numbers (next s t e.left p new w h a.task hw) ++ ended_numbers (next s t e.left p new w h a.task hw))) ≡ true
      pick (inl f) = end_apart s t e.left p new w h a.task hw same (column_ends_lem w (suc s.number) v e.ties (rec s p) f)
      pick (inr f) = same_apart s t e.left p new w h a.task hw same (column_goes w (suc s.number) v e.ties (rec s p) f)

  told_move : {s s' : Lent} {p : ℕ} → Told s → Move z s s' p → Told s'
  told_move {s} t (M.takes w p hw hb hp hr) = took_told s t w p hw hb hp hr
  told_move {s} t (M.works w hw hb) = advanced_told s t w hw hb

  -- ---- opening

  zeros_apart : (xs : List ℕ) → Most 0 xs → keep some_number xs ≡ []
  unfolding keep
  zeros_apart [] m = refl
  zeros_apart (x ∷ xs) (cons l m) =
      ap (λ (b : Bool). cond b (x ∷ keep some_number xs) (keep some_number xs)) (ap not (eq-eqb x 0 (omega arith))) ∙ zeros_apart xs m

  opened_told : (m : List Float) → Whole z (opened (plan_of z) z.workers m) → Told (opened (plan_of z) z.workers m)
  unfolding opened plan marks_of finished distinct
  opened_told m h = record {
    whole = h;
    unended = λ p l f. (opened_untouched (tasks z.tiles) p).no_end;
    ended = λ p l f. never f (ap finished (opened_marks (tasks z.tiles) p));
    order = λ p q l hq k e. absurd (omega (arith, e, (opened_untouched (tasks z.tiles) q).no_take));
    apart = ap distinct (zeros_apart _ (unfold opened plan in (all_most (opened (plan_of z) z.workers m) h)));
  }

pub in_order : (z : Sizes) (s : Lent) (cs : List Call) → (open_call z s).answer ≡ accepted → InOrder (tasks z.tiles) (end z s cs)
in_order z s cs e = record {
  apart = last.apart;
  linked_first = λ p q l hq k m.
      let f = last.order p q l hq k (omega (arith, m, take_at z (end z s cs) q)) in
      (omega (arith, f.0, end_at z (end z s cs) p), omega (arith, f.1, end_at z (end z s cs) p, take_at z (end z s cs) q));
}
  where
    o : Opened z s
    o = opened_by z s e

    first : Told z (open_call z s).left
    first = subst (Told z) (sym o.left) (opened_told z s.buffers.matrix (subst (Whole z) o.left (left_whole z s o)))

    last : Told z (end z s cs)
    last = calls_keep z 0 (λ n. Told z) (record { whole = λ t. t.whole; moves = λ t m. told_move z t m }) cs 0 (open_call z s).left first
