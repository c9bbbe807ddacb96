-- What each accepted take and column keeps, any list of calls keeps, with its deeds beside it. Assumes nothing.
use Prim.Native.Nat.{ℕ, zero, suc, ◌%◌, ◌<◌}
use mathlib.Core.Bool.{Bool, true, false, cond}
use mathlib.Core.Path.{◌≡◌, refl, sym, subst}
use mathlib.Core.Logic.{◌⊎◌, inl, inr}
use mathlib.Core.List.{List, [], ◌∷◌, ◌++◌, append-nil, append_assoc}
use native.Mathlib.Nat.{mod-lt}
use native.Mathlib.Omega.{arith}
use Rattle.model.specs.declared.Sizes.{Sizes}
use Rattle.std.specs.Prelude.{Ok, Err}
use Rattle.model.specs.Answer.{Answer, accepted}
use Rattle.model.specs.declared.Rule.TheVariants.{BadSizes, BadLengths}
use Rattle.model.specs.Lists.{in_turn, first_or}
use Rattle.model.specs.Plan.{plan_of}
use Rattle.model.specs.Calls.{Lent, RunEnd, worker, took, advanced, ready_tasks, all_finished, has_work, turn, next_worker, run_from, whole_run}
use Rattle.model.specs.Refusal.{replied, run_replied, bad_lengths, take_answer, take_call, column_answer, column_call, run_answer, run_call}
use Rattle.model.specs.History as H
use Rattle.model.specs.History.{Asked, Call, left_by, after_calls, turn_task}
use Rattle.laws.proofs.Refusals.{passed}
use Rattle.laws.proofs.Tests.{true_or_false, never}
use Rattle.demand.specs.Deeds.{Deed, did_take, did_column, turn_deed, run_deeds, where_accepted, deeds_by, deeds}
use Rattle.demand.proofs.Whole.{Whole, in_range}
use Rattle.demand.proofs.Checks.{lengths}
use Rattle.demand.proofs.Answers.{take_accepted, column_accepted}
use Rattle.demand.proofs.Progress.{first_ready, next_works}
use Rattle.demand.proofs.Calls.{same_sizes}

-- a property of the deeds so far and of what is lent
pub record Kept (z : Sizes) (P : List Deed → Lent → Type 0) : Type 0 where
  pub whole : {ds : List Deed} {s : Lent} → P ds s → Whole z s
  pub takes : {ds : List Deed} {s : Lent} → P ds s → (w p : ℕ) → take_answer z w p s ≡ accepted → P (ds ++ did_take w p s ∷ []) (took (plan_of z) w p s)
  pub columns : {ds : List Deed} {s : Lent} → P ds s → (w : ℕ) → column_answer z w s ≡ accepted → P (ds ++ did_column w s ∷ []) (advanced (plan_of z) w s)

-- a call changes nothing where it is refused
replies : (P : List Deed → Lent → Type 0) (a : Answer) (old new : Lent) (es : List Deed) → P [] old → (a ≡ accepted → P es new)
    → P (where_accepted a es) (replied a old new).left
unfolding replied where_accepted
replies P (Ok _) old new es p q = q refl
replies P (Err why) old new es p q = p

replies_run : (P : List Deed → Lent → Type 0) (a : Answer) (old : Lent) (e : RunEnd) (es : List Deed) → P [] old → (a ≡ accepted → P es e.left)
    → P (where_accepted a es) (run_replied a old e).left
unfolding run_replied where_accepted
replies_run P (Ok _) old e es p q = q refl
replies_run P (Err why) old e es p q = p

module _ (z : Sizes) (P : List Deed → Lent → Type 0) (k : Kept z P) where
  abbrev W : ℕ
  W = z.workers

  stays : (ds : List Deed) (s : Lent) → P ds s → P (ds ++ []) s
  stays ds s r = subst (λ (es : List Deed). P es s) (sym (append-nil ds)) r

  turn_keeps : (v : ℕ) (ds : List Deed) (s : Lent) → P ds s → v < W → has_work (plan_of z) s v ≡ true
      → P (ds ++ turn_deed (plan_of z) v s ∷ []) (turn (plan_of z) v s)
  unfolding turn turn_deed turn_task
  turn_keeps v ds s r hv f = go (worker s v).busy refl
    where
      low : ℕ
      low = first_or (ready_tasks (plan_of z) s) (λ p. p) 0

      go : (b : Bool) → (worker s v).busy ≡ b
          → P (ds ++ cond b (did_column v s) (did_take v (cond b (worker s v).task low) s) ∷ [])
          (elim b as (λ q. Lent) [ true ↦ advanced (plan_of z) v s | false ↦ took (plan_of z) v low s ])
      go true b = k.columns r v (column_accepted z s (k.whole r) v hv b)
      go false b =
          let (p, e, l, h) = first_ready z s (k.whole r) v b f in
          subst (λ (q : ℕ). P (ds ++ did_take v q s ∷ []) (took (plan_of z) v q s)) (sym e)
          (k.takes r v p (take_accepted z s (k.whole r) v p hv b l h))

  run_keeps : (b n v : ℕ) → v < W → (ds : List Deed) (s : Lent) → P ds s
      → P (ds ++ run_deeds (plan_of z) W b v s) (run_from (plan_of z) W b n v s).left
  unfolding run_from run_deeds
  run_keeps zero n v hv ds s r = stays ds s r
  run_keeps (suc b) n v hv ds s r = go (λ es s' r'. run_keeps b (suc n) (suc u % W) (mod-lt _ (omega arith)) es s' r') (all_finished (plan_of z) s) refl
    where
      u : ℕ
      u = next_worker (plan_of z) W v s

      go : ((es : List Deed) (s' : Lent) → P es s' → P (es ++ run_deeds (plan_of z) W b (suc u % W) s') (run_from (plan_of z) W b (suc n) (suc u % W) s').left)
          → (f : Bool) → all_finished (plan_of z) s ≡ f → P (ds ++ run_deeds (plan_of z) W (suc b) v s) (run_from (plan_of z) W (suc b) n v s).left
      go ih true e = rw (e, run_from, run_deeds) (stays ds s r)
      go ih false e =
          let (hu, f) = next_works z s (k.whole r) e v hv in
          let x = ih (ds ++ turn_deed (plan_of z) u s ∷ []) (turn (plan_of z) u s) (turn_keeps u ds s r hu f) in
          rw (e, run_from, run_deeds)
          (subst (λ (es : List Deed). P es (run_from (plan_of z) W b (suc n) (suc u % W) (turn (plan_of z) u s)).left)
          (append_assoc ds (turn_deed (plan_of z) u s ∷ []) (run_deeds (plan_of z) W b (suc u % W) (turn (plan_of z) u s))) x)

  told_these : (ds : List Deed) (s : Lent) → P ds s → (a : Asked) → P (ds ++ deeds_by z a s) (left_by z a s)
  unfolding left_by deeds_by take_call column_call run_call whole_run
  told_these ds s r (H.take w p) = replies (λ es. P (ds ++ es)) (take_answer z w p s) s _ _ (stays ds s r) (λ e. k.takes r w p e)
  told_these ds s r (H.column w) = replies (λ es. P (ds ++ es)) (column_answer z w s) s _ _ (stays ds s r) (λ e. k.columns r w e)
  told_these ds s r (H.whole_run b) = replies_run (λ es. P (ds ++ es)) (run_answer z s) s _ _ (stays ds s r)
      (λ e. run_keeps b 0 0 (in_range z (k.whole r).fit).some_workers ds s r)

  -- a call that is told other sizes is refused for its lengths
  refused : (ds : List Deed) (s : Lent) → P ds s → (y : Sizes) (a : Asked) → bad_lengths (plan_of y) y.workers s ≡ true → P (ds ++ deeds_by y a s) (left_by y a s)
  unfolding left_by deeds_by take_call column_call run_call take_answer column_answer run_answer
  refused ds s r y (H.take w p) e = replies (λ es. P (ds ++ es)) _ s _ _ (stays ds s r) (λ f. never e (passed BadLengths 0 _ _ (passed BadSizes 0 _ _ f).1).0)
  refused ds s r y (H.column w) e = replies (λ es. P (ds ++ es)) _ s _ _ (stays ds s r) (λ f. never e (passed BadLengths 0 _ _ (passed BadSizes 0 _ _ f).1).0)
  refused ds s r y (H.whole_run b) e = replies_run (λ es. P (ds ++ es)) _ s _ _ (stays ds s r) (λ f. never e (passed BadLengths 0 _ _ (passed BadSizes 0 _ _ f).1).0)

  call_keeps : (ds : List Deed) (s : Lent) → P ds s → (y : Sizes) (a : Asked) → P (ds ++ deeds_by y a s) (left_by y a s)
  call_keeps ds s r y a = go (true_or_false (bad_lengths (plan_of y) y.workers s))
    where
      go : (bad_lengths (plan_of y) y.workers s ≡ true) ⊎ (bad_lengths (plan_of y) y.workers s ≡ false) → P (ds ++ deeds_by y a s) (left_by y a s)
      go (inl e) = refused ds s r y a e
      go (inr e) = subst (λ (x : Sizes). P (ds ++ deeds_by x a s) (left_by x a s)) (same_sizes z y s (k.whole r) (lengths y s e)) (told_these ds s r a)

  pub deeds_keep : (cs : List Call) (ds : List Deed) (s : Lent) → P ds s → P (ds ++ deeds cs s) (after_calls cs s)
  unfolding after_calls in_turn deeds
  deeds_keep [] ds s r = stays ds s r
  deeds_keep (c ∷ cs) ds s r =
      subst (λ (es : List Deed). P es (after_calls cs (left_by c.sizes c.asked s)))
      (append_assoc ds (deeds_by c.sizes c.asked s) (deeds cs (left_by c.sizes c.asked s)))
      (deeds_keep cs (ds ++ deeds_by c.sizes c.asked s) (left_by c.sizes c.asked s) (call_keeps ds s r c.sizes c.asked))
