-- K9: the run's number counts the deeds, and each record tells the deeds that took and that finished its task. Assumes nothing.
use Prim.Native.Nat.{ℕ, suc, ◌+◌, ◌<◌}
use mathlib.Core.Bool.{Bool, true, false, cond, ◌&&◌, ◌||◌}
use mathlib.Core.Path.{◌≡◌, refl, sym, ap, ◌∙◌, subst}
use mathlib.Core.Logic.{◌⊎◌, inl, inr, ◌≢◌}
use mathlib.Core.List.{List, [], ◌∷◌, ◌++◌}
use native.Mathlib.Omega.{arith}
use lib.Dec.{eqb}
use lib.ListN.{length, length-append}
use borrow.Author.Tests.{eq-eqb, ne_eqb}
use Rattle.model.specs.declared.Sizes.{Sizes}
use Rattle.model.specs.declared.TaskRecord.{TaskRecord}
use Rattle.worker.specs.declared.Worker.{Worker}
use Rattle.worker.specs.Holding.{idle, holding}
use Rattle.model.specs.Answer.{accepted}
use Rattle.model.specs.Task.{tasks}
use Rattle.model.specs.Plan.{Plan, plan, plan_of}
use Rattle.model.specs.Links.{finished, broken}
use Rattle.model.specs.Buffer.{Ended}
use Rattle.model.specs.Calls.{Lent, with_take, with_column, changed, worker, opened, took, advanced, column_of}
use Rattle.model.specs.Refusal.{open_call, take_answer, column_answer}
use Rattle.model.specs.History.{Call}
use Rattle.laws.proofs.Tests.{same_or_not}
use Rattle.cells.proofs.Machine.{count, record_at}
use Rattle.demand.specs.Demand.{end}
use Rattle.demand.specs.Deeds.{Deed, did_take, did_column, deeds, finishes}
use Rattle.demand.specs.Numbered.{takes, doer, last_from, Tells}
use Rattle.demand.proofs.Whole.{Whole, opened_untouched}
use Rattle.demand.proofs.Stores.{record_here, record_there}
use Rattle.demand.proofs.Steps.{took_whole, advanced_whole}
use Rattle.demand.proofs.Moves.{take_tells, column_tells}
use Rattle.demand.proofs.Opening.{Opened, opened_by, left_whole}
use Rattle.demand.proofs.Deeds.{deeds_keep}
use Rattle.demand.proofs.Finished.{column_finishes}

-- ---- one deed more

last_more : (test : Deed → Bool) (f : ℕ → Deed → ℕ) (n x : ℕ) (ds : List Deed) (d : Deed)
    → last_from test f n x (ds ++ d ∷ []) ≡ cond (test d) (f (suc (n + length ds)) d) (last_from test f n x ds)
unfolding last_from
last_more test f n x [] d = let e : n ≡ n + 0 = omega arith in ap (λ (k : ℕ). cond (test d) (f (suc k) d) x) e
last_more test f n x (y ∷ ds) d =
    let e : suc n + length ds ≡ n + suc (length ds) = omega arith in
    last_more test f (suc n) (cond (test y) (f (suc n) y) x) ds d ∙ ap (λ (k : ℕ). cond (test d) (f (suc k) d) (last_from test f (suc n) (cond (test y) (f (suc n) y) x) ds)) e

-- of the deeds from the first on, by whether it passes
last_added : (test : Deed → Bool) (f : ℕ → Deed → ℕ) (ds : List Deed) (d : Deed) (b : Bool) → test d ≡ b
    → cond b (f (suc (length ds)) d) (last_from test f 0 0 ds) ≡ last_from test f 0 0 (ds ++ d ∷ [])
last_added test f ds d b e =
    let n : 0 + length ds ≡ length ds = omega arith in
    sym (last_more test f 0 0 ds d ∙ (λ i. cond (e i) (f (suc (n i)) d) (last_from test f 0 0 ds)))

more_deeds : (ds : List Deed) (d : Deed) → length (ds ++ d ∷ []) ≡ suc (length ds)
more_deeds ds d = length-append ds (d ∷ []) ∙ omega arith

-- a deed that takes task p, with n deeds before it; one that finishes it; and one that is not about it
module _ (z : Plan) (p : ℕ) (ds : List Deed) (d : Deed) (r : TaskRecord) (t : Tells z p ds r) where
  tells_take : takes p d ≡ true → finishes z p d ≡ false → (n : ℕ) → n ≡ length ds → Tells z p (ds ++ d ∷ []) (with_take (suc n) r)
  unfolding with_take
  tells_take a b n e = record {
    took = ap suc e ∙ last_added (takes p) (λ n d. n) ds d _ a;
    ended = t.ended ∙ last_added (finishes z p) (λ n d. n) ds d _ b;
    worker = t.worker ∙ last_added (finishes z p) (λ n d. doer d) ds d _ b;
  }

  tells_column : takes p d ≡ false → (w n m x : ℕ) → doer d ≡ w → n ≡ length ds → finishes z p d ≡ finished m → Tells z p (ds ++ d ∷ []) (with_column w (suc n) m x r)
  unfolding with_column
  tells_column a w n m x f e b = record {
    took = t.took ∙ last_added (takes p) (λ n d. n) ds d _ a;
    ended = (λ i. cond (finished m) (suc (e i)) (t.ended i)) ∙ last_added (finishes z p) (λ n d. n) ds d _ b;
    worker = (λ i. cond (finished m) (sym f i) (t.worker i)) ∙ last_added (finishes z p) (λ n d. doer d) ds d _ b;
  }

  tells_other : takes p d ≡ false → finishes z p d ≡ false → Tells z p (ds ++ d ∷ []) r
  tells_other a b = record {
    took = t.took ∙ last_added (takes p) (λ n d. n) ds d _ a;
    ended = t.ended ∙ last_added (finishes z p) (λ n d. n) ds d _ b;
    worker = t.worker ∙ last_added (finishes z p) (λ n d. doer d) ds d _ b;
  }

-- ---- all tasks

pub record AllTold (z : Sizes) (ds : List Deed) (s : Lent) : Type 0 where
  pub whole : Whole z s
  pub counts : s.number ≡ length ds
  pub tells : (p : ℕ) → p < count z → Tells (plan_of z) p ds (record_at z s p)

module _ (z : Sizes) where
  told_take : {ds : List Deed} {s : Lent} → AllTold z ds s → (w p : ℕ) → take_answer z w p s ≡ accepted → AllTold z (ds ++ did_take w p s ∷ []) (took (plan_of z) w p s)
  unfolding took changed takes finishes
  told_take {ds} {s} r w p a =
      let (hw, hb, hp, hr) = take_tells z s w p a in
      record {
        whole = unfold took changed in took_whole z s r.whole w p hw hb hp hr;
        counts = ap suc r.counts ∙ sym (more_deeds ds (did_take w p s));
        tells = λ q hq. go hw hp q hq (same_or_not q p);
      }
    where
      new : TaskRecord
      new = with_take (suc s.number) (record_at z s p)

      go : w < z.workers → p < count z → (q : ℕ) → q < count z → (q ≡ p) ⊎ (q ≢ p) → Tells (plan_of z) q (ds ++ did_take w p s ∷ []) (record_at z (took (plan_of z) w p s) q)
      go hw hp q hq (inl e) =
          subst (λ (k : ℕ). Tells (plan_of z) k (ds ++ did_take w p s ∷ []) (record_at z (took (plan_of z) w p s) k)) (sym e)
          (subst (Tells (plan_of z) p (ds ++ did_take w p s ∷ [])) (sym (record_here z s r.whole s.buffers p new w (holding p 0) hp hw))
          (tells_take (plan_of z) p ds (did_take w p s) (record_at z s p) (r.tells p hp) (eq-eqb p p refl) refl s.number r.counts))
      go hw hp q hq (inr d) =
          subst (Tells (plan_of z) q (ds ++ did_take w p s ∷ [])) (sym (record_there z s r.whole s.buffers p new w (holding p 0) hp hw q d))
          (tells_other (plan_of z) q ds (did_take w p s) (record_at z s q) (r.tells q hq) (ne_eqb p q (λ e. d (sym e))) refl)

  told_column : {ds : List Deed} {s : Lent} → AllTold z ds s → (w : ℕ) → column_answer z w s ≡ accepted → AllTold z (ds ++ did_column w s ∷ []) (advanced (plan_of z) w s)
  unfolding advanced changed takes doer finishes plan
  told_column {ds} {s} r w a =
      let (hw, hb) = column_tells z s w a in
      record {
        whole = unfold advanced changed in advanced_whole z s r.whole w hw hb;
        counts = ap suc r.counts ∙ sym (more_deeds ds (did_column w s));
        tells = λ q hq. go hw (r.whole.held w hw hb).task q hq (same_or_not q p);
      }
    where
      p : ℕ
      p = (worker s w).task

      e : Ended
      e = column_of (plan_of z) s p (worker s w).column

      new : TaskRecord
      new = with_column w (suc s.number) e.mark e.ties (record_at z s p)

      next : Worker
      next = cond (finished e.mark) idle (holding p (suc (worker s w).column))

      ends : finishes (plan_of z) p (did_column w s) ≡ finished e.mark
      ends = ap (λ (b : Bool). b && (eqb (suc (worker s w).column) z.side || broken e.mark)) (eq-eqb p p refl) ∙ sym (column_finishes z p s p (worker s w).column)

      go : w < z.workers → p < count z → (q : ℕ) → q < count z → (q ≡ p) ⊎ (q ≢ p) → Tells (plan_of z) q (ds ++ did_column w s ∷ []) (record_at z (advanced (plan_of z) w s) q)
      go hw hp q hq (inl f) =
          subst (λ (k : ℕ). Tells (plan_of z) k (ds ++ did_column w s ∷ []) (record_at z (advanced (plan_of z) w s) k)) (sym f)
          (subst (Tells (plan_of z) p (ds ++ did_column w s ∷ [])) (sym (record_here z s r.whole e.left p new w next hp hw))
          (tells_column (plan_of z) p ds (did_column w s) (record_at z s p) (r.tells p hp) refl w s.number e.mark e.ties refl r.counts ends))
      go hw hp q hq (inr d) =
          subst (Tells (plan_of z) q (ds ++ did_column w s ∷ [])) (sym (record_there z s r.whole e.left p new w next hp hw q d))
          (tells_other (plan_of z) q ds (did_column w s) (record_at z s q) (r.tells q hq) refl (ap (λ (b : Bool). b && (eqb (suc (worker s w).column) z.side || broken e.mark)) (ne_eqb p q (λ k. d (sym k)))))

  -- ---- from an opening

  module _ (s : Lent) (cs : List Call) (e : (open_call z s).answer ≡ accepted) where
    o : Opened z s
    o = opened_by z s e

    first : AllTold z [] (open_call z s).left
    unfolding opened plan last_from
    first = record {
      whole = left_whole z s o;
      counts = ap (λ (x : Lent). x.number) o.left;
      tells = λ p h.
          let r = opened_untouched (tasks z.tiles) p in
          subst (λ (x : Lent). Tells (plan_of z) p [] (record_at z x p)) (sym o.left) (record { took = r.no_take; ended = r.no_end; worker = r.no_worker_lem });
    }

    pub all_told : AllTold z (deeds cs (open_call z s).left) (end z s cs)
    all_told = deeds_keep z (AllTold z) (record { whole = λ r. r.whole; takes = told_take; columns = told_column }) cs [] (open_call z s).left first
