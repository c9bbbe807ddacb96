-- A busy worker holds the task that it took last, so each column is one of that task. Assumes nothing.
use Prim.Native.Nat.{ℕ, suc, ◌<◌}
use mathlib.Core.Bool.{Bool, true, false, cond}
use mathlib.Core.Path.{◌≡◌, refl, sym, ap, ◌∙◌}
use mathlib.Core.Logic.{◌⊎◌, inl, inr, ◌≢◌}
use mathlib.Core.List.{List, [], ◌∷◌, ◌++◌}
use borrow.Author.Tests.{eq-eqb, ne_eqb}
use Rattle.model.specs.declared.Sizes.{Sizes}
use Rattle.worker.specs.declared.Worker.{Worker}
use Rattle.worker.specs.Holding.{idle, holding}
use Rattle.model.specs.Answer.{accepted}
use Rattle.model.specs.Plan.{plan_of}
use Rattle.model.specs.Links.{finished}
use Rattle.model.specs.Buffer.{Ended}
use Rattle.model.specs.Calls.{Lent, with_take, with_column, changed, worker, took, advanced, column_of}
use Rattle.model.specs.Refusal.{take_answer, column_answer}
use Rattle.laws.proofs.Tests.{never, same_or_not}
use Rattle.cells.proofs.Machine.{count, record_at}
use Rattle.demand.specs.Deeds.{Deed, did_take, did_column, took_then, Belongs, AllBelong}
use Rattle.demand.proofs.Whole.{Whole}
use Rattle.demand.proofs.Stores.{worker_here, worker_there}
use Rattle.demand.proofs.Steps.{took_whole, advanced_whole}
use Rattle.demand.proofs.Moves.{take_tells, column_tells}

-- the task that each worker took last, after some deeds
pub took_last : (ℕ → ℕ) → List Deed → ℕ → ℕ
took_last l [] v = l v
took_last l (d ∷ ds) v = took_last (took_then l d) ds v

took_append : (l : ℕ → ℕ) (ds : List Deed) (d : Deed) (v : ℕ) → took_last l (ds ++ d ∷ []) v ≡ took_then (took_last l ds) d v
unfolding took_last took_then
took_append l [] (did_take w p s) v = refl
took_append l [] (did_column w s) v = refl
took_append l (e ∷ ds) d v = took_append (took_then l e) ds d v

belong_append : (l : ℕ → ℕ) (ds : List Deed) (d : Deed) → AllBelong l ds → Belongs (took_last l ds) d → AllBelong l (ds ++ d ∷ [])
unfolding AllBelong took_last
belong_append l [] d a b = (b, tt)
belong_append l (e ∷ ds) d a b = (a.0, belong_append (took_then l e) ds d a.1 b)

-- a busy worker holds the task that it took last
pub record Held (z : Sizes) (l : ℕ → ℕ) (ds : List Deed) (s : Lent) : Type 0 where
  pub whole : Whole z s
  pub belong : AllBelong l ds
  pub held : (v : ℕ) → (worker s v).busy ≡ true → (worker s v).task ≡ took_last l ds v

module _ (z : Sizes) (l : ℕ → ℕ) where
  pub held_take : {ds : List Deed} {s : Lent} → Held z l ds s → (w p : ℕ) → take_answer z w p s ≡ accepted
      → Held z l (ds ++ did_take w p s ∷ []) (took (plan_of z) w p s)
  unfolding took changed with_take Belongs took_then
  held_take {ds} {s} r w p a =
      let (hw, hb, hp, hr) = take_tells z s w p a in
      record {
        whole = unfold took changed with_take in took_whole z s r.whole w p hw hb hp hr;
        belong = belong_append l ds (did_take w p s) r.belong tt;
        held = λ v b. go hw hp v b (same_or_not v w);
      }
    where
      go : w < z.workers → p < count z → (v : ℕ) → (worker (took (plan_of z) w p s) v).busy ≡ true → (v ≡ w) ⊎ (v ≢ w)
          → (worker (took (plan_of z) w p s) v).task ≡ took_last l (ds ++ did_take w p s ∷ []) v
      go hw hp v b (inl e) =
          rw (took_append l ds (did_take w p s) v, eq-eqb v w e, e)
          (ap (λ (x : Worker). x.task) (worker_here z s r.whole s.buffers p (with_take (suc s.number) (record_at z s p)) w (holding p 0) hp hw))
      go hw hp v b (inr d) =
          let same = worker_there z s r.whole s.buffers p (with_take (suc s.number) (record_at z s p)) w (holding p 0) hp hw v d in
          rw (took_append l ds (did_take w p s) v, ne_eqb v w d)
          (ap (λ (x : Worker). x.task) same ∙ r.held v (sym (ap (λ (x : Worker). x.busy) same) ∙ b))

  -- a worker that goes on keeps its task
  goes_on : (b : Bool) (p c : ℕ) → (cond b idle (holding p c)).busy ≡ true → (cond b idle (holding p c)).task ≡ p
  goes_on true p c e = never e refl
  goes_on false p c e = refl

  pub held_column : {ds : List Deed} {s : Lent} → Held z l ds s → (w : ℕ) → column_answer z w s ≡ accepted
      → Held z l (ds ++ did_column w s ∷ []) (advanced (plan_of z) w s)
  unfolding advanced changed with_column Belongs took_then
  held_column {ds} {s} r w a =
      let (hw, hb) = column_tells z s w a in
      record {
        whole = unfold advanced changed with_column in advanced_whole z s r.whole w hw hb;
        belong = belong_append l ds (did_column w s) r.belong (r.held w hb);
        held = λ v b. go hw hb v b (same_or_not v w);
      }
    where
      p : ℕ
      p = (worker s w).task

      e : Ended
      e = column_of (plan_of z) s p (worker s w).column

      next : Worker
      next = cond (finished e.mark) idle (holding p (suc (worker s w).column))

      go : w < z.workers → (worker s w).busy ≡ true → (v : ℕ) → (worker (advanced (plan_of z) w s) v).busy ≡ true → (v ≡ w) ⊎ (v ≢ w)
          → (worker (advanced (plan_of z) w s) v).task ≡ took_last l (ds ++ did_column w s ∷ []) v
      go hw hb v b (inl q) =
          let here = worker_here z s r.whole e.left p (with_column w (suc s.number) e.mark e.ties (record_at z s p)) w next (r.whole.held w hw hb).task hw in
          let mine : worker (advanced (plan_of z) w s) v ≡ next = ap (worker (advanced (plan_of z) w s)) q ∙ here in
          ap (λ (x : Worker). x.task) mine
          ∙ goes_on (finished e.mark) p (suc (worker s w).column) (sym (ap (λ (x : Worker). x.busy) mine) ∙ b)
          ∙ r.held w hb ∙ ap (took_last l ds) (sym q) ∙ sym (took_append l ds (did_column w s) v)
      go hw hb v b (inr d) =
          let same = worker_there z s r.whole e.left p (with_column w (suc s.number) e.mark e.ties (record_at z s p)) w next (r.whole.held w hw hb).task hw v d in
          ap (λ (x : Worker). x.task) same ∙ r.held v (sym (ap (λ (x : Worker). x.busy) same) ∙ b) ∙ sym (took_append l ds (did_column w s) v)
