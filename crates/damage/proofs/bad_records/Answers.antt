-- The triple kept beside p is that of task p; what is left to search gives the whole search's answer, and the calls are the sum of the limits so far.
-- Assumes nothing.
use Prim.Native.Nat.{ℕ, ◌+◌, ◌≤◌}
use mathlib.Core.Bool.{◌||◌}
use mathlib.Core.Path.{◌≡◌, sym, ap, ◌∙◌, subst}
use mathlib.Core.List.{map}
use native.Mathlib.Numerals.{add-one}
use native.Mathlib.Omega.{arith}
use lib.ListN.{length}
use Rattle.std.specs.Prelude.{Ok}
use Rattle.model.specs.declared.TaskRecord.{TaskRecord}
use Rattle.model.specs.Task.{Task, tasks}
use Rattle.model.specs.Plan.{plan_of}
use Rattle.model.specs.Links.{task, mark}
use Rattle.model.specs.Calls.{record_of}
use Rattle.model.specs.Refusal.{call_limit}
use Rattle.model.specs.Lists.{below, some, total}
use Rattle.links.specs.Closed.{key}
use Rattle.links.proofs.Numbering.{task_is}
use Rattle.damage.specs.Named.{name_of}
use Rattle.laws.proofs.Searches.{some_begins, some_stops, some_goes_on, some_ends}
use Rattle.laws.proofs.Totals.{total_zero, total_last}
use Rattle.task_counts.proofs.Laws.{few_tasks}
use Rattle.records.specs.Records.{marks_from}
use Rattle.records.proofs.Laws.{get_mark}
use Rattle.holds.specs.declared.Limits.{Limits}
use Rattle.holds.specs.Allowed.{Allowed}
use Rattle.numbering.proofs.Laws.{number_first, in_first}
use Rattle.damage.proofs.Laws.{name_before, state, bad, outer, bad_outer, bad_inner, not_bad, calls_by, found_bad, found_none, outer_tested, inner_above, inner_within, inner_not_held}
use Rattle.damage.proofs.bad_records.Goals as goal
use Rattle.damage.proofs.bad_records.Goals.{then-taken+in-Ok, else-taken, else-found-ne0-via-then-found-ne0+else-most-found, else-found-ne0-via-else-found-ne0}

pub loop-p-init : goal.loop-p-init
loop-p-init c =
    let a = c.args in
    let e = c.first-a.ensures in (
      number_first _ _ e,
      (λ h. in_first _ _ e c.requires.0.some_tiles),
      some_begins _ _ ∙ ap (λ (n : ℕ). some (bad a.z a.records.now a.workers a.number) (below n)) c.task_count-count.ensures,
      sym (total_zero _),
      omega arith,
      λ q f. absurd (omega (arith, f)),
    )

pub named_after-due-requires : goal.named_after-due-requires
named_after-due-requires c =
    λ h.
    let i = c.loop-p.invariant in
    name_before c.args.z.tiles _ _ _ _ (i.1 c.loop-p-test.true) i.0 h _ i.5

pub returns-then-differs-bad_calls : goal.returns-then-differs-bad_calls
returns-then-differs-bad_calls c =
    let a = c.args in
    let outer_is : (c.differs.result || c.bad_calls.result) ≡ outer a.z a.records.now a.workers a.number c.loop-p.p =
    outer_tested a.z a.records.now a.workers a.number c.loop-p.p _ _ _ (omega (arith, c.loop-p-test.true, c.task_count-count.ensures, c.requires.1)) c.requires.0.few_tiles
    (c.loop-p.invariant.1 c.loop-p-test.true) c.loop-p.invariant.0 _ c.record_at-found.ensures _ c.named_after-due.ensures _ _ c.differs.ensures c.bad_calls.ensures in
    found_bad a.z a.records.now a.workers a.number
    (some_stops _ _ _ _ c.loop-p-test.true c.loop-p.invariant.2
    (bad_outer a.z a.records.now a.workers a.number _ (sym outer_is ∙ c.if-differs-bad_calls.true)))

pub returns-in_default : goal.returns-in_default
returns-in_default c =
    let a = c.args in
    let m : c.record_at-found.result.mark ≡ mark (marks_from a.records.now) c.loop-p.p = ap (λ (x : TaskRecord). x.mark) c.record_at-found.ensures ∙ sym (get_mark a.records.now c.loop-p.p) in
    found_bad a.z a.records.now a.workers a.number
    (some_stops _ _ _ _ c.loop-p-test.true c.loop-p.invariant.2
    (bad_inner a.z a.records.now a.workers a.number _ (inner_not_held a.z a.records.now a.workers a.number c.loop-p.p _ (c.in_default.ensures a.records.now (sym c.if-taken.true ∙ m)))))

pub returns-then-most-found : goal.returns-then-most-found
returns-then-most-found c =
    let a = c.args in
    let p = c.loop-p.p in
    let m : c.record_at-found.result.mark ≡ mark (marks_from a.records.now) p = ap (λ (x : TaskRecord). x.mark) c.record_at-found.ensures ∙ sym (get_mark a.records.now p) in
    let allowed : Allowed a.z a.records.now a.workers p (Ok c.if-taken.most) = elim c.if-taken.branch [
      | then-taken+in-Ok v ↦ subst (λ (l : Limits). Allowed a.z a.records.now a.workers p (Ok l)) (sym v.most-is) (v.in-Ok.ensures a.records.now (sym v.if-taken.true ∙ m))
      | else-taken v ↦ subst (λ (l : Limits). Allowed a.z a.records.now a.workers p (Ok l)) (sym v.most-is) (v.free_limits-most.ensures a.records.now a.workers p m v.if-taken.false)
    ] in
    found_bad a.z a.records.now a.workers a.number
    (some_stops _ _ _ _ c.loop-p-test.true c.loop-p.invariant.2
    (bad_inner a.z a.records.now a.workers a.number _ (inner_above a.z a.records.now a.workers a.number p _ allowed _ c.record_at-found.ensures c.if-most-found.true)))

pub overflow_add-calls : goal.overflow_add-calls
overflow_add-calls c =
    let a = c.args in
    let p = c.loop-p.p in
    let m : c.record_at-found.result.mark ≡ mark (marks_from a.records.now) p = ap (λ (x : TaskRecord). x.mark) c.record_at-found.ensures ∙ sym (get_mark a.records.now p) in
    let allowed : Allowed a.z a.records.now a.workers p (Ok c.if-taken.most) = elim c.if-taken.branch [
      | then-taken+in-Ok v ↦ subst (λ (l : Limits). Allowed a.z a.records.now a.workers p (Ok l)) (sym v.most-is) (v.in-Ok.ensures a.records.now (sym v.if-taken.true ∙ m))
      | else-taken v ↦ subst (λ (l : Limits). Allowed a.z a.records.now a.workers p (Ok l)) (sym v.most-is) (v.free_limits-most.ensures a.records.now a.workers p m v.if-taken.false)
    ] in
    omega (arith, allowed.limits.few, c.loop-p.invariant.4, c.loop-p-test.true, c.task_count-count.ensures, few_tasks c.args.z.tiles c.requires.0.few_tiles)

pub loop-p-preserved : goal.loop-p-preserved
loop-p-preserved c =
    let a = c.args in
    let p = c.loop-p.p in
    let m : c.record_at-found.result.mark ≡ mark (marks_from a.records.now) p = ap (λ (x : TaskRecord). x.mark) c.record_at-found.ensures ∙ sym (get_mark a.records.now p) in
    let allowed : Allowed a.z a.records.now a.workers p (Ok c.if-taken.most) = elim c.if-taken.branch [
      | then-taken+in-Ok v ↦ subst (λ (l : Limits). Allowed a.z a.records.now a.workers p (Ok l)) (sym v.most-is) (v.in-Ok.ensures a.records.now (sym v.if-taken.true ∙ m))
      | else-taken v ↦ subst (λ (l : Limits). Allowed a.z a.records.now a.workers p (Ok l)) (sym v.most-is) (v.free_limits-most.ensures a.records.now a.workers p m v.if-taken.false)
    ] in
    let f = c.record_at-found.ensures in
    let within : c.record_at-found.result.ties ≤ c.if-taken.most.ties = elim c.else-found-ne0.branch [
      | else-found-ne0-via-then-found-ne0+else-most-found w ↦ w.if-most-found.false
      | else-found-ne0-via-else-found-ne0 w ↦ omega (arith, w.if-found-ne0.false)
    ] in
    let outer_is : (c.differs.result || c.bad_calls.result) ≡ outer a.z a.records.now a.workers a.number c.loop-p.p =
    outer_tested a.z a.records.now a.workers a.number c.loop-p.p _ _ _ (omega (arith, c.loop-p-test.true, c.task_count-count.ensures, c.requires.1)) c.requires.0.few_tiles
    (c.loop-p.invariant.1 c.loop-p-test.true) c.loop-p.invariant.0 _ f _ c.named_after-due.ensures _ _ c.differs.ensures c.bad_calls.ensures in
    let inv = c.loop-p.invariant in
    let more = c.loop-p-test.true in
    let limit = call_limit (plan_of a.z) (state a.z a.records.now a.workers a.number) in
    let with-p : total (map limit (below (p + 1))) ≡ total (map limit (below p)) + limit p = ap (λ (k : ℕ). total (map limit (below k))) (add-one p) ∙ total_last limit p in
    let its-calls = calls_by a.z a.records.now a.workers a.number _ _ allowed in (
      c.next-a.ensures.j_value ∙ ap (λ (n : ℕ). n + 1) inv.0,
      λ h. c.next-a.ensures.fact (omega (arith, inv.0, c.task_count-count.ensures)),
      some_goes_on _ _ _ _ more inv.2 (not_bad a.z a.records.now a.workers a.number p (sym outer_is ∙ c.if-differs-bad_calls.false)
          (inner_within a.z a.records.now a.workers a.number p _ allowed _ f within)),
      omega (arith, inv.3, with-p, its-calls),
      omega (arith, inv.4, allowed.limits.few),
      λ q e.
          let same : q ≡ p = omega (arith, e) in
          c.named_after-due.ensures
          ∙ ap (λ (t : Task). name_of (record_of t)) (sym (task_is a.z.tiles (key c.loop-p.a.k c.loop-p.a.i c.loop-p.a.j) (inv.1 more)))
          ∙ ap (λ (k : ℕ). name_of (record_of (task (tasks a.z.tiles) k))) (inv.0 ∙ sym same),
    )

pub returns : goal.returns
returns c =
    let a = c.args in
    let limit = call_limit (plan_of a.z) (state a.z a.records.now a.workers a.number) in
    let all : c.loop-p.p ≡ length (tasks a.z.tiles) = omega (arith, c.loop-p-test.false, c.task_count-count.ensures) in
    found_none a.z a.records.now a.workers a.number (some_ends _ _ _ _ c.loop-p-test.false c.loop-p.invariant.2) _
    (c.loop-p.invariant.3 ∙ ap (λ (k : ℕ). total (map limit (below k))) all)
