-- What holds at each turn of a run's loop: what is left to do from here ends as all from the first turn on. Assumes nothing.
use Prim.Native.Nat.{ℕ, zero, suc, ◌+◌, ◌-◌, ◌*◌, ◌%◌, ◌≤◌, ◌<◌, min}
use mathlib.Core.Bool.{Bool, true, false, cond}
use mathlib.Core.Path.{◌≡◌, refl, sym, ap, ◌∙◌, subst}
use mathlib.Core.List.{List, map}
use native.Mathlib.Nat.{mod-lt, min-le_left, mul-mul-mul_comm}
use native.Mathlib.Numerals.{add-one}
use native.Mathlib.Omega.{arith}
use lib.Ieee.{Float}
use lib.ListN.{length, get_or, set, drop, length-set}
use lib.Seq.{drop-set-lt}
use Rattle.model.specs.declared.Sizes.{Sizes}
use Rattle.model.specs.declared.TaskRecord.{TaskRecord}
use Rattle.worker.specs.declared.Worker.{Worker}
use Rattle.worker.specs.declared.Workers.{Workers}
use Rattle.std.specs.Prelude.{Ok}
use Rattle.model.specs.Answer.{RunAnswer, accepted}
use Rattle.model.specs.declared.Rule.TheVariants.{BadSizes, BadLengths, Damaged}
use Rattle.model.specs.declared.RunStop.TheVariants.{Finished, Spent}
use Rattle.model.specs.Lists.{every}
use Rattle.model.specs.Task.{t_1, tasks}
use Rattle.model.specs.Plan.{plan, plan_of}
use Rattle.model.specs.Links.{task, finished, ready}
use Rattle.model.specs.Buffer.{Ended, mark_after, ties_after, finite_tiles}
use Rattle.model.specs.Calls.{Lent, RunEnd, marks_of, record_of, with_take, with_column, changed, worker, took, advanced, all_finished, run_from}
use Rattle.worker.specs.Holding.{idle, holding}
use Rattle.model.specs.Refusal.{bad_sizes, bad_lengths, damaged, bad_tiles, run_answer}
use Rattle.laws.proofs.Refusals.{passed}
use Rattle.laws.proofs.Tests.{never, or_false, and_true_not}
use Rattle.run_laws.proofs.Pointer.{NoneReady, none_after, none_after_take, none_kept}
use Rattle.records.specs.Records.{records_from, marks_from, crew, lent, all_lent, OthersKept}
use Rattle.records.proofs.Laws.{length_records, length_marks, marks_lent, crew_set}
use Rattle.answers.proofs.Refusals.{count_fits}
use Rattle.checks.specs.Checks.{Sized}
use Rattle.checks.proofs.Laws.{sized}
use Rattle.task_counts.proofs.Laws.{few_tasks}
use Rattle.call_laws.proofs.Undamaged.{worker_lent, recorded, number_small}
use Rattle.cells.proofs.Elements.{map_set}
use Rattle.cells.proofs.Machine.{count, column_ends_lem}
use Rattle.demand.proofs.Limits.{good_tiles}
use Rattle.demand.proofs.Whole.{Whole}
use Rattle.demand.proofs.Steps.{took_whole, advanced_whole}
use Rattle.demand.proofs.Answers.{run_whole, run_accepted}
use Rattle.next_task.specs.NextTask.{NoneBelow}
use Rattle.next_task.specs.NextTask.{LowestReady}
use Rattle.task_columns.specs.Due.{ColumnDue}
use Rattle.advancing.specs.Advancing.{Advanced}
use Rattle.advancing.proofs.Laws.{due, state_after}
use Rattle.turns_from.specs.Underway.{Underway}
use Rattle.turns_from.specs.NextBusy.{NextBusy, busy_after}
use Rattle.next_worker.proofs.Steps.{takes, works, passes, over, finishes, ends}

pub record Going (z : Sizes) (budget : ℕ) (all : RunEnd) (ws₀ : List Worker) (m : List Float) (l : List ℕ) (r : List (List ℕ)) (ws : List Worker) (number n w from : ℕ) : Type 0 where
  pub whole : Whole z (lent m l r ws z.workers number)
  pub none : NoneReady (tasks z.tiles) (marks_from r) from
  pub reached : from ≤ length r
  pub slots : length ws ≡ 32
  pub few : z.workers ≤ 32
  pub turn_of : w < z.workers
  pub within : n ≤ budget
  pub left_to_do : run_from (plan_of z) z.workers (budget - n) n w (lent m l r ws z.workers number) ≡ all
  pub others : drop z.workers ws ≡ drop z.workers ws₀

-- and worker w is busy
pub record OnTurn (z : Sizes) (budget : ℕ) (all : RunEnd) (ws₀ : List Worker) (m : List Float) (l : List ℕ) (r : List (List ℕ)) (ws : List Worker) (number n w from : ℕ) : Type 0 where
  pub going : Going z budget all ws₀ m l r ws number n w from
  pub busy : (get_or ws w idle).busy ≡ true

-- ---- lengths

module _ (z : Sizes) (m : List Float) (l : List ℕ) (r : List (List ℕ)) (ws : List Worker) (number : ℕ) (h : Whole z (lent m l r ws z.workers number)) where
  matrix_long : length m ≡ z.tiles * z.tiles * (z.side * z.side)
  unfolding lent
  matrix_long = h.stated.sized.matrix

  lists_long : length l ≡ z.tiles * z.tiles * z.side
  unfolding lent
  lists_long = h.stated.sized.lists

  pub records_long : length r ≡ count z
  unfolding lent
  records_long = sym (length_records r) ∙ h.stated.records

-- ---- the marks after one has changed

-- f gives every record the mark v
marks_after : (r r' : List (List ℕ)) (p v : ℕ) (f : TaskRecord → TaskRecord) → ((x : TaskRecord) → (f x).mark ≡ v) → records_from r' ≡ changed p f (records_from r)
    → marks_from r' ≡ set (marks_from r) p v
unfolding marks_from changed
marks_after r r' p v f g e =
    ap (map (λ (x : TaskRecord). x.mark)) e ∙ map_set (λ (x : TaskRecord). x.mark) (records_from r) p _
    ∙ ap (set (map (λ (x : TaskRecord). x.mark) (records_from r)) p) (g (get_or (records_from r) p (record_of (t_1 0))))

none_in : (z : Sizes) (r r' : List (List ℕ)) (p v from : ℕ) (f : TaskRecord → TaskRecord) → ((x : TaskRecord) → (f x).mark ≡ v) → records_from r' ≡ changed p f (records_from r)
    → NoneReady (tasks z.tiles) (set (marks_from r) p v) from → NoneReady (tasks z.tiles) (marks_from r') from
none_in z r r' p v from f g e none = subst (λ (ms : List ℕ). NoneReady (tasks z.tiles) ms from) (sym (marks_after r r' p v f g e)) none

-- a column leaves a mark that is taken, or finished
still_taken : (v : ℕ) → 1 ≤ v → v ≤ 4 → finished v ≡ false → v ≡ 1
unfolding finished
still_taken zero lo hi f = absurd (omega arith)
still_taken (suc zero) lo hi f = refl
still_taken (suc (suc zero)) lo hi f = never refl f
still_taken (suc (suc (suc zero))) lo hi f = never refl f
still_taken (suc (suc (suc (suc zero)))) lo hi f = never refl f
still_taken (suc (suc (suc (suc (suc v))))) lo hi f = absurd (omega arith)

-- ---- one turn more

onward : (z : Sizes) (budget n w u v : ℕ) (s s' t : Lent) (R : RunEnd) → n < budget → s' ≡ t → u ≡ v
    → ((b : ℕ) → run_from (plan_of z) z.workers (suc b) n w s ≡ run_from (plan_of z) z.workers b (suc n) v t)
    → run_from (plan_of z) z.workers (budget - n) n w s ≡ R → run_from (plan_of z) z.workers (budget - (n + 1)) (n + 1) u s' ≡ R
onward z budget n w u v s s' t R h e f step all =
    let k : n + 1 ≡ suc n = omega arith in
    let b : suc (budget - (n + 1)) ≡ budget - n = omega arith in
    rw (k, e, f) (rw k at (sym (step (budget - (n + 1))) ∙ ap (λ (x : ℕ). run_from (plan_of z) z.workers x n w s) b ∙ all))

module _ {z : Sizes} {budget : ℕ} {all : RunEnd} {ws₀ : List Worker} {m : List Float} {l : List ℕ} {r : List (List ℕ)} {ws : List Worker} {number n w from : ℕ}
    (g : Going z budget all ws₀ m l r ws number n w from) where
  abbrev W : ℕ
  W = z.workers

  abbrev s : Lent
  s = lent m l r ws W number

  pub sizes : Sized z
  sizes = sized z g.whole.fit

  fine : damaged (plan_of z) s ≡ false
  unfolding run_answer
  fine =
      let a = passed BadSizes 0 _ _ (run_accepted z s g.whole) in
      let b = passed BadLengths 0 _ _ a.1 in
      (or_false _ _ (passed Damaged 0 _ _ b.1).0).0

  -- the run's number is far from a u32's largest
  pub few_calls : number ≤ 25432
  few_calls = number_small z m l r ws number sizes fine

  -- worker w, as the slots have it
  here : worker s w ≡ get_or ws w idle
  here = worker_lent m l r ws W number w g.turn_of

  long : W ≤ length ws
  long = omega (arith, g.slots, sizes.few_workers)

  stored : (h : Worker) → crew (set ws w h) W ≡ set (crew ws W) w h
  stored h = crew_set ws W w h long g.turn_of

  pub keep_turn : (get_or ws w idle).busy ≡ true → (w' f' : ℕ) → w' ≡ w → f' ≡ from → OnTurn z budget all ws₀ m l r ws number n w' f'
  keep_turn b w' f' e f = rw (e, f) (record { going = g; busy = b })

  -- ---- an idle worker takes a task

  pub few_records : length r ≤ 1496
  few_records = subst (λ (k : ℕ). k ≤ 1496) (sym (records_long z m l r ws number g.whole)) (few_tasks z.tiles sizes.few_tiles)

  pub searched : NoneBelow z.tiles r from
  searched = record {
    recorded = λ p h. recorded z m l r ws number sizes (records_long z m l r ws number g.whole) fine p (subst (λ (k : ℕ). p < k) (records_long z m l r ws number g.whole) h);
    none = g.none;
    within = g.reached;
  }

  module _ (p : ℕ) (low : LowestReady z.tiles r p) (b : (get_or ws w idle).busy ≡ false) where
    idle_now : (worker s w).busy ≡ false
    idle_now = ap (λ (x : Worker). x.busy) here ∙ b

    none_now : NoneReady (tasks z.tiles) (marks_of s) p
    none_now = subst (λ (ms : List ℕ). NoneReady (tasks z.tiles) ms p) (sym (marks_lent m l r ws W number)) low.none

    pub take_goes : p < length r → n < budget → (h : Worker) → h ≡ holding p 0 → (r' : List (List ℕ)) → records_from r' ≡ changed p (with_take (number + 1)) (records_from r)
        → length r' ≡ length r → (u : ℕ) → u ≡ suc w % W → Going z budget all ws₀ m l r' (set ws w h) (number + 1) (n + 1) u (p + 1)
    unfolding lent took with_take
    take_goes hp hn h e r' q k u f =
        let c : p < count z = subst (λ (x : ℕ). p < x) (records_long z m l r ws number g.whole) hp in
        let rd : ready (tasks z.tiles) (marks_of s) p ≡ true = ap (λ (ms : List ℕ). ready (tasks z.tiles) ms p) (marks_lent m l r ws W number) ∙ low.found hp in
        let t : lent m l r' (set ws w h) W (number + 1) ≡ took (plan_of z) w p s =
        (λ i. record {
          buffers = record { matrix = m; lists = l };
          records = (q ∙ ap (λ (k : ℕ). changed p (with_take k) (records_from r)) (add-one number)) i;
          workers = (stored h ∙ ap (set (crew ws W) w) e) i;
          number = add-one number i;
        }) in
        let o : suc p ≡ p + 1 = omega arith in
        record {
          whole = subst (Whole z) (sym t) (took_whole z s g.whole w p g.turn_of idle_now c rd);
          none = none_in z r r' p 1 (p + 1) (with_take (number + 1)) (λ x. refl) q (subst (NoneReady (tasks z.tiles) (set (marks_from r) p 1)) o
              (none_after_take (tasks z.tiles) (marks_from r) p (subst (λ (x : ℕ). p < x) (sym (length_marks r)) hp) low.none));
          reached = omega arith;
          slots = length-set ws w h ∙ g.slots;
          few = g.few;
          turn_of = subst (λ (x : ℕ). x < W) (sym f) (mod-lt (suc w) (omega (arith, g.turn_of)));
          within = omega arith;
          left_to_do = onward z budget n w u (suc w % W) s _ _ _ hn t f
              (λ b. takes z s g.whole b n w p g.turn_of idle_now c rd none_now) g.left_to_do;
          others = drop-set-lt W ws w h g.turn_of ∙ g.others;
        }

    -- ---- or its turn passes

    module _ (none_left : length r ≤ p) where
      no_task : NoneReady (tasks z.tiles) (marks_of s) (count z)
      no_task q k = none_now q (omega (arith, records_long z m l r ws number g.whole))

      as_lent : (x : ℕ) (f : Bool) → x < W → (get_or ws x idle).busy ≡ f → (worker s x).busy ≡ f
      as_lent x f h e = ap (λ (y : Worker). y.busy) (worker_lent m l r ws W number x h) ∙ e

      pub pass_goes : (v : ℕ) → NextBusy ws W w v → Going z budget all ws₀ m l r ws number n v p
      pass_goes v (busy_after d h b before) =
          let inside : (k : ℕ) → (w + k) % W < W = λ k. mod-lt (w + k) (omega (arith, g.turn_of)) in
          record {
            whole = g.whole;
            none = low.none;
            reached = low.within;
            slots = g.slots;
            few = g.few;
            turn_of = inside d;
            within = g.within;
            left_to_do = passes z s g.whole no_task (budget - n) n w d h (as_lent ((w + d) % W) true (inside d) b) (inside d)
                (λ k j. as_lent ((w + k) % W) false (inside k) (before k j)) ∙ g.left_to_do;
            others = g.others;
          }

      pub pass_turn : (v : ℕ) → NextBusy ws W w v → (w' f' : ℕ) → w' ≡ v → f' ≡ p → OnTurn z budget all ws₀ m l r ws number n w' f'
      pass_turn v q w' f' e f = rw (e, f) (record { going = pass_goes v q; busy = busy_next q })
        where
          busy_next : {x : ℕ} → NextBusy ws W w x → (get_or ws x idle).busy ≡ true
          busy_next (busy_after d h b before) = b

      -- ---- or the run is over

      pub run_over : ((x : ℕ) → x < W → (get_or ws x idle).busy ≡ false) → ◌≡◌ {A = RunEnd} (record { answer = Ok (Finished n); left = s }) all
      run_over quiet = sym (finishes z s (budget - n) n w (over z s g.whole no_task (λ x h. as_lent x false h (quiet x h)))) ∙ g.left_to_do

  -- ---- a busy worker does a column

  module _ (b : (get_or ws w idle).busy ≡ true) where
    abbrev h : Worker
    h = get_or ws w idle

    busy_now : (worker s w).busy ≡ true
    busy_now = ap (λ (x : Worker). x.busy) here ∙ b

    task_fits : h.task < count z
    task_fits = subst (λ (x : Worker). x.task < count z) here (g.whole.held w g.turn_of busy_now).task

    tiles_finite : finite_tiles (plan_of z) (task (tasks z.tiles) h.task) (record { matrix = m; lists = l }) ≡ true
    unfolding bad_tiles plan lent
    tiles_finite =
        subst (λ (x : Worker). finite_tiles (plan_of z) (task (tasks z.tiles) x.task) (record { matrix = m; lists = l }) ≡ true) here
        (and_true_not _ _ busy_now (good_tiles z s g.whole.stated.sized g.whole.tiles w (g.whole.held w g.turn_of busy_now).task))

    pub column_due : ColumnDue z h.task h.column m l r
    column_due = due z w m l r ws number (record {
      sound = record {
        sizes = sizes;
        lengths = record {
          buffers = record {
            matrix_fits = matrix_long z m l r ws number g.whole ∙ sym (mul-mul-mul_comm z.tiles z.side z.tiles z.side);
            lists_fit = lists_long z m l r ws number g.whole;
          };
          records_fit = records_long z m l r ws number g.whole;
        };
        undamaged = fine;
      };
      exists = g.turn_of;
      busy = b;
      tiles_finite = tiles_finite;
    })

    module _ {m' : List Float} {l' : List ℕ} {r' : List (List ℕ)} {k : Worker} (o : Advanced z h w (number + 1) m l r m' l' r' k) where
      abbrev left_mark_lem : ℕ
      left_mark_lem = mark_after o.end

      mark_bounds : (1 ≤ left_mark_lem) × (left_mark_lem ≤ 4)
      mark_bounds =
          let q = ap (λ (x : Ended). x.mark) (o.ends ws number) in
          let e = column_ends_lem z s g.whole.stated h.task h.column task_fits in
          (subst (λ (x : ℕ). 1 ≤ x) (sym q) e.begun, subst (λ (x : ℕ). x ≤ 4) (sym q) e.most)

      advanced_is : lent m' l' r' (set ws w k) W (number + 1) ≡ advanced (plan_of z) w s
      advanced_is = state_after z m l r ws number w long g.turn_of h refl m' l' r' o.end k (o.ends ws number) o.records o.worker

      none_then : (f : ℕ) → f ≡ cond k.busy from (min from (suc h.task)) → (f ≤ from) × NoneReady (tasks z.tiles) (marks_from r') f
      none_then f e = go (finished left_mark_lem) refl o.worker
        where
          p : h.task < length (marks_from r)
          p = subst (λ (x : ℕ). h.task < x) (sym (length_marks r ∙ records_long z m l r ws number g.whole)) task_fits

          from_is : (x : Worker) → k ≡ x → f ≡ cond x.busy from (min from (suc h.task))
          from_is x q = e ∙ ap (λ (y : Worker). cond y.busy from (min from (suc h.task))) q

          go : (b : Bool) → finished left_mark_lem ≡ b → k ≡ cond b idle (holding h.task (suc h.column)) → (f ≤ from) × NoneReady (tasks z.tiles) (marks_from r') f
          go true a q =
              let j : f ≡ min from (suc h.task) = from_is idle q in (
                subst (λ (x : ℕ). x ≤ from) (sym j) (min-le_left from (suc h.task)),
                subst (NoneReady (tasks z.tiles) (marks_from r')) (sym j)
                    (none_in z r r' h.task left_mark_lem (min from (suc h.task)) (with_column w (number + 1) left_mark_lem (ties_after o.end)) (λ x. unfold with_column in refl) o.records
                    (none_after (tasks z.tiles) (marks_from r) h.task left_mark_lem from p (λ d. omega (arith, mark_bounds.0)) g.none)),
              )
          go false a q =
              let j : f ≡ from = from_is (holding h.task (suc h.column)) q in (
                omega arith,
                subst (NoneReady (tasks z.tiles) (marks_from r')) (sym j)
                    (none_in z r r' h.task left_mark_lem from (with_column w (number + 1) left_mark_lem (ties_after o.end)) (λ x. unfold with_column in refl) o.records
                    (subst (λ (x : ℕ). NoneReady (tasks z.tiles) (set (marks_from r) h.task x) from) (sym (still_taken left_mark_lem mark_bounds.0 mark_bounds.1 a))
                    (none_kept (tasks z.tiles) (marks_from r) h.task p from g.none))),
              )

      pub work_goes : n < budget → (f : ℕ) → f ≡ cond k.busy from (min from (suc h.task)) → (u : ℕ) → u ≡ suc w % W
          → Going z budget all ws₀ m' l' r' (set ws w k) (number + 1) (n + 1) u f
      work_goes hn f e u q =
          let i : Whole z (lent m' l' r' (set ws w k) W (number + 1)) = subst (Whole z) (sym advanced_is) (advanced_whole z s g.whole w g.turn_of busy_now) in
          let x = none_then f e in
          record {
            whole = i;
            none = x.1;
            reached = omega (arith, x.0, g.reached, records_long z m l r ws number g.whole, records_long z m' l' r' (set ws w k) (number + 1) i);
            slots = length-set ws w k ∙ g.slots;
            few = g.few;
            turn_of = subst (λ (x : ℕ). x < W) (sym q) (mod-lt (suc w) (omega (arith, g.turn_of)));
            within = omega arith;
            left_to_do = onward z budget n w u (suc w % W) s _ _ _ hn advanced_is q (λ b. works z s g.whole b n w g.turn_of busy_now) g.left_to_do;
            others = drop-set-lt W ws w k g.turn_of ∙ g.others;
          }

  -- ---- the budget is spent

  pub run_ends : budget ≤ n → (a : RunAnswer) → a ≡ cond (every finished (marks_from r)) (Ok (Finished budget)) (Ok (Spent budget))
      → ◌≡◌ {A = RunEnd} (record { answer = a; left = s }) all
  unfolding all_finished
  run_ends h a e =
      let k : 0 ≡ budget - n = omega arith in
      let q : budget ≡ n = omega (arith, g.within) in
      (λ i. record { answer = (rw q at e) i; left = s })
      ∙ sym (ends z s n w (every finished (marks_from r)) (ap (every finished) (sym (marks_lent m l r ws W number))))
      ∙ ap (λ (x : ℕ). run_from (plan_of z) W x n w s) k ∙ g.left_to_do

-- ---- the first turn

-- a run that is accepted has as many workers as the sizes say
pub counted : (z : Sizes) (m : List Float) (l : List ℕ) (r : List (List ℕ)) (ws : Workers) → run_answer z (all_lent m l r ws) ≡ accepted → ws.count ≡ z.workers
unfolding run_answer
counted z m l r ws e =
    let a = passed BadSizes 0 (bad_sizes z) _ e in
    count_fits z m l r ws.slots ws.count ws.number (passed BadLengths 0 (bad_lengths (plan_of z) z.workers (all_lent m l r ws)) _ a.1).0

whole_then : (z : Sizes) (m : List Float) (l : List ℕ) (r : List (List ℕ)) (ws : Workers) → run_answer z (all_lent m l r ws) ≡ accepted → Whole z (lent m l r ws.slots z.workers ws.number)
whole_then z m l r ws e = subst (λ (k : ℕ). Whole z (lent m l r ws.slots k ws.number)) (counted z m l r ws e) (run_whole z (all_lent m l r ws) e)

pub starts : (z : Sizes) (budget : ℕ) (m : List Float) (l : List ℕ) (r : List (List ℕ)) (ws : Workers) (n w from : ℕ) → length ws.slots ≡ 32
    → Underway z budget m l r ws n w from → Going z budget (run_from (plan_of z) z.workers (budget - n) n w (lent m l r ws.slots z.workers ws.number)) ws.slots m l r ws.slots ws.number n w from
starts z budget m l r ws n w from h d = record {
  whole = whole_then z m l r ws d.accepted;
  none = d.none;
  reached = d.reached;
  slots = h;
  few = (sized z (whole_then z m l r ws d.accepted).fit).few_workers;
  turn_of = d.turn_of;
  within = d.within;
  left_to_do = refl;
  others = refl;
}

-- ---- what is handed back

module _ {z : Sizes} {budget : ℕ} {all : RunEnd} (m₀ : List Float) (l₀ : List ℕ) (r₀ : List (List ℕ)) (ws₀ : Workers) (a : run_answer z (all_lent m₀ l₀ r₀ ws₀) ≡ accepted)
    {m : List Float} {l : List ℕ} {r : List (List ℕ)} {ws : List Worker} {number n w from : ℕ}
    (g : Going z budget all ws₀.slots m l r ws number n w from) where
  -- what is left, told by the count of the workers
  pub recounted : (b n₀ w₀ : ℕ) (x : RunAnswer)
      → ◌≡◌ {A = RunEnd} (record { answer = x; left = lent m l r ws z.workers number }) (run_from (plan_of z) z.workers b n₀ w₀ (lent m₀ l₀ r₀ ws₀.slots z.workers ws₀.number))
      → ◌≡◌ {A = RunEnd} (record { answer = x; left = lent m l r ws ws₀.count number }) (run_from (plan_of z) z.workers b n₀ w₀ (all_lent m₀ l₀ r₀ ws₀))
  recounted b n₀ w₀ x e =
      subst (λ (k : ℕ). ◌≡◌ {A = RunEnd} (record { answer = x; left = lent m l r ws k number }) (run_from (plan_of z) z.workers b n₀ w₀ (lent m₀ l₀ r₀ ws₀.slots k ws₀.number)))
      (sym (counted z m₀ l₀ r₀ ws₀ a)) e

  pub others_kept : OthersKept ws₀ (record { slots = ws; count = ws₀.count; number = number })
  others_kept = record {
    same_count = refl;
    same_slots = subst (λ (k : ℕ). drop k ws ≡ drop k ws₀.slots) (sym (counted z m₀ l₀ r₀ ws₀ a)) g.others;
  }
