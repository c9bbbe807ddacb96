-- The column of a worker at work is due; and the state after it. Assumes nothing.
use Prim.Native.Nat.{ℕ, suc, ◌+◌, ◌-◌, ◌*◌, ◌≤◌, ◌<◌}
use mathlib.Core.Bool.{false, cond}
use mathlib.Core.Path.{◌≡◌, refl, sym, ap, ◌∙◌, subst}
use mathlib.Core.List.{List, []}
use native.Mathlib.Numerals.{add-one}
use native.Mathlib.Omega.{arith}
use lib.Ieee.{Float}
use lib.ListN.{length, get_or, set}
use borrow.Author.Tests.{eq-eqb, ne_eqb, lt-ltb}
use Rattle.model.specs.declared.Sizes.{Sizes}
use Rattle.model.specs.declared.ColumnEnd.{ColumnEnd}
use Rattle.worker.specs.declared.Worker.{Worker}
use Rattle.model.specs.Task.{Task, tasks}
use Rattle.model.specs.Plan.{plan, plan_of}
use Rattle.model.specs.Links.{task, finished}
use Rattle.model.specs.Buffer.{Buffers, Ended, mark_after, ties_after, ended_with}
use Rattle.model.specs.Calls.{Lent, with_column, changed, worker, column_of, advanced}
use Rattle.worker.specs.Holding.{idle, holding}
use Rattle.model.specs.Refusal.{entry_limit, damaged}
use Rattle.links.proofs.Order.{Within, within_1, within_2, within_3, within_4}
use Rattle.column_laws.specs.Placed.{Placed, EntriesFit}
use Rattle.records.specs.Records.{records_from, ties_from, crew, lent}
use Rattle.records.proofs.Laws.{crew_set}
use Rattle.checks.specs.Checks.{Sized}
use Rattle.checks.proofs.Laws.{small}
use Rattle.run_laws.proofs.Undamaged.{entry_fits}
use Rattle.run_laws.proofs.Ties.{column_ties_most}
use Rattle.call_laws.proofs.Undamaged.{worker_lent, record_named, task_inside, record_inside, recorded, worker_holds, worker_ties}
use Rattle.task_columns.specs.Due.{ColumnDue}
use Rattle.advancing.specs.Advancing.{Working}

-- ---- what refusal 4 gives

placed : (N : ℕ) (a : Task) → Within N a → Placed N a
placed N a (within_1 k h) = h
placed N a (within_2 k j h g) = (h, g)
placed N a (within_3 k i h g) = (h, g)
placed N a (within_4 k i j h g f e) = (h, g, f, e)

module _ (z : Sizes) where
  limit_diagonal : (k : ℕ) → entry_limit (plan_of z) k k ≡ z.side - 1
  unfolding entry_limit plan
  limit_diagonal k = rw (eq-eqb k k refl)

  limit_below : (i k : ℕ) → k < i → entry_limit (plan_of z) i k ≡ z.side
  unfolding entry_limit plan
  limit_below i k h = rw (ne_eqb i k (λ e. omega arith), lt-ltb k i h)

  module _ (m : List Float) (l : List ℕ) (r : List (List ℕ)) (ws : List Worker) (number : ℕ) (sizes : Sized z) (fine : damaged (plan_of z) (lent m l r ws z.workers number) ≡ false) where
    entry : (i j x : ℕ) → i < z.tiles → j < z.tiles → x < z.side → get_or l ((i * z.tiles + j) * z.side + x) 0 ≤ entry_limit (plan_of z) i j
    unfolding lent plan
    entry i j x hi hj hx = entry_fits (plan_of z) (lent m l r ws z.workers number) fine i j x hi hj hx

    entries : (a : Task) → Within z.tiles a → EntriesFit z.tiles z.side a l
    entries a (within_1 k h) = tt
    entries a (within_2 k j h g) = λ x hx. omega (arith, entry k k x (omega arith) (omega arith) hx, limit_diagonal k, sizes.some_side)
    entries a (within_3 k i h g) = tt
    entries a (within_4 k i j h g f e) = λ x hx. omega (arith, entry i k x (omega arith) (omega arith) hx, limit_below i k h)

-- the column of a worker at work is due
module _ (z : Sizes) (w : ℕ) (m : List Float) (l : List ℕ) (r : List (List ℕ)) (ws : List Worker) (number : ℕ) (d : Working z w m l r ws number) where
  abbrev h : Worker
  h = get_or ws w idle

  pub holds : (h.task < length (tasks z.tiles)) × (h.column < z.side)
  holds =
      let k = worker_holds z m l r ws number w d.sound.undamaged d.exists d.busy in
      (k.0, k.2)

  pub due : ColumnDue z h.task h.column m l r
  due =
      let p = h.task in
      let v = task_inside z m l r ws number d.sound.sizes d.sound.lengths.records_fit d.sound.undamaged p holds.0 in
      record {
        sizes = d.sound.sizes;
        workable = record {
          tiles_some = d.sound.sizes.some_tiles;
          tiles_most = d.sound.sizes.few_tiles;
          side_some = d.sound.sizes.some_side;
          side_most = d.sound.sizes.small_side;
          lengths = d.sound.lengths.buffers;
          placed = placed z.tiles (task (tasks z.tiles) p) v;
          column = holds.1;
          entries = entries z m l r ws number d.sound.sizes d.sound.undamaged (task (tasks z.tiles) p) v;
          tiles_finite = d.tiles_finite;
        };
        recorded = recorded z m l r ws number d.sound.sizes d.sound.lengths.records_fit d.sound.undamaged p holds.0;
        named = record_named z m l r ws number d.sound.sizes d.sound.lengths.records_fit d.sound.undamaged p holds.0;
        inside = record_inside z m l r ws number d.sound.sizes d.sound.lengths.records_fit d.sound.undamaged p holds.0;
        few_ties = worker_ties z m l r ws number w d.sound.undamaged d.exists d.busy;
      }

-- the tie sum, with those of the column, is a u16
pub few_more : (z : Sizes) (h : Worker) (m : List Float) (l : List ℕ) (r : List (List ℕ)) → ColumnDue z h.task h.column m l r → (end : ColumnEnd) (left : Buffers)
    → ended_with end left ≡ column_of (plan_of z) (lent m l r [] z.workers 0) h.task h.column → get_or (ties_from r) h.task 0 + ties_after end < 65536
unfolding plan
few_more z h m l r d end left e =
    let s = d.sizes in
    let n : ties_after end ≡ (column_of (plan_of z) (lent m l r [] z.workers 0) h.task h.column).ties = ap (λ (x : Ended). x.ties) e in
    omega (arith, n, d.few_ties, column_ties_most (plan_of z) (lent m l r [] z.workers 0) h.task h.column, s.small_side, small z.side h.column s.small_side (omega (arith, d.workable.column, s.small_side)))

-- ---- the state after worker w's column

module _ (z : Sizes) (m : List Float) (l : List ℕ) (r : List (List ℕ)) (ws : List Worker) (number w : ℕ) (long : z.workers ≤ length ws) (here : w < z.workers) where
  abbrev old : Lent
  old = lent m l r ws z.workers number

  -- what worker v's column leaves where it ends as x
  abbrev moved : Worker → Ended → Lent
  moved v x = record {
    buffers = x.left;
    records = changed v.task (with_column w (suc number) x.mark x.ties) (records_from r);
    workers = set (crew ws z.workers) w (cond (finished x.mark) idle (holding v.task (suc v.column)));
    number = suc number;
  }

  advanced_is : moved (worker old w) (column_of (plan_of z) old (worker old w).task (worker old w).column) ≡ advanced (plan_of z) w old
  unfolding advanced lent
  advanced_is = refl

  pub state_after : (h : Worker) → h ≡ get_or ws w idle → (m' : List Float) (l' : List ℕ) (r' : List (List ℕ)) (end : ColumnEnd) (h' : Worker)
      → ended_with end (record { matrix = m'; lists = l' }) ≡ column_of (plan_of z) old h.task h.column
      → records_from r' ≡ changed h.task (with_column w (number + 1) (mark_after end) (ties_after end)) (records_from r) → h' ≡ cond (finished (mark_after end)) idle (holding h.task (suc h.column))
      → lent m' l' r' (set ws w h') z.workers (number + 1) ≡ advanced (plan_of z) w old
  unfolding lent
  state_after h e m' l' r' end h' f g i =
      (λ x. record {
        buffers = record { matrix = m'; lists = l' };
        records = (g ∙ ap (λ (n : ℕ). changed h.task (with_column w n (mark_after end) (ties_after end)) (records_from r)) (add-one number)) x;
        workers = (crew_set ws z.workers w h' long here ∙ ap (λ y. set (crew ws z.workers) w y) i) x;
        number = add-one number x;
      })
      ∙ ap (moved h) f
      ∙ ap (λ v. moved v (column_of (plan_of z) old v.task v.column)) (e ∙ sym (worker_lent m l r ws z.workers number w here))
      ∙ advanced_is

-- told by their count, where it is the one that the sizes say
pub recounted : (z : Sizes) (w count number number' : ℕ) (m m' : List Float) (l l' : List ℕ) (r r' : List (List ℕ)) (ws ws' : List Worker) → count ≡ z.workers
    → lent m' l' r' ws' z.workers number' ≡ advanced (plan_of z) w (lent m l r ws z.workers number) → lent m' l' r' ws' count number' ≡ advanced (plan_of z) w (lent m l r ws count number)
recounted z w count number number' m m' l l' r r' ws ws' e f = subst (λ (k : ℕ). lent m' l' r' ws' k number' ≡ advanced (plan_of z) w (lent m l r ws k number)) (sym e) f
