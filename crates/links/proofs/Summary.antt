-- What is proved of every N, in one place: numbering, links, latest writers, readiness and spoiling in closed form are document 01's.
-- Assumes nothing.
use Prim.Native.Nat.{ℕ, ◌+◌, ◌-◌, ◌*◌, ◌/◌, ◌≤◌, ◌<◌}
use mathlib.Core.Bool.{true, false}
use mathlib.Core.Path.{◌≡◌, sym, ◌∙◌, subst}
use mathlib.Core.Logic.{◌↔◌}
use mathlib.Core.List.{List}
use lib.ListN.{length}
use Rattle.model.specs.Task.{Place, tasks, task_count}
use Rattle.model.specs.Links.{task, linked, links_to, link_count, latest_writers, mark, finished, ready, spoils}
use Rattle.links.specs.Closed.{Key, In, task_at, number, key_at, Before, Linked, Last, links_at, ready_at, spoils_at}
use Rattle.links.proofs.Numbering.{task_is}
use Rattle.links.proofs.Order.{back, forth, number_fits, number_mono, before_of_number, length_tasks, Within, task_within}
use Rattle.links.proofs.Places.{Touches}
use Rattle.links.proofs.Links.{links}
use Rattle.links.proofs.Writers.{Latest, last_of, of_last}
use Rattle.links.proofs.Direct as D
use Rattle.links.proofs.Counts.{link_count_lem}
use Rattle.links.proofs.Tests.{ready_is, spoils_is}
use Rattle.links.proofs.Waits as W

module _ (N : ℕ) where
  -- ---- numbering

  pub task_count_lem : length (tasks N) ≡ task_count N
  task_count_lem = length_tasks N

  -- the number of a triple is the place of its task, and the triple comes back
  pub numbered : (a : Key) → In N a → (number N a < task_count N) × (task (tasks N) (number N a) ≡ task_at a) × (key_at N (number N a) ≡ a)
  numbered a v = (number_fits N a v, task_is N a v, forth N a v)

  pub number_back : (p : ℕ) → p < task_count N → In N (key_at N p) × (number N (key_at N p) ≡ p)
  number_back p h = back N p h

  pub number_order : (a b : Key) → In N a → In N b → (number N a < number N b) ↔ Before a b
  number_order a b v w = (before_of_number N a b v w, number_mono N a b v w)

  pub fields_within : (p : ℕ) → p < task_count N → Within N (task (tasks N) p)
  fields_within p h = task_within N p h

  -- ---- links and latest writers

  pub links_are : (a b : Key) → In N a → In N b → number N a < number N b → (linked (tasks N) (number N a) (number N b) ≡ true) ↔ Linked a b
  links_are a b v w h = links N a b v w h

  pub latest_is : (x : Place) (a b : Key) → In N a → In N b → Touches b x → Latest N x (number N a) (number N b) ↔ Last a b x
  latest_is x a b v w t = (last_of N x a b v w t, of_last N x a b v w)

  -- the tasks linked to task b, and the latest writers of what it touches
  pub links_list : (b : Key) → In N b → links_to (tasks N) (number N b) ≡ links_at N b
  links_list b w = D.links_are N b w

  pub writers_list : (b : Key) → In N b → latest_writers (tasks N) (number N b) ≡ links_at N b
  writers_list b w = D.writers_are N b w

  -- so they are the same, and at most three
  pub links_writers : (p : ℕ) → p < task_count N → links_to (tasks N) p ≡ latest_writers (tasks N) p
  links_writers p h = let (w, e) = back N p h in rw e at (links_list (key_at N p) w ∙ sym (writers_list (key_at N p) w))

  pub few_links : (p : ℕ) → p < task_count N → length (links_to (tasks N) p) ≤ 3
  few_links p h =
      let (w, e) = back N p h in
      rw e at (subst (λ (xs : List ℕ). length xs ≤ 3) (sym (links_list (key_at N p) w)) (D.few N (key_at N p) w))

  pub links_in_all : link_count (tasks N) ≡ N * (N - 1) * (2 * N + 1) / 2
  links_in_all = link_count_lem N

  -- ---- the tests of marks

  pub ready_closed : (ms : List ℕ) (b : Key) → In N b → ready (tasks N) ms (number N b) ≡ ready_at N ms b
  ready_closed ms b w = ready_is N ms b w

  pub spoils_closed : (ms : List ℕ) (b : Key) → In N b → spoils (tasks N) ms (number N b) ≡ spoils_at N ms b
  spoils_closed ms b w = spoils_is N ms b w

  -- ---- rows: the tasks of one have numbers one after the other, and while the first of them hasn't finished, none of the others is ready

  pub row_fits : (a : Key) → In N a → a.j ≡ a.k → number N a + (N - a.k) ≤ task_count N
  row_fits a v first = W.row_fits N a v first

  pub row_waits : (ms : List ℕ) (a : Key) → In N a → a.j ≡ a.k → finished (mark ms (number N a)) ≡ false
      → (q : ℕ) → number N a < q → q < number N a + (N - a.k) → ready (tasks N) ms q ≡ false
  row_waits ms a v first e = W.row_waits N a v first ms e
