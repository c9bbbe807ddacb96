-- The diagonal, and the outcome from what was found. Assumes nothing.
use Prim.Native.Nat.{ℕ, ◌+◌, ◌*◌, ◌/◌, ◌%◌, ◌≤◌, ◌<◌}
use mathlib.Core.Path.{◌≡◌, sym, ◌∙◌}
use mathlib.Core.List.{List}
use lib.Ieee.{Float, nan}
use lib.ListN.{length, get_or, drop}
use lib.Seq.{get_or-take, get_or-drop}
use Rattle.model.specs.declared.Sizes.{Sizes}
use Rattle.model.specs.declared.Outcome.TheVariants.{Good, Overflow, Singular}
use Rattle.model.specs.Lists.{first_or}
use Rattle.model.specs.Tile.{at}
use Rattle.model.specs.Plan.{plan, plan_of, order}
use Rattle.model.specs.Buffer.{tile, element}
use Rattle.model.specs.Loops.{State, failed_tasks, zero_rows, outcome}
use Rattle.laws.proofs.Blocks.{in_block, row_below, column_below}
use Rattle.checks.specs.Checks.{Sized}
use Rattle.std.specs.Prelude.{Some, None, Option}
use Rattle.checks.proofs.Laws.{small, tile_fits}
use Rattle.unfinished.proofs.First.{first_below, from_at, from_none}

-- ---- the diagonal

-- row x: where its tile and its place in the tile stand
pub record Diagonal (N t x : ℕ) : Type 0 where
  pub tile_at_lem : x / t * N + x / t < N * N
  pub tile_room : (x / t * N + x / t) * (t * t) + t * t ≤ N * t * (N * t)
  pub own_at : x % t * t + x % t < t * t
  pub few_tiles : N * N ≤ 256
  pub few : N * t * (N * t) ≤ 65536

pub diagonal_at : (z : Sizes) (x : ℕ) → Sized z → x < z.tiles * z.side → Diagonal z.tiles z.side x
diagonal_at z x s h =
    let i = row_below z.tiles z.side x h in
    let r = column_below z.tiles z.side x h in
    let b = small z.tiles z.side s.few_tiles s.small_side in
    record {
      tile_at_lem = in_block z.tiles z.tiles (x / z.side) (x / z.side) i i;
      tile_room = tile_fits z.tiles z.side (x / z.side) (x / z.side) i i;
      own_at = in_block z.side z.side (x % z.side) (x % z.side) r r;
      few_tiles = b.2;
      few = b.1;
    }

pub diagonal_is : (N t x : ℕ) (m : List Float) → Diagonal N t x → get_or m ((x / t * N + x / t) * (t * t) + (x % t * t + x % t)) nan ≡ element N t m x x
unfolding element tile at
diagonal_is N t x m b =
    sym (get_or-take (t * t) (drop ((x / t * N + x / t) * (t * t)) m) (x % t * t + x % t) nan b.own_at ∙ get_or-drop ((x / t * N + x / t) * (t * t)) m (x % t * t + x % t) nan)

-- ---- the outcome

module _ (z : Sizes) (m : List Float) (l ms ns : List ℕ) where
  abbrev state : State
  state = record { buffers = record { matrix = m; lists = l }; marks = ms; ties = ns }

  pub outcome_failed : (f : Option ℕ) (p : ℕ) → f ≡ first_or (failed_tasks ms) Some None → f ≡ Some p → Overflow p ≡ outcome (plan_of z) state
  unfolding outcome
  outcome_failed f p e q = sym (from_at Overflow _ (failed_tasks ms) f p e q)

  module _ (f : Option ℕ) (e : f ≡ first_or (failed_tasks ms) Some None) (q : f ≡ None) where
    pub outcome_zero : (g : Option ℕ) (x : ℕ) → g ≡ first_or (zero_rows (plan_of z) m) Some None → g ≡ Some x → Singular x ≡ outcome (plan_of z) state
    unfolding outcome
    outcome_zero g x h r = sym (from_none Overflow _ (failed_tasks ms) f e q ∙ from_at Singular Good (zero_rows (plan_of z) m) g x h r)

    pub outcome_good : (g : Option ℕ) → g ≡ first_or (zero_rows (plan_of z) m) Some None → g ≡ None → Good ≡ outcome (plan_of z) state
    unfolding outcome
    outcome_good g h r = sym (from_none Overflow _ (failed_tasks ms) f e q ∙ from_none Singular Good (zero_rows (plan_of z) m) g h r)

-- the rows are below n, and the failed tasks among the records
pub zero_below : (z : Sizes) (m : List Float) (g : Option ℕ) (x : ℕ) → g ≡ first_or (zero_rows (plan_of z) m) Some None → g ≡ Some x → x < z.tiles * z.side
unfolding zero_rows order plan
zero_below z m g x e q = first_below _ (z.tiles * z.side) g x e q

pub failed_below : (ms : List ℕ) (g : Option ℕ) (p : ℕ) → g ≡ first_or (failed_tasks ms) Some None → g ≡ Some p → p < length ms
unfolding failed_tasks
failed_below ms g p e q = first_below _ (length ms) g p e q
