-- K2's old loops: what document 01 says of clashes, links, latest writers and the loops while a diagonal tile is one thing. Nothing that is called
-- uses them; P8 counts their links, and the loops are proved to be these.
-- Assumes nothing.
use Rattle.std.specs.Prelude.{ℕ, Bool, true, false, not, ◌&&◌, ◌||◌, List, [], ◌∷◌, ◌++◌, map, length, set, Float}
use Rattle.model.specs.Lists.{below, joined, some, keep, in_turn}
use Rattle.model.specs.Task.{Task, t_1, t_2, t_3, t_4, Place, A, list, among}
use Rattle.model.specs.Links.{task, between, mark, spoiled, broken}
use Rattle.model.specs.Plan.{Plan}
use Rattle.model.specs.Buffer.{Ended, filled}
use Rattle.model.specs.Loops.{State, columns, start, loops_open}

-- ---- what each task reads and writes: here A(k,k) is the whole diagonal tile

unfoldable pub old_reads : Task → List Place
old_reads (t_1 k) = A k k ∷ list k k ∷ []
old_reads (t_2 k j) = A k k ∷ list k k ∷ A k j ∷ []
old_reads (t_3 k i) = A k k ∷ A i k ∷ list i k ∷ []
old_reads (t_4 k i j) = A i k ∷ list i k ∷ A k j ∷ A i j ∷ []

unfoldable pub old_writes : Task → List Place
old_writes (t_1 k) = A k k ∷ list k k ∷ []
old_writes (t_2 k j) = A k j ∷ []
old_writes (t_3 k i) = A k k ∷ A i k ∷ list i k ∷ []
old_writes (t_4 k i j) = A k j ∷ A i j ∷ []

unfoldable pub old_touches : Task → List Place
old_touches a = old_reads a ++ old_writes a

-- ---- clash and link

unfoldable pub old_disturbs : Task → Task → Bool
old_disturbs a b = some (λ x. among x (old_touches b)) (old_writes a)

unfoldable pub old_clash : Task → Task → Bool
old_clash a b = old_disturbs a b || old_disturbs b a

unfoldable pub old_linked : List Task → ℕ → ℕ → Bool
old_linked ts p q =
    old_clash (task ts p) (task ts q)
    && not (some (λ r. old_clash (task ts p) (task ts r) && old_clash (task ts r) (task ts q)) (between p q))

unfoldable pub old_link_count : List Task → ℕ
old_link_count ts = length (joined (map (λ q. keep (λ p. old_linked ts p q) (below q)) (below (length ts))))

-- ---- the latest writer

unfoldable pub old_writer : List Task → Place → ℕ → Bool
old_writer ts x q = among x (old_writes (task ts q))

unfoldable pub old_latest_writer : List Task → Place → ℕ → ℕ → Bool
old_latest_writer ts x p q = old_writer ts x q && not (some (old_writer ts x) (between q p))

unfoldable pub old_latest_writers : List Task → ℕ → List ℕ
old_latest_writers ts p = keep (λ q. some (λ x. old_latest_writer ts x p q) (old_touches (task ts p))) (below p)

unfoldable pub old_spoils : List Task → List ℕ → ℕ → Bool
old_spoils ts ms p = some (λ q. broken (mark ms q)) (old_latest_writers ts p)

-- ---- the loops

module _ (z : Plan) where
  unfoldable pub old_ended : State → ℕ → Ended
  old_ended s p =
      let a = task z.tasks p in
      elim (old_spoils z.tasks s.marks p) [
        | true ↦ record { left = filled z a s.buffers; mark = spoiled; ties = 0 }
        | false ↦ columns z z.t 0 a s.buffers
      ]

  unfoldable pub old_performed : ℕ → State → State
  old_performed p s = let e = old_ended s p in record { buffers = e.left; marks = set s.marks p e.mark; ties = set s.ties p e.ties }

  unfoldable pub old_loops : List Float → State
  old_loops m = in_turn old_performed (below (length z.tasks)) (start z m)

unfoldable pub old_open : Unit {0}
unfolding loops_open old_reads old_writes old_touches old_disturbs old_clash old_linked old_link_count old_writer old_latest_writer old_latest_writers old_spoils old_ended old_performed old_loops
old_open = tt
