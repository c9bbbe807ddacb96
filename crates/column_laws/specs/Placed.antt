-- When a task and the list entries that it reads fit the sizes. Assumes nothing.
use Rattle.std.specs.Prelude.{ℕ, ◌+◌, ◌<◌, ◌≤◌, List, get_or}
use Rattle.model.specs.Task.{Task, t_1, t_2, t_3, t_4}
use Rattle.column_laws.specs.Steps.{list_start}

-- the task is one of an N by N system
abbrev pub Placed : ℕ → Task → Type 0
Placed N (t_1 k) = k < N
Placed N (t_2 k j) = (k < j) × (j < N)
Placed N (t_3 k i) = (k < i) × (i < N)
Placed N (t_4 k i j) = (k < i) × (i < N) × (k < j) × (j < N)

-- the list entries that the task reads are in range: below t on the diagonal, at most t below it
abbrev pub EntriesFit : ℕ → ℕ → Task → List ℕ → Type 0
EntriesFit N t (t_1 k) l = Unit {0}
EntriesFit N t (t_2 k j) l = (x : ℕ) → x < t → get_or l (list_start N t k k + x) 0 < t
EntriesFit N t (t_3 k i) l = Unit {0}
EntriesFit N t (t_4 k i j) l = (x : ℕ) → x < t → get_or l (list_start N t i k + x) 0 ≤ t
