-- What a contract states of files: reading and writing undo each other. Assumes nothing.
use Rattle.std.specs.Prelude.{Ok, ℕ, ◌*◌, ◌<◌, ◌≤◌, ◌≡◌, true, false, List, T, Float, length, get_or, replicate}
use Rattle.std.specs.Float.{nan, binary64}
use Rattle.std.specs.Float.Ieee.{fits}
use Rattle.model.specs.declared.Outcome.{Outcome}
use Rattle.model.specs.declared.FileRead.TheVariants.{SystemRead, ResultRead}
use Rattle.model.specs.Tile.{all_finite}
use Rattle.model.specs.Plan.{plan}
use Rattle.model.specs.Buffer.{rows}
use Rattle.model.specs.Loops.{outcome_place}
use Rattle.model.specs.Text.{system_text, result_text, bad_shape, bad_matrix, bad_lists}
use Rattle.model.specs.Read.{read_system, read_result}

-- ---- what is read back as it was written

-- every number is one that binary64 holds; after the end a NaN is read, which it holds too
abbrev pub Held : List Float → Type 0
Held xs = (k : ℕ) → T (fits binary64 (get_or xs k nan))

-- a matrix of n² finite numbers: others are written, and refused with 3 when they are read
pub record Matrix (N t : ℕ) (m : List Float) : Type 0 where
  pub long : length m ≡ N * N * (t * t)
  pub held : Held m
  pub finite_all : all_finite m ≡ true

-- lists with entries up to t, and with 0 above the diagonal, which no file has: an entry above t is written, and refused with 12 when it is read
pub record Lists (N t : ℕ) (l : List ℕ) : Type 0 where
  pub long : length l ≡ N * N * t
  pub small : (k : ℕ) → get_or l k 0 ≤ t
  pub above : (i j : ℕ) → i < j → j < N → rows N t l i j ≡ replicate t 0

-- a matrix and lists to read into
pub record Lendable (N t : ℕ) (m₀ : List Float) (l₀ : List ℕ) : Type 0 where
  pub matrix : bad_matrix N t m₀ ≡ false
  pub lists : bad_lists N t l₀ ≡ false

-- ---- the promise

pub record RoundTrips (N t : ℕ) : Type 0 where
  -- what is written is read back
  pub system_read : bad_shape N t ≡ false → (m : List Float) (l : List ℕ) → Matrix N t m → (m₀ : List Float) → bad_matrix N t m₀ ≡ false
      → read_system (system_text (plan N t) (record { matrix = m; lists = l })) m₀ ≡ record { answer = Ok (SystemRead N t); matrix = m }
  pub result_read : bad_shape N t ≡ false → (m : List Float) (l : List ℕ) (o : Outcome) → Matrix N t m → Lists N t l → outcome_place o < 65536 → (m₀ : List Float) (l₀ : List ℕ) → Lendable N t m₀ l₀
      → read_result (result_text (plan N t) (record { matrix = m; lists = l }) o) m₀ l₀ ≡ record { answer = Ok (ResultRead N t o); matrix = m; lists = l }
  -- an accepted text, written again, has the same bytes
  pub system_again : (text : List ℕ) (m₀ m : List Float) (l : List ℕ) → read_system text m₀ ≡ record { answer = Ok (SystemRead N t); matrix = m }
      → system_text (plan N t) (record { matrix = m; lists = l }) ≡ text
  pub result_again : (text : List ℕ) (m₀ : List Float) (l₀ : List ℕ) (o : Outcome) (m : List Float) (l : List ℕ)
      → read_result text m₀ l₀ ≡ record { answer = Ok (ResultRead N t o); matrix = m; lists = l } → result_text (plan N t) (record { matrix = m; lists = l }) o ≡ text
