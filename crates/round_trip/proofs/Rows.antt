-- The row lists of a text: the lines that hold them, and the lists that are read from those lines. Assumes nothing.
use mathlib.Core.Path.{◌≡◌, refl, sym, ap, ◌∙◌}
use mathlib.Core.Logic.{⊎_elim}
use mathlib.Core.Bool.{Bool, true, false, cond}
use mathlib.Core.List.{List, [], map}
use Prim.Native.Nat.{ℕ, zero, suc, ◌+◌, ◌*◌, ◌≤◌, ◌<◌}
use native.Mathlib.Nat.{add-mul, mul_assoc, add_assoc}
use native.Mathlib.Omega.{arith}
use lib.Dec.{leb}
use lib.ListN.{length, get_or, drop, length-append, length-drop, length-take, length-replicate, replicate, get_or-eq_default}
use lib.Seq.{length-take-le, take_all, get_or-take, get_or-drop}
use borrow.Author.Tests.{le-leb, lt-leb}
use Rattle.model.specs.Lists.{run, below, joined, part}
use Rattle.model.specs.Buffer.{rows}
use Rattle.model.specs.Read.{entries_in, list_line, lists_of}
use Rattle.laws.proofs.Tests.{lt_or_le}
use Rattle.laws.proofs.Runs.{length_below, map_below, length_joined_below}
use Rattle.laws.proofs.Blocks.{row_end}
use Rattle.laws.proofs.Texts.{length_entries}
use Rattle.digits_written.proofs.Put.{joined_below}
use Rattle.round_trip.specs.Trips.{Lists}
use Rattle.round_trip.proofs.Grid.{grid, grid_is, part_part, piece, pieces, T_below}
use Rattle.round_trip.proofs.Checks.{Fine, frame, row_line, row_fine, entries_read, row_again}
use Rattle.round_trip.proofs.Tiles.{cell}

-- ---- the lists with I ≥ J: row i has i + 1 of them

abbrev pub rising : ℕ → ℕ
rising i = suc i

abbrev pub listed : ℕ → ℕ
listed i = length (joined (map (λ r. below (suc r)) (below i)))

pub listed_none : listed 0 ≡ 0
unfolding joined below run
listed_none = refl

pub listed_step : (i : ℕ) → listed (i + 1) ≡ listed i + rising i
unfolding below
listed_step i = ap length (joined_below (λ r. below (suc r)) i) ∙ length-append (joined (map (λ r. below (suc r)) (below i))) (below (suc i)) ∙ ap (λ (n : ℕ). listed i + n) (length_below (suc i))

get_or_run : (a n k d : ℕ) → k < n → get_or (run a n) k d ≡ a + k
unfolding run
get_or_run a zero k d h = absurd (omega arith)
get_or_run a (suc n) zero d h = omega arith
get_or_run a (suc n) (suc k) d h = get_or_run (suc a) n k d (omega arith) ∙ omega arith

get_or_below : (n k : ℕ) → k < n → get_or (below n) k 0 ≡ k
unfolding below
get_or_below n k h = get_or_run 0 n k 0 h ∙ omega arith

-- ---- N by N lists of t entries

-- list (i,j) in its row, and the row in the whole
in_row : (N t i j : ℕ) → (i * N + j) * t ≡ i * (N * t) + j * t
in_row N t i j = add-mul (i * N) j t ∙ ap (λ (k : ℕ). k + j * t) (mul_assoc i N t)

rows_part : (N t : ℕ) (l : List ℕ) (i j : ℕ) → i < N → j < N → length l ≡ N * (N * t) → rows N t l i j ≡ part (j * t) t (part (i * (N * t)) (N * t) l)
unfolding rows
rows_part N t l i j hi hj e =
    ap (λ (a : ℕ). part a t l) (in_row N t i j)
    ∙ sym (part_part (i * (N * t)) (j * t) t (N * t) l (row_end j N t hj) (omega (arith, row_end i N (N * t) hi)))

-- the lists of l joined are l
lists_joined : (N t : ℕ) (l : List ℕ) → length l ≡ N * (N * t) → joined (map (λ i. joined (map (rows N t l i) (below N))) (below N)) ≡ l
lists_joined N t l e =
    ap joined
    (map_below (λ i. joined (map (rows N t l i) (below N))) (λ i. part (i * (N * t)) (N * t) l) N
    (λ i hi.
    let r = part (i * (N * t)) (N * t) l in
    let long : length r ≡ N * t = length-take-le (N * t) (drop (i * (N * t)) l) (rw length-drop (omega (arith, row_end i N (N * t) hi))) in
    ap joined (map_below (rows N t l i) (λ j. part (j * t) t r) N (λ j hj. rows_part N t l i j hi hj e)) ∙ pieces t N r ∙ take_all (N * t) r (omega arith)))
    ∙ pieces (N * t) N l ∙ take_all (N * (N * t)) l (omega arith)

-- lists of t entries for each place, joined: list (i,j) is where it belongs
module _ (N t : ℕ) (f : ℕ → ℕ → List ℕ) (size : (i j : ℕ) → length (f i j) ≡ t) where
  abbrev whole : List ℕ
  whole = joined (map (λ i. joined (map (f i) (below N))) (below N))

  length_row : (i : ℕ) → length (joined (map (f i) (below N))) ≡ N * t
  length_row i = length_joined_below (f i) t N (λ j h. size i j)

  length_whole : length whole ≡ N * (N * t)
  length_whole = length_joined_below (λ i. joined (map (f i) (below N))) (N * t) N (λ i h. length_row i)

  list_of : (i j : ℕ) → i < N → j < N → rows N t whole i j ≡ f i j
  list_of i j hi hj =
      rows_part N t whole i j hi hj length_whole
      ∙ ap (part (j * t) t) (piece (λ i. joined (map (f i) (below N))) (N * t) length_row (below N) i 0 (rw length_below hi) ∙ ap (λ (k : ℕ). joined (map (f k) (below N))) (get_or_below N i hi))
      ∙ piece (f i) t (size i) (below N) j 0 (rw length_below hj) ∙ ap (f i) (get_or_below N j hj)

-- ---- what the lines of lists hold

-- what is read for list (i,j): above the diagonal 0
abbrev list_read : ℕ → ℕ → List (List ℕ) → ℕ → ℕ → List ℕ
list_read N t ls i j = cond (leb j i) (entries_in t (get_or ls (list_line N i j) [])) (replicate t 0)

length_read : (N t : ℕ) (ls : List (List ℕ)) (i j : ℕ) → length (list_read N t ls i j) ≡ t
length_read N t ls i j = go (leb j i)
  where
    go : (b : Bool) → length (cond b (entries_in t (get_or ls (list_line N i j) [])) (replicate t 0)) ≡ t
    go true = length_entries t (get_or ls (list_line N i j) [])
    go false = length-replicate t 0

small_part : (t a n : ℕ) (l : List ℕ) → ((k : ℕ) → get_or l k 0 ≤ t) → (k : ℕ) → get_or (part a n l) k 0 ≤ t
small_part t a n l h k =
    ⊎_elim (λ b. rw (get_or-take n (drop a l) k 0 b, get_or-drop a l k 0) (h (a + k)))
    (λ g. let b : n ≤ k = g in rw (get_or-eq_default (part a n l) 0 {n = k} (rw length-take (omega arith))) (omega arith))
    (lt_or_le k n)

module _ (N t : ℕ) (l : List ℕ) (w : Lists N t l) where
  row_small : (i j k : ℕ) → get_or (rows N t l i j) k 0 ≤ t
  unfolding rows
  row_small i j k = small_part t ((i * N + j) * t) t l w.small k

  length_list : (i j : ℕ) → i < N → j < N → length (rows N t l i j) ≡ t
  unfolding rows
  length_list i j hi hj = length-take-le t (drop ((i * N + j) * t) l) (rw length-drop (omega (arith, cell N t i j (length l) hi hj w.long)))

  pub row_written : (i j : ℕ) → i < N → j < N → N < 256 → t < 256 → Fine t (frame 3 i j) (row_line i j (rows N t l i j))
  row_written i j hi hj hN ht = row_fine t i j (rows N t l i j) (length_list i j hi hj) (omega arith) (omega arith) ht (row_small i j)

  pub row_read : (i j : ℕ) → i < N → j < N → t < 256 → entries_in t (row_line i j (rows N t l i j)) ≡ rows N t l i j
  row_read i j hi hj ht = entries_read t i j (rows N t l i j) (length_list i j hi hj) (λ k. omega (arith, row_small i j k))

  -- lines that hold the lists of l are read as l
  pub lists_read : (ls : List (List ℕ)) → ((i j : ℕ) → i < N → j ≤ i → entries_in t (get_or ls (list_line N i j) []) ≡ rows N t l i j) → lists_of N t ls ≡ l
  unfolding lists_of
  lists_read ls is =
      ap joined
      (map_below (λ i. joined (map (list_read N t ls i) (below N))) (λ i. joined (map (rows N t l i) (below N))) N
      (λ i hi. ap joined (map_below (list_read N t ls i) (rows N t l i) N
      (λ j hj. ⊎_elim
      (λ b. let a : i < j = b in rw (lt-leb j i a) (sym (w.above i j a hj)))
      (λ b. let a : j ≤ i = b in rw (le-leb j i a) (is i j hi a))
      (lt_or_le i j)))))
      ∙ lists_joined N t l (w.long ∙ mul_assoc N N t)

-- lines that are accepted as lists are the lines of what was read
pub rows_again : (N t : ℕ) (ls : List (List ℕ)) → N * N + listed N ≤ length ls → ((i j : ℕ) → i < N → j ≤ i → Fine t (frame 3 i j) (get_or ls (list_line N i j) []))
    → part (N * N) (listed N) ls ≡ grid rising (λ i j. row_line i j (rows N t (lists_of N t ls) i j)) N
unfolding lists_of list_line
rows_again N t ls h fine =
    grid_is rising listed listed_none listed_step (λ i j. row_line i j (rows N t (lists_of N t ls) i j)) N (part (N * N) (listed N) ls) []
    (length-take-le (listed N) (drop (N * N) ls) (rw length-drop (omega arith)))
    (λ i j hi hj.
    get_or-take (listed N) (drop (N * N) ls) (listed i + j) [] (omega (arith, T_below rising listed listed_none listed_step N i hi))
    ∙ get_or-drop (N * N) ls (listed i + j) [] ∙ ap (λ (k : ℕ). get_or ls k []) (sym (add_assoc (N * N) (listed i) j))
    ∙ row_again t i j (get_or ls (N * N + listed i + j) []) (fine i j hi (omega arith))
    ∙ ap (row_line i j)
    (sym (list_of N t (list_read N t ls) (length_read N t ls) i j hi (omega arith)
    ∙ ap (λ (b : Bool). cond b (entries_in t (get_or ls (N * N + listed i + j) [])) (replicate t 0)) (le-leb j i (omega arith)))))
