-- Result files. What is written of a result is read back (result_read), and what was read from an accepted text is written with the same bytes (result_again).
-- Assumes nothing.
use mathlib.Core.Path.{◌≡◌, refl, sym, ap, ◌∙◌, subst}
use mathlib.Core.Bool.{Bool, false, cond, ◌||◌}
use mathlib.Core.List.{List, [], ◌∷◌, ◌++◌, map, append_assoc, append-nil, map-append}
use Prim.Native.Nat.{ℕ, suc, ◌+◌, ◌*◌, ◌≤◌, ◌<◌}
use native.Mathlib.Nat.{add_assoc, add-zero}
use native.Mathlib.Omega.{arith}
use lib.Dec.{eqb}
use lib.ListN.{length, get_or, take, drop, length-append, get_or-append, take-append-drop}
use lib.Seq.{get_or-append-add, get_or-append_seam, take-add, drop-cons, drop-length}
use lib.Ieee.{Float}
use Rattle.model.specs.declared.Outcome.{Outcome}
use Rattle.std.specs.Prelude.{Ok, Err}
use Rattle.model.specs.Answer.{Answer, accepted, refused_by}
use Rattle.model.specs.declared.Rule.TheVariants.{WrongEnd}
use Rattle.model.specs.declared.FileRead.TheVariants.{ResultRead}
use Rattle.model.specs.Lists.{below, joined, part}
use Rattle.model.specs.Loops.{outcome_place}
use Rattle.model.specs.Plan.{plan}
use Rattle.model.specs.Buffer.{tile, rows, rows_of}
use Rattle.model.specs.Text.{list_frame, outcome_frame, result_text, bad_shape, bad_matrix, bad_lists}
use Rattle.model.specs.Read.{Frame, lines_from, entries_in, outcome_in, lines_answer, tile_frames, list_frames, result_frames, tiles_in, side_in, file_answer, tiles_of, list_line, lists_of, outcome_line, no_limit, ResultReading, result_reading, read_result}
use Rattle.laws.proofs.Blocks.{in_block}
use Rattle.laws.proofs.Runs.{joined_append}
use Rattle.laws.proofs.Texts.{length_tile_frames}
use Rattle.laws.proofs.Each.{Each, nil, cons, each_append}
use Rattle.round_trip.specs.Trips.{Matrix, Lists}
use Rattle.round_trip.proofs.Lines.{Line, more, joined_lines, lines_of}
use Rattle.round_trip.proofs.Grid.{grid, length_grid, grid_at, T_below}
use Rattle.round_trip.proofs.Checks.{Fine, frame, tile_line, row_line, row_lined}
use Rattle.round_trip.proofs.Ends.{header_line, header_lined, header_tiles, header_side, outcome_lined, outcome_fine, outcome_read, outcome_again}
use Rattle.round_trip.proofs.Orders.{in_order, accepted_lem}
use Rattle.round_trip.proofs.Tiles.{map_grid, joined_grid, each_grid, tile_written, tiles_again, wide}
use Rattle.round_trip.proofs.Rows.{rising, listed, listed_none, listed_step, row_written, row_read, lists_read, rows_again}
use Rattle.round_trip.proofs.Systems.{range, no_limit_lem, file_accepted, file_accepts, system_lines, lines_all, tiles_lined, tile_lines, tile_at_lem, length_tiles, matrix_read, tile_lines_fine, frame_at}

-- ---- two lists and one more element

module _ {A : Type 0} (xs ys : List A) (z d : A) where
  at_first : (k : ℕ) → k < length xs → get_or (xs ++ ys ++ z ∷ []) k d ≡ get_or xs k d
  at_first k h = get_or-append (xs ++ ys) (z ∷ []) d k (rw length-append (omega arith)) ∙ get_or-append xs ys d k h

  at_second : (n k : ℕ) → length xs ≡ n → k < length ys → get_or (xs ++ ys ++ z ∷ []) (n + k) d ≡ get_or ys k d
  at_second n k e h =
      get_or-append (xs ++ ys) (z ∷ []) d (n + k) (rw length-append (omega arith))
      ∙ subst (λ (a : ℕ). get_or (xs ++ ys) (a + k) d ≡ get_or ys k d) e (get_or-append-add xs ys k d)

  at_last : (n k : ℕ) → length xs ≡ n → length ys ≡ k → get_or (xs ++ ys ++ z ∷ []) (n + k) d ≡ z
  at_last n k e h =
      let l : length (xs ++ ys) ≡ n + k = length-append xs ys ∙ omega arith in
      subst (λ (a : ℕ). get_or (xs ++ ys ++ z ∷ []) a d ≡ z) l (get_or-append_seam (xs ++ ys) z [] d)

-- ---- the text of a result

abbrev row_lines : ℕ → ℕ → List ℕ → List (List ℕ)
row_lines N t l = grid rising (λ i j. row_line i j (rows N t l i j)) N

abbrev result_lines : ℕ → ℕ → List Float → List ℕ → Outcome → List (List ℕ)
result_lines N t m l o = tile_lines N t m ++ row_lines N t l ++ outcome_frame o ∷ []

result_lines_lem : (N t : ℕ) (m : List Float) (l : List ℕ) (o : Outcome) → result_text (plan N t) (record { matrix = m; lists = l }) o ≡ header_line N t ++ joined (result_lines N t m l o)
unfolding result_text list_frame rows_of plan joined
result_lines_lem N t m l o =
    let a = joined (tile_lines N t m) in
    let b = joined (row_lines N t l) in
    let x = outcome_frame o in
    let regroup : header_line N t ++ a ++ b ++ (x ++ []) ≡ header_line N t ++ (a ++ (b ++ (x ++ []))) = simp append_assoc in
    ap (λ (y : List ℕ). y ++ joined (map (λ i. joined (map (λ j. row_line i j (rows N t l i j)) (below (suc i)))) (below N)) ++ x) (system_lines N t m l)
    ∙ ap (λ (y : List ℕ). header_line N t ++ a ++ y ++ x) (sym (joined_grid rising (λ i j. row_line i j (rows N t l i j)) N))
    ∙ ap (λ (y : List ℕ). header_line N t ++ a ++ b ++ y) (sym (append-nil x))
    ∙ regroup
    ∙ sym (ap (λ (y : List ℕ). header_line N t ++ y) (joined_append (tile_lines N t m ++ row_lines N t l) (x ∷ []) ∙ ap (λ (y : List ℕ). y ++ (x ++ [])) (joined_append (tile_lines N t m) (row_lines N t l)) ∙ append_assoc a b (x ++ [])))

length_lists : (N t : ℕ) (l : List ℕ) → length (row_lines N t l) ≡ listed N
length_lists N t l = length_grid rising listed listed_none listed_step (λ i j. row_line i j (rows N t l i j)) N

list_at_lem : (N t : ℕ) (l : List ℕ) (i j : ℕ) → i < N → j ≤ i → get_or (row_lines N t l) (listed i + j) [] ≡ row_line i j (rows N t l i j)
list_at_lem N t l i j hi hj = grid_at rising listed listed_none listed_step (λ i j. row_line i j (rows N t l i j)) N i j [] hi (omega arith)

-- ---- what is written is read back: for a matrix as in a system, lists of entries up to t with 0 above the diagonal, and an outcome whose place has four digits

module _ (N t : ℕ) (m : List Float) (l : List ℕ) (o : Outcome) (shape : bad_shape N t ≡ false) (wm : Matrix N t m) (wl : Lists N t l) (place : outcome_place o < 65536) where
  abbrev row_text : Frame → List ℕ
  row_text f = row_line f.i f.j (rows N t l f.i f.j)

  abbrev text : Frame → List ℕ
  text f = cond (eqb f.kind 2) (tile_line f.i f.j (tile N t m f.i f.j)) (cond (eqb f.kind 3) (row_text f) (outcome_frame o))

  abbrev ls : List (List ℕ)
  ls = result_lines N t m l o

  small_N : N < 256
  small_N = omega (arith, (range N t shape).tiles)

  small_t : t < 256
  small_t = omega (arith, (range N t shape).side)

  all_fine : Each (λ f. Fine t f (text f)) (result_frames N)
  unfolding result_frames list_frames tile_frames
  all_fine =
      each_append (λ f. Fine t f (text f))
      (each_append (λ f. Fine t f (text f)) (each_grid (λ f. Fine t f (text f)) (wide N) (λ i j. frame 2 i j) N (λ i j hi hj. tile_written N t m wm i j hi hj small_N))
      (each_grid (λ f. Fine t f (text f)) rising (λ i j. frame 3 i j) N (λ i j hi hj. row_written N t l wl i j hi (omega arith) small_N small_t)))
      (cons (outcome_fine o place t) nil)

  texts : map text (result_frames N) ≡ ls
  unfolding result_frames list_frames tile_frames
  texts =
      let a = tile_frames N in
      let b = list_frames N in
      map-append text (a ++ b) (frame 4 0 0 ∷ [])
      ∙ ap (λ (x : List (List ℕ)). x ++ outcome_frame o ∷ [])
      (map-append text a b ∙ ap (λ (x : List (List ℕ)). x ++ map text b) (map_grid text (wide N) (λ i j. frame 2 i j) N)
      ∙ ap (λ (x : List (List ℕ)). tile_lines N t m ++ x) (map_grid text rising (λ i j. frame 3 i j) N))

  tile_there : (i j : ℕ) → i < N → j < N → get_or ls (i * N + j) [] ≡ tile_line i j (tile N t m i j)
  tile_there i j hi hj = at_first (tile_lines N t m) (row_lines N t l) (outcome_frame o) [] (i * N + j) (rw length_tiles (in_block N N i j hi hj)) ∙ tile_at_lem N t m i j hi hj

  list_there : (i j : ℕ) → i < N → j ≤ i → get_or ls (list_line N i j) [] ≡ row_line i j (rows N t l i j)
  unfolding list_line
  list_there i j hi hj =
      ap (λ (k : ℕ). get_or ls k []) (add_assoc (N * N) (listed i) j)
      ∙ at_second (tile_lines N t m) (row_lines N t l) (outcome_frame o) [] (N * N) (listed i + j) (length_tiles N t m) (omega (arith, length_lists N t l, T_below rising listed listed_none listed_step N i hi))
      ∙ list_at_lem N t l i j hi hj

  outcome_there : get_or ls (outcome_line N) [] ≡ outcome_frame o
  unfolding outcome_line list_line
  outcome_there =
      ap (λ (k : ℕ). get_or ls k []) (add-zero (N * N + listed N))
      ∙ at_last (tile_lines N t m) (row_lines N t l) (outcome_frame o) [] (N * N) (listed N) (length_tiles N t m) (length_lists N t l)

  pub result_read : (m₀ : List Float) (l₀ : List ℕ) → bad_matrix N t m₀ ≡ false → bad_lists N t l₀ ≡ false
      → read_result (result_text (plan N t) (record { matrix = m; lists = l }) o) m₀ l₀ ≡ record { answer = Ok (ResultRead N t o); matrix = m; lists = l }
  unfolding read_result result_reading joined
  result_read m₀ l₀ bm bl =
      let h = header_line N t in
      let bad : ℕ → ℕ → Bool = λ N t. bad_matrix N t m₀ || bad_lists N t l₀ in
      let r = range N t shape in
      let right : bad N t ≡ false = rw (bm, bl) in
      let lined : Each Line ls = each_append Line (each_append Line (tiles_lined N t m) (each_grid Line rising (λ i j. row_line i j (rows N t l i j)) N (λ i j hi hj. row_lined i j (rows N t l i j)))) (cons (outcome_lined o) nil) in
      let cutted : lines_from [] (result_text (plan N t) (record { matrix = m; lists = l }) o) ≡ h ∷ ls =
      ap (lines_from []) (result_lines_lem N t m l o) ∙ lines_of (more (header_lined N t) (lines_all lined)) in
      let lines : lines_answer t 2 (result_frames N) ls ≡ accepted = subst (λ (x : List (List ℕ)). lines_answer t 2 (result_frames N) x ≡ accepted) texts (accepted_lem t text 2 all_fine) in
      ap (λ (x : List (List ℕ)). result_reading (file_answer no_limit result_frames bad x) x m₀ l₀) cutted
      ∙ ap (λ (a : Answer). result_reading a (h ∷ ls) m₀ l₀) (file_accepted no_limit result_frames bad N t ls shape (no_limit_lem N t r) right lines)
      ∙ rw (header_tiles N t small_N, header_side N t small_t, outcome_there, outcome_read o place, matrix_read N t m shape wm ls (rw (length-append, length-append) (omega (arith, length_tiles N t m))) tile_there, lists_read N t l wl ls (λ i j hi hj. ap (entries_in t) (list_there i j hi hj) ∙ row_read N t l wl i j hi (omega arith) small_t))

-- ---- an accepted text, written again, has the same bytes

length_list_frames : (N : ℕ) → length (list_frames N) ≡ listed N
unfolding list_frames
length_list_frames N = length_grid rising listed listed_none listed_step (λ i j. frame 3 i j) N

length_result_frames : (N : ℕ) → length (result_frames N) ≡ N * N + listed N + 1
unfolding result_frames
length_result_frames N =
    length-append (tile_frames N ++ list_frames N) (frame 4 0 0 ∷ []) ∙ omega (arith, length-append (tile_frames N) (list_frames N), length_tile_frames N, length_list_frames N)

module _ (N : ℕ) (f : Frame) where
  tile_due : (i j : ℕ) → i < N → j < N → get_or (result_frames N) (i * N + j) f ≡ frame 2 i j
  unfolding result_frames
  tile_due i j hi hj = at_first (tile_frames N) (list_frames N) (frame 4 0 0) f (i * N + j) (rw length_tile_frames (in_block N N i j hi hj)) ∙ frame_at N i j f hi hj

  list_due : (i j : ℕ) → i < N → j ≤ i → get_or (result_frames N) (list_line N i j) f ≡ frame 3 i j
  unfolding result_frames list_line list_frames
  list_due i j hi hj =
      ap (λ (k : ℕ). get_or (tile_frames N ++ list_frames N ++ frame 4 0 0 ∷ []) k f) (add_assoc (N * N) (listed i) j)
      ∙ at_second (tile_frames N) (list_frames N) (frame 4 0 0) f (N * N) (listed i + j) (length_tile_frames N)
      (omega (arith, length_list_frames N, T_below rising listed listed_none listed_step N i hi))
      ∙ grid_at rising listed listed_none listed_step (λ i j. frame 3 i j) N i j f hi (omega arith)

  outcome_due : get_or (result_frames N) (outcome_line N) f ≡ frame 4 0 0
  unfolding result_frames outcome_line list_line
  outcome_due =
      ap (λ (k : ℕ). get_or (tile_frames N ++ list_frames N ++ frame 4 0 0 ∷ []) k f) (add-zero (N * N + listed N))
      ∙ at_last (tile_frames N) (list_frames N) (frame 4 0 0) f (N * N) (listed N) (length_tile_frames N) (length_list_frames N)

-- a list cut after a, after b more, and before the last
in_three : (a b : ℕ) (xs : List (List ℕ)) → length xs ≡ a + b + 1 → xs ≡ take a xs ++ part a b xs ++ get_or xs (a + b) [] ∷ []
in_three a b xs e =
    let s : suc (a + b) ≡ length xs = omega arith in
    sym (take-append-drop (a + b) xs) ∙ ap (λ (y : List (List ℕ)). y ++ drop (a + b) xs) (take-add a b xs)
    ∙ ap (λ (y : List (List ℕ)). take a xs ++ part a b xs ++ y)
    (drop-cons xs (a + b) [] (omega arith) ∙ ap (λ (n : ℕ). get_or xs (a + b) [] ∷ drop n xs) s ∙ ap (λ (y : List (List ℕ)). get_or xs (a + b) [] ∷ y) (drop-length xs))

last_line_lem : (N : ℕ) → outcome_line N ≡ N * N + listed N
unfolding outcome_line list_line
last_line_lem N = add-zero (N * N + listed N)

list_before : (N i j : ℕ) → i < N → j ≤ i → list_line N i j < N * N + listed N
unfolding list_line
list_before N i j hi hj = omega (arith, T_below rising listed listed_none listed_step N i hi)

module _ (m₀ : List Float) (l₀ : List ℕ) where
  abbrev answer_of : List (List ℕ) → Answer
  answer_of ls = file_answer no_limit result_frames (λ N t. bad_matrix N t m₀ || bad_lists N t l₀) ls

  lines_back : (h : List ℕ) (ls : List (List ℕ)) → answer_of (h ∷ ls) ≡ accepted
      → result_text (plan (tiles_in h) (side_in h)) (record { matrix = tiles_of (tiles_in h) (side_in h) ls; lists = lists_of (tiles_in h) (side_in h) ls }) (outcome_in (get_or ls (outcome_line (tiles_in h)) [])) ≡ h ++ joined ls
  lines_back h ls e =
      let N = tiles_in h in
      let t = side_in h in
      let a = file_accepts no_limit result_frames (λ N t. bad_matrix N t m₀ || bad_lists N t l₀) h ls e in
      let o = in_order t 2 (result_frames N) ls a.lines in
      let long : length ls ≡ N * N + listed N + 1 = o.long ∙ length_result_frames N in
      let last-is : outcome_line N ≡ N * N + listed N = last_line_lem N in
      let tiles = tiles_again N t ls (omega arith) (tile_lines_fine N t (result_frames N) ls o (omega (arith, length_result_frames N)) (λ i j f hi hj. tile_due N f i j hi hj)) in
      let lists = rows_again N t ls (omega arith)
      (λ i j hi hj. subst (λ (f : Frame). Fine t f (get_or ls (list_line N i j) [])) (list_due N (frame 4 0 0) i j hi hj) (o.fine (list_line N i j) (frame 4 0 0) (omega (arith, length_result_frames N, list_before N i j hi hj)))) in
      let last : Fine t (frame 4 0 0) (get_or ls (outcome_line N) []) =
      subst (λ (f : Frame). Fine t f (get_or ls (outcome_line N) [])) (outcome_due N (frame 4 0 0)) (o.fine (outcome_line N) (frame 4 0 0) (omega (arith, length_result_frames N))) in
      result_lines_lem N t (tiles_of N t ls) (lists_of N t ls) (outcome_in (get_or ls (outcome_line N) []))
      ∙ ap (λ (x : List ℕ). x ++ joined (result_lines N t (tiles_of N t ls) (lists_of N t ls) (outcome_in (get_or ls (outcome_line N) [])))) (sym a.header)
      ∙ ap (λ (x : List (List ℕ)). h ++ joined x)
      (ap (λ (x : List (List ℕ)). x ++ row_lines N t (lists_of N t ls) ++ outcome_frame (outcome_in (get_or ls (outcome_line N) [])) ∷ []) (sym tiles)
      ∙ ap (λ (x : List (List ℕ)). take (N * N) ls ++ x ++ outcome_frame (outcome_in (get_or ls (outcome_line N) [])) ∷ []) (sym lists)
      ∙ ap (λ (x : List ℕ). take (N * N) ls ++ part (N * N) (listed N) ls ++ x ∷ []) (sym (outcome_again t (get_or ls (outcome_line N) []) last) ∙ ap (λ (k : ℕ). get_or ls k []) last-is)
      ∙ sym (in_three (N * N) (listed N) ls long))

  text_back : (N t : ℕ) (m : List Float) (l : List ℕ) (o : Outcome) (a : Answer) (ls : List (List ℕ)) → answer_of ls ≡ a → result_reading a ls m₀ l₀ ≡ record { answer = Ok (ResultRead N t o); matrix = m; lists = l }
      → result_text (plan N t) (record { matrix = m; lists = l }) o ≡ joined ls
  unfolding result_reading joined
  text_back N t m l o (Err why) ls e q = let p : Err why ≡ Ok (ResultRead N t o) = ap (λ (r : ResultReading). r.answer) q in let z : ◌≡◌ {A = ℕ} 0 1 = cc in absurd (omega arith)
  text_back N t m l o (Ok _) [] e q = let p : refused_by WrongEnd 1 ≡ Ok (ResultRead N t o) = ap (λ (r : ResultReading). r.answer) q in let z : ◌≡◌ {A = ℕ} 0 1 = cc in absurd (omega arith)
  text_back N t m l o (Ok _) (h ∷ ls) e q =
      let p : Ok (ResultRead (tiles_in h) (side_in h) (outcome_in (get_or ls (outcome_line (tiles_in h)) []))) ≡ Ok (ResultRead N t o) = ap (λ (r : ResultReading). r.answer) q in
      let eN : tiles_in h ≡ N = cc in
      let et : side_in h ≡ t = cc in
      let eo : outcome_in (get_or ls (outcome_line (tiles_in h)) []) ≡ o = cc in
      let em : tiles_of (tiles_in h) (side_in h) ls ≡ m = ap (λ (r : ResultReading). r.matrix) q in
      let el : lists_of (tiles_in h) (side_in h) ls ≡ l = ap (λ (r : ResultReading). r.lists) q in
      rw (← em, ← el, ← eo, ← eN, ← et) (lines_back h ls e)

pub result_again : (text : List ℕ) (m₀ : List Float) (l₀ : List ℕ) (N t : ℕ) (o : Outcome) (m : List Float) (l : List ℕ)
    → read_result text m₀ l₀ ≡ record { answer = Ok (ResultRead N t o); matrix = m; lists = l } → result_text (plan N t) (record { matrix = m; lists = l }) o ≡ text
unfolding read_result
result_again text m₀ l₀ N t o m l q = text_back m₀ l₀ N t m l o (answer_of m₀ l₀ (lines_from [] text)) (lines_from [] text) refl q ∙ joined_lines [] text
