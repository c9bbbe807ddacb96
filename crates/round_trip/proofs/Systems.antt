-- System files. What is written of a system is read back (system_read), and what was read from an accepted text is written with the same bytes (system_again).
-- Assumes nothing.
use mathlib.Core.Path.{◌≡◌, refl, sym, ap, ◌∙◌, subst}
use mathlib.Core.Bool.{Bool, false, not, ◌||◌}
use mathlib.Core.List.{List, [], ◌∷◌, ◌++◌, map}
use Prim.Native.Nat.{ℕ, ◌+◌, ◌*◌, ◌≤◌, ◌<◌}
use native.Mathlib.Nat.{mul-le-mul}
use native.Mathlib.Omega.{arith}
use lib.Dec.{eqb, ltb}
use lib.ListN.{length, get_or}
use lib.Seq.{take_all}
use lib.Ieee.{Float}
use borrow.Author.Tests.{eqb-true, le-ltb, not-false}
use Rattle.std.specs.Prelude.{Ok, Err}
use Rattle.model.specs.Answer.{Answer, accepted, refused_by}
use Rattle.model.specs.declared.Rule.TheVariants.{BadSizes, BadLengths, Malformed, WrongFrame, WrongEnd}
use Rattle.model.specs.declared.FileRead.TheVariants.{SystemRead}
use Rattle.model.specs.Lists.{joined}
use Rattle.model.specs.Plan.{plan}
use Rattle.model.specs.Buffer.{tile, tile_of}
use Rattle.model.specs.Refusal.{refuse}
use Rattle.model.specs.Text.{header_frame, tile_frame, system_text, bad_shape, bad_matrix}
use Rattle.model.specs.Read.{Frame, lines_from, kind_in, numbers_in, bad_line, lines_answer, tile_frames, system_frames, tiles_in, side_in, file_answer, tiles_of, no_limit, SystemReading, system_reading, read_system}
use Rattle.laws.proofs.Tests.{or_false_left}
use Rattle.laws.proofs.Blocks.{in_block}
use Rattle.laws.proofs.Texts.{length_tile_frames}
use Rattle.laws.proofs.Refusals.{passed, shape_range}
use Rattle.laws.proofs.Each.{Each, nil, cons}
use Rattle.round_trip.specs.Trips.{Matrix}
use Rattle.round_trip.proofs.Lines.{Line, Lines, none, more, joined_lines, lines_of}
use Rattle.round_trip.proofs.Grid.{grid, length_grid, grid_at}
use Rattle.round_trip.proofs.Checks.{Fine, frame, tile_line, tile_lined}
use Rattle.round_trip.proofs.Ends.{header_line, header_lined, header_kind, header_tiles, header_side, header_fine, header_again}
use Rattle.round_trip.proofs.Orders.{InOrder, in_order, accepted_lem}
use Rattle.round_trip.proofs.Tiles.{map_grid, joined_grid, each_grid, wide, before, before_none, before_step, tile_written, tile_read, tiles_read, tiles_again}

-- ---- the header's line

-- sizes in range
pub record Range (N t : ℕ) : Type 0 where
  pub tiles : N ≤ 16
  pub side : t ≤ 16

pub range : (N t : ℕ) → bad_shape N t ≡ false → Range N t
range N t e = let (n, s) = shape_range N t e in record { tiles = n.1; side = s.1 }

pub no_limit_lem : (N t : ℕ) → Range N t → ltb no_limit (N * t) ≡ false
no_limit_lem N t r = le-ltb 256 (N * t) (mul-le-mul r.tiles r.side)

module _ (limit : ℕ) (frames : ℕ → List Frame) (bad : ℕ → ℕ → Bool) where
  -- a header and the lines due after it
  pub file_accepted : (N t : ℕ) (ls : List (List ℕ)) → bad_shape N t ≡ false → ltb limit (N * t) ≡ false → bad N t ≡ false → lines_answer t 2 (frames N) ls ≡ accepted
      → file_answer limit frames bad (header_line N t ∷ ls) ≡ accepted
  unfolding file_answer refuse
  file_accepted N t ls a b c e =
      let r = range N t a in
      rw (header_fine N t, header_kind N t, header_tiles N t (omega (arith, r.tiles)), header_side N t (omega (arith, r.side)), a, b, c) e

  pub record Accepts (h : List ℕ) (ls : List (List ℕ)) : Type 0 where
    pub header : h ≡ header_line (tiles_in h) (side_in h)
    pub shape : bad_shape (tiles_in h) (side_in h) ≡ false
    pub lines : lines_answer (side_in h) 2 (frames (tiles_in h)) ls ≡ accepted

  pub file_accepts : (h : List ℕ) (ls : List (List ℕ)) → file_answer limit frames bad (h ∷ ls) ≡ accepted → Accepts h ls
  unfolding file_answer
  file_accepts h ls e =
      let N = tiles_in h in
      let t = side_in h in
      let r₄ = lines_answer t 2 (frames N) ls in
      let r₃ = refuse BadLengths 0 (bad N t) r₄ in
      let r₂ = refuse BadSizes 1 (bad_shape N t || ltb limit (N * t)) r₃ in
      let r₁ = refuse WrongFrame 1 (not (eqb (kind_in h) 1)) r₂ in
      let e₁ = passed Malformed 1 (bad_line 0 1 h) r₁ e in
      let e₂ = passed WrongFrame 1 (not (eqb (kind_in h) 1)) r₂ e₁.1 in
      let e₃ = passed BadSizes 1 (bad_shape N t || ltb limit (N * t)) r₃ e₂.1 in
      let e₄ = passed BadLengths 0 (bad N t) r₄ e₃.1 in
      record {
        header = header_again h e₁.0 (eqb-true (kind_in h) 1 (not-false (eqb (kind_in h) 1) e₂.0));
        shape = or_false_left (bad_shape N t) (ltb limit (N * t)) e₃.0;
        lines = e₄.1;
      }

-- ---- the text of a system

-- the lines of its tiles
abbrev pub tile_lines : ℕ → ℕ → List Float → List (List ℕ)
tile_lines N t m = grid (wide N) (λ i j. tile_line i j (tile N t m i j)) N

pub system_lines : (N t : ℕ) (m : List Float) (l : List ℕ) → system_text (plan N t) (record { matrix = m; lists = l }) ≡ header_line N t ++ joined (tile_lines N t m)
unfolding system_text header_frame tile_frame tile_of plan
system_lines N t m l = ap (λ (x : List ℕ). header_line N t ++ x) (sym (joined_grid (wide N) (λ i j. tile_line i j (tile N t m i j)) N))

pub lines_all : {ls : List (List ℕ)} → Each Line ls → Lines ls
lines_all nil = none
lines_all (cons w ws) = more w (lines_all ws)

pub tiles_lined : (N t : ℕ) (m : List Float) → Each Line (tile_lines N t m)
tiles_lined N t m = each_grid Line (wide N) (λ i j. tile_line i j (tile N t m i j)) N (λ i j hi hj. tile_lined i j (tile N t m i j))

pub tile_at_lem : (N t : ℕ) (m : List Float) (i j : ℕ) → i < N → j < N → get_or (tile_lines N t m) (i * N + j) [] ≡ tile_line i j (tile N t m i j)
tile_at_lem N t m i j hi hj = grid_at (wide N) (before N) (before_none N) (before_step N) (λ i j. tile_line i j (tile N t m i j)) N i j [] hi hj

pub length_tiles : (N t : ℕ) (m : List Float) → length (tile_lines N t m) ≡ N * N
length_tiles N t m = length_grid (wide N) (before N) (before_none N) (before_step N) (λ i j. tile_line i j (tile N t m i j)) N

-- ---- what is written is read back: for sizes in range, and n² numbers, each finite and one that binary64 holds

abbrev tile_text : ℕ → ℕ → List Float → Frame → List ℕ
tile_text N t m f = tile_line f.i f.j (tile N t m f.i f.j)

module _ (N t : ℕ) (m : List Float) (shape : bad_shape N t ≡ false) (w : Matrix N t m) where
  small : N < 256
  small = omega (arith, (range N t shape).tiles)

  tiles_fine : Each (λ f. Fine t f (tile_text N t m f)) (tile_frames N)
  unfolding tile_frames
  tiles_fine = each_grid (λ f. Fine t f (tile_text N t m f)) (wide N) (λ i j. frame 2 i j) N (λ i j hi hj. tile_written N t m w i j hi hj small)

  tile_texts : map (tile_text N t m) (tile_frames N) ≡ tile_lines N t m
  unfolding tile_frames
  tile_texts = map_grid (tile_text N t m) (wide N) (λ i j. frame 2 i j) N

  pub matrix_read : (ls : List (List ℕ)) → N * N ≤ length ls → ((i j : ℕ) → i < N → j < N → get_or ls (i * N + j) [] ≡ tile_line i j (tile N t m i j)) → tiles_of N t ls ≡ m
  matrix_read ls h is = tiles_read N t m w.long ls h (λ i j hi hj. ap (numbers_in t) (is i j hi hj) ∙ tile_read N t m w i j hi hj)

  pub system_read : (l : List ℕ) (m₀ : List Float) → bad_matrix N t m₀ ≡ false → read_system (system_text (plan N t) (record { matrix = m; lists = l })) m₀ ≡ record { answer = Ok (SystemRead N t); matrix = m }
  unfolding read_system system_reading joined system_frames
  system_read l m₀ b =
      let h = header_line N t in
      let ls = tile_lines N t m in
      let bad : ℕ → ℕ → Bool = λ N t. bad_matrix N t m₀ in
      let r = range N t shape in
      let cutted : lines_from [] (system_text (plan N t) (record { matrix = m; lists = l })) ≡ h ∷ ls =
      ap (lines_from []) (system_lines N t m l) ∙ lines_of (more (header_lined N t) (lines_all (tiles_lined N t m))) in
      let lines : lines_answer t 2 (tile_frames N) ls ≡ accepted = subst (λ (x : List (List ℕ)). lines_answer t 2 (tile_frames N) x ≡ accepted) tile_texts (accepted_lem t (tile_text N t m) 2 tiles_fine) in
      ap (λ (x : List (List ℕ)). system_reading (file_answer no_limit system_frames bad x) x m₀) cutted
      ∙ ap (λ (a : Answer). system_reading a (h ∷ ls) m₀) (file_accepted no_limit system_frames bad N t ls shape (no_limit_lem N t r) b lines)
      ∙ rw (header_tiles N t (omega (arith, r.tiles)), header_side N t (omega (arith, r.side)), matrix_read ls (omega (arith, length_tiles N t m)) (tile_at_lem N t m))

-- ---- an accepted text, written again, has the same bytes

-- the tiles among the lines that were accepted
pub tile_lines_fine : (N t : ℕ) (fs : List Frame) (ls : List (List ℕ)) → InOrder t fs ls → N * N ≤ length fs → ((i j : ℕ) (f : Frame) → i < N → j < N → get_or fs (i * N + j) f ≡ frame 2 i j)
    → (i j : ℕ) → i < N → j < N → Fine t (frame 2 i j) (get_or ls (i * N + j) [])
tile_lines_fine N t fs ls o h is i j hi hj =
    subst (λ (f : Frame). Fine t f (get_or ls (i * N + j) [])) (is i j (frame 2 0 0) hi hj) (o.fine (i * N + j) (frame 2 0 0) (omega (arith, in_block N N i j hi hj)))

pub frame_at : (N i j : ℕ) (f : Frame) → i < N → j < N → get_or (tile_frames N) (i * N + j) f ≡ frame 2 i j
unfolding tile_frames
frame_at N i j f hi hj = grid_at (wide N) (before N) (before_none N) (before_step N) (λ i j. frame 2 i j) N i j f hi hj

module _ (m₀ : List Float) where
  abbrev answer_of : List (List ℕ) → Answer
  answer_of ls = file_answer no_limit system_frames (λ N t. bad_matrix N t m₀) ls

  lines_back : (l : List ℕ) (h : List ℕ) (ls : List (List ℕ)) → answer_of (h ∷ ls) ≡ accepted
      → system_text (plan (tiles_in h) (side_in h)) (record { matrix = tiles_of (tiles_in h) (side_in h) ls; lists = l }) ≡ h ++ joined ls
  unfolding system_frames
  lines_back l h ls e =
      let N = tiles_in h in
      let t = side_in h in
      let a = file_accepts no_limit system_frames (λ N t. bad_matrix N t m₀) h ls e in
      let o = in_order t 2 (tile_frames N) ls a.lines in
      let long : length ls ≡ N * N = o.long ∙ length_tile_frames N in
      let again = tiles_again N t ls (omega arith) (tile_lines_fine N t (tile_frames N) ls o (omega (arith, length_tile_frames N)) (frame_at N)) in
      system_lines N t (tiles_of N t ls) l
      ∙ ap (λ (x : List ℕ). x ++ joined (tile_lines N t (tiles_of N t ls))) (sym a.header)
      ∙ ap (λ (x : List (List ℕ)). h ++ joined x) (sym again ∙ take_all (N * N) ls (omega arith))

  text_back : (l : List ℕ) (N t : ℕ) (m : List Float) (a : Answer) (ls : List (List ℕ)) → answer_of ls ≡ a → system_reading a ls m₀ ≡ record { answer = Ok (SystemRead N t); matrix = m }
      → system_text (plan N t) (record { matrix = m; lists = l }) ≡ joined ls
  unfolding system_reading joined
  text_back l N t m (Err why) ls e q = let p : Err why ≡ Ok (SystemRead N t) = ap (λ (r : SystemReading). r.answer) q in let z : ◌≡◌ {A = ℕ} 0 1 = cc in absurd (omega arith)
  text_back l N t m (Ok _) [] e q = let p : refused_by WrongEnd 1 ≡ Ok (SystemRead N t) = ap (λ (r : SystemReading). r.answer) q in let z : ◌≡◌ {A = ℕ} 0 1 = cc in absurd (omega arith)
  text_back l N t m (Ok _) (h ∷ ls) e q =
      let p : Ok (SystemRead (tiles_in h) (side_in h)) ≡ Ok (SystemRead N t) = ap (λ (r : SystemReading). r.answer) q in
      let eN : tiles_in h ≡ N = cc in
      let et : side_in h ≡ t = cc in
      let em : tiles_of (tiles_in h) (side_in h) ls ≡ m = ap (λ (r : SystemReading). r.matrix) q in
      rw (← em, ← eN, ← et) (lines_back l h ls e)

pub system_again : (text : List ℕ) (m₀ : List Float) (N t : ℕ) (m : List Float) (l : List ℕ) → read_system text m₀ ≡ record { answer = Ok (SystemRead N t); matrix = m }
    → system_text (plan N t) (record { matrix = m; lists = l }) ≡ text
unfolding read_system
system_again text m₀ N t m l q = text_back m₀ l N t m (answer_of m₀ (lines_from [] text)) (lines_from [] text) refl q ∙ joined_lines [] text
