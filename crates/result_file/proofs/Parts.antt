-- The three parts of an accepted result's text: its tiles, its lists and its outcome. Assumes nothing.
use Prim.Native.Nat.{ℕ, suc, ◌+◌, ◌-◌, ◌*◌, ◌≤◌, ◌<◌}
use mathlib.Core.Path.{◌≡◌, refl, sym, ap, ◌∙◌}
use mathlib.Core.List.{List, [], ◌∷◌, ◌++◌, map}
use native.Mathlib.Omega.{arith}
use lib.ListN.{length, get_or, drop, length-append, get_or-append}
use lib.Seq.{get_or-append-add}
use Rattle.laws.proofs.Blocks.{get_or_table}
use Rattle.laws.proofs.Runs.{length_below, length_map_below}
use Rattle.std.specs.Prelude.{Ok}
use Rattle.model.specs.Answer.{accepted}
use Rattle.model.specs.Lists.{below, table, joined}
use Rattle.model.specs.Read.{Frame, line_length, lines_from, tile_frames, list_frames, result_frames}
use Rattle.lines_read.specs.Line.{LineOfDigits}
use Rattle.lines_read.proofs.Tested.{line_of_digits}
use Rattle.cursors.specs.declared.Cursor.{Cursor}
use Rattle.frames_read.specs.Follow.{follow, row_frames, text_end}
use Rattle.cursors.proofs.Steps.{stepped}
use Rattle.frames_read.proofs.Rows.{follow_placed}
use Rattle.numbers_read.specs.Decoded.{line_at, tile_size}
use Rattle.entries_read.specs.Entries.{list_size, ListLine, above, ListLines}
use Rattle.system_checked.specs.Files.{start}
use Rattle.system_checked.proofs.Headers.{start_placed}
use Rattle.system_checked.proofs.Uniform.{AllKind, all_map, all_joined, Checked, step_line, step_next, Uniform, uniform}
use Rattle.system_checked.proofs.Held.{to_end, none_behind, split, tiles_end, lines_tiles}
use Rattle.result_loaded.specs.Results.{lists_start, outcome_text}
use Rattle.result_checked.proofs.Frames.{outcome_frame, follow_one}

-- ---- lists

-- the lists of row i with J up to the diagonal
abbrev list_row : ℕ → List Frame
list_row i = row_frames 3 (suc i) i

lists_kind : (N : ℕ) → AllKind 3 (list_frames N)
unfolding list_frames
lists_kind N = all_joined 3 list_row (below N) (λ i. all_map 3 (λ j. record { kind = 3; i = i; j = j }) (below (suc i)) (λ j. refl))

as_many : (is : List ℕ) → length (joined (map list_row is)) ≡ length (joined (map (λ r. below (suc r)) is))
unfolding joined
as_many [] = refl
as_many (i ∷ is) =
    let f : ℕ → Frame = λ j. record { kind = 3; i = i; j = j } in
    length-append (list_row i) (joined (map list_row is))
    ∙ omega (arith, as_many is, length_map_below f (suc i), length_below (suc i), length-append (below (suc i)) (joined (map (λ r. below (suc r)) is)))

lists_count : (N : ℕ) → length (list_frames N) ≡ above N
unfolding list_frames above
lists_count N = as_many (below N)

-- ---- the parts

pub record Parts (t N : ℕ) (text : List ℕ) : Type 0 where
  pub middle : Cursor
  pub last : Cursor
  pub to_lists : follow t text (tile_frames N) start ≡ Ok middle
  pub lists : Uniform t 3 text (list_frames N) middle last
  pub lists_in : last.at ≤ length text
  pub outcome_at : last.at + 9 ≡ length text
  pub outcome : Checked t 4 (line_at last.at 9 text)
  pub outcome_last : lines_from [] (drop last.at text) ≡ line_at last.at 9 text ∷ []

module _ (t N : ℕ) (text : List ℕ) (long : 7 ≤ length text) where
  pub parts : text_end text (follow t text (result_frames N) start) ≡ accepted → Parts t N text
  unfolding result_frames line_length
  parts e =
      let z = to_end t text (result_frames N) start e in
      let a = split t text (tile_frames N ++ list_frames N) (outcome_frame ∷ []) start z.end z.followed in
      let b = split t text (tile_frames N) (list_frames N) start a.middle a.before in
      let s = stepped t text outcome_frame a.middle z.end (sym (follow_one t N text outcome_frame a.middle) ∙ a.behind) in
      let p = follow_placed t text (tile_frames N ++ list_frames N) start a.middle (start_placed text long) a.before in
      let end_at : z.end.at ≡ a.middle.at + 9 = ap (λ (c : Cursor). c.at) s.next in
      let room : a.middle.at + 9 ≤ length text = omega (arith, s.room, p.within) in
      record {
        middle = b.middle;
        last = a.middle;
        to_lists = b.before;
        lists = uniform t text 3 (list_frames N) b.middle a.middle (lists_kind N) b.behind;
        lists_in = p.within;
        outcome_at = omega (arith, z.last);
        outcome = step_line t text outcome_frame a.middle z.end s;
        outcome_last = step_next t text outcome_frame a.middle z.end s ∙ ap (λ (ls : List (List ℕ)). line_at a.middle.at 9 text ∷ ls) (none_behind text z.end.at z.last);
      }

module _ (t N : ℕ) (text : List ℕ) (long : 7 ≤ length text) (p : Parts t N text) where
  pub middle_at : p.middle.at ≡ lists_start N t
  middle_at = tiles_end t N text start p.middle (start_placed text long) p.to_lists

  pub last_at : p.last.at ≡ lists_start N t + above N * list_size t
  unfolding line_length
  last_at = p.lists.ends ∙ ap (λ (n : ℕ). p.middle.at + n * list_size t) (lists_count N) ∙ ap (λ (a : ℕ). a + above N * list_size t) middle_at

  list_line_lem : (l : List ℕ) → Checked t 3 l → ListLine t l
  unfolding line_length
  list_line_lem l c = record { size = c.size; digits = line_of_digits l (omega (arith, c.size)) c.clean }

  pub list_lines : ListLines t (above N) (lists_start N t) text
  unfolding line_length
  list_lines = record {
    room = omega (arith, last_at, p.lists_in);
    each = λ q h. rw (← middle_at) (list_line_lem (line_at (p.middle.at + q * list_size t) (list_size t) text) (p.lists.each q (rw (lists_count N) h)));
  }

  pub outcome_digits : LineOfDigits (line_at p.last.at 9 text)
  unfolding line_length
  outcome_digits = line_of_digits (line_at p.last.at 9 text) (omega (arith, p.outcome.size)) p.outcome.clean

  -- the outcome's line is the last nine bytes
  pub outcome_text_lem : outcome_text text ≡ line_at p.last.at 9 text
  outcome_text_lem =
      let a : length text - 9 ≡ p.last.at = omega (arith, p.outcome_at) in
      let b : length text - (length text - 9) ≡ 9 = omega (arith, p.outcome_at) in
      ap (λ (k : ℕ). line_at (length text - 9) k text) b ∙ ap (λ (k : ℕ). line_at k 9 text) a

  -- ---- the lines after the header

  tile_at : ℕ → List ℕ
  tile_at q = line_at (7 + q * tile_size (t * t)) (tile_size (t * t)) text

  list_at : ℕ → List ℕ
  list_at q = line_at (lists_start N t + q * list_size t) (list_size t) text

  lines_are : lines_from [] (drop 7 text) ≡ map tile_at (below (N * N)) ++ (map list_at (below (above N)) ++ (line_at p.last.at 9 text ∷ []))
  unfolding line_length tile_at list_at
  lines_are =
      lines_tiles t N text start p.middle (start_placed text long) p.to_lists
      ∙ ap (λ (ls : List (List ℕ)). map tile_at (below (N * N)) ++ ls)
      (p.lists.lines
      ∙ ap (λ (n : ℕ). map (λ q. line_at (p.middle.at + q * list_size t) (list_size t) text) (below n) ++ lines_from [] (drop p.last.at text)) (lists_count N)
      ∙ ap (λ (a : ℕ). map (λ q. line_at (a + q * list_size t) (list_size t) text) (below (above N)) ++ lines_from [] (drop p.last.at text)) middle_at
      ∙ ap (λ (ls : List (List ℕ)). map list_at (below (above N)) ++ ls) p.outcome_last)

  pub list_at_lem : (q : ℕ) → q < above N → get_or (lines_from [] (drop 7 text)) (N * N + q) [] ≡ line_at (lists_start N t + q * list_size t) (list_size t) text
  unfolding table list_at
  list_at_lem q h =
      ap (λ (ls : List (List ℕ)). get_or ls (N * N + q) []) lines_are
      ∙ ap (λ (n : ℕ). get_or (map tile_at (below (N * N)) ++ (map list_at (below (above N)) ++ (line_at p.last.at 9 text ∷ []))) (n + q) []) (sym (length_map_below tile_at (N * N)))
      ∙ get_or-append-add (map tile_at (below (N * N))) (map list_at (below (above N)) ++ (line_at p.last.at 9 text ∷ [])) q []
      ∙ get_or-append (map list_at (below (above N))) (line_at p.last.at 9 text ∷ []) [] q (rw (length_map_below list_at (above N)) h)
      ∙ get_or_table (above N) list_at q [] h

  pub outcome_line_lem : get_or (lines_from [] (drop 7 text)) (N * N + (above N + 0)) [] ≡ line_at p.last.at 9 text
  outcome_line_lem =
      ap (λ (ls : List (List ℕ)). get_or ls (N * N + (above N + 0)) []) lines_are
      ∙ ap (λ (n : ℕ). get_or (map tile_at (below (N * N)) ++ (map list_at (below (above N)) ++ (line_at p.last.at 9 text ∷ []))) (n + (above N + 0)) []) (sym (length_map_below tile_at (N * N)))
      ∙ get_or-append-add (map tile_at (below (N * N))) (map list_at (below (above N)) ++ (line_at p.last.at 9 text ∷ [])) (above N + 0) []
      ∙ ap (λ (n : ℕ). get_or (map list_at (below (above N)) ++ (line_at p.last.at 9 text ∷ [])) (n + 0) []) (sym (length_map_below list_at (above N)))
      ∙ get_or-append-add (map list_at (below (above N))) (line_at p.last.at 9 text ∷ []) 0 []
