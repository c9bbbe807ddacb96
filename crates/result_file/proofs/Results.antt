-- Reading a result by its header, its lengths and its frames is reading it by the definition. Assumes nothing.
use Prim.Native.Nat.{ℕ, ◌+◌, ◌*◌, ◌≤◌, ◌<◌}
use mathlib.Core.Path.{◌≡◌, refl, sym, ap, ◌∙◌}
use mathlib.Core.Bool.{Bool, true, false, cond, ◌||◌}
use mathlib.Core.List.{List, []}
use native.Mathlib.Nat.{mul_assoc, add_assoc}
use native.Mathlib.Omega.{arith}
use lib.Dec.{leb}
use lib.ListN.{length, get_or, drop, replicate}
use lib.Ieee.{Float}
use borrow.Author.Tests.{eq-eqb, ne_eqb, leb-true}
use Rattle.std.specs.Prelude.{Ok, Err}
use Rattle.model.specs.Answer.{accepted, refusal, refused_by}
use Rattle.model.specs.declared.Refusal.{Refusal}
use Rattle.model.specs.declared.Rule.TheVariants.{BadLengths}
use Rattle.model.specs.declared.FileRead.TheVariants.{ResultRead}
use Rattle.model.specs.Lists.{joined}
use Rattle.model.specs.Refusal.{refuse}
use Rattle.model.specs.Text.{bad_matrix, bad_lists}
use Rattle.model.specs.Read.{lines_from, result_frames, file_answer, entries_in, outcome_in, list_line, lists_of, outcome_line, result_reading, no_limit, read_result}
use Rattle.laws.proofs.Refusals.{right_matrix, wrong_matrix}
use Rattle.laws.proofs.Runs.{map_below}
use Rattle.frames_read.specs.Follow.{follow, text_end}
use Rattle.header_read.specs.Heads.{header_answer}
use Rattle.numbers_read.specs.Decoded.{line_at}
use Rattle.entries_read.specs.Entries.{list_size, above, list_from, row_from, lists_from}
use Rattle.entries_read.proofs.Held.{above_grows}
use Rattle.system_checked.specs.Files.{Headed, start}
use Rattle.system_checked.proofs.Headers.{facts, start_placed, file_refused, file_followed}
use Rattle.system_checked.proofs.Held.{tile_lines_lem, tiles_read}
use Rattle.result_loaded.specs.Results.{lists_start, outcome_text, ResultLines, loaded_result}
use Rattle.result_file.proofs.Parts.{Parts, parts, list_lines, outcome_text_lem, outcome_digits, list_at_lem, outcome_line_lem}

-- ---- the lists by lines

module _ (t N : ℕ) (text : List ℕ) (long : 7 ≤ length text) (p : Parts t N text) where
  held : (i j : ℕ) → i < N → (b : Bool) → leb j i ≡ b
      → cond b (entries_in t (get_or (lines_from [] (drop 7 text)) (list_line N i j) [])) (replicate t 0)
      ≡ cond b (entries_in t (line_at (lists_start N t + above i * list_size t + j * list_size t) (list_size t) text)) (replicate t 0)
  unfolding list_line above
  held i j h false e = refl
  held i j h true e =
      let place : lists_start N t + (above i + j) * list_size t ≡ lists_start N t + above i * list_size t + j * list_size t = omega arith in
      ap (entries_in t)
      (ap (λ (n : ℕ). get_or (lines_from [] (drop 7 text)) n []) (add_assoc (N * N) (above i) j)
      ∙ list_at_lem t N text long p (above i + j) (omega (arith, leb-true j i e, above_grows i N h))
      ∙ ap (λ (a : ℕ). line_at a (list_size t) text) place)

  lists_read : lists_of N t (lines_from [] (drop 7 text)) ≡ lists_from N t (lists_start N t) text
  unfolding lists_of lists_from row_from list_from
  lists_read = ap joined (map_below _ _ N (λ i h. ap joined (map_below _ _ N (λ j k. held i j h (leb j i) refl))))

  outcome_read : get_or (lines_from [] (drop 7 text)) (outcome_line N) [] ≡ outcome_text text
  unfolding outcome_line list_line above
  outcome_read =
      ap (λ (n : ℕ). get_or (lines_from [] (drop 7 text)) n []) (add_assoc (N * N) (above N) 0) ∙ outcome_line_lem t N text long p ∙ sym (outcome_text_lem t N text long p)

  parts_lines : (N ≤ 16) × (t ≤ 16) → ResultLines N t text
  parts_lines s = record {
    small = s;
    tiles = tile_lines_lem t N text start p.middle (start_placed text long) p.to_lists;
    lists = list_lines t N text long p;
    long = omega (arith, p.outcome_at);
    outcome = rw (outcome_text_lem t N text long p) (outcome_digits t N text long p);
  }

-- ---- what is read, by what the file answers

module _ (text : List ℕ) (m : List Float) (l : List ℕ) where
  abbrev lengths : ℕ → ℕ → Bool
  lengths N t = bad_matrix N t m || bad_lists N t l

  refused : (why : Refusal) → file_answer no_limit result_frames lengths (lines_from [] text) ≡ Err why → record { answer = Err why; matrix = m; lists = l } ≡ read_result text m l
  unfolding read_result result_reading
  refused why e = rw e

  pub header_refused : (why : Refusal) → header_answer no_limit text ≡ Err why → record { answer = Err why; matrix = m; lists = l } ≡ read_result text m l
  header_refused why e = refused why (file_refused no_limit result_frames lengths text why e)

  module _ (N t : ℕ) (h : Headed no_limit text N t) where
    by_lengths : (b : Bool) → lengths N t ≡ b → file_answer no_limit result_frames lengths (lines_from [] text) ≡ refuse BadLengths 0 b (text_end text (follow t text (result_frames N) start))
    by_lengths b e = file_followed no_limit result_frames lengths text N t h ∙ ap (λ (c : Bool). refuse BadLengths 0 c (text_end text (follow t text (result_frames N) start))) e

    pub matrix_refused : (length m ≡ N * t * (N * t) → ⊥) → record { answer = refused_by BadLengths 0; matrix = m; lists = l } ≡ read_result text m l
    unfolding refuse
    matrix_refused n = refused (refusal BadLengths 0) (by_lengths true (ap (λ (b : Bool). b || bad_lists N t l) (wrong_matrix N t m n)))

    module _ (a : length m ≡ N * t * (N * t)) where
      pub lists_refused : (length l ≡ N * (N * t) → ⊥) → record { answer = refused_by BadLengths 0; matrix = m; lists = l } ≡ read_result text m l
      unfolding refuse bad_lists
      lists_refused n = refused (refusal BadLengths 0) (by_lengths true (rw (right_matrix N t m a, ne_eqb (length l) (N * N * t) (λ e. n (e ∙ mul_assoc N N t)))))

      module _ (b : length l ≡ N * (N * t)) where
        both : lengths N t ≡ false
        unfolding bad_lists
        both = rw (right_matrix N t m a, eq-eqb (length l) (N * N * t) (b ∙ sym (mul_assoc N N t)))

        pub lines_refused : (why : Refusal) → text_end text (follow t text (result_frames N) start) ≡ Err why → record { answer = Err why; matrix = m; lists = l } ≡ read_result text m l
        unfolding refuse
        lines_refused why e = refused why (by_lengths false both ∙ e)

        pub result_read : text_end text (follow t text (result_frames N) start) ≡ accepted → loaded_result N t text ≡ read_result text m l
        unfolding read_result result_reading loaded_result refuse
        result_read e =
            let f = facts h in
            let p = parts t N text f.long e in
            let o = outcome_read t N text f.long p in
            let tiles = tiles_read t N text start p.middle (start_placed text f.long) p.to_lists in
            let lists = lists_read t N text f.long p in
            rw (by_lengths false both ∙ e, f.lines, ← h.tiles_told, ← h.side_told)
            (λ i. record { answer = Ok (ResultRead N t (outcome_in (sym o i))); matrix = sym tiles i; lists = sym lists i })

pub result_lines_lem : {limit : ℕ} (text : List ℕ) (N t : ℕ) → Headed limit text N t → text_end text (follow t text (result_frames N) start) ≡ accepted → ResultLines N t text
result_lines_lem text N t h e =
    let f = facts h in
    parts_lines t N text f.long (parts t N text f.long e) (f.tiles.1, f.side.1)
