-- What a text holds whose frames were followed to its end, and that this is what the definition by lines reads. Assumes nothing.
use Prim.Native.Nat.{ℕ, ◌+◌, ◌*◌, ◌≤◌}
use mathlib.Core.Path.{◌≡◌, refl, sym, ap, ◌∙◌}
use mathlib.Core.Bool.{Bool, true, false}
use mathlib.Core.List.{List, [], ◌++◌, map, map-map}
use native.Mathlib.Omega.{arith}
use lib.Dec.{ltb}
use lib.ListN.{length, take, drop, drop_of_length-le}
use lib.Seq.{take_at}
use lib.Ieee.{Float, nan, binary64, of_bits}
use borrow.Author.Tests.{ltb-false}
use Rattle.laws.proofs.Blocks.{get_or_table}
use Rattle.laws.proofs.Every.{every_at}
use Rattle.laws.proofs.Runs.{length_map_below}
use Rattle.laws.proofs.Texts.{length_tile_frames}
use Rattle.std.specs.Prelude.{Ok, Err}
use Rattle.model.specs.Answer.{accepted}
use Rattle.model.specs.declared.Rule.TheVariants.{WrongEnd}
use Rattle.model.specs.Lists.{below, table, joined}
use Rattle.model.specs.Num.{finite}
use Rattle.model.specs.Tile.{all_finite}
use Rattle.model.specs.Refusal.{refuse}
use Rattle.model.specs.Read.{Frame, field, line_length, lines_from, last_line, numbers_in, tile_frames, tiles_of}
use Rattle.lines_read.proofs.Tested.{line_of_digits}
use Rattle.cursors.specs.declared.Cursor.{Cursor}
use Rattle.cursors.specs.Steps.{Step, CursorFits}
use Rattle.frames_read.specs.Follow.{onward, follow, row_frames, text_end}
use Rattle.frames_read.proofs.Rows.{follow_append, follow_placed}
use Rattle.numbers_read.specs.Decoded.{line_at, tile_size, numbers_of, TileLine, TileLines, tiles_from}
use Rattle.system_checked.proofs.Uniform.{AllKind, all_map, all_joined, Checked, Uniform, uniform}

-- ---- to the end of the text

pub record Ended (t : ℕ) (text : List ℕ) (fs : List Frame) (c : Cursor) : Type 0 where
  pub end : Cursor
  pub followed : follow t text fs c ≡ Ok end
  pub last : length text ≤ end.at

pub to_end : (t : ℕ) (text : List ℕ) (fs : List Frame) (c : Cursor) → text_end text (follow t text fs c) ≡ accepted → Ended t text fs c
unfolding text_end refuse
to_end t text fs c e = go (follow t text fs c) refl e
  where
    at_last : (d : Cursor) (b : Bool) → ltb d.at (length text) ≡ b → refuse WrongEnd d.line b accepted ≡ accepted → length text ≤ d.at
    at_last d true p e = let z : ◌≡◌ {A = ℕ} 0 1 = cc in absurd (omega arith)
    at_last d false p e = ltb-false d.at (length text) p

    go : (s : Step) → follow t text fs c ≡ s → text_end text s ≡ accepted → Ended t text fs c
    go (Ok d) q e = record { end = d; followed = q; last = at_last d (ltb d.at (length text)) refl e }
    go (Err why) q e = let z : ◌≡◌ {A = ℕ} 0 1 = cc in absurd (omega arith)

pub none_behind : (text : List ℕ) (a : ℕ) → length text ≤ a → lines_from [] (drop a text) ≡ []
unfolding lines_from last_line
none_behind text a h = ap (lines_from []) (drop_of_length-le text h)

-- frames in two parts
pub record Split (t : ℕ) (text : List ℕ) (fs gs : List Frame) (c d : Cursor) : Type 0 where
  pub middle : Cursor
  pub before : follow t text fs c ≡ Ok middle
  pub behind : follow t text gs middle ≡ Ok d

pub split : (t : ℕ) (text : List ℕ) (fs gs : List Frame) (c d : Cursor) → follow t text (fs ++ gs) c ≡ Ok d → Split t text fs gs c d
split t text fs gs c d e = go (follow t text fs c) refl (sym (follow_append t text fs gs c) ∙ e)
  where
    go : (s : Step) → follow t text fs c ≡ s → onward (follow t text gs) s ≡ Ok d → Split t text fs gs c d
    go (Ok m) q e = record { middle = m; before = q; behind = e }
    go (Err why) q e = let z : ◌≡◌ {A = ℕ} 0 1 = cc in absurd (omega arith)

-- ---- tiles

module _ (N : ℕ) where
  pub tiles_kind : AllKind 2 (tile_frames N)
  unfolding tile_frames
  tiles_kind = all_joined 2 (row_frames 2 N) (below N) (λ i. all_map 2 (λ j. record { kind = 2; i = i; j = j }) (below N) (λ j. refl))

tile_line_lem : (t : ℕ) (l : List ℕ) → Checked t 2 l → TileLine (t * t) l
unfolding line_length all_finite numbers_in table
tile_line_lem t l c = record {
  size = c.size;
  digits = line_of_digits l (omega (arith, c.size)) c.clean;
  finite_each = λ x h.
      let num : ℕ → Float = λ y. of_bits binary64 (field (6 + 16 * y) 16 l) in
      let e = every_at finite (map num (below (t * t))) nan x (c.numbers refl) (rw (length_map_below num (t * t)) h) in
      rw (get_or_table (t * t) num x nan h) at e;
}

module _ (t N : ℕ) (text : List ℕ) (c d : Cursor) (p : CursorFits text c) (e : follow t text (tile_frames N) c ≡ Ok d) where
  pub tiles_followed : Uniform t 2 text (tile_frames N) c d
  tiles_followed = uniform t text 2 (tile_frames N) c d (tiles_kind N) e

  pub tiles_end : d.at ≡ c.at + N * N * tile_size (t * t)
  unfolding line_length
  tiles_end = tiles_followed.ends ∙ ap (λ (n : ℕ). c.at + n * tile_size (t * t)) (length_tile_frames N)

  pub tile_lines_lem : TileLines (t * t) (N * N) c.at text
  unfolding line_length
  tile_lines_lem = record {
    room = omega (arith, tiles_end, (follow_placed t text (tile_frames N) c d p e).within);
    each = λ q h. tile_line_lem t (line_at (c.at + q * tile_size (t * t)) (tile_size (t * t)) text) (tiles_followed.each q (rw (length_tile_frames N) h));
  }

  -- the tiles' lines, and those after them
  pub lines_tiles : lines_from [] (drop c.at text) ≡ map (λ q. line_at (c.at + q * tile_size (t * t)) (tile_size (t * t)) text) (below (N * N)) ++ lines_from [] (drop d.at text)
  unfolding line_length
  lines_tiles =
      tiles_followed.lines
      ∙ ap (λ (n : ℕ). map (λ q. line_at (c.at + q * tile_size (t * t)) (tile_size (t * t)) text) (below n) ++ lines_from [] (drop d.at text)) (length_tile_frames N)

  pub tiles_read : tiles_of N t (lines_from [] (drop c.at text)) ≡ tiles_from (t * t) (N * N) c.at text
  unfolding tiles_of tiles_from numbers_in numbers_of
  tiles_read =
      let g : ℕ → List ℕ = λ q. line_at (c.at + q * tile_size (t * t)) (tile_size (t * t)) text in
      ap (λ (ls : List (List ℕ)). joined (map (numbers_in t) (take (N * N) ls))) lines_tiles
      ∙ ap (λ (ls : List (List ℕ)). joined (map (numbers_in t) ls)) (take_at (map g (below (N * N))) (lines_from [] (drop d.at text)) (N * N) (length_map_below g (N * N)))
      ∙ ap joined (map-map (numbers_in t) g (below (N * N)))
