-- What an accepted header tells, and what a file answers by its header and by following the frames after it. Assumes nothing.
use Prim.Native.Nat.{ℕ, ◌*◌, ◌≤◌}
use mathlib.Core.Path.{◌≡◌, refl, sym, ap, ◌∙◌}
use mathlib.Core.Bool.{Bool, true, false, not, ◌||◌}
use mathlib.Core.List.{List, [], ◌∷◌}
use native.Mathlib.Omega.{arith}
use lib.Dec.{eqb, ltb}
use lib.ListN.{length, drop}
use borrow.Author.Tests.{ltb-false}
use Rattle.laws.proofs.Tests.{or_false_left}
use Rattle.laws.proofs.Refusals.{shape_range}
use Rattle.std.specs.Prelude.{Ok, Err}
use Rattle.model.specs.Answer.{Answer, accepted}
use Rattle.model.specs.declared.Refusal.{Refusal}
use Rattle.model.specs.declared.Rule.TheVariants.{BadSizes, BadLengths, Malformed, WrongFrame, WrongEnd}
use Rattle.model.specs.Refusal.{refuse}
use Rattle.model.specs.Text.{bad_shape}
use Rattle.model.specs.Read.{Frame, kind_in, tiles_in, side_in, lines_from, file_answer}
use Rattle.lines_read.specs.Line.{malformed}
use Rattle.lines_read.proofs.Tested.{well_formed}
use Rattle.cursors.specs.Steps.{CursorFits}
use Rattle.frames_read.specs.Follow.{follow, text_end}
use Rattle.header_read.specs.declared.Shape.{Shape}
use Rattle.header_read.specs.Heads.{Header, shape, header_line, header_answer, shaped, header_of}
use Rattle.frames_read.proofs.Lines.{whole_line}
use Rattle.frames_read.proofs.Followed.{passed, lines_followed}
use Rattle.header_read.proofs.Heads.{behind_header, file_headed}
use Rattle.system_checked.specs.Files.{Headed, start}

-- ---- the header

pub record HeaderFacts (text : List ℕ) (N t : ℕ) : Type 0 where
  pub long : 7 ≤ length text
  pub lines : lines_from [] text ≡ header_line text ∷ lines_from [] (drop 7 text)
  pub tiles : (1 ≤ N) × (N ≤ 16)
  pub side : (1 ≤ t) × (t ≤ 16)

pub header_facts : (limit : ℕ) (text : List ℕ) → header_answer limit text ≡ accepted → HeaderFacts text (tiles_in (header_line text)) (side_in (header_line text))
unfolding header_answer refuse
header_facts limit text e =
    go (eqb (length text) 0) (ltb (length text) 7) (malformed 0 h) (not (eqb (kind_in h) 1)) (bad_shape (tiles_in h) (side_in h) || ltb limit (tiles_in h * side_in h)) refl refl refl e
  where
    h : List ℕ
    h = header_line text

    go : (a b m k s : Bool) → ltb (length text) 7 ≡ b → malformed 0 (header_line text) ≡ m
        → (bad_shape (tiles_in (header_line text)) (side_in (header_line text)) || ltb limit (tiles_in (header_line text) * side_in (header_line text))) ≡ s
        → refuse WrongEnd 1 a (refuse Malformed 1 b (refuse Malformed 1 m (refuse WrongFrame 1 k (refuse BadSizes 1 s accepted)))) ≡ accepted
        → HeaderFacts text (tiles_in (header_line text)) (side_in (header_line text))
    go true b m k s p q r e = let z : ◌≡◌ {A = ℕ} 0 1 = cc in absurd (omega arith)
    go false true m k s p q r e = let z : ◌≡◌ {A = ℕ} 0 1 = cc in absurd (omega arith)
    go false false true k s p q r e = let z : ◌≡◌ {A = ℕ} 0 1 = cc in absurd (omega arith)
    go false false false true s p q r e = let z : ◌≡◌ {A = ℕ} 0 1 = cc in absurd (omega arith)
    go false false false false true p q r e = let z : ◌≡◌ {A = ℕ} 0 1 = cc in absurd (omega arith)
    go false false false false false p q r e =
        let l = ltb-false (length text) 7 p in
        let f = shape_range (tiles_in (header_line text)) (side_in (header_line text)) (or_false_left (bad_shape (tiles_in (header_line text)) (side_in (header_line text))) _ r) in
        record { long = l; lines = whole_line 7 text (omega arith) l (well_formed 0 (header_line text) q); tiles = f.0; side = f.1 }

pub facts : {limit N t : ℕ} {text : List ℕ} → Headed limit text N t → HeaderFacts text N t
facts {limit} {N} {t} {text} h = rw (h.tiles_told, h.side_told) (header_facts limit text h.accepted)

-- what the header's reader answered
pub shape_read : (limit : ℕ) (text : List ℕ) (r : Header) (N t : ℕ) → r ≡ header_of limit text → r ≡ Ok (shape N t) → Headed limit text N t
unfolding header_of
shape_read limit text r N t e q = go (header_answer limit text) refl (sym q ∙ e)
  where
    go : (a : Answer) → header_answer limit text ≡ a → Ok (shape N t) ≡ shaped a (header_line text) → Headed limit text N t
    go (Ok _) p e =
        let s : shape N t ≡ shape (tiles_in (header_line text)) (side_in (header_line text)) = cc in
        record { accepted = p; tiles_told = ap (λ (z : Shape). z.tiles) s; side_told = ap (λ (z : Shape). z.side) s }
    go (Err why) p e = let z : ◌≡◌ {A = ℕ} 0 1 = cc in absurd (omega arith)

pub refusal_read : (limit : ℕ) (text : List ℕ) (r : Header) (why : Refusal) → r ≡ header_of limit text → r ≡ Err why → header_answer limit text ≡ Err why
unfolding header_of
refusal_read limit text r why e q = go (header_answer limit text) refl (sym q ∙ e)
  where
    go : (a : Answer) → header_answer limit text ≡ a → Err why ≡ shaped a (header_line text) → header_answer limit text ≡ Err why
    go (Ok _) p e = let z : ◌≡◌ {A = ℕ} 0 1 = cc in absurd (omega arith)
    go (Err w) p e = cc

pub start_placed : (text : List ℕ) → 7 ≤ length text → CursorFits text start
start_placed text h = record { within = h; counted = omega arith }

-- ---- the whole file

module _ (limit : ℕ) (frames : ℕ → List Frame) (lengths : ℕ → ℕ → Bool) (text : List ℕ) where
  pub file_refused : (why : Refusal) → header_answer limit text ≡ Err why → file_answer limit frames lengths (lines_from [] text) ≡ Err why
  file_refused why e = file_headed limit frames lengths text ∙ ap (λ (a : Answer). passed a (behind_header limit frames lengths (header_line text) (lines_from [] (drop 7 text)))) e

  module _ (N t : ℕ) (h : Headed limit text N t) where
    pub file_followed : file_answer limit frames lengths (lines_from [] text) ≡ refuse BadLengths 0 (lengths N t) (text_end text (follow t text (frames N) start))
    file_followed =
        rw (h.tiles_told, h.side_told)
        (file_headed limit frames lengths text
        ∙ ap (λ (a : Answer). passed a (behind_header limit frames lengths (header_line text) (lines_from [] (drop 7 text)))) h.accepted
        ∙ ap (refuse BadLengths 0 (lengths (tiles_in (header_line text)) (side_in (header_line text)))) (lines_followed (side_in (header_line text)) text (frames (tiles_in (header_line text))) start))
