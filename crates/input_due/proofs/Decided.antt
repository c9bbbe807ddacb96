-- The bytes due decide what the program prints. Assumes nothing.
use Prim.Native.Nat.{ℕ, ◌+◌, ◌*◌, ◌≤◌, ◌<◌}
use mathlib.Core.Path.{◌≡◌, refl, sym, ap, ◌∙◌}
use mathlib.Core.Logic.{◌⊎◌, inl, inr}
use mathlib.Core.Bool.{false, not, ◌||◌}
use mathlib.Core.List.{List, []}
use native.Mathlib.Nat.{mul_assoc}
use native.Mathlib.Omega.{arith}
use lib.Dec.{eqb, ltb}
use lib.ListN.{length, take}
use lib.Seq.{length-take-le, take_all, take-take}
use borrow.Author.Tests.{lt-ltb, ltb-false}
use Rattle.laws.proofs.Tests.{lt_or_le, or_false_right}
use Rattle.laws.proofs.Texts.{length_tile_frames}
use Rattle.std.specs.Prelude.{Ok, Err}
use Rattle.model.specs.Answer.{Answer, refusal, refused_by, rule_number}
use Rattle.model.specs.declared.Refusal.{Refusal}
use Rattle.model.specs.declared.Rule.TheVariants.{BadSizes, Malformed, WrongFrame, WrongEnd}
use Rattle.model.specs.Refusal.{refuse}
use Rattle.model.specs.Text.{bad_shape, refusal_frame}
use Rattle.model.specs.Read.{kind_in, tiles_in, side_in, line_length, lines_from, system_frames, tile_frames, file_answer, printed, program}
use Rattle.laws.proofs.Refusals.{passed}
use Rattle.cursors.specs.declared.Cursor.{Cursor}
use Rattle.cursors.specs.Steps.{Step}
use Rattle.frames_read.specs.Follow.{follow, text_end}
use Rattle.lines_read.specs.Line.{malformed}
use Rattle.header_read.specs.Heads.{header_line, header_answer}
use Rattle.rows_written.proofs.Shapes.{small_tiles, Bounds, bounds}
use Rattle.system_checked.specs.Files.{Headed, start}
use Rattle.system_checked.proofs.Headers.{facts, start_placed, file_refused, file_followed}
use Rattle.system_checked.proofs.Held.{tiles_kind, tiles_end}
use Rattle.input_due.specs.Due.{system_due}
use Rattle.input_due.proofs.Fronts.{same_header, same_headed}
use Rattle.input_due.proofs.Cuts.{follow_same}

-- ---- sizes

tiles_size : (N t : ℕ) → N * (N * (7 + t * t * 16)) ≡ N * N * (7 + 16 * (t * t))
tiles_size N t = sym (mul_assoc N N (7 + t * t * 16)) ∙ ap (λ (k : ℕ). N * N * k) (omega arith)

order_small : {text : List ℕ} {N t : ℕ} → Headed 48 text N t → N * t ≤ 48
unfolding header_answer
order_small {text} {N} {t} h =
    let H = header_line text in
    let a = passed WrongEnd 1 (eqb (length text) 0) _ h.accepted in
    let b = passed Malformed 1 (ltb (length text) 7) _ a.1 in
    let c = passed Malformed 1 (malformed 0 H) _ b.1 in
    let d = passed WrongFrame 1 (not (eqb (kind_in H) 1)) _ c.1 in
    let e = passed BadSizes 1 (bad_shape (tiles_in H) (side_in H) || ltb 48 (tiles_in H * side_in H)) _ d.1 in
    rw (h.tiles_told, h.side_told) (ltb-false 48 (tiles_in H * side_in H) (or_false_right (bad_shape (tiles_in H) (side_in H)) (ltb 48 (tiles_in H * side_in H)) e.0))

-- what the code multiplies, and how many bytes are due at most
pub record Limits (N t : ℕ) : Type 0 where
  pub products : Bounds N t
  pub most : system_due N t ≤ 38664

pub limits : {text : List ℕ} {N t : ℕ} → Headed 48 text N t → Limits N t
limits {text} {N} {t} h =
    let f = facts h in
    record { products = bounds N t f.tiles.1 f.side.1; most = omega (arith, small_tiles N t f.tiles.1 (order_small h)) }

-- what the lines of a text answer in the program
abbrev answer_of : List ℕ → Answer
answer_of text = file_answer 48 system_frames (λ N t. false) (lines_from [] text)

prints_refusal : (text : List ℕ) (why : Refusal) → answer_of text ≡ Err why → program text ≡ refusal_frame (rule_number why.rule) why.place
unfolding program printed
prints_refusal text why e = ap (λ (a : Answer). printed a (lines_from [] text)) e

both_refused : (text other : List ℕ) (why : Refusal) → answer_of text ≡ Err why → answer_of other ≡ Err why → program text ≡ program other
both_refused text other why a b = prints_refusal text why a ∙ sym (prints_refusal other why b)

-- ---- a refused header

pub seven_decide : (text front : List ℕ) (why : Refusal) → take 7 text ≡ take 7 front → header_answer 48 front ≡ Err why → program (take 7 text) ≡ program text
seven_decide text front why e r =
    let all = same_header 48 text front e ∙ r in
    let seven = same_header 48 (take 7 text) front (take-take 7 7 text (omega arith) ∙ e) ∙ r in
    both_refused (take 7 text) text why (file_refused 48 system_frames (λ N t. false) (take 7 text) why seven) (file_refused 48 system_frames (λ N t. false) text why all)

-- ---- an accepted header

module _ (N t : ℕ) (text : List ℕ) (headed : Headed 48 text N t) (long : system_due N t ≤ length text) where
  abbrev L : ℕ
  L = system_due N t

  abbrev short : List ℕ
  short = take L text

  short_headed : Headed 48 short N t
  short_headed = same_headed 48 short text N t (take-take 7 L text (omega arith)) headed

  by_frames : (k : List ℕ) → Headed 48 k N t → answer_of k ≡ text_end k (follow t k (system_frames N) start)
  unfolding refuse
  by_frames k h = file_followed 48 system_frames (λ N t. false) k N t h

  alike : follow t short (system_frames N) start ≡ follow t text (system_frames N) start
  unfolding system_frames line_length
  alike = follow_same t L text long 2 (tile_frames N) start (tiles_kind N) (omega (arith, ap (λ (k : ℕ). k * (7 + 16 * (t * t))) (length_tile_frames N), tiles_size N t))

  -- more text comes after the frames, in both
  more_behind : (k : List ℕ) (d : Cursor) → d.at < length k → text_end k (Ok d) ≡ refused_by WrongEnd d.line
  unfolding text_end refuse
  more_behind k d h = rw (lt-ltb d.at (length k) h)

  stops : (k : List ℕ) (why : Refusal) → text_end k (Err why) ≡ Err why
  unfolding text_end
  stops k why = refl

  pub cut_decides : program short ≡ program text
  unfolding system_frames line_length
  cut_decides = go (follow t text (system_frames N) start) refl
    where
      go : (s : Step) → follow t text (system_frames N) start ≡ s → program short ≡ program text
      go (Ok d) q =
          let at-is = tiles_end t N text start d (start_placed text (facts headed).long) q in
          let below : d.at < L = omega (arith, at-is, tiles_size N t) in
          both_refused short text (refusal WrongEnd d.line)
          (by_frames short short_headed ∙ ap (text_end short) (alike ∙ q) ∙ more_behind short d (omega (arith, length-take-le L text long)))
          (by_frames text headed ∙ ap (text_end text) q ∙ more_behind text d (omega arith))
      go (Err why) q =
          both_refused short text why
          (by_frames short short_headed ∙ ap (text_end short) (alike ∙ q) ∙ stops short why)
          (by_frames text headed ∙ ap (text_end text) q ∙ stops text why)

pub due_decides : (N t : ℕ) (text front : List ℕ) → take 7 text ≡ take 7 front → Headed 48 front N t → program (take (system_due N t) text) ≡ program text
due_decides N t text front e h = go (lt_or_le (length text) (system_due N t))
  where
    go : (length text < system_due N t) ⊎ (system_due N t ≤ length text) → program (take (system_due N t) text) ≡ program text
    go (inl k) = ap program (take_all (system_due N t) text (omega arith))
    go (inr k) = cut_decides N t text (same_headed 48 text front N t e h) k
