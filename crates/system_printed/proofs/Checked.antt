-- What is known of a text that is a system with n at most 48: what the program prints for it, and what reading it gives. Assumes nothing.
use Prim.Native.Nat.{ℕ, suc, ◌*◌, ◌≤◌}
use mathlib.Core.Path.{◌≡◌, refl, ap, ◌∙◌}
use mathlib.Core.Bool.{true, false, not, ◌||◌}
use mathlib.Core.List.{List, [], ◌∷◌, map}
use native.Mathlib.Nat.{mul-le-mul, mul_assoc}
use native.Mathlib.Omega.{arith}
use lib.Dec.{eqb, ltb}
use lib.ListN.{length, take}
use lib.Ieee.{Float}
use borrow.Author.Tests.{ltb-false, le-ltb, eq-eqb}
use Rattle.laws.proofs.Tests.{or_false}
use Rattle.laws.proofs.Every.{every_both}
use Rattle.laws.proofs.Texts.{length_tile_frames}
use Rattle.std.specs.Prelude.{Ok, Err}
use Rattle.model.specs.Answer.{Answer, accepted}
use Rattle.model.specs.declared.Rule.TheVariants.{BadSizes, BadLengths, NotFinite, Malformed, WrongFrame}
use Rattle.model.specs.declared.FileRead.TheVariants.{SystemRead}
use Rattle.model.specs.Lists.{every, joined}
use Rattle.model.specs.Num.{finite}
use Rattle.model.specs.Tile.{all_finite}
use Rattle.model.specs.Plan.{plan, order}
use Rattle.model.specs.Text.{bad_shape, bad_matrix}
use Rattle.model.specs.Read.{Frame, kind_in, numbers_in, not_finite_in, bad_line, wrong_frame, line_answer, lines_answer, tiles_in, side_in, lines_from, system_frames, tile_frames, file_answer, tiles_of, system_reading, no_limit, read_system, result_of, printed, program}
use Rattle.laws.proofs.Refusals.{passed, shape_range}
use Rattle.answers.proofs.Refusals.{passes}
use Rattle.system_checked.specs.Files.{checked_system}
use Rattle.system_checked.proofs.Uniform.{AllKind, finite_of}
use Rattle.system_checked.proofs.Held.{tiles_kind}

-- ---- the numbers of accepted tiles are finite

finite_tiles : (t x : ℕ) (fs : List Frame) (ls : List (List ℕ)) → AllKind 2 fs → lines_answer t x fs ls ≡ accepted
    → all_finite (joined (map (numbers_in t) (take (length fs) ls))) ≡ true
unfolding lines_answer line_answer all_finite every joined
finite_tiles t x [] ls a e = refl
finite_tiles t x (f ∷ fs) [] a e = let z : ◌≡◌ {A = ℕ} 0 1 = cc in absurd (omega arith)
finite_tiles t x (f ∷ fs) (l ∷ ls) (k, a) e =
    let p = passed Malformed x (bad_line t f.kind l) _ e in
    let q = passed WrongFrame x (wrong_frame f l) _ p.1 in
    let r = passed NotFinite x (not_finite_in t f l) _ q.1 in
    every_both finite (numbers_in t l) (joined (map (numbers_in t) (take (length fs) ls))) (finite_of t f l k r.0) (finite_tiles t (suc x) fs ls a r.1)

-- ---- a checked system

pub record Checked (text : List ℕ) (N t : ℕ) : Type 0 where
  pub shape : bad_shape N t ≡ false
  pub small : N * t ≤ 48
  pub numbers : List Float
  pub finite_all : all_finite numbers ≡ true
  pub prints : program text ≡ result_of (plan N t) numbers
  pub reads : (m : List Float) → length m ≡ N * t * (N * t) → read_system text m ≡ record { answer = Ok (SystemRead N t); matrix = numbers }

-- what the lines answer, in the program and in the check that asks for no lengths
abbrev pub answer_in : List (List ℕ) → Answer
answer_in ls = file_answer 48 system_frames (λ N t. false) ls

module _ (text h : List ℕ) (ls : List (List ℕ)) (lines : lines_from [] text ≡ h ∷ ls) (good : answer_in (h ∷ ls) ≡ accepted) where
  abbrev N : ℕ
  N = tiles_in h

  abbrev t : ℕ
  t = side_in h

  record Passed : Type 0 where
    good_line : bad_line 0 1 h ≡ false
    header : not (eqb (kind_in h) 1) ≡ false
    shape : bad_shape N t ≡ false
    small : N * t ≤ 48
    behind : lines_answer t 2 (system_frames N) ls ≡ accepted

  all_passed : Passed
  unfolding file_answer
  all_passed =
      let p = passed Malformed 1 (bad_line 0 1 h) _ good in
      let q = passed WrongFrame 1 (not (eqb (kind_in h) 1)) _ p.1 in
      let r = passed BadSizes 1 (bad_shape N t || ltb 48 (N * t)) _ q.1 in
      let s = or_false (bad_shape N t) (ltb 48 (N * t)) r.0 in
      record { good_line = p.0; header = q.0; shape = s.0; small = ltb-false 48 (N * t) s.1; behind = (passed BadLengths 0 false _ r.1).1 }

  accepted_lent : (m : List Float) → length m ≡ N * t * (N * t) → file_answer no_limit system_frames (λ N t. bad_matrix N t m) (h ∷ ls) ≡ accepted
  unfolding file_answer bad_matrix order plan
  accepted_lent m e =
      passes Malformed 1 (bad_line 0 1 h) _ all_passed.good_line
      ∙ passes WrongFrame 1 (not (eqb (kind_in h) 1)) _ all_passed.header
      ∙ passes BadSizes 1 (bad_shape N t || ltb no_limit (N * t)) _ (rw (all_passed.shape, le-ltb no_limit (N * t) (omega (arith, all_passed.small))))
      ∙ passes BadLengths 0 (bad_matrix N t m) _ (rw (eq-eqb (length m) (N * t * (N * t)) e))
      ∙ all_passed.behind

  found : Checked text N t
  unfolding program printed read_system system_reading tiles_of system_frames
  found = record {
    shape = all_passed.shape;
    small = all_passed.small;
    numbers = tiles_of N t ls;
    finite_all = rw (length_tile_frames N) at (finite_tiles t 2 (tile_frames N) ls (tiles_kind N) all_passed.behind);
    prints = ap (λ (ks : List (List ℕ)). printed (answer_in ks) ks) lines ∙ ap (λ (a : Answer). printed a (h ∷ ls)) good;
    reads = λ m e.
        ap (λ (ks : List (List ℕ)). system_reading (file_answer no_limit system_frames (λ N t. bad_matrix N t m) ks) ks m) lines
        ∙ ap (λ (a : Answer). system_reading a (h ∷ ls) m) (accepted_lent m e);
  }

pub checked : (text : List ℕ) (N t : ℕ) → Ok (SystemRead N t) ≡ checked_system 48 text → Checked text N t
unfolding checked_system system_reading file_answer
checked text N t e = go (lines_from [] text) refl (answer_in (lines_from [] text)) refl e
  where
    go : (ls : List (List ℕ)) → lines_from [] text ≡ ls → (a : Answer) → answer_in ls ≡ a → Ok (SystemRead N t) ≡ (system_reading a ls []).answer → Checked text N t
    go [] p (Ok _) q e = let z : ◌≡◌ {A = ℕ} 0 1 = cc in absurd (omega arith)
    go (h ∷ ls) p (Ok _) q e =
        let a : N ≡ tiles_in h = cc in
        let b : t ≡ side_in h = cc in
        rw (a, b) (found text h ls p q)
    go ls p (Err why) q e = let z : ◌≡◌ {A = ℕ} 0 1 = cc in absurd (omega arith)

-- the sizes of a checked system, and of what is lent for it
pub record Small (N t : ℕ) : Type 0 where
  pub tiles : (1 ≤ N) × (N ≤ 16)
  pub side : (1 ≤ t) × (t ≤ 16)
  pub order : N * t ≤ 48
  pub size : N * t * (N * t) ≤ 2304
  pub squares : N * N ≤ 256
  pub listed : N * N * t ≤ 768

pub small_sizes : {text : List ℕ} {N t : ℕ} → Checked text N t → Small N t
small_sizes {text} {N} {t} c =
    let (n, s) = shape_range N t c.shape in
    record {
      tiles = n;
      side = s;
      order = c.small;
      size = mul-le-mul c.small c.small;
      squares = mul-le-mul n.1 n.1;
      listed = rw (mul_assoc N N t) (mul-le-mul n.1 c.small);
    }
