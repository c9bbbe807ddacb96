-- Frames of one kind that a cursor went past: their lines stand in the text one after the other, each checked. Assumes nothing.
use Prim.Native.Nat.{ℕ, zero, suc, ◌+◌, ◌*◌, ◌≤◌, ◌<◌}
use mathlib.Core.Path.{◌≡◌, refl, sym, ap, ◌∙◌, subst}
use mathlib.Core.Bool.{Bool, true, false, not, ◌||◌}
use mathlib.Core.List.{List, [], ◌∷◌, ◌++◌, map}
use native.Mathlib.Nat.{le_of_suc-le-suc, not-suc-le-zero, suc-mul, zero-mul, add-zero}
use native.Mathlib.Omega.{arith}
use lib.Dec.{eqb}
use lib.ListN.{length, take, drop, length-drop}
use lib.Seq.{length-take-le, drop-drop}
use borrow.Author.Tests.{eq-eqb, not-false}
use Rattle.std.specs.Prelude.{Ok, Err}
use Rattle.model.specs.Answer.{accepted}
use Rattle.model.specs.declared.Rule.TheVariants.{NotFinite, Malformed, WrongFrame}
use Rattle.model.specs.Lists.{run, below, joined}
use Rattle.model.specs.Tile.{all_finite}
use Rattle.model.specs.Refusal.{refuse, inside}
use Rattle.model.specs.Read.{Frame, kind_in, line_length, lines_from, not_digits, bad_content, bad_line, wrong_frame, not_finite_in, numbers_in, line_answer}
use Rattle.lines_read.proofs.Tested.{length_above}
use Rattle.cursors.specs.declared.Cursor.{Cursor}
use Rattle.cursors.specs.Steps.{Step, step_of}
use Rattle.frames_read.specs.Follow.{onward, follow}
use Rattle.frames_read.proofs.Lines.{whole_line}
use Rattle.frames_read.proofs.Followed.{due_good}
use Rattle.cursors.proofs.Steps.{Stepped, stepped}
use Rattle.numbers_read.specs.Decoded.{line_at}

-- ---- frames of one kind

abbrev pub AllKind : ℕ → List Frame → Type 0
AllKind k [] = Unit {0}
AllKind k (f ∷ fs) = (f.kind ≡ k) × AllKind k fs

all_append : (k : ℕ) (fs gs : List Frame) → AllKind k fs → AllKind k gs → AllKind k (fs ++ gs)
all_append k [] gs a b = b
all_append k (f ∷ fs) gs a b = (a.0, all_append k fs gs a.1 b)

pub all_map : {A : Type 0} (k : ℕ) (g : A → Frame) (xs : List A) → ((x : A) → (g x).kind ≡ k) → AllKind k (map g xs)
all_map k g [] h = tt
all_map k g (x ∷ xs) h = (h x, all_map k g xs h)

pub all_joined : {A : Type 0} (k : ℕ) (g : A → List Frame) (xs : List A) → ((x : A) → AllKind k (g x)) → AllKind k (joined (map g xs))
unfolding joined
all_joined k g [] h = tt
all_joined k g (x ∷ xs) h = all_append k (g x) (joined (map g xs)) (h x) (all_joined k g xs h)

-- ---- one checked line

pub record Checked (t k : ℕ) (l : List ℕ) : Type 0 where
  pub size : length l ≡ line_length t k
  pub clean : not_digits l ≡ false
  pub numbers : k ≡ 2 → all_finite (numbers_in t l) ≡ true

clean_of : (t due : ℕ) (l : List ℕ) → bad_line t due l ≡ false → not_digits l ≡ false
unfolding bad_line
clean_of t due l e = go (not_digits l) (not (inside 5 (kind_in l))) (not (eqb (length l) (line_length t due))) (bad_content t l) e
  where
    go : (a b c d : Bool) → (a || b || c || d) ≡ false → a ≡ false
    go true b c d e = e
    go false b c d e = refl

pub finite_of : (t : ℕ) (f : Frame) (l : List ℕ) → f.kind ≡ 2 → not_finite_in t f l ≡ false → all_finite (numbers_in t l) ≡ true
unfolding not_finite_in
finite_of t f l k e = not-false (all_finite (numbers_in t l)) (rw (eq-eqb f.kind 2 k) at e)

line_checked : (t x : ℕ) (f : Frame) (l : List ℕ) → length l ≡ line_length t f.kind → line_answer t x f l accepted ≡ accepted → Checked t f.kind l
unfolding line_answer refuse
line_checked t x f l s e = go (bad_line t f.kind l) (wrong_frame f l) (not_finite_in t f l) refl refl e
  where
    go : (a b c : Bool) → bad_line t f.kind l ≡ a → not_finite_in t f l ≡ c → refuse Malformed x a (refuse WrongFrame x b (refuse NotFinite x c accepted)) ≡ accepted → Checked t f.kind l
    go true b c p q e = let z : ◌≡◌ {A = ℕ} 0 1 = cc in absurd (omega arith)
    go false true c p q e = let z : ◌≡◌ {A = ℕ} 0 1 = cc in absurd (omega arith)
    go false false true p q e = let z : ◌≡◌ {A = ℕ} 0 1 = cc in absurd (omega arith)
    go false false false p q e = record { size = s; clean = clean_of t f.kind l p; numbers = λ k. finite_of t f l k q }

module _ (t : ℕ) (text : List ℕ) where
  -- a step tells its line, and that the line is the text's next one
  pub step_line : (f : Frame) (c d : Cursor) → Stepped t text f c d → Checked t f.kind (line_at c.at (line_length t f.kind) text)
  step_line f c d s =
      let L = line_length t f.kind in
      let xs = drop c.at text in
      let fits : L ≤ length xs = rw (length-drop c.at text) s.room in
      line_checked t c.line f (take L xs) (length-take-le L xs fits) (sym (due_good t c.line f xs fits) ∙ s.accepted)

  pub step_next : (f : Frame) (c d : Cursor) → Stepped t text f c d
      → lines_from [] (drop c.at text) ≡ line_at c.at (line_length t f.kind) text ∷ lines_from [] (drop d.at text)
  step_next f c d s =
      let L = line_length t f.kind in
      let xs = drop c.at text in
      let fits : L ≤ length xs = rw (length-drop c.at text) s.room in
      let at-is : d.at ≡ c.at + L = ap (λ (z : Cursor). z.at) s.next in
      whole_line L xs (omega (arith, length_above t f.kind)) fits (step_line f c d s).clean
      ∙ ap (λ (z : List ℕ). take L xs ∷ lines_from [] z) (drop-drop L c.at text ∙ ap (λ (p : ℕ). drop p text) (sym at-is))

-- ---- several

run_shift : {A : Type 0} (g : ℕ → A) (a n : ℕ) → map g (run (suc a) n) ≡ map (λ q. g (suc q)) (run a n)
unfolding run
run_shift g a zero = refl
run_shift g a (suc n) = ap (λ l. g (suc a) ∷ l) (run_shift g (suc a) n)

map_same : {A : Type 0} (g h : ℕ → A) (xs : List ℕ) → ((q : ℕ) → g q ≡ h q) → map g xs ≡ map h xs
map_same g h [] e = refl
map_same g h (x ∷ xs) e = cc (e x, map_same g h xs e)

pub record Uniform (t k : ℕ) (text : List ℕ) (fs : List Frame) (c d : Cursor) : Type 0 where
  pub ends : d.at ≡ c.at + length fs * line_length t k
  pub lines : lines_from [] (drop c.at text) ≡ map (λ q. line_at (c.at + q * line_length t k) (line_length t k) text) (below (length fs)) ++ lines_from [] (drop d.at text)
  pub each : (q : ℕ) → q < length fs → Checked t k (line_at (c.at + q * line_length t k) (line_length t k) text)

module _ (t k : ℕ) (text : List ℕ) where
  none : (c d : Cursor) → c ≡ d → Uniform t k text [] c d
  unfolding below run
  none c d e = record { ends = rw (zero-mul (line_length t k), ← e) (sym (add-zero c.at)); lines = ap (λ (z : Cursor). lines_from [] (drop z.at text)) e; each = λ q h. absurd (not-suc-le-zero h) }

module _ (t : ℕ) (text : List ℕ) where
  module _ (f : Frame) (fs : List Frame) (c c' d : Cursor) (s : Stepped t text f c c') (u : Uniform t f.kind text fs c' d) where
    -- line q after the cursor
    g : ℕ → List ℕ
    g q = line_at (c.at + q * line_length t f.kind) (line_length t f.kind) text

    at_next : c'.at ≡ c.at + line_length t f.kind
    at_next = ap (λ (z : Cursor). z.at) s.next

    place : (q : ℕ) → c'.at + q * line_length t f.kind ≡ c.at + suc q * line_length t f.kind
    place q = omega (arith, at_next, suc-mul q (line_length t f.kind))

    first_place : c.at ≡ c.at + 0 * line_length t f.kind
    first_place = rw (zero-mul (line_length t f.kind)) (sym (add-zero c.at))

    later : map (λ q. line_at (c'.at + q * line_length t f.kind) (line_length t f.kind) text) (run 0 (length fs)) ≡ map g (run 1 (length fs))
    unfolding g
    later =
        map_same _ _ (run 0 (length fs)) (λ q. ap (λ (p : ℕ). line_at p (line_length t f.kind) text) (place q))
        ∙ sym (run_shift g 0 (length fs))

    more_lines : lines_from [] (drop c.at text) ≡ map g (below (suc (length fs))) ++ lines_from [] (drop d.at text)
    unfolding g below run
    more_lines =
        step_next t text f c c' s
        ∙ ap (λ (p : ℕ). line_at p (line_length t f.kind) text ∷ lines_from [] (drop c'.at text)) first_place
        ∙ ap (λ (z : List (List ℕ)). g 0 ∷ z) (u.lines ∙ ap (λ (z : List (List ℕ)). z ++ lines_from [] (drop d.at text)) later)

    more_each : (q : ℕ) → q < suc (length fs) → Checked t f.kind (g q)
    unfolding g
    more_each zero h = subst (λ (p : ℕ). Checked t f.kind (line_at p (line_length t f.kind) text)) first_place (step_line t text f c c' s)
    more_each (suc q) h = subst (λ (p : ℕ). Checked t f.kind (line_at p (line_length t f.kind) text)) (place q) (u.each q (le_of_suc-le-suc h))

    more : Uniform t f.kind text (f ∷ fs) c d
    unfolding g
    more = record { ends = u.ends ∙ place (length fs); lines = more_lines; each = more_each }

  pub uniform : (k : ℕ) (fs : List Frame) (c d : Cursor) → AllKind k fs → follow t text fs c ≡ Ok d → Uniform t k text fs c d
  unfolding follow
  uniform k [] c d a e = none t k text c d (cc)
  uniform k (f ∷ fs) c d a e = go (uniform f.kind fs) (step_of t text f c) refl e
    where
      go : ((c d : Cursor) → AllKind f.kind fs → follow t text fs c ≡ Ok d → Uniform t f.kind text fs c d) → (s : Step) → step_of t text f c ≡ s
          → onward (follow t text fs) s ≡ Ok d → Uniform t k text (f ∷ fs) c d
      go ih (Ok c') q e =
          subst (λ (j : ℕ). Uniform t j text (f ∷ fs) c d) a.0
          (more f fs c c' d (stepped t text f c c' q) (ih c' d (subst (λ (j : ℕ). AllKind j fs) (sym a.0) a.1) e))
      go ih (Err why) q e = let z : ◌≡◌ {A = ℕ} 0 1 = cc in absurd (omega arith)
