-- Lines: their parts joined are the text, and a text of lines is cut into those lines. Assumes nothing.
use mathlib.Core.Path.{◌≡◌, refl, sym, ap, ◌∙◌}
use mathlib.Core.Bool.{Bool, true, false}
use mathlib.Core.List.{List, [], ◌∷◌, ◌++◌, reverse, reverse_aux-eq, append_assoc, append-nil}
use Prim.Native.Nat.{ℕ}
use lib.Dec.{eqb}
use Rattle.model.specs.Lists.{every, joined}
use Rattle.model.specs.Text.{line}
use Rattle.model.specs.Read.{last_line, lines_from, is_digit}
use Rattle.laws.proofs.Tests.{and_left, and_right}
use Rattle.laws.proofs.Texts.{digit_goes_on}

reverse_cons : {A : Type 0} (x : A) (l r : List A) → reverse (x ∷ l) ++ r ≡ reverse l ++ x ∷ r
reverse_cons x l r = sym (reverse_aux-eq (x ∷ l) r) ∙ reverse_aux-eq l (x ∷ r)

joined_last : (l : List ℕ) → joined (last_line l) ≡ reverse l ++ []
unfolding joined last_line
joined_last [] = refl
joined_last (x ∷ l) = refl

-- the lines joined are the text
pub joined_lines : (l xs : List ℕ) → joined (lines_from l xs) ≡ reverse l ++ xs
unfolding joined lines_from
joined_lines l [] = joined_last l
joined_lines l (x ∷ xs) = go (joined_lines [] xs) (joined_lines (x ∷ l) xs) (eqb x 10)
  where
    go : joined (lines_from [] xs) ≡ reverse [] ++ xs → joined (lines_from (x ∷ l) xs) ≡ reverse (x ∷ l) ++ xs → (b : Bool)
        → joined (elim b [ true ↦ reverse (x ∷ l) ∷ lines_from [] xs | false ↦ lines_from (x ∷ l) xs ]) ≡ reverse l ++ x ∷ xs
    go p q true = ap (λ (r : List ℕ). reverse (x ∷ l) ++ r) p ∙ reverse_cons x l xs
    go p q false = q ∙ reverse_cons x l xs

-- digits and a 0A in front are the first line
first_line : (ds l xs : List ℕ) → every is_digit ds ≡ true → lines_from l (ds ++ 10 ∷ xs) ≡ (reverse l ++ ds ++ 10 ∷ []) ∷ lines_from [] xs
unfolding lines_from every
first_line [] l xs e = ap (λ (r : List ℕ). r ∷ lines_from [] xs) (sym (append-nil (reverse (10 ∷ l))) ∙ reverse_cons 10 l [] ∙ sym (ap (λ (r : List ℕ). r ++ 10 ∷ []) (append-nil (reverse l))))
first_line (d ∷ ds) l xs e =
    ap (λ (b : Bool). elim b [ true ↦ reverse (d ∷ l) ∷ lines_from [] (ds ++ 10 ∷ xs) | false ↦ lines_from (d ∷ l) (ds ++ 10 ∷ xs) ]) (digit_goes_on d (and_left (is_digit d) (every is_digit ds) e))
    ∙ first_line ds (d ∷ l) xs (and_right (is_digit d) (every is_digit ds) e)
    ∙ ap (λ (r : List ℕ). r ∷ lines_from [] xs) (ap (λ (r : List ℕ). r ++ 10 ∷ []) (reverse_cons d l ds))

-- a line: digits, and the 0A
pub record Line (l : List ℕ) : Type 0 where
  pub digits : List ℕ
  pub is : l ≡ line digits
  pub right : every is_digit digits ≡ true

pub line_first : (l xs : List ℕ) → Line l → lines_from [] (l ++ xs) ≡ l ∷ lines_from [] xs
unfolding line
line_first l xs w =
    let ds = w.digits in
    ap (λ (r : List ℕ). lines_from [] (r ++ xs)) w.is ∙ ap (lines_from []) (append_assoc ds (10 ∷ []) xs) ∙ first_line ds [] xs w.right ∙ ap (λ (r : List ℕ). r ∷ lines_from [] xs) (sym w.is)

-- a text of lines is cut into those lines
pub data Lines : List (List ℕ) → Type 0 where
  none : Lines []
  more : {l : List ℕ} {ls : List (List ℕ)} → Line l → Lines ls → Lines (l ∷ ls)

pub lines_of : {ls : List (List ℕ)} → Lines ls → lines_from [] (joined ls) ≡ ls
unfolding lines_from last_line joined
lines_of none = refl
lines_of (more {l} {ls} w ws) = line_first l (joined ls) w ∙ ap (λ (r : List (List ℕ)). l ∷ r) (lines_of ws)
