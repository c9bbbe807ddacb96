-- `digits_read::all_digits` meets its contract: after some bytes the fold is the test of these. Assumes nothing.
use mathlib.Core.Path.{◌≡◌, refl, ap, ◌∙◌, subst}
use mathlib.Core.Bool.{Bool, true, ◌&&◌}
use mathlib.Core.List.{List, [], ◌∷◌, ◌++◌}
use Prim.Native.Nat.{ℕ}
use Rattle.std.proofs.Common.{rules}
use Rattle.std.proofs.lemmas.Fn.{fold_over, slice_gives, fronts}
use Rattle.model.specs.Lists.{every}
use Rattle.model.specs.Read.{is_digit}
use Rattle.laws.proofs.Every.{every_append}
use Rattle.laws.proofs.Tests.{and-true}
use Rattle.digits_read.proofs.all_digits.Goals as goal

one_more : (ys : List ℕ) (y : ℕ) (a : Bool) → a ≡ every is_digit ys → (a && is_digit y) ≡ every is_digit (ys ++ y ∷ [])
unfolding every
one_more ys y a e = ap (λ (b : Bool). b && is_digit y) e ∙ rw (every_append is_digit ys (y ∷ []), and-true (is_digit y))

pub returns : goal.returns
unfolding every
returns c =
    subst (λ (l : List ℕ). c.fold.result ≡ every is_digit l) c.iter.ensures.rest
    (fold_over fronts (λ y. y.now) _ (λ ys b. b ≡ every is_digit ys) _ (λ ys a x b f' j k. let more = one_more ys x.now a j in search rules) _ _ true _ (slice_gives c.iter.result) refl c.fold.ensures.ran)
