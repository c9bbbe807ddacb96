-- Every task is finished where the search for an unfinished one finds none. Assumes nothing.
use Prim.Native.Nat.{ℕ}
use mathlib.Core.Bool.{Bool, true, false, not, cond, ◌||◌}
use mathlib.Core.Path.{◌≡◌, refl, sym, ap, ◌∙◌}
use mathlib.Core.List.{List, [], ◌∷◌}
use native.Mathlib.Omega.{arith}
use lib.Ieee.{Float}
use lib.ListN.{length}
use lib.Seq.{take-length}
use Rattle.model.specs.declared.Sizes.{Sizes}
use Rattle.worker.specs.declared.Worker.{Worker}
use Rattle.model.specs.Lengths.{RecordsFit}
use Rattle.model.specs.Lists.{below, every, some, keep, first_or}
use Rattle.model.specs.Links.{mark, finished}
use Rattle.model.specs.Plan.{plan, plan_of}
use Rattle.model.specs.Calls.{marks_of}
use Rattle.model.specs.Refusal.{unfinished}
use Rattle.laws.proofs.Tests.{never}
use Rattle.records.specs.Records.{marks_from, lent}
use Rattle.records.proofs.Laws.{length_marks}
use Rattle.std.specs.Prelude.{Some, None, Option, is_some}
use Rattle.laws.proofs.Searches.{every_places, every_is_none}

-- whether something was found
abbrev pub is_found : Option ℕ → Bool
is_found None = false
is_found (Some x) = true

pub found_none : (x : Option ℕ) (b : Bool) → is_some x ≡ not b → b ≡ not (is_found x)
found_none None true e = refl
found_none None false e = never e refl
found_none (Some x) true e = never refl e
found_none (Some x) false e = refl

found_some : (f : ℕ → Bool) (xs : List ℕ) → is_found (first_or (keep f xs) Some None) ≡ some f xs
unfolding first_or keep some
found_some f [] = refl
found_some f (x ∷ xs) = go (f x) (found_some f xs)
  where
    go : (b : Bool) → is_found (first_or (keep f xs) Some None) ≡ some f xs → is_found (first_or (cond b (x ∷ keep f xs) (keep f xs)) Some None) ≡ (b || some f xs)
    go true e = refl
    go false e = e

module _ (r : List (List ℕ)) where
  by_mark : every finished (marks_from r) ≡ every (λ p. finished (mark (marks_from r) p)) (below (length r))
  unfolding mark
  by_mark =
      ap (every finished) (sym (take-length (marks_from r)))
      ∙ every_places finished (length (marks_from r)) (marks_from r) 0 (omega arith)
      ∙ ap (λ (n : ℕ). every (λ p. finished (mark (marks_from r) p)) (below n)) (length_marks r)

  pub none_found : (x : Option ℕ) → x ≡ first_or (keep (λ p. not (finished (mark (marks_from r) p))) (below (length r))) Some None
      → not (is_found x) ≡ every finished (marks_from r)
  none_found x e =
      ap (λ (y : Option ℕ). not (is_found y)) e ∙ ap not (found_some (λ p. not (finished (mark (marks_from r) p))) (below (length r)))
      ∙ sym (by_mark ∙ every_is_none (λ p. finished (mark (marks_from r) p)) (below (length r)))

-- the search over the lent records is the definition's
pub unfinished_is : (z : Sizes) (m : List Float) (l : List ℕ) (r : List (List ℕ)) (ws : List Worker) (count number : ℕ) → RecordsFit z r
    → keep (λ p. not (finished (mark (marks_from r) p))) (below (length r)) ≡ unfinished (plan_of z) (lent m l r ws count number)
unfolding unfinished marks_of lent marks_from plan
unfinished_is z m l r ws count number fit = ap (λ (n : ℕ). keep (λ p. not (finished (mark (marks_from r) p))) (below n)) fit
