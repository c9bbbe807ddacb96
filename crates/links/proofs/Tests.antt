-- A task is ready, and spoiled, by document 01's definitions where the tests of three marks say so. Assumes nothing.
use Prim.Native.Nat.{ℕ, ◌-◌}
use mathlib.Core.Bool.{Bool, true, false, not, cond, ◌&&◌, ◌||◌}
use mathlib.Core.Path.{◌≡◌, refl, sym, ap, ◌∙◌}
use mathlib.Core.List.{List, [], ◌∷◌, ◌++◌}
use lib.Dec.{eqb}
use Rattle.model.specs.Lists.{some, every}
use Rattle.model.specs.Task.{tasks}
use Rattle.model.specs.Links.{mark, done, waiting, finished, broken, ready, spoils}
use Rattle.laws.proofs.Tests.{and_assoc}
use Rattle.laws.proofs.Every.{every_append}
use Rattle.links.specs.Closed.{Key, In, number, back_of, above_of, left_of, back_link, above_link, left_link, links_at, back_mark, above_mark, left_mark, ready_at, spoils_at}
use Rattle.links.proofs.Direct.{links_are, writers_are}

-- some pass where not all fail
some_not_every : {A : Type 0} (f : A → Bool) (xs : List A) → some f xs ≡ not (every (λ x. not (f x)) xs)
unfolding some every
some_not_every f [] = refl
some_not_every f (x ∷ xs) = go (f x) (some_not_every f xs)
  where
    go : (b : Bool) → some f xs ≡ not (every (λ y. not (f y)) xs) → (b || some f xs) ≡ not (not b && every (λ y. not (f y)) xs)
    go true ih = refl
    go false ih = ih

done_finished : finished done ≡ true
unfolding finished
done_finished = refl

done_whole : not (broken done) ≡ true
unfolding broken
done_whole = refl

module _ (N : ℕ) (ms : List ℕ) (b : Key) where
  -- a test that done passes, of the marks of the linked tasks
  module _ (f : ℕ → Bool) (d : f done ≡ true) where
    one : (t : Bool) (p : ℕ) → every (λ q. f (mark ms q)) (cond t [] (p ∷ [])) ≡ f (cond t done (mark ms p))
    unfolding every
    one true p = rw d
    one false p = go (f (mark ms p))
      where
        go : (x : Bool) → (x && true) ≡ x
        go true = refl
        go false = refl

    three : every (λ q. f (mark ms q)) (links_at N b) ≡ (f (back_mark N ms b) && f (above_mark N ms b) && f (left_mark N ms b))
    unfolding links_at back_link above_link left_link back_mark above_mark left_mark
    three =
        every_append (λ q. f (mark ms q)) (back_link N b) (above_link N b ++ left_link N b)
        ∙ (λ i. one (eqb b.k 0) (number N (back_of b)) i && every_append (λ q. f (mark ms q)) (above_link N b) (left_link N b) i)
        ∙ (λ i. f (back_mark N ms b)
        && (one (eqb b.i b.k) (number N (above_of b)) i && one (eqb b.j b.k) (number N (left_of b)) i))
        ∙ sym (and_assoc (f (back_mark N ms b)) (f (above_mark N ms b)) (f (left_mark N ms b)))

  pub ready_is : In N b → ready (tasks N) ms (number N b) ≡ ready_at N ms b
  unfolding ready ready_at
  ready_is w = rw (links_are N b w) (ap (λ (t : Bool). eqb (mark ms (number N b)) waiting && t) (three finished done_finished))

  pub spoils_is : In N b → spoils (tasks N) ms (number N b) ≡ spoils_at N ms b
  unfolding spoils spoils_at
  spoils_is w =
      rw (writers_are N b w)
      (some_not_every (λ q. broken (mark ms q)) (links_at N b) ∙ ap not (three (λ m. not (broken m)) done_whole)
      ∙ go (broken (back_mark N ms b)) (broken (above_mark N ms b)) (broken (left_mark N ms b)))
    where
      go : (x y z : Bool) → not (not x && not y && not z) ≡ (x || y || z)
      go true y z = refl
      go false true z = refl
      go false false true = refl
      go false false false = refl
