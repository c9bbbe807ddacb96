-- Chains of refusals, and what a call that passes refusals 1 and 2 may count on. Assumes nothing.
use Prim.Native.Nat.{ℕ, ◌*◌}
use mathlib.Core.Bool.{Bool, true, false, ◌&&◌}
use mathlib.Core.Path.{◌≡◌, refl, sym, ap, ◌∙◌}
use mathlib.Core.List.{List}
use lib.Dec.{eqb}
use lib.Ieee.{Float}
use lib.ListN.{length}
use borrow.Author.Tests.{eqb-true, not-false}
use Rattle.model.specs.declared.Sizes.{Sizes}
use Rattle.worker.specs.declared.Worker.{Worker}
use Rattle.std.specs.Prelude.{Ok, Err}
use Rattle.model.specs.declared.Refusal.{Refusal}
use Rattle.model.specs.Answer.{Answer, accepted, refused_by}
use Rattle.model.specs.declared.Rule.{Rule}
use Rattle.model.specs.Lengths.{LentFits}
use Rattle.model.specs.Task.{tasks}
use Rattle.model.specs.Plan.{plan, plan_of, order}
use Rattle.model.specs.Calls.{Lent}
use Rattle.model.specs.Refusal.{Reply, refuse, replied, bad_lengths}
use Rattle.laws.proofs.Tests.{never, and_left, and_right}
use Rattle.records.specs.Records.{records_from, crew, lent}
use Rattle.records.proofs.Laws.{length_records, length_crew}
use Rattle.answers.specs.Answers.{accepts}

-- ---- one row of the table

pub refuses : (n : Rule) (x : ℕ) (b : Bool) (r : Answer) → b ≡ true → refuse n x b r ≡ refused_by n x
unfolding refuse
refuses n x true r e = refl
refuses n x false r e = never e refl

pub passes : (n : Rule) (x : ℕ) (b : Bool) (r : Answer) → b ≡ false → refuse n x b r ≡ r
unfolding refuse
passes n x true r e = never refl e
passes n x false r e = refl

-- ---- an answer that accepts, and one that doesn't

pub is_accepted : (a : Answer) (b : Bool) → b ≡ accepts a → b ≡ true → a ≡ accepted
unfolding accepts
is_accepted (Ok _) b e q = refl
is_accepted (Err why) b e q = never (sym e ∙ q) refl

pub not_accepted : (a : Answer) (b : Bool) (old new : Lent) → b ≡ accepts a → b ≡ false → ◌≡◌ {A = Reply} (record { answer = a; left = old }) (replied a old new)
unfolding accepts replied
not_accepted (Ok _) b old new e q = never refl (sym e ∙ q)
not_accepted (Err why) b old new e q = refl

-- ---- an answer that `?` lets through, and one that it passes on

pub accepts_ok : (a : Answer) (u : Unit {0}) → a ≡ Ok u → accepts a ≡ true
unfolding accepts
accepts_ok a u e = ap accepts e

pub accepts_err : (a : Answer) (why : Refusal) → a ≡ Err why → accepts a ≡ false
unfolding accepts
accepts_err a why e = ap accepts e

-- ---- lengths

module _ (z : Sizes) (m : List Float) (l : List ℕ) (r : List (List ℕ)) (slots : List Worker) (c number : ℕ)
    (e : bad_lengths (plan_of z) z.workers (lent m l r slots c number) ≡ false) where
  abbrev M : Bool
  M = eqb (length m) (z.tiles * z.side * (z.tiles * z.side))

  abbrev L : Bool
  L = eqb (length l) (z.tiles * z.tiles * z.side)

  abbrev R : Bool
  R = eqb (length (records_from r)) (length (tasks z.tiles))

  abbrev W : Bool
  W = eqb (length (crew slots c)) z.workers

  all_fit : (M && L && R && W) ≡ true
  unfolding bad_lengths lent plan order
  all_fit = not-false (M && L && R && W) e

  pub lengths_fit : LentFits z m l r
  lengths_fit =
      let three = and_left (M && L && R) W all_fit in
      let two = and_left (M && L) R three in
      record {
        buffers = record {
          matrix_fits = eqb-true (length m) (z.tiles * z.side * (z.tiles * z.side)) (and_left M L two);
          lists_fit = eqb-true (length l) (z.tiles * z.tiles * z.side) (and_right M L two);
        };
        records_fit = sym (length_records r) ∙ eqb-true (length (records_from r)) (length (tasks z.tiles)) (and_right (M && L) R three);
      }

  -- the workers are as many as the sizes say
  pub count_fits : c ≡ z.workers
  count_fits = sym (length_crew slots c) ∙ eqb-true (length (crew slots c)) z.workers (and_right (M && L && R) W all_fit)
