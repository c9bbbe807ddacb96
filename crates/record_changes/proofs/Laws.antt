-- Laws of the records as lent: storing one, and changing one. Assumes nothing.
use Prim.Native.Nat.{ℕ, zero, suc}
use mathlib.Core.Path.{◌≡◌, refl, ap}
use mathlib.Core.List.{List, [], ◌∷◌}
use lib.ListN.{get_or, set}
use Rattle.std.proofs.lemmas.List.{map-set}
use Rattle.model.specs.declared.TaskRecord.{TaskRecord}
use Rattle.model.specs.Task.{t_1}
use Rattle.model.specs.Calls.{record_of, changed}
use Rattle.records.specs.Records.{record_from, records_from, blank}

-- what is read past the end is never stored
set_any : {A : Type 0} (f : A → A) (d e : A) (l : List A) (p : ℕ) → set l p (f (get_or l p d)) ≡ set l p (f (get_or l p e))
set_any f d e [] p = refl
set_any f d e (x ∷ l) zero = refl
set_any f d e (x ∷ l) (suc p) = ap (λ t. x ∷ t) (set_any f d e l p)

pub set_record : (l : List (List ℕ)) (p : ℕ) (b : List ℕ) → records_from (set l p b) ≡ set (records_from l) p (record_from b)
unfolding records_from
set_record l p b = map-set record_from l p b

-- what is done to task p's record
pub changed_is : (f : TaskRecord → TaskRecord) (l : List TaskRecord) (p : ℕ) → set l p (f (get_or l p blank)) ≡ changed p f l
unfolding changed
changed_is f l p = set_any f blank (record_of (t_1 0)) l p
