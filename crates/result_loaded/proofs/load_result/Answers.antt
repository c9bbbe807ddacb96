-- `result_loaded::load_result` meets its contract. Assumes nothing.
use Prim.Native.Nat.{ℕ, ◌-◌, ◌≤◌}
use mathlib.Core.Path.{◌≡◌, ◌∙◌}
use mathlib.Core.List.{List}
use native.Mathlib.Omega.{arith}
use lib.ListN.{length, drop, length-drop}
use lib.Seq.{length-take-le}
use Rattle.std.specs.Prelude.{Ok}
use Rattle.model.specs.declared.FileRead.TheVariants.{ResultRead}
use Rattle.result_loaded.specs.Results.{outcome_text, loaded_result}
use Rattle.result_loaded.proofs.load_result.Goals as goal

length_outcome : (text : List ℕ) → 9 ≤ length text → length (outcome_text text) ≡ 9
length_outcome text h =
    length-take-le (length text - (length text - 9)) (drop (length text - 9) text) (rw (length-drop (length text - 9) text) (omega arith)) ∙ omega arith

pub returns : goal.returns
unfolding loaded_result
returns c =
    λ i. record {
      answer = Ok (ResultRead c.args.tiles c.args.side (c.outcome_at-outcome.ensures i));
      matrix = c.load_tiles.ensures i;
      lists = c.load_lists.ensures i;
    }
