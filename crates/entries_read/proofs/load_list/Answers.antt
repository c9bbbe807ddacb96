-- `entries_read::load_list` meets its contract, a law for each side of the diagonal. Assumes nothing.
use Prim.Native.Nat.{ℕ, ◌+◌, ◌*◌}
use mathlib.Core.Path.{ap, ◌∙◌}
use native.Mathlib.Nat.{add-sub_cancel_left}
use lib.ListN.{length, take, drop}
use Rattle.model.specs.Read.{entries_in}
use Rattle.entries_read.specs.Entries.{list_size}
use Rattle.entries_read.proofs.Held.{list_above, list_held}
use Rattle.entries_read.proofs.load_list.Goals as goal

pub returns-then-i-j : goal.returns-then-i-j
returns-then-i-j c =
    c.fill.ensures.after (λ y e. e) ∙ list_above _ _ _ _ _ c.if-i-j.true

pub returns : goal.returns
returns c =
    let a = c.args in
    let n = length a.list.now in
    let from = a.at + a.j * list_size n in
    c.load_entries.ensures ∙ ap (λ (k : ℕ). entries_in n (take k (drop from a.text.now))) (add-sub_cancel_left from (list_size n)) ∙ list_held _ _ _ _ _ c.if-i-j.false
