-- After p turns the first p records are the numbering's, and the triple in hand is task p's. Assumes nothing.
use Prim.Native.Nat.{◌<◌}
use mathlib.Core.Path.{◌≡◌}
use Rattle.records.specs.Records.{records_from}
use Rattle.links.specs.Closed.{key, In, number}
use Rattle.opened.proofs.Laws.{Numbered}
use Rattle.opened.proofs.number_records.Given as goal

abbrev pub invariant-loop-p : goal.invariant-loop-p
invariant-loop-p l = (number l.n (key l.a.k l.a.i l.a.j) ≡ l.p) × (l.p < l.p-end → In l.n (key l.a.k l.a.i l.a.j)) × Numbered l.n (records_from l.records) l.p
