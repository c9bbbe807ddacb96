-- A column's end, with what it tells. Assumes nothing.
use Prim.Native.Nat.{ℕ, ◌+◌, ◌*◌}
use mathlib.Core.Path.{◌≡◌, ap, ◌∙◌}
use Rattle.model.specs.declared.ColumnEnd.{ColumnEnd}
use Rattle.model.specs.Buffer.{Buffers, Ended, mark_after, ties_after, ended_with}
use Rattle.bench_host.specs.Ends.{Tells}

pub ends : (s : Buffers) (n : ℕ) (end : ColumnEnd) (e : Ended) → n ≡ mark_after end + ties_after end * 256 → ended_with end s ≡ e → Tells e s n
ends s n end e q h = record { left = ap (λ (x : Ended). x.left) h; told = q ∙ ap (λ (x : Ended). x.mark + x.ties * 256) h }
