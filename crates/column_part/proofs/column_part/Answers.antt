-- The part of the records goes on, and comes back in its place. Assumes nothing.
use mathlib.Core.Path.{◌≡◌, ◌∙◌}
use lib.ListN.{length, drop}
use lib.Seq.{length-take-le, take_at}
use Rattle.column_part.proofs.column_part.Goals as goal

pub returns : goal.returns
returns c =
    let long : length c.column.new.records ≡ c.args.n = c.column.auto.records ∙ length-take-le c.args.n c.args.records.now c.requires in
    (rw (take_at c.column.new.records (drop c.args.n c.args.records.now) c.args.n long) c.column.ensures.workers_after, c.column.ensures.others_kept)
