-- The part of the records goes on, and comes back in its place. Assumes nothing.
use mathlib.Core.Path.{◌≡◌, ◌∙◌}
use lib.ListN.{length, drop}
use lib.Seq.{length-take-le, take_at}
use Rattle.take_part.proofs.take_part.Goals as goal

pub returns : goal.returns
returns c =
    let long : length c.take.new.records ≡ c.args.n = c.take.auto.records ∙ length-take-le c.args.n c.args.records.now c.requires in
    (rw (take_at c.take.new.records (drop c.args.n c.args.records.now) c.args.n long) c.take.ensures.workers_after, c.take.ensures.others_kept)
