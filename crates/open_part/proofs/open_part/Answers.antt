-- The part of the records goes on, and comes back in its place. Assumes nothing.
use mathlib.Core.Path.{◌≡◌, ◌∙◌}
use lib.ListN.{length, drop}
use lib.Seq.{length-take-le, take_at}
use Rattle.open_part.proofs.open_part.Goals as goal

pub returns : goal.returns
returns c =
    let long : length c.open.new.records ≡ c.args.n = c.open.auto.records ∙ length-take-le c.args.n c.args.records.now c.requires in
    (rw (take_at c.open.new.records (drop c.args.n c.args.records.now) c.args.n long) c.open.ensures.workers_after, c.open.ensures.others_kept)
