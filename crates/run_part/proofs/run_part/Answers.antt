-- The part of the records goes on, and comes back in its place. Assumes nothing.
use mathlib.Core.Path.{◌≡◌, ◌∙◌}
use lib.ListN.{length, drop}
use lib.Seq.{length-take-le, take_at}
use Rattle.run_part.proofs.run_part.Goals as goal

pub returns : goal.returns
returns c =
    let long : length c.run.new.records ≡ c.args.n = c.run.auto.records ∙ length-take-le c.args.n c.args.records.now c.requires in
    (rw (take_at c.run.new.records (drop c.args.n c.args.records.now) c.args.n long) c.run.ensures.workers_after, c.run.ensures.others_kept)
