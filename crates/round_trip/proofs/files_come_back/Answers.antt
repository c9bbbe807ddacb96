-- `files_come_back` meets its contract, which is the theorem. Assumes nothing.
use Rattle.round_trip.proofs.Systems.{system_read, system_again}
use Rattle.round_trip.proofs.Results.{result_read, result_again}
use Rattle.round_trip.proofs.files_come_back.Goals as goal

pub returns : goal.returns
returns c =
    let N = c.args.tiles in
    let t = c.args.side in
    record {
      system_read = λ shape m l w m₀ b. system_read N t m shape w l m₀ b;
      result_read = λ shape m l o w v p m₀ l₀ b. result_read N t m l o shape w v p m₀ l₀ b.matrix b.lists;
      system_again = λ text m₀ m l. system_again text m₀ N t m l;
      result_again = λ text m₀ l₀ o m l. result_again text m₀ l₀ N t o m l;
    }
