-- The worker's column is due, and what it leaves is stored. Assumes nothing.
use Prim.Native.Nat.{◌≤◌}
use mathlib.Core.Path.{refl}
use native.Mathlib.Omega.{arith}
use lib.ListN.{length}
use lib.Seq.{drop-set-lt}
use Rattle.records.proofs.Laws.{length_slots}
use Rattle.call_laws.proofs.Undamaged.{number_small}
use Rattle.advancing.proofs.Laws.{due, state_after, recounted}
use Rattle.advancing.proofs.advance_worker.Goals as goal

pub overflow_add-number : goal.overflow_add-number
overflow_add-number c =
    omega (arith, number_small c.args.z _ _ _ c.args.workers.slots c.args.workers.number c.requires.0.sound.sizes c.requires.0.sound.undamaged)

pub advance-requires : goal.advance-requires
advance-requires c =
    (due _ _ _ _ _ c.args.workers.slots c.args.workers.number c.requires.0, omega (arith, c.requires.0.exists, c.requires.0.sound.sizes.few_workers))

pub returns : goal.returns
returns c =
    let a = c.advance.ensures in
    let z = c.args.z in
    let ws = c.args.workers in
    let k : z.workers ≤ length ws.slots = omega (arith, c.requires.0.sound.sizes.few_workers, length_slots ws _ c.well_formed.1.1.1.1.0.1.1.0.1.0.1) in record { result_after = recounted z c.args.w _ ws.number _ _ _ _ _ _ _ _ _ c.requires.1 (state_after z _ _ _ ws.slots ws.number _ k c.requires.0.exists _ refl _ _ _ a.end _ (a.ends ws.slots ws.number) a.records a.worker); others_kept = record { same_count = refl; same_slots = drop-set-lt ws.count _ c.args.w _ (omega (arith, c.requires.0.exists, c.requires.1)) } }
