-- From a call over workers by value to the call over a host's arrays. Assumes nothing.
use Prim.Native.Nat.{ℕ}
use mathlib.Core.Path.{◌≡◌, refl, sym, ap, subst, ◌∙◌}
use mathlib.Core.List.{List}
use lib.Ieee.{Float}
use lib.ListN.{get_or, drop}
use Rattle.model.specs.Answer.{Answer, RunAnswer}
use Rattle.worker.specs.declared.Worker.{Worker}
use Rattle.worker.specs.declared.Workers.{Workers}
use Rattle.model.specs.declared.CallReply.{CallReply}
use Rattle.model.specs.Calls.{Lent, RunEnd}
use Rattle.model.specs.Refusal.{Reply}
use Rattle.model.specs.Solve.{Answers}
use Rattle.records.specs.Records.{all_lent, OthersKept}
use Rattle.host_answers.specs.declared.Told.{Told}
use Rattle.host_answers.specs.Answers.{told, run_told}
use Rattle.host_workers.specs.Workers.{workers_in, bytes_left}
use Rattle.host_workers.proofs.Laws.{own_left}
use Rattle.host_calls.specs.Hosted.{Hosted, Kept, Called, Ran, Solved}

-- b, t, c and left are the workers in the arrays before and after; those by value are the same
module _ (m m' : List Float) (l l' : List ℕ) (r r' : List (List ℕ)) (b b' t c : List ℕ) (count number number' : ℕ) (left : List Worker) (gathered : Workers) (g : gathered ≡ workers_in b t c count number) (said : Told) where
  abbrev given : Workers
  given = workers_in b t c count number

  abbrev before : Hosted
  before = record { matrix = m; lists = l; records = r; busy = b; workers = given }

  abbrev after : Hosted
  after = record { matrix = m'; lists = l'; records = r'; busy = b'; workers = record { slots = left; count = given.count; number = number' } }

  module _ (ws : Workers) (k : OthersKept gathered ws) (s : left ≡ ws.slots) (q : b' ≡ bytes_left b ws.slots) (n : number' ≡ ws.number) where
    back : after.workers ≡ ws
    back = λ i. record { slots = s i; count = (ap (λ (x : Workers). x.count) (sym g) ∙ sym k.same_count) i; number = n i }

    kept : Kept before after
    kept = record {
      others = record {
        same_count = refl;
        same_slots = ap (drop given.count) s ∙ subst (λ (x : Workers). drop x.count ws.slots ≡ drop x.count x.slots) g k.same_slots;
      };
      bytes = q ∙ ap (bytes_left b) (sym s);
      own = λ v h e. ap (λ (x : List ℕ). get_or x v 0) (q ∙ ap (bytes_left b) (sym s)) ∙ own_left b t c left v h e;
    }

  pub call_said : (call : Lent → Reply) (reply : CallReply Answer) → ◌≡◌ {A = Reply} (record { answer = reply.answer; left = all_lent m' l' r' reply.workers }) (call (all_lent m l r gathered))
      → OthersKept gathered reply.workers → left ≡ reply.workers.slots → b' ≡ bytes_left b reply.workers.slots → number' ≡ reply.workers.number → said ≡ told reply.answer → Called call before after said
  call_said call reply e k s q n a = record {
    tells = a ∙ ap (λ (x : Reply). told x.answer) e ∙ ap (λ x. told (call (all_lent m l r x)).answer) g;
    leaves = ap (all_lent m' l' r') (back reply.workers k s q n) ∙ ap (λ (x : Reply). x.left) e ∙ ap (λ x. (call (all_lent m l r x)).left) g;
    keeps = kept reply.workers k s q n;
  }

  pub run_said : (call : Lent → RunEnd) (reply : CallReply RunAnswer) → ◌≡◌ {A = RunEnd} (record { answer = reply.answer; left = all_lent m' l' r' reply.workers }) (call (all_lent m l r gathered))
      → OthersKept gathered reply.workers → left ≡ reply.workers.slots → b' ≡ bytes_left b reply.workers.slots → number' ≡ reply.workers.number → said ≡ run_told reply.answer → Ran call before after said
  run_said call reply e k s q n a = record {
    tells = a ∙ ap (λ (x : RunEnd). run_told x.answer) e ∙ ap (λ x. run_told (call (all_lent m l r x)).answer) g;
    leaves = ap (all_lent m' l' r') (back reply.workers k s q n) ∙ ap (λ (x : RunEnd). x.left) e ∙ ap (λ x. (call (all_lent m l r x)).left) g;
    keeps = kept reply.workers k s q n;
  }

module _ (m : List Float) (l : List ℕ) (r : List (List ℕ)) (given gathered : Workers) (g : gathered ≡ given) (t : Told) where
  pub solve_said : (call : Lent → Answers) (a : Answer) (x : List Float) → ◌≡◌ {A = Answers} (record { answer = a; left = x }) (call (all_lent m l r gathered))
      → t ≡ told a → Solved (call (all_lent m l r given)) x t
  solve_said call a x e s = record {
    tells = s ∙ ap (λ (k : Answers). told k.answer) e ∙ ap (λ k. told (call (all_lent m l r k)).answer) g;
    leaves = ap (λ (k : Answers). k.left) e ∙ ap (λ k. (call (all_lent m l r k)).left) g;
  }
