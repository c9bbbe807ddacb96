-- One step of a cursor by the way that the code takes it, and where it leads. Assumes nothing.
use Prim.Native.Nat.{ℕ, ◌+◌, ◌-◌, ◌≤◌, ◌<◌}
use mathlib.Core.Path.{◌≡◌, refl, ap}
use mathlib.Core.Bool.{Bool, true, false}
use mathlib.Core.List.{List}
use native.Mathlib.Nat.{add-sub_cancel_left}
use native.Mathlib.Omega.{arith}
use lib.Dec.{eqb, ltb}
use lib.ListN.{length, take, drop, length-drop}
use borrow.Author.Tests.{eq-eqb, ne_eqb, lt-ltb, le-ltb, ltb-false}
use Rattle.std.specs.Prelude.{Ok, Err}
use Rattle.model.specs.Answer.{Answer, accepted, refused_by}
use Rattle.model.specs.declared.Rule.TheVariants.{Malformed, WrongEnd}
use Rattle.model.specs.Refusal.{refuse}
use Rattle.model.specs.Read.{Frame, line_length, line_answer}
use Rattle.lines_read.proofs.Tested.{length_above}
use Rattle.cursors.specs.declared.Cursor.{Cursor}
use Rattle.cursors.specs.Steps.{CursorFits, line_due, landed, step_of}

-- ---- one step

module _ (t : ℕ) (text : List ℕ) (f : Frame) (c : Cursor) where
  left : length (drop c.at text) ≡ length text - c.at
  left = length-drop c.at text

  pub at_end : length text ≡ c.at → refused_by WrongEnd c.line ≡ step_of t text f c
  unfolding step_of line_due refuse
  at_end e = rw (eq-eqb (length (drop c.at text)) 0 (rw left (omega arith)))

  module _ (p : CursorFits text c) (n : length text ≡ c.at → ⊥) (s : ℕ) (size : s ≡ line_length t f.kind) where
    more : eqb (length (drop c.at text)) 0 ≡ false
    more = ne_eqb (length (drop c.at text)) 0 (λ e. n (omega (arith, p.within, left)))

    pub too_short : length text - c.at < s → refused_by Malformed c.line ≡ step_of t text f c
    unfolding step_of line_due refuse
    too_short h = rw (more, lt-ltb (length (drop c.at text)) (line_length t f.kind) (rw (left, ← size) h))

    pub by_line : (a : Answer) → s ≤ length text - c.at → a ≡ line_answer t c.line f (take (c.at + s - c.at) (drop c.at text)) accepted
        → landed a (record { at = c.at + s; line = c.line + 1 }) ≡ step_of t text f c
    unfolding step_of line_due refuse
    by_line a h e =
        rw (more, le-ltb (length (drop c.at text)) (line_length t f.kind) (rw (left, ← size) h), ← size)
        (ap (λ (b : Answer). landed b (record { at = c.at + s; line = c.line + 1 })) (rw (add-sub_cancel_left c.at s) at e))

-- ---- where a step leads

fits : (t x : ℕ) (f : Frame) (xs : List ℕ) → line_due t x f xs ≡ accepted → line_length t f.kind ≤ length xs
unfolding line_due refuse
fits t x f xs e = go (eqb (length xs) 0) (ltb (length xs) (line_length t f.kind)) refl e
  where
    go : (a b : Bool) → ltb (length xs) (line_length t f.kind) ≡ b
        → refuse WrongEnd x a (refuse Malformed x b (line_answer t x f (take (line_length t f.kind) xs) accepted)) ≡ accepted → line_length t f.kind ≤ length xs
    go true b q e = let z : ◌≡◌ {A = ℕ} 0 1 = cc in absurd (omega arith)
    go false true q e = let z : ◌≡◌ {A = ℕ} 0 1 = cc in absurd (omega arith)
    go false false q e = ltb-false (length xs) (line_length t f.kind) q

-- what a step that did not stop tells
pub record Stepped (t : ℕ) (text : List ℕ) (f : Frame) (c d : Cursor) : Type 0 where
  pub accepted : line_due t c.line f (drop c.at text) ≡ accepted
  pub room : line_length t f.kind ≤ length text - c.at
  pub next : d ≡ record { at = c.at + line_length t f.kind; line = c.line + 1 }

module _ (t : ℕ) (text : List ℕ) where
  pub stepped : (f : Frame) (c d : Cursor) → step_of t text f c ≡ Ok d → Stepped t text f c d
  unfolding step_of
  stepped f c d e = go (line_due t c.line f (drop c.at text)) refl e
    where
      c' : Cursor
      c' = record { at = c.at + line_length t f.kind; line = c.line + 1 }

      go : (a : Answer) → line_due t c.line f (drop c.at text) ≡ a → landed a c' ≡ Ok d → Stepped t text f c d
      go (Ok _) q e = record { accepted = q; room = rw (length-drop c.at text) at (fits t c.line f (drop c.at text) q); next = cc }
      go (Err why) q e = let z : ◌≡◌ {A = ℕ} 0 1 = cc in absurd (omega arith)

  pub step_placed : (f : Frame) (c d : Cursor) → CursorFits text c → step_of t text f c ≡ Ok d → CursorFits text d
  step_placed f c d p e =
      let s = stepped f c d e in
      let l = length_above t f.kind in
      rw s.next (record { within = omega (arith, s.room, p.within); counted = omega (arith, p.counted) })
