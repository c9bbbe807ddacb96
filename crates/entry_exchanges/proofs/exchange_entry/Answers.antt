-- `exchange_entry` meets its contract: entry 0 exchanges nothing, and entry r + 1 names row r of the lower block. Assumes nothing.
use mathlib.Core.Path.{◌≡◌, refl, ◌∙◌}
use mathlib.Core.Logic.{inr}
use Prim.Native.Nat.{suc, ◌+◌, ◌-◌, ◌<◌}
use native.Mathlib.Omega.{arith}
use Rattle.column_laws.proofs.Exchanges.{exchange_entry, exchange_none, runs_apart}
use Rattle.laws.proofs.Blocks.{row_end}
use Rattle.entry_exchanges.proofs.exchange_entry.Goals as goal

pub returns-then-e-eq0 : goal.returns-then-e-eq0
returns-then-e-eq0 c =
    let a = c.args in let b = c.requires.two_blocks in rw c.if-e-eq0.true (exchange_none a.t a.w a.u a.d a.c c.requires.f_le_w.1 a.m.now b.upper_room b.lower_room b.apart a.f)

pub exchange-requires : goal.exchange-requires
exchange-requires c =
    let above : 0 < c.args.e = omega (arith, c.if-e-eq0.false) in let a = c.args in
    let b = c.requires.two_blocks in
    let h = c.requires.f_le_w in
    let y : a.e - 1 < a.t = omega (arith, h.2, above) in
    let ends : a.f + (a.w - a.f) ≡ a.w = omega (arith, h.0) in
    (omega (arith, b.upper_room, h.0, row_end a.c a.t a.w h.1), omega (arith, b.lower_room, h.0, row_end (a.e - 1) a.t a.w y), inr (runs_apart a.t a.w a.u a.d a.c h.1 b.apart (a.e - 1) a.f (a.w - a.f) y ends))

pub returns : goal.returns
returns c =
    let above : 0 < c.args.e = omega (arith, c.if-e-eq0.false) in let a = c.args in
    let b = c.requires.two_blocks in
    let h = c.requires.f_le_w in
    let one : a.e ≡ suc (a.e - 1) = omega (arith, above) in
    let ends : a.f + (a.w - a.f) ≡ a.w = omega (arith, h.0) in
    c.exchange.ensures
    ∙ exchange_entry a.t a.w a.u a.d a.c h.1 a.m.now b.upper_room b.lower_room b.apart (a.e - 1) a.f (a.w - a.f) (omega (arith, h.2, above)) ends a.e _ _ one refl refl
