-- `start_block` meets its contract: column 0 makes the exchanges, any other none. Assumes nothing.
use Rattle.model.specs.Lists.{part}
use Rattle.column_laws.proofs.Permutes.{start_first, start_later}
use Rattle.block_starts.proofs.start_block.Goals as goal

pub returns-then-c-ne0 : goal.returns-then-c-ne0
returns-then-c-ne0 c =
    let a = c.args in start_later a.t a.w a.c a.a (part a.p a.t a.lists.now) a.m.now c.if-c-ne0.true

pub returns : goal.returns
returns c =
    let a = c.args in start_first a.t a.w a.c a.a (part a.p a.t a.lists.now) a.m.now _ c.if-c-ne0.false c.permute.ensures
