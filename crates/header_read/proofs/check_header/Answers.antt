-- `header_read::check_header` meets its contract, a law for each way out. Assumes nothing.
use mathlib.Core.Path.{sym, ap, ◌∙◌}
use native.Mathlib.Omega.{arith}
use borrow.Author.Tests.{eqb-true, eqb-false}
use Rattle.std.specs.Prelude.{Err}
use Rattle.model.specs.Read.{kind_in, tiles_in, side_in}
use Rattle.header_read.proofs.Heads.{no_text, short_text, header_12, header_13, header_1, header_shape, header_field}
use Rattle.header_read.proofs.check_header.Goals as goal

pub returns-then-is_empty : goal.returns-then-is_empty
returns-then-is_empty c =
    ap Err c.at.ensures ∙ no_text _ _ (eqb-true _ 0 (sym c.is_empty.ensures ∙ c.if-is_empty.true))

pub returns-then-text-lt7 : goal.returns-then-text-lt7
returns-then-text-lt7 c =
    ap Err c.at-then-text-lt7.ensures ∙ short_text _ _ (eqb-false _ 0 (sym c.is_empty.ensures ∙ c.if-is_empty.false)) c.if-text-lt7.true

pub returns-then-is_malformed : goal.returns-then-is_malformed
returns-then-is_malformed c =
    ap Err c.at-then-is_malformed.ensures ∙ header_12 _ _ (eqb-false _ 0 (sym c.is_empty.ensures ∙ c.if-is_empty.false)) c.if-text-lt7.false (sym c.is_malformed.ensures ∙ c.if-is_malformed.true)

pub field_at-requires : goal.field_at-requires
field_at-requires c =
    header_field c.args.text.now 0 2 c.if-text-lt7.false (sym c.is_malformed.ensures ∙ c.if-is_malformed.false) (omega arith)

pub returns-then-field_at-ne1 : goal.returns-then-field_at-ne1
unfolding kind_in
returns-then-field_at-ne1 c =
    ap Err c.at-then-field_at-ne1.ensures ∙ header_13 _ _ (eqb-false _ 0 (sym c.is_empty.ensures ∙ c.if-is_empty.false)) c.if-text-lt7.false (sym c.is_malformed.ensures ∙ c.if-is_malformed.false) (λ e. c.if-field_at-ne1.true (c.field_at.ensures ∙ e))

pub field_at-tiles-requires : goal.field_at-tiles-requires
field_at-tiles-requires c =
    header_field c.args.text.now 2 2 c.if-text-lt7.false (sym c.is_malformed.ensures ∙ c.if-is_malformed.false) (omega arith)

pub field_at-side-requires : goal.field_at-side-requires
field_at-side-requires c =
    header_field c.args.text.now 4 2 c.if-text-lt7.false (sym c.is_malformed.ensures ∙ c.if-is_malformed.false) (omega arith)

pub returns-then-refused_shape : goal.returns-then-refused_shape
unfolding kind_in tiles_in side_in
returns-then-refused_shape c =
    ap Err c.at-then-refused_shape.ensures ∙ header_1 _ _ (eqb-false _ 0 (sym c.is_empty.ensures ∙ c.if-is_empty.false)) c.if-text-lt7.false (sym c.is_malformed.ensures ∙ c.if-is_malformed.false) (sym c.field_at.ensures ∙ c.if-field_at-ne1.false) _ _
    c.field_at-tiles.ensures c.field_at-side.ensures (sym c.refused_shape.ensures ∙ c.if-refused_shape.true)

pub returns : goal.returns
unfolding kind_in tiles_in side_in
returns c =
    header_shape _ _ (eqb-false _ 0 (sym c.is_empty.ensures ∙ c.if-is_empty.false)) c.if-text-lt7.false (sym c.is_malformed.ensures ∙ c.if-is_malformed.false) (sym c.field_at.ensures ∙ c.if-field_at-ne1.false) _ _
    c.field_at-tiles.ensures c.field_at-side.ensures (sym c.refused_shape.ensures ∙ c.if-refused_shape.false)
