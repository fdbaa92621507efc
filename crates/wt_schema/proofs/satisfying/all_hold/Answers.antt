use Rattle.std.proofs.Common.{refl, ◌<◌, length, arith, sym, ◌∙◌, get_or, ap}
use Rattle.std.proofs.lemmas.Bool.{false≢true}
use Rattle.wt_schema.proofs.Holding.{hold_more, holds_at}
use Rattle.wt_schema.proofs.satisfying.all_hold.Goals as goal

pub returns-then-not-table_holds : goal.returns-then-not-table_holds
returns-then-not-table_holds c =
    let within : c.tables.i < length c.args.base.now = omega (arith, c.requires) in (
      λ h. absurd (false≢true h),
      λ all. c.if-not-table_holds.ensures.1 (holds_at c.args.tables.now c.args.base.now c.tables.i c.index-tables-i.result c.as_slice.result.now c.tables-test.true within c.index-tables-i.is (c.as_slice.ensures ∙ c.index-base-i.is ∙ ap (λ d. get_or c.args.base.now c.tables.i d) (sym c.as_slice.ensures)) all),
    )

pub tables-preserved : goal.tables-preserved
tables-preserved c =
    let within : c.tables.i < length c.args.base.now = omega (arith, c.requires) in
    record {
      within = omega arith;
      hold = hold_more c.args.tables.now c.args.base.now c.tables.i c.index-tables-i.result c.as_slice.result.now c.tables-test.true within c.index-tables-i.is (c.as_slice.ensures ∙ c.index-base-i.is ∙ ap (λ d. get_or c.args.base.now c.tables.i d) (sym c.as_slice.ensures)) c.tables.invariant.hold (c.if-not-table_holds.ensures.0 refl);
    }
