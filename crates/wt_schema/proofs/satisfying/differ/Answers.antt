use Rattle.std.proofs.Common.{refl, arith, sym, subst, List}
use Rattle.std.specs.List.{All}
use Rattle.std.proofs.lemmas.Bool.{false≢true}
use Rattle.wt_value.specs.Values.{Tuple}
use Rattle.wt_schema.specs.Satisfying.{Differ}
use Rattle.wt_schema.proofs.Pairs.{pairs_from, pairs_more}
use Rattle.wt_schema.proofs.satisfying.differ.Goals as goal

pub returns-then-not-differs_from_all : goal.returns-then-not-differs_from_all
returns-then-not-differs_from_all c = (
  λ h. absurd (false≢true h),
  λ all. c.if-not-differs_from_all.ensures.1
      (subst (λ (l : List Tuple). All (Differ c.args.columns.now c.index-rows-i.result) l) (sym c.split_at.ensures.back)
      (pairs_from (Differ c.args.columns.now) c.args.rows.now c.rows.i c.index-rows-i.result c.rows-test.true c.index-rows-i.is all)),
)

pub rows-preserved : goal.rows-preserved
rows-preserved c = record {
  within = omega arith;
  differ = pairs_more (Differ c.args.columns.now) c.args.rows.now c.rows.i c.index-rows-i.result c.rows-test.true c.index-rows-i.is c.rows.invariant.differ
      (subst (λ (l : List Tuple). All (Differ c.args.columns.now c.index-rows-i.result) l) c.split_at.ensures.back (c.if-not-differs_from_all.ensures.0 refl));
}
