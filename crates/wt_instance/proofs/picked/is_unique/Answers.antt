use Rattle.std.proofs.Common.{refl}
use Rattle.std.proofs.lemmas.Bool.{false≢true}
use Rattle.wt_instance.proofs.Meetings.{unique_first}
use Rattle.wt_instance.proofs.picked.is_unique.Goals as goal

pub returns-then-not-matches_none : goal.returns-then-not-matches_none
returns-then-not-matches_none c = (
  λ h. absurd (false≢true h),
  λ u. c.if-not-matches_none.ensures.1 ((unique_first c.args.numbers.now c.rows.rows.now c.row-item.result _ c.in-len1-up.len_at_least c.row-item.is).0 (c.rows.invariant.1 u)).0,
)

pub rows-preserved : goal.rows-preserved
rows-preserved c =
    let first = unique_first c.args.numbers.now c.rows.rows.now c.row-item.result _ c.in-len1-up.len_at_least c.row-item.is in (
      λ u. c.rows.invariant.0 (first.1 (c.if-not-matches_none.ensures.0 refl, u)),
      λ u. (first.0 (c.rows.invariant.1 u)).1,
    )
