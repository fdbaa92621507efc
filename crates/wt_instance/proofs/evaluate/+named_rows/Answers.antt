use Rattle.wt_symbol.specs.Sides.{tree_of}
use Rattle.wt_instance.proofs.Sides.{if_ok, filtered_rows, left_join_rows, in_sub_rows}
use Rattle.wt_instance.proofs.evaluate.+named_rows.Goals as goal

pub returns-in_ok-rows-in-Filter : goal.returns-in_ok-rows-in-Filter
returns-in_ok-rows-in-Filter t c =
    rw c.in-Filter.is
    (if_ok _ _ _ c.keep_true.ensures
    (filtered_rows c.args.anchors.now c.args.instance.now c.in-Filter.p c.in-Filter.a (tree_of c.in-Filter.s.value) _ (rw c.deref-in-Filter.ensures at c.in_ok-rows-in-Filter.ensures)))

pub returns-in_ok-columns-in-LeftJoin : goal.returns-in_ok-columns-in-LeftJoin
returns-in_ok-columns-in-LeftJoin t c =
    rw c.in-LeftJoin.is
    (if_ok _ _ _ c.left_join.ensures
    (left_join_rows c.args.anchors.now c.args.instance.now c.in-LeftJoin.a c.in-LeftJoin.b (tree_of c.in-LeftJoin.s.value) (tree_of c.in-LeftJoin.t.value) _ _ _
    (rw c.deref-in-LeftJoin.ensures at c.in_ok-lefts-in-LeftJoin.ensures) (rw c.deref-in-LeftJoin-2.ensures at c.in_ok-rights-in-LeftJoin.ensures)
    (rw c.deref-in-LeftJoin-3.ensures at c.in_ok-columns-in-LeftJoin.ensures)))

pub returns-in_ok-rights-in-InSub-2 : goal.returns-in_ok-rights-in-InSub-2
returns-in_ok-rights-in-InSub-2 t c =
    rw c.in-InSub.is
    (if_ok _ _ _ c.keep_matched.ensures
    (in_sub_rows c.args.anchors.now c.args.instance.now c.in-InSub.a (tree_of c.in-InSub.s.value) (tree_of c.in-InSub.t.value) _ _ _
    (rw c.deref-in-InSub.ensures at c.in_ok-lefts-in-InSub.ensures) (rw c.deref-in-InSub-2.ensures at c.in_ok-rights-in-InSub.ensures)
    c.in_ok-rights-in-InSub-2.ensures))
