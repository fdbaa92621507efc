use Rattle.std.proofs.Common.{ap}
use Rattle.wt_symbol.specs.Sides.{tree_of, size_of}
use Rattle.wt_translate.proofs.Sizes.{sides_join, head_short, inner_size, left_size, dedup_size}
use Rattle.wt_translate.proofs.SideForms.{form_ok, proj_is, filtered_is, inner_is, left_is, in_sub_is}
use Rattle.wt_translate.proofs.translate.+form_of.Goals as goal

pub inner_form-requires : goal.inner_form-requires
inner_form-requires t c =
    sides_join (tree_of c.deref-in-InnerJoin.result.now) (tree_of c.deref-in-InnerJoin-2.result.now) c.args.anchors.now (size_of (tree_of c.args.side.now)) _ _ c.requires.size
    (inner_size _ _ _ _ _ c.in-InnerJoin.a c.in-InnerJoin.b (ap tree_of c.in-InnerJoin.is) (ap tree_of c.deref-in-InnerJoin.ensures) (ap tree_of c.deref-in-InnerJoin-2.ensures)) (ap (λ f. f.terms) c.in_ok-left-in-InnerJoin.ensures) (ap (λ f. f.terms) c.in_ok-right-in-InnerJoin.ensures)

pub left_form-requires : goal.left_form-requires
left_form-requires t c =
    sides_join (tree_of c.deref-in-LeftJoin.result.now) (tree_of c.deref-in-LeftJoin-2.result.now) c.args.anchors.now (size_of (tree_of c.args.side.now)) _ _ c.requires.size
    (left_size _ _ _ _ _ c.in-LeftJoin.a c.in-LeftJoin.b (ap tree_of c.in-LeftJoin.is) (ap tree_of c.deref-in-LeftJoin.ensures) (ap tree_of c.deref-in-LeftJoin-2.ensures)) (ap (λ f. f.terms) c.in_ok-left-in-LeftJoin.ensures) (ap (λ f. f.terms) c.in_ok-right-in-LeftJoin.ensures)

pub distinct_form-requires : goal.distinct_form-requires
distinct_form-requires t c =
    head_short (tree_of c.deref-in-Dedup.result.now) c.args.anchors.now (size_of (tree_of c.args.side.now)) _ c.requires.size (dedup_size _ _ _ (ap tree_of c.in-Dedup.is) (ap tree_of c.deref-in-Dedup.ensures)) (ap (λ f. f.head) c.in_ok-form_of-in-Dedup.ensures)

pub returns-in_ok-form-in-Proj : goal.returns-in_ok-form-in-Proj
returns-in_ok-form-in-Proj t c =
    form_ok _ _ _ _ c.projected_form.ensures.head c.projected_form.ensures.terms
    (proj_is c.args.anchors.now _ _ _ c.in-Proj.list _ _ _ (ap tree_of c.in-Proj.is) (ap tree_of c.deref.ensures) c.in_ok-form-in-Proj.ensures c.columns_of.ensures.list c.columns_of.ensures.anchor)

pub returns-in_ok-form-in-Filter : goal.returns-in_ok-form-in-Filter
returns-in_ok-form-in-Filter t c =
    form_ok _ _ _ _ c.filtered_form.ensures.head c.filtered_form.ensures.terms
    (filtered_is c.args.anchors.now _ _ _ c.in-Filter.pred c.in-Filter.list _ _ _ (ap tree_of c.in-Filter.is) (ap tree_of c.deref-in-Filter.ensures) c.in_ok-form-in-Filter.ensures c.columns_of-in-Filter.ensures.list c.columns_of-in-Filter.ensures.anchor)

pub returns-in_ok-right-in-InnerJoin : goal.returns-in_ok-right-in-InnerJoin
returns-in_ok-right-in-InnerJoin t c =
    form_ok _ _ _ _ c.inner_form.ensures.head c.inner_form.ensures.terms
    (inner_is c.args.anchors.now _ _ _ _ _ c.in-InnerJoin.a c.in-InnerJoin.b _ _ _ _ _ _ (ap tree_of c.in-InnerJoin.is) (ap tree_of c.deref-in-InnerJoin.ensures) (ap tree_of c.deref-in-InnerJoin-2.ensures) c.in_ok-left-in-InnerJoin.ensures c.in_ok-right-in-InnerJoin.ensures
    c.columns_of-in-InnerJoin.ensures.list c.columns_of-in-InnerJoin.ensures.anchor c.columns_of-in-InnerJoin-2.ensures.list c.columns_of-in-InnerJoin-2.ensures.anchor)

pub returns-in_ok-right-in-LeftJoin : goal.returns-in_ok-right-in-LeftJoin
returns-in_ok-right-in-LeftJoin t c =
    form_ok _ _ _ _ c.left_form.ensures.head c.left_form.ensures.terms
    (left_is c.args.anchors.now _ _ _ _ _ c.in-LeftJoin.a c.in-LeftJoin.b _ _ _ _ _ _ (ap tree_of c.in-LeftJoin.is) (ap tree_of c.deref-in-LeftJoin.ensures) (ap tree_of c.deref-in-LeftJoin-2.ensures) c.in_ok-left-in-LeftJoin.ensures c.in_ok-right-in-LeftJoin.ensures
    c.columns_of-in-LeftJoin.ensures.list c.columns_of-in-LeftJoin.ensures.anchor c.columns_of-in-LeftJoin-2.ensures.list c.columns_of-in-LeftJoin-2.ensures.anchor)

pub returns-in_ok-right-in-InSub : goal.returns-in_ok-right-in-InSub
returns-in_ok-right-in-InSub t c =
    form_ok _ _ _ _ c.contained_form.ensures.head c.contained_form.ensures.terms
    (in_sub_is c.args.anchors.now _ _ _ _ _ c.in-InSub.list _ _ _ _ (ap tree_of c.in-InSub.is) (ap tree_of c.deref-in-InSub.ensures) (ap tree_of c.deref-in-InSub-2.ensures) c.in_ok-form-in-InSub.ensures c.in_ok-right-in-InSub.ensures
    c.columns_of-in-InSub.ensures.list c.columns_of-in-InSub.ensures.anchor)
