use Rattle.std.proofs.Common.{◌≡◌, map, sym, ap, ◌∙◌, subst}
use Rattle.std.specs.Prelude.{OnOk}
use Rattle.wt_form.specs.Trees.{term_then}
use Rattle.wt_form.specs.Parts.{one_term}
use Rattle.wt_form.specs.Views.{terms_seen, ranges_seen, conds_seen}
use Rattle.wt_facts.specs.Facts.{known_of}
use Rattle.wt_congruent.specs.Refs.{range_behind}
use Rattle.wt_places.specs.Gained.{Gained}
use Rattle.wt_open.specs.Opens.{OpensTerms}
use Rattle.wt_open.proofs.places.push_opened_rows.Goals as goal

pub returns-in-Empty-deref : goal.returns-in-Empty-deref
returns-in-Empty-deref c =
    let t = c.in-More.inner.value in
    let u = c.deref-in-Empty-deref.result.now in
    let whole : terms_seen c.args.rows.now ≡ one_term (ranges_seen u.ranges) (conds_seen u.conds) u.pieces =
    ap terms_seen c.in-More.is ∙ ap (λ z. term_then (ranges_seen t.ranges) (conds_seen t.conds) t.pieces (terms_seen z)) (sym c.deref.ensures ∙ c.in-Empty-deref.is)
    ∙ ap (λ z. one_term (ranges_seen z.ranges) (conds_seen z.conds) z.pieces) (sym c.deref-in-Empty-deref.ensures) in
    subst (λ z. OnOk c.push_opened_over.result (Gained (map terms_seen c.args.out.now.items) (map terms_seen c.push_opened_over.new.out.items) (OpensTerms (known_of c.args.facts.now) c.args.nested (conds_seen c.args.term.now.conds) c.args.term.now.pieces (map range_behind c.args.before.now) c.args.head.now z (map range_behind c.args.after.now)))) (sym whole) c.push_opened_over.ensures
