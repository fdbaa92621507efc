use Rattle.std.proofs.Common.{◌≡◌, map, sym, ap, ◌∙◌, subst}
use Rattle.std.specs.Prelude.{OnOk}
use Rattle.wt_form.specs.Trees.{distinct_of}
use Rattle.wt_form.specs.Views.{terms_seen, range_seen, conds_seen}
use Rattle.wt_facts.specs.Facts.{known_of}
use Rattle.wt_congruent.specs.Refs.{range_behind}
use Rattle.wt_places.specs.Gained.{Gained}
use Rattle.wt_open.specs.Opens.{OpensAt}
use Rattle.wt_open.proofs.places.push_opened_at.Goals as goal

pub returns-in-Distinct : goal.returns-in-Distinct
returns-in-Distinct c =
    let f = c.in-Distinct.form.value in
    let whole : range_seen c.args.range.now ≡ distinct_of c.deref.result.now.head (terms_seen c.deref-in-Distinct.result.now.terms) =
    ap range_seen c.in-Distinct.is ∙ ap (λ z. distinct_of z.head (terms_seen f.terms)) (sym c.deref.ensures)
    ∙ ap (λ z. distinct_of c.deref.result.now.head (terms_seen z.terms)) (sym c.deref-in-Distinct.ensures) in
    subst (λ z. OnOk c.push_opened_rows.result (Gained (map terms_seen c.args.out.now.items) (map terms_seen c.push_opened_rows.new.out.items) (OpensAt (known_of c.args.facts.now) c.args.nested (conds_seen c.args.term.now.conds) c.args.term.now.pieces (map range_behind c.args.before.now) z (map range_behind c.args.after.now)))) (sym whole) c.push_opened_rows.ensures
