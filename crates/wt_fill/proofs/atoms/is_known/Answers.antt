use Rattle.std.proofs.Common.{◌≡◌, sym, ap, ◌∙◌, subst}
use Rattle.std.specs.Prelude.{IsTrue}
use Rattle.std.specs.List.{list_all}
use Rattle.wt_symbol.specs.Heads.{anchor}
use Rattle.wt_constraint.specs.declared.atom.Atom.{Atom}
use Rattle.wt_known.specs.Facts.{not_null}
use Rattle.wt_matching.specs.Filling.{leaf_plan, list_of}
use Rattle.wt_matching.specs.Matching.{AtomKnown}
use Rattle.wt_found.specs.Seen.{assigned_in}
use Rattle.wt_fill.proofs.atoms.is_known.Goals as goal

pub returns-in-NotNull : goal.returns-in-NotNull
returns-in-NotNull g c =
    let S = g.F.Facts.tables c.args.facts.now in
    let A = c.args.given.now.anchors.now in
    let m = assigned_in c.args.given.now.found.now in
    let p = leaf_plan m (anchor A c.in-NotNull.a) in
    let known : c.known_not_null.result ≡ list_all (not_null S p) (list_of m c.in-NotNull.a) =
    c.known_not_null.ensures.exact ∙ (ap (λ q. list_all (not_null S q) c.list-in-NotNull.result.now) c.at_anchor-in-NotNull.ensures ∙ ap (list_all (not_null S p)) c.list-in-NotNull.ensures) in
    subst (λ (x : Atom). (IsTrue c.known_not_null.result → AtomKnown S A m x) × (AtomKnown S A m x → IsTrue c.known_not_null.result)) (sym c.in-NotNull.is) (λ h. sym known ∙ h, λ h. known ∙ h)
