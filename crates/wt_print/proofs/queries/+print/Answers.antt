use Rattle.std.proofs.Common.{Some, ◌++◌, ◌∙◌, ◌≤◌, ap, sym, rules, arith, append_assoc, codes, subst}
use Rattle.std.proofs.lemmas.List.Elements.{All-pop}
use Rattle.wt_ast.specs.declared.tree.FromPart.{size-FromPart}
use Rattle.wt_ast.specs.Tree.{condition_tree, from_tree, kind_tree}
use Rattle.wt_print.specs.Links.{join_text, link_text, links_text, LinksFit}
use Rattle.wt_spelling.specs.Spelling as spec
use Rattle.wt_print.proofs.Chaining.{links_last, fit_more}
use Rattle.wt_print.proofs.Telling.{told, told_if}
use Rattle.wt_print.proofs.queries.+print.Goals as goal

pub add_condition-returns-in_ok-add_column-in-IsNotNull-clause-text : goal.add_condition-returns-in_ok-add_column-in-IsNotNull-clause-text
add_condition-returns-in_ok-add_column-in-IsNotNull-clause-text t c =
    told_if c.extend_from_slice-in-IsNotNull.result c.extend_from_slice-in-IsNotNull.new.self.items
    (c.add_column-in-IsNotNull.new.out.items ++ codes " IS NOT NULL") c.add_column-in-IsNotNull.new.out.items _
    (λ _ e.
    e
    ∙ ap (λ l. l ++ codes " IS NOT NULL") c.in_ok-add_column-in-IsNotNull.ensures
    ∙ append_assoc c.args.out.now.items (spec.column_text c.in-IsNotNull.column) (codes " IS NOT NULL")
    ∙ ap (λ k. c.args.out.now.items ++ spec.cond_text c.args.whole (kind_tree c.args.c.now.at k)) (sym c.in-IsNotNull.is))
    c.extend_from_slice-in-IsNotNull.ensures.items

pub add_from-add_link-requires-in-Some : goal.add_from-add_link-requires-in-Some
add_from-add_link-requires-in-Some t c =
    let small : size-FromPart c.in-Some.part.now ≤ size-FromPart c.args.from.now =
    (All-pop (λ p. size-FromPart p.now ≤ size-FromPart c.args.from.now) c.parts.parts.items c.pop.new.self.items (Some c.in-Some.part)
    c.in-Some.ensures.items c.parts.invariant.within).1 in
    search (rules, arith, small)

pub add_from-parts-preserved : goal.add_from-parts-preserved
add_from-parts-preserved t c =
    record {
      within = (All-pop (λ p. size-FromPart p.now ≤ size-FromPart c.args.from.now) c.parts.parts.items c.pop.new.self.items (Some c.in-Some.part)
          c.in-Some.ensures.items c.parts.invariant.within).0;
      text =
          ap (λ l. l ++ links_text c.pop.new.self.items) c.in_ok-add_link.ensures.text
          ∙ append_assoc c.parts.out.items (link_text (from_tree c.in-Some.part.now)) (links_text c.pop.new.self.items)
          ∙ ap (λ l. c.parts.out.items ++ l) (sym (links_last c.pop.new.self.items c.in-Some.part) ∙ ap links_text (sym c.in-Some.ensures.items))
          ∙ c.parts.invariant.text;
      fits = λ h. c.parts.invariant.fits (subst LinksFit (sym c.in-Some.ensures.items) (fit_more c.pop.new.self.items c.in-Some.part h c.in_ok-add_link.ensures.fits));
    }

pub add_link-returns-in-Right-clause-text : goal.add_link-returns-in-Right-clause-text
add_link-returns-in-Right-clause-text t c =
    told c.add_join-in-Right.result _ _
    (λ _ e.
    e
    ∙ ap (λ r. c.args.out.now.items ++ join_text (codes " RIGHT JOIN ") (from_tree r) (condition_tree c.in-Right.on)) c.deref-in-Right.ensures
    ∙ ap (λ p. c.args.out.now.items ++ link_text (from_tree p)) (sym c.in-Right.is))
    c.add_join-in-Right.ensures.text
