use Rattle.std.proofs.Common.{◌≤◌, ◌++◌, ◌∙◌, ap, sym, subst, arith, append_assoc}
use Rattle.std.proofs.lemmas.List.Elements.{All-push}
use Rattle.wt_ast.specs.declared.tree.FromPart.{size-FromPart}
use Rattle.wt_ast.specs.Tree.{from_tree}
use Rattle.wt_print.specs.Links.{link_text, links_text, LinksFit, AreWithin}
use Rattle.wt_spelling.specs.Spelling as spec
use Rattle.wt_print.proofs.Chaining.{links_last, fit_last}
use Rattle.wt_print.proofs.links.links.Goals as goal

pub left-preserved : goal.left-preserved
left-preserved c =
    let pushed = c.in_ok-push.ensures.items in
    record {
      smaller = omega (arith, c.in-Some.ensures.smaller, c.left.invariant.smaller);
      within = subst (AreWithin (size-FromPart c.args.from.now)) (sym pushed)
          (All-push (λ p. size-FromPart p.now ≤ size-FromPart c.args.from.now) c.left.parts.items c.left.part c.left.invariant.within c.left.invariant.smaller);
      text =
          ap (λ ps. spec.from_text (from_tree c.in-Some.left.now) ++ links_text ps) pushed
          ∙ ap (λ l. spec.from_text (from_tree c.in-Some.left.now) ++ l) (links_last c.left.parts.items c.left.part)
          ∙ sym (append_assoc (spec.from_text (from_tree c.in-Some.left.now)) (link_text (from_tree c.left.part.now)) (links_text c.left.parts.items))
          ∙ ap (λ l. l ++ links_text c.left.parts.items) (sym c.in-Some.ensures.text)
          ∙ c.left.invariant.text;
      fits = λ left_fits links_fit.
          let (one, others) = fit_last c.left.parts.items c.left.part (subst LinksFit pushed links_fit) in
          c.left.invariant.fits (c.in-Some.ensures.fits left_fits one) others;
    }

pub returns-in-None-clause-within : goal.returns-in-None-clause-within
returns-in-None-clause-within c =
    subst (AreWithin (size-FromPart c.args.from.now)) (sym c.in_ok-push.ensures.items)
    (All-push (λ p. size-FromPart p.now ≤ size-FromPart c.args.from.now) c.left.parts.items c.left.part c.left.invariant.within c.left.invariant.smaller)

pub returns-in-None-clause-text : goal.returns-in-None-clause-text
returns-in-None-clause-text c =
    ap links_text c.in_ok-push.ensures.items
    ∙ links_last c.left.parts.items c.left.part
    ∙ ap (λ l. l ++ links_text c.left.parts.items) (sym c.in-None.ensures.whole)
    ∙ c.left.invariant.text

pub returns-in-None-clause-fits : goal.returns-in-None-clause-fits
returns-in-None-clause-fits c = λ links_fit.
    let (one, others) = fit_last c.left.parts.items c.left.part (subst LinksFit c.in_ok-push.ensures.items links_fit) in
    c.left.invariant.fits (c.in-None.ensures.whole_fits one) others
