-- The links of a FROM clause, one more or one less at the end of their list.
use Rattle.std.proofs.Common.{Bor, ◌≡◌, List, [], ◌∷◌, ◌++◌, ap, sym, ◌∙◌, append_assoc, append-nil}
use Rattle.wt_ast.specs.declared.tree.FromPart.{FromPart}
use Rattle.wt_ast.specs.Tree.{from_tree}
use Rattle.wt_print.specs.Links.{link_text, links_text, LinkFits, LinksFit}

pub links_last : (ps : List (Bor FromPart)) (p : Bor FromPart) → links_text (ps ++ p ∷ []) ≡ link_text (from_tree p.now) ++ links_text ps
links_last [] p = sym (append-nil (link_text (from_tree p.now)))
links_last (x ∷ ps) p = ap (λ l. l ++ link_text (from_tree x.now)) (links_last ps p) ∙ append_assoc (link_text (from_tree p.now)) (links_text ps) (link_text (from_tree x.now))

pub fit_last : (ps : List (Bor FromPart)) (p : Bor FromPart) → LinksFit (ps ++ p ∷ []) → LinkFits (from_tree p.now) × LinksFit ps
fit_last [] p h = (h.0, tt)
fit_last (x ∷ ps) p h = let (one, others) = fit_last ps p h.1 in (one, (h.0, others))

pub fit_more : (ps : List (Bor FromPart)) (p : Bor FromPart) → LinksFit ps → LinkFits (from_tree p.now) → LinksFit (ps ++ p ∷ [])
fit_more [] p h f = (f, tt)
fit_more (x ∷ ps) p h f = (h.0, fit_more ps p h.1 f)
