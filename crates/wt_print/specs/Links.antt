-- Of contracts of private functions alone: a FROM clause as its first part and what stands behind it, from the last join back.
use Rattle.std.proofs.Common.{Bor}
use Rattle.std.specs.Prelude.{ℕ, ◌≤◌, List, [], ◌∷◌, ◌++◌, All, codes}
use Rattle.wt_ast.specs.Tree.{FromTree, inner_join, left_join, right_join, comma}
use Rattle.wt_ast.specs.declared.tree.FromPart.{FromPart, size-FromPart}
use Rattle.wt_ast.specs.Tree.{from_tree, CondTree}
use Rattle.wt_spelling.specs.Numbers.{FitsFrom, FitsCond}
use Rattle.wt_spelling.specs.Spelling.{from_text, whole_text, bracketed, is_join}

-- the words of a join, its right operand and its condition
abbrev pub join_text : List ℕ → FromTree → CondTree → List ℕ
join_text words right on = words ++ (bracketed (is_join right) (from_text right) ++ (codes " ON " ++ whole_text on))

-- what stands behind the left operand; a part that is no join is all that there is
abbrev pub link_text : FromTree → List ℕ
link_text (inner_join left right on on_at) = join_text (codes " INNER JOIN ") right on
link_text (left_join left right on on_at) = join_text (codes " LEFT JOIN ") right on
link_text (right_join left right on on_at) = join_text (codes " RIGHT JOIN ") right on
link_text (comma left right comma_at) = codes ", " ++ from_text right
link_text part = from_text part

-- the same without the left operand
abbrev pub LinkFits : FromTree → Type 0
LinkFits (inner_join left right on on_at) = FitsFrom right × FitsCond on
LinkFits (left_join left right on on_at) = FitsFrom right × FitsCond on
LinkFits (right_join left right on on_at) = FitsFrom right × FitsCond on
LinkFits (comma left right comma_at) = FitsFrom right
LinkFits part = FitsFrom part

-- the links from the last one back
abbrev pub links_text : List (Bor FromPart) → List ℕ
links_text [] = []
links_text (p ∷ ps) = links_text ps ++ link_text (from_tree p.now)

abbrev pub LinksFit : List (Bor FromPart) → Type 0
LinksFit [] = Unit {0}
LinksFit (p ∷ ps) = LinkFits (from_tree p.now) × LinksFit ps

-- the parts are no deeper than what they are parts of
abbrev pub AreWithin : ℕ → List (Bor FromPart) → Type 0
AreWithin most parts = All (λ p. size-FromPart p.now ≤ most) parts
