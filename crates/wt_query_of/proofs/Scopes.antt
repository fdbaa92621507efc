-- The columns of the items of two operands.
use Rattle.std.proofs.Common.{◌≡◌, List, [], ◌∷◌, ◌++◌, map, append_assoc, refl, sym, ap, ◌∙◌}
use Rattle.wt_schema.specs.declared.schema.Table.{Table}
use Rattle.wt_ast.specs.declared.tree.Condition.{Condition}
use Rattle.wt_ast.specs.Tree.{condition_tree}
use Rattle.wt_ast.proofs.Views.{query_view}
use Rattle.wt_tree_parts.specs.declared.leaf.Leaf.{Leaf}
use Rattle.wt_tree_parts.specs.Leaves.{leaf_scope, scope_of_leaves}

pub scope_both : (S : List Table) (xs ys : List Leaf) → scope_of_leaves S (xs ++ ys) ≡ scope_of_leaves S xs ++ scope_of_leaves S ys
scope_both S [] ys = refl
scope_both S (x ∷ xs) ys = ap (λ l. leaf_scope S x ++ l) (scope_both S xs ys) ∙ sym (append_assoc (leaf_scope S x) (scope_of_leaves S xs) (scope_of_leaves S ys))

pub trees_both : (xs ys : List Condition) → map condition_tree (xs ++ ys) ≡ map condition_tree xs ++ map condition_tree ys
trees_both [] ys = refl
trees_both (x ∷ xs) ys = ap (λ l. condition_tree x ∷ l) (trees_both xs ys)

pub ruleset scopes = (scope_both, trees_both)

pub ruleset queries = (query_view)
