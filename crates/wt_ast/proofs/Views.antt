-- The tree of a query by the fields of the query.
use Rattle.std.proofs.Common.{◌≡◌, refl}
use Rattle.wt_ast.specs.declared.tree.Query.{Query, Query', out-Query, None', Some'}
use Rattle.wt_ast.specs.Tree.{select, query_tree, from_tree, filter_tree}

pub query_view : (q : Query) → query_tree q ≡ select (out-Query q).distinct (out-Query q).items (from_tree (out-Query q).from) (filter_tree (out-Query q).filter)
unfolding out-Query denote.Hole.Carrier.out
query_view (Query' distinct items from None') = refl
query_view (Query' distinct items from (Some' at kind)) = refl
