-- The FROM items of a zone with their columns, as the code keeps them. Private contracts alone cite this file.
use Rattle.std.specs.Prelude.{ℕ, List, [], ◌∷◌, ◌++◌, map}
use Rattle.wt_schema.specs.declared.schema.Table.{Table}
use Rattle.wt_query_rows.specs.declared.scope.ScopeColumn.{ScopeColumn}
use Rattle.wt_query_rows.specs.Scopes.{in_scope}
use Rattle.wt_blocks.specs.Printed.{table_columns, place_names}
use Rattle.wt_tree_parts.specs.declared.leaf.LeafColumns.{LeafColumns}
use Rattle.wt_tree_parts.specs.declared.leaf.LeafColumns.TheVariants as kinds
use Rattle.wt_tree_parts.specs.declared.leaf.Leaf.{Leaf}

abbrev pub leaf_names : List Table → LeafColumns → List (List ℕ)
leaf_names S (kinds.Table number) = table_columns S number
leaf_names S (kinds.Places width) = place_names width

abbrev pub leaf_scope : List Table → Leaf → List ScopeColumn
leaf_scope S leaf = map (in_scope leaf.alias) (leaf_names S leaf.columns)

abbrev pub scope_of_leaves : List Table → List Leaf → List ScopeColumn
scope_of_leaves S [] = []
scope_of_leaves S (leaf ∷ leaves) = leaf_scope S leaf ++ scope_of_leaves S leaves
