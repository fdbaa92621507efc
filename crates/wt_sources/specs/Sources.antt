-- What a FROM clause brings, without where its parts lie in memory.
use Rattle.std.specs.Prelude.{◌≡◌, List, ◌++◌}
use Rattle.wt_schema.specs.declared.schema.ColKind.{ColKind}
use Rattle.wt_schema.specs.declared.schema.Table.{Table}
use Rattle.wt_ast.specs.Tree.{QueryTree}
use Rattle.wt_plan.specs.Tree.{plan_tree}
use Rattle.wt_query_rows.specs.Scopes.{output_names}
use Rattle.wt_query_plan.specs.Building.{planned}
use Rattle.wt_query_plan.specs.Faults.{output_kinds}
use Rattle.wt_resolve.specs.declared.lookup.ScopeItem.{ScopeItem}
use Rattle.wt_clause.specs.Items.{LeavesTree, leaf, fork}
use Rattle.wt_sources.specs.declared.leaves.Leaves.{Leaves}
use Rattle.wt_sources.specs.declared.leaves.Leaves.TheVariants.{One, Two'}
use Rattle.wt_sources.specs.declared.sources.Built.{Built}
use Rattle.wt_sources.specs.declared.sources.Sources.{Sources}

-- The function that forgets the pointers; in the patterns `p` and `q` are those.
abbrev pub leaves_tree : Leaves → LeavesTree
leaves_tree (One plan) = leaf (plan_tree plan)
leaves_tree (Two' p left q right items columns) = fork (leaves_tree left) (leaves_tree right) items columns

abbrev pub IsLeaf : LeavesTree → Type 0
IsLeaf (leaf plan) = Unit {0}
IsLeaf (fork left right items columns) = ⊥

-- these items and kinds behind those that were there
abbrev pub Adds : List ScopeItem → List ColKind → Sources → Sources → Type 0
Adds items kinds old new = (new.items.items ≡ old.items.items ++ items) × (new.kinds.items ≡ old.kinds.items ++ kinds)

-- a query's plan, the names of its columns and their kinds
abbrev pub IsBuilt : List Table → QueryTree → Built → Type 0
IsBuilt S q b = (plan_tree b.plan ≡ planned S q) × (b.names.items ≡ output_names S q) × (b.kinds.items ≡ output_kinds S q)
