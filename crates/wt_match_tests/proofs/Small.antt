-- A lawful query is small.
use Rattle.std.proofs.Common.{◌≤◌, arith}
use Rattle.wt_ast.specs.Tree.{QueryTree}
use Rattle.wt_ast.specs.Lawful.{IsLawful}
use Rattle.wt_query_bounds.specs.Bounds.{items_in}
use Rattle.wt_limits.proofs.Marked.{items_marked}

pub few_items : (q : QueryTree) → IsLawful q → items_in q ≤ 256
few_items q lawful = omega (arith, items_marked q, lawful.items)
