use Rattle.std.proofs.Common.{ℕ, List, sym, subst}
use Rattle.std.specs.List.{AllByRecursion}
use Rattle.wt_ast.specs.Tree.{query_tree}
use Rattle.wt_ast.specs.Lawful.{IsName}
use Rattle.wt_blocks.proofs.Lawful.{lawful_names}
use Rattle.wt_placed.proofs.Again.{is_placed}
use Rattle.wt_place.specs.Keeping.{IsPlaced}
use Rattle.wt_query_plan.specs.Building.{planned}
use Rattle.wt_lines.proofs.line.query_line.Goals as goal

pub rewritten_line-requires-clause-placed : goal.rewritten_line-requires-clause-placed
rewritten_line-requires-clause-placed g c = subst IsPlaced (sym c.in-Ok.ensures.told.1.0) (is_placed (planned c.args.schema.now.tables (query_tree c.args.query.now)))

pub rewritten_line-requires-clause-named : goal.rewritten_line-requires-clause-named
rewritten_line-requires-clause-named g c =
    subst (λ (names : List (List ℕ)). AllByRecursion IsName names) (sym c.in-Ok.ensures.told.1.1) (lawful_names c.args.schema.now.tables c.args.schema.now.lawful (query_tree c.args.query.now) c.requires.lawful.formed)
