use Rattle.std.proofs.Common.{rules, ◌≡◌, length, ap, arith}
use Rattle.wt_query_rows.specs.Scopes.{columns_named}
use Rattle.wt_query_bounds.proofs.Bounded.{table_few}
use Rattle.wt_sources.proofs.sources.table_leaf.Goals as goal

pub overflow_cast-result : goal.overflow_cast-result
overflow_cast-result c =
    let few = table_few c.args.schema.now.tables c.args.schema.now.lawful c.args.name.now in
    let is : length c.in_ok-number.columns.now ≡ length (columns_named c.args.schema.now.tables c.args.name.now) = ap length (search rules) in
    omega (arith, few, is)
