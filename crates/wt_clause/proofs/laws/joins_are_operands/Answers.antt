use Rattle.std.proofs.Common.{◌++◌}
use Rattle.wt_query_rows.specs.Scopes.{scope_of}
use Rattle.wt_query_plan.specs.Building.{conjuncts}
use Rattle.wt_clause.proofs.Commas.{inner_is, left_is, right_is}
use Rattle.wt_clause.proofs.laws.joins_are_operands.Goals as goal

pub returns : goal.returns
returns c = record {
  inner = λ S l r on at. inner_is S (conjuncts S (scope_of S l ++ scope_of S r) on) l r;
  left = λ S l r on at. left_is S (conjuncts S (scope_of S l ++ scope_of S r) on) l r;
  right = λ S l r on at. right_is S (conjuncts S (scope_of S l ++ scope_of S r) on) l r;
}
