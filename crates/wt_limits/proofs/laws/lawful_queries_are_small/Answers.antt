use Rattle.std.proofs.Common.{arith}
use Rattle.wt_limits.proofs.Marked.{items_marked, conjuncts_marked}
use Rattle.wt_limits.proofs.laws.lawful_queries_are_small.Goals as goal

pub returns : goal.returns
returns c = record {
  items = λ q lawful. omega (arith, items_marked q, lawful.items);
  conjuncts = λ q lawful. omega (arith, conjuncts_marked q, lawful.conjuncts);
}
