-- What rules make of a plan depends on their pairs and sets alone.
use Rattle.std.proofs.Common.{◌≡◌, ◌∙◌, ℕ, zero, suc, List, [], ◌∷◌, map, refl, ap, sym, subst}
use Rattle.std.specs.Prelude.{Some, slice_get}
use Rattle.wt_ast.specs.Tree.{QueryTree}
use Rattle.wt_chains.specs.Chains.{HasNoMatch, IsChain, IsFirst, IsStep, made, ends, goes}
use Rattle.wt_chains.specs.declared.applied.Applied.{Applied}
use Rattle.wt_lines.specs.Queries.{IsRewritten}
use Rattle.wt_matching.specs.Filling.{Assigned}
use Rattle.wt_matching.specs.Matching.{IsMatch}
use Rattle.wt_plan.specs.Tree.{PlanTree}
use Rattle.wt_rule.specs.declared.Rule.{Rule}
use Rattle.wt_rule_file.specs.Files.{RuleTree, rule_tree}
use Rattle.wt_schema.specs.declared.schema.Table.{Table}

-- the pairs and sets of two lists are the same
abbrev pub AreAlike : List Rule → List Rule → Type 0
AreAlike rules other = map rule_tree rules ≡ map rule_tree other

-- the rule of the same number
counterpart : (a b : List Rule) → AreAlike a b → (k : ℕ) (rule : Rule) → slice_get a k ≡ Some rule → (other : Rule) × (slice_get b k ≡ Some other) × (rule_tree other ≡ rule_tree rule)
counterpart [] b alike k rule at = cc
counterpart (x ∷ a) [] alike k rule at = cc
counterpart (x ∷ a) (y ∷ b) alike zero rule at =
    let own : x ≡ rule = cc in
    let same : rule_tree x ≡ rule_tree y = cc in
    (y, refl, sym same ∙ ap rule_tree own)
counterpart (x ∷ a) (y ∷ b) alike (suc k) rule at = let rest : map rule_tree a ≡ map rule_tree b = cc in counterpart a b rest k rule at

module _ (S : List Table) where
  same_step : (a b : List Rule) → AreAlike a b → (plan : PlanTree) (step : Applied) (m : Assigned) (is : IsStep S a plan step m) → (other : IsStep S b plan step m) × (rule_tree other.rule ≡ rule_tree is.rule)
  same_step a b alike plan step m is =
      let found = counterpart a b alike step.rule is.rule is.at in (
        record {
          rule = found.0;
          at = found.1;
          node = is.node;
          matches = subst (λ (t : RuleTree). IsMatch S t.pair t.set plan step.node m) (sym found.2) is.matches;
        },
        found.2,
      )

  no_match : (a b : List Rule) → AreAlike a b → (plan : PlanTree) → HasNoMatch S a plan → HasNoMatch S b plan
  no_match a b alike plan none step m is = none step m (same_step b a (sym alike) plan step m is).0

  same_first : (a b : List Rule) → AreAlike a b → (plan : PlanTree) (step : Applied) (m : Assigned) (first : IsFirst S a plan step m)
      → (other : IsFirst S b plan step m) × (rule_tree other.is.rule ≡ rule_tree first.is.rule)
  same_first a b alike plan step m first =
      let found = same_step a b alike plan step m first.is in (
        record {
          is = found.0;
          first = λ other x before is. first.first other x before (same_step b a (sym alike) plan other x is).0;
        },
        found.1,
      )

  -- the chain is the same
  pub same_chain : (a b : List Rule) → AreAlike a b → {plan last : PlanTree} {trace : List Applied} → IsChain S a plan trace last → IsChain S b plan trace last
  same_chain a b alike {plan} (ends none) = ends (no_match a b alike plan none)
  same_chain a b alike {plan} {last} (goes {trace = trace} step m first rest) =
      let found = same_first a b alike plan step m first in
      goes step m found.0 (subst (λ (t : RuleTree). IsChain S b (made t.pair plan step.node m) trace last) (sym found.1) (same_chain a b alike rest))

  -- and so is the query that is printed
  pub same_rewritten : (a b : List Rule) → AreAlike a b → (query new : QueryTree) → IsRewritten S a query new → IsRewritten S b query new
  same_rewritten a b alike query new h = record {
    last = h.last;
    is_last = record { trace = h.is_last.trace; chain = same_chain a b alike h.is_last.chain };
    is = h.is;
  }
