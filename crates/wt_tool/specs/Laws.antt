-- What the clauses of the top call say of rules, and of the queries that they make.
use Rattle.std.specs.Prelude.{◌<◌, ℕ, List, Ok}
use Rattle.wt_chains.specs.Chains.{AreLawful, AreSound, IsStep, made}
use Rattle.wt_chains.specs.declared.applied.Applied.{Applied}
use Rattle.wt_constraint.specs.declared.set.AtomSet.{AtomSet}
use Rattle.wt_form.specs.Relaxed.{IsRule}
use Rattle.wt_instance.specs.declared.instance.Instance.{Instance}
use Rattle.wt_instance.specs.Instances.{IsInstance}
use Rattle.wt_instance.specs.Meeting.{Meets}
use Rattle.wt_instance.specs.Rows.{rows_of}
use Rattle.wt_matching.specs.Filling.{Assigned}
use Rattle.wt_plan.specs.Tree.{PlanTree}
use Rattle.wt_plan.specs.Measures.{cost}
use Rattle.wt_plan.specs.Regular.{Regular}
use Rattle.wt_rule.specs.declared.Rule.{Rule}
use Rattle.wt_rule.specs.declared.RuleBook.{RuleBook}
use Rattle.wt_rule_read.specs.Answers.{IsAnswer}
use Rattle.wt_schema.specs.Lawful.{IsSchema}
use Rattle.wt_schema.specs.declared.schema.Table.{Table}
use Rattle.wt_symbol.specs.Lawful.{IsLawful}
use Rattle.wt_symbol.specs.Sides.{PairTree, pair_of}
use Rattle.wt_value.specs.Values.{IsOneBag}

-- the two sides of each rule of a pair give one bag on every instance that meets its set, NULLs and repeated rows included
abbrev pub RulesHaveOneBag : Type 0
RulesHaveOneBag = (pair : PairTree) (steps depth : ℕ) (set : AtomSet) (I : Instance) → IsLawful pair → IsRule pair steps depth set → IsInstance pair I → Meets pair set I
    → IsOneBag (rows_of pair.source pair.anchors I) (rows_of pair.dest pair.anchors I)

-- what holds for the rules of each file that is read
abbrev pub ForRulesRead : (List Rule → Type 0) → Type 0
ForRulesRead P = (bytes : List ℕ) (book : RuleBook) → IsAnswer bytes (Ok book) → P book.rules

-- each rule that is read is lawful, and its two sides give one bag on every instance that meets its set
abbrev pub RulesReadHold : Type 0
RulesReadHold = ForRulesRead (λ rules. AreLawful rules × AreSound rules)

-- each match lowers the cost
abbrev pub LowersTheCost : List Rule → Type 0
LowersTheCost rules = (tables : List Table) → IsSchema tables → (plan : PlanTree) → Regular tables plan → (step : Applied) (m : Assigned) → (is : IsStep tables rules plan step m)
    → cost (made (pair_of is.rule.pair) plan step.node m) < cost plan
