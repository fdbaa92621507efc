-- The line of a statement from what the reader and the builder answered.
use Rattle.std.proofs.Common.{◌≡◌, ℕ, List, [], sym, ap, subst}
use Rattle.std.specs.Prelude.{None, Ok, Err, Result, IfOk}
use Rattle.wt_ast.specs.Tree.{QueryTree}
use Rattle.wt_blocks.specs.Printed.{printed}
use Rattle.wt_grammar.specs.Statements.{Statement, answer}
use Rattle.wt_lines.specs.declared.line.Line.{Line}
use Rattle.wt_lines.specs.Lines.{IsAnswerLine, IsLineTold, IsStatementLine, IsTreeLine, printed_line}
use Rattle.wt_lines.specs.Queries.{IsLast}
use Rattle.wt_place.specs.Placing.{placed}
use Rattle.wt_plan.specs.Tree.{PlanTree}
use Rattle.wt_query_plan.specs.Building.{planned}
use Rattle.wt_query_plan.specs.Faults.{query_fault}
use Rattle.wt_query_rows.specs.Scopes.{output_names}
use Rattle.wt_rule.specs.declared.Rule.{Rule}
use Rattle.wt_schema.specs.declared.schema.Table.{Table}

-- what holds of a value holds of what follows from it
pub if_ok : {T E : Type 0} (r : Result T E) (P Q : T → Type 0) → ((x : T) → P x → Q x) → IfOk r P → IfOk r Q
if_ok (Ok x) P Q f h = f x h
if_ok (Err e) P Q f h = tt

module _ (tables : List Table) (rules : List Rule) where
  pub line_read : (bytes : List ℕ) (s : Statement) (tree : QueryTree) (line : Line) → answer bytes s ≡ Ok tree → IsTreeLine tables rules tree line → IsStatementLine tables rules bytes s line
  line_read bytes s tree line read is = subst (λ a. IsAnswerLine tables rules a line) (sym read) is

  -- the line of the last plan of a query without a fault
  pub last_told : (tree : QueryTree) (plan last : PlanTree) (names : List (List ℕ)) (line : Line) → query_fault tables [] tree ≡ None → plan ≡ placed (planned tables tree) → names ≡ output_names tables tree
      → IsLast tables rules plan last → line ≡ printed_line (printed tables last names) → IsTreeLine tables rules tree line
  last_told tree plan last names line none is are chain e =
      subst (λ f. IsLineTold tables rules tree f line) (sym none) (
        printed tables last names,
        record {
          last = last;
          is_last = subst (λ p. IsLast tables rules p last) is chain;
          is = ap (printed tables last) are;
        },
        e,
      )
