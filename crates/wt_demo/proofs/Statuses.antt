-- The statuses of a demonstration's outcomes.
use Rattle.std.proofs.Common.{◌≡◌, ℕ, List, refl, ap, sym, subst, inl, inr, arith}
use Rattle.std.specs.Prelude.{Ok, Err, Some, None, Result}
use Rattle.wt_ddl.specs.Schemas.{schema_of}
use Rattle.wt_ddl.specs.Refusals as ddl
use Rattle.wt_demo.specs.Demo.{IsBookDemo, IsDemo, IsTablesDemo, IsWholeDemo}
use Rattle.wt_demo.specs.Texts.{schema_text}
use Rattle.wt_outcome.specs.Outcomes.{Outcome}
use Rattle.wt_rewriting.proofs.Statuses.{Fine, refusing_fine}
use Rattle.wt_rule.specs.declared.Rule.{Rule}
use Rattle.wt_rule.specs.declared.RuleBook.{RuleBook}
use Rattle.wt_rule_line.specs.declared.fault.RuleFault.{RuleFault}
use Rattle.wt_schema.specs.declared.schema.Table.{Table}

zero_fine : Fine (Some 0)
zero_fine = (omega arith, (λ h. omega arith), (λ h. omega arith))

tables_fine : (rules : List Rule) (read : ddl.Checked (List Table)) (first count : ℕ) (o : Outcome) → IsTablesDemo rules read first count o → Fine o.status
tables_fine rules (Ok tables) first count o h = subst (λ (x : Outcome). Fine x.status) (sym h.2) zero_fine
tables_fine rules (Err (ddl.refused fault, at)) first count o e = refusing_fine o _ e refl
tables_fine rules (Err (ddl.odd fault, at)) first count o e = refusing_fine o _ e refl

book_fine : (read : Result RuleBook (RuleFault × ℕ)) (first count : ℕ) (o : Outcome) → IsBookDemo read first count o → Fine o.status
book_fine (Ok book) first count o h = tables_fine book.rules (schema_of schema_text) first count o h
book_fine (Err fault) first count o e = refusing_fine o _ e refl

pub demo_fine : (first count : ℕ) (o : Outcome) → IsDemo first count o → Fine o.status
demo_fine first count o (inl h) = book_fine h.0 first count o h.2
demo_fine first count o (inr e) = subst (λ (x : Outcome). Fine x.status) (sym e) tt

-- an outcome with a status is a whole one
pub told_whole : (first count : ℕ) (o : Outcome) (status : ℕ) → IsDemo first count o → o.status ≡ Some status → IsWholeDemo first count o
told_whole first count o status (inl h) is = h
told_whole first count o status (inr e) is = let none : o.status ≡ None = ap (λ (x : Outcome). x.status) e in cc
