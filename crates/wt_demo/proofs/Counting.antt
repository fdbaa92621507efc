-- What is counted of a statement, from what the reader answered.
use Rattle.std.proofs.Common.{◌≡◌, ℕ, List, length, min, refl, sym, subst, zero, arith, inl, inr}
use Rattle.std.specs.Prelude.{Ok, Err, Some, codes, slice_get}
use Rattle.std.proofs.lemmas.Option.{slice_get_cases}
use Rattle.wt_ast.specs.Tree.{QueryTree}
use Rattle.wt_ddl.specs.Refusals as ddl
use Rattle.wt_ddl.specs.declared.fault.DdlFault.{DdlFault}
use Rattle.wt_fault_names.specs.FaultNames.{lexical_name, schema_name}
use Rattle.wt_lex.specs.declared.token.LexFault.{LexFault}
use Rattle.wt_outcome.specs.Outcomes.{Outcome}
use Rattle.wt_rewriting.specs.Rewriting.{fault_at}
use Rattle.wt_grammar.specs.Reading.{Refusal}
use Rattle.wt_grammar.specs.Statements.{File, Statement, answer}
use Rattle.wt_demo.specs.declared.tally.Tally.{Tally}
use Rattle.wt_demo.specs.Demo.{IsAnswerTally, IsFileTally, IsFirstTally, IsTablesDemo, IsTotalled, IsTreeTally}
use Rattle.wt_demo.specs.Tallies.{one_refused}
use Rattle.wt_rule.specs.declared.Rule.{Rule}
use Rattle.wt_schema.specs.declared.schema.Table.{Table}

-- a list that is not empty has a first element
pub first_of : {A : Type 0} (xs : List A) (n : ℕ) → n ≡ min 4294967295 (length xs) → (n ≡ 0 → ⊥) → (x : A) × (slice_get xs zero ≡ Some x)
first_of xs n is some = elim (slice_get_cases xs zero).1 [ inl h ↦ (h.0, h.2) | inr h ↦ absurd (some (omega (arith, is, h.0))) ]

module _ (tables : List Table) (rules : List Rule) (file : File) (s : Statement) (at : slice_get file.statements zero ≡ Some s) where
  pub first_read : (tree : QueryTree) (t : Tally) → answer file.bytes s ≡ Ok tree → IsTreeTally tables rules tree t → IsFileTally tables rules (Ok file) t
  first_read tree t read h = subst (λ o. IsFirstTally tables rules file.bytes o t) (sym at) (subst (λ a. IsAnswerTally tables rules a t) (sym read) h)

  pub first_refused : (refusal : Refusal × ℕ) → answer file.bytes s ≡ Err refusal → IsFileTally tables rules (Ok file) one_refused
  first_refused refusal read = subst (λ o. IsFirstTally tables rules file.bytes o one_refused) (sym at) (subst (λ a. IsAnswerTally tables rules a one_refused) (sym read) refl)

-- the tables of the demonstration's schema, or its refusal
module _ (rules : List Rule) (first count : ℕ) where
  pub tables_read : (read : ddl.Checked (List Table)) (tables : List Table) → read ≡ Ok tables → (o : Outcome) → IsTotalled tables rules first count o → IsTablesDemo rules read first count o
  tables_read read tables is o h = subst (λ r. IsTablesDemo rules r first count o) (sym is) h

  pub tables_refused : (read : ddl.Checked (List Table)) (fault : DdlFault) (at : ℕ) → read ≡ Err (ddl.refused fault, at) → IsTablesDemo rules read first count (fault_at (codes "X") at (schema_name fault))
  tables_refused read fault at is = subst (λ r. IsTablesDemo rules r first count (fault_at (codes "X") at (schema_name fault))) (sym is) refl

  pub tables_odd : (read : ddl.Checked (List Table)) (fault : LexFault) (at : ℕ) → read ≡ Err (ddl.odd fault, at) → IsTablesDemo rules read first count (fault_at (codes "X") at (lexical_name fault))
  tables_odd read fault at is = subst (λ r. IsTablesDemo rules r first count (fault_at (codes "X") at (lexical_name fault))) (sym is) refl
