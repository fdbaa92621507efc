-- How a part of the command ends, from how the part that it calls ends.
use Rattle.std.proofs.Common.{◌≡◌, ◌∙◌, ℕ, List, [], ◌⊎◌, Bool, length, refl, ap, sym, subst, inl, inr}
use Rattle.std.specs.Prelude.{Ok, Err, Some, None, Result}
use Rattle.std.specs.declared.option.Option.{Option}
use Rattle.wt_ddl.specs.Schemas.{schema_of}
use Rattle.wt_ddl.specs.Refusals as ddl
use Rattle.wt_ddl.specs.declared.fault.DdlFault.{DdlFault}
use Rattle.wt_fault_names.specs.FaultNames.{lexical_name, schema_name}
use Rattle.wt_grammar.specs.Statements.{File, file_of}
use Rattle.wt_lex.specs.declared.token.LexFault.{LexFault}
use Rattle.wt_lines.specs.Lines.{lines_text}
use Rattle.wt_outcome.specs.declared.input.Input.{Input}
use Rattle.wt_outcome.specs.declared.input.Input.TheVariants.{Whole, TooLong}
use Rattle.wt_outcome.specs.declared.stop.Stop.{Stop}
use Rattle.wt_outcome.specs.declared.stop.Stop.TheVariants.{Read, Write, Memory}
use Rattle.wt_outcome.specs.Outcomes.{Outcome, Runs}
use Rattle.wt_outcome.proofs.Putting.{prefix_none}
use Rattle.wt_rewriting.specs.Files.{Names}
use Rattle.wt_rewriting.specs.Rewriting.{AreAll, AreFirst, Gives, IsFileOutcome, IsQueriesOutcome, IsRulesOutcome, IsSchemaOutcome, IsTablesOutcome, PutsLines, fault_at, fault_in_line, lines_outcome, nothing, status_of, too_long, too_many_rules}
use Rattle.wt_rewriting.specs.Checking.{IsCheckOutcome, all_read}
use Rattle.wt_rule.specs.declared.Rule.{Rule}
use Rattle.wt_rule.specs.declared.RuleBook.{RuleBook}
use Rattle.wt_rule_read.specs.Answers.{IsAnswer}
use Rattle.wt_rule_read.specs.FaultNames.{rules_name}
use Rattle.wt_rule_line.specs.declared.fault.RuleFault.{RuleFault}
use Rattle.wt_schema.specs.declared.schema.Table.{Table}

module _ (P : Outcome → Type 0) (read write : Type 0) where
  -- a text was put
  pub given : (old new : Option (List ℕ)) (o : Outcome) (result : Result ℕ Stop) → P o → Runs read write old new o result → Gives P read write old new result
  given old new o (Ok status) p h = (o, p, h.0, h.1)
  given old new o (Err stop) p h = (o, inl p, h)

  -- want of memory before anything was put
  pub nothing_given : (w : Option (List ℕ)) → Gives P read write w w (Err Memory)
  nothing_given w = (nothing, inr refl, prefix_none w [])

  -- what follows for the outcome
  pub given_as : (Q : Outcome → Type 0) → ((o : Outcome) → P o → Q o) → (old new : Option (List ℕ)) (result : Result ℕ Stop) → Gives P read write old new result → Gives Q read write old new result
  given_as Q f old new (Ok status) (o, p, is, put) = (o, f o p, is, put)
  given_as Q f old new (Err stop) (o, inl p, h) = (o, inl (f o p), h)
  given_as Q f old new (Err stop) (o, inr e, h) = (o, inr e, h)

  -- a part that reads nothing
  pub given_later : (old new : Option (List ℕ)) (result : Result ℕ Stop) → Gives P ⊥ write old new result → Gives P read write old new result
  given_later old new (Ok status) h = h
  given_later old new (Err Read) (o, p, h) = absurd h.0
  given_later old new (Err Write) h = h
  given_later old new (Err Memory) h = h

-- the lines of the statements, or of the first of them
module _ (tables : List Table) (rules : List Rule) (file : File) (write : Type 0) (old new : Option (List ℕ)) where
  pub lines_given : (some : Bool) (status : ℕ) → status ≡ status_of some → PutsLines tables rules file write old new (Ok some) → Gives (λ o. AreAll tables rules file o ⊎ AreFirst tables rules file o) ⊥ write old new (Ok status)
  lines_given some status is (lines, are, put, refusals) = (
    lines_outcome lines,
    inl (lines, are, refl),
    ap Some (ap status_of (sym refusals) ∙ sym is),
    put,
  )

  pub first_given : (stop : Stop) → PutsLines tables rules file write old new (Err stop) → Gives (λ o. AreAll tables rules file o ⊎ AreFirst tables rules file o) ⊥ write old new (Err stop)
  first_given stop (n, lines, are, h) = (record { status = None; text = lines_text lines }, inl (inr (n, lines, are, refl)), h)

-- What a file is refused as, or what its reading leads to.
module _ (names : Names) (tables : List Table) (rules : List Rule) (queries : Input) where
  pub queries_too_long : queries ≡ TooLong → IsQueriesOutcome names tables rules queries (too_long names.queries)
  queries_too_long e = subst (λ q. IsQueriesOutcome names tables rules q (too_long names.queries)) (sym e) refl

  module _ (bytes text : List ℕ) (is : queries ≡ Whole bytes) (same : text ≡ bytes) where
    pub queries_read : (file : File) → file_of text ≡ Ok file → (o : Outcome) → AreAll tables rules file o ⊎ AreFirst tables rules file o → IsQueriesOutcome names tables rules queries o
    queries_read file read o h =
        subst (λ q. IsQueriesOutcome names tables rules q o) (sym is) (subst (λ r. IsFileOutcome names tables rules r o) (sym (ap file_of (sym same) ∙ read)) h)

    pub queries_refused : (fault : LexFault) (at : ℕ) → file_of text ≡ Err (fault, at) → IsQueriesOutcome names tables rules queries (fault_at names.queries at (lexical_name fault))
    queries_refused fault at read =
        subst (λ q. IsQueriesOutcome names tables rules q (fault_at names.queries at (lexical_name fault))) (sym is)
        (subst (λ r. IsFileOutcome names tables rules r (fault_at names.queries at (lexical_name fault))) (sym (ap file_of (sym same) ∙ read)) refl)

module _ (names : Names) (rules : List Rule) (schema queries : Input) where
  pub schema_too_long : schema ≡ TooLong → IsSchemaOutcome names rules schema queries (too_long names.schema)
  schema_too_long e = subst (λ s. IsSchemaOutcome names rules s queries (too_long names.schema)) (sym e) refl

  module _ (bytes text : List ℕ) (is : schema ≡ Whole bytes) (same : text ≡ bytes) where
    read_so : (read : ddl.Checked (List Table)) → schema_of text ≡ read → (o : Outcome) → IsTablesOutcome names rules queries read o → IsSchemaOutcome names rules schema queries o
    read_so read e o h =
        subst (λ s. IsSchemaOutcome names rules s queries o) (sym is) (subst (λ r. IsTablesOutcome names rules queries r o) (sym (ap schema_of (sym same) ∙ e)) h)

    pub schema_read : (tables : List Table) → schema_of text ≡ Ok tables → (o : Outcome) → IsQueriesOutcome names tables rules queries o → IsSchemaOutcome names rules schema queries o
    schema_read tables e o h = read_so (Ok tables) e o h

    pub schema_refused : (fault : DdlFault) (at : ℕ) → schema_of text ≡ Err (ddl.refused fault, at) → IsSchemaOutcome names rules schema queries (fault_at names.schema at (schema_name fault))
    schema_refused fault at e = read_so (Err (ddl.refused fault, at)) e _ refl

    pub schema_odd : (fault : LexFault) (at : ℕ) → schema_of text ≡ Err (ddl.odd fault, at) → IsSchemaOutcome names rules schema queries (fault_at names.schema at (lexical_name fault))
    schema_odd fault at e = read_so (Err (ddl.odd fault, at)) e _ refl

module _ (names : Names) (rules schema queries : Input) where
  pub rules_too_long : rules ≡ TooLong → IsRulesOutcome names rules schema queries (too_many_rules names.rules)
  rules_too_long e = subst (λ r. IsRulesOutcome names r schema queries (too_many_rules names.rules)) (sym e) refl

  module _ (bytes text : List ℕ) (is : rules ≡ Whole bytes) (same : text ≡ bytes) where
    pub rules_read : (book : RuleBook) → IsAnswer text (Ok book) → (o : Outcome) → IsSchemaOutcome names book.rules schema queries o → IsRulesOutcome names rules schema queries o
    rules_read book read o h = subst (λ r. IsRulesOutcome names r schema queries o) (sym is) (Ok book, subst (λ t. IsAnswer t (Ok book)) same read, h)

    pub rules_refused : (fault : RuleFault) (line : ℕ) → IsAnswer text (Err (fault, line)) → IsRulesOutcome names rules schema queries (fault_in_line names.rules line (rules_name fault))
    rules_refused fault line read =
        subst (λ r. IsRulesOutcome names r schema queries (fault_in_line names.rules line (rules_name fault))) (sym is) (Err (fault, line), subst (λ t. IsAnswer t (Err (fault, line))) same read, refl)

-- The same of `check`.
module _ (name : List ℕ) (rules : Input) where
  pub check_too_long : rules ≡ TooLong → IsCheckOutcome name rules (too_many_rules name)
  check_too_long e = subst (λ r. IsCheckOutcome name r (too_many_rules name)) (sym e) refl

  module _ (bytes text : List ℕ) (is : rules ≡ Whole bytes) (same : text ≡ bytes) where
    pub check_read : (book : RuleBook) → IsAnswer text (Ok book) → IsCheckOutcome name rules (all_read (length book.rules))
    check_read book read = subst (λ r. IsCheckOutcome name r (all_read (length book.rules))) (sym is) (Ok book, subst (λ t. IsAnswer t (Ok book)) same read, refl)

    pub check_refused : (fault : RuleFault) (line : ℕ) → IsAnswer text (Err (fault, line)) → IsCheckOutcome name rules (fault_in_line name line (rules_name fault))
    check_refused fault line read =
        subst (λ r. IsCheckOutcome name r (fault_in_line name line (rules_name fault))) (sym is) (Err (fault, line), subst (λ t. IsAnswer t (Err (fault, line))) same read, refl)
