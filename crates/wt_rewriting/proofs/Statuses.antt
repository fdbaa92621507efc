-- What the clause of `rewrite` says of its statuses one by one.
use Rattle.std.proofs.Common.{◌≡◌, ◌≢◌, ℕ, ◌≤◌, List, ◌⊎◌, Bool, true, false, refl, ap, sym, subst, inl, inr, arith}
use Rattle.std.specs.Prelude.{Ok, Err, Some, None, Result}
use Rattle.std.specs.Io.KnownBytes.{append_known}
use Rattle.std.specs.declared.option.Option.{Option}
use Rattle.wt_ddl.specs.Schemas.{schema_of}
use Rattle.wt_ddl.specs.Refusals as ddl
use Rattle.wt_grammar.specs.Statements.{File, file_of}
use Rattle.wt_lex.specs.declared.token.LexFault.{LexFault}
use Rattle.wt_lines.specs.Lines.{any_refused}
use Rattle.wt_outcome.specs.declared.input.Input.{Input}
use Rattle.wt_outcome.specs.declared.input.Input.TheVariants.{Whole, TooLong}
use Rattle.wt_outcome.specs.Outcomes.{AppendsPrefix, Ends, Outcome, Writes}
use Rattle.wt_outcome.specs.Inputs.{IsInput}
use Rattle.wt_rewriting.specs.Checking.{IsCheckOutcome, IsChecking, IsReadOutcome}
use Rattle.wt_rewriting.specs.Files.{Names, WithInputs}
use Rattle.wt_rewriting.specs.Rewriting.{IsBookOutcome, IsFileOutcome, IsQueriesOutcome, IsRewriting, IsRulesOutcome, IsSchemaOutcome, IsTablesOutcome, IsWhole, status_of}
use Rattle.wt_rewriting.proofs.Beginning.{prefix_of_checked, prefix_of_whole}
use Rattle.wt_rule.specs.declared.Rule.{Rule}
use Rattle.wt_rule.specs.declared.RuleBook.{RuleBook}
use Rattle.wt_rule_line.specs.declared.fault.RuleFault.{RuleFault}
use Rattle.wt_schema.specs.declared.schema.Table.{Table}

-- an outcome's status is none of the words' and none of a stop
abbrev pub Fine : Option ℕ → Type 0
Fine None = Unit {0}
Fine (Some n) = (n ≤ 4) × (n ≢ 1) × (n ≢ 3)

two_fine : Fine (Some 2)
two_fine = (omega arith, (λ h. omega arith), (λ h. omega arith))

-- an outcome that refuses a file
pub refusing_fine : (o refused : Outcome) → o ≡ refused → refused.status ≡ Some 2 → Fine o.status
refusing_fine o refused e is = subst (λ (x : Outcome). Fine x.status) (sym e) (subst Fine (sym is) two_fine)

lines_fine : (refused : Bool) → Fine (Some (status_of refused))
lines_fine true = (omega arith, (λ h. omega arith), (λ h. omega arith))
lines_fine false = (omega arith, (λ h. omega arith), (λ h. omega arith))

file_fine : (names : Names) (tables : List Table) (rules : List Rule) (file : Result File (LexFault × ℕ)) (o : Outcome) → IsFileOutcome names tables rules file o → Fine o.status
file_fine names tables rules (Ok file) o (inl all) = subst (λ (x : Outcome). Fine x.status) (sym all.2) (lines_fine (any_refused all.0))
file_fine names tables rules (Ok file) o (inr first) = subst (λ (x : Outcome). Fine x.status) (sym first.3) tt
file_fine names tables rules (Err fault) o e = refusing_fine o _ e refl

queries_fine : (names : Names) (tables : List Table) (rules : List Rule) (queries : Input) (o : Outcome) → IsQueriesOutcome names tables rules queries o → Fine o.status
queries_fine names tables rules (Whole bytes) o h = file_fine names tables rules (file_of bytes) o h
queries_fine names tables rules TooLong o e = refusing_fine o _ e refl

tables_fine : (names : Names) (rules : List Rule) (queries : Input) (read : ddl.Checked (List Table)) (o : Outcome) → IsTablesOutcome names rules queries read o → Fine o.status
tables_fine names rules queries (Ok tables) o h = queries_fine names tables rules queries o h
tables_fine names rules queries (Err (ddl.refused fault, at)) o e = refusing_fine o _ e refl
tables_fine names rules queries (Err (ddl.odd fault, at)) o e = refusing_fine o _ e refl

schema_fine : (names : Names) (rules : List Rule) (schema queries : Input) (o : Outcome) → IsSchemaOutcome names rules schema queries o → Fine o.status
schema_fine names rules (Whole bytes) queries o h = tables_fine names rules queries (schema_of bytes) o h
schema_fine names rules TooLong queries o e = refusing_fine o _ e refl

book_fine : (names : Names) (schema queries : Input) (read : Result RuleBook (RuleFault × ℕ)) (o : Outcome) → IsBookOutcome names schema queries read o → Fine o.status
book_fine names schema queries (Ok book) o h = schema_fine names book.rules schema queries o h
book_fine names schema queries (Err fault) o e = refusing_fine o _ e refl

rules_fine : (names : Names) (rules schema queries : Input) (o : Outcome) → IsRulesOutcome names rules schema queries o → Fine o.status
rules_fine names (Whole bytes) schema queries o h = book_fine names schema queries h.0 o h.2
rules_fine names TooLong schema queries o e = refusing_fine o _ e refl

pub rewriting_fine : (names : Names) (rules schema queries : Input) (o : Outcome) → IsRewriting names rules schema queries o → Fine o.status
rewriting_fine names rules schema queries o (inl h) = rules_fine names rules schema queries o h
rewriting_fine names rules schema queries o (inr e) = subst (λ (x : Outcome). Fine x.status) (sym e) tt

read_fine : (name : List ℕ) (read : Result RuleBook (RuleFault × ℕ)) (o : Outcome) → IsReadOutcome name read o → Fine o.status
read_fine name (Ok book) o e = subst (λ (x : Outcome). Fine x.status) (sym e) (lines_fine false)
read_fine name (Err fault) o e = refusing_fine o _ e refl

check_fine : (name : List ℕ) (rules : Input) (o : Outcome) → IsCheckOutcome name rules o → Fine o.status
check_fine name (Whole bytes) o h = read_fine name h.0 o h.2
check_fine name TooLong o e = refusing_fine o _ e refl

pub checking_fine : (name : List ℕ) (rules : Input) (o : Outcome) → IsChecking name rules o → Fine o.status
checking_fine name rules o (inl h) = check_fine name rules o h
checking_fine name rules o (inr e) = subst (λ (x : Outcome). Fine x.status) (sym e) tt

-- an outcome with a status is that of the files
pub told_whole : (names : Names) (rules schema queries : Input) (o : Outcome) (status : ℕ) → IsRewriting names rules schema queries o → o.status ≡ Some status → IsRulesOutcome names rules schema queries o
told_whole names rules schema queries o status (inl h) is = h
told_whole names rules schema queries o status (inr e) is = let none : o.status ≡ None = ap (λ (x : Outcome). x.status) e in cc

pub told_checked : (name : List ℕ) (rules : Input) (o : Outcome) (status : ℕ) → IsChecking name rules o → o.status ≡ Some status → IsCheckOutcome name rules o
told_checked name rules o status (inl h) is = h
told_checked name rules o status (inr e) is = let none : o.status ≡ None = ap (λ (x : Outcome). x.status) e in cc

-- a command that came to its outcome's end
pub ended : {read write : Type 0} {old new : Option (List ℕ)} (o : Outcome) (s : ℕ) → Fine o.status → o.status ≡ Some s → new ≡ append_known old o.text → Ends read write old new o s
ended o s fine is put =
    let own : Fine (Some s) = subst Fine is fine in
    let few = own.0 in
    record {
      done = λ a b c. (is, put);
      read = λ e. absurd (own.2 e);
      write = λ e. absurd (let none : ⊥ = omega (arith, few, e) in none);
      prefix = λ e. absurd (let none : ⊥ = grind (arith, few, e) in none);
    }

-- the status of a command whose outcomes are fine
pub status_fine : {read write : Type 0} {old new : Option (List ℕ)} {s : ℕ} (o : Outcome) → Fine o.status → Ends read write old new o s → (s ≤ 6) × (s ≢ 1)
status_fine {s = s} o is ends =
    let fine : s ≢ 3 → s ≢ 5 → s ≢ 6 → Fine (Some s) = λ a b c. subst Fine (ends.done a b c).0 is in
    let few : s ≢ 3 → s ≢ 5 → s ≢ 6 → s ≤ 4 = λ a b c. (fine a b c).0 in
    let other : s ≢ 3 → s ≢ 5 → s ≢ 6 → s ≢ 1 = λ a b c. (fine a b c).1 in
    (grind (arith, few), λ one. other (λ e. omega arith) (λ e. omega arith) (λ e. omega arith) one)

module _ (told : List ℕ → Option (List ℕ)) (name : List ℕ) {read write : Type 0} {old new : Option (List ℕ)} {s : ℕ}
    (h : (rules : Input) × IsInput (told name) rules × (o : Outcome) × IsChecking name rules o × Ends read write old new o s) where
  pub checked_bytes : s ≢ 3 → s ≢ 5 → s ≢ 6 → (rules : Input) × IsInput (told name) rules × (o : Outcome) × IsCheckOutcome name rules o × Writes old new o s
  checked_bytes a b c = (h.0, h.1, h.2, told_checked name h.0 h.2 s h.3 (h.4.done a b c).0, h.4.done a b c)

  pub checked_prefix : (s ≡ 5) ⊎ (s ≡ 6) → (rules : Input) × IsInput (told name) rules × (o : Outcome) × IsChecking name rules o × AppendsPrefix old new o.text
  checked_prefix e = (h.0, h.1, h.2, h.3, h.4.prefix e)

  pub checked_begins : (s ≡ 5) ⊎ (s ≡ 6) → (rules : Input) × IsInput (told name) rules × ((whole : Outcome) → IsCheckOutcome name rules whole → AppendsPrefix old new whole.text)
  checked_begins e = (h.0, h.1, λ whole is. prefix_of_checked name h.2 whole h.0 h.3 is old new (h.4.prefix e))

  pub checked_known : (s ≤ 6) × (s ≢ 1)
  checked_known = status_fine h.2 (checking_fine name h.0 h.2 h.3) h.4

module _ {told : List ℕ → Option (List ℕ)} {names : Names} {read write : Type 0} {old new : Option (List ℕ)} {s : ℕ}
    (h : WithInputs told names (λ rules schema queries. (o : Outcome) × IsRewriting names rules schema queries o × Ends read write old new o s)) where
  pub rewritten_bytes : s ≢ 3 → s ≢ 5 → s ≢ 6 → WithInputs told names (λ rules schema queries. (o : Outcome) × IsRulesOutcome names rules schema queries o × Writes old new o s)
  rewritten_bytes a b c =
      let (o, is, ends) = h.4 in
      (h.0, h.1, h.2, h.3, (o, told_whole names h.0 h.1 h.2 o s is (ends.done a b c).0, ends.done a b c))

  pub rewritten_read : s ≡ 3 → read × (new ≡ old)
  rewritten_read e = h.4.2.read e

  pub rewritten_write : s ≡ 5 → write
  rewritten_write e = h.4.2.write e

  pub rewritten_prefix : (s ≡ 5) ⊎ (s ≡ 6) → WithInputs told names (λ rules schema queries. (o : Outcome) × IsRewriting names rules schema queries o × AppendsPrefix old new o.text)
  rewritten_prefix e = let (o, is, ends) = h.4 in (h.0, h.1, h.2, h.3, (o, is, ends.prefix e))

  pub rewritten_begins : (s ≡ 5) ⊎ (s ≡ 6) → WithInputs told names (λ rules schema queries. (whole : Outcome) → IsWhole names rules schema queries whole → AppendsPrefix old new whole.text)
  rewritten_begins e = let (o, is, ends) = h.4 in (h.0, h.1, h.2, h.3, λ whole is_whole. prefix_of_whole names h.0 h.1 h.2 o whole is is_whole old new (ends.prefix e))

  pub rewritten_known : (s ≤ 6) × (s ≢ 1)
  rewritten_known = let (o, is, ends) = h.4 in status_fine o (rewriting_fine names h.0 h.1 h.2 o is) ends
