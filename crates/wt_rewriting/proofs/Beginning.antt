-- The three files have one whole answer, and what a run has written that ends early begins it.
use Rattle.std.proofs.Common.{◌≡◌, ◌≢◌, ◌∙◌, ℕ, zero, suc, List, [], ◌∷◌, ◌++◌, length, take, refl, ap, sym, subst, inl, inr, append_assoc, append-nil, arith}
use Rattle.std.specs.Prelude.{Ok, Err, Some, None, Result, slice_get}
use Rattle.std.specs.declared.option.Option.{Option}
use Rattle.std.proofs.lemmas.List.{length-map, take_all}
use Rattle.std.proofs.lemmas.List.Concat.{flat_map-cons}
use Rattle.wt_ast.specs.Tree.{QueryTree}
use Rattle.wt_ast.specs.Lawful as trees
use Rattle.wt_chains.specs.Chains.{AreLawful}
use Rattle.wt_ddl.specs.Schemas.{schema_of}
use Rattle.wt_ddl.specs.Refusals as ddl
use Rattle.wt_ddl.proofs.Schemed.{schema_law}
use Rattle.wt_grammar.specs.Statements.{Answer, File, Statement, answer, file_of}
use Rattle.wt_lex.specs.declared.token.LexFault.{LexFault}
use Rattle.wt_lines.specs.Laws.{IsAccepted}
use Rattle.wt_lines.specs.Lines.{AreLines, IsAnswerLine, IsLineTold, IsStatementLine, lines_text, printed_line}
use Rattle.wt_lines.specs.declared.line.Line.{Line}
use Rattle.wt_lines.proofs.QueryLaws.{is_one}
use Rattle.wt_outcome.specs.declared.input.Input.{Input}
use Rattle.wt_outcome.specs.declared.input.Input.TheVariants.{Whole, TooLong}
use Rattle.wt_outcome.specs.declared.stop.Stop.{Stop}
use Rattle.wt_outcome.specs.declared.stop.Stop.TheVariants.{Read, Write, Memory}
use Rattle.wt_outcome.specs.Outcomes.{AppendsPrefix, Outcome}
use Rattle.wt_outcome.proofs.Putting.{append_known-nil, prefix_more}
use Rattle.wt_query_plan.specs.Faults.{Fault, query_fault}
use Rattle.wt_rewriting.specs.Checking.{IsCheckOutcome, IsChecking, IsReadOutcome, all_read}
use Rattle.wt_rewriting.specs.Files.{Names}
use Rattle.wt_rewriting.specs.Rewriting.{AreAll, AreFirst, Gives, IsBookOutcome, IsFileOutcome, IsQueriesOutcome, IsRewriting, IsRulesOutcome, IsSchemaOutcome, IsTablesOutcome, IsWhole, fault_in_line}
use Rattle.wt_rewriting.proofs.SameRules.{AreAlike, same_rewritten}
use Rattle.wt_rule.specs.declared.Rule.{Rule}
use Rattle.wt_rule.specs.declared.RuleBook.{RuleBook}
use Rattle.wt_rule_file.proofs.Answers.{one_answer}
use Rattle.wt_rule_file.specs.Files.{BookTree, book_tree, rule_tree}
use Rattle.wt_rule_line.specs.declared.fault.RuleFault.{RuleFault}
use Rattle.wt_rule_read.specs.Answers.{IsAnswer}
use Rattle.wt_rule_read.specs.FaultNames.{rules_name}
use Rattle.wt_rule_read.proofs.Good.{rules_hold}
use Rattle.wt_schema.specs.Lawful.{IsSchema}
use Rattle.wt_schema.specs.declared.schema.Table.{Table}
use Rattle.wt_sentence.proofs.LawfulFiles.{statement_is_lawful}

-- a text begins another
abbrev pub Begins : List ℕ → List ℕ → Type 0
Begins part whole = (rest : List ℕ) × (whole ≡ part ++ rest)

all_of : (a b : List ℕ) → a ≡ b → Begins a b
all_of a b e = ([], sym e ∙ sym (append-nil a))

-- outcomes of one text
pub same_text : (o w x : Outcome) → o ≡ x → w ≡ x → Begins o.text w.text
same_text o w x e f = all_of o.text w.text (ap (λ (y : Outcome). y.text) (e ∙ sym f))

-- a prefix of a text is one of every text that it begins
pub prefix_of_begun : (old new : Option (List ℕ)) (part whole : List ℕ) → Begins part whole → AppendsPrefix old new part → AppendsPrefix old new whole
prefix_of_begun old new part whole (rest, e) h = subst (AppendsPrefix old new) (sym e) (prefix_more old new part rest h)

begins_behind : (own part whole : List ℕ) → Begins part whole → Begins (own ++ part) (own ++ whole)
begins_behind own part whole (rest, e) = (rest, ap (λ t. own ++ t) e ∙ sym (append_assoc own part rest))

-- an answer that is a book
abbrev pub IsBook : Result BookTree (RuleFault × ℕ) → Type 0
IsBook (Ok tree) = Unit {0}
IsBook (Err fault) = ⊥

-- rules with the same pairs and sets make one line of a statement
module _ (tables : List Table) (schema : IsSchema tables) (rules other : List Rule) (alike : AreAlike rules other) (lawful : AreLawful rules) where
  one_told : (q : QueryTree) → trees.IsLawful q → (fault : Fault) → query_fault tables [] q ≡ fault → (a b : Line) → IsLineTold tables rules q fault a → IsLineTold tables other q fault b → a ≡ b
  one_told q is_lawful None e a b (new, made, is) (new', made', is') =
      let accepted : IsAccepted tables q = record { schema = schema; lawful = is_lawful; faultless = e } in
      let one : new ≡ new' = is_one rules lawful tables q new new' accepted made (same_rewritten tables other rules (sym alike) q new' made') in
      is ∙ ap printed_line one ∙ sym is'
  one_told q is_lawful (Some (fault, place)) e a b is is' = is ∙ sym is'

  module _ (bytes : List ℕ) where
    one_line : (s : Statement) → ((q : QueryTree) → answer bytes s ≡ Ok q → trees.IsLawful q) → (a b : Line) → IsStatementLine tables rules bytes s a → IsStatementLine tables other bytes s b → a ≡ b
    one_line s law a b is is' = by (answer bytes s) refl is is'
      where
        by : (read : Answer) → answer bytes s ≡ read → IsAnswerLine tables rules read a → IsAnswerLine tables other read b → a ≡ b
        by (Ok q) e is is' = one_told q (law q e) (query_fault tables [] q) refl a b is is'
        by (Err (refusal, place)) e is is' = is ∙ sym is'

    -- the lines of the first statements begin those of all
    pub lines_begin : (n : ℕ) (ss : List Statement) → ((k : ℕ) (s : Statement) (q : QueryTree) → slice_get ss k ≡ Some s → answer bytes s ≡ Ok q → trees.IsLawful q) → (part whole : List Line)
        → AreLines tables rules bytes (take n ss) part → AreLines tables other bytes ss whole → Begins (lines_text part) (lines_text whole)
    lines_begin zero ss law [] whole are all = (lines_text whole, refl)
    lines_begin zero ss law (a ∷ part) whole are all = absurd are
    lines_begin (suc n) [] law [] whole are all = (lines_text whole, refl)
    lines_begin (suc n) [] law (a ∷ part) whole are all = absurd are
    lines_begin (suc n) (s ∷ ss) law [] whole are all = absurd are
    lines_begin (suc n) (s ∷ ss) law (a ∷ part) [] are all = absurd all
    lines_begin (suc n) (s ∷ ss) law (a ∷ part) (b ∷ whole) are all =
        let same : a ≡ b = one_line s (λ q. law zero s q refl) a b are.0 all.0 in
        let next = lines_begin n ss (λ k t q at. law (suc k) t q at) part whole are.1 all.1 in
        subst (λ (l : Line). Begins (lines_text (a ∷ part)) (lines_text (l ∷ whole))) same (own a part whole next)
      where
        own : (a : Line) (part whole : List Line) → Begins (lines_text part) (lines_text whole) → Begins (lines_text (a ∷ part)) (lines_text (a ∷ whole))
        own a part whole next =
            subst (λ t. Begins t (lines_text (a ∷ whole))) (sym (flat_map-cons (λ (l : Line). l.text) a part))
            (subst (λ t. Begins (a.text ++ lines_text part) t) (sym (flat_map-cons (λ (l : Line). l.text) a whole)) (begins_behind a.text (lines_text part) (lines_text whole) next))

-- The answers of files, each at its turn.
module _ (names : Names) where
  module _ (tables : List Table) (schema : IsSchema tables) (rules other : List Rule) (alike : AreAlike rules other) (lawful : AreLawful rules) (queries : Input) where
    module _ (bytes : List ℕ) (file : File) (read : file_of bytes ≡ Ok file) (o w : Outcome) where
      first_begin : AreFirst tables rules file o → AreAll tables other file w → Begins o.text w.text
      first_begin (n, part, are, is) (whole, all, is') =
          let next = lines_begin tables schema rules other alike lawful file.bytes n file.statements (λ k s q at said. statement_is_lawful bytes file k s q read at said) part whole are all in
          subst (λ (x : Outcome). Begins x.text w.text) (sym is) (subst (λ (x : Outcome). Begins (lines_text part) x.text) (sym is') next)

      all_begin : AreAll tables rules file o → AreAll tables other file w → Begins o.text w.text
      all_begin (lines, are, is) all =
          let firsts : AreLines tables rules file.bytes (take (length file.statements) file.statements) lines = subst (λ ss. AreLines tables rules file.bytes ss lines) (sym (take_all (length file.statements) file.statements (omega arith))) are in
          let part : Outcome = record { status = None; text = lines_text lines } in
          subst (λ (x : Outcome). Begins x.text w.text) (sym is) (so part firsts all)
        where
          so : (part : Outcome) → AreLines tables rules file.bytes (take (length file.statements) file.statements) lines → AreAll tables other file w → Begins (lines_text lines) w.text
          so part firsts (whole, alls, is') =
              let next = lines_begin tables schema rules other alike lawful file.bytes (length file.statements) file.statements (λ k s q at said. statement_is_lawful bytes file k s q read at said) lines whole firsts alls in
              subst (λ (x : Outcome). Begins (lines_text lines) x.text) (sym is') next

    file_begins : (bytes : List ℕ) (read : Result File (LexFault × ℕ)) → file_of bytes ≡ read → (o w : Outcome) → IsFileOutcome names tables rules read o → IsFileOutcome names tables other read w → w.status ≢ None
        → Begins o.text w.text
    file_begins bytes (Ok file) e o w (inl all) (inl whole) some = all_begin bytes file e o w all whole
    file_begins bytes (Ok file) e o w (inr first) (inl whole) some = first_begin bytes file e o w first whole
    file_begins bytes (Ok file) e o w h (inr part) some = absurd (some (ap (λ (x : Outcome). x.status) part.3))
    file_begins bytes (Err (fault, at)) e o w h k some = same_text o w _ h k

    queries_begin : (input : Input) → (o w : Outcome) → IsQueriesOutcome names tables rules input o → IsQueriesOutcome names tables other input w → w.status ≢ None → Begins o.text w.text
    queries_begin (Whole bytes) o w h k some = file_begins bytes (file_of bytes) refl o w h k some
    queries_begin TooLong o w h k some = same_text o w _ h k

  module _ (rules other : List Rule) (alike : AreAlike rules other) (lawful : AreLawful rules) (queries : Input) (o w : Outcome) (some : w.status ≢ None) where
    tables_begin : (bytes : List ℕ) (read : ddl.Checked (List Table)) → schema_of bytes ≡ read → IsTablesOutcome names rules queries read o → IsTablesOutcome names other queries read w → Begins o.text w.text
    tables_begin bytes (Ok tables) e h k = queries_begin tables (schema_law bytes tables e) rules other alike lawful queries queries o w h k some
    tables_begin bytes (Err (ddl.refused fault, at)) e h k = same_text o w _ h k
    tables_begin bytes (Err (ddl.odd fault, at)) e h k = same_text o w _ h k

    schema_begins : (schema : Input) → IsSchemaOutcome names rules schema queries o → IsSchemaOutcome names other schema queries w → Begins o.text w.text
    schema_begins (Whole bytes) h k = tables_begin bytes (schema_of bytes) refl h k
    schema_begins TooLong h k = same_text o w _ h k

  module _ (schema queries : Input) (o w : Outcome) (some : w.status ≢ None) where
    book_begins : (bytes : List ℕ) (read again : Result RuleBook (RuleFault × ℕ)) → IsAnswer bytes read → IsAnswer bytes again → IsBookOutcome names schema queries read o → IsBookOutcome names schema queries again w
        → Begins o.text w.text
    book_begins bytes (Ok book) (Ok other) is is' h k =
        let one : Ok (book_tree book) ≡ Ok (book_tree other) = one_answer bytes (Ok (book_tree book)) (Ok (book_tree other)) is is' in
        let same : book_tree book ≡ book_tree other = cc in
        schema_begins book.rules other.rules (ap (λ (t : BookTree). t.rules) same) (rules_hold bytes book is).0 queries o w some schema h k
    book_begins bytes (Ok book) (Err (fault, line)) is is' h k = absurd (subst IsBook (one_answer bytes (Ok (book_tree book)) (Err (fault, line)) is is') tt)
    book_begins bytes (Err (fault, line)) (Ok book) is is' h k = absurd (subst IsBook (sym (one_answer bytes (Err (fault, line)) (Ok (book_tree book)) is is')) tt)
    book_begins bytes (Err (fault, line)) (Err (fault', line')) is is' h k =
        let one : Err (fault, line) ≡ Err (fault', line') = one_answer bytes (Err (fault, line)) (Err (fault', line')) is is' in
        let same : (fault, line) ≡ (fault', line') = cc in
        same_text o w _ h (k ∙ sym (ap (λ (f : RuleFault × ℕ). fault_in_line names.rules f.1 (rules_name f.0)) same))

    rules_begin : (rules : Input) → IsRulesOutcome names rules schema queries o → IsRulesOutcome names rules schema queries w → Begins o.text w.text
    rules_begin (Whole bytes) (read, is, h) (again, is', k) = book_begins bytes read again is is' h k
    rules_begin TooLong h k = same_text o w _ h k

-- what a run has come to begins every whole answer
pub begins_whole : (names : Names) (rules schema queries : Input) (o w : Outcome) → IsRewriting names rules schema queries o → IsWhole names rules schema queries w → Begins o.text w.text
begins_whole names rules schema queries o w (inl h) (k, some) = rules_begin names schema queries o w some rules h k
begins_whole names rules schema queries o w (inr e) k = (w.text, ap (λ (x : Outcome). x.text ++ w.text) (sym e))

-- so a prefix of it is one of the whole answer
pub prefix_of_whole : (names : Names) (rules schema queries : Input) (o w : Outcome) → IsRewriting names rules schema queries o → IsWhole names rules schema queries w → (old new : Option (List ℕ))
    → AppendsPrefix old new o.text → AppendsPrefix old new w.text
prefix_of_whole names rules schema queries o w is whole old new h = prefix_of_begun old new o.text w.text (begins_whole names rules schema queries o w is whole) h

-- The same of `check`.
module _ (name : List ℕ) (o w : Outcome) where
  read_checked : (bytes : List ℕ) (read again : Result RuleBook (RuleFault × ℕ)) → IsAnswer bytes read → IsAnswer bytes again → IsReadOutcome name read o → IsReadOutcome name again w → Begins o.text w.text
  read_checked bytes (Ok book) (Ok other) is is' h k =
      let one : Ok (book_tree book) ≡ Ok (book_tree other) = one_answer bytes (Ok (book_tree book)) (Ok (book_tree other)) is is' in
      let same : book_tree book ≡ book_tree other = cc in
      let many : length book.rules ≡ length other.rules =
      sym (length-map book.rules rule_tree) ∙ ap (λ (t : BookTree). length t.rules) same ∙ length-map other.rules rule_tree
      in
      same_text o w _ h (k ∙ ap all_read (sym many))
  read_checked bytes (Ok book) (Err (fault, line)) is is' h k = absurd (subst IsBook (one_answer bytes (Ok (book_tree book)) (Err (fault, line)) is is') tt)
  read_checked bytes (Err (fault, line)) (Ok book) is is' h k = absurd (subst IsBook (sym (one_answer bytes (Err (fault, line)) (Ok (book_tree book)) is is')) tt)
  read_checked bytes (Err (fault, line)) (Err (fault', line')) is is' h k =
      let one : Err (fault, line) ≡ Err (fault', line') = one_answer bytes (Err (fault, line)) (Err (fault', line')) is is' in
      let same : (fault, line) ≡ (fault', line') = cc in
      same_text o w _ h (k ∙ sym (ap (λ (f : RuleFault × ℕ). fault_in_line name f.1 (rules_name f.0)) same))

  check_begins : (rules : Input) → IsCheckOutcome name rules o → IsCheckOutcome name rules w → Begins o.text w.text
  check_begins (Whole bytes) (read, is, h) (again, is', k) = read_checked bytes read again is is' h k
  check_begins TooLong h k = same_text o w _ h k

  checking_begins : (rules : Input) → IsChecking name rules o → IsCheckOutcome name rules w → Begins o.text w.text
  checking_begins rules (inl h) k = check_begins rules h k
  checking_begins rules (inr e) k = (w.text, ap (λ (x : Outcome). x.text ++ w.text) (sym e))

  pub prefix_of_checked : (rules : Input) → IsChecking name rules o → IsCheckOutcome name rules w → (old new : Option (List ℕ)) → AppendsPrefix old new o.text → AppendsPrefix old new w.text
  prefix_of_checked rules is whole old new h = prefix_of_begun old new o.text w.text (checking_begins rules is whole) h

-- a check that stopped
pub stopped_checked : (name : List ℕ) (input : Input) (read write : Type 0) (old new : Option (List ℕ)) (stop : Stop) → Gives (IsCheckOutcome name input) read write old new (Err stop) → (whole : Outcome) → IsCheckOutcome name input whole
    → AppendsPrefix old new whole.text
stopped_checked name input read write old new Read (o, is, h) whole k = (0, h.1 ∙ sym (append_known-nil old))
stopped_checked name input read write old new Write (o, is, h) whole k = prefix_of_checked name o whole input is k old new h.1
stopped_checked name input read write old new Memory (o, is, h) whole k = prefix_of_checked name o whole input is k old new h
