-- A demonstration has one whole answer, so what is written of one begins it.
use Rattle.std.proofs.Common.{◌≡◌, ◌∙◌, ◌⊎◌, ℕ, zero, suc, ◌+◌, List, [], ◌++◌, length, map, refl, ap, sym, subst, inl, inr, arith}
use Rattle.std.specs.Prelude.{◌%◌, Ok, Err, Some, None, Result, codes, slice_get}
use Rattle.std.specs.declared.option.Option.{Option}
use Rattle.wt_ast.specs.Tree.{QueryTree}
use Rattle.wt_ast.specs.Lawful as trees
use Rattle.wt_chains.specs.Chains.{AreLawful}
use Rattle.wt_chains.proofs.Chained.{chain_one}
use Rattle.wt_ddl.specs.Schemas.{schema_of}
use Rattle.wt_ddl.specs.Refusals as ddl
use Rattle.wt_ddl.proofs.Schemed.{schema_law}
use Rattle.wt_demo.specs.Demo.{IsAnswerTally, IsBookDemo, IsDemo, IsFileTally, IsFirstTally, IsTablesDemo, IsTextTally, IsToldTally, IsTotal, IsWholeDemo, counted}
use Rattle.wt_demo.specs.Tallies.{both, one_printed}
use Rattle.wt_demo.specs.Texts.{rules_text, schema_text, statement_text}
use Rattle.wt_demo.specs.declared.tally.Tally.{Tally}
use Rattle.wt_demo.proofs.Statuses.{demo_fine}
use Rattle.wt_grammar.specs.Statements.{Answer, File, Statement, answer, file_of}
use Rattle.wt_lex.specs.declared.token.LexFault.{LexFault}
use Rattle.wt_lines.specs.Queries.{plan_of}
use Rattle.wt_outcome.specs.declared.stop.Stop.{Stop}
use Rattle.wt_outcome.specs.declared.stop.Stop.TheVariants.{Read, Write, Memory}
use Rattle.wt_outcome.specs.Outcomes.{AppendsPrefix, Outcome}
use Rattle.wt_place.proofs.Regularity.{regular_placed}
use Rattle.wt_plan.specs.Measures.{cost}
use Rattle.wt_plan.specs.Regular.{Regular}
use Rattle.wt_plan.specs.Tree.{PlanTree}
use Rattle.wt_query_plan.specs.Building.{planned}
use Rattle.wt_query_plan.specs.Faults.{Fault, query_fault}
use Rattle.wt_regular.proofs.Regulars.{regular_plan}
use Rattle.wt_rewriting.specs.Rewriting.{Gives, fault_in_line}
use Rattle.wt_rewriting.proofs.Beginning.{Begins, IsBook, prefix_of_begun, same_text}
use Rattle.wt_rewriting.proofs.SameRules.{AreAlike, same_chain}
use Rattle.wt_rewriting.proofs.Statuses.{Fine}
use Rattle.wt_rule.specs.declared.Rule.{Rule}
use Rattle.wt_rule.specs.declared.RuleBook.{RuleBook}
use Rattle.wt_rule_file.proofs.Answers.{one_answer}
use Rattle.wt_rule_file.specs.Files.{BookTree, book_tree}
use Rattle.wt_rule_line.specs.declared.fault.RuleFault.{RuleFault}
use Rattle.wt_rule_read.specs.Answers.{IsAnswer}
use Rattle.wt_rule_read.specs.FaultNames.{rules_name}
use Rattle.wt_rule_read.proofs.Good.{rules_hold}
use Rattle.wt_schema.specs.Lawful.{IsSchema}
use Rattle.wt_schema.specs.declared.schema.Table.{Table}
use Rattle.wt_sentence.proofs.LawfulFiles.{statement_is_lawful}

-- rules with the same pairs and sets are counted alike
module _ (tables : List Table) (schema : IsSchema tables) (rules other : List Rule) (alike : AreAlike rules other) (lawful : AreLawful rules) where
  one_told : (q : QueryTree) → trees.IsLawful q → (fault : Fault) → query_fault tables [] q ≡ fault → (t u : Tally) → IsToldTally tables rules q fault t → IsToldTally tables other q fault u → t ≡ u
  one_told q is_lawful None e t u (trace, last, chain, is) (trace', last', chain', is') =
      let regular : Regular tables (plan_of tables q) = regular_placed tables (planned tables q) (regular_plan tables schema q is_lawful e) in
      let same = chain_one tables rules schema lawful regular chain (same_chain tables other rules (sym alike) chain') in
      let before = cost (plan_of tables q) in
      is ∙ ap (λ l. one_printed (length l) before (cost last)) same.1 ∙ ap (λ (p : PlanTree). one_printed (length trace') before (cost p)) same.0 ∙ sym is'
  one_told q is_lawful (Some fault) e t u is is' = is ∙ sym is'

  one_answered : (bytes : List ℕ) (file : File) → file_of bytes ≡ Ok file → (s : Statement) → slice_get file.statements zero ≡ Some s → (read : Answer) → answer file.bytes s ≡ read → (t u : Tally)
      → IsAnswerTally tables rules read t → IsAnswerTally tables other read u → t ≡ u
  one_answered bytes file of s at (Ok q) e t u is is' = one_told q (statement_is_lawful bytes file zero s q of at e) (query_fault tables [] q) refl t u is is'
  one_answered bytes file of s at (Err refusal) e t u is is' = is ∙ sym is'

  one_first : (bytes : List ℕ) (file : File) → file_of bytes ≡ Ok file → (first : Option Statement) → slice_get file.statements zero ≡ first → (t u : Tally)
      → IsFirstTally tables rules file.bytes first t → IsFirstTally tables other file.bytes first u → t ≡ u
  one_first bytes file of (Some s) at t u is is' = one_answered bytes file of s at (answer file.bytes s) refl t u is is'
  one_first bytes file of None at t u is is' = is ∙ sym is'

  one_filed : (bytes : List ℕ) (read : Result File (LexFault × ℕ)) → file_of bytes ≡ read → (t u : Tally) → IsFileTally tables rules read t → IsFileTally tables other read u → t ≡ u
  one_filed bytes (Ok file) of t u is is' = one_first bytes file of (slice_get file.statements zero) refl t u is is'
  one_filed bytes (Err fault) of t u is is' = is ∙ sym is'

  one_text : (bytes : List ℕ) (t u : Tally) → IsTextTally tables rules bytes t → IsTextTally tables other bytes u → t ≡ u
  one_text bytes t u is is' = one_filed bytes (file_of bytes) refl t u is is'

  one_total : (first n : ℕ) (t u : Tally) → IsTotal tables rules first n t → IsTotal tables other first n u → t ≡ u
  one_total first zero t u is is' = is ∙ sym is'
  one_total first (suc n) t u (before, own, total, text, is) (before', own', total', text', is') =
      let befores = one_total first n before before' total total' in
      let owns = one_text (statement_text ((first + n) % 7) n) own own' text text' in
      is ∙ ap (λ b. both b own) befores ∙ ap (both before') owns ∙ sym is'

module _ (first count : ℕ) (o w : Outcome) where
  tables_begin : (rules other : List Rule) → AreAlike rules other → AreLawful rules → (bytes : List ℕ) (read : ddl.Checked (List Table)) → schema_of bytes ≡ read → IsTablesDemo rules read first count o
      → IsTablesDemo other read first count w → Begins o.text w.text
  tables_begin rules other alike lawful bytes (Ok tables) e (t, total, is) (u, total', is') =
      let one = one_total tables (schema_law bytes tables e) rules other alike lawful first count t u total total' in
      same_text o w _ is (is' ∙ ap (counted count) (sym one))
  tables_begin rules other alike lawful bytes (Err (ddl.refused fault, at)) e is is' = same_text o w _ is is'
  tables_begin rules other alike lawful bytes (Err (ddl.odd fault, at)) e is is' = same_text o w _ is is'

  book_begins : (read again : Result RuleBook (RuleFault × ℕ)) → IsAnswer rules_text read → IsAnswer rules_text again → IsBookDemo read first count o → IsBookDemo again first count w → Begins o.text w.text
  book_begins (Ok book) (Ok other) is is' h k =
      let one : Ok (book_tree book) ≡ Ok (book_tree other) = one_answer rules_text (Ok (book_tree book)) (Ok (book_tree other)) is is' in
      let same : book_tree book ≡ book_tree other = cc in
      tables_begin book.rules other.rules (ap (λ (t : BookTree). t.rules) same) (rules_hold rules_text book is).0 schema_text (schema_of schema_text) refl h k
  book_begins (Ok book) (Err (fault, line)) is is' h k = absurd (subst IsBook (one_answer rules_text (Ok (book_tree book)) (Err (fault, line)) is is') tt)
  book_begins (Err (fault, line)) (Ok book) is is' h k = absurd (subst IsBook (sym (one_answer rules_text (Err (fault, line)) (Ok (book_tree book)) is is')) tt)
  book_begins (Err (fault, line)) (Err (fault', line')) is is' h k =
      let one : Err (fault, line) ≡ Err (fault', line') = one_answer rules_text (Err (fault, line)) (Err (fault', line')) is is' in
      let same : (fault, line) ≡ (fault', line') = cc in
      same_text o w _ h (k ∙ sym (ap (λ (f : RuleFault × ℕ). fault_in_line (codes "A") f.1 (rules_name f.0)) same))

  demo_begins : IsDemo first count o → IsWholeDemo first count w → Begins o.text w.text
  demo_begins (inl (read, is, h)) (again, is', k) = book_begins read again is is' h k
  demo_begins (inr e) k = (w.text, ap (λ (x : Outcome). x.text ++ w.text) (sym e))

  pub prefix_of_demo : IsDemo first count o → IsWholeDemo first count w → (old new : Option (List ℕ)) → AppendsPrefix old new o.text → AppendsPrefix old new w.text
  prefix_of_demo is whole old new h = prefix_of_begun old new o.text w.text (demo_begins is whole) h

-- a demonstration that stopped has written a prefix of its whole answer
pub stopped_begins : (first count : ℕ) (rose : Type 0) (old new : Option (List ℕ)) (stop : Stop) → Gives (IsWholeDemo first count) ⊥ rose old new (Err stop) → (whole : Outcome) → IsWholeDemo first count whole → AppendsPrefix old new whole.text
stopped_begins first count rose old new Read (o, is, h) whole k = absurd h.0
stopped_begins first count rose old new Write (o, is, h) whole k = prefix_of_demo first count o whole is k old new h.1
stopped_begins first count rose old new Memory (o, is, h) whole k = prefix_of_demo first count o whole is k old new h

-- and one that ended has another status
pub ended_otherwise : (first count : ℕ) (rose : Type 0) (old new : Option (List ℕ)) (status : ℕ) → Gives (IsWholeDemo first count) ⊥ rose old new (Ok status) → (status ≡ 5) ⊎ (status ≡ 6) → ⊥
ended_otherwise first count rose old new status (o, is, e, put) one =
    let fine : Fine (Some status) = subst Fine e (demo_fine first count o (inl is)) in
    let few = fine.0 in
    grind (arith, few, one)
