-- The text of a query is its bits, each of which may stand before the next.
use Rattle.std.proofs.Common.{ℕ, Bool, true, false, List, [], ◌∷◌, ◌++◌, codes, refl}
use Rattle.wt_lex.specs.declared.words.Word.{Word}
use Rattle.wt_lex.specs.declared.words.Word.TheVariants as word
use Rattle.wt_ast.specs.declared.tree.CmpWord.{CmpWord}
use Rattle.wt_ast.specs.declared.tree.CmpWord.TheVariants as signs
use Rattle.wt_ast.specs.declared.tree.Scalar.{Scalar}
use Rattle.wt_ast.specs.Tree.{QueryTree, FilterTree, FromTree, CondTree, CondTrees, select, no_filter, filter_by, table, derived, inner_join, left_join, right_join, comma, compare, is_null, is_not_null, in_list, in_query, all_of, any_of, negated, no_conds, cond_then}
use Rattle.wt_ast.specs.Lawful.{IsLiteral, IsItem, IsFormed, IsFilter, IsFrom, IsCond, AreConds}
use Rattle.wt_value.specs.declared.value.Value.{Value}
use Rattle.std.specs.List.{AllByRecursion}
use Rattle.wt_spelling.specs.Numbers.{Fits, FitsFilter, FitsFrom, FitsCond, FitsConds, FitsValue}
use Rattle.wt_spelling.specs.Spelling.{query_text, filter_text, from_text, cond_text, parts_text, more_text, item_text, value_text, stands_in_brackets, is_or, is_join, sign_text, scalar_text}
use Rattle.wt_spelling.proofs.Bits.{query_bits, filter_bits, from_bits, cond_bits, parts_bits, more_bits, item_bits, value_bits, capitals, spaced, Bit}
use Rattle.wt_spelling.proofs.Standing.{Breaks, Tight, Loose, tight_then, tight_last, loose_then, loose_last, as_tight, nothing, word_tight, spaced_loose, spaced_two_loose, select_loose, not_loose, open_loose, close_loose, comma_loose, in_loose, sign_loose, name_tight, column_tight, scalar_tight, value_tight, listed_tight, as_break, as_name_tight, item_tight, distinct_loose, columns_break, columns_tight, bracketed_tight, tuple_tight}

filter_break : (w : FilterTree) (rest : List ℕ) → Breaks rest → Breaks (filter_text w ++ rest)
filter_break no_filter rest h = h
filter_break (filter_by c) rest h = refl

abbrev pub between_blanks : Word → List ℕ
between_blanks w = codes " " ++ (capitals w ++ codes " ")

sign_break : (w : CmpWord) (b : Scalar) (rest : List ℕ) → Breaks rest → Breaks ((sign_text w ++ scalar_text b) ++ rest)
sign_break signs.Eq b rest h = refl
sign_break signs.Ne b rest h = refl
sign_break signs.Lt b rest h = refl
sign_break signs.Le b rest h = refl
sign_break signs.Gt b rest h = refl
sign_break signs.Ge b rest h = refl

more_break : (conjuncts : Bool) (w : Word) (cs : CondTrees) (rest : List ℕ) → Breaks rest → Breaks (more_text conjuncts (between_blanks w) cs ++ rest)
more_break conjuncts w no_conds rest h = h
more_break conjuncts w (cond_then c cs) rest h = refl

-- values of an IN list
abbrev IsWritten : Value → Type 0
IsWritten v = IsLiteral v × FitsValue v

both : (vs : List Value) → AllByRecursion IsLiteral vs → AllByRecursion FitsValue vs → AllByRecursion IsWritten vs
both [] h f = tt
both (v ∷ vs) h f = ((h.0, f.0), both vs h.1 f.1)

-- what stands behind the left operand of a join
join_tight : {words right on : List Bit} {words_text right_text on_text : List ℕ} → Loose words words_text → Tight right right_text → Tight on on_text
    → Tight (words ++ (right ++ (spaced word.On ++ on))) (words_text ++ (right_text ++ (codes " ON " ++ on_text)))
join_tight ws r c = loose_then ws (tight_then r (λ rest h. refl) (loose_then (spaced_loose word.On) c))

mutual
  pub query_tight : (q : QueryTree) → IsFormed q → Fits q → Tight (query_bits q) (query_text q)
  query_tight (select d is from filter) h f =
      loose_then select_loose (loose_then (distinct_loose d) (tight_then (listed_tight item_bits item_text IsItem item_tight is h.0.1) (λ rest b. refl)
      (loose_then (spaced_loose word.From) (tight_then (from_tight from h.1 f.0) (filter_break filter) (filter_tight filter h.2 f.1)))))

  filter_tight : (w : FilterTree) → IsFilter w → FitsFilter w → Tight (filter_bits w) (filter_text w)
  filter_tight no_filter h f = as_tight nothing
  filter_tight (filter_by c) h f = loose_then (spaced_loose word.Where) (bracketed_tight (is_or c) (cond_tight true c h f))

  from_tight : (t : FromTree) → IsFrom t → FitsFrom t → Tight (from_bits t) (from_text t)
  from_tight (table name alias at alias_at) h f = tight_then (name_tight name h.0) (as_break alias) (as_name_tight alias h.1)
  from_tight (derived query alias columns at alias_at) h f =
      loose_then open_loose (tight_then (query_tight query h.0 f) (λ rest b. refl)
      (loose_then (loose_last close_loose (spaced_loose word.As)) (tight_then (name_tight alias h.1) (columns_break columns) (columns_tight columns h.2))))
  from_tight (inner_join left right on on_at) h f =
      tight_then (from_tight left h.0 f.0) (λ rest b. refl) (join_tight (spaced_two_loose word.Inner word.Join)
      (bracketed_tight (is_join right) (from_tight right h.2 f.1)) (bracketed_tight (is_or on) (cond_tight true on h.4 f.2)))
  from_tight (left_join left right on on_at) h f =
      tight_then (from_tight left h.0 f.0) (λ rest b. refl) (join_tight (spaced_two_loose word.Left word.Join)
      (bracketed_tight (is_join right) (from_tight right h.2 f.1)) (bracketed_tight (is_or on) (cond_tight true on h.4 f.2)))
  from_tight (right_join left right on on_at) h f =
      tight_then (from_tight left h.0 f.0) (λ rest b. refl) (join_tight (spaced_two_loose word.Right word.Join)
      (bracketed_tight (is_join right) (from_tight right h.2 f.1)) (bracketed_tight (is_or on) (cond_tight true on h.4 f.2)))
  from_tight (comma left right comma_at) h f =
      tight_then (from_tight left h.0 f.0) (λ rest b. refl) (loose_then comma_loose (from_tight right h.1 f.1))

  cond_tight : (top : Bool) (c : CondTree) → IsCond c → FitsCond c → Tight (cond_bits top c) (cond_text top c)
  cond_tight top (compare at w a b word_at) h f =
      tight_then (scalar_tight a h.0 f.0) (sign_break w b) (loose_then (sign_loose w) (scalar_tight b h.1 f.1))
  cond_tight top (is_null at column) h f = tight_then (column_tight column h) (λ rest b. refl) (loose_then (spaced_loose word.Is) (word_tight word.Null))
  cond_tight top (is_not_null at column) h f =
      tight_then (column_tight column h) (λ rest b. refl) (loose_then (spaced_two_loose word.Is word.Not) (word_tight word.Null))
  cond_tight top (in_list at column values word_at) h f =
      tight_then (column_tight column h.0) (λ rest b. refl) (loose_then in_loose (as_tight (tight_last
      (listed_tight value_bits value_text IsWritten (λ v x. value_tight v x.0 x.1) values (both values h.1.1 f)) (λ rest. refl) close_loose)))
  cond_tight top (in_query at columns query word_at) h f =
      tight_then (tuple_tight columns h.0) (λ rest b. refl) (loose_then in_loose (as_tight (tight_last (query_tight query h.1 f) (λ rest. refl) close_loose)))
  cond_tight top (all_of at parts) h f = parts_tight top word.And parts h.1 f
  cond_tight top (any_of at parts) h f = parts_tight false word.Or parts h.1 f
  cond_tight top (negated at c) h f = loose_then not_loose (bracketed_tight (stands_in_brackets false c) (cond_tight false c h f))

  parts_tight : (conjuncts : Bool) (w : Word) (cs : CondTrees) → AreConds cs → FitsConds cs → Tight (parts_bits conjuncts w cs) (parts_text conjuncts (between_blanks w) cs)
  parts_tight conjuncts w no_conds h f = as_tight nothing
  parts_tight conjuncts w (cond_then c cs) h f =
      tight_then (bracketed_tight (stands_in_brackets conjuncts c) (cond_tight false c h.0 f.0)) (more_break conjuncts w cs) (more_tight conjuncts w cs h.1 f.1)

  more_tight : (conjuncts : Bool) (w : Word) (cs : CondTrees) → AreConds cs → FitsConds cs → Tight (more_bits conjuncts w cs) (more_text conjuncts (between_blanks w) cs)
  more_tight conjuncts w no_conds h f = as_tight nothing
  more_tight conjuncts w (cond_then c cs) h f =
      loose_then (spaced_loose w) (tight_then (bracketed_tight (stands_in_brackets conjuncts c) (cond_tight false c h.0 f.0)) (more_break conjuncts w cs) (more_tight conjuncts w cs h.1 f.1))
