-- Bits are read as the query that they were made from, offsets apart, under as many levels as it takes.
use Rattle.std.proofs.Common.{◌≡◌, ℕ, zero, suc, ◌≤◌, Bool, true, false, inl, inr, List, [], ◌∷◌, ◌++◌, refl, ap, sym, ◌∙◌, subst, arith, append_assoc, append-nil, Option, Some, None}
use Rattle.std.specs.Prelude.{map}
use Rattle.std.specs.List.{AllByRecursion}
use Rattle.wt_value.specs.declared.value.Value.{Value}
use Rattle.wt_lex.specs.declared.token.Sym.TheVariants as sym
use Rattle.wt_lex.specs.declared.words.Word.{Word}
use Rattle.wt_lex.specs.declared.words.Word.TheVariants as word
use Rattle.wt_ast.specs.declared.tree.ColumnName.{ColumnName}
use Rattle.wt_ast.specs.declared.tree.CmpWord.{CmpWord}
use Rattle.wt_ast.specs.declared.tree.CmpWord.TheVariants as signs
use Rattle.wt_ast.specs.declared.tree.Scalar.{Scalar}
use Rattle.wt_ast.specs.declared.tree.Scalar.TheVariants as scalars
use Rattle.wt_ast.specs.declared.tree.Item.{Item}
use Rattle.wt_ast.specs.Tree.{QueryTree, FilterTree, FromTree, CondTree, CondTrees, select, no_filter, filter_by, table, derived, inner_join, left_join, right_join, comma, compare, is_null, is_not_null, in_list, in_query, all_of, any_of, negated, no_conds, cond_then, trees_of, column_without_place, item_without_place, without_places, filter_without_places, from_without_places, cond_without_places, conds_without_places}
use Rattle.wt_ast.specs.Lawful.{OneOrMore, IfWritten, IsName, IsColumn, IsItem as IsFormedItem, IsLiteral, IsFormed, IsFilter, IsFrom, IsCond, AreConds, is_comma as is_comma_list}
use Rattle.wt_reading.specs.declared.lexeme.Kind.{Kind}
use Rattle.wt_reading.specs.Lexemes.{Tokens, place, is_open, is_close, is_comma}
use Rattle.wt_reading.specs.Sentences.{Seq, One, Is, IsAt, Behind, Listed, Parens}
use Rattle.wt_grammar.specs.declared.join.JoinKind.{JoinKind}
use Rattle.wt_grammar.specs.declared.join.JoinKind.TheVariants as joining
use Rattle.wt_grammar.specs.Kinds.{is_and, is_or, is_not, is_select, is_distinct, is_from, is_where, is_is, is_null_word, is_in, is_inner, is_left, is_right, is_join, is_on}
use Rattle.wt_grammar.specs.Reading.{cmp_of, one_or, join_of, name_only, place_or}
use Rattle.wt_sentence.specs.Grammar.{Run, Chain, Deeper, deeper, Name, Column, AnyLiteral, IsItem, Neg, Conj, Cond, Columns, Primary, JoinWords, Join, Joined, ListedPart, FromList, Filter, Quantifier, Body}
use Rattle.wt_spelling.specs.Numbers.{Fits, FitsFilter, FitsFrom, FitsCond, FitsConds, FitsValue}
use Rattle.wt_spelling.specs.Levels.{deeper_if, levels, filter_levels, from_levels, cond_levels, parts_levels}
use Rattle.wt_spelling.specs.Spelling.{stands_in_brackets, is_or as is_or_tree, is_join as is_join_tree}
use Rattle.wt_spelling.proofs.Bits.{Bit, a_blank, a_word, a_sign, a_name, column_bits, value_bits, scalar_bits, listed_bits, name_bits, spaced, spaced_two, spaced_sign, as_bits, item_bits, distinct_bits, opened, closed, columns_bits, bracketed_bits, tuple_bits, in_bits, query_bits, filter_bits, from_bits, cond_bits, more_bits}
use Rattle.wt_spelling.proofs.Shown.{Shows, split}
use Rattle.wt_spelling.proofs.ReadParts.{Reads, one_word, one_word_at, one_sign, one_sign_at, one_name, two_words, column_read, value_read, scalar_read, listed_read, parens_read, named_read, as_read, item_read}

seq_in : {P Q : Tokens → Type 0} (a b ts : Tokens) → ts ≡ a ++ b → P a → Q b → Seq P Q ts
seq_in a b ts e p q = (a, b, e, p, q)

-- one part alone is a run
single : (sep : Kind → Bool) (whole : ℕ → CondTrees → CondTree) (Part : CondTree → Tokens → Type 0) (c : CondTree) (ts : Tokens) → Part c ts → Run sep whole Part c ts
single sep whole Part c ts p = (c, [], (ts, [], sym (append-nil ts), p, refl), refl)

-- one step more at the end of a chain
chain_more : (Step : FromTree → FromTree → Tokens → Type 0) (n : ℕ) (a f g : FromTree) (ts us : Tokens) → Chain Step n a f ts → Step f g us → Chain Step (suc n) a g (ts ++ us)
chain_more Step zero a f g ts us (e, same) s =
    (g, (us, [], ap (λ l. l ++ us) e ∙ sym (append-nil us), subst (λ h. Step h g us) same s, (refl, refl)))
chain_more Step (suc n) a f g ts us (h, (x, y, e, s, c)) last =
    (h, (x, y ++ us, ap (λ l. l ++ us) e ∙ append_assoc x y us, s, chain_more Step n h f g y us c last))

module _ (end : ℕ) (bytes : List ℕ) where
  abbrev at_level : ℕ → Deeper
  at_level l = deeper end bytes l

  -- ---- what stands a level deeper

  below_room : (k : ℕ) → (at_level (suc k)).room
  unfolding deeper
  below_room k = tt

  below_negs : (k : ℕ) (at : ℕ) (c : CondTree) (ts : Tokens) → Seq (IsAt is_not at) (Neg end bytes (at_level k) c) ts → (at_level (suc k)).negs (negated at c) ts
  unfolding deeper
  below_negs k at c ts p = (at, c, p, refl)

  below_conds : (k : ℕ) (c : CondTree) (ts : Tokens) → Parens (Cond end bytes (at_level k)) c ts → (at_level (suc k)).conds c ts
  unfolding deeper
  below_conds k c ts p = p

  abbrev pub Query : ℕ → QueryTree → Tokens → Type 0
  Query l q = Seq (Is is_select) (Body end bytes (at_level l) q)

  below_queries : (k : ℕ) (q : QueryTree) (ts : Tokens) → Parens (Query k) q ts → (at_level (suc k)).queries q ts
  unfolding deeper
  below_queries k q ts p = p

  below_froms : (k : ℕ) (f : FromTree) (ts : Tokens) → Parens (Joined end bytes (at_level k)) f ts → (at_level (suc k)).froms f ts
  unfolding deeper
  below_froms k f ts p = p

  -- ---- which part of the grammar a condition is, and a FROM clause

  abbrev PartOf : ℕ → CondTree → CondTree → Tokens → Type 0
  PartOf l (all_of at parts) = Conj end bytes (at_level l)
  PartOf l (any_of at parts) = Cond end bytes (at_level l)
  PartOf l _ = Neg end bytes (at_level l)

  neg_cond : (l : ℕ) (c : CondTree) (ts : Tokens) → Neg end bytes (at_level l) c ts → Cond end bytes (at_level l) c ts
  neg_cond l c ts p = single is_or any_of (Conj end bytes (at_level l)) c ts (single is_and all_of (Neg end bytes (at_level l)) c ts p)

  as_cond : (l : ℕ) (c d : CondTree) (ts : Tokens) → PartOf l c d ts → Cond end bytes (at_level l) d ts
  as_cond l (all_of at parts) d ts p = single is_or any_of (Conj end bytes (at_level l)) d ts p
  as_cond l (any_of at parts) d ts p = p
  as_cond l (compare at w a b word_at) d ts p = neg_cond l d ts p
  as_cond l (is_null at column) d ts p = neg_cond l d ts p
  as_cond l (is_not_null at column) d ts p = neg_cond l d ts p
  as_cond l (in_list at column values word_at) d ts p = neg_cond l d ts p
  as_cond l (in_query at columns query word_at) d ts p = neg_cond l d ts p
  as_cond l (negated at c) d ts p = neg_cond l d ts p

  abbrev IsRead : ℕ → CondTree → Type 0
  IsRead l c = Reads end bytes (Cond end bytes (at_level l)) cond_without_places c (cond_bits false c)

  abbrev IsPartRead : Bool → ℕ → CondTree → Type 0
  IsPartRead top l c = Reads end bytes (PartOf l c) cond_without_places c (cond_bits top c)

  whole_of : (top : Bool) (l : ℕ) (c : CondTree) → IsPartRead top l c → Reads end bytes (Cond end bytes (at_level l)) cond_without_places c (cond_bits top c)
  whole_of top l c h ts s = let (d, p, e) = h ts s in (d, as_cond l c d ts p, e)

  -- in parentheses, one level deeper
  bracketed_read : (top : Bool) (l : ℕ) (c : CondTree) → ((k : ℕ) → cond_levels top c ≤ k → IsPartRead top k c) → suc (cond_levels top c) ≤ l
      → Reads end bytes (Neg end bytes (at_level l)) cond_without_places c (bracketed_bits true (cond_bits top c))
  bracketed_read top zero c h fits ts s = absurd (omega arith)
  bracketed_read top (suc k) c h fits ts s =
      let (d, p, e) = parens_read end bytes (Cond end bytes (at_level k)) (λ d. cond_without_places d ≡ cond_without_places c) (cond_bits top c) (whole_of top k c (h k (omega arith))) ts s in
      (d, inr (inr (inr (below_conds k d ts p))), e)

  -- a part of And, Or or Not, or a conjunct
  part_read : (conjunct : Bool) (l : ℕ) (c : CondTree) → ((k : ℕ) → cond_levels false c ≤ k → IsPartRead false k c)
      → deeper_if (stands_in_brackets conjunct c) (cond_levels false c) ≤ l
      → Reads end bytes (Neg end bytes (at_level l)) cond_without_places c (bracketed_bits (stands_in_brackets conjunct c) (cond_bits false c))
  part_read conjunct l (all_of at parts) h fits = bracketed_read false l (all_of at parts) h fits
  part_read conjunct l (any_of at parts) h fits = bracketed_read false l (any_of at parts) h fits
  part_read true l (negated at c) h fits = h l fits
  part_read false l (negated at c) h fits = bracketed_read false l (negated at c) h fits
  part_read conjunct l (compare at w a b word_at) h fits = h l fits
  part_read conjunct l (is_null at column) h fits = h l fits
  part_read conjunct l (is_not_null at column) h fits = h l fits
  part_read conjunct l (in_list at column values word_at) h fits = h l fits
  part_read conjunct l (in_query at columns query word_at) h fits = h l fits

  -- the condition of ON or of WHERE
  whole_read : (l : ℕ) (c : CondTree) → ((k : ℕ) → cond_levels true c ≤ k → IsPartRead true k c) → deeper_if (is_or_tree c) (cond_levels true c) ≤ l
      → Reads end bytes (Cond end bytes (at_level l)) cond_without_places c (bracketed_bits (is_or_tree c) (cond_bits true c))
  whole_read l (any_of at parts) h fits =
      λ ts s. let (d, p, e) = bracketed_read true l (any_of at parts) h fits ts s in (d, neg_cond l d ts p, e)
  whole_read l (all_of at parts) h fits = whole_of true l (all_of at parts) (h l fits)
  whole_read l (compare at w a b word_at) h fits = whole_of true l (compare at w a b word_at) (h l fits)
  whole_read l (is_null at column) h fits = whole_of true l (is_null at column) (h l fits)
  whole_read l (is_not_null at column) h fits = whole_of true l (is_not_null at column) (h l fits)
  whole_read l (in_list at column values word_at) h fits = whole_of true l (in_list at column values word_at) (h l fits)
  whole_read l (in_query at columns query word_at) h fits = whole_of true l (in_query at columns query word_at) (h l fits)
  whole_read l (negated at c) h fits = whole_of true l (negated at c) (h l fits)

  -- ---- conditions that are no run

  sign_read : (w : CmpWord) (ts : Tokens) → Shows bytes (spaced_sign w) ts → (at : ℕ) × One (λ t. (cmp_of t.kind ≡ Some w) × (at ≡ t.token.start)) ts
  sign_read signs.Eq ts (t, r, e, k, z) = (t.token.start, (t, e ∙ ap (λ l. t ∷ l) z, (ap cmp_of k, refl)))
  sign_read signs.Ne ts (t, r, e, k, z) = (t.token.start, (t, e ∙ ap (λ l. t ∷ l) z, (ap cmp_of k, refl)))
  sign_read signs.Lt ts (t, r, e, k, z) = (t.token.start, (t, e ∙ ap (λ l. t ∷ l) z, (ap cmp_of k, refl)))
  sign_read signs.Le ts (t, r, e, k, z) = (t.token.start, (t, e ∙ ap (λ l. t ∷ l) z, (ap cmp_of k, refl)))
  sign_read signs.Gt ts (t, r, e, k, z) = (t.token.start, (t, e ∙ ap (λ l. t ∷ l) z, (ap cmp_of k, refl)))
  sign_read signs.Ge ts (t, r, e, k, z) = (t.token.start, (t, e ∙ ap (λ l. t ∷ l) z, (ap cmp_of k, refl)))

  compare_read : (l at : ℕ) (w : CmpWord) (a b : Scalar) (word_at : ℕ) → IsCond (compare at w a b word_at) → FitsCond (compare at w a b word_at)
      → Reads end bytes (Neg end bytes (at_level l)) cond_without_places (compare at w a b word_at) (cond_bits true (compare at w a b word_at))
  compare_read l at w a b word_at h f ts s =
      let (x, r, e, p, q) = split bytes (scalar_bits a) (spaced_sign w ++ scalar_bits b) ts s in
      let (y, z, g, m, n) = split bytes (spaced_sign w) (scalar_bits b) r q in
      let (c, first, same) = scalar_read end bytes a h.0 f.0 x p in
      let (sign_at, sign) = sign_read w y m in
      let (d, second, same') = scalar_read end bytes b h.1 f.1 z n in (
        compare (place end ts) w c d sign_at,
        inr (inl (c, (x, r, e, first, inl (w, d, sign_at, (y, z, g, sign, second), refl)))),
        (λ i. compare 0 w (same i) (same' i) 0),
      )

  null_read : (l : ℕ) (column : ColumnName) → Reads end bytes (Neg end bytes (at_level l)) cond_without_places (is_null 0 column) (cond_bits true (is_null 0 column))
  null_read l column ts s =
      let (x, r, e, p, q) = split bytes (column_bits column) (a_blank ∷ a_word word.Is ∷ a_blank ∷ a_word word.Null ∷ []) ts s in
      let (c, read, same) = column_read end bytes column x p in (
        is_null (place end ts) c,
        inr (inl (scalars.Column c, (x, r, e, inl (c, read, refl), inr (inr (inr (c, refl, inl (two_words end bytes word.Is word.Null is_is is_null_word refl refl r q, refl))))))),
        ap (is_null 0) same,
      )

  not_null_read : (l : ℕ) (column : ColumnName) → Reads end bytes (Neg end bytes (at_level l)) cond_without_places (is_not_null 0 column) (cond_bits true (is_not_null 0 column))
  not_null_read l column ts s =
      let (x, r, e, p, q) = split bytes (column_bits column) (a_blank ∷ a_word word.Is ∷ a_blank ∷ a_word word.Not ∷ a_blank ∷ a_word word.Null ∷ []) ts s in
      let (y, z, g, m, n) = split bytes (a_word word.Is ∷ []) (a_word word.Not ∷ a_word word.Null ∷ []) r q in
      let (c, read, same) = column_read end bytes column x p in (
        is_not_null (place end ts) c,
        inr (inl (
          scalars.Column c,
          (
            x,
            r,
            e,
            inl (c, read, refl),
            inr (inr (inr (c, refl, inr (inl ((y, z, g, one_word end bytes word.Is is_is refl y m, two_words end bytes word.Not word.Null is_not is_null_word refl refl z n), refl))))),
          ),
        )),
        ap (is_not_null 0) same,
      )

  list_read : (k : ℕ) (column : ColumnName) (vs : List Value) → OneOrMore IsLiteral vs → AllByRecursion FitsValue vs
      → Reads end bytes (Neg end bytes (at_level (suc k))) cond_without_places (in_list 0 column vs 0) (cond_bits true (in_list 0 column vs 0))
  list_read k column vs h f ts s =
      let (x, r, e, p, q) = split bytes (column_bits column) (in_bits ++ (listed_bits value_bits vs ++ closed)) ts s in
      let (y, z, g, m, n) = split bytes (a_word word.In ∷ []) (opened ++ (listed_bits value_bits vs ++ closed)) r q in
      let (c, read, same) = column_read end bytes column x p in
      let (word_at, is_in_word) = one_word_at end bytes word.In is_in refl y m in
      let (us, values, same') = parens_read end bytes (Listed (AnyLiteral end bytes)) (λ us. us ≡ vs) (listed_bits value_bits vs) listed z n in (
        in_list (place end ts) c us word_at,
        inr (inl (scalars.Column c, (x, r, e, inl (c, read, refl), inr (inr (inr (c, refl, inr (inr (inl (us, word_at, (y, z, g, is_in_word, (below_room k, values)), refl))))))))),
        (λ i. in_list 0 (same i) (same' i) 0),
      )
    where
      both : (vs : List Value) → AllByRecursion IsLiteral vs → AllByRecursion FitsValue vs → AllByRecursion (λ v. IsLiteral v × FitsValue v) vs
      both [] h f = tt
      both (v ∷ vs) h f = ((h.0, f.0), both vs h.1 f.1)

      as_they_are : (us ws : List Value) → map (λ v. v) us ≡ map (λ v. v) ws → us ≡ ws
      as_they_are us ws h = sym (whole us) ∙ h ∙ whole ws
        where
          whole : (us : List Value) → map (λ v. v) us ≡ us
          whole [] = refl
          whole (u ∷ us) = ap (λ l. u ∷ l) (whole us)

      listed : (ts : Tokens) → Shows bytes (listed_bits value_bits vs) ts → (us : List Value) × Listed (AnyLiteral end bytes) us ts × (us ≡ vs)
      listed ts s =
          let (us, p, same) = listed_read end bytes (AnyLiteral end bytes) (λ v. v) value_bits (λ v. IsLiteral v × FitsValue v) (λ v g ts s. (v, value_read end bytes v g.0 g.1 ts s, refl)) vs (h.0, both vs h.1 f) ts s in
          (us, p, as_they_are us vs same)

  -- `x IN (query)`, and the same for more columns
  in_query_read : (k : ℕ) (columns : List ColumnName) (q : QueryTree) → OneOrMore IsColumn columns → Reads end bytes (Query k) without_places q (query_bits q)
      → Reads end bytes (Neg end bytes (at_level (suc k))) cond_without_places (in_query 0 columns q 0) (cond_bits true (in_query 0 columns q 0))
  in_query_read k [] q h query ts s = absurd (omega (arith, h.0))
  in_query_read k (c ∷ []) q h query ts s =
      let (x, r, e, p, n) = split bytes (tuple_bits (c ∷ [])) (in_bits ++ (query_bits q ++ closed)) ts s in
      let (u, v, g, m, z) = split bytes (column_bits c) [] x p in
      let (y, w, f, i, o) = split bytes (a_word word.In ∷ []) (opened ++ (query_bits q ++ closed)) r n in
      let (d, read, same) = column_read end bytes c u m in
      let (word_at, is_in_word) = one_word_at end bytes word.In is_in refl y i in
      let (a, inner, same') = parens_read end bytes (Query k) (λ a. without_places a ≡ without_places q) (query_bits q) query w o in
      let front : ts ≡ u ++ r = e ∙ ap (λ l. l ++ r) (g ∙ ap (λ l. u ++ l) z ∙ append-nil u) in (
        in_query (place end ts) (d ∷ []) a word_at,
        inr (inl (scalars.Column d, (u, r, front, inl (d, read, refl), inr (inr (inr (d, refl, inr (inr (inr (inr (a, word_at, (y, w, f, is_in_word, below_queries k a w inner), refl)))))))))),
        (λ j. in_query 0 (same j ∷ []) (same' j) 0),
      )
  in_query_read k (c ∷ d ∷ cs) q h query ts s =
      let (x, r, e, p, n) = split bytes (tuple_bits (c ∷ d ∷ cs)) (in_bits ++ (query_bits q ++ closed)) ts s in
      let (y, w, f, i, o) = split bytes (a_word word.In ∷ []) (opened ++ (query_bits q ++ closed)) r n in
      let (ks, columns, same) = parens_read end bytes (Listed (Column end bytes)) (λ ks. map column_without_place ks ≡ map column_without_place (c ∷ d ∷ cs)) (listed_bits column_bits (c ∷ d ∷ cs))
      (listed_read end bytes (Column end bytes) column_without_place column_bits IsColumn (λ c _. column_read end bytes c) (c ∷ d ∷ cs) h) x p in
      let (word_at, is_in_word) = one_word_at end bytes word.In is_in refl y i in
      let (a, inner, same') = parens_read end bytes (Query k) (λ a. without_places a ≡ without_places q) (query_bits q) query w o in (
        in_query (place end ts) ks a word_at,
        inr (inr (inl (ks, a, word_at, below_room k, (x, r, e, columns, (y, w, f, is_in_word, below_queries k a w inner)), refl))),
        (λ j. in_query 0 (same j) (same' j) 0),
      )

  negated_read : (k : ℕ) (c : CondTree) (at : ℕ) → Reads end bytes (Neg end bytes (at_level k)) cond_without_places c (bracketed_bits (stands_in_brackets false c) (cond_bits false c))
      → Reads end bytes (Neg end bytes (at_level (suc k))) cond_without_places (negated at c) (cond_bits true (negated at c))
  negated_read k c at inner ts s =
      let (x, r, e, p, n) = split bytes (a_word word.Not ∷ []) (bracketed_bits (stands_in_brackets false c) (cond_bits false c)) ts s in
      let (not_at, is) = one_word_at end bytes word.Not is_not refl x p in
      let (d, q, same) = inner r n in
      (negated not_at d, inl (below_negs k not_at d ts (x, r, e, is, q)), ap (negated 0) same)

  -- ---- runs

  abbrev ReadsMore : (Kind → Bool) → (CondTree → Tokens → Type 0) → CondTrees → List Bit → Type 0
  ReadsMore sep Part cs bits = (ts : Tokens) → Shows bytes bits ts → (ds : List CondTree) × Behind sep Part ds ts × (conds_without_places (trees_of ds) ≡ conds_without_places cs)

  one_more : (sep : Kind → Bool) (Part : CondTree → Tokens → Type 0) (w : Word) (c : CondTree) (cs : CondTrees) (bits others : List Bit) → ((ts : Tokens) → Shows bytes (a_word w ∷ []) ts → Is sep ts)
      → Reads end bytes Part cond_without_places c bits → ReadsMore sep Part cs others → ReadsMore sep Part (cond_then c cs) (spaced w ++ (bits ++ others))
  one_more sep Part w c cs bits others is first rest ts s =
      let (x, r, e, p, n) = split bytes (a_word w ∷ []) (bits ++ others) ts s in
      let (y, z, f, m, o) = split bytes bits others r n in
      let (d, part, same) = first y m in
      let (ds, behind, same') = rest z o in
      (d ∷ ds, (x, r, e, is x p, (y, z, f, part, behind)), (λ i. cond_then (same i) (same' i)))

  run_read : (sep : Kind → Bool) (whole : ℕ → CondTrees → CondTree) (Part : CondTree → Tokens → Type 0) (c b : CondTree) (cs : CondTrees) (bits others : List Bit) (at : ℕ)
      → ((n m : ℕ) (x y : CondTrees) → conds_without_places x ≡ conds_without_places y → cond_without_places (whole n x) ≡ cond_without_places (whole m y))
      → Reads end bytes Part cond_without_places c bits → ReadsMore sep Part (cond_then b cs) others
      → Reads end bytes (Run sep whole Part) cond_without_places (whole at (cond_then c (cond_then b cs))) (bits ++ others)
  run_read sep whole Part c b cs bits others at strips first rest ts s =
      let (x, r, e, p, n) = split bytes bits others ts s in
      let (d, part, same) = first x p in
      let (ds, behind, same') = rest r n in
      made d ds x r e part behind same same'
    where
      made : (d : CondTree) (ds : List CondTree) (x r : Tokens) → ts ≡ x ++ r → Part d x → Behind sep Part ds r → cond_without_places d ≡ cond_without_places c
          → conds_without_places (trees_of ds) ≡ conds_without_places (cond_then b cs)
          → (y : CondTree) × Run sep whole Part y ts × (cond_without_places y ≡ cond_without_places (whole at (cond_then c (cond_then b cs))))
      made d [] x r e part behind same same' = absurd cc
      made d (a ∷ ds) x r e part behind same same' =
          (one_or whole d (a ∷ ds), (d, a ∷ ds, (x, r, e, part, behind), refl), strips _ at _ _ (λ i. cond_then (same i) (same' i)))

  neg_conj : (l : ℕ) (c : CondTree) (bits : List Bit) → Reads end bytes (Neg end bytes (at_level l)) cond_without_places c bits → Reads end bytes (Conj end bytes (at_level l)) cond_without_places c bits
  neg_conj l c bits h ts s = let (d, p, e) = h ts s in (d, single is_and all_of (Neg end bytes (at_level l)) d ts p, e)

  and_strips : (n m : ℕ) (x y : CondTrees) → conds_without_places x ≡ conds_without_places y → cond_without_places (all_of n x) ≡ cond_without_places (all_of m y)
  and_strips n m x y e = ap (all_of 0) e

  or_strips : (n m : ℕ) (x y : CondTrees) → conds_without_places x ≡ conds_without_places y → cond_without_places (any_of n x) ≡ cond_without_places (any_of m y)
  or_strips n m x y e = ap (any_of 0) e

  -- ---- FROM

  abbrev FromOf : ℕ → FromTree → FromTree → Tokens → Type 0
  FromOf l (table name alias at alias_at) = Primary end bytes (at_level l)
  FromOf l (derived q alias columns at alias_at) = Primary end bytes (at_level l)
  FromOf l (comma left right at) = FromList end bytes (at_level l)
  FromOf l _ = Joined end bytes (at_level l)

  primary_joined : (l : ℕ) (f : FromTree) (ts : Tokens) → Primary end bytes (at_level l) f ts → Joined end bytes (at_level l) f ts
  primary_joined l f ts p = (f, zero, (ts, [], sym (append-nil ts), p, (refl, refl)))

  joined_list : (l : ℕ) (f : FromTree) (ts : Tokens) → Joined end bytes (at_level l) f ts → FromList end bytes (at_level l) f ts
  joined_list l f ts p = (f, zero, (ts, [], sym (append-nil ts), p, (refl, refl)))

  as_joined : (l : ℕ) (t f : FromTree) (ts : Tokens) → is_comma_list t ≡ false → FromOf l t f ts → Joined end bytes (at_level l) f ts
  as_joined l (table name alias at alias_at) f ts h p = primary_joined l f ts p
  as_joined l (derived q alias columns at alias_at) f ts h p = primary_joined l f ts p
  as_joined l (comma left right at) f ts h p = absurd cc
  as_joined l (inner_join left right on on_at) f ts h p = p
  as_joined l (left_join left right on on_at) f ts h p = p
  as_joined l (right_join left right on on_at) f ts h p = p

  as_list : (l : ℕ) (t f : FromTree) (ts : Tokens) → FromOf l t f ts → FromList end bytes (at_level l) f ts
  as_list l (table name alias at alias_at) f ts p = joined_list l f ts (primary_joined l f ts p)
  as_list l (derived q alias columns at alias_at) f ts p = joined_list l f ts (primary_joined l f ts p)
  as_list l (comma left right at) f ts p = p
  as_list l (inner_join left right on on_at) f ts p = joined_list l f ts p
  as_list l (left_join left right on on_at) f ts p = joined_list l f ts p
  as_list l (right_join left right on on_at) f ts p = joined_list l f ts p

  abbrev IsFromRead : ℕ → FromTree → Type 0
  IsFromRead l t = Reads end bytes (FromOf l t) from_without_places t (from_bits t)

  table_read : (l : ℕ) (name : List ℕ) (alias : Option (List ℕ)) (at alias_at : ℕ) → IsFromRead l (table name alias at alias_at)
  table_read l name alias at alias_at ts s =
      let (x, r, e, p, n) = split bytes (a_name name ∷ []) (as_bits alias) ts s in
      let (name_at, named) = one_name end bytes name x p in
      let (o, aliased, only) = as_read end bytes alias r n in
      (table name (name_only o) name_at (place_or o name_at), inl (name, name_at, o, (x, r, e, named, aliased), refl), ap (λ o. table name o 0 0) only)

  columns_read : (k : ℕ) (o : Option (List (List ℕ))) → IfWritten (OneOrMore IsName) o → (ts : Tokens) → Shows bytes (columns_bits o) ts → Columns end bytes (at_level (suc k)) o ts
  columns_read k None h ts s = inl (s, refl)
  columns_read k (Some ns) h ts s =
      let (ms, p, same) = parens_read end bytes (Listed (Name end bytes)) (λ ms. ms ≡ ns) (listed_bits name_bits ns) listed ts s in
      inr (ns, below_room k, subst (λ (l : List (List ℕ)). Parens (Listed (Name end bytes)) l ts) same p, refl)
    where
      as_they_are : (us ws : List (List ℕ)) → map (λ v. v) us ≡ map (λ v. v) ws → us ≡ ws
      as_they_are us ws h = sym (whole us) ∙ h ∙ whole ws
        where
          whole : (us : List (List ℕ)) → map (λ v. v) us ≡ us
          whole [] = refl
          whole (u ∷ us) = ap (λ l. u ∷ l) (whole us)

      listed : (ts : Tokens) → Shows bytes (listed_bits name_bits ns) ts → (ms : List (List ℕ)) × Listed (Name end bytes) ms ts × (ms ≡ ns)
      listed ts s =
          let (ms, p, same) = listed_read end bytes (Name end bytes) (λ n. n) name_bits IsName (λ n _ ts s. (n, one_name end bytes n ts s, refl)) ns h ts s in
          (ms, p, as_they_are ms ns same)

  derived_read : (k : ℕ) (q : QueryTree) (alias : List ℕ) (columns : Option (List (List ℕ))) (at alias_at : ℕ) → IfWritten (OneOrMore IsName) columns
      → Reads end bytes (Query k) without_places q (query_bits q) → IsFromRead (suc k) (derived q alias columns at alias_at)
  derived_read k q alias columns at alias_at h query ts s =
      let (x, r, e, p, n) = split bytes opened (query_bits q ++ (closed ++ (spaced word.As ++ ((a_name alias ∷ []) ++ columns_bits columns)))) ts s in
      let (y, z, f, m, o) = split bytes (query_bits q) (closed ++ (spaced word.As ++ ((a_name alias ∷ []) ++ columns_bits columns))) r n in
      let (c, v, g, i, j) = split bytes closed ((spaced word.As ++ a_name alias ∷ []) ++ columns_bits columns) z o in
      let (a, b, w, named, listed) = split bytes (spaced word.As ++ a_name alias ∷ []) (columns_bits columns) v j in
      let (d, read, same) = query y m in
      let (name_at, is_named) = named_read end bytes alias a named in
      let inner : Parens (Query k) d (x ++ (y ++ c)) = (x, y ++ c, refl, one_sign end bytes sym.Open is_open refl x p, (y, c, refl, read, one_sign end bytes sym.Close is_close refl c i)) in
      let front : ts ≡ (x ++ (y ++ c)) ++ v =
      e ∙ ap (λ l. x ++ l) (f ∙ ap (λ l. y ++ l) g ∙ sym (append_assoc y c v)) ∙ sym (append_assoc x (y ++ c) v) in (
        derived d alias columns (place end ts) name_at,
        inr (inl (d, alias, name_at, columns, (x ++ (y ++ c), v, front, below_queries k d (x ++ (y ++ c)) inner, (a, b, w, is_named, columns_read k columns h b listed)), refl)),
        ap (λ q. derived q alias columns 0 0) same,
      )

  joined_operand : (l : ℕ) (t : FromTree) → is_comma_list t ≡ false → ((k : ℕ) → from_levels t ≤ k → IsFromRead k t) → suc (from_levels t) ≤ l
      → Reads end bytes (Primary end bytes (at_level l)) from_without_places t (bracketed_bits true (from_bits t))
  joined_operand zero t h read fits ts s = absurd (omega arith)
  joined_operand (suc k) t h read fits ts s =
      let (f, p, e) = parens_read end bytes (Joined end bytes (at_level k)) (λ f. from_without_places f ≡ from_without_places t) (from_bits t) joined ts s in
      (f, inr (inr (below_froms k f ts p)), e)
    where
      joined : (ts : Tokens) → Shows bytes (from_bits t) ts → (f : FromTree) × Joined end bytes (at_level k) f ts × (from_without_places f ≡ from_without_places t)
      joined ts s = let (f, p, e) = read k (omega arith) ts s in (f, as_joined k t f ts h p, e)

  operand_read : (l : ℕ) (t : FromTree) → is_comma_list t ≡ false → ((k : ℕ) → from_levels t ≤ k → IsFromRead k t) → deeper_if (is_join_tree t) (from_levels t) ≤ l
      → Reads end bytes (Primary end bytes (at_level l)) from_without_places t (bracketed_bits (is_join_tree t) (from_bits t))
  operand_read l (table name alias at alias_at) h read fits = read l fits
  operand_read l (derived q alias columns at alias_at) h read fits = read l fits
  operand_read l (comma left right at) h read fits = absurd cc
  operand_read l (inner_join left right on on_at) h read fits = joined_operand l (inner_join left right on on_at) h read fits
  operand_read l (left_join left right on on_at) h read fits = joined_operand l (left_join left right on on_at) h read fits
  operand_read l (right_join left right on on_at) h read fits = joined_operand l (right_join left right on on_at) h read fits

  abbrev kind_words : JoinKind → Word
  kind_words joining.Inner = word.Inner
  kind_words joining.Left = word.Left
  kind_words joining.Right = word.Right

  join_words_read : (l : ℕ) (k : JoinKind) (ts : Tokens) → Shows bytes (spaced_two (kind_words k) word.Join) ts → JoinWords end bytes (at_level l) k ts
  join_words_read l joining.Inner ts s = inr (inl (two_words end bytes word.Inner word.Join is_inner is_join refl refl ts s, refl))
  join_words_read l joining.Left ts s = inr (inr (inl (inl (two_words end bytes word.Left word.Join is_left is_join refl refl ts s), refl)))
  join_words_read l joining.Right ts s = inr (inr (inr (inl (two_words end bytes word.Right word.Join is_right is_join refl refl ts s), refl)))

  -- a join behind its left operand
  join_read : (l : ℕ) (k : JoinKind) (left right : FromTree) (on : CondTree) (on_at : ℕ) → is_comma_list left ≡ false → IsFromRead l left
      → Reads end bytes (Primary end bytes (at_level l)) from_without_places right (bracketed_bits (is_join_tree right) (from_bits right))
      → Reads end bytes (Cond end bytes (at_level l)) cond_without_places on (bracketed_bits (is_or_tree on) (cond_bits true on))
      → Reads end bytes (Joined end bytes (at_level l)) from_without_places (join_of k left right on on_at)
      (from_bits left ++ (spaced_two (kind_words k) word.Join ++ (bracketed_bits (is_join_tree right) (from_bits right) ++ (spaced word.On ++ bracketed_bits (is_or_tree on) (cond_bits true on)))))
  join_read l k left right on on_at h left_read right_read on_read ts s =
      let behind_on = spaced word.On ++ bracketed_bits (is_or_tree on) (cond_bits true on) in
      let (x, r, e, p, n) = split bytes (from_bits left) (spaced_two (kind_words k) word.Join ++ (bracketed_bits (is_join_tree right) (from_bits right) ++ behind_on)) ts s in
      let (y, z, f, m, o) = split bytes (spaced_two (kind_words k) word.Join) (bracketed_bits (is_join_tree right) (from_bits right) ++ behind_on) r n in
      let (u, v, g, i, j) = split bytes (bracketed_bits (is_join_tree right) (from_bits right)) behind_on z o in
      let (a, b, w, c, d) = split bytes (spaced word.On) (bracketed_bits (is_or_tree on) (cond_bits true on)) v j in
      let (first, first_read, first_same) = left_read x p in
      let (second, second_read, second_same) = right_read u i in
      let (place_of_on, is_on_word) = one_word_at end bytes word.On is_on refl a c in
      let (cond, is_cond, cond_same) = on_read b d in
      made x r e first second cond place_of_on (as_joined l left first x h first_read)
      (y, z, f, join_words_read l k y m, (u, v, g, second_read, (a, b, w, is_on_word, is_cond))) first_same second_same cond_same
    where
      same_join : (k : JoinKind) (first second : FromTree) (cond : CondTree) (at : ℕ) → from_without_places first ≡ from_without_places left → from_without_places second ≡ from_without_places right
          → cond_without_places cond ≡ cond_without_places on → from_without_places (join_of k first second cond at) ≡ from_without_places (join_of k left right on on_at)
      same_join joining.Inner first second cond at e f g = λ i. inner_join (e i) (f i) (g i) 0
      same_join joining.Left first second cond at e f g = λ i. left_join (e i) (f i) (g i) 0
      same_join joining.Right first second cond at e f g = λ i. right_join (e i) (f i) (g i) 0

      made : (x r : Tokens) → ts ≡ x ++ r → (first second : FromTree) (cond : CondTree) (at : ℕ) → Joined end bytes (at_level l) first x
          → Seq (JoinWords end bytes (at_level l) k) (Seq (Primary end bytes (at_level l) second) (Seq (IsAt is_on at) (Cond end bytes (at_level l) cond))) r
          → from_without_places first ≡ from_without_places left → from_without_places second ≡ from_without_places right → cond_without_places cond ≡ cond_without_places on
          → (f : FromTree) × Joined end bytes (at_level l) f ts × (from_without_places f ≡ from_without_places (join_of k left right on on_at))
      made x r e first second cond at (a, n, (y, z, f, is, chain)) joins same same' same'' =
          let whole = join_of k first second cond at in
          let step : Join end bytes (at_level l) first whole r = (k, second, at, cond, joins, refl) in
          let longer = chain_more (Join end bytes (at_level l)) n a first whole z r chain step in
          (whole, (a, suc n, (y, z ++ r, e ∙ ap (λ t. t ++ r) f ∙ append_assoc y z r, is, longer)), same_join k first second cond at same same' same'')

  comma_read : (l : ℕ) (left right : FromTree) (comma_at : ℕ) → is_comma_list right ≡ false → IsFromRead l left → IsFromRead l right → IsFromRead l (comma left right comma_at)
  comma_read l left right comma_at h left_read right_read ts s =
      let (x, r, e, p, n) = split bytes (from_bits left) (a_sign sym.Comma ∷ a_blank ∷ from_bits right) ts s in
      let (y, z, f, m, o) = split bytes (a_sign sym.Comma ∷ a_blank ∷ []) (from_bits right) r n in
      let (first, first_read, first_same) = left_read x p in
      let (second, second_read, second_same) = right_read z o in
      let (at, is) = one_sign_at end bytes sym.Comma is_comma refl y m in
      made x r e first second at (as_list l left first x first_read) (y, z, f, is, as_joined l right second z h second_read) first_same second_same
    where
      made : (x r : Tokens) → ts ≡ x ++ r → (first second : FromTree) (at : ℕ) → FromList end bytes (at_level l) first x
          → Seq (IsAt is_comma at) (Joined end bytes (at_level l) second) r
          → from_without_places first ≡ from_without_places left → from_without_places second ≡ from_without_places right
          → (f : FromTree) × FromList end bytes (at_level l) f ts × (from_without_places f ≡ from_without_places (comma left right comma_at))
      made x r e first second at (a, n, (y, z, f, is, chain)) listed same same' =
          let step : ListedPart end bytes (at_level l) first (comma first second at) r = (second, at, listed, refl) in
          let longer = chain_more (ListedPart end bytes (at_level l)) n a first (comma first second at) z r chain step in
          (comma first second at, (a, suc n, (y, z ++ r, e ∙ ap (λ t. t ++ r) f ∙ append_assoc y z r, is, longer)), (λ i. comma (same i) (same' i) 0))

  -- ---- queries

  distinct_read : (l : ℕ) (d : Bool) (ts : Tokens) → Shows bytes (distinct_bits d) ts → Quantifier end bytes (at_level l) d ts
  distinct_read l true ts s = inr (inr (one_word end bytes word.Distinct is_distinct refl ts s, refl))
  distinct_read l false ts s = inl (s, refl)

  where_read : (l : ℕ) (c : CondTree) → Reads end bytes (Cond end bytes (at_level l)) cond_without_places c (bracketed_bits (is_or_tree c) (cond_bits true c))
      → Reads end bytes (Filter end bytes (at_level l)) filter_without_places (filter_by c) (filter_bits (filter_by c))
  where_read l c h ts s =
      let (x, r, e, p, n) = split bytes (spaced word.Where) (bracketed_bits (is_or_tree c) (cond_bits true c)) ts s in
      let (d, read, same) = h r n in
      (filter_by d, inr (d, (x, r, e, one_word end bytes word.Where is_where refl x p, read), refl), ap filter_by same)

  select_read : (l : ℕ) (d : Bool) (is : List Item) (from : FromTree) (filter : FilterTree) → OneOrMore IsFormedItem is → IsFromRead l from
      → Reads end bytes (Filter end bytes (at_level l)) filter_without_places filter (filter_bits filter)
      → Reads end bytes (Query l) without_places (select d is from filter) (query_bits (select d is from filter))
  select_read l d is from filter h from_read filter_read ts s =
      let behind_from = from_bits from ++ filter_bits filter in
      let (x, r, e, p, n) = split bytes (a_word word.Select ∷ []) (distinct_bits d ++ (listed_bits item_bits is ++ (spaced word.From ++ behind_from))) ts s in
      let (y, z, f, m, o) = split bytes (distinct_bits d) (listed_bits item_bits is ++ (spaced word.From ++ behind_from)) r n in
      let (u, v, g, i, j) = split bytes (listed_bits item_bits is) (spaced word.From ++ behind_from) z o in
      let (a, b, w, c, k) = split bytes (spaced word.From) behind_from v j in
      let (q, t, k1, k2, k3) = split bytes (from_bits from) (filter_bits filter) b k in
      let (js, items, items_same) = listed_read end bytes (IsItem end bytes) item_without_place item_bits IsFormedItem (λ i _. item_read end bytes i) is h u i in
      let (source, sources, source_same) = from_read q k2 in
      let (rest, filtered, filter_same) = filter_read t k3 in (
        select d js source rest,
        (
          x,
          r,
          e,
          one_word end bytes word.Select is_select refl x p,
          (d, js, source, rest, (y, z, f, distinct_read l d y m, (u, v, g, items, (a, b, w, one_word end bytes word.From is_from refl a c, (q, t, k1, as_list l from source q sources, filtered)))), refl),
        ),
        (λ i. select d (items_same i) (source_same i) (filter_same i)),
      )

  -- ---- all of them

  mutual
    pub query_read : (q : QueryTree) (l : ℕ) → IsFormed q → Fits q → levels q ≤ l → Reads end bytes (Query l) without_places q (query_bits q)
    query_read (select d is from filter) l h f fits =
        select_read l d is from filter h.0 (from_read from l h.1 f.0 (omega arith)) (filter_read filter l h.2 f.1 (omega arith))

    filter_read : (w : FilterTree) (l : ℕ) → IsFilter w → FitsFilter w → filter_levels w ≤ l → Reads end bytes (Filter end bytes (at_level l)) filter_without_places w (filter_bits w)
    filter_read no_filter l h f fits = λ ts s. (no_filter, inl (s, refl), refl)
    filter_read (filter_by c) l h f fits = where_read l c (whole_read l c (λ k fit. cond_read c true k h f fit) fits)

    from_read : (t : FromTree) (l : ℕ) → IsFrom t → FitsFrom t → from_levels t ≤ l → IsFromRead l t
    from_read (table name alias at alias_at) l h f fits = table_read l name alias at alias_at
    from_read (derived q alias columns at alias_at) zero h f fits = λ ts s. absurd (omega arith)
    from_read (derived q alias columns at alias_at) (suc k) h f fits = derived_read k q alias columns at alias_at h.2 (query_read q k h.0 f (omega arith))
    from_read (inner_join left right on on_at) l h f fits =
        join_read l joining.Inner left right on on_at h.1 (from_read left l h.0 f.0 (omega arith))
        (operand_read l right h.3 (λ k fit. from_read right k h.2 f.1 fit) (omega arith)) (whole_read l on (λ k fit. cond_read on true k h.4 f.2 fit) (omega arith))
    from_read (left_join left right on on_at) l h f fits =
        join_read l joining.Left left right on on_at h.1 (from_read left l h.0 f.0 (omega arith))
        (operand_read l right h.3 (λ k fit. from_read right k h.2 f.1 fit) (omega arith)) (whole_read l on (λ k fit. cond_read on true k h.4 f.2 fit) (omega arith))
    from_read (right_join left right on on_at) l h f fits =
        join_read l joining.Right left right on on_at h.1 (from_read left l h.0 f.0 (omega arith))
        (operand_read l right h.3 (λ k fit. from_read right k h.2 f.1 fit) (omega arith)) (whole_read l on (λ k fit. cond_read on true k h.4 f.2 fit) (omega arith))
    from_read (comma left right comma_at) l h f fits =
        comma_read l left right comma_at h.2 (from_read left l h.0 f.0 (omega arith)) (from_read right l h.1 f.1 (omega arith))

    cond_read : (c : CondTree) (top : Bool) (l : ℕ) → IsCond c → FitsCond c → cond_levels top c ≤ l → IsPartRead top l c
    cond_read (compare at w a b word_at) top l h f fits = compare_read l at w a b word_at h f
    cond_read (is_null at column) top l h f fits = null_read l column
    cond_read (is_not_null at column) top l h f fits = not_null_read l column
    cond_read (in_list at column vs word_at) top zero h f fits = λ ts s. absurd (omega arith)
    cond_read (in_list at column vs word_at) top (suc k) h f fits = list_read k column vs h.1 f
    cond_read (in_query at columns q word_at) top zero h f fits = λ ts s. absurd (omega arith)
    cond_read (in_query at columns q word_at) top (suc k) h f fits = in_query_read k columns q h.0 (query_read q k h.1 f (omega arith))
    cond_read (negated at c) top zero h f fits = λ ts s. absurd (omega arith)
    cond_read (negated at c) top (suc k) h f fits = negated_read k c at (part_read false k c (λ j fit. cond_read c false j h f fit) (omega arith))
    cond_read (all_of at no_conds) top l h f fits = λ ts s. absurd (omega (arith, h.0))
    cond_read (all_of at (cond_then c no_conds)) top l h f fits = λ ts s. absurd (omega (arith, h.0))
    cond_read (all_of at (cond_then c (cond_then b cs))) top l h f fits =
        run_read is_and all_of (Neg end bytes (at_level l)) c b cs (bracketed_bits (stands_in_brackets top c) (cond_bits false c)) (more_bits top word.And (cond_then b cs)) at and_strips
        (part_read top l c (λ j fit. cond_read c false j h.1.0 f.0 fit) (omega arith)) (ands_read (cond_then b cs) top l h.1.1 f.1 (omega arith))
    cond_read (any_of at no_conds) top l h f fits = λ ts s. absurd (omega (arith, h.0))
    cond_read (any_of at (cond_then c no_conds)) top l h f fits = λ ts s. absurd (omega (arith, h.0))
    cond_read (any_of at (cond_then c (cond_then b cs))) top l h f fits =
        run_read is_or any_of (Conj end bytes (at_level l)) c b cs (bracketed_bits (stands_in_brackets false c) (cond_bits false c)) (more_bits false word.Or (cond_then b cs)) at or_strips
        (neg_conj l c (bracketed_bits (stands_in_brackets false c) (cond_bits false c)) (part_read false l c (λ j fit. cond_read c false j h.1.0 f.0 fit) (omega arith))) (ors_read (cond_then b cs) l h.1.1 f.1 (omega arith))

    ands_read : (cs : CondTrees) (conjuncts : Bool) (l : ℕ) → AreConds cs → FitsConds cs → parts_levels conjuncts cs ≤ l → ReadsMore is_and (Neg end bytes (at_level l)) cs (more_bits conjuncts word.And cs)
    ands_read no_conds conjuncts l h f fits = λ ts s. ([], s, refl)
    ands_read (cond_then c cs) conjuncts l h f fits =
        one_more is_and (Neg end bytes (at_level l)) word.And c cs (bracketed_bits (stands_in_brackets conjuncts c) (cond_bits false c)) (more_bits conjuncts word.And cs) (one_word end bytes word.And is_and refl)
        (part_read conjuncts l c (λ j fit. cond_read c false j h.0 f.0 fit) (omega arith)) (ands_read cs conjuncts l h.1 f.1 (omega arith))

    ors_read : (cs : CondTrees) (l : ℕ) → AreConds cs → FitsConds cs → parts_levels false cs ≤ l → ReadsMore is_or (Conj end bytes (at_level l)) cs (more_bits false word.Or cs)
    ors_read no_conds l h f fits = λ ts s. ([], s, refl)
    ors_read (cond_then c cs) l h f fits =
        one_more is_or (Conj end bytes (at_level l)) word.Or c cs (bracketed_bits (stands_in_brackets false c) (cond_bits false c)) (more_bits false word.Or cs) (one_word end bytes word.Or is_or refl)
        (neg_conj l c (bracketed_bits (stands_in_brackets false c) (cond_bits false c)) (part_read false l c (λ j fit. cond_read c false j h.0 f.0 fit) (omega arith))) (ors_read cs l h.1 f.1 (omega arith))
