-- The tree of a sentence is formed: its lists and runs have the parts that they need, and its names are names.
use Rattle.std.proofs.Common.{◌≡◌, ℕ, zero, suc, ◌≤◌, inl, inr, Bool, true, false, List, [], ◌∷◌, ◌++◌, refl, sym, arith, Option, subst}
use Rattle.std.specs.List.{AllByRecursion}
use Rattle.std.specs.Str.{is_utf8}
use Rattle.wt_value.specs.declared.value.Value.{Value}
use Rattle.wt_lex.specs.Names.{name_bytes, text_bytes}
use Rattle.wt_ast.specs.declared.tree.ColumnName.{ColumnName}
use Rattle.wt_ast.specs.declared.tree.Scalar.{Scalar}
use Rattle.wt_ast.specs.Tree.{QueryTree, FromTree, CondTree, CondTrees, all_of, any_of, trees_of, cond_at}
use Rattle.wt_ast.specs.Lawful.{IsName, IfWritten, OneOrMore, IsColumn, IsLiteral, IsScalar, IsFormed, IsFilter, IsFrom, IsCond, AreConds, part_count}
use Rattle.wt_ast.specs.Lawful as lawful
use Rattle.wt_reading.specs.declared.lexeme.Kind.{Kind}
use Rattle.wt_reading.specs.declared.lexeme.Kind.TheVariants.{Text}
use Rattle.wt_reading.specs.declared.lexeme.Lexeme.{Lexeme}
use Rattle.wt_reading.specs.Lexemes.{Tokens, is_name, is_comma}
use Rattle.wt_reading.specs.Sentences.{Seq, Is, Behind, Listed, Parens}
use Rattle.wt_grammar.specs.Kinds.{is_and, is_or, is_select}
use Rattle.wt_grammar.specs.declared.join.JoinKind.{JoinKind}
use Rattle.wt_grammar.specs.declared.join.JoinKind.TheVariants as joining
use Rattle.wt_grammar.specs.Reading.{name_at, text_at, name_only, one_or, join_of}
use Rattle.wt_sentence.specs.Grammar.{Run, Chain, Column, Literal, Operand, Named, Alias, Deeper, deeper}
use Rattle.wt_sentence.specs.Grammar as spec

-- a name stands for a name, and a text is UTF-8
abbrev pub Stands : List ℕ → Lexeme → Type 0
Stands bytes t = (is_name t.kind ≡ true → IsName (name_bytes bytes t.token)) × (t.kind ≡ Text → is_utf8 (text_bytes bytes t.token) ≡ true)

abbrev pub AllStand : List ℕ → Tokens → Type 0
AllStand bytes = AllByRecursion (Stands bytes)

module _ (bytes : List ℕ) where
  split : (a b : Tokens) → AllStand bytes (a ++ b) → AllStand bytes a × AllStand bytes b
  split [] b h = (tt, h)
  split (t ∷ a) b h = let (p, q) = split a b h.1 in ((h.0, p), q)

  parts : (ts a b : Tokens) → ts ≡ a ++ b → AllStand bytes ts → AllStand bytes a × AllStand bytes b
  parts ts a b e h = split a b (subst (AllStand bytes) e h)

  -- whatever has the part has the fact
  abbrev pub Forms : {A : Type 0} → (A → Tokens → Type 0) → (A → Type 0) → Type 0
  Forms {A} Part Is = (x : A) (ts : Tokens) → AllStand bytes ts → Part x ts → Is x

  behind_forms : {A : Type 0} (sep : Kind → Bool) (Part : A → Tokens → Type 0) (Is : A → Type 0) → Forms Part Is → Forms (Behind sep Part) (AllByRecursion Is)
  behind_forms sep Part Is part [] ts h p = tt
  behind_forms sep Part Is part (x ∷ xs) ts h (a, b, e, s, (c, d, f, p, q)) =
      let inner = parts b c d f (parts ts a b e h).1 in
      (part x c inner.0 p, behind_forms sep Part Is part xs d inner.1 q)

  listed_forms : {A : Type 0} (Part : A → Tokens → Type 0) (Is : A → Type 0) → Forms Part Is → Forms (Listed Part) (OneOrMore Is)
  listed_forms Part Is part xs ts h (y, ys, (a, b, e, p, q), is) =
      let both = parts ts a b e h in
      subst (OneOrMore Is) (sym is) (omega arith, (part y a both.0 p, behind_forms is_comma Part Is part ys b both.1 q))

  parens_forms : {A : Type 0} (Part : A → Tokens → Type 0) (Is : A → Type 0) → Forms Part Is → Forms (Parens Part) Is
  parens_forms Part Is part x ts h (a, b, e, o, (c, d, f, p, k)) = part x c (parts b c d f (parts ts a b e h).1).0 p

  module _ (end : ℕ) where
    name_forms : (n : List ℕ) (at : ℕ) (ts : Tokens) → AllStand bytes ts → spec.NameAt end bytes n at ts → IsName n
    unfolding name_at
    name_forms n at ts h (t, e, (is, ne, ate)) = subst IsName (sym ne) ((subst (AllStand bytes) e h).0.0 is)

    any_name_forms : Forms (spec.Name end bytes) IsName
    any_name_forms n ts h (at, p) = name_forms n at ts h p

    column_forms : Forms (Column end bytes) IsColumn
    column_forms c ts h (inl (n, at, p, ce)) = subst IsColumn (sym ce) (tt, name_forms n at ts h p)
    column_forms c ts h (inr (q, n, at, (a, b, e, p, (d, g, f, dot, r)), ce)) =
        let both = parts ts a b e h in
        subst IsColumn (sym ce) (name_forms q at a both.0 p, any_name_forms n g (parts b d g f both.1).1 r)

    literal_forms : (v : Value) (at : ℕ) (ts : Tokens) → AllStand bytes ts → Literal end bytes v at ts → IsLiteral v
    unfolding text_at
    literal_forms v at ts h (inl (n, p, small, ve)) = subst IsLiteral (sym ve) tt
    literal_forms v at ts h (inr (inl (t, e, (k, ate, ve)))) = subst IsLiteral (sym ve) ((subst (AllStand bytes) e h).0.1 k)
    literal_forms v at ts h (inr (inr (n, p, small, ve))) = subst IsLiteral (sym ve) tt

    any_literal_forms : Forms (spec.AnyLiteral end bytes) IsLiteral
    any_literal_forms v ts h (at, p) = literal_forms v at ts h p

    operand_forms : Forms (Operand end bytes) IsScalar
    operand_forms x ts h (inl (c, p, xe)) = subst IsScalar (sym xe) (column_forms c ts h p)
    operand_forms x ts h (inr (v, at, p, xe)) = subst IsScalar (sym xe) (literal_forms v at ts h p)

    named_forms : (n : List ℕ) (at : ℕ) (ts : Tokens) → AllStand bytes ts → Named end bytes n at ts → IsName n
    named_forms n at ts h (inl p) = name_forms n at ts h p
    named_forms n at ts h (inr (a, b, e, s, p)) = name_forms n at b (parts ts a b e h).1 p

    alias_forms : (o : Option (List ℕ × ℕ)) (ts : Tokens) → AllStand bytes ts → Alias end bytes o ts → IfWritten IsName (name_only o)
    alias_forms o ts h (inl (e, oe)) = subst (λ o. IfWritten IsName (name_only o)) (sym oe) tt
    alias_forms o ts h (inr (n, at, p, oe)) = subst (λ o. IfWritten IsName (name_only o)) (sym oe) (named_forms n at ts h p)

    item_forms : Forms (spec.IsItem end bytes) lawful.IsItem
    item_forms i ts h (inl (at, p, ie)) = subst lawful.IsItem (sym ie) tt
    item_forms i ts h (inr (inl (n, at, (a, b, e, p, r), ie))) = subst lawful.IsItem (sym ie) (name_forms n at a (parts ts a b e h).0 p)
    item_forms i ts h (inr (inr (c, o, (a, b, e, p, q), ie))) =
        let both = parts ts a b e h in
        subst lawful.IsItem (sym ie) (column_forms c a both.0 p, alias_forms o b both.1 q)

    -- ---- runs

    are_conds : (cs : List CondTree) → AllByRecursion IsCond cs → AreConds (trees_of cs)
    are_conds [] h = tt
    are_conds (c ∷ cs) h = (h.0, are_conds cs h.1)

    one_or_forms : (whole : ℕ → CondTrees → CondTree) → ((at : ℕ) (cs : CondTrees) → 2 ≤ part_count cs → AreConds cs → IsCond (whole at cs)) → (x : CondTree) (xs : List CondTree) → IsCond x
        → AllByRecursion IsCond xs → IsCond (one_or whole x xs)
    one_or_forms whole made x [] h hs = h
    one_or_forms whole made x (y ∷ ys) h hs = made (cond_at x) (trees_of (x ∷ y ∷ ys)) (omega arith) (are_conds (x ∷ y ∷ ys) (h, hs))

    run_forms : (sep : Kind → Bool) (whole : ℕ → CondTrees → CondTree) (Part : CondTree → Tokens → Type 0) → ((at : ℕ) (cs : CondTrees) → 2 ≤ part_count cs → AreConds cs → IsCond (whole at cs))
        → Forms Part IsCond → Forms (Run sep whole Part) IsCond
    run_forms sep whole Part made part c ts h (x, xs, (a, b, e, p, q), is) =
        let both = parts ts a b e h in
        subst IsCond (sym is) (one_or_forms whole made x xs (part x a both.0 p) (behind_forms sep Part IsCond part xs b both.1 q))

    -- an item of FROM that is no list with commas
    abbrev pub IsJoined : FromTree → Type 0
    IsJoined f = IsFrom f × (lawful.is_comma f ≡ false)

    -- what stands one level deeper is formed
    pub record FormedBelow (d : Deeper) : Type 0 where
      pub negs : Forms d.negs IsCond
      pub conds : Forms d.conds IsCond
      pub queries : Forms d.queries IsFormed
      pub froms : Forms d.froms IsJoined

    module _ (d : Deeper) (below : FormedBelow d) where
      values_forms : Forms (spec.Values end bytes d) (OneOrMore IsLiteral)
      values_forms vs ts h (room, p) = parens_forms (Listed (spec.AnyLiteral end bytes)) (OneOrMore IsLiteral) (listed_forms (spec.AnyLiteral end bytes) IsLiteral any_literal_forms) vs ts h p

      between_forms : (at : ℕ) (x : Scalar) (c : CondTree) (ts : Tokens) → IsScalar x → AllStand bytes ts → spec.Between end bytes d at x c ts → IsCond c
      between_forms at x c ts sx h (word, low, high, (a, b, e, w, (l, r, f, p, (m, n, g, s, q))), ce) =
          let rest = parts b l r f (parts ts a b e h).1 in
          let sl = operand_forms low l rest.0 p in
          let sh = operand_forms high n (parts r m n g rest.1).1 q in
          subst IsCond (sym ce) (omega arith, ((sx, sl), ((sx, sh), tt)))

      of_column_forms : (at : ℕ) (k : ColumnName) (c : CondTree) (ts : Tokens) → IsColumn k → AllStand bytes ts → spec.OfColumn end bytes d at k c ts → IsCond c
      of_column_forms at k c ts sk h (inl (p, ce)) = subst IsCond (sym ce) sk
      of_column_forms at k c ts sk h (inr (inl (p, ce))) = subst IsCond (sym ce) sk
      of_column_forms at k c ts sk h (inr (inr (inl (vs, word, (a, b, e, w, p), ce)))) = subst IsCond (sym ce) (sk, values_forms vs b (parts ts a b e h).1 p)
      of_column_forms at k c ts sk h (inr (inr (inr (inl (vs, word, (a, b, e, n, (l, r, f, w, p)), ce))))) =
          subst IsCond (sym ce) (sk, values_forms vs r (parts b l r f (parts ts a b e h).1).1 p)
      of_column_forms at k c ts sk h (inr (inr (inr (inr (q, word, (a, b, e, w, p), ce))))) =
          subst IsCond (sym ce) ((omega arith, (sk, tt)), below.queries q b (parts ts a b e h).1 p)

      tail_forms : (at : ℕ) (x : Scalar) (c : CondTree) (ts : Tokens) → IsScalar x → AllStand bytes ts → spec.Tail end bytes d at x c ts → IsCond c
      tail_forms at x c ts sx h (inl (w, y, word, (a, b, e, s, p), ce)) = subst IsCond (sym ce) (sx, operand_forms y b (parts ts a b e h).1 p)
      tail_forms at x c ts sx h (inr (inl p)) = between_forms at x c ts sx h p
      tail_forms at x c ts sx h (inr (inr (inl (g, (a, b, e, n, p), ce)))) = subst IsCond (sym ce) (between_forms at x g b sx (parts ts a b e h).1 p)
      tail_forms at x c ts sx h (inr (inr (inr (k, xe, p)))) = of_column_forms at k c ts (subst IsScalar xe sx) h p

      tuple_forms : Forms (spec.TupleIn end bytes d) IsCond
      tuple_forms c ts h (ks, q, word, room, (a, b, e, p, (l, r, f, w, s)), ce) =
          let both = parts ts a b e h in
          subst IsCond (sym ce) (
            parens_forms (Listed (Column end bytes)) (OneOrMore IsColumn) (listed_forms (Column end bytes) IsColumn column_forms) ks a both.0 p,
            below.queries q r (parts b l r f both.1).1 s,
          )

      basic_forms : Forms (spec.Basic end bytes d) IsCond
      basic_forms c ts h (inl (x, (a, b, e, p, q))) =
          let both = parts ts a b e h in
          tail_forms _ x c b (operand_forms x a both.0 p) both.1 q
      basic_forms c ts h (inr (inl p)) = tuple_forms c ts h p
      basic_forms c ts h (inr (inr p)) = below.conds c ts h p

      neg_forms : Forms (spec.Neg end bytes d) IsCond
      neg_forms c ts h (inl p) = below.negs c ts h p
      neg_forms c ts h (inr p) = basic_forms c ts h p

      conj_forms : Forms (spec.Conj end bytes d) IsCond
      conj_forms = run_forms is_and all_of (spec.Neg end bytes d) (λ at cs two h. (two, h)) neg_forms

      cond_forms : Forms (spec.Cond end bytes d) IsCond
      cond_forms = run_forms is_or any_of (spec.Conj end bytes d) (λ at cs two h. (two, h)) conj_forms

      -- ---- FROM

      columns_forms : Forms (spec.Columns end bytes d) (IfWritten (OneOrMore IsName))
      columns_forms o ts h (inl (e, oe)) = subst (IfWritten (OneOrMore IsName)) (sym oe) tt
      columns_forms o ts h (inr (ns, room, p, oe)) =
          subst (IfWritten (OneOrMore IsName)) (sym oe) (parens_forms (Listed (spec.Name end bytes)) (OneOrMore IsName) (listed_forms (spec.Name end bytes) IsName any_name_forms) ns ts h p)

      primary_forms : Forms (spec.Primary end bytes d) IsJoined
      primary_forms f ts h (inl (n, at, o, (a, b, e, p, q), fe)) =
          let both = parts ts a b e h in
          subst IsJoined (sym fe) ((name_forms n at a both.0 p, alias_forms o b both.1 q), refl)
      primary_forms f ts h (inr (inl (q, n, at, o, (a, b, e, p, (l, r, g, m, s)), fe))) =
          let both = parts ts a b e h in
          let rest = parts b l r g both.1 in
          subst IsJoined (sym fe) ((below.queries q a both.0 p, named_forms n at l rest.0 m, columns_forms o r rest.1 s), refl)
      primary_forms f ts h (inr (inr p)) = below.froms f ts h p

      joined_of : (k : JoinKind) (a b : FromTree) (c : CondTree) (on : ℕ) → IsJoined a → IsJoined b → IsCond c → IsJoined (join_of k a b c on)
      joined_of joining.Inner a b c on ha hb hc = ((ha.0, ha.1, hb.0, hb.1, hc), refl)
      joined_of joining.Left a b c on ha hb hc = ((ha.0, ha.1, hb.0, hb.1, hc), refl)
      joined_of joining.Right a b c on ha hb hc = ((ha.0, ha.1, hb.0, hb.1, hc), refl)

      join_forms : (a f : FromTree) (ts : Tokens) → IsJoined a → AllStand bytes ts → spec.Join end bytes d a f ts → IsJoined f
      join_forms a f ts ha h (k, b, on, c, (l, r, e, w, (m, n, g, p, (u, v, i, s, q))), fe) =
          let rest = parts r m n g (parts ts l r e h).1 in
          subst IsJoined (sym fe) (joined_of k a b c on ha (primary_forms b m rest.0 p) (cond_forms c v (parts n u v i rest.1).1 q))

      chain_forms : (Step : FromTree → FromTree → Tokens → Type 0) (Is : FromTree → Type 0) → ((a f : FromTree) (ts : Tokens) → Is a → AllStand bytes ts → Step a f ts → Is f)
          → (n : ℕ) (a f : FromTree) (ts : Tokens) → Is a → AllStand bytes ts → Chain Step n a f ts → Is f
      chain_forms Step Is step zero a f ts ha h (e, fe) = subst Is (sym fe) ha
      chain_forms Step Is step (suc n) a f ts ha h (g, (l, r, e, s, p)) =
          let both = parts ts l r e h in
          chain_forms Step Is step n g f r (step a g l ha both.0 s) both.1 p

      joined_forms : Forms (spec.Joined end bytes d) IsJoined
      joined_forms f ts h (a, n, (l, r, e, p, q)) =
          let both = parts ts l r e h in
          chain_forms (spec.Join end bytes d) IsJoined join_forms n a f r (primary_forms a l both.0 p) both.1 q

      listed_part_forms : (a f : FromTree) (ts : Tokens) → IsFrom a → AllStand bytes ts → spec.ListedPart end bytes d a f ts → IsFrom f
      listed_part_forms a f ts ha h (b, at, (l, r, e, s, p), fe) =
          let joined = joined_forms b r (parts ts l r e h).1 p in
          subst IsFrom (sym fe) (ha, joined.0, joined.1)

      from_list_forms : Forms (spec.FromList end bytes d) IsFrom
      from_list_forms f ts h (a, n, (l, r, e, p, q)) =
          let both = parts ts l r e h in
          chain_forms (spec.ListedPart end bytes d) IsFrom listed_part_forms n a f r (joined_forms a l both.0 p).0 both.1 q

      filter_forms : Forms (spec.Filter end bytes d) IsFilter
      filter_forms w ts h (inl (e, we)) = subst IsFilter (sym we) tt
      filter_forms w ts h (inr (c, (a, b, e, s, p), we)) = subst IsFilter (sym we) (cond_forms c b (parts ts a b e h).1 p)

      body_forms : Forms (spec.Body end bytes d) IsFormed
      body_forms q ts h (b, is, f, w, (a0, b0, e0, p0, (a1, b1, e1, p1, (a2, b2, e2, p2, (a3, b3, e3, p3, p4)))), qe) =
          let h1 = parts b0 a1 b1 e1 (parts ts a0 b0 e0 h).1 in
          let h3 = parts b2 a3 b3 e3 (parts b1 a2 b2 e2 h1.1).1 in
          subst IsFormed (sym qe) (listed_forms (spec.IsItem end bytes) lawful.IsItem item_forms is a1 h1.0 p1, from_list_forms f a3 h3.0 p3, filter_forms w b3 h3.1 p4)

    formed_below : (l : ℕ) → FormedBelow (deeper end bytes l)
    unfolding deeper
    formed_below zero = record { negs = λ c ts h p. absurd p; conds = λ c ts h p. absurd p; queries = λ q ts h p. absurd p; froms = λ f ts h p. absurd p }
    formed_below (suc l) = by (formed_below l)
      where
        query : FormedBelow (deeper end bytes l) → Forms (λ q. Seq (Is is_select) (spec.Body end bytes (deeper end bytes l) q)) IsFormed
        query below q ts h (a, b, e, s, p) = body_forms (deeper end bytes l) below q b (parts ts a b e h).1 p

        by : FormedBelow (deeper end bytes l) → FormedBelow (deeper end bytes (suc l))
        by below = record {
          negs = λ c ts h (at, x, (a, b, e, s, p), ce). subst IsCond (sym ce) (neg_forms (deeper end bytes l) below x b (parts ts a b e h).1 p);
          conds = parens_forms (spec.Cond end bytes (deeper end bytes l)) IsCond (cond_forms (deeper end bytes l) below);
          queries = parens_forms (λ q. Seq (Is is_select) (spec.Body end bytes (deeper end bytes l) q)) IsFormed (query below);
          froms = parens_forms (spec.Joined end bytes (deeper end bytes l)) IsJoined (joined_forms (deeper end bytes l) below);
        }

    -- The tree of a sentence is formed.
    pub sentence_forms : (q : QueryTree) (ts : Tokens) → AllStand bytes ts → spec.IsStatement end bytes q ts → IsFormed q
    sentence_forms q ts h (a, b, e, s, p) = body_forms (deeper end bytes 32) (formed_below 32) q b (parts ts a b e h).1 p
