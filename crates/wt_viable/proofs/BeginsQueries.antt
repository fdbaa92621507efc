-- The tokens before a refusal begin a sentence: FROM and queries.
use Rattle.std.proofs.Common.{◌≡◌, ℕ, inl, inr, Bool, true, false, List, [], ◌++◌, drop, refl, sym, append-nil, Ok, Err, Some, None}
use Rattle.wt_ast.specs.declared.tree.Item.{Item}
use Rattle.wt_ast.specs.Tree.{QueryTree, FromTree, select, no_filter, filter_by, table, derived, comma}
use Rattle.wt_reading.specs.declared.lexeme.Kind.{Kind}
use Rattle.wt_reading.specs.declared.lexeme.Kind.TheVariants.{End, Key}
use Rattle.wt_lex.specs.declared.words.Word.TheVariants as words
use Rattle.wt_grammar.specs.declared.join.JoinKind.{JoinKind}
use Rattle.wt_grammar.specs.declared.join.JoinKind.TheVariants as joining
use Rattle.wt_grammar.specs.declared.fault.QueryFault.TheVariants as fault
use Rattle.wt_reading.specs.Lexemes.{Tokens, kind, place, is_open, is_name, is_comma}
use Rattle.wt_grammar.specs.Kinds.{is_select, is_distinct, is_all, is_from, is_where, is_as, is_inner, is_left, is_right, is_outer, is_join, is_on, begins_join}
use Rattle.wt_grammar.specs.Refusals.{syntax, no_join}
use Rattle.wt_grammar.specs.Reading as read
use Rattle.wt_reading.specs.Readings.{followed, expect, list, repeat}
use Rattle.wt_grammar.specs.Reading.{Read, Refusal, refused, refusal, Nest, join_of, name_only, place_or}
use Rattle.wt_reading.specs.Sentences.{Seq, Is, Listed, Parens}
use Rattle.wt_sentence.specs.Grammar.{Named, Alias, IsItem, Deeper}
use Rattle.wt_sentence.specs.Grammar as spec
use Rattle.wt_reading.proofs.Inversions.{chosen}
use Rattle.wt_reading.proofs.Took.{took_is, list_sound}
use Rattle.wt_sentence.proofs.Follows.{right_begins}
use Rattle.wt_sentence.proofs.SoundParts.{any_name_sound, item_sound}
use Rattle.wt_sentence.proofs.SoundQueries.{SoundBelow, derived_name_sound, primary_sound, words_sound, join_sound, join_some, joined_sound, listed_part_sound, listed_part_some, from_list_sound, quantifier_sound}
use Rattle.wt_viable.proofs.Begins.{MoreSteps, no_steps, begins_chain, Any, Ending, Begins, Viable, a_token, then_ending, as_ending, listed_one, ok_no_err, plus_err, last_err, begins_at_front, begins_then, begins_as, begins_followed, begins_expect, begins_expected, begins_list}
use Rattle.wt_viable.proofs.BeginsParts.{a_name, no_alias, an_item, name_begins, alias_begins, item_begins}
use Rattle.wt_viable.proofs.BeginsConditions.{BeginsBelow, a_cond, listed_begins, cond_begins}

module _ (end : ℕ) (bytes : List ℕ) where
  -- ---- names behind queries, and the words of a join

  bare_begins : Viable end (Any (spec.Name end bytes)) (read.bare_name end bytes)
  unfolding read.bare_name
  bare_begins ts why at h =
      elim (chosen (is_name (kind ts)) _ _ _ h) [
        | inl p ↦ absurd (ok_no_err p.1)
        | inr p ↦ begins_at_front end (Any (spec.Name end bytes)) ts (refused fault.Syntax) why at (a_name end bytes) p.1
      ]

  -- a name with its place
  abbrev pub Title : List ℕ × ℕ → Tokens → Type 0
  Title n l = Named end bytes n.0 n.1 l

  derived_name_begins : Viable end (Any Title) (read.derived_name end bytes)
  unfolding read.derived_name
  derived_name_begins ts why at h =
      elim (chosen (is_as (kind ts)) _ _ _ h) [
        | inl p ↦
            begins_as end (Seq (Is is_as) (Any (spec.Name end bytes))) (Any Title) ts at (λ l (a, b, e, o, (n, (k, z))). ((n, k), inr (a, b, e, o, z)))
            (begins_then end (Is is_as) (Any (spec.Name end bytes)) ts 1 at (took_is is_as ts refl p.0) (bare_begins (drop 1 ts) why at (plus_err 1 _ (why, at) p.1)))
        | inr p ↦ begins_as end (Any (spec.Name end bytes)) (Any Title) ts at (λ l (n, (k, z)). ((n, k), inl z)) (bare_begins ts why at p.1)
      ]

  module _ (d : Deeper) where
    join_next : (l : Tokens) (k : JoinKind) (why : Refusal) (at : ℕ) → followed l (expect (λ l. is_join (kind l)) (refusal end syntax) l) (λ _ rest. Ok (k, 0)) ≡ Err (why, at) → Begins end (Is is_join) l at
    join_next l k why at e = begins_expect end is_join (Key words.Join) syntax l why at refl (last_err l (expect (λ l. is_join (kind l)) (refusal end syntax) l) (λ _. k) (why, at) e)

    outer_begin : (side : Kind → Bool) (k : JoinKind) (ts : Tokens) (why : Refusal) (at : ℕ) → side End ≡ false → side (kind ts) ≡ true → read.outer_join end k (drop 1 ts) ≡ Err (why, at)
        → Begins end (spec.Outer end bytes d side) ts at
    unfolding read.outer_join
    outer_begin side k ts why at none is e =
        elim (chosen (is_outer (kind (drop 1 ts))) _ _ _ e) [
          | inl r ↦
              begins_as end (Seq (Is side) (Seq (Is is_outer) (Is is_join))) (spec.Outer end bytes d side) ts at (λ l z. inr z)
              (begins_then end (Is side) (Seq (Is is_outer) (Is is_join)) ts 1 at (took_is side ts none is)
              (begins_then end (Is is_outer) (Is is_join) (drop 1 ts) 1 at (took_is is_outer (drop 1 ts) refl r.0) (join_next (drop 1 (drop 1 ts)) k why at (plus_err 1 _ (why, at) r.1))))
          | inr r ↦
              begins_as end (Seq (Is side) (Is is_join)) (spec.Outer end bytes d side) ts at (λ l z. inl z)
              (begins_then end (Is side) (Is is_join) ts 1 at (took_is side ts none is) (join_next (drop 1 ts) k why at r.1))
        ]

    words_begin : (ts : Tokens) (why : Refusal) (at : ℕ) → begins_join (kind ts) ≡ true → read.join_words end ts ≡ Err (why, at) → Begins end (Any (spec.JoinWords end bytes d)) ts at
    unfolding read.join_words
    words_begin ts why at begins h =
        elim (chosen (is_join (kind ts)) _ _ _ h) [
          | inl p ↦ absurd (ok_no_err p.1)
          | inr p ↦ elim (chosen (is_inner (kind ts)) _ _ _ p.1) [
            | inl q ↦
                begins_as end (Seq (Is is_inner) (Is is_join)) (Any (spec.JoinWords end bytes d)) ts at (λ l z. (joining.Inner, inr (inl (z, refl))))
                (begins_then end (Is is_inner) (Is is_join) ts 1 at (took_is is_inner ts refl q.0) (join_next (drop 1 ts) joining.Inner why at (plus_err 1 _ (why, at) q.1)))
            | inr q ↦ elim (chosen (is_left (kind ts)) _ _ _ q.1) [
              | inl r ↦ begins_as end (spec.Outer end bytes d is_left) (Any (spec.JoinWords end bytes d)) ts at (λ l z. (joining.Left, inr (inr (inl (z, refl)))))
                  (outer_begin is_left joining.Left ts why at refl r.0 (plus_err 1 _ (why, at) r.1))
              | inr r ↦ begins_as end (spec.Outer end bytes d is_right) (Any (spec.JoinWords end bytes d)) ts at (λ l z. (joining.Right, inr (inr (inr (z, refl)))))
                  (outer_begin is_right joining.Right ts why at refl (right_begins (kind ts) begins p.0 q.0 r.0) (plus_err 1 _ (why, at) r.1))
            ]
          ]
        ]

    -- ---- short sentences

    no_columns : Ending (Any (spec.Columns end bytes d))
    no_columns = ([], (None, inl (refl, refl)))

    no_where : Ending (Any (spec.Filter end bytes d))
    no_where = ([], (no_filter, inl (refl, refl)))

    a_primary : Ending (Any (spec.Primary end bytes d))
    a_primary =
        as_ending (Any (spec.Name end bytes)) (Any (spec.Primary end bytes d))
        (λ l (n, (at, p)). (table n None at at, inl (n, at, None, (l, [], sym (append-nil l), p, inl (refl, refl)), refl))) (a_name end bytes)

    abbrev pub MoreJoins : FromTree → Tokens → Type 0
    MoreJoins = MoreSteps end (spec.Join end bytes d)

    abbrev pub MoreItems : FromTree → Tokens → Type 0
    MoreItems = MoreSteps end (spec.ListedPart end bytes d)

    joined_of : (l : Tokens) → (a : FromTree) × Seq (spec.Primary end bytes d a) (MoreJoins a) l → Any (spec.Joined end bytes d) l
    joined_of l (a, (b, c, e, p, (m, f, q))) = (f, (a, m, (b, c, e, p, q)))

    pub a_joined : Ending (Any (spec.Joined end bytes d))
    a_joined = let (l, (a, p)) = a_primary in (l, joined_of l (a, (l, [], sym (append-nil l), p, (0, a, (refl, refl)))))

    list_of : (l : Tokens) → (a : FromTree) × Seq (spec.Joined end bytes d a) (MoreItems a) l → Any (spec.FromList end bytes d) l
    list_of l (a, (b, c, e, p, (m, f, q))) = (f, (a, m, (b, c, e, p, q)))

    a_list : Ending (Any (spec.FromList end bytes d))
    a_list = let (l, (a, p)) = a_joined in (l, list_of l (a, (l, [], sym (append-nil l), p, (0, a, (refl, refl)))))

    abbrev pub Source : Tokens → Type 0
    Source l = (f : FromTree) × Seq (spec.FromList end bytes d f) (Any (spec.Filter end bytes d)) l

    a_source : Ending Source
    a_source = let (l, (f, p)) = a_list in (l, (f, (l, [], sym (append-nil l), p, (no_filter, inl (refl, refl)))))

    abbrev pub Selection : Tokens → Type 0
    Selection l = (xs : List Item) × Seq (Listed (IsItem end bytes) xs) (Seq (Is is_from) Source) l

    from_source : Ending (Seq (Is is_from) Source)
    from_source = then_ending (Is is_from) Source (a_token is_from (Key words.From) refl) a_source

    a_selection : Ending Selection
    a_selection =
        let (l, (xs, p)) = as_ending (Any (IsItem end bytes)) (Any (Listed (IsItem end bytes))) (listed_one (IsItem end bytes)) (an_item end bytes) in
        let (m, q) = from_source in
        (l ++ m, (xs, (l, m, refl, p, q)))

    body_of : (l : Tokens) → (b : Bool) × Seq (spec.Quantifier end bytes d b) Selection l → Any (spec.Body end bytes d) l
    body_of l (b, (a0, b0, e0, z0, (xs, (a1, b1, e1, z1, (a2, b2, e2, z2, (f, (a3, b3, e3, z3, (w, z4)))))))) =
        (select b xs f w, (b, xs, f, w, (a0, b0, e0, z0, (a1, b1, e1, z1, (a2, b2, e2, z2, (a3, b3, e3, z3, z4)))), refl))

    a_body : Ending (Any (spec.Body end bytes d))
    a_body = as_ending Selection (Any (spec.Body end bytes d)) (λ l z. body_of l (false, ([], l, refl, inl (refl, refl), z))) a_selection

    pub a_select : Ending (Any (λ q. Seq (Is is_select) (spec.Body end bytes d q)))
    a_select =
        as_ending (Seq (Is is_select) (Any (spec.Body end bytes d))) (Any (λ q. Seq (Is is_select) (spec.Body end bytes d q))) (λ l (a, b, e, s, (q, p)). (q, (a, b, e, s, p)))
        (then_ending (Is is_select) (Any (spec.Body end bytes d)) (a_token is_select (Key words.Select) refl) a_body)

    module _ (ns : Nest) (sound : SoundBelow end bytes ns d) (below : BeginsBelow end ns d) where
      -- ---- FROM

      columns_begin : Viable end (Any (spec.Columns end bytes d)) (read.columns end bytes ns)
      unfolding read.columns
      columns_begin ts why at h =
          elim (chosen (is_open (kind ts)) _ _ _ h) [
            | inl p ↦
                begins_as end (Any (Parens (Listed (spec.Name end bytes)))) (Any (spec.Columns end bytes d)) ts at (λ l (xs, z). (Some xs, inr (xs, below.room, z, refl)))
                (listed_begins end bytes d ns sound below (spec.Name end bytes) (read.name end bytes) (any_name_sound end bytes) (name_begins end bytes) (a_name end bytes) ts why at p.0
                (last_err ts (read.listed end bytes ns (read.name end bytes) ts) (λ xs. Some xs) (why, at) p.1))
            | inr p ↦ absurd (ok_no_err p.1)
          ]

      -- the name and the columns of a query in parentheses
      abbrev pub Header : Tokens → Type 0
      Header l = (n : List ℕ × ℕ) × Seq (Title n) (Any (spec.Columns end bytes d)) l

      a_header : Ending Header
      a_header =
          as_ending (Any (spec.Name end bytes)) Header (λ l (n, (at, p)). ((n, at), (l, [], sym (append-nil l), inl p, (None, inl (refl, refl))))) (a_name end bytes)

      derived_begins : (ts : Tokens) (why : Refusal) (at : ℕ) → is_open (kind ts) ≡ true → is_select (kind (drop 1 ts)) ≡ true → read.derived_part end bytes ns ts ≡ Err (why, at)
          → Begins end (Any (spec.Derived end bytes d)) ts at
      unfolding read.derived_part
      derived_begins ts why at opens selects h =
          begins_as end (λ l. (q : QueryTree) × Seq (d.queries q) Header l) (Any (spec.Derived end bytes d)) ts at
          (λ l (q, (a, b, e, z, (n, (a1, b1, e1, y, (o, w))))). (derived q n.0 o (place end l) n.1, (q, n.0, n.1, o, (a, b, e, z, (a1, b1, e1, y, w)), refl)))
          (begins_followed end d.queries (λ _. Header) ts (ns.queries ts) _ why at (below.queries ts why at opens selects) (λ q m e. sound.queries ts q m opens selects e) (λ _. a_header)
          (λ q l e. begins_followed end Title (λ _. Any (spec.Columns end bytes d)) l (read.derived_name end bytes l) _ why at (derived_name_begins l why at)
          (λ n m e. derived_name_sound end bytes ns d sound l n.0 n.1 m e) (λ _. no_columns)
          (λ n r e. columns_begin r why at (last_err r (read.columns end bytes ns r) (λ cs. derived q n.0 cs (place end ts) n.1) (why, at) e)) e) h)

      table_begins : Viable end (Any (spec.Table end bytes d)) (read.table_part end bytes)
      unfolding read.table_part
      table_begins ts why at h =
          begins_as end (λ l. (n : List ℕ) × Seq (spec.Name end bytes n) (Any (Alias end bytes)) l) (Any (spec.Table end bytes d)) ts at
          (λ l (n, (a, b, e, (k, z), (o, y))). (table n (name_only o) k (place_or o k), (n, k, o, (a, b, e, z, y), refl)))
          (begins_followed end (spec.Name end bytes) (λ _. Any (Alias end bytes)) ts (read.name end bytes ts) _ why at (name_begins end bytes ts why at) (any_name_sound end bytes ts)
          (λ _. no_alias end bytes)
          (λ n l e. alias_begins end bytes l why at (last_err l (read.alias end bytes l) (λ a. table n (name_only a) (place end ts) (place_or a (place end ts))) (why, at) e)) h)

      primary_begins : Viable end (Any (spec.Primary end bytes d)) (read.primary end bytes ns)
      unfolding read.primary
      primary_begins ts why at h =
          elim (chosen (is_name (kind ts)) _ _ _ h) [
            | inl p ↦ begins_as end (Any (spec.Table end bytes d)) (Any (spec.Primary end bytes d)) ts at (λ l (f, z). (f, inl z)) (table_begins ts why at p.1)
            | inr p ↦ elim (chosen (is_open (kind ts)) _ _ _ p.1) [
              | inl q ↦ elim (chosen (is_select (kind (drop 1 ts))) _ _ _ q.1) [
                | inl r ↦ begins_as end (Any (spec.Derived end bytes d)) (Any (spec.Primary end bytes d)) ts at (λ l (f, z). (f, inr (inl z))) (derived_begins ts why at q.0 r.0 r.1)
                | inr r ↦ begins_as end (Any d.froms) (Any (spec.Primary end bytes d)) ts at (λ l (f, z). (f, inr (inr z))) (below.froms ts why at q.0 r.1)
              ]
              | inr q ↦ begins_at_front end (Any (spec.Primary end bytes d)) ts (refused fault.Syntax) why at a_primary q.1
            ]
          ]

      -- ---- joins

      abbrev pub Condition : Tokens → Type 0
      Condition = Seq (Is is_on) (Any (spec.Cond end bytes d))

      a_condition : Ending Condition
      a_condition = then_ending (Is is_on) (Any (spec.Cond end bytes d)) (a_token is_on (Key words.On) refl) (a_cond end bytes d)

      abbrev pub Right : Tokens → Type 0
      Right l = (b : FromTree) × Seq (spec.Primary end bytes d b) Condition l

      a_right : Ending Right
      a_right = let (l, (b, p)) = a_primary in let (m, q) = a_condition in (l ++ m, (b, (l, m, refl, p, q)))

      join_begins : (inside : Bool) (a : FromTree) (ts : Tokens) (why : Refusal) (at : ℕ) → begins_join (kind ts) ≡ true → read.join end bytes ns inside a ts ≡ Err (why, at)
          → Begins end (Any (spec.Join end bytes d a)) ts at
      unfolding read.join
      join_begins inside a ts why at begins h =
          begins_as end (λ l. (k : JoinKind) × Seq (spec.JoinWords end bytes d k) Right l) (Any (spec.Join end bytes d a)) ts at
          (λ l (k, (a0, b0, e0, w, (b, (a1, b1, e1, p, (a2, b2, e2, (t, f, s), (c, q)))))).
          (join_of k a b c t.token.start, (k, b, t.token.start, c, (a0, b0, e0, w, (a1, b1, e1, p, (a2, b2, e2, (t, f, (s, refl)), q))), refl)))
          (begins_followed end (spec.JoinWords end bytes d) (λ _. Right) ts (read.join_words end ts) _ why at (words_begin ts why at begins)
          (λ k m e. words_sound end bytes ns d sound ts k m begins e) (λ _. a_right)
          (λ k l e. begins_followed end (spec.Primary end bytes d) (λ _. Condition) l (read.primary end bytes ns l) _ why at (primary_begins l why at)
          (primary_sound end bytes ns d sound l) (λ _. a_condition)
          (λ b r e. begins_expected end is_on (Key words.On) (no_join inside) (Any (spec.Cond end bytes d)) r (λ q. followed q (read.cond end bytes ns q) (λ c p. Ok (join_of k a b c (place end r), 0))) why at
          refl refl (a_cond end bytes d)
          (λ q e. cond_begins end bytes d ns sound below q why at (last_err q (read.cond end bytes ns q) (λ c. join_of k a b c (place end r)) (why, at) e)) e) e) h)

      pub joined_begins : (inside : Bool) → Viable end (Any (spec.Joined end bytes d)) (read.joined end bytes ns inside)
      unfolding read.joined
      joined_begins inside ts why at h =
          begins_as end (λ l. (a : FromTree) × Seq (spec.Primary end bytes d a) (MoreJoins a) l) (Any (spec.Joined end bytes d)) ts at joined_of
          (begins_followed end (spec.Primary end bytes d) MoreJoins ts (read.primary end bytes ns ts) (λ a rest. repeat (λ l. begins_join (kind l)) (read.join end bytes ns inside) 0 a rest) why at (primary_begins ts why at)
          (primary_sound end bytes ns d sound ts) (no_steps end (spec.Join end bytes d))
          (λ a l e. begins_chain end begins_join (spec.Join end bytes d) (read.join end bytes ns inside) (join_sound end bytes ns d sound inside) (join_some end bytes ns d sound) (join_begins inside) a 0 l why at e) h)

      -- ---- the list of FROM

      listed_part_begins : (a : FromTree) (ts : Tokens) (why : Refusal) (at : ℕ) → is_comma (kind ts) ≡ true → read.listed_part end bytes ns a ts ≡ Err (why, at)
          → Begins end (Any (spec.ListedPart end bytes d a)) ts at
      unfolding read.listed_part
      listed_part_begins a ts why at is h =
          begins_as end (Seq (Is is_comma) (Any (spec.Joined end bytes d))) (Any (spec.ListedPart end bytes d a)) ts at
          (λ l (b, c, e, (t, f, s), (g, p)). (comma a g t.token.start, (g, t.token.start, (b, c, e, (t, f, (s, refl)), p), refl)))
          (begins_then end (Is is_comma) (Any (spec.Joined end bytes d)) ts 1 at (took_is is_comma ts refl is)
          (joined_begins false (drop 1 ts) why at (last_err (drop 1 ts) (read.joined end bytes ns false (drop 1 ts)) (λ b. comma a b (place end ts)) (why, at) (plus_err 1 _ (why, at) h))))

      from_list_begins : Viable end (Any (spec.FromList end bytes d)) (read.from_list end bytes ns)
      unfolding read.from_list
      from_list_begins ts why at h =
          begins_as end (λ l. (a : FromTree) × Seq (spec.Joined end bytes d a) (MoreItems a) l) (Any (spec.FromList end bytes d)) ts at list_of
          (begins_followed end (spec.Joined end bytes d) MoreItems ts (read.joined end bytes ns false ts) (λ a rest. repeat (λ l. is_comma (kind l)) (read.listed_part end bytes ns) 0 a rest) why at (joined_begins false ts why at)
          (joined_sound end bytes ns d sound false ts) (no_steps end (spec.ListedPart end bytes d))
          (λ a l e. begins_chain end is_comma (spec.ListedPart end bytes d) (read.listed_part end bytes ns) (listed_part_sound end bytes ns d sound) (listed_part_some end bytes ns d sound) listed_part_begins a 0 l why at e) h)

      -- ---- queries

      filter_begins : Viable end (Any (spec.Filter end bytes d)) (read.filter end bytes ns)
      unfolding read.filter
      filter_begins ts why at h =
          elim (chosen (is_where (kind ts)) _ _ _ h) [
            | inl p ↦
                begins_as end (Seq (Is is_where) (Any (spec.Cond end bytes d))) (Any (spec.Filter end bytes d)) ts at (λ l (a, b, e, w, (c, z)). (filter_by c, inr (c, (a, b, e, w, z), refl)))
                (begins_then end (Is is_where) (Any (spec.Cond end bytes d)) ts 1 at (took_is is_where ts refl p.0)
                (cond_begins end bytes d ns sound below (drop 1 ts) why at
                (last_err (drop 1 ts) (read.cond end bytes ns (drop 1 ts)) (λ c. filter_by c) (why, at) (plus_err 1 _ (why, at) p.1))))
            | inr p ↦ absurd (ok_no_err p.1)
          ]

      no_refusal : (ts : Tokens) (why : Refusal) (at : ℕ) → read.quantifier ts ≡ Err (why, at) → ⊥
      unfolding read.quantifier
      no_refusal ts why at h =
          elim (chosen (is_distinct (kind ts)) _ _ _ h) [
            | inl p ↦ ok_no_err p.1
            | inr p ↦ elim (chosen (is_all (kind ts)) _ _ _ p.1) [ inl q ↦ ok_no_err q.1 | inr q ↦ ok_no_err q.1 ]
          ]

      pub body_begins : Viable end (Any (spec.Body end bytes d)) (read.body end bytes ns)
      unfolding read.body
      body_begins ts why at h =
          begins_as end (λ l. (b : Bool) × Seq (spec.Quantifier end bytes d b) Selection l) (Any (spec.Body end bytes d)) ts at body_of
          (begins_followed end (spec.Quantifier end bytes d) (λ _. Selection) ts (read.quantifier ts) _ why at (λ e. absurd (no_refusal ts why at e)) (quantifier_sound end bytes ns d sound ts) (λ _. a_selection)
          (λ b l e. begins_followed end (Listed (IsItem end bytes)) (λ _. Seq (Is is_from) Source) l (list (read.item end bytes) l) _ why at
          (begins_list end (IsItem end bytes) (read.item end bytes) (item_sound end bytes) (item_begins end bytes) l why at)
          (list_sound (IsItem end bytes) (read.item end bytes) (item_sound end bytes) l) (λ _. from_source)
          (λ xs r e. begins_expected end is_from (Key words.From) syntax Source r
          (λ q. followed q (read.from_list end bytes ns q) (λ p s. followed s (read.filter end bytes ns s) (λ f o. Ok (select b xs p f, 0)))) why at refl refl a_source
          (λ q e. begins_followed end (spec.FromList end bytes d) (λ _. Any (spec.Filter end bytes d)) q (read.from_list end bytes ns q) _ why at (from_list_begins q why at)
          (from_list_sound end bytes ns d sound q) (λ _. no_where)
          (λ p s e. filter_begins s why at (last_err s (read.filter end bytes ns s) (λ f. select b xs p f) (why, at) e)) e) e) e) h)
