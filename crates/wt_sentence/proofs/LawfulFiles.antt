-- What a statement of a file is read to is a lawful tree.
use Rattle.std.proofs.Common.{◌≡◌, ℕ, zero, suc, ◌<◌, ◌≤◌, Bool, true, false, List, [], ◌∷◌, length, map, refl, ap, sym, ◌∙◌, arith, subst, Ok, Err, Option, Some, None}
use Rattle.std.specs.Prelude.{if◌then◌else◌, slice_get, filter, Result}
use Rattle.std.specs.List.{AllByRecursion}
use Rattle.std.specs.Str.{IsUtf8, is_utf8}
use Rattle.std.proofs.lemmas.Str.{is_utf8-from_IsUtf8}
use Rattle.wt_lex.specs.declared.token.Token.{Token}
use Rattle.wt_lex.specs.declared.token.TokenKind.{TokenKind}
use Rattle.wt_lex.specs.declared.token.TokenKind.TheVariants as kinds
use Rattle.wt_lex.specs.declared.token.LexFault.{LexFault}
use Rattle.wt_lex.specs.declared.words.Word.{Word}
use Rattle.wt_lex.specs.Tokens.{lexed}
use Rattle.wt_lex.specs.Names.{keyword, name_bytes, text_bytes}
use Rattle.wt_lex.specs.Stored.{StandsIn, AllStandIn}
use Rattle.wt_lex.proofs.Naming.{IsNamed, name_stands, text_stands}
use Rattle.wt_lex.proofs.Lexing.{lexed_ok, tokens_stand}
use Rattle.wt_ast.specs.Tree.{QueryTree}
use Rattle.wt_ast.specs.Lawful.{IsLawful}
use Rattle.wt_ast.specs.Marks.{marks, places}
use Rattle.wt_ast.specs.declared.marks.Marked.TheVariants.{FromItem, Conjunct, HiddenIn}
use Rattle.wt_reading.specs.Lexemes.{lexeme, kind_by, is_name}
use Rattle.wt_reading.specs.declared.lexeme.Kind.TheVariants.{Text}
use Rattle.wt_grammar.specs.declared.fault.QueryFault.{QueryFault}
use Rattle.wt_grammar.specs.declared.fault.QueryFault.TheVariants as fault
use Rattle.wt_grammar.specs.Reading.{Read, refused, statement}
use Rattle.wt_grammar.specs.Statements.{Statement, File, Answer, file_by, file_of, statements, is_semicolon, add, cut, has_tokens, is_too_long, lexical_or, first_odd, limited, unless, barred, hidden_or, too_many, earlier, answer, begin}
use Rattle.wt_sentence.proofs.Forming.{AllStand, sentence_forms}
use Rattle.wt_sentence.proofs.Sound.{sound}

-- ---- the tokens of a statement stand in the file

abbrev Each : {A : Type 0} → (A → Type 0) → List A → Type 0
Each = AllByRecursion

each_at : {A : Type 0} (P : A → Type 0) (xs : List A) (n : ℕ) (x : A) → slice_get xs n ≡ Some x → Each P xs → P x
each_at P [] n x e h = absurd cc
each_at P (y ∷ ys) zero x e h = let same : y ≡ x = cc in subst P same h.0
each_at P (y ∷ ys) (suc n) x e h = each_at P ys n x e h.1

each_filter : {A : Type 0} (P : A → Type 0) (test : A → Bool) (xs : List A) → Each P xs → Each P (filter test xs)
each_filter P test [] h = tt
each_filter {A} P test (x ∷ xs) h = by (test x) refl (each_filter P test xs h.1)
  where
    by : (b : Bool) → test x ≡ b → Each P (filter test xs) → Each P (filter test (x ∷ xs))
    by true e rest = rw e (h.0, rest)
    by false e rest = rw e rest

module _ (P : Token → Type 0) where
  added : (t : Token) (ss : List Statement) → P t → Each (λ s. Each P s.tokens) ss → Each (λ s. Each P s.tokens) (add t ss)
  added t [] h hs = tt
  added t (s ∷ rest) h hs = ((h, hs.0), hs.1)

  cut_each : (size : ℕ) (ts : List Token) → Each P ts → Each (λ s. Each P s.tokens) (cut size ts)
  cut_each size [] h = (tt, tt)
  cut_each size (t ∷ ts) h = by (is_semicolon t.kind) refl (cut_each size ts h.1)
    where
      by : (b : Bool) → is_semicolon t.kind ≡ b → Each (λ s. Each P s.tokens) (cut size ts) → Each (λ s. Each P s.tokens) (cut size (t ∷ ts))
      by true e rest = rw e (tt, rest)
      by false e rest = rw e (added t (cut size ts) h.0 rest)

-- ---- a token with its kind stands for what the tree has of it

named_kind : (k : TokenKind) (w : Option Word) → is_name (kind_by k w) ≡ true → IsNamed k
named_kind kinds.Word w h = tt
named_kind kinds.Quoted w h = tt
named_kind (kinds.Number n) w h = absurd cc
named_kind kinds.Text w h = absurd cc
named_kind (kinds.Symbol s) w h = absurd cc
named_kind (kinds.Odd f) w h = absurd cc

lexemes_stand : (bytes : List ℕ) → IsUtf8 bytes → (ts : List Token) → AllStandIn bytes ts → AllStand bytes (map (lexeme bytes) ts)
unfolding lexeme
lexemes_stand bytes text [] h = tt
lexemes_stand bytes text (t ∷ ts) h = ((names, texts), lexemes_stand bytes text ts h.1)
  where
    names : is_name (kind_by t.kind (keyword bytes t)) ≡ true → (is_utf8 (name_bytes bytes t) ≡ true) × (0 < length (name_bytes bytes t))
    names is = let n = name_stands bytes t text h.0 (named_kind t.kind (keyword bytes t) is) in (is_utf8-from_IsUtf8 (name_bytes bytes t) n.0, n.1)

    texts : kind_by t.kind (keyword bytes t) ≡ Text → is_utf8 (text_bytes bytes t) ≡ true
    texts is = is_utf8-from_IsUtf8 (text_bytes bytes t) (text_stands bytes t text h.0)

-- ---- the answer

unless_ok : (o : Option (QueryFault × ℕ)) (x q : QueryTree) → unless o x ≡ Ok q → (o ≡ None) × (x ≡ q)
unless_ok None x q h = let e : x ≡ q = cc in (refl, e)
unless_ok (Some e) x q h = absurd cc

limited_ok : (r : Read QueryTree) (q : QueryTree) → limited r ≡ Ok q → (m : ℕ) × (r ≡ Ok (q, m)) × (barred (marks q) ≡ None)
limited_ok (Ok x) q h =
    let (none, same) = unless_ok (barred (marks x.0)) x.0 q h in
    (x.1, (λ i. Ok (same i, x.1)), ap (λ t. barred (marks t)) (sym same) ∙ none)
limited_ok (Err e) q h = absurd cc

lexical_ok : (o : Option (LexFault × ℕ)) (a : Answer) (q : QueryTree) → lexical_or o a ≡ Ok q → a ≡ Ok q
lexical_ok None a q h = h
lexical_ok (Some e) a q h = absurd cc

answer_ok : (bytes : List ℕ) (s : Statement) (q : QueryTree) → answer bytes s ≡ Ok q
    → (m : ℕ) × (statement s.end bytes (map (lexeme bytes) s.tokens) ≡ Ok (q, m)) × (barred (marks q) ≡ None)
unfolding answer
answer_ok bytes s q h = limited_ok _ q (lexical_ok (first_odd s.tokens) _ q (short (is_too_long s) h))
  where
    short : (b : Bool) → (if b then Err (refused fault.TooLong, begin s s.tokens) else lexical_or (first_odd s.tokens) (limited (statement s.end bytes (map (lexeme bytes) s.tokens)))) ≡ Ok q
        → lexical_or (first_odd s.tokens) (limited (statement s.end bytes (map (lexeme bytes) s.tokens))) ≡ Ok q
    short true h = absurd cc
    short false h = h

-- ---- what is not barred

few : (xs : List ℕ) (n : ℕ) → slice_get xs n ≡ None → length xs ≤ n
few [] n h = omega arith
few (x ∷ xs) zero h = absurd cc
few (x ∷ xs) (suc n) h = let less = few xs n h in omega (arith, less)

no_hidden : (h : Option ℕ) (o : Option (QueryFault × ℕ)) → hidden_or h o ≡ None → (h ≡ None) × (o ≡ None)
no_hidden None o e = (refl, e)
no_hidden (Some at) o e = absurd cc

not_many : (o : Option ℕ) → too_many o ≡ None → o ≡ None
not_many None e = refl
not_many (Some at) e = absurd cc

none_earlier : (a b : Option ℕ) → earlier a b ≡ None → (a ≡ None) × (b ≡ None)
none_earlier None b e = (refl, e)
none_earlier (Some a) None e = absurd cc
none_earlier (Some a) (Some b) e = absurd cc

nothing : (xs : List ℕ) → length xs ≤ 0 → xs ≡ []
nothing [] h = refl
nothing (x ∷ xs) h = absurd (omega arith)

module _ (q : QueryTree) (open_ : barred (marks q) ≡ None) where
  in_conjuncts : places HiddenIn (marks q) ≡ []
  in_conjuncts = nothing (places HiddenIn (marks q)) (few (places HiddenIn (marks q)) 0 (no_hidden _ _ open_).0)

  within_limits : (length (places FromItem (marks q)) ≤ 256) × (length (places Conjunct (marks q)) ≤ 256)
  within_limits =
      let (i, c) = none_earlier _ _ (not_many _ (no_hidden _ _ open_).1) in
      (few (places FromItem (marks q)) 256 i, few (places Conjunct (marks q)) 256 c)

-- What a statement of a file is read to is a lawful tree.
pub statement_is_lawful : (bytes : List ℕ) (file : File) (n : ℕ) (s : Statement) (q : QueryTree) → file_of bytes ≡ Ok file → slice_get file.statements n ≡ Some s → answer file.bytes s ≡ Ok q → IsLawful q
statement_is_lawful bytes file n s q is here read = by (lexed bytes) refl is
  where
    by : (r : Result (List Token) (LexFault × ℕ)) → lexed bytes ≡ r → file_by bytes r ≡ Ok file → IsLawful q
    by (Err e) l f = absurd cc
    by (Ok tokens) l f =
        let same : record { bytes = bytes; statements = statements (length bytes) tokens } ≡ file = cc in
        let (few_bytes, text, fall) = lexed_ok bytes tokens l in
        let cut_stand = each_filter (λ s. Each (StandsIn bytes) s.tokens) has_tokens (cut (length bytes) tokens) (cut_each (StandsIn bytes) (length bytes) tokens (tokens_stand bytes tokens l)) in
        let stand = each_at (λ s. Each (StandsIn bytes) s.tokens) (statements (length bytes) tokens) n s (ap (λ f. slice_get f.statements n) same ∙ here) cut_stand in
        let (m, e, none) = answer_ok bytes s q (ap (λ f. answer f.bytes s) same ∙ read) in
        let limits = within_limits q none in
        record {
          formed = sentence_forms bytes s.end q (map (lexeme bytes) s.tokens) (lexemes_stand bytes text s.tokens stand) (sound s.end bytes s.tokens q m e);
          in_conjuncts = in_conjuncts q none;
          items = limits.0;
          conjuncts = limits.1;
        }
