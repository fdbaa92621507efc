-- No sentence of the grammar has a token that is refused wherever it stands.
use Rattle.std.proofs.Common.{◌≡◌, ℕ, Bool, true, false, inl, inr, List, [], ◌∷◌, ◌++◌, refl, ap, sym, ◌∙◌, subst, Option, Some, None}
use Rattle.std.specs.Prelude.{codes, map}
use Rattle.wt_lex.specs.declared.token.Token.{Token}
use Rattle.wt_lex.specs.declared.token.TokenKind.{TokenKind}
use Rattle.wt_lex.specs.declared.token.TokenKind.TheVariants as kinds
use Rattle.wt_lex.specs.declared.words.Word.{Word}
use Rattle.wt_lex.specs.Names.{spelled, word_by, keyword}
use Rattle.wt_reading.specs.declared.lexeme.Kind.{Kind}
use Rattle.wt_reading.specs.declared.lexeme.Kind.TheVariants.{Number, Odd}
use Rattle.wt_reading.specs.Lexemes.{Tokens, lexeme, kind_by, is_open, is_close, is_comma, is_semi, is_name}
use Rattle.wt_reading.specs.Sentences.{Seq, Either, Maybe, One, Is, Each, Behind, Listed, Parens}
use Rattle.wt_ddl.specs.declared.syntax.Named.{Named}
use Rattle.wt_ddl.specs.declared.syntax.ColumnRule.{ColumnRule}
use Rattle.wt_ddl.specs.declared.syntax.ColumnRule.TheVariants as own
use Rattle.wt_ddl.specs.declared.syntax.TableRule.{TableRule}
use Rattle.wt_ddl.specs.declared.syntax.TableRule.TheVariants as rules
use Rattle.wt_ddl.specs.declared.syntax.Element.{Element}
use Rattle.wt_ddl.specs.declared.syntax.Element.TheVariants as elements
use Rattle.wt_ddl.specs.Refusals.{Fault}
use Rattle.wt_ddl.specs.Grammar as grammar
use Rattle.wt_ddl.specs.Schemas.{odd_by, first_odd}
use Rattle.wt_ddl_sentence.proofs.Words.{Real, real_text}

abbrev Plain : TokenKind → Type 0
Plain (kinds.Odd f) = ⊥
Plain _ = Unit {0}

abbrev AllPlain : Tokens → Type 0
AllPlain [] = Unit {0}
AllPlain (t ∷ ts) = Plain t.token.kind × AllPlain ts

plain_by : (k : TokenKind) (at : ℕ) (later : Option Fault) → Plain k → odd_by k at later ≡ later
plain_by kinds.Word at later h = refl
plain_by kinds.Quoted at later h = refl
plain_by (kinds.Number n) at later h = refl
plain_by kinds.Text at later h = refl
plain_by (kinds.Symbol s) at later h = refl
plain_by (kinds.Odd f) at later h = absurd h

none_odd : (bytes : List ℕ) (us : List Token) → AllPlain (map (lexeme bytes) us) → first_odd us ≡ None
unfolding lexeme
none_odd bytes [] h = refl
none_odd bytes (t ∷ us) (h, hs) = plain_by t.kind t.start (first_odd us) h ∙ none_odd bytes us hs

plain_append : (a b : Tokens) → AllPlain a → AllPlain b → AllPlain (a ++ b)
plain_append [] b h k = k
plain_append (t ∷ a) b (h, hs) k = (h, plain_append a b hs k)

-- ---- one token

word_plain : (k : TokenKind) (s w : List ℕ) → word_by k s w ≡ true → Plain k
word_plain kinds.Word s w h = tt
word_plain kinds.Quoted s w h = tt
word_plain (kinds.Number n) s w h = tt
word_plain kinds.Text s w h = tt
word_plain (kinds.Symbol x) s w h = tt
word_plain (kinds.Odd f) s w h = absurd (cc)

kind_plain : (test : Kind → Bool) → test Odd ≡ false → (k : TokenKind) (w : Option Word) → test (kind_by k w) ≡ true → Plain k
kind_plain test none kinds.Word w h = tt
kind_plain test none kinds.Quoted w h = tt
kind_plain test none (kinds.Number n) w h = tt
kind_plain test none kinds.Text w h = tt
kind_plain test none (kinds.Symbol s) w h = tt
kind_plain test none (kinds.Odd f) w h = absurd (cc)

number_plain : (k : TokenKind) (w : Option Word) (n : ℕ) → kind_by k w ≡ Number n → Plain k
number_plain kinds.Word w n h = tt
number_plain kinds.Quoted w n h = tt
number_plain (kinds.Number m) w n h = tt
number_plain kinds.Text w n h = tt
number_plain (kinds.Symbol s) w n h = tt
number_plain (kinds.Odd f) w n h = absurd (cc)

real_front : (bytes : List ℕ) (a b : Tokens) → Real bytes (a ++ b) → Real bytes a
real_front bytes [] b h = tt
real_front bytes (t ∷ a) b h = (h.0, real_front bytes a b h.1)

real_back : (bytes : List ℕ) (a b : Tokens) → Real bytes (a ++ b) → Real bytes b
real_back bytes [] b h = h
real_back bytes (t ∷ a) b h = real_back bytes a b h.1

module _ (bytes : List ℕ) where
  -- parts whose sentences are plain
  abbrev IsPlain : (Tokens → Type 0) → Type 0
  IsPlain P = (a : Tokens) → Real bytes a → P a → AllPlain a

  seq : (P Q : Tokens → Type 0) → IsPlain P → IsPlain Q → IsPlain (Seq P Q)
  seq P Q f g a real (b, c, e, p, q) =
      let both = subst (Real bytes) e real in subst AllPlain (sym e) (plain_append b c (f b (real_front bytes b c both) p) (g c (real_back bytes b c both) q))

  choice : (P Q : Tokens → Type 0) → IsPlain P → IsPlain Q → IsPlain (Either P Q)
  choice P Q f g a real (inl p) = f a real p
  choice P Q f g a real (inr q) = g a real q

  maybe : (P : Tokens → Type 0) → IsPlain P → IsPlain (Maybe P)
  maybe P f a real (inl e) = subst AllPlain (sym e) tt
  maybe P f a real (inr p) = f a real p

  each : {A : Type 0} (P : A → Tokens → Type 0) → ((x : A) → IsPlain (P x)) → (xs : List A) → IsPlain (Each P xs)
  each P f [] a real e = subst AllPlain (sym e) tt
  each P f (x ∷ xs) a real p = seq (P x) (Each P xs) (f x) (each P f xs) a real p

  sign : (test : Kind → Bool) → test Odd ≡ false → IsPlain (Is test)
  sign test none a real (t, e, h) = subst AllPlain (sym e) (kind_plain test none t.token.kind (keyword bytes t.token) (sym (ap test (subst (Real bytes) e real).0) ∙ h), tt)

  behind : {A : Type 0} (P : A → Tokens → Type 0) → ((x : A) → IsPlain (P x)) → (xs : List A) → IsPlain (Behind is_comma P xs)
  behind P f [] a real e = subst AllPlain (sym e) tt
  behind P f (x ∷ xs) a real p = seq (Is is_comma) (Seq (P x) (Behind is_comma P xs)) (sign is_comma refl) (seq (P x) (Behind is_comma P xs) (f x) (behind P f xs)) a real p

  parens : {A : Type 0} (P : A → Tokens → Type 0) (x : A) → IsPlain (P x) → IsPlain (Parens P x)
  parens P x f = seq (Is is_open) (Seq (P x) (Is is_close)) (sign is_open refl) (seq (P x) (Is is_close) f (sign is_close refl))

  listed : {A : Type 0} (P : A → Tokens → Type 0) → ((x : A) → IsPlain (P x)) → (xs : List A) → IsPlain (Parens (Listed P) xs)
  listed P f xs = parens (Listed P) xs (λ a real (y, ys, p, is). seq (P y) (Behind is_comma P ys) (f y) (behind P f ys) a real p)

  word : (w : List ℕ) → IsPlain (grammar.Word bytes w)
  word w a real (t, e, h) = subst AllPlain (sym e) (word_plain t.token.kind (spelled bytes t.token) w h, tt)

  two_words : (w v : List ℕ) → IsPlain (Seq (grammar.Word bytes w) (grammar.Word bytes v))
  two_words w v = seq (grammar.Word bytes w) (grammar.Word bytes v) (word w) (word v)

  begun : (w : List ℕ) (P : Tokens → Type 0) → IsPlain P → IsPlain (Seq (grammar.Word bytes w) P)
  begun w P h = seq (grammar.Word bytes w) P (word w) h

  begun_or : (w : List ℕ) (P : Tokens → Type 0) → IsPlain P → IsPlain (Either (grammar.Word bytes w) P)
  begun_or w P h = choice (grammar.Word bytes w) P (word w) h

  name : (n : Named) → IsPlain (grammar.Name bytes n)
  name n a real (t, e, (h, is)) = sign is_name refl a real (t, e, h)

  names : (ns : List Named) → IsPlain (grammar.Names bytes ns)
  names = listed (grammar.Name bytes) name

  number : IsPlain (One (λ t. (n : ℕ) × (t.kind ≡ Number n) × (n ≡ 9223372036854775808 → ⊥)))
  number a real (t, e, (n, k, h)) = subst AllPlain (sym e) (number_plain t.token.kind (keyword bytes t.token) n (sym (subst (Real bytes) e real).0 ∙ k), tt)

  width : IsPlain (grammar.Width bytes)
  width = maybe _ (seq (Is is_open) _ (sign is_open refl) (seq _ (Is is_close) number (sign is_close refl)))

  whole : IsPlain (grammar.Whole bytes)
  whole = begun_or (codes "integer") _ (begun_or (codes "int") _ (begun_or (codes "bigint") _ (word (codes "smallint"))))

  characters : IsPlain (grammar.Characters bytes)
  characters =
      begun_or (codes "text") _ (choice (Seq (grammar.Word bytes (codes "varchar")) (grammar.Width bytes)) _ (begun (codes "varchar") (grammar.Width bytes) width)
      (begun (codes "character") (Seq (grammar.Word bytes (codes "varying")) (grammar.Width bytes)) (begun (codes "varying") (grammar.Width bytes) width)))

  kind_of : (k : _) → IsPlain (grammar.KindOf bytes k)
  kind_of k a real (inl p) = whole a real p.0
  kind_of k a real (inr p) = characters a real p.0

  action : IsPlain (grammar.Action bytes)
  action = begun_or (codes "cascade") _ (begun_or (codes "restrict") _ (choice _ _ (two_words (codes "set") (codes "null")) (two_words (codes "no") (codes "action"))))

  option : (u : Unit {0}) → IsPlain (grammar.AnOption bytes u)
  option u =
      choice _ _ (two_words (codes "match") (codes "simple")) (begun (codes "on") _ (seq _ (grammar.Action bytes) (begun_or (codes "delete") (grammar.Word bytes (codes "update")) (word (codes "update"))) action))

  options : IsPlain (grammar.Options bytes)
  options a real (us, p) = each (grammar.AnOption bytes) option us a real p

  target_names : (o : _) → IsPlain (grammar.TargetNames bytes o)
  target_names o a real (inl p) = subst AllPlain (sym p.0) tt
  target_names o a real (inr (ns, p, is)) = names ns a real p

  target : (t : _) → IsPlain (grammar.IsTarget bytes t)
  target t a real (n, o, p, is) = seq (grammar.Name bytes n) (Seq (grammar.TargetNames bytes o) (grammar.Options bytes)) (name n) (seq (grammar.TargetNames bytes o) (grammar.Options bytes) (target_names o) options) a real p

  any_name : IsPlain (grammar.AnyName bytes)
  any_name a real (n, p) = name n a real p

  constrained : (P : Tokens → Type 0) → IsPlain P → IsPlain (grammar.Constrained bytes P)
  constrained P h = choice _ P (begun (codes "constraint") (Seq (grammar.AnyName bytes) P) (seq (grammar.AnyName bytes) P any_name h)) h

  bare_rule : (r : ColumnRule) → IsPlain (grammar.BareRule bytes r)
  bare_rule own.NotNull = two_words (codes "not") (codes "null")
  bare_rule own.Null = word (codes "null")
  bare_rule own.PrimaryKey = two_words (codes "primary") (codes "key")
  bare_rule own.Unique = word (codes "unique")
  bare_rule (own.References t) = begun (codes "references") (grammar.IsTarget bytes t) (target t)

  own_rule : (r : ColumnRule) → IsPlain (grammar.OwnRule bytes r)
  own_rule r = constrained (grammar.BareRule bytes r) (bare_rule r)

  rule_of : (r : TableRule) → IsPlain (grammar.RuleOf bytes r)
  rule_of (rules.PrimaryKey ns) = begun (codes "primary") (Seq (grammar.Word bytes (codes "key")) (grammar.Names bytes ns)) (begun (codes "key") (grammar.Names bytes ns) (names ns))
  rule_of (rules.Unique ns) = begun (codes "unique") (grammar.Names bytes ns) (names ns)
  rule_of (rules.ForeignKey ns t) =
      let To = Seq (grammar.Word bytes (codes "references")) (grammar.IsTarget bytes t) in
      begun (codes "foreign") (Seq (grammar.Word bytes (codes "key")) (Seq (grammar.Names bytes ns) To)) (begun (codes "key") (Seq (grammar.Names bytes ns) To) (seq (grammar.Names bytes ns) To (names ns)
      (begun (codes "references") (grammar.IsTarget bytes t) (target t))))

  element : (e : Element) → IsPlain (grammar.IsElement bytes e)
  element (elements.Column c) =
      seq (grammar.Name bytes c.name) (Seq (grammar.KindOf bytes c.kind) (Each (grammar.OwnRule bytes) c.rules)) (name c.name)
      (seq (grammar.KindOf bytes c.kind) (Each (grammar.OwnRule bytes) c.rules) (kind_of c.kind) (each (grammar.OwnRule bytes) own_rule c.rules))
  element (elements.Rule r) = constrained (grammar.RuleOf bytes r) (rule_of r)

  begin : IsPlain (grammar.Begin bytes)
  begin = begun (codes "create") _ (begun (codes "table") _ (maybe _ (begun (codes "if") _ (two_words (codes "not") (codes "exists")))))

  create : (t : _) → IsPlain (grammar.Create bytes t)
  create x =
      seq (grammar.Begin bytes) (Seq (grammar.Name bytes x.0) (Parens (Listed (grammar.IsElement bytes)) x.1)) begin
      (seq (grammar.Name bytes x.0) (Parens (Listed (grammar.IsElement bytes)) x.1) (name x.0) (listed (grammar.IsElement bytes) element x.1))

  created : (o : Option _) → IsPlain (grammar.Created bytes o)
  created None a real e = subst AllPlain (sym e) tt
  created (Some t) a real p = create t a real p

  sentence : (tables : _) → IsPlain (grammar.Sentence bytes tables)
  sentence tables a real (os, o, p, is) =
      seq (Each (λ o. Seq (grammar.Created bytes o) (Is is_semi)) os) (grammar.Created bytes o)
      (each (λ o. Seq (grammar.Created bytes o) (Is is_semi)) (λ o. seq (grammar.Created bytes o) (Is is_semi) (created o) (sign is_semi refl)) os) (created o) a real p

  pub no_odd : (tables : _) (us : List Token) → grammar.Sentence bytes tables (map (lexeme bytes) us) → first_odd us ≡ None
  no_odd tables us p = none_odd bytes us (sentence tables (map (lexeme bytes) us) (real_text bytes us) p)
