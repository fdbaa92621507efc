-- What is read of tables is lawful: names, columns and lists.
use Rattle.std.proofs.Common.{◌≡◌, ◌≢◌, ℕ, zero, suc, ◌-◌, ◌<◌, ◌≤◌, Bool, true, false, List, [], ◌∷◌, ◌++◌, length, drop, get_or, refl, ap, sym, ◌∙◌, subst, arith, length-append, Ok, Err, Option}
use Rattle.std.specs.Prelude.{map, nat_le, codes, ◌||◌}
use Rattle.std.specs.List.{All, AllPairs}
use Rattle.std.specs.Str.{IsUtf8, bytes_eq}
use Rattle.std.proofs.lemmas.Bool.{cond_both}
use Rattle.std.proofs.lemmas.Bool.Decides.{nat_tests}
use Rattle.std.proofs.lemmas.List.{drop-map}
use Rattle.std.proofs.lemmas.List.Elements.{All-push, All-nil}
use Rattle.std.proofs.lemmas.List.Quantifiers.{all_pairs_push}
use Rattle.std.proofs.lemmas.Slice.Eq.{bytes_eq-Decides}
use Rattle.std.proofs.lemmas.Str.{is_utf8-from_IsUtf8}
use Rattle.wt_lex.specs.declared.token.Token.{Token}
use Rattle.wt_lex.specs.declared.token.TokenKind.{TokenKind}
use Rattle.wt_lex.specs.declared.token.TokenKind.TheVariants as kinds
use Rattle.wt_lex.specs.declared.words.Word.{Word}
use Rattle.wt_lex.specs.Names.{name_bytes, keyword}
use Rattle.wt_lex.specs.Stored.{AllStandIn}
use Rattle.wt_lex.proofs.Naming.{IsNamed, name_stands}
use Rattle.wt_reading.specs.Lexemes.{Tokens, lexeme, kind_by, at, is_open, is_close, is_comma, is_name}
use Rattle.wt_reading.specs.Readings.{plus, followed, repeat, onward, one_more, list, more, expect}
use Rattle.wt_schema.specs.declared.schema.Column.{Column}
use Rattle.wt_schema.specs.Lawful.{IsName}
use Rattle.wt_ddl.specs.declared.syntax.Named.{Named}
use Rattle.wt_ddl.specs.declared.syntax.ColumnPart.{ColumnPart}
use Rattle.wt_ddl.specs.declared.syntax.TableRule.{TableRule}
use Rattle.wt_ddl.specs.declared.syntax.TableRule.TheVariants as rules
use Rattle.wt_ddl.specs.declared.syntax.Element.{Element}
use Rattle.wt_ddl.specs.declared.syntax.Element.TheVariants as elements
use Rattle.wt_ddl.specs.Fronts.{at_word}
use Rattle.wt_ddl.specs.Reading as spec
use Rattle.wt_ddl.specs.Reading.{Read}
use Rattle.wt_ddl.specs.Settling.{column_of, columns_of}

-- ---- what holds of a value, where there is one

abbrev pub IfRead : {A : Type 0} → (A → Type 0) → Read A → Type 0
IfRead P (Ok x) = P x.0
IfRead P (Err e) = Unit {0}

pub read_plus : {A : Type 0} (P : A → Type 0) (n : ℕ) (r : Read A) → IfRead P r → IfRead P (plus n r)
read_plus P n (Ok x) h = h
read_plus P n (Err e) h = tt

pub read_followed : {A B : Type 0} (P : A → Type 0) (Q : B → Type 0) (ts : Tokens) (r : Read A) (f : A → Tokens → Read B) → IfRead P r → ((a : A) (n : ℕ) → P a → IfRead Q (f a (drop n ts))) → IfRead Q (followed ts r f)
read_followed P Q ts (Ok x) f h k = read_plus Q x.1 (f x.0 (drop x.1 ts)) (k x.0 x.1 h)
read_followed P Q ts (Err e) f h k = tt

abbrev Any_value : {A : Type 0} → A → Type 0
Any_value a = Unit {0}

any_read : {A : Type 0} (r : Read A) → IfRead Any_value r
any_read (Ok x) = tt
any_read (Err e) = tt

-- behind any reading
pub read_behind : {A B : Type 0} (Q : B → Type 0) (ts : Tokens) (r : Read A) (f : A → Tokens → Read B) → ((a : A) (n : ℕ) → IfRead Q (f a (drop n ts))) → IfRead Q (followed ts r f)
read_behind Q ts r f k = read_followed Any_value Q ts r f (any_read r) (λ a n h. k a n)

pub read_one_more : {A : Type 0} (P : List A → Type 0) (part : List A → Tokens → Read A) (xs : List A) (ts : Tokens) → IfRead (λ x. P (xs ++ x ∷ [])) (part xs ts) → IfRead P (one_more part xs ts)
unfolding one_more
read_one_more P part xs ts h = read_followed (λ x. P (xs ++ x ∷ [])) P ts (part xs ts) _ h (λ x n k. k)

-- ---- elements, for any fact on names that holds of the names in these tokens

-- the lists of a rule are not empty
abbrev pub IsListed : TableRule → Type 0
IsListed (rules.PrimaryKey ns) = 1 ≤ length ns
IsListed (rules.Unique ns) = 1 ≤ length ns
IsListed (rules.ForeignKey ns target) = 1 ≤ length ns

abbrev pub HasLists : Element → Type 0
HasLists (elements.Column c) = Unit {0}
HasLists (elements.Rule r) = IsListed r

pub record AreElements (N : List ℕ → Type 0) (es : List Element) : Type 0 where
  pub few : length (columns_of es) ≤ 64
  pub named : All (λ c. N c.name) (columns_of es)
  pub differ : AllPairs (λ a b. a.name ≢ b.name) (columns_of es)
  pub listed : All HasLists es

columns_append : (es fs : List Element) → columns_of (es ++ fs) ≡ columns_of es ++ columns_of fs
columns_append [] fs = refl
columns_append (elements.Column c ∷ es) fs = ap (λ l. column_of c ∷ l) (columns_append es fs)
columns_append (elements.Rule r ∷ es) fs = columns_append es fs

columns_rule : (es : List Element) (r : TableRule) → columns_of (es ++ elements.Rule r ∷ []) ≡ columns_of es
columns_rule [] r = refl
columns_rule (elements.Column c ∷ es) r = ap (λ l. column_of c ∷ l) (columns_rule es r)
columns_rule (elements.Rule s ∷ es) r = columns_rule es r

pub no_elements : (N : List ℕ → Type 0) → AreElements N []
no_elements N = record { few = omega arith; named = All-nil (λ c. N c.name); differ = λ i j d l m. absurd (omega arith); listed = All-nil HasLists }

with_rule : (N : List ℕ → Type 0) (es : List Element) (r : TableRule) → AreElements N es → IsListed r → AreElements N (es ++ elements.Rule r ∷ [])
with_rule N es r h k =
    let same = sym (columns_rule es r) in
    record {
      few = subst (λ (l : List Column). length l ≤ 64) same h.few;
      named = subst (λ (l : List Column). All (λ c. N c.name) l) same h.named;
      differ = subst (λ (l : List Column). AllPairs (λ a b. a.name ≢ b.name) l) same h.differ;
      listed = All-push HasLists es (elements.Rule r) h.listed k;
    }

-- a name that no column has differs from each
all_differ : (es : List Element) (name : List ℕ) → spec.has_column es name ≡ false → (k : ℕ) (c : Column) → k < length (columns_of es) → (get_or (columns_of es) k c).name ≢ name
all_differ [] name h k c l = absurd (omega arith)
all_differ (elements.Rule r ∷ es) name h k c l = all_differ es name h k c l
all_differ (elements.Column x ∷ es) name h zero c l = λ e. by e (bytes_eq x.name.name name) refl h
  where
    by : x.name.name ≡ name → (t : Bool) → bytes_eq x.name.name name ≡ t → (t || spec.has_column es name) ≡ false → ⊥
    by e true q g = absurd (cc)
    by e false q g = let bad : bytes_eq x.name.name name ≡ true = (bytes_eq-Decides x.name.name name).1 e in cc
all_differ (elements.Column x ∷ es) name h (suc k) c l = all_differ es name (later (bytes_eq x.name.name name) h) k c (omega arith)
  where
    later : (t : Bool) → (t || spec.has_column es name) ≡ false → spec.has_column es name ≡ false
    later true g = absurd (cc)
    later false g = g

with_column : (N : List ℕ → Type 0) (es : List Element) (c : ColumnPart) → AreElements N es → N c.name.name → spec.has_column es c.name.name ≡ false → length (columns_of es) < 64 → AreElements N (es ++ elements.Column c ∷ [])
with_column N es c h named new few =
    let same = sym (columns_append es (elements.Column c ∷ [])) in
    record {
      few = omega (arith, ap length same, few, length-append (columns_of es) (column_of c ∷ []));
      named = subst (λ (l : List Column). All (λ c. N c.name) l) same (All-push (λ c. N c.name) (columns_of es) (column_of c) h.named named);
      differ = subst (λ (l : List Column). AllPairs (λ a b. a.name ≢ b.name) l) same (all_pairs_push (λ a b. a.name ≢ b.name) (columns_of es) (column_of c) h.differ (all_differ es c.name.name new));
      listed = All-push HasLists es (elements.Column c) h.listed tt;
    }

module _ (bytes : List ℕ) (N : List ℕ → Type 0) (G : Tokens → Type 0) (G_drop : (n : ℕ) (ts : Tokens) → G ts → G (drop n ts)) (named : (ts : Tokens) → G ts → IfRead (λ n. N n.name) (spec.name bytes ts)) where
  pub read_repeat : {A : Type 0} (P : A → Type 0) (test : Tokens → Bool) (part : A → Tokens → Read A) → ((a : A) (ts : Tokens) → P a → G ts → IfRead P (part a ts))
      → (k : ℕ) (a : A) (ts : Tokens) → P a → G ts → IfRead P (repeat test part k a ts)
  unfolding repeat
  read_repeat P test part each k a [] h good = h
  read_repeat P test part each (suc k) a (t ∷ ts) h good = read_repeat P test part each k a ts h (G_drop 1 (t ∷ ts) good)
  read_repeat {A} P test part each zero a (t ∷ ts) h good =
      cond_both (test (t ∷ ts)) _ _ (IfRead P) (λ _. by (part a (t ∷ ts)) (each a (t ∷ ts) h good) (λ b m hb. read_repeat P test part each (m - 1) b ts hb (G_drop 1 (t ∷ ts) good))) (λ _. h)
    where
      by : (r : Read A) → IfRead P r → ((b : A) (m : ℕ) → P b → IfRead P (repeat test part (m - 1) b ts)) → IfRead P (onward r (λ b m. repeat test part (m - 1) b ts))
      by (Ok x) hr next = read_plus P x.1 _ (next x.0 x.1 hr)
      by (Err e) hr next = tt

  abbrev Some_names : List Named → Type 0
  Some_names l = 1 ≤ length l

  list_law : (ts : Tokens) → IfRead Some_names (list (spec.name bytes) ts)
  unfolding list
  list_law ts = read_behind Some_names ts (spec.name bytes ts) _ (λ x n. read_behind Some_names (drop n ts) (more is_comma (spec.name bytes) 0 (drop n ts)) _ (λ xs m. omega arith))

  names_law : (ts : Tokens) → IfRead Some_names (spec.names bytes ts)
  unfolding spec.names
  names_law ts =
      cond_both (at is_open ts) _ _ (IfRead Some_names)
      (λ _. read_plus Some_names 1 _ (read_followed Some_names Some_names (drop 1 ts) (list (spec.name bytes) (drop 1 ts)) _ (list_law (drop 1 ts))
      (λ x n k. read_behind Some_names (drop n (drop 1 ts)) (expect (at is_close) (spec.syntax bytes) (drop n (drop 1 ts))) _ (λ u m. k))))
      (λ _. tt)

  -- ---- columns

  -- the name of a column that may stand behind these elements
  abbrev IsNew : List Element → Named → Type 0
  IsNew es n = N n.name × (spec.has_column es n.name ≡ false) × (length (columns_of es) < 64)

  column_name_law : (es : List Element) (ts : Tokens) → G ts → IfRead (IsNew es) (spec.column_name bytes es ts)
  unfolding spec.column_name
  column_name_law es ts good =
      read_followed (λ n. N n.name) (IsNew es) ts (spec.name bytes ts) _ (named ts good) (λ n k is.
      cond_both (spec.has_column es n.name) _ _ (IfRead (IsNew es)) (λ _. tt)
      (λ new. cond_both (nat_le 64 (length (columns_of es))) _ _ (IfRead (IsNew es)) (λ _. tt)
      (λ small. let few : length (columns_of es) < 64 = grind (arith, nat_tests) in (is, new, few))))

  column_law : (es : List Element) (ts : Tokens) → AreElements N es → G ts → IfRead (λ c. AreElements N (es ++ elements.Column c ∷ [])) (spec.column bytes es ts)
  unfolding spec.column
  column_law es ts h good =
      let P : ColumnPart → Type 0 = λ c. AreElements N (es ++ elements.Column c ∷ []) in
      read_followed (IsNew es) P ts (spec.column_name bytes es ts) _ (column_name_law es ts good) (λ n k is.
      read_behind P (drop k ts) (spec.kind_of bytes (drop k ts)) _ (λ kind m.
      read_behind P (drop m (drop k ts)) (spec.column_rules bytes es (drop m (drop k ts))) _ (λ rs i.
      with_column N es (record { name = n; kind = kind; rules = rs }) h is.0 is.1 is.2)))

  -- ---- rules of a table

  primary_rule_law : (es : List Element) (ts : Tokens) → IfRead IsListed (spec.primary_rule bytes es ts)
  unfolding spec.primary_rule
  primary_rule_law es ts =
      read_plus IsListed 1 _ (read_behind IsListed (drop 1 ts) (spec.word bytes (codes "key") (drop 1 ts)) _ (λ u k.
      cond_both (spec.has_primary es) _ _ (IfRead IsListed) (λ _. tt)
      (λ _. read_followed Some_names IsListed (drop k (drop 1 ts)) (spec.names bytes (drop k (drop 1 ts))) _ (names_law (drop k (drop 1 ts))) (λ all m some. some))))

  unique_rule_law : (ts : Tokens) → IfRead IsListed (spec.unique_rule bytes ts)
  unfolding spec.unique_rule
  unique_rule_law ts = read_plus IsListed 1 _ (read_followed Some_names IsListed (drop 1 ts) (spec.names bytes (drop 1 ts)) _ (names_law (drop 1 ts)) (λ all m some. some))

  foreign_rule_law : (ts : Tokens) → IfRead IsListed (spec.foreign_rule bytes ts)
  unfolding spec.foreign_rule
  foreign_rule_law ts =
      let a = drop 1 ts in
      read_plus IsListed 1 _ (read_behind IsListed a (spec.word bytes (codes "key") a) _ (λ u k.
      let b = drop k a in
      read_followed Some_names IsListed b (spec.names bytes b) _ (names_law b) (λ all m some.
      read_behind IsListed (drop m b) (spec.foreign_target bytes (drop m b)) _ (λ t i. some))))

  table_rule_law : (es : List Element) (ts : Tokens) → IfRead IsListed (spec.table_rule bytes es ts)
  unfolding spec.table_rule
  table_rule_law es ts =
      cond_both (at_word bytes (codes "primary") ts) _ _ (IfRead IsListed) (λ _. primary_rule_law es ts) (λ _. cond_both (at_word bytes (codes "unique") ts) _ _ (IfRead IsListed) (λ _. unique_rule_law ts) (λ _. foreign_rule_law ts))

  named_rule_law : (es : List Element) (ts : Tokens) → IfRead IsListed (spec.named_rule bytes es ts)
  unfolding spec.named_rule
  named_rule_law es ts =
      cond_both (at_word bytes (codes "check") ts) _ _ (IfRead IsListed) (λ _. tt) (λ _. cond_both (spec.at_table_rule bytes ts) _ _ (IfRead IsListed) (λ _. table_rule_law es ts) (λ _. tt))

  pub element_law : (es : List Element) (ts : Tokens) → AreElements N es → G ts → IfRead (λ e. AreElements N (es ++ e ∷ [])) (spec.element bytes es ts)
  unfolding spec.element
  element_law es ts h good =
      let P : Element → Type 0 = λ e. AreElements N (es ++ e ∷ []) in
      cond_both (at_word bytes (codes "constraint") ts) _ _ (IfRead P)
      (λ _. read_plus P 1 _ (read_behind P (drop 1 ts) (spec.name bytes (drop 1 ts)) _ (λ n k.
      let a = drop k (drop 1 ts) in
      read_followed IsListed P a (spec.named_rule bytes es a) _ (named_rule_law es a) (λ r m is. with_rule N es r h is))))
      (λ _. cond_both (at_word bytes (codes "check") ts) _ _ (IfRead P) (λ _. tt)
      (λ _. cond_both (spec.at_table_rule bytes ts) _ _ (IfRead P)
      (λ _. read_followed IsListed P ts (spec.table_rule bytes es ts) _ (table_rule_law es ts) (λ r m is. with_rule N es r h is))
      (λ _. read_followed (λ c. AreElements N (es ++ elements.Column c ∷ [])) P ts (spec.column bytes es ts) _ (column_law es ts h good) (λ c m is. is))))

  next_element_law : (es : List Element) (ts : Tokens) → AreElements N es → G ts → IfRead (λ e. AreElements N (es ++ e ∷ [])) (spec.next_element bytes es ts)
  unfolding spec.next_element
  next_element_law es ts h good = read_plus (λ e. AreElements N (es ++ e ∷ [])) 1 (spec.element bytes es (drop 1 ts)) (element_law es (drop 1 ts) h (G_drop 1 ts good))

  -- elements, and one of them at least
  abbrev pub Begun : List Element → Type 0
  Begun es = AreElements N es × (1 ≤ length es)

  pub elements_law : (ts : Tokens) → G ts → IfRead Begun (spec.elements_of bytes ts)
  unfolding spec.elements_of
  elements_law ts good =
      read_behind Begun ts (spec.symbol bytes is_open ts) _ (λ u k.
      let a = drop k ts in
      read_followed (λ e. AreElements N ([] ++ e ∷ [])) Begun a (spec.element bytes [] a) _ (element_law [] a (no_elements N) (G_drop k ts good)) (λ e m first.
      let b = drop m a in
      read_followed Begun Begun b (spec.more_elements bytes (e ∷ []) b) _
      (read_repeat Begun (at is_comma) (one_more (spec.next_element bytes)) (λ es l h g. read_one_more Begun (spec.next_element bytes) es l (one es l h g)) 0 (e ∷ []) b (first, omega arith) (G_drop m a (G_drop k ts good))) (λ es i all.
      read_behind Begun (drop i b) (spec.symbol bytes is_close (drop i b)) _ (λ v j. all))))
    where
      some : (es : List Element) (r : Read Element) → IfRead (λ e. AreElements N (es ++ e ∷ [])) r → IfRead (λ e. Begun (es ++ e ∷ [])) r
      some es (Ok x) h = (h, omega (arith, length-append es (x.0 ∷ [])))
      some es (Err f) h = tt

      one : (es : List Element) (l : Tokens) → Begun es → G l → IfRead (λ e. Begun (es ++ e ∷ [])) (spec.next_element bytes es l)
      one es l h g = some es (spec.next_element bytes es l) (next_element_law es l h.0 g)

-- ---- tokens that stand in a text

abbrev pub Stand : List ℕ → Tokens → Type 0
Stand bytes ts = (us : List Token) × (ts ≡ map (lexeme bytes) us) × AllStandIn bytes us

stand_drop : (bytes : List ℕ) (n : ℕ) (us : List Token) → AllStandIn bytes us → AllStandIn bytes (drop n us)
stand_drop bytes zero us h = h
stand_drop bytes (suc n) [] h = h
stand_drop bytes (suc n) (t ∷ us) h = stand_drop bytes n us h.1

named_kind : (k : TokenKind) (w : Option Word) → is_name (kind_by k w) ≡ true → IsNamed k
named_kind kinds.Word w h = tt
named_kind kinds.Quoted w h = tt
named_kind (kinds.Number n) w h = absurd (cc)
named_kind kinds.Text w h = absurd (cc)
named_kind (kinds.Symbol x) w h = absurd (cc)
named_kind (kinds.Odd f) w h = absurd (cc)

module _ (bytes : List ℕ) (text : IsUtf8 bytes) where
  pub good_drop : (n : ℕ) (ts : Tokens) → Stand bytes ts → Stand bytes (drop n ts)
  good_drop n ts (us, e, h) = (drop n us, ap (drop n) e ∙ drop-map (lexeme bytes) n us, stand_drop bytes n us h)

  by_tokens : (us : List Token) → AllStandIn bytes us → IfRead (λ n. IsName n.name) (spec.name bytes (map (lexeme bytes) us))
  unfolding spec.name lexeme
  by_tokens [] h = tt
  by_tokens (t ∷ us) h =
      cond_both (is_name (kind_by t.kind (keyword bytes t))) _ _ (IfRead (λ n. IsName n.name))
      (λ k. let is = name_stands bytes t text h.0 (named_kind t.kind (keyword bytes t) k) in (is_utf8-from_IsUtf8 (name_bytes bytes t) is.0, is.1))
      (λ _. tt)

  pub name_law : (ts : Tokens) → Stand bytes ts → IfRead (λ n. IsName n.name) (spec.name bytes ts)
  name_law ts (us, e, h) = subst (λ l. IfRead (λ n. IsName n.name) (spec.name bytes l)) (sym e) (by_tokens us h)

-- ---- what was read

pub read_is : {A : Type 0} (P : A → Type 0) (r : Read A) (a : A) (n : ℕ) → IfRead P r → r ≡ Ok (a, n) → P a
read_is P r a n h e = let Q : Read _ → Type 0 = IfRead P in subst Q e h

abbrev pub No_fact : List ℕ → Type 0
No_fact name = Unit {0}

abbrev pub No_claim : Tokens → Type 0
No_claim ts = Unit {0}

pub no_names : (bytes : List ℕ) (ts : Tokens) → IfRead (λ n. No_fact n.name) (spec.name bytes ts)
no_names bytes ts = any_read (spec.name bytes ts)

-- a table has at most 64 columns
pub few_columns : (bytes : List ℕ) (es : List Element) (ts : Tokens) (n : ℕ) → spec.elements_of bytes ts ≡ Ok (es, n) → length (columns_of es) ≤ 64
few_columns bytes es ts n h =
    let all : AreElements No_fact es × (1 ≤ length es) = read_is _ _ es n (elements_law bytes No_fact No_claim (λ i l g. tt) (λ l g. no_names bytes l) ts tt) h in
    all.0.few
