-- What the grammar derives is read: columns and rules of a table.
use Rattle.std.proofs.Common.{◌≡◌, ℕ, ◌≤◌, true, false, ◌⊎◌, inl, inr, List, [], ◌∷◌, ◌++◌, length, refl, ap, sym, ◌∙◌, subst, arith, append_assoc, Ok}
use Rattle.std.specs.Prelude.{if◌then◌else◌, ◌||◌, nat_le, codes}
use Rattle.std.specs.List.{list_any}
use Rattle.wt_lex.specs.declared.words.Word.TheVariants as word
use Rattle.wt_reading.specs.Lexemes.{Tokens, at, is_open, is_close, is_comma}
use Rattle.wt_reading.specs.Readings.{followed}
use Rattle.wt_reading.specs.Sentences.{Seq, Is, Each, Behind, Listed, Parens}
use Rattle.wt_ddl.specs.declared.syntax.Named.{Named}
use Rattle.wt_ddl.specs.declared.syntax.Target.{Target}
use Rattle.wt_ddl.specs.declared.syntax.ColumnRule.{ColumnRule}
use Rattle.wt_ddl.specs.declared.syntax.ColumnRule.TheVariants as own
use Rattle.wt_ddl.specs.declared.syntax.ColumnPart.{ColumnPart}
use Rattle.wt_ddl.specs.declared.syntax.TableRule.{TableRule}
use Rattle.wt_ddl.specs.declared.syntax.TableRule.TheVariants as rules
use Rattle.wt_ddl.specs.declared.syntax.Element.{Element}
use Rattle.wt_ddl.specs.declared.syntax.Element.TheVariants as elements
use Rattle.wt_ddl.specs.declared.fault.DdlFault.TheVariants as fault
use Rattle.wt_ddl.specs.Fronts.{at_word, at_some_word}
use Rattle.wt_ddl.specs.Grammar as grammar
use Rattle.wt_ddl.specs.Reading as spec
use Rattle.wt_ddl.specs.Reading.{Read}
use Rattle.wt_ddl.specs.Settling.{columns_of}
use Rattle.wt_ddl.proofs.Repeats.{word_some, kind_some}
use Rattle.wt_ddl_sentence.proofs.Readings.{IsRead, taken, skipped, both_ways, then_read, end_read, last_read, first_read, many_read}
use Rattle.wt_ddl_sentence.proofs.Words.{Differ, Real, real_behind, other_word, no_symbol_at, open_symbol, close_symbol, comma_symbol, some_word_at, no_some_word_at, no_word, name_not, word_at, sign_at, not_open_at_comma, not_open_at_close, no_comma_at_close}
use Rattle.wt_ddl_sentence.proofs.Targets.{AtClose, NotOpen, AtWord, one_size, front_of, seq_at, word_read, symbol_read, name_read, names_read, kind_read, AfterTarget, target_read}

-- a comma or a closing parenthesis stands behind an element
abbrev pub AfterElement : Tokens → Type 0
AfterElement ts = (at is_comma ts ≡ true) ⊎ AtClose ts

element_not_open : (ts : Tokens) → AfterElement ts → NotOpen ts
element_not_open ts (inl h) = not_open_at_comma ts h
element_not_open ts (inr h) = not_open_at_close ts h

module _ (bytes : List ℕ) where
  element_no_word : (ts : Tokens) → Real bytes ts → AfterElement ts → at_some_word ts ≡ false
  element_no_word ts real (inl h) = no_some_word_at bytes is_comma comma_symbol refl ts real h
  element_no_word ts real (inr h) = no_some_word_at bytes is_close close_symbol refl ts real h

  no_option : (ts : Tokens) → at_word bytes (codes "match") ts ≡ false → at_word bytes (codes "on") ts ≡ false → spec.at_option bytes ts ≡ false
  no_option ts h g = rw (h, g) refl

  element_target : (ts : Tokens) → Real bytes ts → AfterElement ts → AfterTarget bytes ts
  element_target ts real h =
      let none = element_no_word ts real h in
      record { not_open = element_not_open ts h; no_option = no_option ts (no_word bytes (codes "match") ts none) (no_word bytes (codes "on") ts none) }

  -- ---- rules of a column

  -- a word that opens no option
  abbrev OpensRule : Tokens → Type 0
  OpensRule ts = (w : List ℕ) × AtWord bytes w ts × Differ w (codes "match") × Differ w (codes "on")

  opens_target : (ts : Tokens) → Real bytes ts → OpensRule ts → AfterTarget bytes ts
  opens_target ts real (w, h, d, e) = record {
    not_open = no_symbol_at bytes is_open open_symbol w ts real h;
    no_option = no_option ts (other_word bytes w (codes "match") ts d h) (other_word bytes w (codes "on") ts e h);
  }

  opens_word : (ts : Tokens) → OpensRule ts → at_some_word ts ≡ true
  opens_word ts (w, h, d, e) = some_word_at bytes w ts h

  bare_opens : (x : ColumnRule) (a rest : Tokens) → grammar.BareRule bytes x a → OpensRule (a ++ rest) × (at_word bytes (codes "constraint") (a ++ rest) ≡ false)
  bare_opens own.NotNull a rest p = let h = seq_at bytes (codes "not") _ a rest p in ((codes "not", h, refl, refl), other_word bytes (codes "not") (codes "constraint") (a ++ rest) refl h)
  bare_opens own.Null a rest p = let h = word_at bytes (codes "null") a rest p in ((codes "null", h, refl, refl), other_word bytes (codes "null") (codes "constraint") (a ++ rest) refl h)
  bare_opens own.PrimaryKey a rest p = let h = seq_at bytes (codes "primary") _ a rest p in ((codes "primary", h, refl, refl), other_word bytes (codes "primary") (codes "constraint") (a ++ rest) refl h)
  bare_opens own.Unique a rest p = let h = word_at bytes (codes "unique") a rest p in ((codes "unique", h, refl, refl), other_word bytes (codes "unique") (codes "constraint") (a ++ rest) refl h)
  bare_opens (own.References t) a rest p = let h = seq_at bytes (codes "references") _ a rest p in ((codes "references", h, refl, refl), other_word bytes (codes "references") (codes "constraint") (a ++ rest) refl h)

  rule_opens : (x : ColumnRule) (a rest : Tokens) → grammar.OwnRule bytes x a → OpensRule (a ++ rest)
  rule_opens x a rest (inl p) = (codes "constraint", seq_at bytes (codes "constraint") _ a rest p, refl, refl)
  rule_opens x a rest (inr p) = (bare_opens x a rest p).0

  rule_some : (x : ColumnRule) (a : Tokens) → grammar.OwnRule bytes x a → 1 ≤ length a
  rule_some x a p = by a (opens_word (a ++ []) (rule_opens x a [] p))
    where
      by : (a : Tokens) → at_some_word (a ++ []) ≡ true → 1 ≤ length a
      by [] h = absurd (cc)
      by (t ∷ us) h = omega arith

  own_primary_read : (es : List Element) (rs : List ColumnRule) (a rest : Tokens) → grammar.BareRule bytes own.PrimaryKey a → IsRead own.PrimaryKey (length a) (spec.own_primary bytes es rs (a ++ rest))
  unfolding spec.own_primary
  own_primary_read es rs a rest p =
      let (t, b, e, is, q) = front_of (grammar.Word bytes (codes "key")) a p in
      first_read (λ l. followed l (spec.word bytes (codes "key") l) (λ _ c. if spec.has_primary es || list_any spec.is_own_primary rs then spec.no bytes fault.SecondPrimaryKey (a ++ rest) else Ok (own.PrimaryKey, 0)))
      a b rest t own.PrimaryKey e
      (end_read (spec.word bytes (codes "key")) _ b rest tt own.PrimaryKey (word_read bytes (codes "key") b rest q)
      (both_ways (spec.has_primary es || list_any spec.is_own_primary rs) _ (Ok (own.PrimaryKey, 0)) own.PrimaryKey 0 refl (refl, refl)))

  bare_read : (es : List Element) (rs : List ColumnRule) (x : ColumnRule) (a rest : Tokens) → Real bytes (a ++ rest) → grammar.BareRule bytes x a → AfterTarget bytes rest
      → IsRead x (length a) (spec.bare_rule bytes es rs (a ++ rest))
  unfolding spec.bare_rule
  bare_read es rs own.NotNull a rest real p f =
      let (t, b, e, is, q) = front_of (grammar.Word bytes (codes "null")) a p in
      taken (at_word bytes (codes "not") (a ++ rest)) _ _ own.NotNull (length a) (seq_at bytes (codes "not") _ a rest p)
      (first_read (λ l. followed l (spec.word bytes (codes "null") l) (λ _ c. Ok (own.NotNull, 0))) a b rest t own.NotNull e (last_read (spec.word bytes (codes "null")) (λ _. own.NotNull) b rest tt (word_read bytes (codes "null") b rest q)))
  bare_read es rs own.Null a rest real p f =
      let h = word_at bytes (codes "null") a rest p in
      skipped (at_word bytes (codes "not") (a ++ rest)) _ _ own.Null (length a) (other_word bytes (codes "null") (codes "not") (a ++ rest) refl h)
      (taken (at_word bytes (codes "null") (a ++ rest)) (Ok (own.Null, 1)) _ own.Null (length a) h (refl, one_size a p))
  bare_read es rs own.PrimaryKey a rest real p f =
      let w = codes "primary" in
      let h = seq_at bytes w _ a rest p in
      skipped (at_word bytes (codes "not") (a ++ rest)) _ _ own.PrimaryKey (length a) (other_word bytes w (codes "not") (a ++ rest) refl h)
      (skipped (at_word bytes (codes "null") (a ++ rest)) _ _ own.PrimaryKey (length a) (other_word bytes w (codes "null") (a ++ rest) refl h)
      (taken (at_word bytes w (a ++ rest)) _ _ own.PrimaryKey (length a) h (own_primary_read es rs a rest p)))
  bare_read es rs own.Unique a rest real p f =
      let w = codes "unique" in
      let h = word_at bytes w a rest p in
      skipped (at_word bytes (codes "not") (a ++ rest)) _ _ own.Unique (length a) (other_word bytes w (codes "not") (a ++ rest) refl h)
      (skipped (at_word bytes (codes "null") (a ++ rest)) _ _ own.Unique (length a) (other_word bytes w (codes "null") (a ++ rest) refl h)
      (skipped (at_word bytes (codes "primary") (a ++ rest)) _ _ own.Unique (length a) (other_word bytes w (codes "primary") (a ++ rest) refl h)
      (taken (at_word bytes w (a ++ rest)) (Ok (own.Unique, 1)) _ own.Unique (length a) h (refl, one_size a p))))
  bare_read es rs (own.References x) a rest real p f =
      let w = codes "references" in
      let h = seq_at bytes w _ a rest p in
      let (t, b, e, is, q) = front_of (grammar.IsTarget bytes x) a p in
      let real_target : Real bytes (b ++ rest) = (subst (λ l. Real bytes (l ++ rest)) e real).1 in
      skipped (at_word bytes (codes "not") (a ++ rest)) _ _ (own.References x) (length a) (other_word bytes w (codes "not") (a ++ rest) refl h)
      (skipped (at_word bytes (codes "null") (a ++ rest)) _ _ (own.References x) (length a) (other_word bytes w (codes "null") (a ++ rest) refl h)
      (skipped (at_word bytes (codes "primary") (a ++ rest)) _ _ (own.References x) (length a) (other_word bytes w (codes "primary") (a ++ rest) refl h)
      (skipped (at_word bytes (codes "unique") (a ++ rest)) _ _ (own.References x) (length a) (other_word bytes w (codes "unique") (a ++ rest) refl h)
      (taken (at_word bytes w (a ++ rest)) _ _ (own.References x) (length a) h
      (first_read (λ l. followed l (spec.target bytes l) (λ t c. Ok (own.References t, 0))) a b rest t (own.References x) e
      (last_read (spec.target bytes) (λ t. own.References t) b rest x (target_read bytes x b rest real_target q f)))))))

  rule_read : (es : List Element) (rs : List ColumnRule) (x : ColumnRule) (a rest : Tokens) → grammar.OwnRule bytes x a → Real bytes (a ++ rest) → AfterTarget bytes rest
      → IsRead x (length a) (spec.rule bytes es rs (a ++ rest))
  unfolding spec.rule
  rule_read es rs x a rest (inl p) real f =
      let h = seq_at bytes (codes "constraint") _ a rest p in
      let (t, b, e, is, (c, d, e', (n, q), s)) = front_of (Seq (grammar.AnyName bytes) (grammar.BareRule bytes x)) a p in
      let real_b : Real bytes (b ++ rest) = (subst (λ l. Real bytes (l ++ rest)) e real).1 in
      let real_d : Real bytes (d ++ rest) = real_behind bytes c (d ++ rest) (subst (Real bytes) (ap (λ l. l ++ rest) e' ∙ append_assoc c d rest) real_b) in
      taken (at_word bytes (codes "constraint") (a ++ rest)) _ _ x (length a) h
      (first_read (λ l. followed l (spec.name bytes l) (λ _ c. spec.bare_rule bytes es rs c)) a b rest t x e
      (then_read (spec.name bytes) (λ _ c. spec.bare_rule bytes es rs c) b c d rest n x e' (name_read bytes n c (d ++ rest) q) (bare_read es rs x d rest real_d s f)))
  rule_read es rs x a rest (inr p) real f =
      skipped (at_word bytes (codes "constraint") (a ++ rest)) _ _ x (length a) (bare_opens x a rest p).1 (bare_read es rs x a rest real p f)

  -- ---- columns

  column_name_read : (es : List Element) (n : Named) (a rest : Tokens) → grammar.Name bytes n a → IsRead n (length a) (spec.column_name bytes es (a ++ rest))
  unfolding spec.column_name
  column_name_read es n a rest p =
      end_read (spec.name bytes) _ a rest n n (name_read bytes n a rest p)
      (both_ways (spec.has_column es n.name) _ _ n 0 refl (both_ways (nat_le 64 (length (columns_of es))) _ (Ok (n, 0)) n 0 refl (refl, refl)))

  rules_not_open : (xs : List ColumnRule) (a rest : Tokens) → Real bytes (a ++ rest) → Each (grammar.OwnRule bytes) xs a → NotOpen rest → NotOpen (a ++ rest)
  rules_not_open [] a rest real e f = subst (λ l. NotOpen (l ++ rest)) (sym e) f
  rules_not_open (x ∷ xs) a rest real (b, c, e, p, q) f =
      let whole : a ++ rest ≡ b ++ (c ++ rest) = ap (λ l. l ++ rest) e ∙ append_assoc b c rest in
      subst NotOpen (sym whole) (opens_target (b ++ (c ++ rest)) (subst (Real bytes) whole real) (rule_opens x b (c ++ rest) p)).not_open

  column_read : (es : List Element) (x : ColumnPart) (a rest : Tokens) → Real bytes (a ++ rest) → grammar.Column bytes x a → AfterElement rest → IsRead x (length a) (spec.column bytes es (a ++ rest))
  unfolding spec.column
  column_read es x a rest real (b, c, e, p, (d, g, e', q, s)) f =
      let whole : a ++ rest ≡ b ++ (c ++ rest) = ap (λ l. l ++ rest) e ∙ append_assoc b c rest in
      let inner : c ++ rest ≡ d ++ (g ++ rest) = ap (λ l. l ++ rest) e' ∙ append_assoc d g rest in
      let real_rules : Real bytes (g ++ rest) = real_behind bytes d (g ++ rest) (subst (Real bytes) inner (real_behind bytes b (c ++ rest) (subst (Real bytes) whole real))) in
      let real_rest : Real bytes rest = real_behind bytes g rest real_rules in
      then_read (spec.column_name bytes es) _ a b c rest x.name x e (column_name_read es x.name b (c ++ rest) p)
      (then_read (spec.kind_of bytes) _ c d g rest x.kind x e' (kind_read bytes x.kind d (g ++ rest) q (rules_not_open x.rules g rest real_rules s (element_not_open rest f)))
      (last_read (spec.column_rules bytes es) (λ rs. record { name = x.name; kind = x.kind; rules = rs }) g rest x.rules
      (many_read at_some_word (spec.rule bytes es) word_some (grammar.OwnRule bytes) (Real bytes) (real_behind bytes) rule_some (λ y b r p h. opens_word (b ++ r) (rule_opens y b r p))
      (AfterTarget bytes) (λ y b r p h. opens_target (b ++ r) h (rule_opens y b r p)) (λ rs y b r p h g. rule_read es rs y b r p h g)
      [] x.rules g rest s real_rules (element_target rest real_rest f) (element_no_word rest real_rest f))))

  -- ---- rules of a table

  table_rule_at : (x : TableRule) (a rest : Tokens) → grammar.RuleOf bytes x a
      → (spec.at_table_rule bytes (a ++ rest) ≡ true) × (at_word bytes (codes "constraint") (a ++ rest) ≡ false) × (at_word bytes (codes "check") (a ++ rest) ≡ false)
  table_rule_at (rules.PrimaryKey ns) a rest p =
      let w = codes "primary" in
      let h = seq_at bytes w _ a rest p in
      (rw h refl, other_word bytes w (codes "constraint") (a ++ rest) refl h, other_word bytes w (codes "check") (a ++ rest) refl h)
  table_rule_at (rules.Unique ns) a rest p =
      let w = codes "unique" in
      let h = seq_at bytes w _ a rest p in
      let g = other_word bytes w (codes "primary") (a ++ rest) refl h in
      (rw (g, h) refl, other_word bytes w (codes "constraint") (a ++ rest) refl h, other_word bytes w (codes "check") (a ++ rest) refl h)
  table_rule_at (rules.ForeignKey ns t) a rest p =
      let w = codes "foreign" in
      let h = seq_at bytes w _ a rest p in
      let g = other_word bytes w (codes "primary") (a ++ rest) refl h in
      let f = other_word bytes w (codes "unique") (a ++ rest) refl h in
      (rw (g, f, h) refl, other_word bytes w (codes "constraint") (a ++ rest) refl h, other_word bytes w (codes "check") (a ++ rest) refl h)

  primary_read : (es : List Element) (ns : List Named) (a rest : Tokens) → grammar.RuleOf bytes (rules.PrimaryKey ns) a → IsRead (rules.PrimaryKey ns) (length a) (spec.primary_rule bytes es (a ++ rest))
  unfolding spec.primary_rule
  primary_read es ns a rest p =
      let x = rules.PrimaryKey ns in
      let (t, b, e, is, (c, d, e', q, s)) = front_of (Seq (grammar.Word bytes (codes "key")) (grammar.Names bytes ns)) a p in
      first_read (λ l. followed l (spec.word bytes (codes "key") l) (λ _ k. if spec.has_primary es then spec.no bytes fault.SecondPrimaryKey (a ++ rest) else followed k (spec.names bytes k) (λ all m. Ok (rules.PrimaryKey all, 0))))
      a b rest t x e
      (then_read (spec.word bytes (codes "key")) _ b c d rest tt x e' (word_read bytes (codes "key") c (d ++ rest) q)
      (both_ways (spec.has_primary es) _ _ x (length d) refl (last_read (spec.names bytes) (λ all. rules.PrimaryKey all) d rest ns (names_read bytes ns d rest s))))

  unique_read : (ns : List Named) (a rest : Tokens) → grammar.RuleOf bytes (rules.Unique ns) a → IsRead (rules.Unique ns) (length a) (spec.unique_rule bytes (a ++ rest))
  unfolding spec.unique_rule
  unique_read ns a rest p =
      let (t, b, e, is, q) = front_of (grammar.Names bytes ns) a p in
      first_read (λ l. followed l (spec.names bytes l) (λ all m. Ok (rules.Unique all, 0))) a b rest t (rules.Unique ns) e (last_read (spec.names bytes) (λ all. rules.Unique all) b rest ns (names_read bytes ns b rest q))

  foreign_target_read : (x : Target) (a rest : Tokens) → Real bytes (a ++ rest) → Seq (grammar.Word bytes (codes "references")) (grammar.IsTarget bytes x) a → AfterElement rest
      → IsRead x (length a) (spec.foreign_target bytes (a ++ rest))
  unfolding spec.foreign_target spec.behind_target
  foreign_target_read x a rest real (b, c, e, p, q) f =
      let real_target : Real bytes (c ++ rest) = real_behind bytes b (c ++ rest) (subst (Real bytes) (ap (λ l. l ++ rest) e ∙ append_assoc b c rest) real) in
      let real_rest : Real bytes rest = real_behind bytes c rest real_target in
      then_read (spec.word bytes (codes "references")) _ a b c rest tt x e (word_read bytes (codes "references") b (c ++ rest) p)
      (end_read (spec.target bytes) _ c rest x x (target_read bytes x c rest real_target q (element_target rest real_rest f))
      (end_read (spec.behind_target bytes) (λ _ k. Ok (x, 0)) [] rest tt x (skipped (at_some_word rest) _ (Ok (tt, 0)) tt 0 (element_no_word rest real_rest f) (refl, refl)) (refl, refl)))

  foreign_read : (ns : List Named) (x : Target) (a rest : Tokens) → Real bytes (a ++ rest) → grammar.RuleOf bytes (rules.ForeignKey ns x) a → AfterElement rest
      → IsRead (rules.ForeignKey ns x) (length a) (spec.foreign_rule bytes (a ++ rest))
  unfolding spec.foreign_rule
  foreign_read ns x a rest real p f =
      let y = rules.ForeignKey ns x in
      let To = Seq (grammar.Word bytes (codes "references")) (grammar.IsTarget bytes x) in
      let (t, b, e, is, (c, d, e', q, (g, i, e'', s, r))) = front_of (Seq (grammar.Word bytes (codes "key")) (Seq (grammar.Names bytes ns) To)) a p in
      let real_b : Real bytes (b ++ rest) = (subst (λ l. Real bytes (l ++ rest)) e real).1 in
      let real_d : Real bytes (d ++ rest) = real_behind bytes c (d ++ rest) (subst (Real bytes) (ap (λ l. l ++ rest) e' ∙ append_assoc c d rest) real_b) in
      let real_i : Real bytes (i ++ rest) = real_behind bytes g (i ++ rest) (subst (Real bytes) (ap (λ l. l ++ rest) e'' ∙ append_assoc g i rest) real_d) in
      first_read (λ l. followed l (spec.word bytes (codes "key") l) (λ _ k. followed k (spec.names bytes k) (λ all m. followed m (spec.foreign_target bytes m) (λ t j. Ok (rules.ForeignKey all t, 0))))) a b rest t y e
      (then_read (spec.word bytes (codes "key")) _ b c d rest tt y e' (word_read bytes (codes "key") c (d ++ rest) q)
      (then_read (spec.names bytes) _ d g i rest ns y e'' (names_read bytes ns g (i ++ rest) s)
      (last_read (spec.foreign_target bytes) (λ t. rules.ForeignKey ns t) i rest x (foreign_target_read x i rest real_i r f))))

  table_rule_read : (es : List Element) (x : TableRule) (a rest : Tokens) → Real bytes (a ++ rest) → grammar.RuleOf bytes x a → AfterElement rest → IsRead x (length a) (spec.table_rule bytes es (a ++ rest))
  unfolding spec.table_rule
  table_rule_read es (rules.PrimaryKey ns) a rest real p f =
      taken (at_word bytes (codes "primary") (a ++ rest)) _ _ (rules.PrimaryKey ns) (length a) (seq_at bytes (codes "primary") _ a rest p) (primary_read es ns a rest p)
  table_rule_read es (rules.Unique ns) a rest real p f =
      let h = seq_at bytes (codes "unique") _ a rest p in
      skipped (at_word bytes (codes "primary") (a ++ rest)) _ _ (rules.Unique ns) (length a) (other_word bytes (codes "unique") (codes "primary") (a ++ rest) refl h)
      (taken (at_word bytes (codes "unique") (a ++ rest)) _ _ (rules.Unique ns) (length a) h (unique_read ns a rest p))
  table_rule_read es (rules.ForeignKey ns t) a rest real p f =
      let h = seq_at bytes (codes "foreign") _ a rest p in
      skipped (at_word bytes (codes "primary") (a ++ rest)) _ _ (rules.ForeignKey ns t) (length a) (other_word bytes (codes "foreign") (codes "primary") (a ++ rest) refl h)
      (skipped (at_word bytes (codes "unique") (a ++ rest)) _ _ (rules.ForeignKey ns t) (length a) (other_word bytes (codes "foreign") (codes "unique") (a ++ rest) refl h)
      (foreign_read ns t a rest real p f))

  named_rule_read : (es : List Element) (x : TableRule) (a rest : Tokens) → Real bytes (a ++ rest) → grammar.RuleOf bytes x a → AfterElement rest → IsRead x (length a) (spec.named_rule bytes es (a ++ rest))
  unfolding spec.named_rule
  named_rule_read es x a rest real p f =
      let (rule, constraint, check) = table_rule_at x a rest p in
      skipped (at_word bytes (codes "check") (a ++ rest)) _ _ x (length a) check (taken (spec.at_table_rule bytes (a ++ rest)) _ _ x (length a) rule (table_rule_read es x a rest real p f))

  -- ---- elements

  column_no_rule : (x : ColumnPart) (a rest : Tokens) → Real bytes (a ++ rest) → grammar.Column bytes x a
      → (at_word bytes (codes "constraint") (a ++ rest) ≡ false) × (at_word bytes (codes "check") (a ++ rest) ≡ false) × (spec.at_table_rule bytes (a ++ rest) ≡ false)
  column_no_rule x a rest real (b, c, e, p, q) =
      let whole : a ++ rest ≡ b ++ (c ++ rest) = ap (λ l. l ++ rest) e ∙ append_assoc b c rest in
      let real_b : Real bytes (b ++ (c ++ rest)) = subst (Real bytes) whole real in
      let primary = ap (at_word bytes (codes "primary")) whole ∙ name_not bytes word.Primary b (c ++ rest) x.name p real_b in
      let unique = ap (at_word bytes (codes "unique")) whole ∙ name_not bytes word.Unique b (c ++ rest) x.name p real_b in
      let foreign = ap (at_word bytes (codes "foreign")) whole ∙ name_not bytes word.Foreign b (c ++ rest) x.name p real_b in (
        ap (at_word bytes (codes "constraint")) whole ∙ name_not bytes word.Constraint b (c ++ rest) x.name p real_b,
        ap (at_word bytes (codes "check")) whole ∙ name_not bytes word.Check b (c ++ rest) x.name p real_b,
        rw (primary, unique, foreign) refl,
      )

  element_read : (es : List Element) (x : Element) (a rest : Tokens) → Real bytes (a ++ rest) → grammar.IsElement bytes x a → AfterElement rest → IsRead x (length a) (spec.element bytes es (a ++ rest))
  unfolding spec.element
  element_read es (elements.Rule r) a rest real (inl p) f =
      let x = elements.Rule r in
      let (t, b, e, is, (c, d, e', (n, q), s)) = front_of (Seq (grammar.AnyName bytes) (grammar.RuleOf bytes r)) a p in
      let real_b : Real bytes (b ++ rest) = (subst (λ l. Real bytes (l ++ rest)) e real).1 in
      let real_d : Real bytes (d ++ rest) = real_behind bytes c (d ++ rest) (subst (Real bytes) (ap (λ l. l ++ rest) e' ∙ append_assoc c d rest) real_b) in
      taken (at_word bytes (codes "constraint") (a ++ rest)) _ _ x (length a) (seq_at bytes (codes "constraint") _ a rest p)
      (first_read (λ l. followed l (spec.name bytes l) (λ _ k. followed k (spec.named_rule bytes es k) (λ r m. Ok (elements.Rule r, 0)))) a b rest t x e
      (then_read (spec.name bytes) _ b c d rest n x e' (name_read bytes n c (d ++ rest) q)
      (last_read (spec.named_rule bytes es) (λ r. elements.Rule r) d rest r (named_rule_read es r d rest real_d s f))))
  element_read es (elements.Rule r) a rest real (inr p) f =
      let x = elements.Rule r in
      let (rule, constraint, check) = table_rule_at r a rest p in
      skipped (at_word bytes (codes "constraint") (a ++ rest)) _ _ x (length a) constraint
      (skipped (at_word bytes (codes "check") (a ++ rest)) _ _ x (length a) check
      (taken (spec.at_table_rule bytes (a ++ rest)) _ _ x (length a) rule (last_read (spec.table_rule bytes es) (λ r. elements.Rule r) a rest r (table_rule_read es r a rest real p f))))
  element_read es (elements.Column c) a rest real p f =
      let x = elements.Column c in
      let (constraint, check, rule) = column_no_rule c a rest real p in
      skipped (at_word bytes (codes "constraint") (a ++ rest)) _ _ x (length a) constraint
      (skipped (at_word bytes (codes "check") (a ++ rest)) _ _ x (length a) check
      (skipped (spec.at_table_rule bytes (a ++ rest)) _ _ x (length a) rule (last_read (spec.column bytes es) (λ c. elements.Column c) a rest c (column_read es c a rest real p f))))

  abbrev Next : Element → Tokens → Type 0
  Next x = Seq (Is is_comma) (grammar.IsElement bytes x)

  next_read : (es : List Element) (x : Element) (a rest : Tokens) → Next x a → Real bytes (a ++ rest) → AfterElement rest → IsRead x (length a) (spec.next_element bytes es (a ++ rest))
  unfolding spec.next_element
  next_read es x a rest p real f =
      let (t, b, e, is, q) = front_of (grammar.IsElement bytes x) a p in
      first_read (spec.element bytes es) a b rest t x e (element_read es x b rest (subst (λ l. Real bytes (l ++ rest)) e real).1 q f)

  next_at : (x : Element) (a rest : Tokens) → Next x a → at is_comma (a ++ rest) ≡ true
  next_at x a rest p = let (t, b, e, is, q) = front_of (grammar.IsElement bytes x) a p in subst (λ l. at is_comma (l ++ rest) ≡ true) (sym e) is

  next_some : (x : Element) (a : Tokens) → Next x a → 1 ≤ length a
  next_some x a p = let (t, b, e, is, q) = front_of (grammar.IsElement bytes x) a p in omega (arith, ap length e)

  behind_each : (xs : List Element) (a : Tokens) → Behind is_comma (grammar.IsElement bytes) xs a → Each Next xs a
  behind_each [] a h = h
  behind_each (x ∷ xs) a (s, d, e, c, (p, b, e', q, others)) =
      (s ++ p, b, e ∙ ap (λ l. s ++ l) e' ∙ sym (append_assoc s p b), (s, p, refl, c, q), behind_each xs b others)

  after_first : (xs : List Element) (a rest : Tokens) → Each Next xs a → AtClose rest → AfterElement (a ++ rest)
  after_first [] a rest e f = subst (λ l. AfterElement (l ++ rest)) (sym e) (inr f)
  after_first (x ∷ xs) a rest (b, c, e, p, q) f = subst AfterElement (sym (ap (λ l. l ++ rest) e ∙ append_assoc b c rest)) (inl (next_at x b (c ++ rest) p))

  pub elements_read : (es : List Element) (a rest : Tokens) → Real bytes (a ++ rest) → Parens (Listed (grammar.IsElement bytes)) es a → IsRead es (length a) (spec.elements_of bytes (a ++ rest))
  unfolding spec.elements_of
  elements_read es a rest real (s, m, e, opens, (b, u, e', (x, xs, (c, d, e'', p, q), is), close)) =
      let each = behind_each xs d q in
      let real_m : Real bytes (m ++ rest) = real_behind bytes s (m ++ rest) (subst (Real bytes) (ap (λ l. l ++ rest) e ∙ append_assoc s m rest) real) in
      let parts : m ≡ c ++ (d ++ u) = e' ∙ ap (λ l. l ++ u) e'' ∙ append_assoc c d u in
      let real_c : Real bytes (c ++ ((d ++ u) ++ rest)) = subst (Real bytes) (ap (λ l. l ++ rest) parts ∙ append_assoc c (d ++ u) rest) real_m in
      let inner : (d ++ u) ++ rest ≡ d ++ (u ++ rest) = append_assoc d u rest in
      let real_d : Real bytes (d ++ (u ++ rest)) = subst (Real bytes) inner (real_behind bytes c ((d ++ u) ++ rest) real_c) in
      let closes : AtClose (u ++ rest) = sign_at is_close u rest close in
      let follows : AfterElement ((d ++ u) ++ rest) = subst AfterElement (sym inner) (after_first xs d (u ++ rest) each closes) in
      subst (λ v. IsRead v (length a) (spec.elements_of bytes (a ++ rest))) (sym is)
      (then_read (spec.symbol bytes is_open) _ a s m rest tt (x ∷ xs) e (symbol_read bytes is_open s (m ++ rest) opens)
      (then_read (spec.element bytes []) _ m c (d ++ u) rest x (x ∷ xs) parts (element_read [] x c ((d ++ u) ++ rest) real_c p follows)
      (then_read (spec.more_elements bytes (x ∷ [])) _ (d ++ u) d u rest (x ∷ xs) (x ∷ xs) refl
      (many_read (at is_comma) (spec.next_element bytes) (kind_some is_comma refl) Next (Real bytes) (real_behind bytes) next_some (λ y b r p h. next_at y b r p)
      AfterElement (λ y b r p h. inl (next_at y b r p)) (λ ys y b r p h g. next_read ys y b r p h g) (x ∷ []) xs d (u ++ rest) each real_d (inr closes) (no_comma_at_close (u ++ rest) closes))
      (last_read (spec.symbol bytes is_close) (λ _. x ∷ xs) u rest tt (symbol_read bytes is_close u rest close)))))
