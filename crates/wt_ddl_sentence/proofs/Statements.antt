-- What the grammar derives is read: CREATE TABLE, and whole texts.
use Rattle.std.proofs.Common.{◌≡◌, ℕ, ◌+◌, ◌≤◌, Bool, true, false, inl, inr, List, [], ◌∷◌, ◌++◌, length, drop, refl, ap, sym, ◌∙◌, subst, arith, length-append, append_assoc, append-nil, add-zero, Option, Some, None, Ok, Err}
use Rattle.std.specs.Prelude.{if◌then◌else◌, ◌&&◌, nat_le, codes}
use Rattle.wt_reading.specs.declared.lexeme.Lexeme.{Lexeme}
use Rattle.wt_reading.specs.Lexemes.{Tokens, at, is_open, is_semi}
use Rattle.wt_reading.specs.Readings.{repeat, one_more}
use Rattle.wt_reading.specs.Sentences.{Seq, Maybe, Is, Each, Listed, Parens}
use Rattle.wt_ddl.specs.declared.syntax.Named.{Named}
use Rattle.wt_ddl.specs.declared.syntax.Element.{Element}
use Rattle.wt_ddl.specs.declared.table.TableRead.{TableRead}
use Rattle.wt_ddl.specs.Fronts.{at_word}
use Rattle.wt_ddl.specs.Grammar as grammar
use Rattle.wt_ddl.specs.Grammar.{Part, present, tables_of}
use Rattle.wt_ddl.specs.Reading as spec
use Rattle.wt_ddl.specs.Reading.{Read}
use Rattle.wt_ddl.specs.Refusals.{Checked, Fault, chain}
use Rattle.wt_ddl.specs.Settling.{settled}
use Rattle.wt_ddl.proofs.Repeats.{left_some}
use Rattle.wt_ddl_sentence.proofs.Readings.{IsRead, taken, skipped, both_ways, then_read, end_read, last_read, two_read, repeat_step, repeat_none, one_more_read, Refused, refused_first, refused_then, refused_two, refused_more, refused_repeat, refused_step}
use Rattle.wt_ddl_sentence.proofs.Words.{Real, real_behind, no_symbol_at, open_symbol, semi_symbol, no_some_word_at, no_word, sign_at}
use Rattle.wt_ddl_sentence.proofs.Settling.{OfNames, settled_names}
use Rattle.wt_ddl_sentence.proofs.Targets.{AtWord, one_size, front_of, word_read, symbol_read, name_read, open_at}
use Rattle.wt_ddl_sentence.proofs.Elements.{elements_read}

kept_read : {A : Type 0} (r : Checked A) (x : A) → r ≡ Ok x → IsRead x 0 (spec.kept r)
kept_read r x e = subst (λ r. IsRead x 0 (spec.kept r)) (sym e) (refl, refl)

and_no : (s t : Bool) → t ≡ false → (s && t) ≡ false
and_no true t h = h
and_no false t h = refl

module _ (bytes : List ℕ) where
  -- IF NOT EXISTS
  abbrev Unless : Tokens → Type 0
  Unless = Seq (grammar.Word bytes (codes "if")) (Seq (grammar.Word bytes (codes "not")) (grammar.Word bytes (codes "exists")))

  abbrev Table : List Element → Tokens → Type 0
  Table es = Parens (Listed (grammar.IsElement bytes)) es

  -- behind a table's name a parenthesis opens, so that a name `if` begins no IF NOT EXISTS
  name_then : (n : Named) (es : List Element) (a rest : Tokens) → Real bytes (a ++ rest) → Seq (grammar.Name bytes n) (Table es) a → at_word bytes (codes "not") (drop 1 (a ++ rest)) ≡ false
  name_then n es a rest real (b, c, e, (t, f, h), q) =
      let whole : a ++ rest ≡ t ∷ (c ++ rest) = ap (λ l. l ++ rest) (e ∙ ap (λ l. l ++ c) f) in
      let real_c : Real bytes (c ++ rest) = (subst (Real bytes) whole real).1 in
      ap (λ l. at_word bytes (codes "not") (drop 1 l)) whole
      ∙ no_word bytes (codes "not") (c ++ rest) (no_some_word_at bytes is_open open_symbol refl (c ++ rest) real_c (open_at bytes (Listed (grammar.IsElement bytes)) es c rest q))

  unless_read : (a rest : Tokens) → Maybe Unless a → at_word bytes (codes "not") (drop 1 rest) ≡ false → IsRead tt (length a) (spec.if_not_exists bytes (a ++ rest))
  unfolding spec.if_not_exists
  unless_read a rest (inl e) f =
      subst (λ l. IsRead tt (length l) (spec.if_not_exists bytes (l ++ rest))) (sym e)
      (skipped (at_word bytes (codes "if") rest && at_word bytes (codes "not") (drop 1 rest)) _ (Ok (tt, 0)) tt 0 (and_no (at_word bytes (codes "if") rest) (at_word bytes (codes "not") (drop 1 rest)) f) (refl, refl))
  unless_read a rest (inr p) f =
      let (t, b, e, h, q) = front_of (Seq (grammar.Word bytes (codes "not")) (grammar.Word bytes (codes "exists"))) a p in
      let (u, c, e', g, r) = front_of (grammar.Word bytes (codes "exists")) b q in
      let whole : a ≡ t ∷ u ∷ c = e ∙ ap (λ l. t ∷ l) e' in
      taken (at_word bytes (codes "if") (a ++ rest) && at_word bytes (codes "not") (drop 1 (a ++ rest))) _ _ tt (length a)
      (ap (λ l. at_word bytes (codes "if") (l ++ rest) && at_word bytes (codes "not") (drop 1 (l ++ rest))) whole ∙ (λ i. h i && g i))
      (two_read (spec.word bytes (codes "exists")) a c rest t u tt whole (word_read bytes (codes "exists") c rest r))

  body_read : (name : List ℕ) (es : List Element) (t : TableRead) (a rest : Tokens) → Real bytes (a ++ rest) → Table es a → settled name es ≡ Ok t → IsRead t (length a) (spec.body bytes name (a ++ rest))
  unfolding spec.body
  body_read name es t a rest real p e = end_read (spec.elements_of bytes) (λ es k. spec.kept (settled name es)) a rest es t (elements_read bytes es a rest real p) (kept_read (settled name es) t e)

  body_refused : (name : List ℕ) (es : List Element) (e : Fault) (a rest : Tokens) → Real bytes (a ++ rest) → Table es a → settled name es ≡ Err e → Refused (spec.body bytes name (a ++ rest))
  unfolding spec.body
  body_refused name es e a rest real p f =
      refused_then (spec.elements_of bytes) (λ es k. spec.kept (settled name es)) a a [] rest es (sym (append-nil a)) (elements_read bytes es a rest real p) (by (settled name es) f (settled_names name es))
    where
      by : (r : Checked TableRead) → r ≡ Err e → OfNames r → Refused (spec.kept r)
      by (Ok t) g h = absurd cc
      by (Err k) g h = h

  table_name_read : (tables : List TableRead) (n : Named) (a rest : Tokens) → grammar.Name bytes n a → IsRead n.name (length a) (spec.table_name bytes tables (a ++ rest))
  unfolding spec.table_name
  table_name_read tables n a rest p =
      end_read (spec.name bytes) _ a rest n n.name (name_read bytes n a rest p)
      (both_ways (spec.has_table tables n.name) _ _ n.name 0 refl (both_ways (nat_le 256 (length tables)) _ (Ok (n.name, 0)) n.name 0 refl (refl, refl)))

  -- what ends a statement: `;`, or nothing at the text's end
  abbrev Ends : Tokens → Tokens → Type 0
  Ends a rest = IsRead tt (length a) (spec.ending bytes (a ++ rest))

  semi_ends : (a rest : Tokens) → Is is_semi a → Ends a rest
  unfolding spec.ending
  semi_ends a rest (t, e, h) = subst (λ l. IsRead tt (length l) (spec.ending bytes (l ++ rest))) (sym e) (symbol_read bytes is_semi (t ∷ []) rest (t, refl, h))

  none_ends : Ends [] []
  unfolding spec.ending
  none_ends = (refl, refl)

  -- what stands behind CREATE TABLE
  abbrev Tail : Part → (Tokens → Type 0) → Tokens → Type 0
  Tail x End a = (b : Tokens) × (c : Tokens) × (d : Tokens) × (z : Tokens) × (a ≡ b ++ (c ++ (d ++ z))) × Maybe Unless b × grammar.Name bytes x.0 c × Table x.1 d × End z

  module _ (tables : List TableRead) (x : Part) (b c d z rest : Tokens) (unless : Maybe Unless b) (name : grammar.Name bytes x.0 c) (table : Table x.1 d) (real_c : Real bytes ((c ++ (d ++ z)) ++ rest)) where
    there : (c ++ (d ++ z)) ++ rest ≡ (c ++ d) ++ (z ++ rest)
    there = append_assoc c (d ++ z) rest ∙ ap (λ l. c ++ l) (append_assoc d z rest) ∙ sym (append_assoc c d (z ++ rest))

    begins : IsRead tt (length b) (spec.if_not_exists bytes (b ++ ((c ++ (d ++ z)) ++ rest)))
    begins =
        unless_read b ((c ++ (d ++ z)) ++ rest) unless
        (ap (λ l. at_word bytes (codes "not") (drop 1 l)) there ∙ name_then x.0 x.1 (c ++ d) (z ++ rest) (subst (Real bytes) there real_c) (c, d, refl, name, table))

    real_d : Real bytes (d ++ (z ++ rest))
    real_d = subst (Real bytes) (append_assoc d z rest) (real_behind bytes c ((d ++ z) ++ rest) (subst (Real bytes) (append_assoc c (d ++ z) rest) real_c))

    created : (t : TableRead) (a : Tokens) → a ≡ b ++ (c ++ (d ++ z)) → settled x.0.name x.1 ≡ Ok t → Ends z rest → IsRead t (length a) (spec.create bytes tables (a ++ rest))
    unfolding spec.create
    created t a e made ends =
        then_read (spec.if_not_exists bytes) _ a b (c ++ (d ++ z)) rest tt t e begins
        (then_read (spec.table_name bytes tables) _ (c ++ (d ++ z)) c (d ++ z) rest x.0.name t refl (table_name_read tables x.0 c ((d ++ z) ++ rest) name)
        (then_read (spec.body bytes x.0.name) _ (d ++ z) d z rest t t refl (body_read x.0.name x.1 t d (z ++ rest) real_d table made)
        (last_read (spec.ending bytes) (λ _. t) z rest tt ends)))

    create_refused : (e : Fault) (a : Tokens) → a ≡ b ++ (c ++ (d ++ z)) → settled x.0.name x.1 ≡ Err e → Refused (spec.create bytes tables (a ++ rest))
    unfolding spec.create
    create_refused e a f bad =
        refused_then (spec.if_not_exists bytes) _ a b (c ++ (d ++ z)) rest tt f begins
        (refused_then (spec.table_name bytes tables) _ (c ++ (d ++ z)) c (d ++ z) rest x.0.name refl (table_name_read tables x.0 c ((d ++ z) ++ rest) name)
        (refused_first ((d ++ z) ++ rest) (spec.body bytes x.0.name ((d ++ z) ++ rest)) _ (subst (λ l. Refused (spec.body bytes x.0.name l)) (sym (append_assoc d z rest)) (body_refused x.0.name x.1 e d (z ++ rest) real_d table bad))))

  -- ---- statements

  -- what a statement gives where the table is settled so
  abbrev Made : List TableRead → Checked TableRead → ℕ → Read (List TableRead) → Type 0
  Made tables (Ok t) n r = IsRead (tables ++ t ∷ []) n r
  Made tables (Err e) n r = Refused r

  -- a created table, and what ends the statement
  abbrev Whole : Part → (Tokens → Type 0) → Tokens → Type 0
  Whole x End a = (u : Lexeme) × (v : Lexeme) × (b : Tokens) × (a ≡ u ∷ v ∷ b) × (at_word bytes (codes "create") (u ∷ []) ≡ true) × (at_word bytes (codes "table") (v ∷ []) ≡ true) × Tail x End b

  as_whole : (x : Part) (End : Tokens → Type 0) (a b c : Tokens) → a ≡ b ++ c → grammar.Create bytes x b → End c → Whole x End a
  as_whole x End a b c e (i, j, f, (k, l, g, (u, g', h), (o, p, g'', (v, q, m), unless)), (name, table, r, is, inside)) z = (u, v, p ++ (name ++ (table ++ c)), there, h, m, (p, name, table, c, refl, unless, is, inside, z))
    where
      there : a ≡ u ∷ v ∷ (p ++ (name ++ (table ++ c)))
      there =
          e ∙ ap (λ x. x ++ c) (f ∙ (λ w. (g ∙ ap (λ x. x ++ l) g' ∙ ap (λ x. u ∷ x) (g'' ∙ ap (λ x. x ++ p) q)) w ++ r w)) ∙ append_assoc (u ∷ v ∷ p) (name ++ table) c ∙ ap (λ x. u ∷ v ∷ (p ++ x)) (append_assoc name table c)

  statement_read : (tables : List TableRead) (x : Part) (End : Tokens → Type 0) (a rest : Tokens) → Real bytes (a ++ rest) → Whole x End a → ((z : Tokens) → End z → Ends z rest)
      → (s : Checked TableRead) → settled x.0.name x.1 ≡ s → Made tables s (length a) (spec.statement bytes tables (a ++ rest))
  unfolding spec.statement
  statement_read tables x End a rest real (u, v, w, e, h, g, (b, c, d, z, f, unless, name, table, end)) ends s made = by s made
    where
      ts : Tokens
      ts = a ++ rest

      create : AtWord bytes (codes "create") ts
      create = ap (λ l. at_word bytes (codes "create") (l ++ rest)) e ∙ h

      both : (at_word bytes (codes "create") ts && at_word bytes (codes "table") (drop 1 ts)) ≡ true
      both = let word_table : at_word bytes (codes "table") (drop 1 ts) ≡ true = ap (λ l. at_word bytes (codes "table") (drop 1 (l ++ rest))) e ∙ g in λ i. create i && word_table i

      no_semi : at is_semi ts ≡ false
      no_semi = no_symbol_at bytes is_semi semi_symbol (codes "create") ts real create

      real_c : Real bytes ((c ++ (d ++ z)) ++ rest)
      real_c =
          let real_w : Real bytes (w ++ rest) = (subst (λ l. Real bytes (l ++ rest)) e real).1.1 in
          real_behind bytes b ((c ++ (d ++ z)) ++ rest) (subst (Real bytes) (ap (λ l. l ++ rest) f ∙ append_assoc b (c ++ (d ++ z)) rest) real_w)

      refused_if : (p q : Bool) (r s t : Read (List TableRead)) → p ≡ false → q ≡ true → Refused s → Refused (if p then r else (if q then s else t))
      refused_if p q r s t h g k = subst (λ p. Refused (if p then r else (if q then s else t))) (sym h) (subst (λ q. Refused (if q then s else t)) (sym g) k)

      by : (s : Checked TableRead) → settled x.0.name x.1 ≡ s → Made tables s (length a) (spec.statement bytes tables (a ++ rest))
      by (Ok t) m =
          let all = tables ++ t ∷ [] in
          skipped (at is_semi ts) _ _ all (length a) no_semi
          (taken (at_word bytes (codes "create") ts && at_word bytes (codes "table") (drop 1 ts)) _ _ all (length a) both
          (two_read (one_more (spec.create bytes) tables) a w rest u v all e (one_more_read (spec.create bytes) tables t w rest (created tables x b c d z rest unless name table real_c t w f m (ends z end)))))
      by (Err k) m =
          refused_if (at is_semi ts) (at_word bytes (codes "create") ts && at_word bytes (codes "table") (drop 1 ts)) _ _ _ no_semi both
          (refused_two (one_more (spec.create bytes) tables) a w rest u v e (refused_more (spec.create bytes) tables (w ++ rest) (create_refused tables x b c d z rest unless name table real_c k w f m)))

  -- an empty statement
  empty_read : (tables : List TableRead) (a rest : Tokens) → Is is_semi a → IsRead tables (length a) (spec.statement bytes tables (a ++ rest))
  unfolding spec.statement
  empty_read tables a rest p = taken (at is_semi (a ++ rest)) (Ok (tables, 1)) _ tables (length a) (sign_at is_semi a rest p) (refl, one_size a p)

  abbrev Piece : Option Part → Tokens → Type 0
  Piece o = Seq (grammar.Created bytes o) (Is is_semi)

  piece_some : (o : Option Part) (a : Tokens) → Piece o a → 1 ≤ length a
  piece_some o a (b, c, e, m, (t, f, h)) = omega (arith, ap length e, ap length f, length-append b c)

  some_front : (a rest : Tokens) → 1 ≤ length a → spec.some_left (a ++ rest) ≡ true
  some_front [] rest h = absurd (omega arith)
  some_front (t ∷ a) rest h = refl

  abbrev All : List TableRead → Tokens → Read (List TableRead)
  All tables ts = repeat spec.some_left (spec.statement bytes) 0 tables ts

  -- what all statements give behind some tables, where theirs are these
  abbrev pub Added : List TableRead → Checked (List TableRead) → ℕ → Read (List TableRead) → Type 0
  Added tables (Ok added) n r = IsRead (tables ++ added) n r
  Added tables (Err e) n r = Refused r

  none_read : (tables : List TableRead) → IsRead tables 0 (All tables [])
  none_read tables = repeat_none spec.some_left (spec.statement bytes) left_some tables [] refl

  -- one statement, and those behind it
  step_added : (tables next : List TableRead) (c : Checked (List TableRead)) (a rest : Tokens) (n : ℕ) → 1 ≤ length a → IsRead next (length a) (spec.statement bytes tables (a ++ rest)) → Added next c n (All next rest)
      → Added next c (length a + n) (All tables (a ++ rest))
  step_added tables next (Ok added) a rest n some one others = repeat_step spec.some_left (spec.statement bytes) left_some tables next (next ++ added) a rest n some (some_front a rest some) one others
  step_added tables next (Err e) a rest n some one others = refused_step spec.some_left (spec.statement bytes) left_some tables next a rest some (some_front a rest some) one others

  -- the tables of a part and of others
  consed : (tables : List TableRead) (t : TableRead) (c : Checked (List TableRead)) (n : ℕ) (r : Read (List TableRead)) → Added (tables ++ t ∷ []) c n r → Added tables (chain c (λ ts. Ok (t ∷ ts))) n r
  consed tables t (Ok added) n r h = subst (λ l. IsRead l n r) (append_assoc tables (t ∷ []) added) h
  consed tables t (Err e) n r h = h

  made_then : (tables : List TableRead) (s : Checked TableRead) (c : Checked (List TableRead)) (a rest : Tokens) (n : ℕ) → 1 ≤ length a → Made tables s (length a) (spec.statement bytes tables (a ++ rest))
      → ((t : TableRead) → Added (tables ++ t ∷ []) c n (All (tables ++ t ∷ []) rest)) → Added tables (chain s (λ t. chain c (λ ts. Ok (t ∷ ts)))) (length a + n) (All tables (a ++ rest))
  made_then tables (Ok t) c a rest n some one others = consed tables t c (length a + n) (All tables (a ++ rest)) (step_added tables (tables ++ t ∷ []) c a rest n some one (others t))
  made_then tables (Err e) c a rest n some one others = refused_repeat spec.some_left (spec.statement bytes) left_some tables (a ++ rest) (some_front a rest some) one

  -- the last statement, which may have no `;`
  last_statement : (tables : List TableRead) (o : Option Part) (a : Tokens) → Real bytes a → grammar.Created bytes o a → Added tables (tables_of (present (o ∷ []))) (length a) (All tables a)
  last_statement tables None a real e =
      subst (λ l. IsRead l (length a) (All tables a)) (sym (append-nil tables)) (subst (λ l. IsRead tables (length l) (All tables l)) (sym e) (none_read tables))
  last_statement tables (Some x) a real made =
      let whole = as_whole x (λ z. z ≡ []) a a [] (sym (append-nil a)) made refl in
      let read = statement_read tables x (λ z. z ≡ []) a [] (subst (Real bytes) (sym (append-nil a)) real) whole (λ z s. subst (λ l. Ends l []) (sym s) none_ends) (settled x.0.name x.1) refl in
      let all = made_then tables (settled x.0.name x.1) (Ok []) a [] 0 (size whole) read (λ t. subst (λ l. IsRead l 0 (All (tables ++ t ∷ []) [])) (sym (append-nil (tables ++ t ∷ []))) (none_read (tables ++ t ∷ []))) in
      subst (λ l. Added tables (tables_of (x ∷ [])) (length a) (All tables l)) (append-nil a) (subst (λ n. Added tables (tables_of (x ∷ [])) n (All tables (a ++ []))) (add-zero (length a)) all)
    where
      size : Whole x (λ z. z ≡ []) a → 1 ≤ length a
      size (u, v, b, e, h, g, tail) = omega (arith, ap length e)

  pieces_read : (os : List (Option Part)) (o : Option Part) (tables : List TableRead) (a b : Tokens) → Real bytes (a ++ b) → Each Piece os a → grammar.Created bytes o b
      → Added tables (tables_of (present (os ++ o ∷ []))) (length a + length b) (All tables (a ++ b))
  pieces_read [] o tables a b real e last =
      let size : length b ≡ length a + length b = omega (arith, ap length e) in
      subst (λ l. Added tables (tables_of (present (o ∷ []))) (length a + length b) (All tables (l ++ b))) (sym e)
      (subst (λ n. Added tables (tables_of (present (o ∷ []))) n (All tables b)) size (last_statement tables o b (real_behind bytes a b real) last))
  pieces_read (None ∷ os) o tables a b real (c, d, e, q, others) last =
      let whole : a ++ b ≡ c ++ (d ++ b) = ap (λ l. l ++ b) e ∙ append_assoc c d b in
      let real_c : Real bytes (c ++ (d ++ b)) = subst (Real bytes) whole real in
      let parts = tables_of (present (os ++ o ∷ [])) in
      let size : length c + (length d + length b) ≡ length a + length b = omega (arith, ap length e, length-append c d) in
      subst (λ l. Added tables parts (length a + length b) (All tables l)) (sym whole)
      (subst (λ n. Added tables parts n (All tables (c ++ (d ++ b)))) size
      (step_added tables tables parts c (d ++ b) (length d + length b) (piece_some None c q) (empty c (d ++ b) q) (pieces_read os o tables d b (real_behind bytes c (d ++ b) real_c) others last)))
    where
      empty : (c r : Tokens) → Piece None c → IsRead tables (length c) (spec.statement bytes tables (c ++ r))
      empty c r (i, j, e, none, semi) = empty_read tables c r (subst (Is is_semi) (sym (e ∙ ap (λ l. l ++ j) none)) semi)
  pieces_read (Some x ∷ os) o tables a b real (c, d, e, (i, j, f, made, semi), others) last =
      let whole : a ++ b ≡ c ++ (d ++ b) = ap (λ l. l ++ b) e ∙ append_assoc c d b in
      let real_c : Real bytes (c ++ (d ++ b)) = subst (Real bytes) whole real in
      let parts = tables_of (x ∷ present (os ++ o ∷ [])) in
      let size : length c + (length d + length b) ≡ length a + length b = omega (arith, ap length e, length-append c d) in
      subst (λ l. Added tables parts (length a + length b) (All tables l)) (sym whole)
      (subst (λ n. Added tables parts n (All tables (c ++ (d ++ b)))) size
      (made_then tables (settled x.0.name x.1) (tables_of (present (os ++ o ∷ []))) c (d ++ b) (length d + length b) (piece_some (Some x) c (i, j, f, made, semi))
      (statement_read tables x (Is is_semi) c (d ++ b) real_c (as_whole x (Is is_semi) c i j f made semi) (λ z s. semi_ends z (d ++ b) s) (settled x.0.name x.1) refl)
      (λ t. pieces_read os o (tables ++ t ∷ []) d b (real_behind bytes c (d ++ b) real_c) others last)))

  pub sentence_read : (parts : List Part) (ts : Tokens) → Real bytes ts → grammar.Sentence bytes parts ts → Added [] (tables_of parts) (length ts) (spec.statements bytes ts)
  sentence_read parts ts real (os, o, (a, b, e, all, last), is) =
      let size : length a + length b ≡ length ts = sym (length-append a b) ∙ sym (ap length e) in
      subst (λ v. Added [] (tables_of v) (length ts) (spec.statements bytes ts)) (sym is)
      (subst (λ l. Added [] (tables_of (present (os ++ o ∷ []))) (length ts) (spec.statements bytes l)) (sym e)
      (subst (λ n. Added [] (tables_of (present (os ++ o ∷ []))) n (spec.statements bytes (a ++ b))) size (pieces_read os o [] a b (subst (Real bytes) e real) all last)))
