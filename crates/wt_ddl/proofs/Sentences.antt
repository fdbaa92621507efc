-- What is read of a whole text is a sentence of the grammar, of the tables that were read.
use Rattle.std.proofs.Common.{◌≡◌, ℕ, zero, suc, ◌+◌, ◌≤◌, true, false, ◌⊎◌, inl, inr, List, [], ◌∷◌, ◌++◌, length, drop, refl, ap, sym, ◌∙◌, subst, arith, length-append, length-drop, append_assoc, append-nil, Option, Some, None, Ok, Err}
use Rattle.std.specs.Prelude.{◌&&◌, codes, nat_le}
use Rattle.std.proofs.lemmas.List.{drop-drop}
use Rattle.wt_reading.specs.Lexemes.{Tokens, at, is_semi}
use Rattle.wt_reading.specs.Readings.{repeat, one_more}
use Rattle.wt_reading.specs.Sentences.{Seq, Maybe, Is, Listed, Parens}
use Rattle.wt_reading.proofs.Inversions.{ok_parts, plus_ok, followed_ok, last_ok}
use Rattle.wt_reading.proofs.Took.{Took, took_then, took_as, took_is, behind_front}
use Rattle.wt_ddl.specs.declared.fault.DdlFault.TheVariants as fault
use Rattle.wt_ddl.specs.declared.syntax.Named.{Named}
use Rattle.wt_ddl.specs.declared.syntax.Element.{Element}
use Rattle.wt_ddl.specs.declared.table.TableRead.{TableRead}
use Rattle.wt_ddl.specs.Fronts.{at_end, at_word}
use Rattle.wt_ddl.specs.Grammar as grammar
use Rattle.wt_ddl.specs.Grammar.{Part, present, tables_of}
use Rattle.wt_ddl.specs.Reading as spec
use Rattle.wt_ddl.specs.Reading.{Read}
use Rattle.wt_ddl.specs.Refusals.{refused, Checked, chain}
use Rattle.wt_ddl.specs.Settling.{settled}
use Rattle.wt_ddl.proofs.Repeated.{repeat_ok, one_more_ok}
use Rattle.wt_ddl.proofs.Repeats.{left_some}
use Rattle.wt_ddl.proofs.Sound.{pick, both, no_value, as_none, took_word, word_sound, symbol_sound, name_sound, elements_sound}

kept_ok : {A : Type 0} (r : Checked A) (x : A) (n : ℕ) → spec.kept r ≡ Ok (x, n) → (r ≡ Ok x) × (n ≡ 0)
kept_ok (Ok y) x n h = let (e, f) = ok_parts y x 0 n h in (ap Ok e, sym f)
kept_ok (Err e) x n h = absurd cc

two_words : (bytes w v : List ℕ) (ts : Tokens) → at_word bytes w ts ≡ true → at_word bytes v (drop 1 ts) ≡ true → Took (Seq (grammar.Word bytes w) (grammar.Word bytes v)) ts 2
two_words bytes w v ts h g = took_then (grammar.Word bytes w) (grammar.Word bytes v) ts 1 1 2 (took_word bytes w ts h) (took_word bytes v (drop 1 ts) g) refl

seq_assoc : (P Q R : Tokens → Type 0) (a : Tokens) → Seq (Seq P Q) R a → Seq P (Seq Q R) a
seq_assoc P Q R a (b, c, e, (d, f, g, p, q), r) = (d, f ++ c, e ∙ ap (λ l. l ++ c) g ∙ append_assoc d f c, p, (f, c, refl, q, r))

module _ (bytes : List ℕ) where
  -- [ IF NOT EXISTS ]
  abbrev Unless : Tokens → Type 0
  Unless = Maybe (Seq (grammar.Word bytes (codes "if")) (Seq (grammar.Word bytes (codes "not")) (grammar.Word bytes (codes "exists"))))

  unless_sound : (ts : Tokens) (u : Unit {0}) (n : ℕ) → spec.if_not_exists bytes ts ≡ Ok (u, n) → Took Unless ts n
  unfolding spec.if_not_exists
  unless_sound ts u n =
      pick (at_word bytes (codes "if") ts && at_word bytes (codes "not") (drop 1 ts)) _ (Ok (tt, 0)) (Ok (u, n))
      (λ h e.
      let (f, g) = both _ _ h in
      let (m, r, s) = plus_ok 2 (spec.word bytes (codes "exists") (drop 2 ts)) u n e in
      took_as _ Unless ts n n (λ a p. inr (seq_assoc (grammar.Word bytes (codes "if")) (grammar.Word bytes (codes "not")) (grammar.Word bytes (codes "exists")) a p)) refl
      (took_then (Seq (grammar.Word bytes (codes "if")) (grammar.Word bytes (codes "not"))) (grammar.Word bytes (codes "exists")) ts 2 m n (two_words bytes (codes "if") (codes "not") ts f g)
      (word_sound bytes (codes "exists") (drop 2 ts) u m r) s))
      (λ _ e. as_none (λ _. Unless) tt u ts n e (inl refl))

  body_sound : (name : List ℕ) (ts : Tokens) (t : TableRead) (n : ℕ) → spec.body bytes name ts ≡ Ok (t, n)
      → (es : List Element) × Took (Parens (Listed (grammar.IsElement bytes)) es) ts n × (settled name es ≡ Ok t)
  unfolding spec.body
  body_sound name ts t n h =
      let (es, m, k, f, g, s) = followed_ok ts (spec.elements_of bytes ts) _ t n h in
      let (e, none) = kept_ok (settled name es) t k g in
      (es, subst (Took (Parens (Listed (grammar.IsElement bytes)) es) ts) (omega (arith, s, none)) (elements_sound bytes ts es m f), e)

  table_name_sound : (tables : List TableRead) (ts : Tokens) (x : List ℕ) (n : ℕ) → spec.table_name bytes tables ts ≡ Ok (x, n) → (y : Named) × Took (grammar.Name bytes y) ts n × (y.name ≡ x)
  unfolding spec.table_name
  table_name_sound tables ts x n h =
      let (y, m, k, f, g, s) = followed_ok ts (spec.name bytes ts) _ x n h in
      pick (spec.has_table tables y.name) _ _ (Ok (x, k)) (λ _ z. no_value _ (x, k) z)
      (λ _. pick (nat_le 256 (length tables)) (spec.refuse bytes fault.TooManyTables y.at) (Ok (y.name, 0)) (Ok (x, k)) (λ _ z. no_value (refused fault.TooManyTables, y.at) (x, k) z)
      (λ _ z.
      let (is, none) = ok_parts y.name x 0 k z in
      (y, subst (Took (grammar.Name bytes y) ts) (omega (arith, s, none)) (name_sound bytes ts y m f), is)))
      g

  -- behind a table: `;`, or the end
  abbrev Behind : Tokens → ℕ → Type 0
  Behind ts n = Took (Is is_semi) ts n ⊎ ((ts ≡ []) × (n ≡ 0))

  no_tokens : (ts : Tokens) → at_end ts ≡ true → ts ≡ []
  no_tokens [] h = refl
  no_tokens (t ∷ ts) h = absurd cc

  ending_sound : (ts : Tokens) (u : Unit {0}) (n : ℕ) → spec.ending bytes ts ≡ Ok (u, n) → Behind ts n
  unfolding spec.ending
  ending_sound ts u n =
      pick (at_end ts) (Ok (tt, 0)) _ (Ok (u, n))
      (λ h e. inr (no_tokens ts h, sym (ok_parts tt u 0 n e).1))
      (λ _ e. inl (symbol_sound bytes is_semi refl ts u n e))

  abbrev Created : Part → Tokens → Type 0
  Created p = Seq (grammar.Name bytes p.0) (Parens (Listed (grammar.IsElement bytes)) p.1)

  -- what stands behind CREATE TABLE, and its end
  create_sound : (tables : List TableRead) (ts : Tokens) (t : TableRead) (n : ℕ) → spec.create bytes tables ts ≡ Ok (t, n)
      → (x : Part) × (m : ℕ) × (k : ℕ) × (settled x.0.name x.1 ≡ Ok t) × Took (Seq Unless (Created x)) ts m × Behind (drop m ts) k × (n ≡ m + k)
  unfolding spec.create
  create_sound tables ts t n h =
      let (u, m, k, f, g, s) = followed_ok ts (spec.if_not_exists bytes ts) _ t n h in
      let a = drop m ts in
      let (x, i, j, f', g', s') = followed_ok a (spec.table_name bytes tables a) _ t k g in
      let b = drop i a in
      let (v, o, p, f'', g'', s'') = followed_ok b (spec.body bytes x b) _ t j g' in
      let (w, r, is) = last_ok (drop o b) (spec.ending bytes (drop o b)) (λ _. v) t p g'' in
      let (y, named, same) = table_name_sound tables a x i f' in
      let (es, inside, e) = body_sound x b v o f'' in
      let table : settled y.name es ≡ Ok t = ap (λ l. settled l es) same ∙ e ∙ ap Ok (sym is) in
      let made : Took (Created (y, es)) a (i + o) = took_then (grammar.Name bytes y) (Parens (Listed (grammar.IsElement bytes)) es) a i o (i + o) named inside refl in
      let there : drop o (drop i (drop m ts)) ≡ drop (m + (i + o)) ts = drop-drop o i a ∙ drop-drop (i + o) m ts in
      ((y, es), m + (i + o), p, table, took_then Unless (Created (y, es)) ts m (i + o) (m + (i + o)) (unless_sound ts u m f) made refl, subst (λ l. Behind l p) there (ending_sound (drop o b) w p r), omega (arith, s, s', s''))

  -- ---- one statement

  -- what is added by a statement, and whether `;` ends it
  abbrev Stated : List TableRead → List TableRead → Tokens → ℕ → Type 0
  Stated tables all ts n =
      ((all ≡ tables) × Took (Is is_semi) ts n)
      ⊎ ((x : Part) × (t : TableRead) × (settled x.0.name x.1 ≡ Ok t) × (all ≡ tables ++ t ∷ []) × Took (Seq (grammar.Create bytes x) (Is is_semi)) ts n)
      ⊎ ((x : Part) × (t : TableRead) × (settled x.0.name x.1 ≡ Ok t) × (all ≡ tables ++ t ∷ []) × Took (grammar.Create bytes x) ts n × (drop n ts ≡ []))

  as_create : (x : Part) (a : Tokens) → Seq (Seq (grammar.Word bytes (codes "create")) (grammar.Word bytes (codes "table"))) (Seq Unless (Created x)) a → grammar.Create bytes x a
  as_create x a (b, c, e, (d, f, g, p, q), (i, j, r, u, z)) =
      ((d ++ (f ++ i)), j, e ∙ (λ k. g k ++ r k) ∙ append_assoc d f (i ++ j) ∙ ap (λ l. d ++ l) (sym (append_assoc f i j)) ∙ sym (append_assoc d (f ++ i) j), (d, f ++ i, refl, p, (f, i, refl, q, u)), z)

  statement_sound : (tables all : List TableRead) (ts : Tokens) (n : ℕ) → spec.statement bytes tables ts ≡ Ok (all, n) → (1 ≤ n) × Stated tables all ts n
  unfolding spec.statement
  statement_sound tables all ts n =
      pick (at is_semi ts) (Ok (tables, 1)) _ (Ok (all, n))
      (λ h e. let (f, g) = ok_parts tables all 1 n e in (omega (arith, g), inl (sym f, subst (Took (Is is_semi) ts) g (took_is is_semi ts refl h))))
      (λ _. pick (at_word bytes (codes "create") ts && at_word bytes (codes "table") (drop 1 ts)) _ _ (Ok (all, n))
      (λ h e.
      let (p, q) = both _ _ h in
      let (m, f, s) = plus_ok 2 (one_more (spec.create bytes) tables (drop 2 ts)) all n e in
      let (t, g, is) = one_more_ok (spec.create bytes) tables all (drop 2 ts) m f in
      let (x, i, j, table, took, behind, s') = create_sound tables (drop 2 ts) t m g in
      let made : Took (grammar.Create bytes x) ts (2 + i) =
      took_as _ (grammar.Create bytes x) ts (2 + i) (2 + i) (as_create x) refl
      (took_then (Seq (grammar.Word bytes (codes "create")) (grammar.Word bytes (codes "table"))) (Seq Unless (Created x)) ts 2 i (2 + i) (two_words bytes (codes "create") (codes "table") ts p q) took refl) in
      (omega (arith, s), ends x t i j table is made behind (omega (arith, s, s'))))
      (λ _ e. no_value _ (all, n) e))
    where
      ends : (x : Part) (t : TableRead) (i j : ℕ) → settled x.0.name x.1 ≡ Ok t → all ≡ tables ++ t ∷ [] → Took (grammar.Create bytes x) ts (2 + i) → Behind (drop i (drop 2 ts)) j → n ≡ 2 + i + j → Stated tables all ts n
      ends x t i j table is made (inl semi) s = inr (inl (x, t, table, is, took_then (grammar.Create bytes x) (Is is_semi) ts (2 + i) j n made (subst (λ l. Took (Is is_semi) l j) (drop-drop i 2 ts) semi) s))
      ends x t i j table is made (inr (none, zero_more)) s =
          let size : 2 + i ≡ n = omega (arith, s, zero_more) in
          inr (inr (x, t, table, is, subst (Took (grammar.Create bytes x) ts) size made, ap (λ k. drop k ts) (sym size) ∙ sym (drop-drop i 2 ts) ∙ none))

  -- ---- all statements

  abbrev Piece : Option Part → Tokens → Type 0
  Piece o = Seq (grammar.Created bytes o) (Is is_semi)

  more_sentence : (o : Option Part) (parts : List Part) (ts : Tokens) (n : ℕ) → Took (Piece o) ts n → grammar.Sentence bytes parts (drop n ts) → grammar.Sentence bytes (present (o ∷ []) ++ parts) ts
  more_sentence o parts ts n (a, b, e, l, p) (os, last, (c, d, f, q, r), is) =
      let rest : b ≡ c ++ d = sym (behind_front ts a b n e l) ∙ f in
      (o ∷ os, last, (a ++ c, d, e ∙ ap (λ z. a ++ z) rest ∙ sym (append_assoc a c d), (a, c, refl, p, q), r), ap (λ l. present (o ∷ []) ++ l) is ∙ sym (joined o))
    where
      joined : (o : Option Part) → present (o ∷ (os ++ last ∷ [])) ≡ present (o ∷ []) ++ present (os ++ last ∷ [])
      joined None = refl
      joined (Some t) = refl

  last_sentence : (x : Part) (ts : Tokens) (n : ℕ) → Took (grammar.Create bytes x) ts n → drop n ts ≡ [] → grammar.Sentence bytes (x ∷ []) ts
  last_sentence x ts n (a, b, e, l, p) none =
      let rest : b ≡ [] = sym (behind_front ts a b n e l) ∙ none in
      ([], Some x, ([], ts, refl, refl, subst (grammar.Create bytes x) (sym (e ∙ ap (λ z. a ++ z) rest ∙ append-nil a)) p), refl)

  no_sentence : (ts : Tokens) → ts ≡ [] → grammar.Sentence bytes [] ts
  no_sentence ts e = ([], None, ([], ts, refl, refl, e), refl)

  -- no tokens create no table
  no_tables : (parts : List Part) → grammar.Sentence bytes parts [] → parts ≡ []
  no_tables parts ([], None, s, is) = is
  no_tables parts ([], Some x, (a, b, e, p, (c, d, f, (g, i, j, (w, k, h), rest), z)), is) = absurd (omega (arith, ap length e, ap length p, ap length f, ap length j, ap length k, length-append a b, length-append c d, length-append g i))
  no_tables parts (o ∷ os, last, (a, b, e, (c, d, f, (x, y, j, p, (w, k, h)), q), r), is) = absurd (omega (arith, ap length e, ap length f, ap length j, ap length k, length-append a b, length-append c d, length-append x y))

  grows : (a b : List TableRead) (ts : Tokens) (m : ℕ) → spec.some_left ts ≡ true → spec.statement bytes a ts ≡ Ok (b, m) → 1 ≤ m
  grows a b ts m h e = (statement_sound a b ts m e).0

  none_left : (ts : Tokens) → spec.some_left ts ≡ false → ts ≡ []
  none_left [] h = refl
  none_left (t ∷ ts) h = absurd cc

  -- what is added to the tables, and the parts that it is of
  abbrev Rest : List TableRead → List TableRead → Tokens → Type 0
  Rest tables all ts = (parts : List Part) × (added : List TableRead) × (all ≡ tables ++ added) × (tables_of parts ≡ Ok added) × grammar.Sentence bytes parts ts

  abbrev Cases : List TableRead → List TableRead → Tokens → ℕ → Type 0
  Cases tables all ts n =
      ((spec.some_left ts ≡ false) × (tables ≡ all) × (n ≡ 0))
      ⊎ ((c : List TableRead) × (m : ℕ) × (k : ℕ) × (spec.some_left ts ≡ true) × (spec.statement bytes tables ts ≡ Ok (c, m)) × (1 ≤ m)
      × (repeat spec.some_left (spec.statement bytes) 0 c (drop m ts) ≡ Ok (all, k)) × (n ≡ m + k))

  cases : (tables all : List TableRead) (ts : Tokens) (n : ℕ) → repeat spec.some_left (spec.statement bytes) 0 tables ts ≡ Ok (all, n) → Cases tables all ts n
  cases tables all ts n h = repeat_ok spec.some_left (spec.statement bytes) left_some grows tables all ts n h

  stops : (tables all : List TableRead) (ts : Tokens) → spec.some_left ts ≡ false → tables ≡ all → Rest tables all ts
  stops tables all ts e f = ([], [], sym f ∙ sym (append-nil tables), refl, no_sentence ts (none_left ts e))

  one_table : (x : Part) (t : TableRead) (parts : List Part) (added : List TableRead) → settled x.0.name x.1 ≡ Ok t → tables_of parts ≡ Ok added → tables_of (x ∷ parts) ≡ Ok (t ∷ added)
  one_table x t parts added e f = ap (λ r. chain r (λ t. chain (tables_of parts) (λ ts. Ok (t ∷ ts)))) e ∙ ap (λ r. chain r (λ ts. Ok (t ∷ ts))) f

  goes : (tables c all : List TableRead) (ts : Tokens) (m : ℕ) → Stated tables c ts m → Rest c all (drop m ts) → Rest tables all ts
  goes tables c all ts m (inl (same, semi)) (parts, added, e, f, s) =
      (parts, added, e ∙ ap (λ l. l ++ added) same, f, more_sentence None parts ts m (took_as (Is is_semi) (Piece None) ts m m (λ a p. ([], a, refl, refl, p)) refl semi) s)
  goes tables c all ts m (inr (inl (x, t, table, same, made))) (parts, added, e, f, s) =
      (x ∷ parts, t ∷ added, e ∙ ap (λ l. l ++ added) same ∙ append_assoc tables (t ∷ []) added, one_table x t parts added table f, more_sentence (Some x) parts ts m made s)
  goes tables c all ts m (inr (inr (x, t, table, same, made, none))) (parts, added, e, f, s) =
      (x ∷ parts, t ∷ added, e ∙ ap (λ l. l ++ added) same ∙ append_assoc tables (t ∷ []) added, one_table x t parts added table f, last parts (no_tables parts (subst (grammar.Sentence bytes parts) none s)))
    where
      last : (parts : List Part) → parts ≡ [] → grammar.Sentence bytes (x ∷ parts) ts
      last parts g = subst (λ l. grammar.Sentence bytes (x ∷ l) ts) (sym g) (last_sentence x ts m made none)

  all_sentences : (bound : ℕ) (tables all : List TableRead) (ts : Tokens) (n : ℕ) → length ts ≤ bound → Cases tables all ts n → Rest tables all ts
  all_sentences bound tables all ts n l (inl (e, f, g)) = stops tables all ts e f
  all_sentences zero tables all ts n l (inr (c, m, k, h, f, one, r, s)) = let there = left_some ts h in absurd (omega arith)
  all_sentences (suc bound) tables all ts n l (inr (c, m, k, h, f, one, r, s)) =
      goes tables c all ts m (statement_sound tables c ts m f).1 (all_sentences bound c all (drop m ts) k (omega (arith, l, one, length-drop m ts)) (cases c all (drop m ts) k r))

  -- what is read is a sentence, of what was read
  pub sentence_law : (ts : Tokens) (tables : List TableRead) (n : ℕ) → spec.statements bytes ts ≡ Ok (tables, n) → (parts : List Part) × grammar.Sentence bytes parts ts × (tables_of parts ≡ Ok tables)
  sentence_law ts tables n e =
      let (parts, added, is, f, s) = all_sentences (length ts) [] tables ts n (omega arith) (cases [] tables ts n e) in (parts, s, f ∙ ap Ok (sym is))
