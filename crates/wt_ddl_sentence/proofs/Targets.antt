-- What the grammar derives is read: names, types and targets of references.
use Rattle.std.proofs.Common.{◌≡◌, ◌≢◌, ℕ, ◌+◌, ◌≤◌, Bool, true, false, inl, inr, List, [], ◌∷◌, ◌++◌, length, refl, ap, sym, ◌∙◌, subst, arith, length-append, append_assoc, Option, Some, None, Ok}
use Rattle.std.specs.Prelude.{if◌then◌else◌, ◌==◌, ◌||◌, codes}
use Rattle.std.proofs.lemmas.Bool.Decides.{nat_tests}
use Rattle.wt_reading.specs.declared.lexeme.Kind.{Kind}
use Rattle.wt_reading.specs.declared.lexeme.Kind.TheVariants.{Number}
use Rattle.wt_reading.specs.Lexemes.{Tokens, at, is_open, is_close}
use Rattle.wt_reading.specs.Readings.{plus, followed, expect, within, list}
use Rattle.wt_reading.specs.Sentences.{Seq, Either, One, Is, Each, Listed, Parens}
use Rattle.wt_reading.proofs.Complete.{list_reads}
use Rattle.wt_schema.specs.declared.schema.ColKind.{ColKind}
use Rattle.wt_schema.specs.declared.schema.ColKind.TheVariants as col
use Rattle.wt_reading.specs.declared.lexeme.Lexeme.{Lexeme}
use Rattle.wt_ddl.specs.declared.syntax.Named.{Named}
use Rattle.wt_ddl.specs.declared.syntax.Target.{Target}
use Rattle.wt_ddl.specs.Fronts.{at_word}
use Rattle.wt_ddl.specs.Grammar as grammar
use Rattle.wt_ddl.specs.Reading as spec
use Rattle.wt_ddl.specs.Reading.{Read}
use Rattle.wt_ddl.proofs.Repeats.{option_some}
use Rattle.wt_ddl_sentence.proofs.Readings.{IsRead, taken, skipped, then_read, last_read, first_read, repeat_step, repeat_none}
use Rattle.wt_ddl_sentence.proofs.Words.{Differ, Real, real_behind, other_word, no_symbol_at, open_symbol, word_at, sign_at, no_comma_at_close}

-- a parenthesis closes behind the part, or none opens
abbrev pub AtClose : Tokens → Type 0
AtClose ts = at is_close ts ≡ true

abbrev pub NotOpen : Tokens → Type 0
NotOpen ts = at is_open ts ≡ false

abbrev no_value : Unit {0}
no_value = tt

pub exact_read : {A : Type 0} (r : Read A) (x : A) (n : ℕ) → r ≡ Ok (x, n) → IsRead x n r
exact_read r x n e = subst (IsRead x n) (sym e) (refl, refl)

pub one_size : {P : Lexeme → Type 0} (a : Tokens) → One P a → 1 ≡ length a
one_size a (t, e, h) = omega (arith, ap length e)

-- a token in front of a part
pub front_of : {P : Lexeme → Type 0} (Q : Tokens → Type 0) (a : Tokens) → Seq (One P) Q a → (t : Lexeme) × (b : Tokens) × (a ≡ t ∷ b) × P t × Q b
front_of Q a (c, b, e, (t, f, h), q) = (t, b, e ∙ ap (λ l. l ++ b) f, h, q)

module _ (bytes : List ℕ) where
  abbrev pub AtWord : List ℕ → Tokens → Type 0
  AtWord w ts = at_word bytes w ts ≡ true

  pub seq_at : (w : List ℕ) (Q : Tokens → Type 0) (a rest : Tokens) → Seq (grammar.Word bytes w) Q a → AtWord w (a ++ rest)
  seq_at w Q a rest (b, c, e, p, q) = subst (λ l. AtWord w l) (sym (ap (λ l. l ++ rest) e ∙ append_assoc b c rest)) (word_at bytes w b (c ++ rest) p)

  pub word_read : (w : List ℕ) (a rest : Tokens) → grammar.Word bytes w a → IsRead tt (length a) (spec.word bytes w (a ++ rest))
  unfolding expect
  word_read w a rest p = taken (at_word bytes w (a ++ rest)) (Ok (tt, 1)) _ tt (length a) (word_at bytes w a rest p) (refl, one_size a p)

  pub symbol_read : (test : Kind → Bool) (a rest : Tokens) → Is test a → IsRead tt (length a) (spec.symbol bytes test (a ++ rest))
  unfolding expect
  symbol_read test a rest p = taken (at test (a ++ rest)) (Ok (tt, 1)) _ tt (length a) (sign_at test a rest p) (refl, one_size a p)

  name_is : (n : Named) (a rest : Tokens) → grammar.Name bytes n a → spec.name bytes (a ++ rest) ≡ Ok (n, length a)
  unfolding spec.name
  name_is n a rest (t, e, (h, is)) = subst (λ l. spec.name bytes (l ++ rest) ≡ Ok (n, length l)) (sym e) (rw h (ap (λ m. Ok (m, 1)) (sym is)))

  pub name_read : (n : Named) (a rest : Tokens) → grammar.Name bytes n a → IsRead n (length a) (spec.name bytes (a ++ rest))
  name_read n a rest p = exact_read (spec.name bytes (a ++ rest)) n (length a) (name_is n a rest p)

  -- a part in parentheses
  pub within_read : {A : Type 0} (Part : A → Tokens → Type 0) (part : Tokens → Read A) (x : A) (a rest : Tokens) → Parens Part x a
      → ((b r : Tokens) → Part x b → AtClose r → IsRead x (length b) (part (b ++ r))) → IsRead x (length a) (within part (λ _. spec.syntax bytes) (a ++ rest))
  within_read Part part x a rest p each =
      let (t, b, e, h, q) = front_of (Seq (Part x) (Is is_close)) a p in
      first_read (λ l. followed l (part l) (λ x rest. followed rest (expect (at is_close) (spec.syntax bytes) rest) (λ _ r. Ok (x, 0)))) a b rest t x e (inside b q)
    where
      inside : (b : Tokens) → Seq (Part x) (Is is_close) b → IsRead x (length b) (followed (b ++ rest) (part (b ++ rest)) (λ x rest. followed rest (expect (at is_close) (spec.syntax bytes) rest) (λ _ r. Ok (x, 0))))
      inside b (c, d, e, q, s) =
          then_read part (λ x rest. followed rest (expect (at is_close) (spec.syntax bytes) rest) (λ _ r. Ok (x, 0))) b c d rest x x e (each c (d ++ rest) q (sign_at is_close d rest s))
          (last_read (expect (at is_close) (spec.syntax bytes)) (λ _. x) d rest tt (symbol_read is_close d rest s))

  pub open_at : {A : Type 0} (Part : A → Tokens → Type 0) (x : A) (a rest : Tokens) → Parens Part x a → at is_open (a ++ rest) ≡ true
  open_at Part x a rest p = let (t, b, e, h, q) = front_of (Seq (Part x) (Is is_close)) a p in subst (λ l. at is_open (l ++ rest) ≡ true) (sym e) h

  pub names_read : (ns : List Named) (a rest : Tokens) → grammar.Names bytes ns a → IsRead ns (length a) (spec.names bytes (a ++ rest))
  unfolding spec.names
  names_read ns a rest p =
      taken (at is_open (a ++ rest)) _ _ ns (length a) (open_at (Listed (grammar.Name bytes)) ns a rest p)
      (within_read (Listed (grammar.Name bytes)) (list (spec.name bytes)) ns a rest p (λ b r q h.
      exact_read (list (spec.name bytes) (b ++ r)) ns (length b)
      (list_reads (grammar.Name bytes) (λ _. Unit {0}) (spec.name bytes) (λ c s n q f. name_is n c s q) (λ ts h. tt) b r ns q tt (no_comma_at_close r h))))

  -- ---- types

  abbrev ANumber : Tokens → Type 0
  ANumber = One (λ t. (n : ℕ) × (t.kind ≡ Number n) × (n ≢ 9223372036854775808))

  number_is : (k : Kind) (ts : Tokens) (n : ℕ) → k ≡ Number n → n ≢ 9223372036854775808 → IsRead tt 1 (spec.number_by bytes k ts)
  number_is k ts n e h =
      let other : (n == 9223372036854775808) ≡ false = grind (arith, nat_tests) in
      subst (λ k. IsRead tt 1 (spec.number_by bytes k ts)) (sym e) (skipped (n == 9223372036854775808) _ (Ok (tt, 1)) tt 1 other (refl, refl))

  number_read : (a rest : Tokens) → ANumber a → IsRead tt (length a) (spec.number bytes (a ++ rest))
  unfolding spec.number
  number_read a rest (t, e, (n, k, h)) = subst (λ l. IsRead tt (length l) (spec.number bytes (l ++ rest))) (sym e) (number_is t.kind (t ∷ rest) n k h)

  width_read : (a rest : Tokens) → grammar.Width bytes a → NotOpen rest → IsRead col.Text (length a) (spec.width bytes (a ++ rest))
  unfolding spec.width
  width_read a rest (inl e) f = subst (λ l. IsRead col.Text (length l) (spec.width bytes (l ++ rest))) (sym e) (skipped (at is_open rest) _ (Ok (col.Text, 0)) col.Text 0 f (refl, refl))
  width_read a rest (inr p) f =
      taken (at is_open (a ++ rest)) _ _ col.Text (length a) (open_at (λ _. ANumber) no_value a rest p)
      (last_read (within (spec.number bytes) (λ _. spec.syntax bytes)) (λ _. col.Text) a rest no_value (within_read (λ _. ANumber) (spec.number bytes) no_value a rest p (λ b r q h. number_read b r q)))

  whole_at : (a rest : Tokens) → grammar.Whole bytes a → spec.at_whole bytes (a ++ rest) ≡ true
  whole_at a rest (inl p) = let h = word_at bytes (codes "integer") a rest p in rw h refl
  whole_at a rest (inr (inl p)) =
      let h = word_at bytes (codes "int") a rest p in
      let g = other_word bytes (codes "int") (codes "integer") (a ++ rest) refl h in
      rw (g, h) refl
  whole_at a rest (inr (inr (inl p))) =
      let h = word_at bytes (codes "bigint") a rest p in
      let g = other_word bytes (codes "bigint") (codes "integer") (a ++ rest) refl h in
      let f = other_word bytes (codes "bigint") (codes "int") (a ++ rest) refl h in
      rw (g, f, h) refl
  whole_at a rest (inr (inr (inr p))) =
      let h = word_at bytes (codes "smallint") a rest p in
      let g = other_word bytes (codes "smallint") (codes "integer") (a ++ rest) refl h in
      let f = other_word bytes (codes "smallint") (codes "int") (a ++ rest) refl h in
      let e = other_word bytes (codes "smallint") (codes "bigint") (a ++ rest) refl h in
      rw (g, f, e, h) refl

  whole_size : (a : Tokens) → grammar.Whole bytes a → 1 ≡ length a
  whole_size a (inl p) = one_size a p
  whole_size a (inr (inl p)) = one_size a p
  whole_size a (inr (inr (inl p))) = one_size a p
  whole_size a (inr (inr (inr p))) = one_size a p

  no_whole : (w : List ℕ) (ts : Tokens) → Differ w (codes "integer") → Differ w (codes "int") → Differ w (codes "bigint") → Differ w (codes "smallint") → AtWord w ts → spec.at_whole bytes ts ≡ false
  no_whole w ts d e f g h =
      let a = other_word bytes w (codes "integer") ts d h in
      let b = other_word bytes w (codes "int") ts e h in
      let i = other_word bytes w (codes "bigint") ts f h in
      let j = other_word bytes w (codes "smallint") ts g h in
      rw (a, b, i, j) refl

  characters_read : (a rest : Tokens) → grammar.Characters bytes a → NotOpen rest → IsRead col.Text (length a) (spec.kind_of bytes (a ++ rest))
  unfolding spec.kind_of
  characters_read a rest (inl p) f =
      let ts = a ++ rest in
      let h = word_at bytes (codes "text") a rest p in
      skipped (spec.at_whole bytes ts) _ _ col.Text (length a) (no_whole (codes "text") ts refl refl refl refl h)
      (taken (at_word bytes (codes "text") ts) (Ok (col.Text, 1)) _ col.Text (length a) h (refl, one_size a p))
  characters_read a rest (inr (inl p)) f =
      let ts = a ++ rest in
      let w = codes "varchar" in
      let h = seq_at w (grammar.Width bytes) a rest p in
      let (t, b, e, is, q) = front_of (grammar.Width bytes) a p in
      skipped (spec.at_whole bytes ts) _ _ col.Text (length a) (no_whole w ts refl refl refl refl h)
      (skipped (at_word bytes (codes "text") ts) _ _ col.Text (length a) (other_word bytes w (codes "text") ts refl h)
      (taken (at_word bytes w ts) _ _ col.Text (length a) h
      (first_read (spec.width bytes) a b rest t col.Text e (width_read b rest q f))))
  characters_read a rest (inr (inr p)) f =
      let ts = a ++ rest in
      let w = codes "character" in
      let Varying = Seq (grammar.Word bytes (codes "varying")) (grammar.Width bytes) in
      let h = seq_at w Varying a rest p in
      let (t, b, e, is, (c, d, e', q, s)) = front_of Varying a p in
      skipped (spec.at_whole bytes ts) _ _ col.Text (length a) (no_whole w ts refl refl refl refl h)
      (skipped (at_word bytes (codes "text") ts) _ _ col.Text (length a) (other_word bytes w (codes "text") ts refl h)
      (skipped (at_word bytes (codes "varchar") ts) _ _ col.Text (length a) (other_word bytes w (codes "varchar") ts refl h)
      (taken (at_word bytes w ts) _ _ col.Text (length a) h
      (first_read (λ l. followed l (spec.word bytes (codes "varying") l) (λ _ a. spec.width bytes a)) a b rest t col.Text e
      (then_read (spec.word bytes (codes "varying")) (λ _ a. spec.width bytes a) b c d rest tt col.Text e' (word_read (codes "varying") c (d ++ rest) q) (width_read d rest s f))))))

  whole_read : (a rest : Tokens) → grammar.Whole bytes a → IsRead col.Int (length a) (spec.kind_of bytes (a ++ rest))
  unfolding spec.kind_of
  whole_read a rest p = taken (spec.at_whole bytes (a ++ rest)) (Ok (col.Int, 1)) _ col.Int (length a) (whole_at a rest p) (refl, whole_size a p)

  pub kind_read : (k : ColKind) (a rest : Tokens) → grammar.KindOf bytes k a → NotOpen rest → IsRead k (length a) (spec.kind_of bytes (a ++ rest))
  kind_read k a rest (inl (p, is)) f = subst (λ k. IsRead k (length a) (spec.kind_of bytes (a ++ rest))) (sym is) (whole_read a rest p)
  kind_read k a rest (inr (p, is)) f = subst (λ k. IsRead k (length a) (spec.kind_of bytes (a ++ rest))) (sym is) (characters_read a rest p f)

  -- ---- options

  null_read : (a rest : Tokens) → grammar.Word bytes (codes "null") a → IsRead tt (length a) (spec.null_action bytes (a ++ rest))
  unfolding spec.null_action
  null_read a rest p = taken (at_word bytes (codes "null") (a ++ rest)) (Ok (tt, 1)) _ tt (length a) (word_at bytes (codes "null") a rest p) (refl, one_size a p)

  action_read : (a rest : Tokens) → grammar.Action bytes a → IsRead tt (length a) (spec.action bytes (a ++ rest))
  unfolding spec.action
  action_read a rest (inl p) =
      let h = word_at bytes (codes "cascade") a rest p in
      taken (at_word bytes (codes "cascade") (a ++ rest) || at_word bytes (codes "restrict") (a ++ rest)) (Ok (tt, 1)) _ tt (length a) (rw h refl) (refl, one_size a p)
  action_read a rest (inr (inl p)) =
      let h = word_at bytes (codes "restrict") a rest p in
      let g = other_word bytes (codes "restrict") (codes "cascade") (a ++ rest) refl h in
      taken (at_word bytes (codes "cascade") (a ++ rest) || at_word bytes (codes "restrict") (a ++ rest)) (Ok (tt, 1)) _ tt (length a) (rw (g, h) refl) (refl, one_size a p)
  action_read a rest (inr (inr (inl p))) =
      let h = seq_at (codes "set") (grammar.Word bytes (codes "null")) a rest p in
      let g = other_word bytes (codes "set") (codes "cascade") (a ++ rest) refl h in
      let i = other_word bytes (codes "set") (codes "restrict") (a ++ rest) refl h in
      let (t, b, e, is, q) = front_of (grammar.Word bytes (codes "null")) a p in
      skipped (at_word bytes (codes "cascade") (a ++ rest) || at_word bytes (codes "restrict") (a ++ rest)) _ _ tt (length a) (rw (g, i) refl)
      (taken (at_word bytes (codes "set") (a ++ rest)) _ _ tt (length a) h (first_read (spec.null_action bytes) a b rest t tt e (null_read b rest q)))
  action_read a rest (inr (inr (inr p))) =
      let h = seq_at (codes "no") (grammar.Word bytes (codes "action")) a rest p in
      let g = other_word bytes (codes "no") (codes "cascade") (a ++ rest) refl h in
      let i = other_word bytes (codes "no") (codes "restrict") (a ++ rest) refl h in
      let (t, b, e, is, q) = front_of (grammar.Word bytes (codes "action")) a p in
      skipped (at_word bytes (codes "cascade") (a ++ rest) || at_word bytes (codes "restrict") (a ++ rest)) _ _ tt (length a) (rw (g, i) refl)
      (skipped (at_word bytes (codes "set") (a ++ rest)) _ _ tt (length a) (other_word bytes (codes "no") (codes "set") (a ++ rest) refl h)
      (taken (at_word bytes (codes "no") (a ++ rest)) _ _ tt (length a) h (first_read (spec.word bytes (codes "action")) a b rest t tt e (word_read (codes "action") b rest q))))

  abbrev Change : Tokens → Type 0
  Change = Either (grammar.Word bytes (codes "delete")) (grammar.Word bytes (codes "update"))

  change_at : (a rest : Tokens) → Change a → (at_word bytes (codes "delete") (a ++ rest) || at_word bytes (codes "update") (a ++ rest)) ≡ true
  change_at a rest (inl p) = let h = word_at bytes (codes "delete") a rest p in rw h refl
  change_at a rest (inr p) =
      let h = word_at bytes (codes "update") a rest p in
      let g = other_word bytes (codes "update") (codes "delete") (a ++ rest) refl h in
      rw (g, h) refl

  change_one : (a : Tokens) → Change a → (t : Lexeme) × (a ≡ t ∷ [])
  change_one a (inl (t, e, h)) = (t, e)
  change_one a (inr (t, e, h)) = (t, e)

  event_read : (a rest : Tokens) → Seq Change (grammar.Action bytes) a → IsRead tt (length a) (spec.event bytes (a ++ rest))
  unfolding spec.event
  event_read a rest (b, c, e, p, q) =
      let (t, f) = change_one b p in
      let whole : a ++ rest ≡ b ++ (c ++ rest) = ap (λ l. l ++ rest) e ∙ append_assoc b c rest in
      taken (at_word bytes (codes "delete") (a ++ rest) || at_word bytes (codes "update") (a ++ rest)) _ _ tt (length a)
      (ap (λ l. at_word bytes (codes "delete") l || at_word bytes (codes "update") l) whole ∙ change_at b (c ++ rest) p)
      (first_read (spec.action bytes) a c rest t tt (e ∙ ap (λ l. l ++ c) f) (action_read c rest q))

  simple_read : (a rest : Tokens) → grammar.Word bytes (codes "simple") a → IsRead tt (length a) (spec.simple bytes (a ++ rest))
  unfolding spec.simple
  simple_read a rest p = taken (at_word bytes (codes "simple") (a ++ rest)) (Ok (tt, 1)) _ tt (length a) (word_at bytes (codes "simple") a rest p) (refl, one_size a p)

  -- the choice of an option stands inside a sum
  plus_if : {A : Type 0} (b : Bool) (r s : Read A) (x : A) (n : ℕ) → (b ≡ true → IsRead x n (plus 1 r)) → (b ≡ false → IsRead x n (plus 1 s)) → IsRead x n (plus 1 (if b then r else s))
  plus_if true r s x n h g = h refl
  plus_if false r s x n h g = g refl

  option_read : (u : Unit {0}) (a rest : Tokens) → grammar.AnOption bytes u a → IsRead tt (length a) (spec.option bytes tt (a ++ rest))
  unfolding spec.option
  option_read u a rest (inl p) =
      let h = seq_at (codes "match") (grammar.Word bytes (codes "simple")) a rest p in
      let (t, b, e, is, q) = front_of (grammar.Word bytes (codes "simple")) a p in
      plus_if (at_word bytes (codes "match") (a ++ rest)) _ _ tt (length a) (λ _. first_read (spec.simple bytes) a b rest t tt e (simple_read b rest q)) (λ g. absurd (cc))
  option_read u a rest (inr p) =
      let Tail = Seq Change (grammar.Action bytes) in
      let h = seq_at (codes "on") Tail a rest p in
      let g = other_word bytes (codes "on") (codes "match") (a ++ rest) refl h in
      let (t, b, e, is, q) = front_of Tail a p in
      plus_if (at_word bytes (codes "match") (a ++ rest)) _ _ tt (length a) (λ k. absurd (cc)) (λ _. first_read (spec.event bytes) a b rest t tt e (event_read b rest q))

  pub option_at : (u : Unit {0}) (a rest : Tokens) → grammar.AnOption bytes u a → spec.at_option bytes (a ++ rest) ≡ true
  option_at u a rest (inl p) = let h = seq_at (codes "match") (grammar.Word bytes (codes "simple")) a rest p in rw h refl
  option_at u a rest (inr p) =
      let h = seq_at (codes "on") (Seq Change (grammar.Action bytes)) a rest p in
      let g = other_word bytes (codes "on") (codes "match") (a ++ rest) refl h in
      rw (g, h) refl

  option_not_open : (u : Unit {0}) (a rest : Tokens) → Real bytes (a ++ rest) → grammar.AnOption bytes u a → NotOpen (a ++ rest)
  option_not_open u a rest real (inl p) = no_symbol_at bytes is_open open_symbol (codes "match") (a ++ rest) real (seq_at (codes "match") (grammar.Word bytes (codes "simple")) a rest p)
  option_not_open u a rest real (inr p) = no_symbol_at bytes is_open open_symbol (codes "on") (a ++ rest) real (seq_at (codes "on") (Seq Change (grammar.Action bytes)) a rest p)

  option_some_token : (u : Unit {0}) (a : Tokens) → grammar.AnOption bytes u a → 1 ≤ length a
  option_some_token u a (inl p) = let (t, b, e, is, q) = front_of (grammar.Word bytes (codes "simple")) a p in omega (arith, ap length e)
  option_some_token u a (inr p) = let (t, b, e, is, q) = front_of (Seq Change (grammar.Action bytes)) a p in omega (arith, ap length e)

  options_read : (us : List (Unit {0})) (a rest : Tokens) → Each (grammar.AnOption bytes) us a → spec.at_option bytes rest ≡ false → IsRead tt (length a) (spec.options bytes (a ++ rest))
  options_read [] a rest e stop =
      subst (λ l. IsRead tt (length l) (spec.options bytes (l ++ rest))) (sym e) (repeat_none (spec.at_option bytes) (spec.option bytes) (option_some bytes) tt rest stop)
  options_read (u ∷ us) a rest (b, c, e, p, q) stop =
      let whole : a ++ rest ≡ b ++ (c ++ rest) = ap (λ l. l ++ rest) e ∙ append_assoc b c rest in
      let size : length b + length c ≡ length a = sym (length-append b c) ∙ sym (ap length e) in
      subst (λ l. IsRead tt (length a) (spec.options bytes l)) (sym whole)
      (subst (λ n. IsRead tt n (spec.options bytes (b ++ (c ++ rest)))) size
      (repeat_step (spec.at_option bytes) (spec.option bytes) (option_some bytes) tt tt tt b (c ++ rest) (length c) (option_some_token u b p) (option_at u b (c ++ rest) p) (option_read u b (c ++ rest) p)
      (options_read us c rest q stop)))

  -- ---- targets

  -- behind a target no parenthesis opens, and no option stands
  pub record AfterTarget (ts : Tokens) : Type 0 where
    pub not_open : NotOpen ts
    pub no_option : spec.at_option bytes ts ≡ false

  options_not_open : (us : List (Unit {0})) (a rest : Tokens) → Real bytes (a ++ rest) → Each (grammar.AnOption bytes) us a → NotOpen rest → NotOpen (a ++ rest)
  options_not_open [] a rest real e f = subst (λ l. NotOpen (l ++ rest)) (sym e) f
  options_not_open (u ∷ us) a rest real (b, c, e, p, q) f =
      let whole : a ++ rest ≡ b ++ (c ++ rest) = ap (λ l. l ++ rest) e ∙ append_assoc b c rest in
      subst NotOpen (sym whole) (option_not_open u b (c ++ rest) (subst (Real bytes) whole real) p)

  target_names_read : (o : Option (List Named)) (a rest : Tokens) → grammar.TargetNames bytes o a → NotOpen rest → IsRead o (length a) (spec.target_names bytes (a ++ rest))
  unfolding spec.target_names
  target_names_read o a rest (inl (e, is)) f =
      subst (λ o. IsRead o (length a) (spec.target_names bytes (a ++ rest))) (sym is)
      (subst (λ l. IsRead None (length l) (spec.target_names bytes (l ++ rest))) (sym e) (skipped (at is_open rest) _ (Ok (None, 0)) None 0 f (refl, refl)))
  target_names_read o a rest (inr (ns, p, is)) f =
      subst (λ o. IsRead o (length a) (spec.target_names bytes (a ++ rest))) (sym is)
      (taken (at is_open (a ++ rest)) _ _ (Some ns) (length a) (open_at (Listed (grammar.Name bytes)) ns a rest p)
      (last_read (spec.names bytes) (λ all. Some all) a rest ns (names_read ns a rest p)))

  pub target_read : (x : Target) (a rest : Tokens) → Real bytes (a ++ rest) → grammar.IsTarget bytes x a → AfterTarget rest → IsRead x (length a) (spec.target bytes (a ++ rest))
  unfolding spec.target
  target_read x a rest real (n, o, (b, c, e, p, (d, g, e', q, (us, s))), is) f =
      let whole : a ++ rest ≡ b ++ (c ++ rest) = ap (λ l. l ++ rest) e ∙ append_assoc b c rest in
      let inner : c ++ rest ≡ d ++ (g ++ rest) = ap (λ l. l ++ rest) e' ∙ append_assoc d g rest in
      let real_options : Real bytes (g ++ rest) = real_behind bytes d (g ++ rest) (subst (Real bytes) inner (real_behind bytes b (c ++ rest) (subst (Real bytes) whole real))) in
      subst (λ x. IsRead x (length a) (spec.target bytes (a ++ rest))) (sym is)
      (then_read (spec.name bytes) _ a b c rest n (record { table = n; columns = o }) e (name_read n b (c ++ rest) p)
      (then_read (spec.target_names bytes) _ c d g rest o (record { table = n; columns = o }) e' (target_names_read o d (g ++ rest) q (options_not_open us g rest real_options s f.not_open))
      (last_read (spec.options bytes) (λ _. record { table = n; columns = o }) g rest tt (options_read us g rest s f.no_option))))
