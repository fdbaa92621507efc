-- What is read of the parts of a table is a sentence of the grammar, with its value.
use Rattle.std.proofs.Common.{◌≡◌, ◌≢◌, ℕ, zero, suc, ◌+◌, ◌≤◌, Bool, true, false, ◌⊎◌, inl, inr, List, [], ◌∷◌, length, drop, refl, ap, sym, ◌∙◌, subst, arith, length-append, length-drop, Option, Some, None, Ok, Err}
use Rattle.std.specs.Prelude.{if◌then◌else◌, ◌==◌, ◌||◌, ◌&&◌, nat_le, codes}
use Rattle.std.specs.List.{list_any}
use Rattle.std.proofs.lemmas.Bool.Decides.{nat_tests}
use Rattle.std.proofs.lemmas.List.{drop-drop}
use Rattle.wt_reading.specs.declared.lexeme.Kind.{Kind}
use Rattle.wt_reading.specs.declared.lexeme.Kind.TheVariants.{End, Key, Name, Number, Text, Mark, Odd}
use Rattle.wt_reading.specs.Lexemes.{Tokens, kind, at, is_open, is_close, is_comma, is_name}
use Rattle.wt_reading.specs.Readings.{within, list, repeat}
use Rattle.wt_reading.specs.Sentences.{Seq, Either, One, Is, Each, Listed, Parens}
use Rattle.wt_reading.proofs.Inversions.{ok_parts, plus_ok, followed_ok, last_ok}
use Rattle.wt_reading.proofs.Took.{Took, Sound, took_none, took_then, took_as, took_is, expected, list_sound, within_at}
use Rattle.wt_schema.specs.declared.schema.ColKind.{ColKind}
use Rattle.wt_schema.specs.declared.schema.ColKind.TheVariants as col
use Rattle.wt_ddl.specs.declared.fault.DdlFault.TheVariants as fault
use Rattle.wt_ddl.specs.declared.syntax.Named.{Named}
use Rattle.wt_ddl.specs.declared.syntax.Target.{Target}
use Rattle.wt_ddl.specs.declared.syntax.ColumnRule.{ColumnRule}
use Rattle.wt_ddl.specs.declared.syntax.ColumnRule.TheVariants as own
use Rattle.wt_ddl.specs.declared.syntax.ColumnPart.{ColumnPart}
use Rattle.wt_ddl.specs.declared.syntax.TableRule.{TableRule}
use Rattle.wt_ddl.specs.declared.syntax.TableRule.TheVariants as rules
use Rattle.wt_ddl.specs.declared.syntax.Element.{Element}
use Rattle.wt_ddl.specs.declared.syntax.Element.TheVariants as elements
use Rattle.wt_ddl.specs.Fronts.{first, at_word, at_some_word, named}
use Rattle.wt_ddl.specs.Grammar as grammar
use Rattle.wt_ddl.specs.Reading as spec
use Rattle.wt_ddl.specs.Reading.{Read}
use Rattle.wt_ddl.specs.Refusals.{refused, Fault}
use Rattle.wt_ddl.specs.Settling.{columns_of}
use Rattle.wt_ddl.proofs.Repeated.{repeat_ok, repeat_sound, each_behind}
use Rattle.wt_ddl.proofs.Repeats.{option_some, word_some, kind_some}

-- one of two readings
pub pick : {A R : Type 0} (b : Bool) (x y z : A) → (b ≡ true → x ≡ z → R) → (b ≡ false → y ≡ z → R) → (if b then x else y) ≡ z → R
pick true x y z f g h = f refl h
pick false x y z f g h = g refl h

pub either : (s t : Bool) {R : Type 0} → (s ≡ true → R) → (t ≡ true → R) → (s || t) ≡ true → R
either true t f g h = f refl
either false t f g h = g h

pub both : (s t : Bool) → (s && t) ≡ true → (s ≡ true) × (t ≡ true)
both true t h = (refl, h)
both false t h = absurd (cc)

-- the value and the number of what was read
pub as_one : {A : Type 0} (P : A → Tokens → Type 0) (x y : A) (ts : Tokens) (n : ℕ) → ◌≡◌ {A = Read A} (Ok (x, 1)) (Ok (y, n)) → Took (P x) ts 1 → Took (P y) ts n
as_one P x y ts n e h = let (f, g) = ok_parts x y 1 n e in subst (λ z. Took (P z) ts n) f (subst (Took (P x) ts) g h)

pub as_none : {A : Type 0} (P : A → Tokens → Type 0) (x y : A) (ts : Tokens) (n : ℕ) → ◌≡◌ {A = Read A} (Ok (x, 0)) (Ok (y, n)) → P x [] → Took (P y) ts n
as_none P x y ts n e h = let (f, g) = ok_parts x y 0 n e in subst (λ z. Took (P z) ts n) f (subst (Took (P x) ts) g ([], ts, refl, refl, h))

pub no_value : {A : Type 0} {R : Type 0} (e : Fault) (z : A × ℕ) → ◌≡◌ {A = Read A} (Err e) (Ok z) → R
no_value e z h = absurd cc

module _ (bytes : List ℕ) where
  -- ---- tokens

  pub took_word : (w : List ℕ) (ts : Tokens) → at_word bytes w ts ≡ true → Took (grammar.Word bytes w) ts 1
  took_word w [] h = absurd cc
  took_word w (t ∷ ts) h = (t ∷ [], ts, refl, refl, (t, refl, h))

  pub word_sound : (w : List ℕ) (ts : Tokens) (u : Unit {0}) (n : ℕ) → spec.word bytes w ts ≡ Ok (u, n) → Took (grammar.Word bytes w) ts n
  word_sound w ts u n h = let (e, one) = expected (at_word bytes w) (spec.syntax bytes) ts u n h in subst (Took (grammar.Word bytes w) ts) (sym one) (took_word w ts e)

  pub symbol_sound : (test : Kind → Bool) → test End ≡ false → (ts : Tokens) (u : Unit {0}) (n : ℕ) → spec.symbol bytes test ts ≡ Ok (u, n) → Took (Is test) ts n
  symbol_sound test none ts u n h = let (e, one) = expected (at test) (spec.syntax bytes) ts u n h in subst (Took (Is test) ts) (sym one) (took_is test ts none e)

  -- a word, and another one behind it
  word_word : (w v : List ℕ) (ts : Tokens) (u : Unit {0}) (k n : ℕ) → at_word bytes w ts ≡ true → spec.word bytes v (drop 1 ts) ≡ Ok (u, k) → n ≡ 1 + k → Took (Seq (grammar.Word bytes w) (grammar.Word bytes v)) ts n
  word_word w v ts u k n h e s = took_then (grammar.Word bytes w) (grammar.Word bytes v) ts 1 k n (took_word w ts h) (word_sound v (drop 1 ts) u k e) s

  named_took : (ts : Tokens) → is_name (kind ts) ≡ true → Took (grammar.Name bytes (named bytes (first ts))) ts 1
  named_took [] h = absurd cc
  named_took (t ∷ ts) h = (t ∷ [], ts, refl, refl, (t, refl, (h, refl)))

  pub name_sound : Sound (grammar.Name bytes) (spec.name bytes)
  unfolding spec.name
  name_sound ts x n =
      pick (at is_name ts) (Ok (named bytes (first ts), 1)) (spec.no bytes fault.Syntax ts) (Ok (x, n))
      (λ h e. as_one (grammar.Name bytes) (named bytes (first ts)) x ts n e (named_took ts h))
      (λ _ e. no_value _ (x, n) e)

  any_name : (ts : Tokens) (x : Named) (n : ℕ) → spec.name bytes ts ≡ Ok (x, n) → Took (grammar.AnyName bytes) ts n
  any_name ts x n h = took_as (grammar.Name bytes x) (grammar.AnyName bytes) ts n n (λ a p. (x, p)) refl (name_sound ts x n h)

  pub names_sound : Sound (grammar.Names bytes) (spec.names bytes)
  unfolding spec.names
  names_sound ts x n =
      pick (at is_open ts) (within (list (spec.name bytes)) (λ _. spec.syntax bytes) ts) (spec.no bytes fault.Syntax ts) (Ok (x, n))
      (λ h e. within_at (Listed (grammar.Name bytes)) (list (spec.name bytes)) (λ _. spec.syntax bytes) ts x n h
      (λ y m f. list_sound (grammar.Name bytes) (spec.name bytes) name_sound (drop 1 ts) y m f) e)
      (λ _ e. no_value _ (x, n) e)

  -- ---- types

  abbrev ANumber : Tokens → Type 0
  ANumber = One (λ t. (n : ℕ) × (t.kind ≡ Number n) × (n ≢ 9223372036854775808))

  one_number : (ts : Tokens) (n : ℕ) → kind ts ≡ Number n → (n == 9223372036854775808) ≡ false → Took ANumber ts 1
  one_number [] n h f = absurd cc
  one_number (t ∷ ts) n h f = (t ∷ [], ts, refl, refl, (t, refl, (n, h, other)))
    where
      other : n ≢ 9223372036854775808
      other = grind (arith, nat_tests)

  number_is : (k : Kind) (ts : Tokens) (u : Unit {0}) (n : ℕ) → kind ts ≡ k → spec.number_by bytes k ts ≡ Ok (u, n) → Took ANumber ts n
  number_is (Number m) ts u n is h =
      pick (m == 9223372036854775808) _ (Ok (tt, 1)) (Ok (u, n)) (λ _ e. no_value _ (u, n) e)
      (λ f e. as_one (λ _. ANumber) tt u ts n e (one_number ts m is f)) h
  number_is End ts u n is e = no_value _ (u, n) e
  number_is (Key w) ts u n is e = no_value _ (u, n) e
  number_is Name ts u n is e = no_value _ (u, n) e
  number_is Text ts u n is e = no_value _ (u, n) e
  number_is (Mark s) ts u n is e = no_value _ (u, n) e
  number_is Odd ts u n is e = no_value _ (u, n) e

  number_sound : (ts : Tokens) (u : Unit {0}) (n : ℕ) → spec.number bytes ts ≡ Ok (u, n) → Took ANumber ts n
  unfolding spec.number
  number_sound ts u n h = number_is (kind ts) ts u n refl h

  abbrev TextOf : (Tokens → Type 0) → ColKind → Tokens → Type 0
  TextOf P k ts = P ts × (k ≡ col.Text)

  width_sound : (ts : Tokens) (k : ColKind) (n : ℕ) → spec.width bytes ts ≡ Ok (k, n) → Took (TextOf (grammar.Width bytes) k) ts n
  unfolding spec.width
  width_sound ts k n =
      pick (at is_open ts) _ (Ok (col.Text, 0)) (Ok (k, n))
      (λ h e.
      let (u, f, is) = last_ok ts (within (spec.number bytes) (λ _. spec.syntax bytes) ts) (λ _. col.Text) k n e in
      took_as (Parens (λ _. ANumber) u) (TextOf (grammar.Width bytes) k) ts n n (λ a p. (inr p, is)) refl
      (within_at (λ _. ANumber) (spec.number bytes) (λ _. spec.syntax bytes) ts u n h (λ y m g. number_sound (drop 1 ts) y m g) f))
      (λ _ e. as_none (TextOf (grammar.Width bytes)) col.Text k ts n e (inl refl, refl))

  whole_sound : (ts : Tokens) → spec.at_whole bytes ts ≡ true → Took (grammar.Whole bytes) ts 1
  whole_sound ts =
      either _ _
      (either _ _
      (either _ _
      (λ h. took_as _ (grammar.Whole bytes) ts 1 1 (λ a p. inl p) refl (took_word (codes "integer") ts h))
      (λ h. took_as _ (grammar.Whole bytes) ts 1 1 (λ a p. inr (inl p)) refl (took_word (codes "int") ts h)))
      (λ h. took_as _ (grammar.Whole bytes) ts 1 1 (λ a p. inr (inr (inl p))) refl (took_word (codes "bigint") ts h)))
      (λ h. took_as _ (grammar.Whole bytes) ts 1 1 (λ a p. inr (inr (inr p))) refl (took_word (codes "smallint") ts h))

  kind_sound : Sound (grammar.KindOf bytes) (spec.kind_of bytes)
  unfolding spec.kind_of
  kind_sound ts k n =
      let K = grammar.KindOf bytes in
      pick (spec.at_whole bytes ts) _ _ (Ok (k, n))
      (λ h e. as_one K col.Int k ts n e (took_as (grammar.Whole bytes) (K col.Int) ts 1 1 (λ a p. inl (p, refl)) refl (whole_sound ts h)))
      (λ _. pick (at_word bytes (codes "text") ts) _ _ (Ok (k, n))
      (λ h e. as_one K col.Text k ts n e (took_as _ (K col.Text) ts 1 1 (λ a p. inr (inl p, refl)) refl (took_word (codes "text") ts h)))
      (λ _. pick (at_word bytes (codes "varchar") ts) _ _ (Ok (k, n))
      (λ h e.
      let (m, f, s) = plus_ok 1 (spec.width bytes (drop 1 ts)) k n e in
      took_as (Seq (grammar.Word bytes (codes "varchar")) (TextOf (grammar.Width bytes) k)) (K k) ts n n (λ a (b, c, g, p, q). inr (inr (inl (b, c, g, p, q.0)), q.1)) refl
      (took_then _ (TextOf (grammar.Width bytes) k) ts 1 m n (took_word (codes "varchar") ts h) (width_sound (drop 1 ts) k m f) s))
      (λ _. pick (at_word bytes (codes "character") ts) _ _ (Ok (k, n))
      (λ h e.
      let (m, f, s) = plus_ok 1 _ k n e in
      let (u, i, j, g, r, s') = followed_ok (drop 1 ts) (spec.word bytes (codes "varying") (drop 1 ts)) _ k m f in
      let Varying = Seq (grammar.Word bytes (codes "varying")) (TextOf (grammar.Width bytes) k) in
      took_as (Seq (grammar.Word bytes (codes "character")) Varying) (K k) ts n n (λ a (b, c, g, p, (d, x, y, q, z)). inr (inr (inr (b, c, g, p, (d, x, y, q, z.0))), z.1)) refl
      (took_then _ Varying ts 1 m n (took_word (codes "character") ts h)
      (took_then _ (TextOf (grammar.Width bytes) k) (drop 1 ts) i j m (word_sound (codes "varying") (drop 1 ts) u i g) (width_sound (drop i (drop 1 ts)) k j r) s') s))
      (λ _ e. no_value _ (k, n) e))))

  -- ---- targets of references

  null_sound : (ts : Tokens) (u : Unit {0}) (n : ℕ) → spec.null_action bytes ts ≡ Ok (u, n) → Took (grammar.Word bytes (codes "null")) ts n
  unfolding spec.null_action
  null_sound ts u n =
      pick (at_word bytes (codes "null") ts) (Ok (tt, 1)) _ (Ok (u, n)) (λ h e. as_one (λ _. grammar.Word bytes (codes "null")) tt u ts n e (took_word (codes "null") ts h))
      (λ _. pick (at_word bytes (codes "default") ts) _ _ (Ok (u, n)) (λ _ e. no_value _ (u, n) e) (λ _ e. no_value _ (u, n) e))

  action_sound : (ts : Tokens) (u : Unit {0}) (n : ℕ) → spec.action bytes ts ≡ Ok (u, n) → Took (grammar.Action bytes) ts n
  unfolding spec.action
  action_sound ts u n =
      let A = grammar.Action bytes in
      pick (at_word bytes (codes "cascade") ts || at_word bytes (codes "restrict") ts) (Ok (tt, 1)) _ (Ok (u, n))
      (λ h e. as_one (λ _. A) tt u ts n e
      (either _ _ (λ g. took_as _ A ts 1 1 (λ a p. inl p) refl (took_word (codes "cascade") ts g)) (λ g. took_as _ A ts 1 1 (λ a p. inr (inl p)) refl (took_word (codes "restrict") ts g)) h))
      (λ _. pick (at_word bytes (codes "set") ts) _ _ (Ok (u, n))
      (λ h e.
      let (m, f, s) = plus_ok 1 (spec.null_action bytes (drop 1 ts)) u n e in
      took_as _ A ts n n (λ a p. inr (inr (inl p))) refl (took_then _ (grammar.Word bytes (codes "null")) ts 1 m n (took_word (codes "set") ts h) (null_sound (drop 1 ts) u m f) s))
      (λ _. pick (at_word bytes (codes "no") ts) _ _ (Ok (u, n))
      (λ h e.
      let (m, f, s) = plus_ok 1 (spec.word bytes (codes "action") (drop 1 ts)) u n e in
      took_as _ A ts n n (λ a p. inr (inr (inr p))) refl (word_word (codes "no") (codes "action") ts u m n h f s))
      (λ _ e. no_value _ (u, n) e)))

  abbrev Change : Tokens → Type 0
  Change = Either (grammar.Word bytes (codes "delete")) (grammar.Word bytes (codes "update"))

  event_sound : (ts : Tokens) (u : Unit {0}) (n : ℕ) → spec.event bytes ts ≡ Ok (u, n) → Took (Seq Change (grammar.Action bytes)) ts n
  unfolding spec.event
  event_sound ts u n =
      pick (at_word bytes (codes "delete") ts || at_word bytes (codes "update") ts) _ _ (Ok (u, n))
      (λ h e.
      let (m, f, s) = plus_ok 1 (spec.action bytes (drop 1 ts)) u n e in
      took_then Change (grammar.Action bytes) ts 1 m n
      (either _ _ (λ g. took_as _ Change ts 1 1 (λ a p. inl p) refl (took_word (codes "delete") ts g)) (λ g. took_as _ Change ts 1 1 (λ a p. inr p) refl (took_word (codes "update") ts g)) h)
      (action_sound (drop 1 ts) u m f) s)
      (λ _ e. no_value _ (u, n) e)

  simple_sound : (ts : Tokens) (u : Unit {0}) (n : ℕ) → spec.simple bytes ts ≡ Ok (u, n) → Took (grammar.Word bytes (codes "simple")) ts n
  unfolding spec.simple
  simple_sound ts u n =
      pick (at_word bytes (codes "simple") ts) (Ok (tt, 1)) _ (Ok (u, n)) (λ h e. as_one (λ _. grammar.Word bytes (codes "simple")) tt u ts n e (took_word (codes "simple") ts h)) (λ _ e. no_value _ (u, n) e)

  option_sound : (ts : Tokens) (u : Unit {0}) (n : ℕ) → spec.at_option bytes ts ≡ true → spec.option bytes tt ts ≡ Ok (u, n) → (1 ≤ n) × Took (grammar.AnOption bytes u) ts n
  unfolding spec.option
  option_sound ts u n h e =
      let (m, f, s) = plus_ok 1 _ u n e in
      (omega arith, by m s (at_word bytes (codes "match") ts) refl f)
    where
      on : (t : Bool) → at_word bytes (codes "match") ts ≡ t → t ≡ false → at_word bytes (codes "on") ts ≡ true
      on t g k = either _ _ (λ x. let z = sym x ∙ g ∙ k in absurd cc) (λ x. x) h

      by : (m : ℕ) → n ≡ 1 + m → (t : Bool) → at_word bytes (codes "match") ts ≡ t → (if t then spec.simple bytes (drop 1 ts) else spec.event bytes (drop 1 ts)) ≡ Ok (u, m) → Took (grammar.AnOption bytes u) ts n
      by m s true g f = took_as _ (grammar.AnOption bytes u) ts n n (λ a p. inl p) refl (took_then _ (grammar.Word bytes (codes "simple")) ts 1 m n (took_word (codes "match") ts g) (simple_sound (drop 1 ts) u m f) s)
      by m s false g f =
          took_as _ (grammar.AnOption bytes u) ts n n (λ a p. inr p) refl
          (took_then _ (Seq Change (grammar.Action bytes)) ts 1 m n (took_word (codes "on") ts (on false g refl)) (event_sound (drop 1 ts) u m f) s)

  option_grows : (a b : Unit {0}) (ts : Tokens) (m : ℕ) → spec.at_option bytes ts ≡ true → spec.option bytes a ts ≡ Ok (b, m) → 1 ≤ m
  option_grows a b ts m h e = (option_sound ts b m h e).0

  options_to : (bound : ℕ) (ts : Tokens) (u : Unit {0}) (n : ℕ) → length ts ≤ bound → repeat (spec.at_option bytes) (spec.option bytes) 0 tt ts ≡ Ok (u, n) → Took (grammar.Options bytes) ts n
  options_to zero ts u n l h = by (repeat_ok (spec.at_option bytes) (spec.option bytes) (option_some bytes) option_grows tt u ts n h)
    where
      by : ((spec.at_option bytes ts ≡ false) × (tt ≡ u) × (n ≡ 0))
          ⊎ ((c : Unit {0}) × (m : ℕ) × (k : ℕ) × (spec.at_option bytes ts ≡ true) × (spec.option bytes tt ts ≡ Ok (c, m)) × (1 ≤ m) × (repeat (spec.at_option bytes) (spec.option bytes) 0 c (drop m ts) ≡ Ok (u, k)) × (n ≡ m + k))
          → Took (grammar.Options bytes) ts n
      by (inl (e, f, g)) = took_as (λ l. l ≡ []) (grammar.Options bytes) ts 0 n (λ a p. ([], p)) (sym g) (took_none ts)
      by (inr (c, m, k, t, p, o, r, s)) = let there = option_some bytes ts t in absurd (omega arith)
  options_to (suc bound) ts u n l h = by (repeat_ok (spec.at_option bytes) (spec.option bytes) (option_some bytes) option_grows tt u ts n h) (options_to bound)
    where
      by : ((spec.at_option bytes ts ≡ false) × (tt ≡ u) × (n ≡ 0))
          ⊎ ((c : Unit {0}) × (m : ℕ) × (k : ℕ) × (spec.at_option bytes ts ≡ true) × (spec.option bytes tt ts ≡ Ok (c, m)) × (1 ≤ m) × (repeat (spec.at_option bytes) (spec.option bytes) 0 c (drop m ts) ≡ Ok (u, k)) × (n ≡ m + k))
          → ((ts : Tokens) (u : Unit {0}) (n : ℕ) → length ts ≤ bound → repeat (spec.at_option bytes) (spec.option bytes) 0 tt ts ≡ Ok (u, n) → Took (grammar.Options bytes) ts n)
          → Took (grammar.Options bytes) ts n
      by (inl (e, f, g)) next = took_as (λ l. l ≡ []) (grammar.Options bytes) ts 0 n (λ a p. ([], p)) (sym g) (took_none ts)
      by (inr (c, m, k, t, p, o, r, s)) next =
          took_as (Seq (grammar.AnOption bytes c) (grammar.Options bytes)) (grammar.Options bytes) ts n n (λ a (b, d, e, q, (us, z)). (c ∷ us, (b, d, e, q, z))) refl
          (took_then (grammar.AnOption bytes c) (grammar.Options bytes) ts m k n (option_sound ts c m t p).1 (next (drop m ts) u k (omega (arith, l, o, length-drop m ts)) r) s)

  target_names_sound : (ts : Tokens) (o : Option (List Named)) (n : ℕ) → spec.target_names bytes ts ≡ Ok (o, n) → Took (grammar.TargetNames bytes o) ts n
  unfolding spec.target_names
  target_names_sound ts o n =
      pick (at is_open ts) _ (Ok (None, 0)) (Ok (o, n))
      (λ h e.
      let (ns, f, is) = last_ok ts (spec.names bytes ts) (λ all. Some all) o n e in
      took_as (grammar.Names bytes ns) (grammar.TargetNames bytes o) ts n n (λ a p. inr (ns, p, is)) refl (names_sound ts ns n f))
      (λ _ e. as_none (grammar.TargetNames bytes) None o ts n e (inl (refl, refl)))

  pub target_sound : Sound (grammar.IsTarget bytes) (spec.target bytes)
  unfolding spec.target
  target_sound ts x n h =
      let (t, m, k, f, g, s) = followed_ok ts (spec.name bytes ts) _ x n h in
      let a = drop m ts in
      let (o, i, j, f', g', s') = followed_ok a (spec.target_names bytes a) _ x k g in
      let b = drop i a in
      let (u, r, is) = last_ok b (spec.options bytes b) (λ _. record { table = t; columns = o }) x j g' in
      took_as (Seq (grammar.Name bytes t) (Seq (grammar.TargetNames bytes o) (grammar.Options bytes))) (grammar.IsTarget bytes x) ts n n (λ a p. (t, o, p, is)) refl
      (took_then _ (Seq (grammar.TargetNames bytes o) (grammar.Options bytes)) ts m k n (name_sound ts t m f)
      (took_then _ (grammar.Options bytes) a i j k (target_names_sound a o i f') (options_to (length b) b u j (omega arith) r) s') s)

  -- ---- rules of a column

  own_primary_sound : (es : List Element) (rs : List ColumnRule) (ts : Tokens) (x : ColumnRule) (n : ℕ) → at_word bytes (codes "primary") ts ≡ true → spec.own_primary bytes es rs ts ≡ Ok (x, n) → Took (grammar.BareRule bytes x) ts n
  unfolding spec.own_primary
  own_primary_sound es rs ts x n h e =
      let (m, f, s) = plus_ok 1 _ x n e in
      let (u, i, j, g, r, s') = followed_ok (drop 1 ts) (spec.word bytes (codes "key") (drop 1 ts)) _ x m f in
      pick (spec.has_primary es || list_any spec.is_own_primary rs) _ (Ok (own.PrimaryKey, 0)) (Ok (x, j)) (λ _ z. no_value _ (x, j) z)
      (λ _ z.
      let (is, none) = ok_parts own.PrimaryKey x 0 j z in
      subst (λ y. Took (grammar.BareRule bytes y) ts n) is (word_word (codes "primary") (codes "key") ts u i n h g (omega (arith, s, s', none))))
      r

  bare_sound : (es : List Element) (rs : List ColumnRule) (ts : Tokens) (x : ColumnRule) (n : ℕ) → spec.bare_rule bytes es rs ts ≡ Ok (x, n) → Took (grammar.BareRule bytes x) ts n
  unfolding spec.bare_rule
  bare_sound es rs ts x n =
      let B = grammar.BareRule bytes in
      pick (at_word bytes (codes "not") ts) _ _ (Ok (x, n))
      (λ h e.
      let (m, f, s) = plus_ok 1 _ x n e in
      let (u, g, is) = last_ok (drop 1 ts) (spec.word bytes (codes "null") (drop 1 ts)) (λ _. own.NotNull) x m f in
      subst (λ y. Took (B y) ts n) (sym is) (word_word (codes "not") (codes "null") ts u m n h g s))
      (λ _. pick (at_word bytes (codes "null") ts) _ _ (Ok (x, n)) (λ h e. as_one B own.Null x ts n e (took_word (codes "null") ts h))
      (λ _. pick (at_word bytes (codes "primary") ts) _ _ (Ok (x, n)) (λ h e. own_primary_sound es rs ts x n h e)
      (λ _. pick (at_word bytes (codes "unique") ts) _ _ (Ok (x, n)) (λ h e. as_one B own.Unique x ts n e (took_word (codes "unique") ts h))
      (λ _. pick (at_word bytes (codes "references") ts) _ _ (Ok (x, n))
      (λ h e.
      let (m, f, s) = plus_ok 1 _ x n e in
      let (t, g, is) = last_ok (drop 1 ts) (spec.target bytes (drop 1 ts)) (λ t. own.References t) x m f in
      subst (λ y. Took (B y) ts n) (sym is) (took_then _ (grammar.IsTarget bytes t) ts 1 m n (took_word (codes "references") ts h) (target_sound (drop 1 ts) t m g) s))
      (λ _ e. no_value _ (x, n) e)))))

  rule_sound : (es : List Element) (rs : List ColumnRule) (ts : Tokens) (x : ColumnRule) (n : ℕ) → spec.rule bytes es rs ts ≡ Ok (x, n) → Took (grammar.OwnRule bytes x) ts n
  unfolding spec.rule
  rule_sound es rs ts x n =
      let B = grammar.BareRule bytes x in
      pick (at_word bytes (codes "constraint") ts) _ _ (Ok (x, n))
      (λ h e.
      let (m, f, s) = plus_ok 1 _ x n e in
      let (y, i, j, g, r, s') = followed_ok (drop 1 ts) (spec.name bytes (drop 1 ts)) _ x m f in
      took_as _ (grammar.OwnRule bytes x) ts n n (λ a p. inl p) refl
      (took_then _ (Seq (grammar.AnyName bytes) B) ts 1 m n (took_word (codes "constraint") ts h)
      (took_then _ B (drop 1 ts) i j m (any_name (drop 1 ts) y i g) (bare_sound es rs (drop i (drop 1 ts)) x j r) s') s))
      (λ _ e. took_as B (grammar.OwnRule bytes x) ts n n (λ a p. inr p) refl (bare_sound es rs ts x n e))

  -- ---- columns

  column_name_sound : (es : List Element) (ts : Tokens) (x : Named) (n : ℕ) → spec.column_name bytes es ts ≡ Ok (x, n) → Took (grammar.Name bytes x) ts n
  unfolding spec.column_name
  column_name_sound es ts x n h =
      let (y, m, k, f, g, s) = followed_ok ts (spec.name bytes ts) _ x n h in
      pick (spec.has_column es y.name) _ _ (Ok (x, k)) (λ _ z. no_value _ (x, k) z)
      (λ _. pick (nat_le 64 (length (columns_of es))) (spec.refuse bytes fault.TooManyColumns y.at) (Ok (y, 0)) (Ok (x, k)) (λ _ z. no_value (refused fault.TooManyColumns, y.at) (x, k) z)
      (λ _ z.
      let (is, none) = ok_parts y x 0 k z in
      subst (λ v. Took (grammar.Name bytes v) ts n) is (took_as (grammar.Name bytes y) (grammar.Name bytes y) ts m n (λ a p. p) (omega (arith, s, none)) (name_sound ts y m f))))
      g

  -- a rule has a token
  word_some_token : (w : List ℕ) (a : Tokens) → grammar.Word bytes w a → 1 ≤ length a
  word_some_token w a (t, e, h) = omega (arith, ap length e)

  seq_some : (w : List ℕ) (Q : Tokens → Type 0) (a : Tokens) → Seq (grammar.Word bytes w) Q a → 1 ≤ length a
  seq_some w Q a (b, c, e, p, q) = omega (arith, ap length e, length-append b c, word_some_token w b p)

  bare_some : (x : ColumnRule) (a : Tokens) → grammar.BareRule bytes x a → 1 ≤ length a
  bare_some own.NotNull a h = seq_some (codes "not") _ a h
  bare_some own.Null a h = word_some_token (codes "null") a h
  bare_some own.PrimaryKey a h = seq_some (codes "primary") _ a h
  bare_some own.Unique a h = word_some_token (codes "unique") a h
  bare_some (own.References t) a h = seq_some (codes "references") _ a h

  own_some : (x : ColumnRule) (a : Tokens) → grammar.OwnRule bytes x a → 1 ≤ length a
  own_some x a (inl h) = seq_some (codes "constraint") _ a h
  own_some x a (inr h) = bare_some x a h

  rule_read : (es : List Element) (rs : List ColumnRule) (ts : Tokens) (x : ColumnRule) (n : ℕ) → at_some_word ts ≡ true → spec.rule bytes es rs ts ≡ Ok (x, n) → (1 ≤ n) × Took (grammar.OwnRule bytes x) ts n
  rule_read es rs ts x n h e = let took = rule_sound es rs ts x n e in (some took, took)
    where
      some : Took (grammar.OwnRule bytes x) ts n → 1 ≤ n
      some (a, b, f, l, p) = omega (arith, l, own_some x a p)

  column_sound : (es : List Element) (ts : Tokens) (x : ColumnPart) (n : ℕ) → spec.column bytes es ts ≡ Ok (x, n) → Took (grammar.Column bytes x) ts n
  unfolding spec.column
  column_sound es ts x n h =
      let (t, m, k, f, g, s) = followed_ok ts (spec.column_name bytes es ts) _ x n h in
      let a = drop m ts in
      let (y, i, j, f', g', s') = followed_ok a (spec.kind_of bytes a) _ x k g in
      let b = drop i a in
      let (rs, r, is) = last_ok b (spec.column_rules bytes es b) (λ rs. record { name = t; kind = y; rules = rs }) x j g' in
      let (zs, same, took) = repeat_sound at_some_word (grammar.OwnRule bytes) (spec.rule bytes es) word_some (rule_read es) (length b) [] rs b j (omega arith) r in
      let all : Took (Each (grammar.OwnRule bytes) rs) b j = subst (λ l. Took (Each (grammar.OwnRule bytes) l) b j) (sym same) took in
      subst (λ c. Took (grammar.Column bytes c) ts n) (sym is)
      (took_then _ (Seq (grammar.KindOf bytes y) (Each (grammar.OwnRule bytes) rs)) ts m k n (column_name_sound es ts t m f)
      (took_then _ (Each (grammar.OwnRule bytes) rs) a i j k (kind_sound a y i f') all s') s)

  -- ---- rules of a table

  primary_sound : (es : List Element) (ts : Tokens) (x : TableRule) (n : ℕ) → at_word bytes (codes "primary") ts ≡ true → spec.primary_rule bytes es ts ≡ Ok (x, n) → Took (grammar.RuleOf bytes x) ts n
  unfolding spec.primary_rule
  primary_sound es ts x n h e =
      let (m, f, s) = plus_ok 1 _ x n e in
      let (u, i, j, g, r, s') = followed_ok (drop 1 ts) (spec.word bytes (codes "key") (drop 1 ts)) _ x m f in
      let a = drop i (drop 1 ts) in
      pick (spec.has_primary es) _ _ (Ok (x, j)) (λ _ z. no_value _ (x, j) z)
      (λ _ z.
      let (ns, q, is) = last_ok a (spec.names bytes a) (λ all. rules.PrimaryKey all) x j z in
      subst (λ y. Took (grammar.RuleOf bytes y) ts n) (sym is)
      (took_then _ (Seq (grammar.Word bytes (codes "key")) (grammar.Names bytes ns)) ts 1 m n (took_word (codes "primary") ts h)
      (took_then _ (grammar.Names bytes ns) (drop 1 ts) i j m (word_sound (codes "key") (drop 1 ts) u i g) (names_sound a ns j q) s') s))
      r

  unique_sound : (ts : Tokens) (x : TableRule) (n : ℕ) → at_word bytes (codes "unique") ts ≡ true → spec.unique_rule bytes ts ≡ Ok (x, n) → Took (grammar.RuleOf bytes x) ts n
  unfolding spec.unique_rule
  unique_sound ts x n h e =
      let (m, f, s) = plus_ok 1 _ x n e in
      let (ns, q, is) = last_ok (drop 1 ts) (spec.names bytes (drop 1 ts)) (λ all. rules.Unique all) x m f in
      subst (λ y. Took (grammar.RuleOf bytes y) ts n) (sym is)
      (took_then _ (grammar.Names bytes ns) ts 1 m n (took_word (codes "unique") ts h) (names_sound (drop 1 ts) ns m q) s)

  foreign_target_sound : (ts : Tokens) (x : Target) (n : ℕ) → spec.foreign_target bytes ts ≡ Ok (x, n) → Took (Seq (grammar.Word bytes (codes "references")) (grammar.IsTarget bytes x)) ts n
  unfolding spec.foreign_target spec.behind_target
  foreign_target_sound ts x n h =
      let (u, m, k, f, g, s) = followed_ok ts (spec.word bytes (codes "references") ts) _ x n h in
      let a = drop m ts in
      let (t, i, j, f', g', s') = followed_ok a (spec.target bytes a) _ x k g in
      let (v, r, is) = last_ok (drop i a) (spec.behind_target bytes (drop i a)) (λ _. t) x j g' in
      let none : j ≡ 0 = pick (at_some_word (drop i a)) _ (Ok (tt, 0)) (Ok (v, j)) (λ _ z. no_value _ (v, j) z) (λ _ z. sym (ok_parts tt v 0 j z).1) r in
      subst (λ y. Took (Seq (grammar.Word bytes (codes "references")) (grammar.IsTarget bytes y)) ts n) (sym is)
      (took_then _ (grammar.IsTarget bytes t) ts m i n (word_sound (codes "references") ts u m f) (target_sound a t i f') (omega (arith, s, s', none)))

  foreign_sound : (ts : Tokens) (x : TableRule) (n : ℕ) → at_word bytes (codes "foreign") ts ≡ true → spec.foreign_rule bytes ts ≡ Ok (x, n) → Took (grammar.RuleOf bytes x) ts n
  unfolding spec.foreign_rule
  foreign_sound ts x n h e =
      let (m, f, s) = plus_ok 1 _ x n e in
      let (u, i, j, g, r, s') = followed_ok (drop 1 ts) (spec.word bytes (codes "key") (drop 1 ts)) _ x m f in
      let a = drop i (drop 1 ts) in
      let (ns, k, o, g', r', s'') = followed_ok a (spec.names bytes a) _ x j r in
      let b = drop k a in
      let (t, q, is) = last_ok b (spec.foreign_target bytes b) (λ t. rules.ForeignKey ns t) x o r' in
      let Behind_names = Seq (grammar.Word bytes (codes "references")) (grammar.IsTarget bytes t) in
      subst (λ y. Took (grammar.RuleOf bytes y) ts n) (sym is)
      (took_then _ (Seq (grammar.Word bytes (codes "key")) (Seq (grammar.Names bytes ns) Behind_names)) ts 1 m n (took_word (codes "foreign") ts h)
      (took_then _ (Seq (grammar.Names bytes ns) Behind_names) (drop 1 ts) i j m (word_sound (codes "key") (drop 1 ts) u i g)
      (took_then _ Behind_names a k o j (names_sound a ns k g') (foreign_target_sound b t o q) s'') s') s)

  table_rule_sound : (es : List Element) (ts : Tokens) (x : TableRule) (n : ℕ) → spec.at_table_rule bytes ts ≡ true → spec.table_rule bytes es ts ≡ Ok (x, n) → Took (grammar.RuleOf bytes x) ts n
  unfolding spec.table_rule
  table_rule_sound es ts x n h =
      pick (at_word bytes (codes "primary") ts) _ _ (Ok (x, n)) (λ g e. primary_sound es ts x n g e)
      (λ p. pick (at_word bytes (codes "unique") ts) _ _ (Ok (x, n)) (λ g e. unique_sound ts x n g e)
      (λ q e. foreign_sound ts x n (either _ _ (either _ _ (λ z. clash z p) (λ z. clash z q)) (λ z. z) h) e))
    where
      clash : {t u : Bool} → t ≡ true → t ≡ false → u ≡ true
      clash e f = let z = sym e ∙ f in absurd cc

  named_rule_sound : (es : List Element) (ts : Tokens) (x : TableRule) (n : ℕ) → spec.named_rule bytes es ts ≡ Ok (x, n) → Took (grammar.RuleOf bytes x) ts n
  unfolding spec.named_rule
  named_rule_sound es ts x n =
      pick (at_word bytes (codes "check") ts) _ _ (Ok (x, n)) (λ _ e. no_value _ (x, n) e)
      (λ _. pick (spec.at_table_rule bytes ts) _ _ (Ok (x, n)) (λ h e. table_rule_sound es ts x n h e) (λ _ e. no_value _ (x, n) e))

  -- ---- elements

  element_sound : (es : List Element) (ts : Tokens) (x : Element) (n : ℕ) → spec.element bytes es ts ≡ Ok (x, n) → Took (grammar.IsElement bytes x) ts n
  unfolding spec.element
  element_sound es ts x n =
      let I = grammar.IsElement bytes in
      pick (at_word bytes (codes "constraint") ts) _ _ (Ok (x, n))
      (λ h e.
      let (m, f, s) = plus_ok 1 _ x n e in
      let (y, i, j, g, r, s') = followed_ok (drop 1 ts) (spec.name bytes (drop 1 ts)) _ x m f in
      let a = drop i (drop 1 ts) in
      let (t, q, is) = last_ok a (spec.named_rule bytes es a) (λ r. elements.Rule r) x j r in
      subst (λ z. Took (I z) ts n) (sym is)
      (took_as _ (I (elements.Rule t)) ts n n (λ a p. inl p) refl
      (took_then _ (Seq (grammar.AnyName bytes) (grammar.RuleOf bytes t)) ts 1 m n (took_word (codes "constraint") ts h)
      (took_then _ (grammar.RuleOf bytes t) (drop 1 ts) i j m (any_name (drop 1 ts) y i g) (named_rule_sound es a t j q) s') s)))
      (λ _. pick (at_word bytes (codes "check") ts) _ _ (Ok (x, n)) (λ _ e. no_value _ (x, n) e)
      (λ _. pick (spec.at_table_rule bytes ts) _ _ (Ok (x, n))
      (λ h e.
      let (t, q, is) = last_ok ts (spec.table_rule bytes es ts) (λ r. elements.Rule r) x n e in
      subst (λ z. Took (I z) ts n) (sym is) (took_as (grammar.RuleOf bytes t) (I (elements.Rule t)) ts n n (λ a p. inr p) refl (table_rule_sound es ts t n h q)))
      (λ _ e.
      let (c, q, is) = last_ok ts (spec.column bytes es ts) (λ c. elements.Column c) x n e in
      subst (λ z. Took (I z) ts n) (sym is) (column_sound es ts c n q))))

  next_sound : (es : List Element) (ts : Tokens) (x : Element) (n : ℕ) → at is_comma ts ≡ true → spec.next_element bytes es ts ≡ Ok (x, n) → (1 ≤ n) × Took (Seq (Is is_comma) (grammar.IsElement bytes x)) ts n
  unfolding spec.next_element
  next_sound es ts x n h e =
      let (m, f, s) = plus_ok 1 (spec.element bytes es (drop 1 ts)) x n e in
      (omega arith, took_then (Is is_comma) (grammar.IsElement bytes x) ts 1 m n (took_is is_comma ts refl h) (element_sound es (drop 1 ts) x m f) s)

  pub elements_sound : (ts : Tokens) (es : List Element) (n : ℕ) → spec.elements_of bytes ts ≡ Ok (es, n) → Took (Parens (Listed (grammar.IsElement bytes)) es) ts n
  unfolding spec.elements_of
  elements_sound ts es n h =
      let I = grammar.IsElement bytes in
      let (u, m, k, f, g, s) = followed_ok ts (spec.symbol bytes is_open ts) _ es n h in
      let a = drop m ts in
      let (x, i, j, f', g', s') = followed_ok a (spec.element bytes [] a) _ es k g in
      let b = drop i a in
      let (ys, o, p, f'', g'', s'') = followed_ok b (spec.more_elements bytes (x ∷ []) b) _ es j g' in
      let c = drop o b in
      let (v, r, is) = last_ok c (spec.symbol bytes is_close c) (λ _. ys) es p g'' in
      let (zs, same, took) = repeat_sound (at is_comma) (λ y. Seq (Is is_comma) (I y)) (spec.next_element bytes) (kind_some is_comma refl) next_sound (length b) (x ∷ []) ys b o (omega arith) f'' in
      let first = element_sound [] a x i f' in
      let listed : Took (Listed I es) a (i + o) =
      took_as (Seq (I x) (Each (λ y. Seq (Is is_comma) (I y)) zs)) (Listed I es) a (i + o) (i + o) (λ l (d, e, q, w, z). (x, zs, (d, e, q, w, each_behind is_comma I zs e z), is ∙ same)) refl
      (took_then (I x) (Each (λ y. Seq (Is is_comma) (I y)) zs) a i o (i + o) first took refl) in
      took_then (Is is_open) (Seq (Listed I es) (Is is_close)) ts m k n (symbol_sound is_open refl ts u m f)
      (took_then (Listed I es) (Is is_close) a (i + o) p k listed (subst (λ l. Took (Is is_close) l p) (drop-drop o i a) (symbol_sound is_close refl c v p r)) (omega (arith, s', s''))) s
