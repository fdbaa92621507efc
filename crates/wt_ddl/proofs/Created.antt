-- The tables of a text: at most 256, with different names, each closed.
use Rattle.std.proofs.Common.{◌≡◌, ◌≢◌, ℕ, zero, suc, ◌<◌, ◌≤◌, Bool, true, false, List, [], ◌∷◌, ◌++◌, length, drop, get_or, refl, sym, ◌∙◌, subst, arith, length-append, Ok, Err}
use Rattle.std.specs.Prelude.{nat_le, codes, ◌||◌, ◌&&◌}
use Rattle.std.specs.List.{All, AllPairs}
use Rattle.std.specs.Str.{bytes_eq}
use Rattle.std.proofs.lemmas.Bool.{cond_both}
use Rattle.std.proofs.lemmas.Bool.Decides.{nat_tests}
use Rattle.std.proofs.lemmas.List.Elements.{All-push, All-nil}
use Rattle.std.proofs.lemmas.List.Quantifiers.{all_pairs_push}
use Rattle.std.proofs.lemmas.Slice.Eq.{bytes_eq-Decides}
use Rattle.wt_reading.specs.Lexemes.{Tokens, at, is_semi}
use Rattle.wt_ddl.specs.declared.table.TableRead.{TableRead}
use Rattle.wt_ddl.specs.Fronts.{at_word}
use Rattle.wt_ddl.specs.Reading as spec
use Rattle.wt_ddl.specs.Reading.{Read}
use Rattle.wt_ddl.specs.Refusals.{Checked}
use Rattle.wt_ddl.specs.Settling.{settled}
use Rattle.wt_ddl.proofs.Lawful.{IfRead, read_plus, read_followed, read_behind, read_repeat, read_one_more, AreElements, elements_law}
use Rattle.wt_ddl.proofs.Closed.{IfDone, IsClosed, settled_law}

pub record AreTables (N : List ℕ → Type 0) (tables : List TableRead) : Type 0 where
  pub few : length tables ≤ 256
  pub differ : AllPairs (λ a b. a.name ≢ b.name) tables
  pub closed : All (IsClosed N N) tables

pub no_tables : (N : List ℕ → Type 0) → AreTables N []
no_tables N = record { few = omega arith; differ = λ i j d l m. absurd (omega arith); closed = All-nil (IsClosed N N) }

-- a name that no table has differs from each
all_differ : (tables : List TableRead) (name : List ℕ) → spec.has_table tables name ≡ false → (k : ℕ) (t : TableRead) → k < length tables → (get_or tables k t).name ≢ name
all_differ [] name h k c l = absurd (omega arith)
all_differ (x ∷ xs) name h zero c l = λ e. by e (bytes_eq x.name name) refl h
  where
    by : x.name ≡ name → (t : Bool) → bytes_eq x.name name ≡ t → (t || spec.has_table xs name) ≡ false → ⊥
    by e true q g = absurd (cc)
    by e false q g = let bad : bytes_eq x.name name ≡ true = (bytes_eq-Decides x.name name).1 e in cc
all_differ (x ∷ xs) name h (suc k) c l = all_differ xs name (later (bytes_eq x.name name) h) k c (omega arith)
  where
    later : (t : Bool) → (t || spec.has_table xs name) ≡ false → spec.has_table xs name ≡ false
    later true g = absurd (cc)
    later false g = g

-- a closed table of this name
abbrev ClosedAs : List ℕ → (List ℕ → Type 0) → TableRead → Type 0
ClosedAs name N t = IsClosed (λ other. other ≡ name) N t

named_as : (N : List ℕ → Type 0) (name : List ℕ) (t : TableRead) → N name → ClosedAs name N t → IsClosed N N t
named_as N name t is h = record { name = subst N (sym h.name) is; some = h.some; few = h.few; named = h.named; differ = h.differ; keys = h.keys; references = h.references }

one_more : (N : List ℕ → Type 0) (tables : List TableRead) (name : List ℕ) (t : TableRead) → AreTables N tables → length tables < 256 → spec.has_table tables name ≡ false → N name → ClosedAs name N t → AreTables N (tables ++ t ∷ [])
one_more N tables name t h few new is closed = record {
  few = omega (arith, length-append tables (t ∷ []));
  differ = all_pairs_push (λ a b. a.name ≢ b.name) tables t h.differ (λ k d l e. all_differ tables name new k d l (e ∙ closed.name));
  closed = All-push (IsClosed N N) tables t h.closed (named_as N name t is closed);
}

kept_law : {A : Type 0} (P : A → Type 0) (r : Checked A) → IfDone P r → IfRead P (spec.kept r)
kept_law P (Ok t) h = h
kept_law P (Err e) h = tt

module _ (bytes : List ℕ) (N : List ℕ → Type 0) (G : Tokens → Type 0) (G_drop : (n : ℕ) (ts : Tokens) → G ts → G (drop n ts)) (named : (ts : Tokens) → G ts → IfRead (λ n. N n.name) (spec.name bytes ts)) where
  body_law : (table : List ℕ) (ts : Tokens) → G ts → IfRead (ClosedAs table N) (spec.body bytes table ts)
  unfolding spec.body
  body_law table ts good =
      let T : List ℕ → Type 0 = λ other. other ≡ table in
      read_followed (λ es. AreElements N es × (1 ≤ length es)) (ClosedAs table N) ts (spec.elements_of bytes ts) _ (elements_law bytes N G G_drop named ts good) (λ es k all.
      kept_law (ClosedAs table N) (settled table es) (settled_law T N table es refl all.0 all.1))

  -- the name of a table that may stand behind these
  abbrev IsNew : List TableRead → List ℕ → Type 0
  IsNew tables n = N n × (spec.has_table tables n ≡ false) × (length tables < 256)

  table_name_law : (tables : List TableRead) (ts : Tokens) → G ts → IfRead (IsNew tables) (spec.table_name bytes tables ts)
  unfolding spec.table_name
  table_name_law tables ts good =
      read_followed (λ n. N n.name) (IsNew tables) ts (spec.name bytes ts) _ (named ts good) (λ n k is.
      cond_both (spec.has_table tables n.name) _ _ (IfRead (IsNew tables)) (λ _. tt)
      (λ new. cond_both (nat_le 256 (length tables)) _ _ (IfRead (IsNew tables)) (λ _. tt)
      (λ small. let few : length tables < 256 = grind (arith, nat_tests) in (is, new, few))))

  create_law : (tables : List TableRead) (ts : Tokens) → AreTables N tables → G ts → IfRead (λ t. AreTables N (tables ++ t ∷ [])) (spec.create bytes tables ts)
  unfolding spec.create
  create_law tables ts h good =
      let P : TableRead → Type 0 = λ t. AreTables N (tables ++ t ∷ []) in
      read_behind P ts (spec.if_not_exists bytes ts) _ (λ u k.
      let a = drop k ts in
      let ga = G_drop k ts good in
      read_followed (IsNew tables) P a (spec.table_name bytes tables a) _ (table_name_law tables a ga) (λ n m is.
      let b = drop m a in
      read_followed (ClosedAs n N) P b (spec.body bytes n b) _ (body_law n b (G_drop m a ga)) (λ t i closed.
      read_behind P (drop i b) (spec.ending bytes (drop i b)) _ (λ v j. one_more N tables n t h is.2 is.1 is.0 closed))))

  statement_law : (tables : List TableRead) (ts : Tokens) → AreTables N tables → G ts → IfRead (AreTables N) (spec.statement bytes tables ts)
  unfolding spec.statement
  statement_law tables ts h good =
      cond_both (at is_semi ts) _ _ (IfRead (AreTables N)) (λ _. h)
      (λ _. cond_both (at_word bytes (codes "create") ts && at_word bytes (codes "table") (drop 1 ts)) _ _ (IfRead (AreTables N))
      (λ _. read_plus (AreTables N) 2 _ (read_one_more (AreTables N) (spec.create bytes) tables (drop 2 ts) (create_law tables (drop 2 ts) h (G_drop 2 ts good)))) (λ _. tt))

  pub statements_law : (ts : Tokens) → G ts → IfRead (AreTables N) (spec.statements bytes ts)
  statements_law ts good = read_repeat bytes N G G_drop named (AreTables N) spec.some_left (spec.statement bytes) statement_law 0 [] ts (no_tables N) good
