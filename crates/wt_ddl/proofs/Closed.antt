-- A table whose parenthesis is closed has columns, and keys and references over them.
use Rattle.std.proofs.Common.{◌≡◌, ◌≢◌, ℕ, ◌+◌, ◌<◌, ◌≤◌, Bool, true, false, List, [], ◌∷◌, length, refl, ap, sym, subst, arith, length-append, Option, Some, None, Ok, Err}
use Rattle.std.specs.Prelude.{position, nat_lt}
use Rattle.std.specs.List.{All, AllPairs, position_or_len}
use Rattle.std.proofs.lemmas.Bool.{cond_both}
use Rattle.std.proofs.lemmas.Bool.Decides.{nat_tests}
use Rattle.std.proofs.lemmas.List.Elements.{All-push, All-nil, All-head, All-tail}
use Rattle.wt_schema.specs.declared.schema.Column.{Column}
use Rattle.wt_schema.specs.Lawful.{IsKey}
use Rattle.wt_schema.specs.Lookup.{column_number}
use Rattle.wt_ddl.specs.declared.syntax.Named.{Named}
use Rattle.wt_ddl.specs.declared.syntax.Target.{Target}
use Rattle.wt_ddl.specs.declared.syntax.ColumnRule.{ColumnRule}
use Rattle.wt_ddl.specs.declared.syntax.ColumnRule.TheVariants as own
use Rattle.wt_ddl.specs.declared.syntax.TableRule.{TableRule}
use Rattle.wt_ddl.specs.declared.syntax.TableRule.TheVariants as rules
use Rattle.wt_ddl.specs.declared.syntax.Element.{Element}
use Rattle.wt_ddl.specs.declared.syntax.Element.TheVariants as elements
use Rattle.wt_ddl.specs.declared.table.OpenReference.{OpenReference}
use Rattle.wt_ddl.specs.declared.table.TableRead.{TableRead}
use Rattle.wt_ddl.specs.Refusals.{Checked, chain}
use Rattle.wt_ddl.specs.Settling.{columns_of, in_turn, is_among, new_number, list_one, numbers, with_key, with_reference, add_key, add_reference, add_own, add_rule, add_element, settled}
use Rattle.wt_ddl.proofs.Lawful.{IsListed, HasLists, AreElements}

-- ---- what holds of a value, where there is one

abbrev pub IfDone : {A : Type 0} → (A → Type 0) → Checked A → Type 0
IfDone P (Ok a) = P a
IfDone P (Err e) = Unit {0}

pub done_chain : {A B : Type 0} (P : A → Type 0) (Q : B → Type 0) (r : Checked A) (f : A → Checked B) → IfDone P r → ((a : A) → P a → IfDone Q (f a)) → IfDone Q (chain r f)
done_chain P Q (Ok a) f h k = k a h
done_chain P Q (Err e) f h k = tt

pub done_turns : {A X : Type 0} (P : A → Type 0) (step : A → X → Checked A) → ((a : A) (x : X) → P a → IfDone P (step a x)) → (a : A) (xs : List X) → P a → IfDone P (in_turn step a xs)
done_turns P step each a [] h = h
done_turns {A} P step each a (x ∷ xs) h = by (step a x) (each a x h) (λ b hb. done_turns P step each b xs hb)
  where
    by : (r : Checked A) → IfDone P r → ((b : A) → P b → IfDone P (in_turn step b xs)) → IfDone P (chain r (λ b. in_turn step b xs))
    by (Ok b) hr next = next b hr
    by (Err e) hr next = tt

pub done_is : {A : Type 0} (P : A → Type 0) (r : Checked A) (a : A) → IfDone P r → r ≡ Ok a → P a
done_is {A} P r a h e = let Q : Checked A → Type 0 = IfDone P in subst Q e h

-- ---- numbers of columns

abbrev pub IfFound : (ℕ → Type 0) → Option ℕ → Type 0
IfFound P (Some n) = P n
IfFound P None = Unit {0}

pub position_within : {X : Type 0} (p : X → Bool) (xs : List X) → IfFound (λ n. n < length xs) (position p xs)
position_within p xs =
    cond_both (nat_lt (position_or_len p xs) (length xs)) _ _ (IfFound (λ n. n < length xs)) (λ h. grind (arith, nat_tests)) (λ _. tt)

abbrev pub Within : ℕ → List ℕ → Type 0
Within width ns = All (λ c. c < width) ns

list_one_law : (columns : List Column) (seen : List ℕ) (n : Named) → Within (length columns) seen → IfDone (λ more. Within (length columns) more × (length more ≡ length seen + 1)) (list_one columns seen n)
list_one_law columns seen n h = by (column_number columns n.name) (position_within _ columns)
  where
    by : (r : Option ℕ) → IfFound (λ k. k < length columns) r → IfDone (λ more. Within (length columns) more × (length more ≡ length seen + 1)) (new_number seen r n.at)
    by None found = tt
    by (Some k) found =
        cond_both (is_among k seen) _ _ (IfDone (λ more. Within (length columns) more × (length more ≡ length seen + 1))) (λ _. tt)
        (λ _. (All-push (λ c. c < length columns) seen k h found, length-append seen (k ∷ [])))

listed_law : (columns : List Column) (ns : List Named) (seen : List ℕ) → Within (length columns) seen
    → IfDone (λ all. Within (length columns) all × (length all ≡ length seen + length ns)) (in_turn (list_one columns) seen ns)
listed_law columns [] seen h = (h, omega arith)
listed_law columns (n ∷ ns) seen h =
    done_chain (λ more. Within (length columns) more × (length more ≡ length seen + 1)) (λ all. Within (length columns) all × (length all ≡ length seen + length (n ∷ ns)))
    (list_one columns seen n) (λ more. in_turn (list_one columns) more ns) (list_one_law columns seen n h)
    (λ more k. longer more k (listed_law columns ns more k.0))
  where
    longer : (more : List ℕ) → Within (length columns) more × (length more ≡ length seen + 1) → IfDone (λ all. Within (length columns) all × (length all ≡ length more + length ns)) (in_turn (list_one columns) more ns)
        → IfDone (λ all. Within (length columns) all × (length all ≡ length seen + length (n ∷ ns))) (in_turn (list_one columns) more ns)
    longer more k d = weaker (in_turn (list_one columns) more ns) d
      where
        weaker : (r : Checked (List ℕ)) → IfDone (λ all. Within (length columns) all × (length all ≡ length more + length ns)) r → IfDone (λ all. Within (length columns) all × (length all ≡ length seen + length (n ∷ ns))) r
        weaker (Ok all) x = (x.0, omega (arith, x.1, k.1))
        weaker (Err e) x = tt

abbrev pub SomeWithin : ℕ → List ℕ → Type 0
SomeWithin width ns = (1 ≤ length ns) × Within width ns

pub numbers_law : (columns : List Column) (ns : List Named) → 1 ≤ length ns → IfDone (SomeWithin (length columns)) (numbers columns ns)
numbers_law columns ns h = by (in_turn (list_one columns) [] ns) (listed_law columns ns [] (All-nil (λ c. c < length columns)))
  where
    by : (r : Checked (List ℕ)) → IfDone (λ all. Within (length columns) all × (length all ≡ length {A = ℕ} [] + length ns)) r → IfDone (SomeWithin (length columns)) r
    by (Ok all) x = (omega (arith, x.1, h), x.0)
    by (Err e) x = tt

-- ---- keys and references

pub record IsOpen (width : ℕ) (r : OpenReference) : Type 0 where
  pub some : 1 ≤ length r.columns
  pub within : Within width r.columns

pub record IsSettling (name : List ℕ) (columns : List Column) (t : TableRead) : Type 0 where
  pub named : t.name ≡ name
  pub same : t.columns ≡ columns
  pub keys : All (IsKey (length columns)) t.keys
  pub references : All (IsOpen (length columns)) t.references

some_width : (width : ℕ) (cs : List ℕ) → SomeWithin width cs → 1 ≤ width
some_width width [] h = absurd (omega (arith, h.0))
some_width width (c ∷ cs) h = let l : c < width = All-head (λ c. c < width) c cs h.1 in omega arith

-- a list that has numbers shows that the table has a column
abbrev Shown : List ℕ → List Column → TableRead → Type 0
Shown name columns t = IsSettling name columns t × (1 ≤ length columns)

key_law : (name : List ℕ) (columns : List Column) (t : TableRead) (primary : Bool) (ns : List Named) → IsSettling name columns t → 1 ≤ length ns → IfDone (Shown name columns) (add_key t primary ns)
key_law name columns t primary ns h some =
    done_chain (SomeWithin (length columns)) (Shown name columns) (numbers t.columns ns) (with_key t primary)
    (subst (λ cs. IfDone (SomeWithin (length columns)) (numbers cs ns)) (sym h.same) (numbers_law columns ns some))
    (λ cs found. (
      record {
        named = h.named;
        same = h.same;
        keys = All-push (IsKey (length columns)) t.keys (record { columns = cs; primary = primary }) h.keys (record { some = found.0; within = found.1 });
        references = h.references;
      },
      some_width (length columns) cs found,
    ))

reference_law : (name : List ℕ) (columns : List Column) (t : TableRead) (target : Target) (ns : List Named) → IsSettling name columns t → 1 ≤ length ns → IfDone (Shown name columns) (add_reference t ns target)
reference_law name columns t target ns h some =
    done_chain (SomeWithin (length columns)) (Shown name columns) (numbers t.columns ns) (with_reference t target)
    (subst (λ cs. IfDone (SomeWithin (length columns)) (numbers cs ns)) (sym h.same) (numbers_law columns ns some))
    (λ cs found. (
      record {
        named = h.named;
        same = h.same;
        keys = h.keys;
        references = All-push (IsOpen (length columns)) t.references (record { columns = cs; target = target }) h.references (record { some = found.0; within = found.1 });
      },
      some_width (length columns) cs found,
    ))

shown_first : (name : List ℕ) (columns : List Column) (r : Checked TableRead) → IfDone (Shown name columns) r → IfDone (IsSettling name columns) r
shown_first name columns (Ok t) h = h.0
shown_first name columns (Err e) h = tt

own_law : (name : List ℕ) (columns : List Column) (n : Named) (t : TableRead) (r : ColumnRule) → IsSettling name columns t → IfDone (IsSettling name columns) (add_own n t r)
own_law name columns n t own.NotNull h = h
own_law name columns n t own.Null h = h
own_law name columns n t own.PrimaryKey h = shown_first name columns (add_key t true (n ∷ [])) (key_law name columns t true (n ∷ []) h (omega arith))
own_law name columns n t own.Unique h = shown_first name columns (add_key t false (n ∷ [])) (key_law name columns t false (n ∷ []) h (omega arith))
own_law name columns n t (own.References target) h = shown_first name columns (add_reference t (n ∷ []) target) (reference_law name columns t target (n ∷ []) h (omega arith))

rule_law : (name : List ℕ) (columns : List Column) (t : TableRead) (r : TableRule) → IsSettling name columns t → IsListed r → IfDone (Shown name columns) (add_rule t r)
rule_law name columns t (rules.PrimaryKey ns) h k = key_law name columns t true ns h k
rule_law name columns t (rules.Unique ns) h k = key_law name columns t false ns h k
rule_law name columns t (rules.ForeignKey ns target) h k = reference_law name columns t target ns h k

element_law : (name : List ℕ) (columns : List Column) (t : TableRead) (e : Element) → IsSettling name columns t → HasLists e → IfDone (IsSettling name columns) (add_element t e)
element_law name columns t (elements.Column c) h k = done_turns (IsSettling name columns) (add_own c.name) (λ u r g. own_law name columns c.name u r g) t c.rules h
element_law name columns t (elements.Rule r) h k = shown_first name columns (add_rule t r) (rule_law name columns t r h k)

elements_law : (name : List ℕ) (columns : List Column) (es : List Element) (t : TableRead) → IsSettling name columns t → All HasLists es → IfDone (IsSettling name columns) (in_turn add_element t es)
elements_law name columns [] t h k = h
elements_law name columns (e ∷ es) t h k =
    done_chain (IsSettling name columns) (IsSettling name columns) (add_element t e) (λ u. in_turn add_element u es) (element_law name columns t e h (All-head HasLists e es k))
    (λ u g. elements_law name columns es u g (All-tail HasLists e es k))

-- a table of some elements has a column
first_law : (name : List ℕ) (columns : List Column) (e : Element) (es : List Element) (t : TableRead) → columns ≡ columns_of (e ∷ es) → IsSettling name columns t → All HasLists (e ∷ es)
    → IfDone (Shown name columns) (in_turn add_element t (e ∷ es))
first_law name columns (elements.Column c) es t is h k =
    both (in_turn add_element t (elements.Column c ∷ es)) (elements_law name columns (elements.Column c ∷ es) t h k)
  where
    both : (r : Checked TableRead) → IfDone (IsSettling name columns) r → IfDone (Shown name columns) r
    both (Ok u) g = (g, omega (arith, ap length is))
    both (Err f) g = tt
first_law name columns (elements.Rule r) es t is h k =
    done_chain (Shown name columns) (Shown name columns) (add_rule t r) (λ u. in_turn add_element u es) (rule_law name columns t r h (All-head HasLists (elements.Rule r) es k))
    (λ u g. both (in_turn add_element u es) g.1 (elements_law name columns es u g.0 (All-tail HasLists (elements.Rule r) es k)))
  where
    both : (r : Checked TableRead) → 1 ≤ length columns → IfDone (IsSettling name columns) r → IfDone (Shown name columns) r
    both (Ok u) some g = (g, some)
    both (Err f) some g = tt

-- a table that is closed, but for the targets of its references
pub record IsClosed (T N : List ℕ → Type 0) (t : TableRead) : Type 0 where
  pub name : T t.name
  pub some : 1 ≤ length t.columns
  pub few : length t.columns ≤ 64
  pub named : All (λ c. N c.name) t.columns
  pub differ : AllPairs (λ a b. a.name ≢ b.name) t.columns
  pub keys : All (IsKey (length t.columns)) t.keys
  pub references : All (IsOpen (length t.columns)) t.references

pub settled_law : (T N : List ℕ → Type 0) (name : List ℕ) (es : List Element) → T name → AreElements N es → 1 ≤ length es → IfDone (IsClosed T N) (settled name es)
unfolding settled
settled_law T N name [] is h some = absurd (omega arith)
settled_law T N name (e ∷ es) is h some =
    closed (in_turn add_element start (e ∷ es))
    (first_law name columns e es start refl (record { named = refl; same = refl; keys = All-nil (IsKey (length columns)); references = All-nil (IsOpen (length columns)) }) h.listed)
  where
    columns : List Column
    columns = columns_of (e ∷ es)

    start : TableRead
    start = record { name = name; columns = columns; keys = []; references = [] }

    closed : (r : Checked TableRead) → IfDone (Shown name columns) r → IfDone (IsClosed T N) r
    closed (Ok u) (g, width) =
        let same : length u.columns ≡ length columns = ap length g.same in
        record {
          name = subst T (sym g.named) is;
          some = omega (arith, same, width);
          few = omega (arith, same, h.few);
          named = subst (λ (cs : List Column). All (λ c. N c.name) cs) (sym g.same) h.named;
          differ = subst (λ (cs : List Column). AllPairs (λ a b. a.name ≢ b.name) cs) (sym g.same) h.differ;
          keys = subst (λ w. All (IsKey w) u.keys) (sym same) g.keys;
          references = subst (λ w. All (IsOpen w) u.references) (sym same) g.references;
        }
    closed (Err f) x = tt
