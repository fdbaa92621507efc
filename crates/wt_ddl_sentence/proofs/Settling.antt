-- Numbers for names, and targets for references: what is refused there is refused for names.
use Rattle.std.proofs.Common.{◌≡◌, ℕ, true, Bool, false, List, [], ◌∷◌, length, refl, Option, Some, None, Ok, Err}
use Rattle.std.specs.Prelude.{if◌then◌else◌, ◌==◌, slice_get}
use Rattle.std.specs.List.{find, list_any}
use Rattle.wt_ddl.specs.Settling as spec
use Rattle.wt_ddl.specs.Settling.{in_turn}
use Rattle.wt_ddl.specs.Refusals.{Checked, chain}
use Rattle.wt_schema.specs.Lookup.{column_number}
use Rattle.wt_ddl.specs.declared.syntax.ColumnRule.TheVariants as own
use Rattle.wt_ddl.specs.declared.syntax.TableRule.TheVariants as rules
use Rattle.wt_ddl.specs.declared.syntax.Element.TheVariants as elements
use Rattle.wt_ddl.specs.Linking as linking
use Rattle.wt_ddl_sentence.specs.Faults.{is_of_names}

abbrev pub OfNames : {A : Type 0} → Checked A → Type 0
OfNames (Ok x) = Unit {0}
OfNames (Err e) = is_of_names e.0 ≡ true

either_names : {A : Type 0} (b : Bool) (r s : Checked A) → OfNames r → OfNames s → OfNames (if b then r else s)
either_names true r s h k = h
either_names false r s h k = k

chain_names : {A B : Type 0} (r : Checked A) (f : A → Checked B) → OfNames r → ((a : A) → OfNames (f a)) → OfNames (chain r f)
chain_names (Ok a) f h k = k a
chain_names (Err e) f h k = h

in_turn_names : {A X : Type 0} (step : A → X → Checked A) → ((a : A) (x : X) → OfNames (step a x)) → (a : A) (xs : List X) → OfNames (in_turn step a xs)
in_turn_names step each a [] = tt
in_turn_names step each a (x ∷ xs) = chain_names (step a x) (λ b. in_turn step b xs) (each a x) (λ b. in_turn_names step each b xs)

-- ---- column lists

new_number_names : (seen : List ℕ) (o : Option ℕ) (at : ℕ) → OfNames (spec.new_number seen o at)
new_number_names seen None at = refl
new_number_names seen (Some n) at = either_names (spec.is_among n seen) _ _ refl tt

listed_names : (columns : _) (ns : _) → OfNames (in_turn (spec.list_one columns) [] ns)
listed_names columns ns = in_turn_names (spec.list_one columns) (λ seen n. new_number_names seen (column_number columns n.name) n.at) [] ns

key_names : (t : _) (primary : Bool) (ns : _) → OfNames (spec.add_key t primary ns)
key_names t primary ns = chain_names (spec.numbers t.columns ns) (spec.with_key t primary) (listed_names t.columns ns) (λ cs. tt)

reference_names : (t : _) (ns : _) (target : _) → OfNames (spec.add_reference t ns target)
reference_names t ns target = chain_names (spec.numbers t.columns ns) (spec.with_reference t target) (listed_names t.columns ns) (λ cs. tt)

own_names : (n : _) (t : _) (r : _) → OfNames (spec.add_own n t r)
own_names n t own.NotNull = tt
own_names n t own.Null = tt
own_names n t own.PrimaryKey = key_names t true (n ∷ [])
own_names n t own.Unique = key_names t false (n ∷ [])
own_names n t (own.References target) = reference_names t (n ∷ []) target

rule_names : (t : _) (r : _) → OfNames (spec.add_rule t r)
rule_names t (rules.PrimaryKey ns) = key_names t true ns
rule_names t (rules.Unique ns) = key_names t false ns
rule_names t (rules.ForeignKey ns target) = reference_names t ns target

element_names : (t : _) (e : _) → OfNames (spec.add_element t e)
element_names t (elements.Column c) = in_turn_names (spec.add_own c.name) (own_names c.name) t c.rules
element_names t (elements.Rule r) = rule_names t r

pub settled_names : (name : List ℕ) (es : _) → OfNames (spec.settled name es)
unfolding spec.settled
settled_names name es = in_turn_names spec.add_element element_names _ es

-- ---- targets of references

found_names : (seen : List ℕ) (o : Option ℕ) (at : ℕ) → OfNames (linking.found seen o at)
found_names seen None at = refl
found_names seen (Some n) at = tt

width_names : (o : Option _) (width at : ℕ) → OfNames (linking.of_width o width at)
width_names None width at = refl
width_names (Some k) width at = either_names (length k.columns == width) _ _ tt refl

named_names : (t : _) (ns : _) (width at : ℕ) → OfNames (linking.named_target t ns width at)
named_names t ns width at =
    either_names (length ns == width) _ _
    (chain_names (in_turn (linking.find_one t.columns) [] ns) _ (in_turn_names (linking.find_one t.columns) (λ seen n. found_names seen (column_number t.columns n.name) n.at) [] ns)
    (λ columns. either_names (list_any (linking.has_exactly columns) t.keys) _ _ tt refl)) refl

target_names : (t : _) (o : Option _) (width at : ℕ) → OfNames (linking.target_columns t o width at)
target_names t None width at = width_names (find (λ k. k.primary) t.keys) width at
target_names t (Some ns) width at = named_names t ns width at

linked_to_names : (columns : _) (r : _) (n : ℕ) (t : _) → OfNames (linking.linked_to columns r n t)
linked_to_names columns r n t =
    chain_names (linking.target_columns t r.target.columns (length r.columns) r.target.table.at) _ (target_names t r.target.columns (length r.columns) r.target.table.at)
    (λ there. either_names (linking.same_kinds columns r.columns t.columns there) _ _ tt refl)

linked_at_names : (columns : _) (r : _) (n : ℕ) (o : Option _) → OfNames (linking.linked_at columns r n o)
linked_at_names columns r n None = refl
linked_at_names columns r n (Some t) = linked_to_names columns r n t

linked_by_names : (tables : _) (columns : _) (r : _) (o : Option ℕ) → OfNames (linking.linked_by tables columns r o)
linked_by_names tables columns r None = refl
linked_by_names tables columns r (Some n) = linked_at_names columns r n (slice_get tables n)

linked_names : (tables : _) (columns : _) (r : _) → OfNames (linking.linked tables columns r)
unfolding linking.linked
linked_names tables columns r = linked_by_names tables columns r (linking.table_number tables r.target.table.name)

link_one_names : (tables : _) (columns : _) (done : _) (r : _) → OfNames (linking.link_one tables columns done r)
link_one_names tables columns done r = chain_names (linking.linked tables columns r) _ (linked_names tables columns r) (λ one. tt)

link_table_names : (tables : _) (done : _) (t : _) → OfNames (linking.link_table tables done t)
link_table_names tables done t =
    chain_names (in_turn (linking.link_one tables t.columns) [] t.references) _ (in_turn_names (linking.link_one tables t.columns) (link_one_names tables t.columns) [] t.references) (λ links. tt)

-- tables with their references, or a fault of names
pub linked_tables_names : (tables : _) → OfNames (linking.linked_tables tables)
unfolding linking.linked_tables
linked_tables_names tables = chain_names (in_turn (linking.link_table tables) [] tables) _ (in_turn_names (linking.link_table tables) (link_table_names tables) [] tables) (λ links. tt)
