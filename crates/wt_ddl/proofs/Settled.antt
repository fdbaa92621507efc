-- Settling an element leaves the columns.
use Rattle.std.proofs.Common.{◌≡◌, Bool, true, false, List, [], ◌∷◌, ◌++◌, refl, ap, sym, ◌∙◌, Ok, Err}
use Rattle.wt_ddl.specs.declared.syntax.Named.{Named}
use Rattle.wt_ddl.specs.declared.syntax.Target.{Target}
use Rattle.wt_ddl.specs.declared.syntax.ColumnRule.{ColumnRule}
use Rattle.wt_ddl.specs.declared.syntax.ColumnRule.TheVariants as own
use Rattle.wt_ddl.specs.declared.syntax.TableRule.{TableRule}
use Rattle.wt_ddl.specs.declared.syntax.TableRule.TheVariants as rules
use Rattle.wt_ddl.specs.declared.syntax.Element.{Element}
use Rattle.wt_ddl.specs.declared.syntax.Element.TheVariants as elements
use Rattle.wt_ddl.specs.declared.table.TableRead.{TableRead}
use Rattle.wt_ddl.specs.Refusals.{Checked, chain}
use Rattle.wt_ddl.specs.Settling.{in_turn, numbers, with_key, with_reference, add_key, add_reference, add_own, add_rule, add_element}

pub chain_ok : {A B : Type 0} (r : Checked A) (f : A → Checked B) (b : B) → chain r f ≡ Ok b → (a : A) × (r ≡ Ok a) × (f a ≡ Ok b)
chain_ok (Ok a) f b h = (a, refl, h)
chain_ok (Err e) f b h = absurd (cc)

key_columns : (t u : TableRead) (primary : Bool) (ns : List Named) → add_key t primary ns ≡ Ok u → u.columns ≡ t.columns
key_columns t u primary ns h =
    let c = chain_ok (numbers t.columns ns) (with_key t primary) u h in
    let e : record { name = t.name; columns = t.columns; keys = t.keys ++ record { columns = c.0; primary = primary } ∷ []; references = t.references } ≡ u = cc in ap (λ (x : TableRead). x.columns) (sym e)

reference_columns : (t u : TableRead) (ns : List Named) (target : Target) → add_reference t ns target ≡ Ok u → u.columns ≡ t.columns
reference_columns t u ns target h =
    let c = chain_ok (numbers t.columns ns) (with_reference t target) u h in
    let e : record { name = t.name; columns = t.columns; keys = t.keys; references = t.references ++ record { columns = c.0; target = target } ∷ [] } ≡ u = cc in ap (λ (x : TableRead). x.columns) (sym e)

pub add_own_columns : (n : Named) (t u : TableRead) (r : ColumnRule) → add_own n t r ≡ Ok u → u.columns ≡ t.columns
add_own_columns n t u own.NotNull h = let e : t ≡ u = cc in ap (λ (x : TableRead). x.columns) (sym e)
add_own_columns n t u own.Null h = let e : t ≡ u = cc in ap (λ (x : TableRead). x.columns) (sym e)
add_own_columns n t u own.PrimaryKey h = key_columns t u true (n ∷ []) h
add_own_columns n t u own.Unique h = key_columns t u false (n ∷ []) h
add_own_columns n t u (own.References target) h = reference_columns t u (n ∷ []) target h

add_rule_columns : (t u : TableRead) (r : TableRule) → add_rule t r ≡ Ok u → u.columns ≡ t.columns
add_rule_columns t u (rules.PrimaryKey ns) h = key_columns t u true ns h
add_rule_columns t u (rules.Unique ns) h = key_columns t u false ns h
add_rule_columns t u (rules.ForeignKey ns target) h = reference_columns t u ns target h

turns_columns : {X : Type 0} (step : TableRead → X → Checked TableRead) → ((t u : TableRead) (x : X) → step t x ≡ Ok u → u.columns ≡ t.columns)
    → (t u : TableRead) (xs : List X) → in_turn step t xs ≡ Ok u → u.columns ≡ t.columns
turns_columns step one t u [] h = let e : t ≡ u = cc in ap (λ (x : TableRead). x.columns) (sym e)
turns_columns step one t u (x ∷ xs) h =
    let c = chain_ok (step t x) (λ b. in_turn step b xs) u h in
    turns_columns step one c.0 u xs c.2 ∙ one t c.0 x c.1

pub add_element_columns : (t u : TableRead) (e : Element) → add_element t e ≡ Ok u → u.columns ≡ t.columns
add_element_columns t u (elements.Column c) h = turns_columns (add_own c.name) (add_own_columns c.name) t u c.rules h
add_element_columns t u (elements.Rule r) h = add_rule_columns t u r h
