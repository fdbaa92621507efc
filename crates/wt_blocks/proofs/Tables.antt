-- The table of a number is found by its name.
use Rattle.std.proofs.Common.{◌≡◌, ◌≢◌, ℕ, zero, suc, ◌<◌, ◌≤◌, true, false, ◌||◌, cond, List, [], ◌∷◌, map, length, refl, ap, ◌∙◌, arith}
use Rattle.std.specs.List.{All, list_any}
use Rattle.std.specs.Str.{bytes_eq}
use Rattle.std.proofs.lemmas.List.Elements.{All-head, All-tail}
use Rattle.wt_bag.specs.Bags.{Each}
use Rattle.wt_bag.specs.Choices.{Apart}
use Rattle.wt_schema.specs.declared.schema.Column as schema_columns
use Rattle.wt_schema.specs.declared.schema.Table.{Table}
use Rattle.wt_schema.specs.Lawful.{IsSchema, IsTable, width_of}
use Rattle.wt_query_rows.specs.Scopes.{columns_named, column_names}
use Rattle.wt_plan.specs.Regular.{column_kinds, table_kinds}
use Rattle.wt_plan.proofs.Upto.{length_map}
use Rattle.wt_query_plan.specs.Building.{table_number}
use Rattle.wt_blocks.specs.Printed.{table_name, table_columns}
use Rattle.wt_blocks.proofs.Naming.{same_bytes, other_bytes, apart_from}

-- what the name of a table of the schema finds
pub record Known (S : List Table) (n : ℕ) : Type 0 where
  pub there : list_any (λ (t : Table). bytes_eq t.name (table_name S n)) S ≡ true
  pub number : table_number S (table_name S n) ≡ n
  pub names : column_names (columns_named S (table_name S n)) ≡ table_columns S n
  pub kinds : column_kinds (columns_named S (table_name S n)) ≡ table_kinds S n
  pub as_many : length (columns_named S (table_name S n)) ≡ width_of S n

-- a later table's name is another one
other_name : (name : List ℕ) (ts : List Table) (n : ℕ) → Each (λ m. name ≢ m) (map (λ (t : Table). t.name) ts) → n < length ts → bytes_eq name (table_name ts n) ≡ false
other_name name [] n d l = absurd (let bad : ⊥ = omega (arith, l) in bad)
other_name name (t ∷ ts) zero d l = other_bytes name t.name d.0
other_name name (t ∷ ts) (suc n) d l = other_name name ts n d.1 (omega (arith, l))

known_by : (S : List Table) → Apart (map (λ (t : Table). t.name) S) → (n : ℕ) → n < length S → Known S n
known_by [] h n l = absurd (let bad : ⊥ = omega (arith, l) in bad)
known_by (t ∷ ts) h zero l =
    let e = same_bytes t.name in
    record {
      there = ap (λ b. b || list_any (λ (u : Table). bytes_eq u.name t.name) ts) e;
      number = ap (λ b. cond b 0 (suc (table_number ts t.name))) e;
      names = ap (λ b. column_names (cond b t.columns (columns_named ts t.name))) e;
      kinds = ap (λ b. column_kinds (cond b t.columns (columns_named ts t.name))) e;
      as_many = ap (λ b. length (cond b t.columns (columns_named ts t.name))) e;
    }
known_by (t ∷ ts) h (suc n) l =
    let name = table_name ts n in
    let m : n < length ts = omega (arith, l) in
    let e = other_name t.name ts n h.0 m in
    let k = known_by ts h.1 n m in
    record {
      there = ap (λ b. b || list_any (λ (u : Table). bytes_eq u.name name) ts) e ∙ k.there;
      number = ap (λ b. cond b 0 (suc (table_number ts name))) e ∙ ap suc k.number;
      names = ap (λ b. column_names (cond b t.columns (columns_named ts name))) e ∙ k.names;
      kinds = ap (λ b. column_kinds (cond b t.columns (columns_named ts name))) e ∙ k.kinds;
      as_many = ap (λ b. length (cond b t.columns (columns_named ts name))) e ∙ k.as_many;
    }

pub known : (S : List Table) → IsSchema S → (n : ℕ) → n < length S → Known S n
known S is n l = known_by S (apart_from (λ (t : Table). t.name) S is.differ) n l

-- ---- its columns

columns_apart : (all ts : List Table) → All (IsTable all) ts → (n : ℕ) → Apart (table_columns ts n)
columns_apart all [] h n = tt
columns_apart all (t ∷ ts) h zero =
    let is : IsTable all t = All-head (IsTable all) t ts h in
    apart_from (λ (c : schema_columns.Column). c.name) t.columns is.columns.differ
columns_apart all (t ∷ ts) h (suc n) = columns_apart all ts (All-tail (IsTable all) t ts h) n

pub columns_differ : (S : List Table) → IsSchema S → (n : ℕ) → Apart (table_columns S n)
columns_differ S is n = columns_apart S S is.each n

pub columns_count : (S : List Table) (n : ℕ) → length (table_columns S n) ≡ width_of S n
columns_count [] n = refl
columns_count (t ∷ ts) zero = length_map (λ (c : schema_columns.Column). c.name) t.columns
columns_count (t ∷ ts) (suc n) = columns_count ts n

some_columns : (all ts : List Table) → All (IsTable all) ts → (n : ℕ) → n < length ts → 1 ≤ width_of ts n
some_columns all [] h n l = absurd (let bad : ⊥ = omega (arith, l) in bad)
some_columns all (t ∷ ts) h zero l = let is : IsTable all t = All-head (IsTable all) t ts h in is.columns.some
some_columns all (t ∷ ts) h (suc n) l = some_columns all ts (All-tail (IsTable all) t ts h) n (omega (arith, l))

pub table_some : (S : List Table) → IsSchema S → (n : ℕ) → n < length S → 1 ≤ width_of S n
table_some S is n l = some_columns S S is.each n l
