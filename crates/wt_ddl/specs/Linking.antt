-- What stands behind the last statement: each reference's target, in text order.
use Rattle.std.specs.Prelude.{position, slice_get, map, ℕ, zero, suc, Bool, true, false, ◌&&◌, if◌then◌else◌, ◌==◌, List, [], ◌∷◌, ◌++◌, length, Option, Some, None, Ok, Err}
use Rattle.std.specs.List.{list_any, list_all, find, zip}
use Rattle.std.specs.Str.{bytes_eq}
use Rattle.wt_schema.specs.declared.schema.ColKind.{ColKind}
use Rattle.wt_schema.specs.declared.schema.ColKind.TheVariants as col
use Rattle.wt_schema.specs.declared.schema.Column.{Column}
use Rattle.wt_schema.specs.declared.schema.Key.{Key}
use Rattle.wt_schema.specs.declared.schema.Reference.{Reference}
use Rattle.wt_schema.specs.declared.schema.Table.{Table}
use Rattle.wt_ddl.specs.declared.fault.DdlFault.{DdlFault}
use Rattle.wt_ddl.specs.declared.fault.DdlFault.TheVariants as fault
use Rattle.wt_ddl.specs.declared.syntax.Named.{Named}
use Rattle.wt_ddl.specs.declared.table.OpenReference.{OpenReference}
use Rattle.wt_ddl.specs.declared.table.TableRead.{TableRead}
use Rattle.wt_schema.specs.Lookup.{column_number}
use Rattle.wt_ddl.specs.Refusals.{refused, Checked, chain}
use Rattle.wt_ddl.specs.Settling.{in_turn, is_among}

-- the number of the table of a name
abbrev pub table_number : List TableRead → List ℕ → Option ℕ
table_number tables name = position (λ t. bytes_eq t.name name) tables

abbrev pub wrong : {A : Type 0} → DdlFault → ℕ → Checked A
wrong f at = Err (refused f, at)

-- the number of a named column of the target, which must be there
abbrev pub found : List ℕ → Option ℕ → ℕ → Checked (List ℕ)
found seen None at = wrong fault.UnknownColumn at
found seen (Some n) at = Ok (seen ++ n ∷ [])

abbrev pub find_one : List Column → List ℕ → Named → Checked (List ℕ)
find_one columns seen n = found seen (column_number columns n.name) n.at

-- a key has exactly these columns, in any order
abbrev pub has_exactly : List ℕ → Key → Bool
has_exactly columns key = (length key.columns == length columns) && list_all (λ c. is_among c columns) key.columns

abbrev pub same_kind : ColKind → ColKind → Bool
same_kind col.Int col.Int = true
same_kind col.Text col.Text = true
same_kind _ _ = false

-- the kind of the column of a number
abbrev pub kind_at : List Column → ℕ → ColKind
kind_at [] n = col.Int
kind_at (c ∷ cs) zero = c.kind
kind_at (c ∷ cs) (suc n) = kind_at cs n

abbrev pub same_kinds : List Column → List ℕ → List Column → List ℕ → Bool
same_kinds here (c ∷ cs) there (d ∷ ds) = same_kind (kind_at here c) (kind_at there d) && same_kinds here cs there ds
same_kinds here _ there _ = true

abbrev pub of_width : Option Key → ℕ → ℕ → Checked (List ℕ)
of_width None width at = wrong fault.ReferenceNotKey at
of_width (Some k) width at = if length k.columns == width then Ok k.columns else wrong fault.ReferenceWidth at

-- without named columns: the target's primary key, then as many columns
abbrev pub primary_target : List Key → ℕ → ℕ → Checked (List ℕ)
primary_target keys width at = of_width (find (λ k. k.primary) keys) width at

-- with named columns: as many columns, each known, and a key of exactly these
abbrev pub named_target : TableRead → List Named → ℕ → ℕ → Checked (List ℕ)
named_target t ns width at =
    if length ns == width then
    chain (in_turn (find_one t.columns) [] ns) (λ columns. if list_any (has_exactly columns) t.keys then Ok columns else wrong fault.ReferenceNotKey at)
    else wrong fault.ReferenceWidth at

abbrev pub target_columns : TableRead → Option (List Named) → ℕ → ℕ → Checked (List ℕ)
target_columns t None width at = primary_target t.keys width at
target_columns t (Some ns) width at = named_target t ns width at

-- and last the same kinds, pair by pair
abbrev pub linked_to : List Column → OpenReference → ℕ → TableRead → Checked Reference
linked_to columns r n t =
    chain (target_columns t r.target.columns (length r.columns) r.target.table.at) (λ there.
    if same_kinds columns r.columns t.columns there then Ok (record { columns = r.columns; table = n; target = there })
    else wrong fault.ReferenceTypes r.target.table.at)

abbrev pub linked_at : List Column → OpenReference → ℕ → Option TableRead → Checked Reference
linked_at columns r n None = wrong fault.UnknownTable r.target.table.at
linked_at columns r n (Some t) = linked_to columns r n t

abbrev pub linked_by : List TableRead → List Column → OpenReference → Option ℕ → Checked Reference
linked_by tables columns r None = wrong fault.UnknownTable r.target.table.at
linked_by tables columns r (Some n) = linked_at columns r n (slice_get tables n)

-- a reference of a table with these columns
unfoldable pub linked : List TableRead → List Column → OpenReference → Checked Reference
linked tables columns r = linked_by tables columns r (table_number tables r.target.table.name)

abbrev pub link_one : List TableRead → List Column → List Reference → OpenReference → Checked (List Reference)
link_one tables columns done r = chain (linked tables columns r) (λ one. Ok (done ++ one ∷ []))

-- the references of one table
abbrev pub link_table : List TableRead → List (List Reference) → TableRead → Checked (List (List Reference))
link_table tables done t = chain (in_turn (link_one tables t.columns) [] t.references) (λ links. Ok (done ++ links ∷ []))

abbrev pub with_links : TableRead → List Reference → Table
with_links t links = record { name = t.name; columns = t.columns; keys = t.keys; references = links }

abbrev pub all_with_links : List TableRead → List (List Reference) → List Table
all_with_links tables links = map (λ p. with_links p.0 p.1) (zip tables links)

-- the tables with their references, or the first fault of a reference
unfoldable pub linked_tables : List TableRead → Checked (List Table)
linked_tables tables = chain (in_turn (link_table tables) [] tables) (λ links. Ok (all_with_links tables links))
