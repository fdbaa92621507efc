-- Tables with their references are a schema.
use Rattle.std.proofs.Common.{◌≡◌, ◌≢◌, ℕ, zero, suc, ◌+◌, ◌<◌, ◌≤◌, true, List, [], ◌∷◌, ◌++◌, length, refl, ap, sym, subst, arith, length-append, append-nil, append_assoc, Option, Some, None, Ok, Err}
use Rattle.std.specs.Prelude.{slice_get, ◌==◌}
use Rattle.std.specs.List.{All, AllPairs, list_any, find}
use Rattle.std.proofs.lemmas.Bool.{cond_both}
use Rattle.std.proofs.lemmas.Bool.Decides.{nat_tests}
use Rattle.std.proofs.lemmas.List.Elements.{All-push, All-nil, All-cons, All-head, All-tail}
use Rattle.std.proofs.lemmas.List.Kept.{AllPairs-cons}
use Rattle.wt_schema.specs.declared.schema.Column.{Column}
use Rattle.wt_schema.specs.declared.schema.Reference.{Reference}
use Rattle.wt_schema.specs.declared.schema.Table.{Table}
use Rattle.wt_schema.specs.Lawful.{IsName, IsReference, IsTable, IsSchema, width_of}
use Rattle.wt_schema.specs.declared.schema.Key.{Key}
use Rattle.wt_schema.specs.Lawful.{IsKey}
use Rattle.wt_schema.specs.Lookup.{column_number}
use Rattle.wt_ddl.specs.declared.syntax.Named.{Named}
use Rattle.wt_ddl.specs.declared.table.OpenReference.{OpenReference}
use Rattle.wt_ddl.specs.declared.table.TableRead.{TableRead}
use Rattle.wt_ddl.specs.Refusals.{Checked}
use Rattle.wt_ddl.specs.Settling.{in_turn}
use Rattle.wt_ddl.specs.Linking.{table_number, found, find_one, has_exactly, same_kinds, of_width, named_target, target_columns, linked_at, linked_by, linked, link_one, link_table, with_links, all_with_links, linked_tables}
use Rattle.wt_ddl.proofs.Closed.{IfDone, done_chain, IfFound, position_within, Within, IsOpen, IsClosed}
use Rattle.wt_ddl.proofs.Created.{AreTables}

-- ---- the columns of a target

find_one_law : (columns : List Column) (seen : List ℕ) (n : Named) → Within (length columns) seen → IfDone (λ more. Within (length columns) more × (length more ≡ length seen + 1)) (find_one columns seen n)
find_one_law columns seen n h = by (column_number columns n.name) (position_within _ columns)
  where
    by : (r : Option ℕ) → IfFound (λ k. k < length columns) r → IfDone (λ more. Within (length columns) more × (length more ≡ length seen + 1)) (found seen r n.at)
    by None l = tt
    by (Some k) l = (All-push (λ c. c < length columns) seen k h l, length-append seen (k ∷ []))

found_law : (columns : List Column) (ns : List Named) (seen : List ℕ) → Within (length columns) seen
    → IfDone (λ all. Within (length columns) all × (length all ≡ length seen + length ns)) (in_turn (find_one columns) seen ns)
found_law columns [] seen h = (h, omega arith)
found_law columns (n ∷ ns) seen h =
    done_chain (λ more. Within (length columns) more × (length more ≡ length seen + 1)) (λ all. Within (length columns) all × (length all ≡ length seen + length (n ∷ ns)))
    (find_one columns seen n) (λ more. in_turn (find_one columns) more ns) (find_one_law columns seen n h)
    (λ more k. longer more k (in_turn (find_one columns) more ns) (found_law columns ns more k.0))
  where
    longer : (more : List ℕ) → Within (length columns) more × (length more ≡ length seen + 1) → (r : Checked (List ℕ)) → IfDone (λ all. Within (length columns) all × (length all ≡ length more + length ns)) r
        → IfDone (λ all. Within (length columns) all × (length all ≡ length seen + length (n ∷ ns))) r
    longer more k (Ok all) x = (x.0, omega (arith, x.1, k.1))
    longer more k (Err e) x = tt

abbrev OfWidth : ℕ → ℕ → List ℕ → Type 0
OfWidth columns width ns = Within columns ns × (length ns ≡ width)

same_number : (a b : ℕ) → (a == b) ≡ true → a ≡ b
same_number a b h = grind (arith, nat_tests)

find_law : (columns : ℕ) (keys : List Key) → All (IsKey columns) keys → (width at : ℕ) → IfDone (OfWidth columns width) (of_width (find (λ k. k.primary) keys) width at)
find_law columns [] h width at = tt
find_law columns (k ∷ ks) h width at =
    cond_both k.primary (Some k) (find (λ k. k.primary) ks) (λ o. IfDone (OfWidth columns width) (of_width o width at))
    (λ _. cond_both (length k.columns == width) _ _ (IfDone (OfWidth columns width)) (λ e. ((All-head (IsKey columns) k ks h).within, same_number (length k.columns) width e)) (λ _. tt))
    (λ _. find_law columns ks (All-tail (IsKey columns) k ks h) width at)

named_law : (t : TableRead) (ns : List Named) (width at : ℕ) → IfDone (OfWidth (length t.columns) width) (named_target t ns width at)
named_law t ns width at =
    cond_both (length ns == width) _ _ (IfDone (OfWidth (length t.columns) width))
    (λ e. done_chain (λ all. Within (length t.columns) all × (length all ≡ length {A = ℕ} [] + length ns)) (OfWidth (length t.columns) width) (in_turn (find_one t.columns) [] ns) _
    (found_law t.columns ns [] (All-nil (λ c. c < length t.columns)))
    (λ all x. cond_both (list_any (has_exactly all) t.keys) _ _ (IfDone (OfWidth (length t.columns) width)) (λ _. (x.0, omega (arith, x.1, same_number (length ns) width e))) (λ _. tt)))
    (λ _. tt)

target_law : (t : TableRead) (ns : Option (List Named)) (width at : ℕ) → All (IsKey (length t.columns)) t.keys → IfDone (OfWidth (length t.columns) width) (target_columns t ns width at)
target_law t None width at h = find_law (length t.columns) t.keys h width at
target_law t (Some ns) width at h = named_law t ns width at

-- ---- one reference

abbrev pub width_at : List TableRead → ℕ → ℕ
width_at [] n = 0
width_at (t ∷ ts) zero = length t.columns
width_at (t ∷ ts) (suc n) = width_at ts n

pub record IsLinked (tables : List TableRead) (width : ℕ) (r : Reference) : Type 0 where
  pub some : 1 ≤ length r.columns
  pub equally_many : length r.target ≡ length r.columns
  pub within : Within width r.columns
  pub table : r.table < length tables
  pub target : Within (width_at tables r.table) r.target

place_of : (N : List ℕ → Type 0) (tables : List TableRead) (n : ℕ) (t : TableRead) → All (IsClosed N N) tables → slice_get tables n ≡ Some t → (n < length tables) × (width_at tables n ≡ length t.columns) × IsClosed N N t
place_of N [] n t h e = absurd (cc)
place_of N (x ∷ xs) zero t h e =
    let same : x ≡ t = cc in
    (omega arith, ap (λ (y : TableRead). length y.columns) same, subst (IsClosed N N) same (All-head (IsClosed N N) x xs h))
place_of N (x ∷ xs) (suc n) t h e =
    let (l, w, c) = place_of N xs n t (All-tail (IsClosed N N) x xs h) e in
    (omega arith, w, c)

linked_law : (N : List ℕ → Type 0) (tables : List TableRead) (columns : List Column) (r : OpenReference) → All (IsClosed N N) tables → IsOpen (length columns) r
    → IfDone (IsLinked tables (length columns)) (linked tables columns r)
unfolding linked
linked_law N tables columns r h is = by (table_number tables r.target.table.name)
  where
    at_table : (n : ℕ) (o : Option TableRead) → slice_get tables n ≡ o → IfDone (IsLinked tables (length columns)) (linked_at columns r n o)
    at_table n None e = tt
    at_table n (Some t) e =
        let (l, w, c) = place_of N tables n t h e in
        done_chain (OfWidth (length t.columns) (length r.columns)) (IsLinked tables (length columns)) (target_columns t r.target.columns (length r.columns) r.target.table.at) _
        (target_law t r.target.columns (length r.columns) r.target.table.at c.keys)
        (λ there x. cond_both (same_kinds columns r.columns t.columns there) _ _ (IfDone (IsLinked tables (length columns)))
        (λ _. record { some = is.some; equally_many = x.1; within = is.within; table = l; target = subst (λ k. Within k there) (sym w) x.0 })
        (λ _. tt))

    by : (o : Option ℕ) → IfDone (IsLinked tables (length columns)) (linked_by tables columns r o)
    by None = tt
    by (Some n) = at_table n (slice_get tables n) refl

-- ---- all references

links_law : (N : List ℕ → Type 0) (tables : List TableRead) (columns : List Column) (rs : List OpenReference) (done : List Reference) → All (IsClosed N N) tables → All (IsOpen (length columns)) rs
    → All (IsLinked tables (length columns)) done → IfDone (All (IsLinked tables (length columns))) (in_turn (link_one tables columns) done rs)
links_law N tables columns [] done h is so = so
links_law N tables columns (r ∷ rs) done h is so =
    done_chain (All (IsLinked tables (length columns))) (All (IsLinked tables (length columns))) (link_one tables columns done r) (λ more. in_turn (link_one tables columns) more rs)
    (done_chain (IsLinked tables (length columns)) (All (IsLinked tables (length columns))) (linked tables columns r) (λ one. Ok (done ++ one ∷ []))
    (linked_law N tables columns r h (All-head (IsOpen (length columns)) r rs is)) (λ one k. All-push (IsLinked tables (length columns)) done one so k))
    (λ more k. links_law N tables columns rs more h (All-tail (IsOpen (length columns)) r rs is) k)

-- the references of each of these tables
abbrev LinkedBy : List TableRead → List TableRead → List (List Reference) → Type 0
LinkedBy tables [] [] = Unit {0}
LinkedBy tables (t ∷ ts) (l ∷ ls) = All (IsLinked tables (length t.columns)) l × LinkedBy tables ts ls
LinkedBy tables _ _ = ⊥

linked_push : (tables ts : List TableRead) (ls : List (List Reference)) (t : TableRead) (l : List Reference) → LinkedBy tables ts ls → All (IsLinked tables (length t.columns)) l → LinkedBy tables (ts ++ t ∷ []) (ls ++ l ∷ [])
linked_push tables [] [] t l h k = (k, tt)
linked_push tables [] (m ∷ ls) t l h k = absurd h
linked_push tables (x ∷ ts) [] t l h k = absurd h
linked_push tables (x ∷ ts) (m ∷ ls) t l h k = (h.0, linked_push tables ts ls t l h.1 k)

tables_law : (N : List ℕ → Type 0) (tables before ts : List TableRead) (done : List (List Reference)) → All (IsClosed N N) tables → All (IsClosed N N) ts → LinkedBy tables before done
    → IfDone (LinkedBy tables (before ++ ts)) (in_turn (link_table tables) done ts)
tables_law N tables before [] done h is so = subst (λ (l : List TableRead). LinkedBy tables l done) (sym (append-nil before)) so
tables_law N tables before (t ∷ ts) done h is so =
    done_chain (LinkedBy tables (before ++ t ∷ [])) (LinkedBy tables (before ++ t ∷ ts)) (link_table tables done t) (λ more. in_turn (link_table tables) more ts)
    (done_chain (All (IsLinked tables (length t.columns))) (LinkedBy tables (before ++ t ∷ [])) (in_turn (link_one tables t.columns) [] t.references) (λ links. Ok (done ++ links ∷ []))
    (links_law N tables t.columns t.references [] h (All-head (IsClosed N N) t ts is).references (All-nil (IsLinked tables (length t.columns))))
    (λ links k. linked_push tables before done t links so k))
    (λ more k. moved (in_turn (link_table tables) more ts) (tables_law N tables (before ++ t ∷ []) ts more h (All-tail (IsClosed N N) t ts is) k))
  where
    moved : (r : Checked (List (List Reference))) → IfDone (LinkedBy tables ((before ++ t ∷ []) ++ ts)) r → IfDone (LinkedBy tables (before ++ t ∷ ts)) r
    moved (Ok ls) x = subst (λ (l : List TableRead). LinkedBy tables l ls) (append_assoc before (t ∷ []) ts) x
    moved (Err e) x = tt

-- ---- the schema

length_with : (all ts : List TableRead) (ls : List (List Reference)) → LinkedBy all ts ls → length (all_with_links ts ls) ≡ length ts
length_with all [] [] h = refl
length_with all [] (l ∷ ls) h = absurd h
length_with all (t ∷ ts) [] h = absurd h
length_with all (t ∷ ts) (l ∷ ls) h = omega (arith, length_with all ts ls h.1)

width_with : (all ts : List TableRead) (ls : List (List Reference)) (n : ℕ) → LinkedBy all ts ls → width_at ts n ≡ width_of (all_with_links ts ls) n
width_with all [] [] n h = refl
width_with all [] (l ∷ ls) n h = absurd h
width_with all (t ∷ ts) [] n h = absurd h
width_with all (t ∷ ts) (l ∷ ls) zero h = refl
width_with all (t ∷ ts) (l ∷ ls) (suc n) h = width_with all ts ls n h.1

others_differ : (all ts : List TableRead) (ls : List (List Reference)) (name : List ℕ) → LinkedBy all ts ls → All (λ (b : TableRead). name ≢ b.name) ts → All (λ (b : Table). name ≢ b.name) (all_with_links ts ls)
others_differ all [] [] name h d = All-nil (λ (b : Table). name ≢ b.name)
others_differ all [] (l ∷ ls) name h d = absurd h
others_differ all (t ∷ ts) [] name h d = absurd h
others_differ all (t ∷ ts) (l ∷ ls) name h d =
    All-cons (λ (b : Table). name ≢ b.name) (with_links t l) (all_with_links ts ls) (All-head (λ (b : TableRead). name ≢ b.name) t ts d)
    (others_differ all ts ls name h.1 (All-tail (λ (b : TableRead). name ≢ b.name) t ts d))

pairs_head : {X : Type 0} (R : X → X → Type 0) (x : X) (xs : List X) → AllPairs R (x ∷ xs) → All (R x) xs
pairs_head R x xs h k d l = h 0 (suc k) d (omega arith) (omega arith)

pairs_tail : {X : Type 0} (R : X → X → Type 0) (x : X) (xs : List X) → AllPairs R (x ∷ xs) → AllPairs R xs
pairs_tail R x xs h i j d l m = h (suc i) (suc j) d (omega arith) (omega arith)

all_differ : (all ts : List TableRead) (ls : List (List Reference)) → LinkedBy all ts ls → AllPairs (λ (a b : TableRead). a.name ≢ b.name) ts → AllPairs (λ (a b : Table). a.name ≢ b.name) (all_with_links ts ls)
all_differ all [] [] h d = λ i j x l m. absurd (omega arith)
all_differ all [] (l ∷ ls) h d = absurd h
all_differ all (t ∷ ts) [] h d = absurd h
all_differ all (t ∷ ts) (l ∷ ls) h d =
    AllPairs-cons (λ (a b : Table). a.name ≢ b.name) (with_links t l) (all_with_links ts ls)
    (others_differ all ts ls t.name h.1 (pairs_head (λ (a b : TableRead). a.name ≢ b.name) t ts d))
    (all_differ all ts ls h.1 (pairs_tail (λ (a b : TableRead). a.name ≢ b.name) t ts d))

references_law : (all : List TableRead) (tables : List Table) (width : ℕ) → length tables ≡ length all → ((n : ℕ) → width_at all n ≡ width_of tables n) → (rs : List Reference) → All (IsLinked all width) rs → All (IsReference tables width) rs
references_law all tables width same widths [] h = All-nil (IsReference tables width)
references_law all tables width same widths (r ∷ rs) h =
    let is = All-head (IsLinked all width) r rs h in
    All-cons (IsReference tables width) r rs
    (record { some = is.some; equally_many = is.equally_many; within = is.within; table = omega (arith, is.table, same); target = subst (λ k. Within k r.target) (widths r.table) is.target })
    (references_law all tables width same widths rs (All-tail (IsLinked all width) r rs h))

each_law : (all : List TableRead) (tables : List Table) → length tables ≡ length all → ((n : ℕ) → width_at all n ≡ width_of tables n) → (ts : List TableRead) (ls : List (List Reference)) → LinkedBy all ts ls
    → All (IsClosed IsName IsName) ts → All (IsTable tables) (all_with_links ts ls)
each_law all tables same widths [] [] h is = All-nil (IsTable tables)
each_law all tables same widths [] (l ∷ ls) h is = absurd h
each_law all tables same widths (t ∷ ts) [] h is = absurd h
each_law all tables same widths (t ∷ ts) (l ∷ ls) h is =
    let c = All-head (IsClosed IsName IsName) t ts is in
    All-cons (IsTable tables) (with_links t l) (all_with_links ts ls)
    (record {
      name = c.name;
      columns = record { some = c.some; few = c.few; differ = c.differ; named = c.named };
      keys = c.keys;
      references = references_law all tables (length t.columns) same widths l h.0;
    })
    (each_law all tables same widths ts ls h.1 (All-tail (IsClosed IsName IsName) t ts is))

pub linked_tables_law : (tables : List TableRead) → AreTables IsName tables → IfDone IsSchema (linked_tables tables)
unfolding linked_tables
linked_tables_law tables h =
    done_chain (LinkedBy tables tables) IsSchema (in_turn (link_table tables) [] tables) _ (tables_law IsName tables [] tables [] h.closed h.closed tt) (λ links k.
    let same = length_with tables tables links k in
    record {
      few = omega (arith, same, h.few);
      differ = all_differ tables tables links k h.differ;
      each = each_law tables (all_with_links tables links) same (λ n. width_with tables tables links n k) tables links k h.closed;
    })
