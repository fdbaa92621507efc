-- A column that is written with its alias is found where it stands: no two columns of a zone have the same alias and name.
use Rattle.std.proofs.Common.{◌≡◌, ◌≢◌, ℕ, zero, suc, ◌+◌, ◌<◌, ◌≤◌, ◌^◌, Bool, true, false, ◌&&◌, cond, List, [], ◌∷◌, ◌++◌, map, filter, length, get_or, drop, Some, None, refl, sym, ap, subst, ◌∙◌, arith}
use Rattle.std.specs.List.{AllPairs}
use Rattle.std.specs.Str.{bytes_eq}
use Rattle.std.proofs.lemmas.Fmt.{decimal_injective}
use Rattle.std.proofs.lemmas.List.{get_or-append-add, get_or_append_left}
use Rattle.std.proofs.lemmas.Slice.Eq.{bytes_eq-Decides}
use Rattle.wt_bag.specs.Bags.{Each}
use Rattle.wt_bag.specs.Choices.{Apart}
use Rattle.wt_bag.proofs.EachLaws.{each_append, each_map, each_implies}
use Rattle.wt_ast.specs.declared.tree.ColumnName.{ColumnName}
use Rattle.wt_query_rows.specs.declared.scope.ScopeColumn.{ScopeColumn}
use Rattle.wt_query_rows.specs.Scopes.{fits, in_scope}
use Rattle.wt_query_plan.specs.Building.{place_of}
use Rattle.wt_blocks.specs.Printed.{alias_of, place_name, written, column_at}

-- ---- lists

pub each_at : {X : Type 0} (P : X → Type 0) (xs : List X) → Each P xs → (k : ℕ) (d : X) → k < length xs → P (get_or xs k d)
each_at P [] h k d l = absurd (let bad : ⊥ = omega (arith, l) in bad)
each_at P (x ∷ xs) h zero d l = h.0
each_at P (x ∷ xs) h (suc k) d l = each_at P xs h.1 k d (omega (arith, l))

pub each_from_all : {X : Type 0} (P : X → Type 0) (xs : List X) → ((k : ℕ) (d : X) → k < length xs → P (get_or xs k d)) → Each P xs
each_from_all P [] h = tt
each_from_all P (x ∷ xs) h = (h 0 x (omega arith), each_from_all P xs (λ k d l. h (suc k) d (omega (arith, l))))

pub apart_from : {X : Type 0} (name : X → List ℕ) (xs : List X) → AllPairs (λ a b. name a ≢ name b) xs → Apart (map name xs)
apart_from name [] h = tt
apart_from name (x ∷ xs) h = (
  each_map (λ n. name x ≢ n) name xs (each_from_all (λ y. name x ≢ name y) xs (λ k d l. h 0 (suc k) d (omega arith) (omega (arith, l)))),
  apart_from name xs (λ i j d l m. h (suc i) (suc j) d (omega (arith, l)) (omega (arith, m))),
)

pub apart_named : (f : ℕ → List ℕ) (P : ℕ → Type 0) → ((x y : ℕ) → P x → P y → f x ≡ f y → x ≡ y) → (xs : List ℕ) → Each P xs → Apart xs → Apart (map f xs)
apart_named f P inj [] p h = tt
apart_named f P inj (x ∷ xs) p h = (each_map (λ y. f x ≢ y) f xs (others xs p.1 h.0), apart_named f P inj xs p.1 h.1)
  where
    others : (ys : List ℕ) → Each P ys → Each (λ y. x ≢ y) ys → Each (λ y. f x ≢ f y) ys
    others [] q d = tt
    others (y ∷ ys) q d = ((λ e. d.0 (inj x y p.0 q.0 e)), others ys q.1 d.1)

-- ---- names

pub same_bytes : (xs : List ℕ) → bytes_eq xs xs ≡ true
same_bytes xs = (bytes_eq-Decides xs xs).1 refl

pub other_bytes : (xs ys : List ℕ) → xs ≢ ys → bytes_eq xs ys ≡ false
other_bytes xs ys d = by (bytes_eq xs ys) refl
  where
    by : (b : Bool) → bytes_eq xs ys ≡ b → b ≡ false
    by false e = refl
    by true e = absurd (d ((bytes_eq-Decides xs ys).0 e))

pub alias_injective : (m n : ℕ) → m < 2 ^ 64 → n < 2 ^ 64 → alias_of m ≡ alias_of n → m ≡ n
alias_injective m n h k e = decimal_injective m n h k (ap (drop 1) e)

pub place_injective : (m n : ℕ) → m < 2 ^ 64 → n < 2 ^ 64 → place_name m ≡ place_name n → m ≡ n
place_injective m n h k e = decimal_injective m n h k (ap (drop 1) e)

-- ---- columns that differ, in alias or name

abbrev pub Differ : ScopeColumn → ScopeColumn → Type 0
Differ s t = (fits (written s) t ≡ false) × (fits (written t) s ≡ false)

abbrev pub AllDiffer : List ScopeColumn → Type 0
AllDiffer [] = Unit {0}
AllDiffer (s ∷ ss) = Each (Differ s) ss × AllDiffer ss

and_false : (b : Bool) → (b && false) ≡ false
and_false true = refl
and_false false = refl

pub other_alias : (s t : ScopeColumn) → s.alias ≢ t.alias → Differ s t
other_alias s t d = (ap (λ b. b && bytes_eq s.name t.name) (other_bytes s.alias t.alias d), ap (λ b. b && bytes_eq t.name s.name) (other_bytes t.alias s.alias (λ e. d (sym e))))

pub other_name : (s t : ScopeColumn) → s.name ≢ t.name → Differ s t
other_name s t d = (
  ap (λ b. bytes_eq s.alias t.alias && b) (other_bytes s.name t.name d) ∙ and_false (bytes_eq s.alias t.alias),
  ap (λ b. bytes_eq t.alias s.alias && b) (other_bytes t.name s.name (λ e. d (sym e))) ∙ and_false (bytes_eq t.alias s.alias),
)

pub fits_itself : (s : ScopeColumn) → fits (written s) s ≡ true
fits_itself s = ap (λ b. b && bytes_eq s.name s.name) (same_bytes s.alias) ∙ same_bytes s.name

pub differ_append : (xs ys : List ScopeColumn) → AllDiffer xs → AllDiffer ys → Each (λ s. Each (Differ s) ys) xs → AllDiffer (xs ++ ys)
differ_append [] ys h k d = k
differ_append (x ∷ xs) ys h k d = (each_append (Differ x) xs ys h.0 d.0, differ_append xs ys h.1 k d.1)

-- the columns of one FROM item
pub differ_named : (alias : List ℕ) (names : List (List ℕ)) → Apart names → AllDiffer (map (in_scope alias) names)
differ_named alias [] h = tt
differ_named alias (n ∷ names) h = (
  each_map (Differ (in_scope alias n)) (in_scope alias) names (each_implies (λ m. n ≢ m) (λ m. Differ (in_scope alias n) (in_scope alias m)) names (λ m d. other_name (in_scope alias n) (in_scope alias m) d) h.0),
  differ_named alias names h.1,
)

-- ---- a column is found at its place, and there alone

pub nowhere : ScopeColumn
nowhere = in_scope [] []

pub record Found (scope : List ScopeColumn) (c : ColumnName) (k : ℕ) : Type 0 where
  pub place : place_of scope c ≡ k
  pub once : length (filter (fits c) scope) ≡ 1

none_fits : (c : ColumnName) (scope : List ScopeColumn) → Each (λ s. fits c s ≡ false) scope → filter (fits c) scope ≡ []
none_fits c [] h = refl
none_fits c (s ∷ scope) h = ap (λ b. cond b (s ∷ filter (fits c) scope) (filter (fits c) scope)) h.0 ∙ none_fits c scope h.1

found : (scope : List ScopeColumn) → AllDiffer scope → (k : ℕ) → k < length scope → Found scope (column_at scope k) k
found [] h k l = absurd (let bad : ⊥ = omega (arith, l) in bad)
found (s ∷ scope) h zero l = record {
  place = ap (λ b. cond b 0 (suc (place_of scope (written s)))) (fits_itself s);
  once =
      ap (λ b. length (cond b (s ∷ filter (fits (written s)) scope) (filter (fits (written s)) scope))) (fits_itself s)
      ∙ ap (λ l. length (s ∷ l)) (none_fits (written s) scope (each_implies (Differ s) (λ t. fits (written s) t ≡ false) scope (λ t d. d.0) h.0));
}
found (s ∷ scope) h (suc k) l =
    let c = column_at scope k in
    let m : k < length scope = omega (arith, l) in
    let f : Found scope c k = found scope h.1 k m in
    let e : fits c s ≡ false = (each_at (Differ s) scope h.0 k (in_scope [] []) m).1 in
    record {
      place = ap (λ b. cond b 0 (suc (place_of scope c))) e ∙ ap suc f.place;
      once = ap (λ b. length (cond b (s ∷ filter (fits c) scope) (filter (fits c) scope))) e ∙ f.once;
    }

-- ---- columns that stand in a scope from a place on

pub record Stands (scope : List ScopeColumn) (d : ℕ) (columns : List ScopeColumn) : Type 0 where
  pub room : d + length columns ≤ length scope
  pub same : (k : ℕ) → k < length columns → get_or scope (d + k) (in_scope [] []) ≡ get_or columns k (in_scope [] [])

pub stands_whole : (scope : List ScopeColumn) → Stands scope 0 scope
stands_whole scope = record { room = omega arith; same = λ k l. let e : 0 + k ≡ k = omega arith in ap (λ n. get_or scope n (in_scope [] [])) e }

pub stands_left : (scope : List ScopeColumn) (d : ℕ) (xs ys : List ScopeColumn) → Stands scope d (xs ++ ys) → Stands scope d xs
stands_left scope d xs ys h = record {
  room = omega (arith, h.room, Rattle.std.proofs.Common.length-append xs ys);
  same = λ k l. h.same k (omega (arith, l, Rattle.std.proofs.Common.length-append xs ys)) ∙ get_or_append_left xs ys (in_scope [] []) k l;
}

pub stands_right : (scope : List ScopeColumn) (d : ℕ) (xs ys : List ScopeColumn) → Stands scope d (xs ++ ys) → Stands scope (d + length xs) ys
stands_right scope d xs ys h = record {
  room = omega (arith, h.room, Rattle.std.proofs.Common.length-append xs ys);
  same = λ k l.
      let e : (d + length xs) + k ≡ d + (length xs + k) = omega arith in
      ap (λ n. get_or scope n (in_scope [] [])) e ∙ h.same (length xs + k) (omega (arith, l, Rattle.std.proofs.Common.length-append xs ys)) ∙ get_or-append-add xs ys k (in_scope [] []);
}

pub found_there : (scope : List ScopeColumn) → AllDiffer scope → (d : ℕ) (columns : List ScopeColumn) → Stands scope d columns → (k : ℕ) → k < length columns → Found scope (column_at columns k) (d + k)
found_there scope h d columns s k l =
    subst (λ (t : ScopeColumn). Found scope (written t) (d + k)) (s.same k l) (found scope h (d + k) (omega (arith, l, s.room)))
