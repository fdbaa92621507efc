-- A predicate over its own columns: they are numbered from 0 on, and it is typed as it was.
use Rattle.std.proofs.Common.{◌≡◌, ◌≢◌, ℕ, suc, ◌+◌, ◌<◌, nat_eq, Bool, true, false, not, cond, List, [], ◌∷◌, ◌++◌, map, filter, length, get_or, refl, sym, ap, ◌∙◌, inl, inr, arith, eq-eqb}
use Rattle.std.proofs.lemmas.Bool.{false≢true}
use borrow.Author.Tests.{eqb-true}
use Rattle.wt_bag.specs.Bags.{Each, distinct}
use Rattle.wt_bag.specs.Choices.{Apart, Has}
use Rattle.wt_bag.proofs.BagLaws.{distinct-map}
use Rattle.wt_bag.proofs.EachLaws.{each_append_left, each_append_right, each_implies, each_for, each_filter}
use Rattle.wt_pred.specs.declared.tree.Operand.{Operand}
use Rattle.wt_pred.specs.declared.tree.Operand.TheVariants.{Column, Constant}
use Rattle.wt_pred.specs.Tree.{PredTree, PredTrees, compare, is_null, is_not_null, in_list, all_of, any_of, negated, no_preds, pred_then}
use Rattle.wt_pred.specs.Columns.{operand_columns, occurring, occurring_in, columns, operand_renumbered, renumbered, all_renumbered, place_in}
use Rattle.wt_pred.proofs.Using.{columns_there}
use Rattle.wt_schema.specs.declared.schema.ColKind.{ColKind}
use Rattle.wt_plan.specs.Regular.{upto, kind_at, value_kind, operand_kind, ConstantOperand, Typed, AllTyped, HasConstants, AllConstants, IsNoAnd}
use Rattle.wt_place.proofs.Regularity.{each_passing}
use Rattle.wt_query_plan.proofs.Lookup.{map_append}

-- ---- distinct numbers, and their places

apart_filter : (p : ℕ → Bool) (xs : List ℕ) → Apart xs → Apart (filter p xs)
apart_filter p [] h = tt
apart_filter p (x ∷ xs) h = here (p x) (apart_filter p xs h.1)
  where
    here : (b : Bool) → Apart (filter p xs) → Apart (cond b (x ∷ filter p xs) (filter p xs))
    here true k = (each_filter (λ y. x ≢ y) p xs h.0, k)
    here false k = k

differ : (x y : ℕ) → not (nat_eq x y) ≡ true → x ≢ y
differ x y e same = false≢true (sym (ap not (eq-eqb x y same)) ∙ e)

pub apart_distinct : (xs : List ℕ) → Apart (distinct nat_eq xs)
apart_distinct [] = tt
apart_distinct (x ∷ xs) = (
  each_passing (λ y. x ≢ y) (λ y. not (nat_eq x y)) (distinct nat_eq xs) (each_for (distinct nat_eq xs) (differ x)),
  apart_filter (λ y. not (nat_eq x y)) (distinct nat_eq xs) (apart_distinct xs),
)

-- what is mapped from a number is found at its first place
pub at_first : {X : Type 0} (g : ℕ → X) (d : X) (k : ℕ) (cols : List ℕ) → Has k cols → get_or (map g cols) (place_in cols k) d ≡ g k
at_first g d k [] h = absurd h
at_first g d k (x ∷ cols) h = here (nat_eq k x) refl h (at_first g d k cols)
  where
    here : (b : Bool) → nat_eq k x ≡ b → Has k (x ∷ cols) → (Has k cols → get_or (map g cols) (place_in cols k) d ≡ g k)
        → get_or (g x ∷ map g cols) (cond (not b) (1 + place_in cols k) 0) d ≡ g k
    here true e h rest = ap g (sym (eqb-true k x e))
    here false e (inl same) rest = absurd (false≢true (sym e ∙ eq-eqb k x same))
    here false e (inr h) rest =
        let next : 1 + place_in cols k ≡ suc (place_in cols k) = omega arith in
        ap (λ n. get_or (g x ∷ map g cols) n d) next ∙ rest h

pub place_low : (k : ℕ) (cols : List ℕ) → Has k cols → place_in cols k < length cols
place_low k [] h = absurd h
place_low k (x ∷ cols) h = here (nat_eq k x) refl h (place_low k cols)
  where
    here : (b : Bool) → nat_eq k x ≡ b → Has k (x ∷ cols) → (Has k cols → place_in cols k < length cols) → cond (not b) (1 + place_in cols k) 0 < length (x ∷ cols)
    here true e h more = omega arith
    here false e (inl same) more = absurd (false≢true (sym e ∙ eq-eqb k x same))
    here false e (inr h) more = let m = more h in omega (arith, m)

place_injective : (cols : List ℕ) (x y : ℕ) → Has x cols → Has y cols → place_in cols x ≡ place_in cols y → x ≡ y
place_injective cols x y h k e = sym (at_first (λ n. n) 0 x cols h) ∙ ap (λ n. get_or (map (λ m. m) cols) n 0) e ∙ at_first (λ n. n) 0 y cols k

same_place : (cols : List ℕ) (x y : ℕ) → Has x cols → Has y cols → nat_eq (place_in cols x) (place_in cols y) ≡ nat_eq x y
same_place cols x y h k = here (nat_eq x y) (nat_eq (place_in cols x) (place_in cols y)) refl refl
  where
    here : (b c : Bool) → nat_eq x y ≡ b → nat_eq (place_in cols x) (place_in cols y) ≡ c → c ≡ b
    here true true e f = refl
    here false false e f = refl
    here true false e f = absurd (false≢true (sym f ∙ eq-eqb (place_in cols x) (place_in cols y) (ap (place_in cols) (eqb-true x y e))))
    here false true e f = absurd (false≢true (sym e ∙ eq-eqb x y (place_injective cols x y h k (eqb-true (place_in cols x) (place_in cols y) f))))

first_place : (x : ℕ) (cols : List ℕ) → place_in (x ∷ cols) x ≡ 0
first_place x cols = ap (λ b. cond (not b) (1 + place_in cols x) 0) (eq-eqb x x refl)

later_place : (x y : ℕ) (cols : List ℕ) → x ≢ y → place_in (x ∷ cols) y ≡ suc (place_in cols y)
later_place x y cols d = here (nat_eq y x) refl
  where
    here : (b : Bool) → nat_eq y x ≡ b → cond (not b) (1 + place_in cols y) 0 ≡ suc (place_in cols y)
    here true e = absurd (d (sym (eqb-true y x e)))
    here false e = omega arith

later_places : (x : ℕ) (cols ys : List ℕ) → Each (λ y. x ≢ y) ys → map (place_in (x ∷ cols)) ys ≡ map suc (map (place_in cols) ys)
later_places x cols [] h = refl
later_places x cols (y ∷ ys) h = λ i. later_place x y cols h.0 i ∷ later_places x cols ys h.1 i

in_turn : (cols : List ℕ) → Apart cols → map (place_in cols) cols ≡ upto (length cols)
in_turn [] h = refl
in_turn (x ∷ cols) h = λ i. first_place x cols i ∷ (later_places x cols cols h.0 ∙ ap (map suc) (in_turn cols h.1)) i

-- ---- the columns of a renumbered predicate

module _ (f : ℕ → ℕ) where
  operand_numbers : (o : Operand) → operand_columns (operand_renumbered f o) ≡ map f (operand_columns o)
  operand_numbers (Column k) = refl
  operand_numbers (Constant v) = refl

  mutual
    pub numbers : (p : PredTree) → occurring (renumbered f p) ≡ map f (occurring p)
    numbers (compare c a b) = (λ i. operand_numbers a i ++ operand_numbers b i) ∙ sym (map_append f (operand_columns a) (operand_columns b))
    numbers (is_null k) = refl
    numbers (is_not_null k) = refl
    numbers (in_list k vs) = refl
    numbers (all_of ps) = numbers_in ps
    numbers (any_of ps) = numbers_in ps
    numbers (negated p) = numbers p

    numbers_in : (ps : PredTrees) → occurring_in (all_renumbered f ps) ≡ map f (occurring_in ps)
    numbers_in no_preds = refl
    numbers_in (pred_then p ps) = (λ i. numbers p i ++ numbers_in ps i) ∙ sym (map_append f (occurring p) (occurring_in ps))

  pub no_and_there : (p : PredTree) → IsNoAnd p → IsNoAnd (renumbered f p)
  no_and_there (compare c a b) h = tt
  no_and_there (is_null k) h = tt
  no_and_there (is_not_null k) h = tt
  no_and_there (in_list k vs) h = tt
  no_and_there (all_of ps) h = h
  no_and_there (any_of ps) h = tt
  no_and_there (negated p) h = tt

  operand_constant : (o : Operand) → ConstantOperand o → ConstantOperand (operand_renumbered f o)
  operand_constant (Column k) h = tt
  operand_constant (Constant v) h = h

  mutual
    pub constants_there : (p : PredTree) → HasConstants p → HasConstants (renumbered f p)
    constants_there (compare c a b) h = (operand_constant a h.0, operand_constant b h.1)
    constants_there (is_null k) h = tt
    constants_there (is_not_null k) h = tt
    constants_there (in_list k vs) h = h
    constants_there (all_of ps) h = all_constants_there ps h
    constants_there (any_of ps) h = all_constants_there ps h
    constants_there (negated p) h = constants_there p h

    all_constants_there : (ps : PredTrees) → AllConstants ps → AllConstants (all_renumbered f ps)
    all_constants_there no_preds h = tt
    all_constants_there (pred_then p ps) h = (constants_there p h.0, all_constants_there ps h.1)

-- a predicate's own columns are numbered from 0 on, in the order of their first use
pub own_columns : (p : PredTree) → columns (renumbered (place_in (columns p)) p) ≡ upto (length (columns p))
own_columns p =
    let cols = columns p in
    ap (distinct nat_eq) (numbers (place_in cols) p)
    ∙ distinct-map nat_eq nat_eq (place_in cols) (λ c. Has c cols) (same_place cols) (occurring p) (columns_there [] cols p refl)
    ∙ in_turn cols (apart_distinct (occurring p))

-- ---- kinds

module _ (f : ℕ → ℕ) (ks ms : List ColKind) where
  abbrev pub Same : ℕ → Type 0
  Same k = kind_at ms (f k) ≡ kind_at ks k

  operand_typed : (o : Operand) → Each Same (operand_columns o) → operand_kind ms (operand_renumbered f o) ≡ operand_kind ks o
  operand_typed (Column k) h = h.0
  operand_typed (Constant v) h = refl

  -- where each column's number is of its kind
  mutual
    pub typed_there : (p : PredTree) → Each Same (occurring p) → Typed ks p → Typed ms (renumbered f p)
    typed_there (compare c a b) h t = operand_typed a (each_append_left Same (operand_columns a) (operand_columns b) h) ∙ t ∙ sym (operand_typed b (each_append_right Same (operand_columns a) (operand_columns b) h))
    typed_there (is_null k) h t = tt
    typed_there (is_not_null k) h t = tt
    typed_there (in_list k vs) h t = each_implies (λ v. kind_at ks k ≡ value_kind v) (λ v. kind_at ms (f k) ≡ value_kind v) vs (λ v e. h.0 ∙ e) t
    typed_there (all_of ps) h t = all_typed_there ps h t
    typed_there (any_of ps) h t = all_typed_there ps h t
    typed_there (negated p) h t = typed_there p h t

    all_typed_there : (ps : PredTrees) → Each Same (occurring_in ps) → AllTyped ks ps → AllTyped ms (all_renumbered f ps)
    all_typed_there no_preds h t = tt
    all_typed_there (pred_then p ps) h t = (
      typed_there p (each_append_left Same (occurring p) (occurring_in ps) h) t.0,
      all_typed_there ps (each_append_right Same (occurring p) (occurring_in ps) h) t.1,
    )

module _ (ks ms : List ColKind) where
  abbrev pub Alike : ℕ → Type 0
  Alike k = kind_at ms k ≡ kind_at ks k

  operand_alike : (o : Operand) → Each Alike (operand_columns o) → operand_kind ms o ≡ operand_kind ks o
  operand_alike (Column k) h = h.0
  operand_alike (Constant v) h = refl

  -- the same columns among others
  mutual
    pub typed_among : (p : PredTree) → Each Alike (occurring p) → Typed ks p → Typed ms p
    typed_among (compare c a b) h t = operand_alike a (each_append_left Alike (operand_columns a) (operand_columns b) h) ∙ t ∙ sym (operand_alike b (each_append_right Alike (operand_columns a) (operand_columns b) h))
    typed_among (is_null k) h t = tt
    typed_among (is_not_null k) h t = tt
    typed_among (in_list k vs) h t = each_implies (λ v. kind_at ks k ≡ value_kind v) (λ v. kind_at ms k ≡ value_kind v) vs (λ v e. h.0 ∙ e) t
    typed_among (all_of ps) h t = all_typed_among ps h t
    typed_among (any_of ps) h t = all_typed_among ps h t
    typed_among (negated p) h t = typed_among p h t

    all_typed_among : (ps : PredTrees) → Each Alike (occurring_in ps) → AllTyped ks ps → AllTyped ms ps
    all_typed_among no_preds h t = tt
    all_typed_among (pred_then p ps) h t = (
      typed_among p (each_append_left Alike (occurring p) (occurring_in ps) h) t.0,
      all_typed_among ps (each_append_right Alike (occurring p) (occurring_in ps) h) t.1,
    )
