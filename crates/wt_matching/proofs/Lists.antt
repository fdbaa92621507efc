-- Lists mapped, appended and made of each element; rows and places of plans under the names that the laws here use beside those of
-- instances.
use Rattle.std.proofs.Common.{◌≡◌, ℕ, zero, suc, ◌+◌, ◌<◌, Bool, List, [], ◌∷◌, ◌++◌, map, length, length-append, refl, ap, ◌∙◌, arith}
use Rattle.std.specs.Prelude.{◌||◌, flat_map, slice_index_or}
use Rattle.std.specs.List.{list_any}
use Rattle.wt_bag.specs.Bags.{Each}
use Rattle.wt_value.specs.declared.value.Value.{Value}
use Rattle.wt_value.specs.declared.value.Truth.{Truth}
use Rattle.wt_value.specs.Values.{Tuple, value_at}
use Rattle.wt_plan.specs.Tree.{PlanTree}
use Rattle.wt_plan.specs.Measures.{width}
use Rattle.wt_plan.specs.Rows as plans

-- the value of a row at a place
abbrev pub at_place : Tuple → ℕ → Value
at_place row c = value_at row c

-- whether a truth value is True
abbrev pub is_so : Truth → Bool
is_so t = plans.is_true t

-- a left row with each right row that it matches
abbrev pub pairs : List ℕ → List ℕ → Tuple → List Tuple → List Tuple
pairs a b left rights = plans.joined a b left rights

-- each row is as wide as the plan says
abbrev pub AreWide : List (List Tuple) → PlanTree → Type 0
AreWide base p = Each (λ row. length row ≡ width p) (plans.plan_rows base p)

pub both_parts : {X : Type 0} (xs ys vs ws : List X) → xs ≡ vs → ys ≡ ws → xs ++ ys ≡ vs ++ ws
both_parts xs ys vs ws e f = ap (λ (l : List _). l ++ ys) e ∙ ap (λ (l : List _). vs ++ l) f

pub map_ext : {X Y : Type 0} (f g : X → Y) (xs : List X) → ((x : X) → f x ≡ g x) → map f xs ≡ map g xs
map_ext f g [] h = refl
map_ext f g (x ∷ xs) h = both_ends (f x) (g x) (map f xs) (map g xs) (h x) (map_ext f g xs h)
  where
    both_ends : {Z : Type 0} (x y : Z) (xs ys : List Z) → x ≡ y → xs ≡ ys → x ∷ xs ≡ y ∷ ys
    both_ends x y xs ys e f = cc

pub map_append : {X Y : Type 0} (f : X → Y) (xs ys : List X) → map f (xs ++ ys) ≡ map f xs ++ map f ys
map_append f [] ys = refl
map_append f (x ∷ xs) ys = ap (λ (l : List _). f x ∷ l) (map_append f xs ys)

pub length_append : {X : Type 0} (xs ys : List X) → length (xs ++ ys) ≡ length xs + length ys
length_append xs ys = length-append xs ys

pub flat_map_map : {X Y Z : Type 0} (f : X → Y) (g : Y → List Z) (xs : List X) → flat_map g (map f xs) ≡ flat_map (λ x. g (f x)) xs
flat_map_map f g [] = refl
flat_map_map f g (x ∷ xs) = ap (λ (l : List _). g (f x) ++ l) (flat_map_map f g xs)

pub map_flat_map : {X Y Z : Type 0} (f : X → List Y) (g : Y → Z) (xs : List X) → map g (flat_map f xs) ≡ flat_map (λ x. map g (f x)) xs
map_flat_map f g [] = refl
map_flat_map f g (x ∷ xs) = map_append g (f x) (flat_map f xs) ∙ ap (λ (l : List _). map g (f x) ++ l) (map_flat_map f g xs)

pub flat_map_each : {X Y : Type 0} (f g : X → List Y) (xs : List X) → Each (λ x. f x ≡ g x) xs → flat_map f xs ≡ flat_map g xs
flat_map_each f g [] h = refl
flat_map_each f g (x ∷ xs) h = both_parts (f x) (flat_map f xs) (g x) (flat_map g xs) h.0 (flat_map_each f g xs h.1)

pub list_any_map : {X Y : Type 0} (p : Y → Bool) (f : X → Y) (xs : List X) → list_any p (map f xs) ≡ list_any (λ x. p (f x)) xs
list_any_map p f [] = refl
list_any_map p f (x ∷ xs) = ap (λ b. p (f x) || b) (list_any_map p f xs)

pub index_map : {X Y : Type 0} (f : X → Y) (xs : List X) (k : ℕ) (d : X) (e : Y) → k < length xs → slice_index_or (map f xs) k e ≡ f (slice_index_or xs k d)
index_map f [] k d e h = absurd (omega (arith, h))
index_map f (x ∷ xs) zero d e h = refl
index_map f (x ∷ xs) (suc k) d e h = index_map f xs k d e (omega (arith, h))
