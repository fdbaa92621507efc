-- The first conjunct of an ON that is refused, as a loop looks for it.
use Rattle.std.proofs.Common.{◌≡◌, ℕ, nat_eq, Bool, true, false, not, ◌&&◌, ◌||◌, cond, List, [], ◌∷◌, map, filter, Option, Some, None, is_some, refl, sym, ap, ◌∙◌}
use Rattle.std.specs.List.{list_any, list_all}
use Rattle.wt_bag.specs.Bags.{distinct}
use Rattle.wt_pred.specs.Columns.{occurring, columns}
use Rattle.wt_query_plan.specs.Building.{Conjunct, keeps, is_in, conjunct_columns}
use Rattle.wt_conjunct.specs.Views.{columns_once}
use borrow.Author.Tests.{eqb-true}

-- a test of all columns, or of some, is one of the columns that occur
all_of_others : (t : ℕ → Bool) (x : ℕ) (xs : List ℕ) → t x ≡ true → list_all t (filter (λ y. not (nat_eq x y)) xs) ≡ list_all t xs
all_of_others t x [] e = refl
all_of_others t x (y ∷ xs) e = here (nat_eq x y) refl (all_of_others t x xs e)
  where
    here : (b : Bool) → nat_eq x y ≡ b → list_all t (filter (λ z. not (nat_eq x z)) xs) ≡ list_all t xs → list_all t (cond (not b) (y ∷ filter (λ z. not (nat_eq x z)) xs) (filter (λ z. not (nat_eq x z)) xs)) ≡ t y && list_all t xs
    here true same h = h ∙ ap (λ b. b && list_all t xs) (sym (ap t (sym (eqb-true x y same)) ∙ e))
    here false f h = ap (λ b. t y && b) h

some_of_others : (t : ℕ → Bool) (x : ℕ) (xs : List ℕ) → t x ≡ false → list_any t (filter (λ y. not (nat_eq x y)) xs) ≡ list_any t xs
some_of_others t x [] e = refl
some_of_others t x (y ∷ xs) e = here (nat_eq x y) refl (some_of_others t x xs e)
  where
    here : (b : Bool) → nat_eq x y ≡ b → list_any t (filter (λ z. not (nat_eq x z)) xs) ≡ list_any t xs → list_any t (cond (not b) (y ∷ filter (λ z. not (nat_eq x z)) xs) (filter (λ z. not (nat_eq x z)) xs)) ≡ t y || list_any t xs
    here true same h = h ∙ ap (λ b. b || list_any t xs) (sym (ap t (sym (eqb-true x y same)) ∙ e))
    here false f h = ap (λ b. t y || b) h

pub all_distinct : (t : ℕ → Bool) (xs : List ℕ) → list_all t (distinct nat_eq xs) ≡ list_all t xs
all_distinct t [] = refl
all_distinct t (x ∷ xs) = here (t x) refl (all_distinct t xs)
  where
    here : (b : Bool) → t x ≡ b → list_all t (distinct nat_eq xs) ≡ list_all t xs → (b && list_all t (filter (λ y. not (nat_eq x y)) (distinct nat_eq xs))) ≡ b && list_all t xs
    here true e h = all_of_others t x (distinct nat_eq xs) e ∙ h
    here false e h = refl

pub some_distinct : (t : ℕ → Bool) (xs : List ℕ) → list_any t (distinct nat_eq xs) ≡ list_any t xs
some_distinct t [] = refl
some_distinct t (x ∷ xs) = here (t x) refl (some_distinct t xs)
  where
    here : (b : Bool) → t x ≡ b → list_any t (distinct nat_eq xs) ≡ list_any t xs → (b || list_any t (filter (λ y. not (nat_eq x y)) (distinct nat_eq xs))) ≡ b || list_any t xs
    here true e h = refl
    here false e h = some_of_others t x (distinct nat_eq xs) e ∙ h

pub all_once : (t : ℕ → Bool) (j : Conjunct) → list_all t (columns_once j) ≡ list_all t (conjunct_columns j)
all_once t (keeps p) = all_distinct t (occurring p)
all_once t (is_in cols q) = refl

pub some_once : (t : ℕ → Bool) (j : Conjunct) → list_any t (columns_once j) ≡ list_any t (conjunct_columns j)
some_once t (keeps p) = some_distinct t (occurring p)
some_once t (is_in cols q) = refl
