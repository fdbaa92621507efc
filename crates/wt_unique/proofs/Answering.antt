-- The answers of a node from those of its operands.
use Rattle.std.proofs.Common.{◌≡◌, ℕ, Bool, List, [], ◌∷◌, map, length, refl, sym, ap, ◌∙◌, subst, Result, Ok, Err}
use Rattle.std.specs.Prelude.{◌&&◌, ◌||◌, IfOk}
use Rattle.wt_schema.specs.declared.schema.Table.{Table}
use Rattle.wt_plan.specs.Tree.{PlanTree, proj, inner_join, left_join, dedup}
use Rattle.wt_plan.specs.Measures.{width}
use Rattle.wt_known.specs.Sets.{listed_at, all_below, is_whole, lefts, rights}
use Rattle.wt_known.specs.Facts.{unique, some_case}
use Rattle.wt_unique.specs.Asking.{paired_lefts, paired_rights}
use Rattle.wt_unique.specs.Answering.{both_each, either_each, cases_each, join_answers}

-- all answers of a join, where the sets are those of its operands
cases_map : {X : Type 0} (f h : List ℕ → Bool) (g k : X → List ℕ) (x y : Bool) (sets : List X) → cases_each x y (map f (map g sets)) (map h (map k sets)) ≡ map (λ s. some_case (f (g s)) y (h (k s)) x) sets
cases_map f h g k x y [] = refl
cases_map f h g k x y (s ∷ sets) = ap (λ (l : List Bool). some_case (f (g s)) y (h (k s)) x ∷ l) (cases_map f h g k x y sets)

both_map : {X : Type 0} (p : X → Bool) (f : List ℕ → Bool) (g : X → List ℕ) (sets : List X) → both_each (map p sets) (map f (map g sets)) ≡ map (λ s. p s && f (g s)) sets
both_map p f g [] = refl
both_map p f g (s ∷ sets) = ap (λ (l : List Bool). (p s && f (g s)) ∷ l) (both_map p f g sets)

either_map : {X : Type 0} (p f : X → Bool) (sets : List X) → either_each (map f sets) (map p sets) ≡ map (λ s. f s || p s) sets
either_map p f [] = refl
either_map p f (s ∷ sets) = ap (λ (l : List Bool). (f s || p s) ∷ l) (either_map p f sets)

if_ok : {X E : Type 0} (o : Result X E) (P Q : X → Type 0) → IfOk o P → ((x : X) → P x → Q x) → IfOk o Q
if_ok (Ok x) P Q h k = k x h
if_ok (Err e) P Q h k = tt

module _ (S : List Table) where
  join_map : (f g : List ℕ → List ℕ) (a b : List ℕ) (p q : PlanTree) (sets left_sets right_sets : List (List ℕ)) (left right r : List Bool)
      → left_sets ≡ a ∷ map f sets → right_sets ≡ b ∷ map g sets → left ≡ map (unique S p) left_sets → right ≡ map (unique S q) right_sets → r ≡ join_answers left right
      → r ≡ map (λ s. some_case (unique S p (f s)) (unique S q b) (unique S q (g s)) (unique S p a)) sets
  join_map f g a b p q sets ls rs left right r el er hl hr h =
      h ∙ ap (λ (l : List Bool). join_answers l right) (hl ∙ ap (map (unique S p)) el)
      ∙ ap (λ (l : List Bool). join_answers (map (unique S p) (a ∷ map f sets)) l) (hr ∙ ap (map (unique S q)) er)
      ∙ cases_map (unique S p) (unique S q) f g (unique S p a) (unique S q b) sets

  pub inner_join_ok : {E : Type 0} (o : Result (List Bool) E) (tree : PlanTree) (a b : List ℕ) (p q : PlanTree) (sets left_sets right_sets : List (List ℕ)) (left right : List Bool)
      → tree ≡ inner_join a b p q → left_sets ≡ a ∷ map (paired_lefts (width p) a b) sets → right_sets ≡ b ∷ map (paired_rights (width p) a b) sets
      → left ≡ map (unique S p) left_sets → right ≡ map (unique S q) right_sets → IfOk o (λ r. r ≡ join_answers left right) → IfOk o (λ r. r ≡ map (unique S tree) sets)
  inner_join_ok o tree a b p q sets ls rs left right is el er hl hr h =
      subst (λ (t : PlanTree). IfOk o (λ r. r ≡ map (unique S t) sets)) (sym is)
      (if_ok o _ _ h (λ r e. join_map (paired_lefts (width p) a b) (paired_rights (width p) a b) a b p q sets ls rs left right r el er hl hr e))

  pub left_join_ok : {E : Type 0} (o : Result (List Bool) E) (tree : PlanTree) (a b : List ℕ) (p q : PlanTree) (sets left_sets right_sets : List (List ℕ)) (left right : List Bool)
      → tree ≡ left_join a b p q → left_sets ≡ a ∷ map (lefts (width p)) sets → right_sets ≡ b ∷ map (rights (width p)) sets
      → left ≡ map (unique S p) left_sets → right ≡ map (unique S q) right_sets → IfOk o (λ r. r ≡ join_answers left right) → IfOk o (λ r. r ≡ map (unique S tree) sets)
  left_join_ok o tree a b p q sets ls rs left right is el er hl hr h =
      subst (λ (t : PlanTree). IfOk o (λ r. r ≡ map (unique S t) sets)) (sym is)
      (if_ok o _ _ h (λ r e. join_map (lefts (width p)) (rights (width p)) a b p q sets ls rs left right r el er hl hr e))

  pub proj_ok : {E : Type 0} (o : Result (List Bool) E) (tree : PlanTree) (l : List ℕ) (p : PlanTree) (sets inner_sets : List (List ℕ)) (inner : List Bool)
      → tree ≡ proj l p → inner_sets ≡ map (listed_at l) sets → inner ≡ map (unique S p) inner_sets
      → IfOk o (λ r. r ≡ both_each (map (all_below (length l)) sets) inner) → IfOk o (λ r. r ≡ map (unique S tree) sets)
  proj_ok o tree l p sets inner_sets inner is e f h =
      subst (λ (t : PlanTree). IfOk o (λ r. r ≡ map (unique S t) sets)) (sym is)
      (if_ok o _ _ h (λ r k. k ∙ ap (both_each (map (all_below (length l)) sets)) (f ∙ ap (map (unique S p)) e) ∙ both_map (all_below (length l)) (unique S p) (listed_at l) sets))

  pub dedup_ok : {E : Type 0} (o : Result (List Bool) E) (tree : PlanTree) (p : PlanTree) (sets : List (List ℕ)) (inner : List Bool)
      → tree ≡ dedup p → inner ≡ map (unique S p) sets → IfOk o (λ r. r ≡ either_each inner (map (is_whole (width p)) sets)) → IfOk o (λ r. r ≡ map (unique S tree) sets)
  dedup_ok o tree p sets inner is f h =
      subst (λ (t : PlanTree). IfOk o (λ r. r ≡ map (unique S t) sets)) (sym is)
      (if_ok o _ _ h (λ r k. k ∙ ap (λ (l : List Bool). either_each l (map (is_whole (width p)) sets)) f ∙ either_map (is_whole (width p)) (unique S p) sets))
