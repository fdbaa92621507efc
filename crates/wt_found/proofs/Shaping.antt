-- A plan that has not the side's operators: the walk finds nothing.
use Rattle.std.proofs.Common.{◌≡◌, ℕ, Bool, true, false, List, refl, ap, ◌∙◌}
use Rattle.std.specs.Prelude.{◌&&◌}
use Rattle.wt_symbol.specs.Sides as sides
use Rattle.wt_symbol.specs.Sides.{SideTree}
use Rattle.wt_symbol.specs.Heads.{anchor}
use Rattle.wt_plan.specs.Tree.{PlanTree, proj, filtered, inner_join, left_join, in_sub, dedup}
use Rattle.wt_matching.specs.Finding.{Maybe, nothing, just, and_then, found}
use Rattle.wt_found.specs.Steps.{shaped, found_proj, found_filter}

none_always : {X Y : Type 0} (o : Maybe X) → and_then {X = X} {Y = Y} o (λ v. nothing) ≡ nothing
none_always nothing = refl
none_always (just v) = refl

-- one of two tests fails
either_fails : {X Y : Type 0} (f : X → X → Maybe Y) (a b : Bool) (x y : Maybe X) → (a && b) ≡ false → (a ≡ false → x ≡ nothing) → (b ≡ false → y ≡ nothing) →
    and_then x (λ v. and_then y (f v)) ≡ nothing
either_fails f false b x y h g k = ap (λ o. and_then o (λ v. and_then y (f v))) (g refl)
either_fails f true b x y h g k = ap (λ o. and_then x (λ v. and_then o (f v))) (k h) ∙ none_always x

pub not_shaped : (s : SideTree) (A : List ℕ) (p : PlanTree) → shaped s p ≡ false → found s A p ≡ nothing
not_shaped (sides.input r) A p h = cc
not_shaped (sides.proj a s) A (proj l p) h = ap (found_proj (anchor A a) l) (not_shaped s A p h)
not_shaped (sides.filtered q a s) A (filtered f l p) h = ap (found_filter (anchor A a) f l) (not_shaped s A p h)
not_shaped (sides.inner_join a b s t) A (inner_join k l p q) h = either_fails _ (shaped s p) (shaped t q) (found s A p) (found t A q) h (not_shaped s A p) (not_shaped t A q)
not_shaped (sides.left_join a b s t) A (left_join k l p q) h = either_fails _ (shaped s p) (shaped t q) (found s A p) (found t A q) h (not_shaped s A p) (not_shaped t A q)
not_shaped (sides.in_sub a s t) A (in_sub k p q) h = either_fails _ (shaped s p) (shaped t q) (found s A p) (found t A q) h (not_shaped s A p) (not_shaped t A q)
not_shaped (sides.dedup s) A (dedup p) h = not_shaped s A p h
not_shaped _ A p h = refl
