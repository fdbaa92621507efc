-- What the tests of a filter say.
use Rattle.std.proofs.Common.{◌≡◌, ℕ, true, false, not, List, [], ◌∷◌, refl, ap}
use Rattle.std.specs.Prelude.{◌&&◌}
use Rattle.wt_bag.specs.Bags.{Each}
use Rattle.wt_value.specs.declared.value.Value.{Value}
use Rattle.wt_value.specs.declared.value.Value.TheVariants as values
use Rattle.wt_pred.specs.declared.tree.Operand.{Operand}
use Rattle.wt_pred.specs.declared.tree.Operand.TheVariants.{Column, Constant}
use Rattle.wt_pred.specs.Tree.{PredTree, PredTrees, compare, is_null, is_not_null, in_list, all_of, any_of, negated, no_preds, pred_then}
use Rattle.wt_schema.specs.declared.schema.ColKind.{ColKind}
use Rattle.wt_plan.specs.Regular.{kind_at, kinds_at, value_kind, operand_kind, IsConstant, ConstantOperand, Typed, AllTyped, HasConstants, AllConstants, IsNoAnd, RegularFilter}
use Rattle.wt_regularity.specs.Kinds.{kind_same}
use Rattle.wt_regularity.specs.Order.{are_apart}
use Rattle.wt_regularity.specs.Predicates.{is_constant, is_operand, are_constants, is_typed, are_typed, is_and, uses_all, filter_fits}
use Rattle.wt_regularity.proofs.Tests.{both, make, is_not}
use Rattle.wt_regularity.proofs.KindLaws.{kind_sound, kind_full}
use Rattle.wt_regularity.proofs.OrderLaws.{apart_sound, apart_full, order_sound, order_full}

constant_sound : (v : Value) → is_constant v ≡ true → IsConstant v
constant_sound values.Null e = cc
constant_sound (values.Int n) e = tt
constant_sound (values.Text t) e = e

constant_full : (v : Value) → IsConstant v → is_constant v ≡ true
constant_full values.Null h = absurd h
constant_full (values.Int n) h = refl
constant_full (values.Text t) h = h

operand_sound : (o : Operand) → is_operand o ≡ true → ConstantOperand o
operand_sound (Column place) e = tt
operand_sound (Constant v) e = constant_sound v e

operand_full : (o : Operand) → ConstantOperand o → is_operand o ≡ true
operand_full (Column place) h = refl
operand_full (Constant v) h = constant_full v h

constants_sound : (kind : ColKind) (vs : List Value) → are_constants kind vs ≡ true → Each (λ v. kind ≡ value_kind v) vs × Each IsConstant vs
constants_sound kind [] e = (tt, tt)
constants_sound kind (v ∷ vs) e =
    let parts = both (kind_same kind (value_kind v) && is_constant v) (are_constants kind vs) e in
    let here = both (kind_same kind (value_kind v)) (is_constant v) parts.0 in
    let rest = constants_sound kind vs parts.1 in
    ((kind_sound kind (value_kind v) here.0, rest.0), (constant_sound v here.1, rest.1))

constants_full : (kind : ColKind) (vs : List Value) → Each (λ v. kind ≡ value_kind v) vs → Each IsConstant vs → are_constants kind vs ≡ true
constants_full kind [] h k = refl
constants_full kind (v ∷ vs) h k =
    make (kind_same kind (value_kind v) && is_constant v) (are_constants kind vs)
    (make (kind_same kind (value_kind v)) (is_constant v) (kind_full kind (value_kind v) h.0) (constant_full v k.0))
    (constants_full kind vs h.1 k.1)

module _ (kinds : List ColKind) where
  mutual
    pub typed_sound : (p : PredTree) → is_typed kinds p ≡ true → Typed kinds p × HasConstants p
    typed_sound (compare cmp a b) e =
        let same = kind_same (operand_kind kinds a) (operand_kind kinds b) in
        let parts = both (same && is_operand a) (is_operand b) e in
        let here = both same (is_operand a) parts.0 in
        (kind_sound (operand_kind kinds a) (operand_kind kinds b) here.0, (operand_sound a here.1, operand_sound b parts.1))
    typed_sound (is_null place) e = (tt, tt)
    typed_sound (is_not_null place) e = (tt, tt)
    typed_sound (in_list place vs) e = constants_sound (kind_at kinds place) vs e
    typed_sound (all_of parts) e = all_typed_sound parts e
    typed_sound (any_of parts) e = all_typed_sound parts e
    typed_sound (negated inner) e = typed_sound inner e

    all_typed_sound : (ps : PredTrees) → are_typed kinds ps ≡ true → AllTyped kinds ps × AllConstants ps
    all_typed_sound no_preds e = (tt, tt)
    all_typed_sound (pred_then p rest) e =
        let parts = both (is_typed kinds p) (are_typed kinds rest) e in
        let here = typed_sound p parts.0 in
        let more = all_typed_sound rest parts.1 in
        ((here.0, more.0), (here.1, more.1))

  mutual
    pub typed_full : (p : PredTree) → Typed kinds p → HasConstants p → is_typed kinds p ≡ true
    typed_full (compare cmp a b) h k =
        let same = kind_same (operand_kind kinds a) (operand_kind kinds b) in
        make (same && is_operand a) (is_operand b) (make same (is_operand a) (kind_full (operand_kind kinds a) (operand_kind kinds b) h) (operand_full a k.0)) (operand_full b k.1)
    typed_full (is_null place) h k = refl
    typed_full (is_not_null place) h k = refl
    typed_full (in_list place vs) h k = constants_full (kind_at kinds place) vs h k
    typed_full (all_of parts) h k = all_typed_full parts h k
    typed_full (any_of parts) h k = all_typed_full parts h k
    typed_full (negated inner) h k = typed_full inner h k

    all_typed_full : (ps : PredTrees) → AllTyped kinds ps → AllConstants ps → are_typed kinds ps ≡ true
    all_typed_full no_preds h k = refl
    all_typed_full (pred_then p rest) h k = make (is_typed kinds p) (are_typed kinds rest) (typed_full p h.0 k.0) (all_typed_full rest h.1 k.1)

no_and_sound : (p : PredTree) → is_and p ≡ false → IsNoAnd p
no_and_sound (compare cmp a b) e = tt
no_and_sound (is_null place) e = tt
no_and_sound (is_not_null place) e = tt
no_and_sound (in_list place vs) e = tt
no_and_sound (all_of parts) e = cc
no_and_sound (any_of parts) e = tt
no_and_sound (negated inner) e = tt

no_and_full : (p : PredTree) → IsNoAnd p → is_and p ≡ false
no_and_full (compare cmp a b) h = refl
no_and_full (is_null place) h = refl
no_and_full (is_not_null place) h = refl
no_and_full (in_list place vs) h = refl
no_and_full (all_of parts) h = absurd h
no_and_full (any_of parts) h = refl
no_and_full (negated inner) h = refl

pub filter_sound : (kinds : List ColKind) (p : PredTree) (cols : List ℕ) → filter_fits kinds p cols ≡ true → RegularFilter kinds p cols
filter_sound kinds p cols e =
    let parts = both ((not (is_and p) && uses_all p cols) && are_apart cols) (is_typed (kinds_at kinds cols) p) e in
    let list = both (not (is_and p) && uses_all p cols) (are_apart cols) parts.0 in
    let form = both (not (is_and p)) (uses_all p cols) list.0 in
    let typed = typed_sound (kinds_at kinds cols) p parts.1 in
    record {
      apart = apart_sound cols list.1;
      in_order = order_sound p cols form.1;
      no_and = no_and_sound p (is_not (is_and p) form.0);
      typed = typed.0;
      constants = typed.1;
    }

pub filter_full : (kinds : List ColKind) (p : PredTree) (cols : List ℕ) → RegularFilter kinds p cols → filter_fits kinds p cols ≡ true
filter_full kinds p cols h =
    make ((not (is_and p) && uses_all p cols) && are_apart cols) (is_typed (kinds_at kinds cols) p)
    (make (not (is_and p) && uses_all p cols) (are_apart cols) (make (not (is_and p)) (uses_all p cols) (ap not (no_and_full p h.no_and)) (order_full p cols h.in_order)) (apart_full cols h.apart))
    (typed_full (kinds_at kinds cols) p h.typed h.constants)
