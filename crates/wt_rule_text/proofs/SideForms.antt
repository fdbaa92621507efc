-- Sides are read where they stand, and only there.
use Rattle.std.proofs.Common.{◌≡◌, ℕ, zero, suc, ◌+◌, ◌≤◌, Bool, List, ◌++◌, length, drop, Some, None, refl, ap, arith, length-append, inl, inr}
use Rattle.std.specs.Prelude.{codes}
use Rattle.std.specs.declared.option.Option.{Option}
use Rattle.wt_rule_text.specs.declared.parsed.Unary.{Unary}
use Rattle.wt_rule_text.specs.declared.parsed.Unary.TheVariants.{Proj, Filter, Dedup}
use Rattle.wt_rule_text.specs.declared.parsed.Binary.{Binary}
use Rattle.wt_rule_text.specs.declared.parsed.Binary.TheVariants.{InnerJoin, LeftJoin, InSub}
use Rattle.wt_rule_text.specs.Trees.{SideText, input, one, two}
use Rattle.wt_rule_text.specs.Reading.{after, symbol, unary, binary, operand, two_operands, side_over, side}
use Rattle.wt_rule_text.specs.Forms.{IsSymbol, IsUnary, IsBinary, IsSide}
use Rattle.wt_rule_text.proofs.Spans.{Span, Stops, stops, split, join, after_some, after_none, after_is, bind_some, first_some, Found, made}
use Rattle.wt_rule_text.proofs.Numerals.{symbol_some, symbol_is}
use Rattle.wt_rule_text.proofs.Operators.{unary_some, unary_is, binary_some, binary_is}

-- no symbol with the letter r stands where an operator does
no_leaf_unary : (marked : Bool) (line : List ℕ) (at : ℕ) (u : Unary) (o : List ℕ) (end : ℕ) → IsUnary marked u o → Span line at o end → symbol (codes "r") line at ≡ None
no_leaf_unary marked line at (Proj list) o end (a, is_list, is) span = let whole : Span line at (codes "Proj<" ++ (a ++ codes ">(")) end = rw is at span in rw (after_none line at (codes "r") _ whole.is refl) refl
no_leaf_unary marked line at (Filter pred list) o end (p, a, is_pred, is_list, is) span =
    let whole : Span line at (codes "Filter<" ++ (p ++ (codes "," ++ (a ++ codes ">(")))) end = rw is at span in rw (after_none line at (codes "r") _ whole.is refl) refl
no_leaf_unary marked line at Dedup o end is span = let whole : Span line at (codes "Dedup(") end = rw is at span in rw (after_none line at (codes "r") _ whole.is refl) refl

no_leaf_binary : (marked : Bool) (line : List ℕ) (at : ℕ) (b : Binary) (o : List ℕ) (end : ℕ) → IsBinary marked b o → Span line at o end → (symbol (codes "r") line at ≡ None) × (unary marked line at ≡ None)
no_leaf_binary marked line at (InnerJoin left right) o end (l, lists, is) span =
    let whole : Span line at (codes "InnerJoin<" ++ l) end = rw is at span in (
      rw (after_none line at (codes "r") _ whole.is refl) refl,
      rw (after_none line at (codes "Proj<") _ whole.is refl, after_none line at (codes "Filter<") _ whole.is refl, after_none line at (codes "Dedup(") _ whole.is refl) refl,
    )
no_leaf_binary marked line at (LeftJoin left right) o end (l, lists, is) span =
    let whole : Span line at (codes "LeftJoin<" ++ l) end = rw is at span in (
      rw (after_none line at (codes "r") _ whole.is refl) refl,
      rw (after_none line at (codes "Proj<") _ whole.is refl, after_none line at (codes "Filter<") _ whole.is refl, after_none line at (codes "Dedup(") _ whole.is refl) refl,
    )
no_leaf_binary marked line at (InSub list) o end (a, is_list, is) span =
    let whole : Span line at (codes "InSub<" ++ (a ++ codes ">(")) end = rw is at span in (
      rw (after_none line at (codes "r") _ whole.is refl) refl,
      rw (after_none line at (codes "Proj<") _ whole.is refl, after_none line at (codes "Filter<") _ whole.is refl, after_none line at (codes "Dedup(") _ whole.is refl) refl,
    )

leaf_text : (r : ℕ) (text : List ℕ) → IsSymbol (codes "r") r text → 1 ≤ length text
leaf_text r text is = omega (arith, ap length is.is)

pub side_some : (depth : ℕ) (marked : Bool) (line : List ℕ) (at : ℕ) (s : SideText) (text : List ℕ) (end : ℕ) → length text ≤ depth → IsSide marked s text → Span line at text end → Stops (drop end line) →
    side depth marked line at ≡ Some (s, end)
unfolding side
side_some zero marked line at (input r) text end l is span stop = absurd (omega (arith, l, leaf_text r text is))
side_some zero marked line at (one u s) text end l (o, a, is_u, is_s, is) span stop = absurd (omega (arith, l, ap length is, length-append o (a ++ codes ")"), length-append a (codes ")")))
side_some zero marked line at (two b s t) text end l (o, a, c, is_b, is_s, is_t, is) span stop =
    absurd (omega (arith, l, ap length is, length-append o (a ++ (codes "," ++ (c ++ codes ")"))), length-append a (codes "," ++ (c ++ codes ")"))))
side_some (suc depth) marked line at (input r) text end l is span stop = rw (symbol_some (codes "r") line at r text end is span stop) refl
side_some (suc depth) marked line at (one u s) text end l (o, a, is_u, is_s, is) span stop =
    let (here, r1) = split line at o (a ++ codes ")") end (rw is at span) in
    let (inside, close) = split line _ a (codes ")") end r1 in
    let short : length a ≤ depth = omega (arith, l, ap length is, length-append o (a ++ codes ")"), length-append a (codes ")")) in
    let first = side_some depth marked line _ s a _ short is_s inside (stops line _ (codes ")") end close refl) in
    rw (no_leaf_unary marked line at u o _ is_u here, unary_some marked line at u o _ is_u here, first, after_some line _ (codes ")") end close) refl
side_some (suc depth) marked line at (two b s t) text end l (o, a, c, is_b, is_s, is_t, is) span stop =
    let (here, r1) = split line at o _ end (rw is at span) in
    let (left, r2) = split line _ a _ end r1 in
    let (comma, r3) = split line _ (codes ",") _ end r2 in
    let (right, close) = split line _ c (codes ")") end r3 in
    let none = no_leaf_binary marked line at b o _ is_b here in
    let long : length text ≡ length o + (length a + (1 + (length c + 1))) =
    omega (arith, ap length is, length-append o (a ++ (codes "," ++ (c ++ codes ")"))), length-append a (codes "," ++ (c ++ codes ")")), length-append c (codes ")")) in
    let first = side_some depth marked line _ s a _ (omega arith) is_s left (stops line _ (codes "," ++ (c ++ codes ")")) end r2 refl) in
    let second = side_some depth marked line _ t c _ (omega arith) is_t right (stops line _ (codes ")") end close refl) in
    rw (none.0, none.1, binary_some marked line at b o _ is_b here, first, after_some line _ (codes ",") _ comma, second, after_some line _ (codes ")") end close) refl

operand_is : (side : ℕ → Option (SideText × ℕ)) (marked : Bool) (line : List ℕ) → ((n : ℕ) (q : SideText × ℕ) → side n ≡ Some q → Found (IsSide marked) line n q) →
    (u : Unary) (o : List ℕ) (at mid : ℕ) (p : SideText × ℕ) → IsUnary marked u o → Span line at o mid → operand side u line mid ≡ Some p → Found (IsSide marked) line at p
operand_is side marked line found u o at mid p is_u here is =
    let (s, inside, r1) = bind_some (side mid) _ p is in
    let (n, close, r2) = bind_some (after line s.1 (codes ")")) _ p r1 in
    let (a, is_s, span) = found mid s inside in
    let whole = join line at o mid _ n here (join line mid a s.1 (codes ")") n span (after_is line s.1 (codes ")") n close)) in
    made (Found (IsSide marked) line at) (one u s.0, n) p r2 (o ++ (a ++ codes ")"), (o, a, is_u, is_s, refl), whole)

operands_are : (side : ℕ → Option (SideText × ℕ)) (marked : Bool) (line : List ℕ) → ((n : ℕ) (q : SideText × ℕ) → side n ≡ Some q → Found (IsSide marked) line n q) →
    (b : Binary) (o : List ℕ) (at mid : ℕ) (q : SideText × SideText × ℕ) → IsBinary marked b o → Span line at o mid → two_operands side line mid ≡ Some q → Found (IsSide marked) line at (two b q.0 q.1, q.2)
operands_are side marked line found b o at mid q is_b here is =
    let (s, left, r1) = bind_some (side mid) _ q is in
    let (n, comma, r2) = bind_some (after line s.1 (codes ",")) _ q r1 in
    let (t, right, r3) = bind_some (side n) _ q r2 in
    let (m, close, r4) = bind_some (after line t.1 (codes ")")) _ q r3 in
    let (a, is_s, span_s) = found mid s left in
    let (c, is_t, span_t) = found n t right in
    let whole = join line at o mid _ m here (join line mid a s.1 _ m span_s (join line s.1 (codes ",") n _ m (after_is line s.1 (codes ",") n comma) (join line n c t.1 (codes ")") m span_t (after_is line t.1 (codes ")") m close)))) in
    made (λ (q : SideText × SideText × ℕ). Found (IsSide marked) line at (two b q.0 q.1, q.2)) (s.0, t.0, m) q r4 (o ++ (a ++ (codes "," ++ (c ++ codes ")"))), (o, a, c, is_b, is_s, is_t, refl), whole)

over_is : (side : ℕ → Option (SideText × ℕ)) (marked : Bool) (line : List ℕ) → ((n : ℕ) (q : SideText × ℕ) → side n ≡ Some q → Found (IsSide marked) line n q) →
    (at : ℕ) (p : SideText × ℕ) → side_over side marked line at ≡ Some p → Found (IsSide marked) line at p
over_is side marked line found at p is =
    elim (first_some (symbol (codes "r") line at) _ _ p is) [
      | inl (r, leaf, r1) ↦
          let (text, is_leaf, span, _) = symbol_is (codes "r") line at r leaf in
          made (Found (IsSide marked) line at) (input r.0, r.1) p r1 (text, is_leaf, span)
      | inr rest ↦
          elim (first_some (unary marked line at) _ _ p rest) [
            | inl (u, head, r1) ↦
                let (o, is_u, span) = unary_is marked line at u head in
                operand_is side marked line found u.0 o at u.1 p is_u span r1
            | inr last ↦
                let (b, head, r1) = bind_some (binary marked line at) _ p last in
                let (q, both, r2) = bind_some (two_operands side line b.1) _ p r1 in
                let (o, is_b, span) = binary_is marked line at b head in
                made (Found (IsSide marked) line at) (two b.0 q.0 q.1, q.2) p r2 (operands_are side marked line found b.0 o at b.1 q is_b span both)
          ]
    ]

pub side_is : (depth : ℕ) (marked : Bool) (line : List ℕ) (at : ℕ) (p : SideText × ℕ) → side depth marked line at ≡ Some p → Found (IsSide marked) line at p
unfolding side
side_is zero marked line at p is = absurd (cc)
side_is (suc depth) marked line at p is = over_is (side depth marked line) marked line (side_is depth marked line) at p is
