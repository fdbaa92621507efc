-- Lists and operators are read where they stand, and only there.
use Rattle.std.proofs.Common.{◌≡◌, ℕ, ◌+◌, Bool, true, false, List, [], ◌++◌, length, drop, Some, None, refl, sym, append-nil, inl, inr}
use Rattle.std.specs.Prelude.{codes}
use Rattle.std.specs.declared.option.Option.{Option}
use Rattle.wt_rule_text.specs.declared.parsed.Listed.{Listed}
use Rattle.wt_rule_text.specs.declared.parsed.Unary.{Unary}
use Rattle.wt_rule_text.specs.declared.parsed.Unary.TheVariants.{Proj, Filter, Dedup}
use Rattle.wt_rule_text.specs.declared.parsed.Binary.{Binary}
use Rattle.wt_rule_text.specs.declared.parsed.Binary.TheVariants.{InnerJoin, LeftJoin, InSub}
use Rattle.wt_rule_text.specs.Reading.{after, symbol, listed, two_listed, proj, filter, dedup, unary, inner_join, left_join, in_sub, binary}
use Rattle.wt_rule_text.specs.Forms.{IsSymbol, IsAnchor, IsList, IsUnary, IsTwoLists, IsBinary}
use Rattle.wt_rule_text.proofs.Spans.{Span, Stops, stops, split, join, after_some, after_none, after_is, bind_some, or_some, Found, FoundWhole, FoundTwo, made}
use Rattle.wt_rule_text.proofs.Numerals.{symbol_some, symbol_is}

-- ---- lists

list_some : (marked : Bool) (line : List ℕ) (at : ℕ) (list : ℕ) (anchor : Option ℕ) (s a : List ℕ) (end : ℕ) → IsSymbol (codes "a") list s → IsAnchor marked anchor a → Span line at (s ++ a) end → Stops (drop end line) →
    listed marked line at ≡ Some (record { list = list; anchor = anchor }, end)
list_some false line at list None s a end symbol none span stop =
    let whole : Span line at s end = rw (none, append-nil) at span in
    rw (symbol_some (codes "a") line at list s end symbol whole stop) refl
list_some false line at list (Some r) s a end symbol none span stop = absurd none
list_some true line at list None s a end symbol none span stop = absurd none
list_some true line at list (Some r) s a end symbol anchor span stop =
    let (l, leaf, is) = anchor in
    let (here, behind) = split line at s a end span in
    let marked : Span line (at + length s) (codes "@" ++ l) end = rw is at behind in
    let (mark, there) = split line (at + length s) (codes "@") l end marked in
    let first = symbol_some (codes "a") line at list s _ symbol here (stops line _ (codes "@" ++ l) end marked refl) in
    rw (first, after_some line _ (codes "@") _ mark, symbol_some (codes "r") line _ r l end leaf there stop) refl

pub listed_some : (marked : Bool) (line : List ℕ) (at : ℕ) (list : Listed) (text : List ℕ) (end : ℕ) → IsList marked list text → Span line at text end → Stops (drop end line) → listed marked line at ≡ Some (list, end)
listed_some marked line at list text end is span stop =
    list_some marked line at list.list list.anchor is.symbol is.anchor end is.is_symbol is.is_anchor (rw is.is at span) stop

pub listed_is : (marked : Bool) (line : List ℕ) (at : ℕ) (p : Listed × ℕ) → listed marked line at ≡ Some p → FoundWhole (IsList marked) line at p
listed_is false line at p is =
    let (a, there, rest) = bind_some (symbol (codes "a") line at) _ p is in
    let (text, symbol, span, stop) = symbol_is (codes "a") line at a there in
    made (FoundWhole (IsList false) line at) (record { list = a.0; anchor = None }, a.1) p rest
    (text, record { symbol = text; anchor = []; is_symbol = symbol; is_anchor = refl; is = sym (append-nil text) }, span, stop)
listed_is true line at p is =
    let (a, there, rest) = bind_some (symbol (codes "a") line at) _ p is in
    let (n, mark, more) = bind_some (after line a.1 (codes "@")) _ p rest in
    let (r, leaf, last) = bind_some (symbol (codes "r") line n) _ p more in
    let (text, symbol, span, _) = symbol_is (codes "a") line at a there in
    let (l, is_leaf, leaf_span, stop) = symbol_is (codes "r") line n r leaf in
    let whole = join line at text a.1 (codes "@" ++ l) r.1 span (join line a.1 (codes "@") n l r.1 (after_is line a.1 (codes "@") n mark) leaf_span) in
    made (FoundWhole (IsList true) line at) (record { list = a.0; anchor = Some r.0 }, r.1) p last
    (text ++ (codes "@" ++ l), record { symbol = text; anchor = codes "@" ++ l; is_symbol = symbol; is_anchor = (l, is_leaf, refl); is = refl }, whole, stop)

-- a list up to the parenthesis behind it
pub closed_some : (marked : Bool) (line : List ℕ) (at : ℕ) (list : Listed) (a : List ℕ) (end : ℕ) → IsList marked list a → Span line at (a ++ codes ">(") end →
    (listed marked line at ≡ Some (list, at + length a)) × (after line (at + length a) (codes ">(") ≡ Some end)
closed_some marked line at list a end is span =
    let (here, close) = split line at a (codes ">(") end span in
    (listed_some marked line at list a _ is here (stops line _ (codes ">(") end close refl), after_some line _ (codes ">(") end close)

pub two_some : (marked : Bool) (line : List ℕ) (at : ℕ) (left right : Listed) (text : List ℕ) (end : ℕ) → IsTwoLists marked left right text → Span line at text end → two_listed marked line at ≡ Some (left, right, end)
two_some marked line at left right text end (a, b, is_left, is_right, is) span =
    let (here, behind) = split line at a _ end (rw is at span) in
    let (comma, there) = split line (at + length a) (codes ",") _ end behind in
    let last = closed_some marked line _ right b end is_right there in
    let first = listed_some marked line at left a _ is_left here (stops line _ _ end behind refl) in
    rw (first, after_some line _ (codes ",") _ comma, last.0, last.1) refl

pub two_is : (marked : Bool) (line : List ℕ) (at : ℕ) (p : Listed × Listed × ℕ) → two_listed marked line at ≡ Some p → FoundTwo (IsTwoLists marked) line at p
two_is marked line at p is =
    let (a, first, r1) = bind_some (listed marked line at) _ p is in
    let (n, comma, r2) = bind_some (after line a.1 (codes ",")) _ p r1 in
    let (b, second, r3) = bind_some (listed marked line n) _ p r2 in
    let (m, close, r4) = bind_some (after line b.1 (codes ">(")) _ p r3 in
    let (x, is_x, span_x, _) = listed_is marked line at a first in
    let (y, is_y, span_y, _) = listed_is marked line n b second in
    let whole = join line at x a.1 _ m span_x (join line a.1 (codes ",") n _ m (after_is line a.1 (codes ",") n comma) (join line n y b.1 (codes ">(") m span_y (after_is line b.1 (codes ">(") m close))) in
    made (FoundTwo (IsTwoLists marked) line at) (a.0, b.0, m) p r4 (x ++ (codes "," ++ (y ++ codes ">(")), (x, y, is_x, is_y, refl), whole)

-- ---- operators of one operand

pub unary_some : (marked : Bool) (line : List ℕ) (at : ℕ) (u : Unary) (text : List ℕ) (end : ℕ) → IsUnary marked u text → Span line at text end → unary marked line at ≡ Some (u, end)
unary_some marked line at (Proj list) text end (a, is_list, is) span =
    let (word, there) = split line at (codes "Proj<") _ end (rw is at span) in
    let last = closed_some marked line _ list a end is_list there in
    rw (after_some line at (codes "Proj<") _ word, last.0, last.1) refl
unary_some marked line at (Filter pred list) text end (p, a, is_pred, is_list, is) span =
    let whole : Span line at (codes "Filter<" ++ (p ++ (codes "," ++ (a ++ codes ">(")))) end = rw is at span in
    let (word, r1) = split line at (codes "Filter<") _ end whole in
    let (here, r2) = split line _ p _ end r1 in
    let (comma, r3) = split line _ (codes ",") _ end r2 in
    let last = closed_some marked line _ list a end is_list r3 in
    let first = symbol_some (codes "p") line _ pred p _ is_pred here (stops line _ _ end r2 refl) in
    rw (after_none line at (codes "Proj<") _ whole.is refl, after_some line at (codes "Filter<") _ word, first, after_some line _ (codes ",") _ comma, last.0, last.1) refl
unary_some marked line at Dedup text end is span =
    let whole : Span line at (codes "Dedup(") end = rw is at span in
    rw (after_none line at (codes "Proj<") _ whole.is refl, after_none line at (codes "Filter<") _ whole.is refl, after_some line at (codes "Dedup(") _ whole) refl

proj_is : (marked : Bool) (line : List ℕ) (at : ℕ) (p : Unary × ℕ) → proj marked line at ≡ Some p → Found (IsUnary marked) line at p
proj_is marked line at p is =
    let (n, word, r1) = bind_some (after line at (codes "Proj<")) _ p is in
    let (a, list, r2) = bind_some (listed marked line n) _ p r1 in
    let (m, close, r3) = bind_some (after line a.1 (codes ">(")) _ p r2 in
    let (x, is_x, span, _) = listed_is marked line n a list in
    let whole = join line at (codes "Proj<") n _ m (after_is line at (codes "Proj<") n word) (join line n x a.1 (codes ">(") m span (after_is line a.1 (codes ">(") m close)) in
    made (Found (IsUnary marked) line at) (Proj a.0, m) p r3 (codes "Proj<" ++ (x ++ codes ">("), (x, is_x, refl), whole)

filter_is : (marked : Bool) (line : List ℕ) (at : ℕ) (p : Unary × ℕ) → filter marked line at ≡ Some p → Found (IsUnary marked) line at p
filter_is marked line at p is =
    let (n, word, r1) = bind_some (after line at (codes "Filter<")) _ p is in
    let (q, pred, r2) = bind_some (symbol (codes "p") line n) _ p r1 in
    let (k, comma, r3) = bind_some (after line q.1 (codes ",")) _ p r2 in
    let (a, list, r4) = bind_some (listed marked line k) _ p r3 in
    let (m, close, r5) = bind_some (after line a.1 (codes ">(")) _ p r4 in
    let (y, is_y, span_y, _) = symbol_is (codes "p") line n q pred in
    let (x, is_x, span_x, _) = listed_is marked line k a list in
    let whole = join line at (codes "Filter<") n _ m (after_is line at (codes "Filter<") n word)
    (join line n y q.1 _ m span_y (join line q.1 (codes ",") k _ m (after_is line q.1 (codes ",") k comma) (join line k x a.1 (codes ">(") m span_x (after_is line a.1 (codes ">(") m close)))) in
    made (Found (IsUnary marked) line at) (Filter q.0 a.0, m) p r5 (codes "Filter<" ++ (y ++ (codes "," ++ (x ++ codes ">("))), (y, x, is_y, is_x, refl), whole)

dedup_is : (marked : Bool) (line : List ℕ) (at : ℕ) (p : Unary × ℕ) → dedup line at ≡ Some p → Found (IsUnary marked) line at p
dedup_is marked line at p is =
    let (n, word, r1) = bind_some (after line at (codes "Dedup(")) _ p is in
    made (Found (IsUnary marked) line at) (Dedup, n) p r1 (codes "Dedup(", refl, after_is line at (codes "Dedup(") n word)

pub unary_is : (marked : Bool) (line : List ℕ) (at : ℕ) (p : Unary × ℕ) → unary marked line at ≡ Some p → Found (IsUnary marked) line at p
unary_is marked line at p is =
    elim (or_some (proj marked line at) _ p is) [
      | inl h ↦ proj_is marked line at p h
      | inr rest ↦ elim (or_some (filter marked line at) _ p rest) [ inl h ↦ filter_is marked line at p h | inr h ↦ dedup_is marked line at p h ]
    ]

-- ---- operators of two operands

pub binary_some : (marked : Bool) (line : List ℕ) (at : ℕ) (b : Binary) (text : List ℕ) (end : ℕ) → IsBinary marked b text → Span line at text end → binary marked line at ≡ Some (b, end)
binary_some marked line at (InnerJoin left right) text end (l, two, is) span =
    let (word, there) = split line at (codes "InnerJoin<") _ end (rw is at span) in
    rw (after_some line at (codes "InnerJoin<") _ word, two_some marked line _ left right l end two there) refl
binary_some marked line at (LeftJoin left right) text end (l, two, is) span =
    let whole : Span line at (codes "LeftJoin<" ++ l) end = rw is at span in
    let (word, there) = split line at (codes "LeftJoin<") _ end whole in
    rw (after_none line at (codes "InnerJoin<") _ whole.is refl, after_some line at (codes "LeftJoin<") _ word, two_some marked line _ left right l end two there) refl
binary_some marked line at (InSub list) text end (a, is_list, is) span =
    let whole : Span line at (codes "InSub<" ++ (a ++ codes ">(")) end = rw is at span in
    let (word, there) = split line at (codes "InSub<") _ end whole in
    let last = closed_some marked line _ list a end is_list there in
    rw (after_none line at (codes "InnerJoin<") _ whole.is refl, after_none line at (codes "LeftJoin<") _ whole.is refl, after_some line at (codes "InSub<") _ word, last.0, last.1) refl

inner_is : (marked : Bool) (line : List ℕ) (at : ℕ) (p : Binary × ℕ) → inner_join marked line at ≡ Some p → Found (IsBinary marked) line at p
inner_is marked line at p is =
    let (n, word, r1) = bind_some (after line at (codes "InnerJoin<")) _ p is in
    let (a, lists, r2) = bind_some (two_listed marked line n) _ p r1 in
    let (l, two, span) = two_is marked line n a lists in
    let whole = join line at (codes "InnerJoin<") n l a.2 (after_is line at (codes "InnerJoin<") n word) span in
    made (Found (IsBinary marked) line at) (InnerJoin a.0 a.1, a.2) p r2 (codes "InnerJoin<" ++ l, (l, two, refl), whole)

left_is : (marked : Bool) (line : List ℕ) (at : ℕ) (p : Binary × ℕ) → left_join marked line at ≡ Some p → Found (IsBinary marked) line at p
left_is marked line at p is =
    let (n, word, r1) = bind_some (after line at (codes "LeftJoin<")) _ p is in
    let (a, lists, r2) = bind_some (two_listed marked line n) _ p r1 in
    let (l, two, span) = two_is marked line n a lists in
    let whole = join line at (codes "LeftJoin<") n l a.2 (after_is line at (codes "LeftJoin<") n word) span in
    made (Found (IsBinary marked) line at) (LeftJoin a.0 a.1, a.2) p r2 (codes "LeftJoin<" ++ l, (l, two, refl), whole)

in_sub_is : (marked : Bool) (line : List ℕ) (at : ℕ) (p : Binary × ℕ) → in_sub marked line at ≡ Some p → Found (IsBinary marked) line at p
in_sub_is marked line at p is =
    let (n, word, r1) = bind_some (after line at (codes "InSub<")) _ p is in
    let (a, list, r2) = bind_some (listed marked line n) _ p r1 in
    let (m, close, r3) = bind_some (after line a.1 (codes ">(")) _ p r2 in
    let (x, is_x, span, _) = listed_is marked line n a list in
    let whole = join line at (codes "InSub<") n _ m (after_is line at (codes "InSub<") n word) (join line n x a.1 (codes ">(") m span (after_is line a.1 (codes ">(") m close)) in
    made (Found (IsBinary marked) line at) (InSub a.0, m) p r3 (codes "InSub<" ++ (x ++ codes ">("), (x, is_x, refl), whole)

pub binary_is : (marked : Bool) (line : List ℕ) (at : ℕ) (p : Binary × ℕ) → binary marked line at ≡ Some p → Found (IsBinary marked) line at p
binary_is marked line at p is =
    elim (or_some (inner_join marked line at) _ p is) [
      | inl h ↦ inner_is marked line at p h
      | inr rest ↦ elim (or_some (left_join marked line at) _ p rest) [ inl h ↦ left_is marked line at p h | inr h ↦ in_sub_is marked line at p h ]
    ]
