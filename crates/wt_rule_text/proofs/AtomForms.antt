-- Atoms are read where they stand, and only there.
use Rattle.std.proofs.Common.{◌≡◌, ℕ, zero, suc, ◌+◌, ◌≤◌, false, List, [], ◌∷◌, ◌++◌, length, take, drop, Some, None, refl, ap, ◌∙◌, arith, length-append, inl, inr}
use Rattle.std.specs.Str.{bytes_eq}
use Rattle.std.specs.Prelude.{codes}
use Rattle.std.specs.declared.option.Option.{Option}
use Rattle.wt_rule_text.specs.declared.parsed.ParsedAtom.{ParsedAtom}
use Rattle.wt_rule_text.specs.declared.parsed.ParsedAtom.TheVariants.{RelEq, AttrsEq, PredEq, Unique, NotNull, RefAttrs}
use Rattle.wt_rule_text.specs.Reading.{after, symbol, two_symbols, rel_eq, attrs_eq, pred_eq, unique, not_null, leaf_and_list, ref_attrs, equality, atom, spaced_atom, ◌>>=◌, before, then_more, more_atoms, atoms}
use Rattle.wt_rule_text.specs.Forms.{IsTwoSymbols, IsLeafAndList, IsAtom, AreMore, AreAtoms}
use Rattle.wt_rule_text.proofs.Spans.{Span, Stops, stops, split, join, after_some, after_none, after_is, bind_some, or_some, first_some, within, Found, FoundTwo, made}
use Rattle.wt_rule_text.proofs.Numerals.{symbol_some, symbol_is}
use Rattle.wt_rule_text.proofs.AtomLists.{no_more}

two_some : (word first second line : List ℕ) (at x y : ℕ) (text : List ℕ) (end : ℕ) → IsTwoSymbols word first second x y text → Span line at text end → two_symbols word first second line at ≡ Some (x, y, end)
two_some word first second line at x y text end (a, b, is_a, is_b, is) span =
    let (here, r1) = split line at word _ end (rw is at span) in
    let (left, r2) = split line _ a _ end r1 in
    let (comma, r3) = split line _ (codes ",") _ end r2 in
    let (right, close) = split line _ b (codes ")") end r3 in
    rw (
      after_some line at word _ here,
      symbol_some first line _ x a _ is_a left (stops line _ _ end r2 refl),
      after_some line _ (codes ",") _ comma,
      symbol_some second line _ y b _ is_b right (stops line _ (codes ")") end close refl),
      after_some line _ (codes ")") end close,
    ) refl

two_is : (word first second line : List ℕ) (at : ℕ) (p : ℕ × ℕ × ℕ) → two_symbols word first second line at ≡ Some p → FoundTwo (IsTwoSymbols word first second) line at p
two_is word first second line at p is =
    let (n, here, r1) = bind_some (after line at word) _ p is in
    let (x, left, r2) = bind_some (symbol first line n) _ p r1 in
    let (m, comma, r3) = bind_some (after line x.1 (codes ",")) _ p r2 in
    let (y, right, r4) = bind_some (symbol second line m) _ p r3 in
    let (k, close, r5) = bind_some (after line y.1 (codes ")")) _ p r4 in
    let (a, is_a, span_a, _) = symbol_is first line n x left in
    let (b, is_b, span_b, _) = symbol_is second line m y right in
    let whole = join line at word n _ k (after_is line at word n here) (join line n a x.1 _ k span_a (join line x.1 (codes ",") m _ k (after_is line x.1 (codes ",") m comma) (join line m b y.1 (codes ")") k span_b (after_is line y.1 (codes ")") k close)))) in
    made (FoundTwo (IsTwoSymbols word first second) line at) (x.0, y.0, k) p r5 (word ++ (a ++ (codes "," ++ (b ++ codes ")"))), (a, b, is_a, is_b, refl), whole)

pair_some : (line : List ℕ) (at r a : ℕ) (text : List ℕ) (end : ℕ) → IsLeafAndList r a text → Span line at text end → Stops (drop end line) → leaf_and_list line at ≡ Some (r, a, end)
pair_some line at r a text end (l, k, is_l, is_k, is) span stop =
    let (here, r1) = split line at l _ end (rw is at span) in
    let (comma, r2) = split line _ (codes ",") _ end r1 in
    rw (symbol_some (codes "r") line at r l _ is_l here (stops line _ _ end r1 refl), after_some line _ (codes ",") _ comma, symbol_some (codes "a") line _ a k end is_k r2 stop) refl

pair_is : (line : List ℕ) (at : ℕ) (p : ℕ × ℕ × ℕ) → leaf_and_list line at ≡ Some p → FoundTwo IsLeafAndList line at p
pair_is line at p is =
    let (r, first, r1) = bind_some (symbol (codes "r") line at) _ p is in
    let (n, comma, r2) = bind_some (after line r.1 (codes ",")) _ p r1 in
    let (a, second, r3) = bind_some (symbol (codes "a") line n) _ p r2 in
    let (l, is_l, span_l, _) = symbol_is (codes "r") line at r first in
    let (k, is_k, span_k, _) = symbol_is (codes "a") line n a second in
    made (FoundTwo IsLeafAndList line at) (r.0, a.0, a.1) p r3
    (l ++ (codes "," ++ k), (l, k, is_l, is_k, refl), join line at l r.1 _ a.1 span_l (join line r.1 (codes ",") n k a.1 (after_is line r.1 (codes ",") n comma) span_k))

-- the words of atoms differ
module _ (line : List ℕ) (at : ℕ) (l : List ℕ) (is : drop at line ≡ l) where
  no_rel : bytes_eq (take (length (codes "RelEq(")) l) (codes "RelEq(") ≡ false → rel_eq line at ≡ None
  no_rel h = rw (after_none line at (codes "RelEq(") l is h) refl

  no_attrs : bytes_eq (take (length (codes "AttrsEq(")) l) (codes "AttrsEq(") ≡ false → attrs_eq line at ≡ None
  no_attrs h = rw (after_none line at (codes "AttrsEq(") l is h) refl

  no_pred : bytes_eq (take (length (codes "PredEq(")) l) (codes "PredEq(") ≡ false → pred_eq line at ≡ None
  no_pred h = rw (after_none line at (codes "PredEq(") l is h) refl

  no_unique : bytes_eq (take (length (codes "Unique(")) l) (codes "Unique(") ≡ false → unique line at ≡ None
  no_unique h = rw (after_none line at (codes "Unique(") l is h) refl

  no_not_null : bytes_eq (take (length (codes "NotNull(")) l) (codes "NotNull(") ≡ false → not_null line at ≡ None
  no_not_null h = rw (after_none line at (codes "NotNull(") l is h) refl

  no_ref : bytes_eq (take (length (codes "RefAttrs(")) l) (codes "RefAttrs(") ≡ false → ref_attrs line at ≡ None
  no_ref h = rw (after_none line at (codes "RefAttrs(") l is h) refl

pub atom_some : (line : List ℕ) (at : ℕ) (a : ParsedAtom) (text : List ℕ) (end : ℕ) → IsAtom a text → Span line at text end → atom line at ≡ Some (a, end)
unfolding atom
atom_some line at (RelEq x y) text end is span = rw (two_some (codes "RelEq(") (codes "r") (codes "r") line at x y text end is span) refl
atom_some line at (AttrsEq x y) text end (a, b, is_a, is_b, is) span =
    let whole : Span line at (codes "AttrsEq(" ++ (a ++ (codes "," ++ (b ++ codes ")")))) end = rw is at span in
    rw (no_rel line at _ whole.is refl, two_some (codes "AttrsEq(") (codes "a") (codes "a") line at x y text end (a, b, is_a, is_b, is) span) refl
atom_some line at (PredEq x y) text end (a, b, is_a, is_b, is) span =
    let whole : Span line at (codes "PredEq(" ++ (a ++ (codes "," ++ (b ++ codes ")")))) end = rw is at span in
    rw (no_rel line at _ whole.is refl, no_attrs line at _ whole.is refl, two_some (codes "PredEq(") (codes "p") (codes "p") line at x y text end (a, b, is_a, is_b, is) span) refl
atom_some line at (Unique x y) text end (a, b, is_a, is_b, is) span =
    let whole : Span line at (codes "Unique(" ++ (a ++ (codes "," ++ (b ++ codes ")")))) end = rw is at span in
    rw (
      no_rel line at _ whole.is refl,
      no_attrs line at _ whole.is refl,
      no_pred line at _ whole.is refl,
      two_some (codes "Unique(") (codes "r") (codes "a") line at x y text end (a, b, is_a, is_b, is) span,
    ) refl
atom_some line at (NotNull x y) text end (a, b, is_a, is_b, is) span =
    let whole : Span line at (codes "NotNull(" ++ (a ++ (codes "," ++ (b ++ codes ")")))) end = rw is at span in
    rw (
      no_rel line at _ whole.is refl,
      no_attrs line at _ whole.is refl,
      no_pred line at _ whole.is refl,
      no_unique line at _ whole.is refl,
      two_some (codes "NotNull(") (codes "r") (codes "a") line at x y text end (a, b, is_a, is_b, is) span,
    ) refl
atom_some line at (RefAttrs r a s b) text end (x, y, is_x, is_y, is) span =
    let whole : Span line at (codes "RefAttrs(" ++ (x ++ (codes "," ++ (y ++ codes ")")))) end = rw is at span in
    let (here, r1) = split line at (codes "RefAttrs(") _ end whole in
    let (left, r2) = split line _ x _ end r1 in
    let (comma, r3) = split line _ (codes ",") _ end r2 in
    let (right, close) = split line _ y (codes ")") end r3 in
    rw (
      no_rel line at _ whole.is refl,
      no_attrs line at _ whole.is refl,
      no_pred line at _ whole.is refl,
      no_unique line at _ whole.is refl,
      no_not_null line at _ whole.is refl,
      after_some line at (codes "RefAttrs(") _ here,
      pair_some line _ r a x _ is_x left (stops line _ _ end r2 refl),
      after_some line _ (codes ",") _ comma,
      pair_some line _ s b y _ is_y right (stops line _ (codes ")") end close refl),
      after_some line _ (codes ")") end close,
    ) refl

pub no_atom : (line : List ℕ) (at : ℕ) (l : List ℕ) → drop at line ≡ 124 ∷ l → atom line at ≡ None
unfolding atom
no_atom line at l is = rw (no_rel line at _ is refl, no_attrs line at _ is refl, no_pred line at _ is refl, no_unique line at _ is refl, no_not_null line at _ is refl, no_ref line at _ is refl) refl

of_two : (make : ℕ → ℕ → ParsedAtom) (word first second line : List ℕ) → ((x y : ℕ) (text : List ℕ) → IsTwoSymbols word first second x y text → IsAtom (make x y) text) →
    (at : ℕ) (p : ParsedAtom × ℕ) → (two_symbols word first second line at >>= λ t. Some (make t.0 t.1, t.2)) ≡ Some p → Found IsAtom line at p
of_two make word first second line means at p is =
    let (t, there, r1) = bind_some (two_symbols word first second line at) _ p is in
    let (text, two, span) = two_is word first second line at t there in
    made (Found IsAtom line at) (make t.0 t.1, t.2) p r1 (text, means t.0 t.1 text two, span)

ref_is : (line : List ℕ) (at : ℕ) (p : ParsedAtom × ℕ) → ref_attrs line at ≡ Some p → Found IsAtom line at p
ref_is line at p is =
    let (n, here, r1) = bind_some (after line at (codes "RefAttrs(")) _ p is in
    let (x, left, r2) = bind_some (leaf_and_list line n) _ p r1 in
    let (m, comma, r3) = bind_some (after line x.2 (codes ",")) _ p r2 in
    let (y, right, r4) = bind_some (leaf_and_list line m) _ p r3 in
    let (k, close, r5) = bind_some (after line y.2 (codes ")")) _ p r4 in
    let (a, is_a, span_a) = pair_is line n x left in
    let (b, is_b, span_b) = pair_is line m y right in
    let whole = join line at (codes "RefAttrs(") n _ k (after_is line at (codes "RefAttrs(") n here) (join line n a x.2 _ k span_a (join line x.2 (codes ",") m _ k (after_is line x.2 (codes ",") m comma) (join line m b y.2 (codes ")") k span_b (after_is line y.2 (codes ")") k close)))) in
    made (Found IsAtom line at) (RefAttrs x.0 x.1 y.0 y.1, k) p r5 (codes "RefAttrs(" ++ (a ++ (codes "," ++ (b ++ codes ")"))), (a, b, is_a, is_b, refl), whole)

pub atom_is : (line : List ℕ) (at : ℕ) (p : ParsedAtom × ℕ) → atom line at ≡ Some p → Found IsAtom line at p
unfolding atom
atom_is line at p is =
    elim (or_some (equality line at) _ p is) [
      | inl e ↦
          elim (or_some (rel_eq line at) _ p e) [
            | inl h ↦ of_two RelEq (codes "RelEq(") (codes "r") (codes "r") line (λ x y text two. two) at p h
            | inr f ↦
                elim (or_some (attrs_eq line at) _ p f) [
                  | inl h ↦ of_two AttrsEq (codes "AttrsEq(") (codes "a") (codes "a") line (λ x y text two. two) at p h
                  | inr h ↦ of_two PredEq (codes "PredEq(") (codes "p") (codes "p") line (λ x y text two. two) at p h
                ]
          ]
      | inr e ↦
          elim (or_some (unique line at) _ p e) [
            | inl h ↦ of_two Unique (codes "Unique(") (codes "r") (codes "a") line (λ x y text two. two) at p h
            | inr f ↦
                elim (or_some (not_null line at) _ p f) [
                  | inl h ↦ of_two NotNull (codes "NotNull(") (codes "r") (codes "a") line (λ x y text two. two) at p h
                  | inr h ↦ ref_is line at p h
                ]
          ]
    ]

-- ---- lists of atoms

pub more_some : (most : ℕ) (line : List ℕ) (at : ℕ) (more : List ParsedAtom) (text : List ℕ) (end : ℕ) → length text ≤ most → AreMore more text → Span line at text end → spaced_atom line end ≡ None →
    more_atoms most line at ≡ (more, end)
more_some most line at [] text end l is span none =
    let here : at ≡ end = omega (arith, span.place, ap length is) in
    rw (no_more most line at (rw here none), here) refl
more_some zero line at (a ∷ more) text end l (x, y, is_x, are_y, is) span none = absurd (omega (arith, l, ap length is))
more_some (suc most) line at (a ∷ more) text end l (x, y, is_x, are_y, is) span none =
    let (space, r1) = split line at (codes " ") _ end (rw is at span) in
    let (here, behind) = split line _ x y end r1 in
    let short : length y ≤ most = omega (arith, l, ap length is, length-append x y) in
    let first : spaced_atom line at ≡ Some (a, at + 1 + length x) = rw (after_some line at (codes " ") _ space) (atom_some line _ a x _ is_x here) in
    ap (λ o. then_more o at (more_atoms most line)) first ∙ ap (before a) (more_some most line _ more y end short are_y behind none)

by_first : (most : ℕ) (line : List ℕ) (at : ℕ) (o : Option (ParsedAtom × ℕ)) → spaced_atom line at ≡ o →
    ((n : ℕ) → (text : List ℕ) × AreMore (more_atoms most line n).0 text × Span line n text (more_atoms most line n).1) →
    (text : List ℕ) × AreMore (then_more o at (more_atoms most line)).0 text × Span line at text (then_more o at (more_atoms most line)).1
by_first most line at None is rest = ([], refl, record { is = refl; place = omega arith })
by_first most line at (Some a) is rest =
    let (n, space, there) = bind_some (after line at (codes " ")) (atom line) a is in
    let (x, is_x, span_x) = atom_is line n a there in
    let (y, are_y, span_y) = rest a.1 in
    (codes " " ++ (x ++ y), (x, y, is_x, are_y, refl), join line at (codes " ") n _ _ (after_is line at (codes " ") n space) (join line n x a.1 y _ span_x span_y))

pub more_is : (most : ℕ) (line : List ℕ) (at : ℕ) → (text : List ℕ) × AreMore (more_atoms most line at).0 text × Span line at text (more_atoms most line at).1
more_is zero line at = ([], refl, record { is = refl; place = omega arith })
more_is (suc most) line at = by_first most line at (spaced_atom line at) refl (λ n. more_is most line n)

no_dash : (line : List ℕ) (at : ℕ) (a : ParsedAtom) (x y : List ℕ) (end : ℕ) → IsAtom a x → Span line at (x ++ y) end → after line at (codes "-") ≡ None
no_dash line at (RelEq p q) x y end (a, b, is_a, is_b, is) span = after_none line at (codes "-") _ (rw is at span).is refl
no_dash line at (AttrsEq p q) x y end (a, b, is_a, is_b, is) span = after_none line at (codes "-") _ (rw is at span).is refl
no_dash line at (PredEq p q) x y end (a, b, is_a, is_b, is) span = after_none line at (codes "-") _ (rw is at span).is refl
no_dash line at (Unique p q) x y end (a, b, is_a, is_b, is) span = after_none line at (codes "-") _ (rw is at span).is refl
no_dash line at (NotNull p q) x y end (a, b, is_a, is_b, is) span = after_none line at (codes "-") _ (rw is at span).is refl
no_dash line at (RefAttrs p q r s) x y end (a, b, is_a, is_b, is) span = after_none line at (codes "-") _ (rw is at span).is refl

pub atoms_some : (line : List ℕ) (at : ℕ) (list : List ParsedAtom) (text : List ℕ) (end : ℕ) → AreAtoms list text → Span line at text end → spaced_atom line end ≡ None → atoms line at ≡ Some (list, end)
unfolding atoms
atoms_some line at [] text end is span none = rw (after_some line at (codes "-") end (rw is at span)) refl
atoms_some line at (a ∷ more) text end (x, y, is_x, are_y, is) span none =
    let whole : Span line at (x ++ y) end = rw is at span in
    let (here, behind) = split line at x y end whole in
    rw (no_dash line at a x y end is_x whole, atom_some line at a x _ is_x here, more_some (length line) line _ more y end (within line _ y end behind) are_y behind none) refl

pub atoms_are : (line : List ℕ) (at : ℕ) (p : List ParsedAtom × ℕ) → atoms line at ≡ Some p → Found AreAtoms line at p
unfolding atoms
atoms_are line at p is =
    elim (first_some (after line at (codes "-")) _ _ p is) [
      | inl (n, dash, r1) ↦ made (Found AreAtoms line at) ([], n) p r1 (codes "-", refl, after_is line at (codes "-") n dash)
      | inr rest ↦
          let (a, first, r1) = bind_some (atom line at) _ p rest in
          let (x, is_x, span_x) = atom_is line at a first in
          let (y, are_y, span_y) = more_is (length line) line a.1 in
          made (Found AreAtoms line at) (before a.0 (more_atoms (length line) line a.1)) p r1 (x ++ y, (x, y, is_x, are_y, refl), join line at x a.1 y _ span_x span_y)
    ]
