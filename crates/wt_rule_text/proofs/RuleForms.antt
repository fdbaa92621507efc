-- A line is read as the rule whose line it is, and every other line is none.
use Rattle.std.proofs.Common.{◌≡◌, ℕ, true, false, List, [], ◌++◌, length, drop, Some, None, Ok, Err, refl, sym, ap, subst, ◌∙◌, arith, append-nil, append_assoc, inl, inr}
use Rattle.std.specs.Prelude.{codes, ◌==◌, if◌then◌else◌, Result, IfOk}
use Rattle.std.specs.declared.option.Option.{Option}
use Rattle.std.proofs.lemmas.Bool.{cases_eq}
use Rattle.std.proofs.lemmas.Bool.Decides.{nat_tests}
use Rattle.std.proofs.lemmas.List.{drop_all}
use Rattle.wt_rule_text.specs.declared.parsed.Version.{Version}
use Rattle.wt_rule_text.specs.declared.parsed.Version.TheVariants.{One, Two}
use Rattle.wt_rule_text.specs.declared.parsed.Weights.{Weights}
use Rattle.wt_rule_text.specs.declared.parsed.ParsedRule.{ParsedRule}
use Rattle.wt_rule_text.specs.declared.parsed.LineError.{LineError}
use Rattle.wt_rule_text.specs.declared.parsed.LineError.TheVariants.{Syntax, Memory}
use Rattle.wt_rule_text.specs.Given.{Gives}
use Rattle.wt_rule_text.specs.Trees.{SideText, RuleText, rule_of}
use Rattle.wt_rule_text.specs.Reading.{after, number, spaced_atom, side, sides, atoms, stated, ending, rule}
use Rattle.wt_rule_text.specs.Forms.{IsSide, IsStated, IsLine}
use Rattle.wt_rule_text.proofs.Spans.{Span, ends, stops, split, join, within, after_some, after_none, after_is, bind_some, Found, FoundTwo, made}
use Rattle.wt_rule_text.proofs.Numerals.{number_some, number_is}
use Rattle.wt_rule_text.proofs.SideForms.{side_some, side_is}
use Rattle.wt_rule_text.proofs.AtomForms.{no_atom, atoms_some, atoms_are}

at_end : (line : List ℕ) → drop (length line) line ≡ []
at_end line = drop_all (length line) line (omega arith)

-- ---- what stands behind the atoms

no_more_atoms : (version : Version) (line : List ℕ) (at : ℕ) (w : Option Weights) (text : List ℕ) → IsStated version w text → Span line at text (length line) → spaced_atom line at ≡ None
no_more_atoms One line at None text is span =
    let none : drop at line ≡ [] = span.is ∙ ap (λ t. t ++ drop (length line) line) is ∙ at_end line in
    rw (after_none line at (codes " ") [] none refl) refl
no_more_atoms One line at (Some w) text is span = absurd is
no_more_atoms Two line at None text is span = absurd is
no_more_atoms Two line at (Some w) text (x, y, is_x, is_y, is) span =
    let whole : Span line at (codes " " ++ (codes "| " ++ (x ++ (codes " " ++ y)))) (length line) = rw is at span in
    let (space, bar) = split line at (codes " ") _ (length line) whole in
    rw (after_some line at (codes " ") _ space) (no_atom line _ _ bar.is)

stated_some : (version : Version) (line : List ℕ) (at : ℕ) (w : Option Weights) (text : List ℕ) → IsStated version w text → Span line at text (length line) → stated version line at ≡ Some (w, length line)
stated_some One line at None text is span = let place : at ≡ length line = omega (arith, span.place, ap length is) in rw place refl
stated_some One line at (Some w) text is span = absurd is
stated_some Two line at None text is span = absurd is
stated_some Two line at (Some w) text (x, y, is_x, is_y, is) span =
    let (bar, r1) = split line at (codes " | ") _ (length line) (rw is at span) in
    let (first, r2) = split line _ x _ (length line) r1 in
    let (space, second) = split line _ (codes " ") y (length line) r2 in
    rw (
      after_some line at (codes " | ") _ bar,
      number_some line _ w.source x _ is_x first (stops line _ _ (length line) r2 refl),
      after_some line _ (codes " ") _ space,
      number_some line _ w.dest y (length line) is_y second (ap ends (at_end line)),
    ) refl

same : (n : ℕ) → (n == n) ≡ true
same n = grind (arith, nat_tests)

ending_some : (version : Version) (line : List ℕ) (at : ℕ) (w : Option Weights) (text : List ℕ) → IsStated version w text → Span line at text (length line) → ending version line at ≡ Some w
ending_some version line at w text is span = rw (stated_some version line at w text is span) (ap (λ b. if b then Some w else None) (same (length line)))

stated_is : (version : Version) (line : List ℕ) (at : ℕ) (p : Option Weights × ℕ) → stated version line at ≡ Some p → Found (IsStated version) line at p
stated_is One line at p is = made (Found (IsStated One) line at) (None, at) p is ([], refl, record { is = refl; place = omega arith })
stated_is Two line at p is =
    let (n, bar, r1) = bind_some (after line at (codes " | ")) _ p is in
    let (w, first, r2) = bind_some (number line n) _ p r1 in
    let (m, space, r3) = bind_some (after line w.1 (codes " ")) _ p r2 in
    let (x, second, r4) = bind_some (number line m) _ p r3 in
    let (s, is_s, span_s, _) = number_is line n w.0 w.1 first in
    let (t, is_t, span_t, _) = number_is line m x.0 x.1 second in
    made (Found (IsStated Two) line at) (Some (record { source = w.0; dest = x.0 }), x.1) p r4 (
      codes " | " ++ (s ++ (codes " " ++ t)),
      (s, t, is_s, is_t, refl),
      join line at (codes " | ") n _ x.1 (after_is line at (codes " | ") n bar) (join line n s w.1 _ x.1 span_s (join line w.1 (codes " ") m t x.1 (after_is line w.1 (codes " ") m space) span_t)),
    )

if_same : {A : Type 0} (n m : ℕ) (x y : A) → (if n == m then Some x else None) ≡ Some y → (n ≡ m) × (Some x ≡ Some y)
if_same n m x y is =
    elim (cases_eq n m) [
      | inl e ↦ (e, let t : (n == m) ≡ true = grind (arith, nat_tests) in sym (ap (λ b. if b then Some x else None) t) ∙ is)
      | inr ne ↦ let f : (n == m) ≡ false = grind (arith, nat_tests) in let none : None ≡ Some y = sym (ap (λ b. if b then Some x else None) f) ∙ is in absurd (cc)
    ]

ending_is : (version : Version) (line : List ℕ) (at : ℕ) (w : Option Weights) → ending version line at ≡ Some w → (text : List ℕ) × IsStated version w text × Span line at text (length line)
ending_is version line at w is =
    let (p, there, r1) = bind_some (stated version line at) _ w is in
    let (place, found) = if_same p.1 (length line) p.0 w r1 in
    let (text, is_text, span) = stated_is version line at p there in
    made (λ w. (text : List ℕ) × IsStated version w text × Span line at text (length line)) p.0 w found (text, is_text, subst (Span line at text) place span)

-- ---- lines

pub rule_some : (version : Version) (r : RuleText) (line : List ℕ) → IsLine version r line → rule version line ≡ Some r
unfolding rule
rule_some version r line is =
    let nothing : drop 0 line ≡ line ++ [] = sym (append-nil line) in
    let all : Span line 0 line (length line) = record { is = refl ∙ sym (append-nil line) ∙ ap (λ t. line ++ t) (sym (at_end line)); place = omega arith } in
    let whole : Span line 0 (is.source ++ (codes " => " ++ (is.dest ++ (codes " | " ++ (is.atoms ++ is.weights))))) (length line) = subst (λ t. Span line 0 t (length line)) is.is all in
    let (first, r1) = split line 0 is.source _ (length line) whole in
    let (arrow, r2) = split line _ (codes " => ") _ (length line) r1 in
    let (second, r3) = split line _ is.dest _ (length line) r2 in
    let (bar, r4) = split line _ (codes " | ") _ (length line) r3 in
    let (list, last) = split line _ is.atoms is.weights (length line) r4 in
    let source = side_some (length line) true line 0 r.source is.source _ (within line 0 is.source _ first) is.is_source first (stops line _ _ (length line) r1 refl) in
    let dest = side_some (length line) false line _ r.dest is.dest _ (within line _ is.dest _ second) is.is_dest second (stops line _ _ (length line) r3 refl) in
    rw (
      source,
      after_some line _ (codes " => ") _ arrow,
      dest,
      after_some line _ (codes " | ") _ bar,
      atoms_some line _ r.atoms is.atoms _ is.are_atoms list (no_more_atoms version line _ r.weights is.weights is.is_stated last),
      ending_some version line _ r.weights is.weights is.is_stated last,
    ) refl

regroup : (x k y m e : List ℕ) → (x ++ (k ++ (y ++ m))) ++ e ≡ x ++ (k ++ (y ++ (m ++ e)))
regroup x k y m e = append_assoc x (k ++ (y ++ m)) e ∙ ap (λ t. x ++ t) (append_assoc k (y ++ m) e ∙ ap (λ t. k ++ t) (append_assoc y m e))

pub rule_is : (version : Version) (r : RuleText) (line : List ℕ) → rule version line ≡ Some r → IsLine version r line
unfolding rule
rule_is version r line is =
    let (both, b1, r1) = bind_some (sides line) _ r is in
    let (list, b2, r2) = bind_some (atoms line both.2) _ r r1 in
    let (w, b3, r3) = bind_some (ending version line list.1) _ r r2 in
    let (s, c1, q1) = bind_some (side (length line) true line 0) _ both b1 in
    let (n, c2, q2) = bind_some (after line s.1 (codes " => ")) _ both q1 in
    let (t, c3, q3) = bind_some (side (length line) false line n) _ both q2 in
    let (m, c4, q4) = bind_some (after line t.1 (codes " | ")) _ both q3 in
    let (source, is_source, span_s) = side_is (length line) true line 0 s c1 in
    let (dest, is_dest, span_t) = side_is (length line) false line n t c3 in
    let first = join line 0 source s.1 _ m span_s (join line s.1 (codes " => ") n _ m (after_is line s.1 (codes " => ") n c2) (join line n dest t.1 (codes " | ") m span_t (after_is line t.1 (codes " | ") m c4))) in
    let (sides_text, is_sides, span_sides) = made (FoundTwo (λ (a b : SideText) text. (x : List ℕ) × (y : List ℕ) × IsSide true a x × IsSide false b y × (text ≡ x ++ (codes " => " ++ (y ++ codes " | ")))) line 0) (s.0, t.0, m) both q4
    (source ++ (codes " => " ++ (dest ++ codes " | ")), (source, dest, is_source, is_dest, refl), first) in
    let (x, y, is_x, is_y, sides_are) = is_sides in
    let (z, are_atoms, span_z) = atoms_are line both.2 list b2 in
    let (e, is_stated, span_e) = ending_is version line list.1 w b3 in
    let whole = join line 0 sides_text both.2 _ (length line) span_sides (join line both.2 z list.1 e (length line) span_z span_e) in
    let all : line ≡ sides_text ++ (z ++ e) = whole.is ∙ ap (λ t. (sides_text ++ (z ++ e)) ++ t) (at_end line) ∙ append-nil (sides_text ++ (z ++ e)) in
    let text : line ≡ x ++ (codes " => " ++ (y ++ (codes " | " ++ (z ++ e)))) = all ∙ ap (λ t. t ++ (z ++ e)) sides_are ∙ regroup x (codes " => ") y (codes " | ") (z ++ e) in
    made (λ r. IsLine version r line) (record { source = both.0; dest = both.1; atoms = list.0; weights = w }) r r3
    (record { source = x; dest = y; atoms = z; weights = e; is_source = is_x; is_dest = is_y; are_atoms = are_atoms; is_stated = is_stated; is = text })

pub none_is : (version : Version) (line : List ℕ) → rule version line ≡ None → (r : RuleText) → IsLine version r line → ⊥
none_is version line is r form = let some = rule_some version r line form in absurd (cc)

pub one_rule : (version : Version) (line : List ℕ) (a b : RuleText) → IsLine version a line → IsLine version b line → a ≡ b
one_rule version line a b is_a is_b = let some_a = rule_some version a line is_a in let some_b = rule_some version b line is_b in cc

pub line_read : (version : Version) (line : List ℕ) (result : Result ParsedRule LineError) → Gives rule_of (rule version line) result → IfOk result (λ r. IsLine version (rule_of r) line)
line_read version line (Ok r) is = rule_is version (rule_of r) line is
line_read version line (Err Syntax) is = tt
line_read version line (Err Memory) is = tt

pub line_refused : (version : Version) (line : List ℕ) (result : Result ParsedRule LineError) → Gives rule_of (rule version line) result → result ≡ Err Syntax → (r : RuleText) → IsLine version r line → ⊥
line_refused version line (Ok r) is refused = absurd (cc)
line_refused version line (Err Syntax) is refused = none_is version line is
line_refused version line (Err Memory) is refused = absurd (cc)
