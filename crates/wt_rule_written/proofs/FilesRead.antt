-- A rule file that is written is read as the same rules.
use Rattle.std.proofs.Common.{◌≡◌, ℕ, suc, ◌+◌, ◌*◌, ◌≤◌, Bool, true, false, List, [], ◌∷◌, ◌++◌, length, refl, sym, ap, subst, ◌∙◌, arith, append_assoc}
use Rattle.std.specs.Prelude.{◌&&◌, ◌==◌, not, codes, if◌then◌else◌, Ok}
use Rattle.std.specs.List.{list_all}
use Rattle.std.specs.Fmt.{decimal}
use Rattle.wt_bag.specs.Bags.{Each}
use Rattle.wt_symbol.specs.Sides as sides
use Rattle.wt_symbol.specs.Sides.{SideTree, PairTree, size_of, weight_of}
use Rattle.wt_symbol.specs.Lawful.{IsLawful}
use Rattle.wt_symbol.proofs.SymbolLemmas.{lawful_sizes}
use Rattle.wt_constraint.specs.declared.set.AtomSet.{AtomSet}
use Rattle.wt_constraint.specs.Atoms.{atoms_of_pair}
use Rattle.wt_constraint.proofs.AtomLemmas.{length-atoms}
use Rattle.wt_rule.specs.Texts.{list_text, anchored_text, side_text, chosen, rule_text, line_of, end_line}
use Rattle.wt_rule_text.specs.declared.parsed.Version.TheVariants.{Two}
use Rattle.wt_rule_text.specs.Forms.{IsNumber}
use Rattle.wt_rule_file.specs.Files.{put_before, lines_of, Ends, RuleTree, Give, the_end, a_rule, AreRead, read, IsAnswer}
use Rattle.wt_rule_file.specs.Good.{IsGoodWithin}
use Rattle.wt_rule_written.specs.Written.{rule_lines, file_text}
use Rattle.wt_rule_written.proofs.Decimals.{is_decimal, short_number}
use Rattle.wt_rule_written.proofs.Fine.{Fine, SmallAtom, no_lf, joined, wider, literal, byte_fine, number_free, list_fine, anchored_fine, side_fine, atoms_fine, chosen_small}
use Rattle.wt_rule_written.proofs.Smallness.{source_small, dest_small, anchors_small, all_small, weight-le}
use Rattle.wt_rule_written.proofs.Stated.{text_of, stated}

-- ---- a line

text_fine : (p : PairTree) (set : AtomSet) → IsLawful p → Fine 4096 (text_of p set)
text_fine p set lawful =
    let sizes = lawful_sizes p lawful in
    let A = p.anchors in
    let small = chosen_small (SmallAtom A) set 0 (atoms_of_pair p) (all_small A (anchors_small p lawful) p.source (source_small p lawful)) in
    let count = length-atoms p.source sizes.0 in
    let source = side_fine (anchored_text A) (λ a l. anchored_fine A a l (anchors_small p lawful a)) p.source (source_small p lawful) in
    let dest = side_fine list_text (λ a l. wider 4 9 (list_text a) (omega arith) (list_fine a l)) p.dest (dest_small p lawful) in
    let atoms = atoms_fine A (chosen set 0 (atoms_of_pair p)) small.0 in
    let heavy = byte_fine (weight_of p.source) (omega (arith, weight-le p.source, sizes.0)) in
    let light = byte_fine (weight_of p.dest) (omega (arith, weight-le p.dest, sizes.1)) in
    let rule = joined _ _ (side_text (anchored_text A) p.source) _ source (joined 4 _ (codes " => ") _ (literal 4 (codes " => ") refl (omega arith)) (joined _ _ (side_text list_text p.dest) _ dest
    (joined 3 _ (codes " | ") _ (literal 3 (codes " | ") refl (omega arith)) atoms))) in
    let weights = joined 3 _ (codes " | ") _ (literal 3 (codes " | ") refl (omega arith)) (joined 3 _ (decimal (weight_of p.source)) _ heavy (joined 1 3 (codes " ") (decimal (weight_of p.dest)) (literal 1 (codes " ") refl (omega arith)) light)) in
    wider (((37 * size_of p.source + 4) + (4 + ((37 * size_of p.dest + 4) + (3 + (30 * length (chosen set 0 (atoms_of_pair p)) + 1))))) + (3 + (3 + (1 + 3)))) 4096 _
    (omega (arith, sizes.0, sizes.1, small.1, count)) (joined _ _ (rule_text p set) _ rule weights)

first : List ℕ → ℕ
first [] = 0
first (b ∷ bs) = b

no_end_side : (list : ℕ → List ℕ) (t : SideTree) (x y : List ℕ) → side_text list t ++ x ≡ 101 ∷ y → ⊥
unfolding first
no_end_side list (sides.input r) x y is = let e : ◌≡◌ {A = ℕ} 114 101 = ap first is in absurd (omega (arith, e))
no_end_side list (sides.proj a s) x y is = let e : ◌≡◌ {A = ℕ} 80 101 = ap first is in absurd (omega (arith, e))
no_end_side list (sides.filtered p a s) x y is = let e : ◌≡◌ {A = ℕ} 70 101 = ap first is in absurd (omega (arith, e))
no_end_side list (sides.inner_join a b s t) x y is = let e : ◌≡◌ {A = ℕ} 73 101 = ap first is in absurd (omega (arith, e))
no_end_side list (sides.left_join a b s t) x y is = let e : ◌≡◌ {A = ℕ} 76 101 = ap first is in absurd (omega (arith, e))
no_end_side list (sides.in_sub a s t) x y is = let e : ◌≡◌ {A = ℕ} 73 101 = ap first is in absurd (omega (arith, e))
no_end_side list (sides.dedup s) x y is = let e : ◌≡◌ {A = ℕ} 68 101 = ap first is in absurd (omega (arith, e))

no_end_line : (p : PairTree) (set : AtomSet) → Ends (text_of p set) → ⊥
no_end_line p set (rest, is) = no_end_side (anchored_text p.anchors) p.source _ (110 ∷ 100 ∷ 32 ∷ rest) (sym (append_assoc (side_text (anchored_text p.anchors) p.source) _ _) ∙ is)

and_both : (b c : Bool) → (b && c) ≡ true → (b ≡ true) × (c ≡ true)
and_both true c h = (refl, h)
and_both false c h = absurd (cc)

not_true : (b : Bool) → not b ≡ true → b ≡ false
not_true true h = absurd (cc)
not_true false h = refl

-- a text without LF, and then an LF, is a line
first_line : (text rest : List ℕ) → list_all no_lf text ≡ true → lines_of (text ++ 10 ∷ rest) ≡ record { text = text; ended = true } ∷ lines_of rest
first_line [] rest free = refl
first_line (b ∷ bs) rest free =
    let parts = and_both (no_lf b) (list_all no_lf bs) free in
    ap (λ y. if y then record { text = []; ended = true } ∷ lines_of (bs ++ 10 ∷ rest) else put_before b (lines_of (bs ++ 10 ∷ rest))) (not_true (b == 10) parts.0)
    ∙ ap (put_before b) (first_line bs rest parts.1)

ends_so : (r b w s x : List ℕ) → r ++ (b ++ (w ++ (s ++ (x ++ (10 ∷ []))))) ≡ (r ++ (b ++ (w ++ (s ++ x)))) ++ 10 ∷ []
ends_so r b w s x =
    sym (append_assoc r _ (10 ∷ []) ∙ ap (λ t. r ++ t) (append_assoc b _ (10 ∷ []) ∙ ap (λ t. b ++ t) (append_assoc w _ (10 ∷ []) ∙ ap (λ t. w ++ t) (append_assoc s x (10 ∷ [])))))

so_on : (t l e : List ℕ) → ((t ++ 10 ∷ []) ++ l) ++ e ≡ t ++ 10 ∷ (l ++ e)
so_on t l e = append_assoc (t ++ 10 ∷ []) l e ∙ append_assoc t (10 ∷ []) (l ++ e)

so_on_head : (w d r : List ℕ) → (w ++ (d ++ (10 ∷ []))) ++ r ≡ (w ++ d) ++ 10 ∷ r
so_on_head w d r = append_assoc w (d ++ (10 ∷ [])) r ∙ ap (λ t. w ++ t) (append_assoc d (10 ∷ []) r) ∙ sym (append_assoc w d (10 ∷ r))

line_text : (p : PairTree) (set : AtomSet) → line_of p set ≡ text_of p set ++ 10 ∷ []
line_text p set = ends_so (rule_text p set) (codes " | ") (decimal (weight_of p.source)) (codes " ") (decimal (weight_of p.dest))

-- ---- lines

given : (steps n count : ℕ) (rules : List RuleTree) → Each (IsGoodWithin steps) rules → count + length rules ≤ 65536 →
    Give Two steps n count (lines_of (rule_lines rules ++ end_line (count + length rules))) (Ok rules)
given steps n count [] good few =
    let number : count + 0 ≡ count = omega arith in
    let fine = joined 4 20 (codes "end ") (decimal (count + 0)) (literal 4 (codes "end ") refl (omega arith)) (record { free = number_free (count + 0) (omega arith); short = short_number (count + 0) (omega arith) }) in
    let short : length (codes "end " ++ decimal (count + 0)) ≤ 4096 = omega (arith, fine.short) in
    subst (λ l. Give Two steps n count l (Ok [])) (sym (ap lines_of (sym (append_assoc (codes "end ") (decimal (count + 0)) (10 ∷ []))) ∙ first_line (codes "end " ++ decimal (count + 0)) [] fine.free))
    (the_end short refl (decimal (count + 0), subst (λ k. IsNumber k (decimal (count + 0))) number (is_decimal (count + 0) (omega arith)), refl))
given steps n count (r ∷ rules) good few =
    let number : suc count + length rules ≡ count + length (r ∷ rules) = omega arith in
    let fine = text_fine r.pair r.set good.0.lawful in
    let rest = rule_lines rules ++ end_line (count + length (r ∷ rules)) in
    let lines : lines_of (rule_lines (r ∷ rules) ++ end_line (count + length (r ∷ rules))) ≡ record { text = text_of r.pair r.set; ended = true } ∷ lines_of rest =
    ap lines_of (ap (λ l. (l ++ rule_lines rules) ++ end_line (count + length (r ∷ rules))) (line_text r.pair r.set) ∙ so_on (text_of r.pair r.set) (rule_lines rules) (end_line (count + length (r ∷ rules))))
    ∙ first_line (text_of r.pair r.set) rest fine.free in
    let more : Give Two steps (suc n) (suc count) (lines_of rest) (Ok rules) = subst (λ k. Give Two steps (suc n) (suc count) (lines_of (rule_lines rules ++ end_line k)) (Ok rules)) number (given steps (suc n) (suc count) rules good.1 (omega arith)) in
    subst (λ l. Give Two steps n count l (Ok (r ∷ rules))) (sym lines)
    (a_rule fine.short (no_end_line r.pair r.set) (omega arith) (record { ended = refl; states = stated r.pair r.set good.0.lawful good.0.within; proved = good.0.proved }) more)

pub file_read : (steps : ℕ) (rules : List RuleTree) → 1 ≤ steps → steps ≤ 16 → length rules ≤ 65536 → Each (IsGoodWithin steps) rules → IsAnswer (file_text steps rules) (Ok (record { steps = steps; rules = rules }))
file_read steps rules some few small good =
    let words = codes "wetune-rules 2 steps=" in
    let rest = rule_lines rules ++ end_line (length rules) in
    let number = is_decimal steps (omega arith) in
    let free = (joined 21 20 words (decimal steps) (literal 21 words refl (omega arith)) (record { free = number_free steps (omega arith); short = short_number steps (omega arith) })) in
    let lines : lines_of (file_text steps rules) ≡ record { text = words ++ decimal steps; ended = true } ∷ lines_of rest = ap lines_of (so_on_head words (decimal steps) rest) ∙ first_line (words ++ decimal steps) rest free.free in
    let zero_count : 0 + length rules ≡ length rules = omega arith in
    let body : Give Two steps 2 0 (lines_of rest) (Ok rules) = subst (λ k. Give Two steps 2 0 (lines_of (rule_lines rules ++ end_line k)) (Ok rules)) zero_count (given steps 2 0 rules good (omega arith)) in
    subst (λ l. AreRead l (Ok (record { steps = steps; rules = rules }))) (sym lines)
    (read (omega (arith, free.short)) (record { digits = decimal steps; number = number; some = some; few = few; is = refl }) refl body)
