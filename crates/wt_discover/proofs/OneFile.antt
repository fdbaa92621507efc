-- Some pairs have one rule file, and the lines of the first of them begin it.
use Rattle.std.proofs.Common.{ℕ, ◌+◌, ◌-◌, ◌^◌, ◌≡◌, min, zero, suc, List, [], ◌∷◌, ◌++◌, length, take, sym, ap, ◌∙◌, append_assoc}
use Rattle.std.specs.List.{flat_map}
use Rattle.wt_symbol.specs.Sides.{PairTree}
use Rattle.wt_form.proofs.OneList.{rules_are_one}
use Rattle.wt_rule.specs.Texts.{head_line, end_line, line_of}
use Rattle.wt_discover.specs.Files.{AreLines, AreAllLines, IsRuleFile}

one_lines : (p : PairTree) (k d : ℕ) (t u : List ℕ) (n m : ℕ) → AreLines p k d t n → AreLines p k d u m → (t ≡ u) × (n ≡ m)
one_lines p k d t u n m a b =
    let sets : a.sets ≡ b.sets = rules_are_one p k d a.sets b.sets a.rules b.rules in
    (a.lines ∙ ap (flat_map (line_of p)) sets ∙ sym b.lines, a.number ∙ ap length sets ∙ sym b.number)

one_all : (k d : ℕ) (ps : List PairTree) (t u : List ℕ) (n m : ℕ) → AreAllLines k d ps t n → AreAllLines k d ps u m → (t ≡ u) × (n ≡ m)
one_all k d [] t u n m a b = (a.0 ∙ sym b.0, a.1 ∙ sym b.1)
one_all k d (p ∷ ps) t u n m a b =
    let first = one_lines p k d a.0 b.0 a.1 b.1 a.4 b.4 in
    let rest = one_all k d ps a.2 b.2 a.3 b.3 a.5 b.5 in
    (a.6 ∙ ap (λ x. x ++ a.2) first.0 ∙ ap (λ x. b.0 ++ x) rest.0 ∙ sym b.6, a.7 ∙ ap (λ x. x + a.3) first.1 ∙ ap (λ x. b.1 + x) rest.1 ∙ sym b.7)

pub one_file : (k d : ℕ) (ps : List PairTree) (t u : List ℕ) → IsRuleFile k d ps t → IsRuleFile k d ps u → t ≡ u
one_file k d ps t u a b =
    let all = one_all k d ps a.lines b.lines a.count b.count a.are b.are in
    a.is ∙ ap (λ x. head_line k ++ (x ++ end_line (min a.count (2 ^ 64 - 1)))) all.0 ∙ ap (λ n. head_line k ++ (b.lines ++ end_line (min n (2 ^ 64 - 1)))) all.1 ∙ sym b.is

first_lines : (k d n : ℕ) (ps : List PairTree) (t u : List ℕ) (m c : ℕ) → AreAllLines k d (take n ps) t m → AreAllLines k d ps u c → (rest : List ℕ) × (u ≡ t ++ rest)
first_lines k d zero ps t u m c a b = (u, sym (ap (λ x. x ++ u) a.0))
first_lines k d (suc n) [] t u m c a b = (u, sym (ap (λ x. x ++ u) a.0))
first_lines k d (suc n) (p ∷ ps) t u m c a b =
    let first = one_lines p k d a.0 b.0 a.1 b.1 a.4 b.4 in
    let (rest, is) = first_lines k d n ps a.2 b.2 a.3 b.3 a.5 b.5 in
    (rest, b.6 ∙ ap (λ x. x ++ b.2) (sym first.0) ∙ ap (λ x. a.0 ++ x) is ∙ sym (append_assoc a.0 a.2 rest) ∙ ap (λ x. x ++ rest) (sym a.6))

pub first_pairs_begin : (k d n : ℕ) (ps : List PairTree) (t file : List ℕ) (m : ℕ) → AreAllLines k d (take n ps) t m → IsRuleFile k d ps file → (rest : List ℕ) × (file ≡ (head_line k ++ t) ++ rest)
first_pairs_begin k d n ps t file m a b =
    let end = end_line (min b.count (2 ^ 64 - 1)) in
    let (rest, is) = first_lines k d n ps t b.lines m b.count a b.are in
    (rest ++ end, b.is ∙ ap (λ x. head_line k ++ (x ++ end)) is ∙ ap (λ x. head_line k ++ x) (append_assoc t rest end) ∙ sym (append_assoc (head_line k) t (rest ++ end)))
