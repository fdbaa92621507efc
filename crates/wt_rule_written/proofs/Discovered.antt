-- What discovery writes is read as the rules of its pairs.
use Rattle.std.proofs.Common.{◌≡◌, ℕ, zero, suc, ◌-◌, ◌*◌, ◌^◌, ◌<◌, ◌≤◌, min, List, [], ◌∷◌, ◌++◌, map, length, Ok, refl, sym, ap, subst, ◌∙◌, inl, inr, arith, pow-suc, length-append, append_assoc}
use Rattle.std.specs.List.{flat_map}
use Rattle.std.proofs.lemmas.List.{length-map}
use Rattle.wt_bag.specs.Bags.{Each}
use Rattle.wt_bag.proofs.HasLaws.{each_from_has}
use Rattle.wt_symbol.specs.Sides.{PairTree}
use Rattle.wt_symbol.specs.Lawful.{IsLawful}
use Rattle.wt_constraint.specs.declared.set.AtomSet.{AtomSet}
use Rattle.wt_constraint.specs.Atoms.{atoms_of_pair}
use Rattle.wt_form.specs.Under.{Provable}
use Rattle.wt_form.specs.Relaxed.{Relaxed, AreRules}
use Rattle.wt_rule.specs.Texts.{line_of, head_line, end_line}
use Rattle.wt_discover.specs.Files.{AreAllLines, IsRuleFile}
use Rattle.wt_rule_file.specs.Files.{RuleTree, IsAnswer}
use Rattle.wt_rule_file.specs.Good.{IsGoodWithin}
use Rattle.wt_rule_written.specs.Written.{rule_lines, file_text, AreRulesOf, IsReadAsRules}
use Rattle.wt_rule_written.proofs.FilesRead.{file_read}

proved : (p : PairTree) (k depth : ℕ) (s : AtomSet) → Relaxed p k depth s → Provable p s k
proved p k zero s h = h.1
proved p k (suc depth) s (inl h) = proved p k depth s h
proved p k (suc depth) s (inr h) = h.4

ones : (n m : ℕ) → m ≡ 2 ^ n - 1 → 1 ≤ 2 ^ n → m < 2 ^ n
ones n m is some = omega arith

power : (n : ℕ) → 1 ≤ 2 ^ n
power zero = omega arith
power (suc n) = let e : 2 ^ suc n ≡ 2 ^ n * 2 = pow-suc 2 n in omega (arith, e, power n)

within : (p : PairTree) (k depth : ℕ) (s : AtomSet) → Relaxed p k depth s → s.0 < 2 ^ length (atoms_of_pair p)
within p k zero s h = ones (length (atoms_of_pair p)) s.0 h.0 (power (length (atoms_of_pair p)))
within p k (suc depth) s (inl h) = within p k depth s h
within p k (suc depth) s (inr h) = let above = within p k depth h.0 h.2 in let number = h.3.number in omega arith

good_sets : (p : PairTree) (k depth : ℕ) (sets : List AtomSet) → IsLawful p → AreRules p k depth sets → Each (λ set. IsGoodWithin k (record { pair = p; set = set })) sets
good_sets p k depth sets lawful rules =
    each_from_has (λ set. IsGoodWithin k (record { pair = p; set = set })) sets
    (λ set has. let relaxed = ((rules.members set).0 has).relaxed in record { lawful = lawful; within = within p k depth set relaxed; proved = proved p k depth set relaxed })

good_rules : (p : PairTree) (k : ℕ) (sets : List AtomSet) (rest : List RuleTree) → Each (λ set. IsGoodWithin k (record { pair = p; set = set })) sets → Each (IsGoodWithin k) rest →
    Each (IsGoodWithin k) (map (λ set. record { pair = p; set = set }) sets ++ rest)
good_rules p k [] rest h g = g
good_rules p k (s ∷ sets) rest h g = (h.0, good_rules p k sets rest h.1 g)

lines_of_sets : (p : PairTree) (sets : List AtomSet) (rest : List RuleTree) → rule_lines (map (λ set. record { pair = p; set = set }) sets ++ rest) ≡ flat_map (line_of p) sets ++ rule_lines rest
lines_of_sets p [] rest = refl
lines_of_sets p (s ∷ sets) rest = ap (λ l. line_of p s ++ l) (lines_of_sets p sets rest) ∙ sym (append_assoc (line_of p s) (flat_map (line_of p) sets) (rule_lines rest))

record Gathered (k depth : ℕ) (ps : List PairTree) (lines : List ℕ) (count : ℕ) : Type 0 where
  rules : List RuleTree
  are : AreRulesOf k depth ps rules
  written : lines ≡ rule_lines rules
  number : count ≡ length rules
  good : Each (IsGoodWithin k) rules

gathered : (k depth : ℕ) (ps : List PairTree) (lines : List ℕ) (count : ℕ) → Each IsLawful ps → AreAllLines k depth ps lines count → Gathered k depth ps lines count
gathered k depth [] lines count lawful all = record { rules = []; are = refl; written = all.0; number = all.1; good = tt }
gathered k depth (p ∷ ps) lines count lawful all =
    let here = all.4 in
    let more = gathered k depth ps all.2 all.3 lawful.1 all.5 in
    record {
      rules = map (λ set. record { pair = p; set = set }) here.sets ++ more.rules;
      are = (here.sets, more.rules, here.rules, more.are, refl);
      written = all.6 ∙ ap (λ l. l ++ all.2) here.lines ∙ ap (λ l. flat_map (line_of p) here.sets ++ l) more.written ∙ sym (lines_of_sets p here.sets more.rules);
      number = omega (arith, all.7, here.number, more.number, length-map {B = RuleTree} here.sets (λ set. record { pair = p; set = set }), length-append (map (λ set. record { pair = p; set = set }) here.sets) more.rules);
      good = good_rules p k here.sets more.rules (good_sets p k depth here.sets lawful.0 here.rules) more.good;
    }

pub discovered_read : (steps depth : ℕ) (pairs : List PairTree) (text : List ℕ) → 1 ≤ steps → steps ≤ 16 → Each IsLawful pairs → (file : IsRuleFile steps depth pairs text) → file.count ≤ 65536 → IsReadAsRules steps depth pairs text
discovered_read steps depth pairs text some few lawful file small =
    let all = gathered steps depth pairs file.lines file.count lawful file.are in
    let count : min file.count (2 ^ 64 - 1) ≡ length all.rules = let e = all.number in omega arith in
    let is : text ≡ file_text steps all.rules =
    file.is ∙ ap (λ l. head_line steps ++ (l ++ end_line (min file.count (2 ^ 64 - 1)))) all.written ∙ ap (λ n. head_line steps ++ (rule_lines all.rules ++ end_line n)) count in
    let room : length all.rules ≤ 65536 = let e = all.number in omega arith in
    record {
      rules = all.rules;
      are = all.are;
      answer = subst (λ t. IsAnswer t (Ok (record { steps = steps; rules = all.rules }))) (sym is) (file_read steps all.rules some few room all.good);
    }
