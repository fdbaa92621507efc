-- The lines of a lot's rules are those of its pairs.
use Rattle.std.proofs.Common.{◌≡◌, ℕ, zero, suc, ◌-◌, ◌^◌, ◌≤◌, refl, sym, ap, ◌∙◌, subst, arith, List, [], ◌∷◌, ◌++◌, length, length-append, map, append_assoc}
use Rattle.std.specs.List.{flat_map}
use Rattle.std.specs.Prelude.{All}
use Rattle.std.proofs.lemmas.List.{length-map}
use Rattle.wt_bag.specs.Bags.{Each}
use Rattle.wt_bag.proofs.EachLaws.{all_from_each}
use Rattle.wt_symbol.specs.declared.side.Pair.{Pair}
use Rattle.wt_symbol.specs.Sides.{PairTree, pair_of}
use Rattle.wt_symbol.specs.Lawful.{IsLawful}
use Rattle.wt_constraint.specs.declared.set.AtomSet.{AtomSet}
use Rattle.wt_rule.specs.declared.Rule.{Rule}
use Rattle.wt_rule.specs.Texts.{line_of}
use Rattle.wt_discover.specs.Files.{AreAllLines, AreCounted}
use Rattle.wt_board.specs.Rules.{AreRulesOf, rule_of}
use Rattle.wt_workers.specs.LineOf.{line_of_rule}

abbrev line : PairTree × AtomSet → List ℕ
line r = line_of r.0 r.1

-- the lines of one pair's rules, and then of others
pair_lines : (p : PairTree) (sets : List AtomSet) (rest : List (PairTree × AtomSet)) → flat_map line (map (λ s. (p, s)) sets ++ rest) ≡ flat_map (line_of p) sets ++ flat_map line rest
pair_lines p [] rest = refl
pair_lines p (s ∷ ss) rest = ap (λ t. line_of p s ++ t) (pair_lines p ss rest) ∙ sym (append_assoc (line_of p s) (flat_map (line_of p) ss) (flat_map line rest))

all_lines : (k d : ℕ) (ps : List PairTree) (rules : List (PairTree × AtomSet)) → AreRulesOf k d ps rules → AreAllLines k d ps (flat_map line rules) (length rules)
all_lines k d [] rules h = (ap (flat_map line) h, ap length h)
all_lines k d (p ∷ ps) rules h = (
  flat_map (line_of p) h.0,
  length h.0,
  flat_map line h.1,
  length h.1,
  record { sets = h.0; rules = h.2; lines = refl; number = refl },
  all_lines k d ps h.1 h.3,
  ap (flat_map line) h.4 ∙ pair_lines p h.0 h.1,
  (let a = length-append (map (λ s. (p, s)) h.0) h.1 in let b = length-map {B = PairTree × AtomSet} h.0 (λ s. (p, s)) in let c : length rules ≡ length (map (λ s. (p, s)) h.0 ++ h.1) = ap length h.4 in omega (arith, a, b, c)),
)

as_pairs : (rules : List Rule) → flat_map line_of_rule rules ≡ flat_map line (map rule_of rules)
as_pairs [] = refl
as_pairs (r ∷ rs) = ap (λ t. line_of_rule r ++ t) (as_pairs rs)

pub counted_rules : (k d : ℕ) (ps : List PairTree) (rules : List Rule) (text : List ℕ) (count : ℕ) → AreRulesOf k d ps (map rule_of rules) → text ≡ flat_map line_of_rule rules → count ≡ length rules → count ≤ 2 ^ 64 - 1 → AreCounted k d ps text count
counted_rules k d ps rules text count h is number few = record {
  number = length rules;
  are = subst (λ t. AreAllLines k d ps t (length rules)) (sym (is ∙ as_pairs rules)) (subst (λ n. AreAllLines k d ps (flat_map line (map rule_of rules)) n) (length-map rules rule_of) (all_lines k d ps (map rule_of rules) h));
  counted = omega (arith, number, few);
}

-- ---- the pairs of the rules are lawful

lawful_sets : (p : PairTree) (sets : List AtomSet) (rest : List (PairTree × AtomSet)) → IsLawful p → Each (λ (r : PairTree × AtomSet). IsLawful r.0) rest → Each (λ (r : PairTree × AtomSet). IsLawful r.0) (map (λ s. (p, s)) sets ++ rest)
lawful_sets p [] rest l h = h
lawful_sets p (s ∷ ss) rest l h = (l, lawful_sets p ss rest l h)

lawful_pairs : (k d : ℕ) (ps : List PairTree) (rules : List (PairTree × AtomSet)) → Each IsLawful ps → AreRulesOf k d ps rules → Each (λ (r : PairTree × AtomSet). IsLawful r.0) rules
lawful_pairs k d [] rules l h = subst (Each (λ (r : PairTree × AtomSet). IsLawful r.0)) (sym h) tt
lawful_pairs k d (p ∷ ps) rules l h = subst (Each (λ (r : PairTree × AtomSet). IsLawful r.0)) (sym h.4) (lawful_sets p h.0 h.1 l.0 (lawful_pairs k d ps h.1 l.1 h.3))

lawful_back : (rules : List Rule) → Each (λ (r : PairTree × AtomSet). IsLawful r.0) (map rule_of rules) → Each (λ (r : Rule). IsLawful (pair_of r.pair)) rules
lawful_back [] h = tt
lawful_back (r ∷ rs) h = (h.0, lawful_back rs h.1)

pub lawful_rules : (k d : ℕ) (ps : List PairTree) (rules : List Rule) → Each IsLawful ps → AreRulesOf k d ps (map rule_of rules) → All (λ (r : Rule). IsLawful (pair_of r.pair)) rules
lawful_rules k d ps rules l h = all_from_each (λ (r : Rule). IsLawful (pair_of r.pair)) rules (lawful_back rules (lawful_pairs k d ps (map rule_of rules) l h))

pub lawful_all : (pairs : List Pair) → All (λ p. IsLawful (pair_of p)) pairs → Each IsLawful (map pair_of pairs)
lawful_all [] h = tt
lawful_all (x ∷ xs) h = (h zero x (omega arith), lawful_all xs (λ k d l. h (suc k) d (omega (arith, l))))
