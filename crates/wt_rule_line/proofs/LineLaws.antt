-- A line gives one answer.
use Rattle.std.proofs.Common.{◌≡◌, ℕ, List, Some, Ok, Err, refl, sym, ap, subst, ◌∙◌}
use Rattle.std.specs.Prelude.{Result}
use Rattle.wt_symbol.specs.declared.fault.PairFault.{PairFault}
use Rattle.wt_symbol.specs.Sides.{PairTree}
use Rattle.wt_symbol.specs.Lawful.{IsLawful, fault_of}
use Rattle.wt_symbol.proofs.SymbolLemmas.{none_from_lawful}
use Rattle.wt_constraint.specs.declared.set.AtomSet.{AtomSet}
use Rattle.wt_rule.specs.declared.Rule.{Rule}
use Rattle.wt_rule_text.specs.declared.parsed.Version.{Version}
use Rattle.wt_rule_text.specs.Trees.{RuleText}
use Rattle.wt_rule_text.specs.Forms.{IsLine}
use Rattle.wt_rule_text.proofs.RuleForms.{one_rule}
use Rattle.wt_rule_line.specs.declared.fault.RuleFault.{RuleFault}
use Rattle.wt_rule_line.specs.declared.fault.RuleFault.TheVariants.{Head, Syntax, Symbol, TooLong, Anchor, Weight, Root, Atom, Order, StatedWeight, NotProved, Count}
use Rattle.wt_rule_line.specs.declared.fault.RuleLineError.{RuleLineError}
use Rattle.wt_rule_line.specs.declared.fault.RuleLineError.TheVariants.{Fault, Memory}
use Rattle.wt_rule_line.specs.Pairs.{pair_of_text, fault_name, MakesPair}
use Rattle.wt_rule_line.specs.Sets.{IsSetOf, FindsSet}
use Rattle.wt_rule_line.specs.Lines.{HasWeights, IsRuleOf, Completes, Judges, GivesRule, HasFault, of_pair, of_atoms, of_order, of_weights, States, IsRefused, no_form, has_fault}
use Rattle.wt_rule_line.proofs.SetLaws.{one_set, set_among}

pub one_rule_stated : (version : Version) (line : List ℕ) (p q : PairTree) (a b : AtomSet) → States version line p a → States version line q b → (p ≡ q) × (a ≡ b)
one_rule_stated version line p q a b s t =
    let same = one_rule version line s.text t.text s.is_line t.is_line in
    let pairs : p ≡ q = sym s.is_rule.pair ∙ ap pair_of_text same ∙ t.is_rule.pair in
    let atoms = ap (λ r. r.atoms) same in
    let other : IsSetOf p b s.text.atoms = subst (λ l. IsSetOf p b l) (sym atoms) (subst (λ x. IsSetOf x b t.text.atoms) (sym pairs) t.is_rule.atoms) in
    (pairs, one_set p s.is_rule.lawful a b s.text.atoms s.is_rule.atoms other)

lawful_pair_has_none : (p : PairTree) (fault : PairFault) → IsLawful p → fault_of p ≡ Some fault → ⊥
lawful_pair_has_none p fault lawful is = let none = none_from_lawful p lawful in absurd (cc)

rule_has_none : (r : RuleText) (p : PairTree) (set : AtomSet) (f : RuleFault) → IsRuleOf r p set → HasFault r f → ⊥
rule_has_none r p set f rule (of_pair is) = lawful_pair_has_none (pair_of_text r) _ (subst IsLawful (sym rule.pair) rule.lawful) is
rule_has_none r p set f rule (of_atoms lawful none) = none (set_among (pair_of_text r) set r.atoms (subst (λ x. IsSetOf x set r.atoms) (sym rule.pair) rule.atoms))
rule_has_none r p set f rule (of_order lawful among none) = none set (subst (λ x. IsSetOf x set r.atoms) (sym rule.pair) rule.atoms)
rule_has_none r p set f rule (of_weights lawful is wrong) = wrong (subst (λ x. HasWeights x r.weights) (sym rule.pair) rule.weights)

pub not_refused : (version : Version) (line : List ℕ) (p : PairTree) (set : AtomSet) (f : RuleFault) → States version line p set → IsRefused version line f → ⊥
not_refused version line p set f s (no_form none) = none s.text s.is_line
not_refused version line p set f s (has_fault {r = r} line_is fault) =
    rule_has_none s.text p set f s.is_rule (subst (λ x. HasFault x f) (one_rule version line r s.text line_is s.is_line) fault)

one_fault_of : (r : RuleText) (f g : RuleFault) → HasFault r f → HasFault r g → f ≡ g
one_fault_of r f g (of_pair {fault = x} a) (of_pair {fault = y} b) = let same : x ≡ y = cc in ap fault_name same
one_fault_of r f g (of_pair a) (of_atoms lawful none) = absurd (lawful_pair_has_none (pair_of_text r) _ lawful a)
one_fault_of r f g (of_pair a) (of_order lawful among none) = absurd (lawful_pair_has_none (pair_of_text r) _ lawful a)
one_fault_of r f g (of_pair a) (of_weights lawful is wrong) = absurd (lawful_pair_has_none (pair_of_text r) _ lawful a)
one_fault_of r f g (of_atoms lawful none) (of_pair b) = absurd (lawful_pair_has_none (pair_of_text r) _ lawful b)
one_fault_of r f g (of_atoms lawful none) (of_atoms lawful' none') = refl
one_fault_of r f g (of_atoms lawful none) (of_order lawful' among none') = absurd (none among)
one_fault_of r f g (of_atoms lawful none) (of_weights {set = set} lawful' is wrong) = absurd (none (set_among (pair_of_text r) set r.atoms is))
one_fault_of r f g (of_order lawful among none) (of_pair b) = absurd (lawful_pair_has_none (pair_of_text r) _ lawful b)
one_fault_of r f g (of_order lawful among none) (of_atoms lawful' none') = absurd (none' among)
one_fault_of r f g (of_order lawful among none) (of_order lawful' among' none') = refl
one_fault_of r f g (of_order lawful among none) (of_weights {set = set} lawful' is wrong) = absurd (none set is)
one_fault_of r f g (of_weights lawful is wrong) (of_pair b) = absurd (lawful_pair_has_none (pair_of_text r) _ lawful b)
one_fault_of r f g (of_weights {set = set} lawful is wrong) (of_atoms lawful' none') = absurd (none' (set_among (pair_of_text r) set r.atoms is))
one_fault_of r f g (of_weights {set = set} lawful is wrong) (of_order lawful' among none') = absurd (none' set is)
one_fault_of r f g (of_weights lawful is wrong) (of_weights lawful' is' wrong') = refl

pub one_fault : (version : Version) (line : List ℕ) (f g : RuleFault) → IsRefused version line f → IsRefused version line g → f ≡ g
one_fault version line f g (no_form a) (no_form b) = refl
one_fault version line f g (no_form a) (has_fault {r = r} is fault) = absurd (a r is)
one_fault version line f g (has_fault {r = r} is fault) (no_form b) = absurd (b r is)
one_fault version line f g (has_fault {r = r} is_a a) (has_fault {r = s} is_b b) = one_fault_of s f g (subst (λ x. HasFault x f) (one_rule version line r s is_a is_b) a) b

-- ---- what the code finds

pub pair_refused : (r : RuleText) (f : RuleFault) (fault : PairFault) → fault_of (pair_of_text r) ≡ Some fault → f ≡ fault_name fault → HasFault r f
pair_refused r f fault is name = subst (HasFault r) (sym name) (of_pair is)

of_found : (r : RuleText) (f : RuleFault) → IsLawful (pair_of_text r) → FindsSet (pair_of_text r) r.atoms (Err (Fault f)) → HasFault r f
of_found r Atom lawful none = of_atoms lawful none
of_found r Order lawful finds = of_order lawful finds.0 finds.1
of_found r Head lawful never = absurd never
of_found r Syntax lawful never = absurd never
of_found r Symbol lawful never = absurd never
of_found r TooLong lawful never = absurd never
of_found r Anchor lawful never = absurd never
of_found r Weight lawful never = absurd never
of_found r Root lawful never = absurd never
of_found r StatedWeight lawful never = absurd never
of_found r NotProved lawful never = absurd never
of_found r Count lawful never = absurd never

pub set_refused : (r : RuleText) (p : PairTree) (f : RuleFault) → IsLawful (pair_of_text r) → p ≡ pair_of_text r → FindsSet p r.atoms (Err (Fault f)) → HasFault r f
set_refused r p f lawful is finds = of_found r f lawful (subst (λ x. FindsSet x r.atoms (Err (Fault f))) is finds)

pub pair_gives : (r : RuleText) (e : RuleLineError) → MakesPair r (Err e) → Judges r (Err e)
pair_gives r (Fault f) is = pair_refused r f is.0 is.1 is.2
pair_gives r Memory is = tt

pub set_gives : (r : RuleText) (p : PairTree) (e : RuleLineError) → IsLawful p → p ≡ pair_of_text r → FindsSet p r.atoms (Err e) → Completes r p (Err e)
set_gives r p (Fault f) lawful same is = set_refused r p f (subst IsLawful same lawful) same is
set_gives r p Memory lawful same is = tt

pub completed : (r : RuleText) (p : PairTree) (e : RuleLineError) → Completes r p (Err e) → Judges r (Err e)
completed r p (Fault f) is = is
completed r p Memory is = tt

pub weights_refused : (r : RuleText) (p : PairTree) (set : AtomSet) → IsLawful p → p ≡ pair_of_text r → IsSetOf p set r.atoms → (HasWeights p r.weights → ⊥) → HasFault r StatedWeight
weights_refused r p set lawful same is wrong =
    of_weights (subst IsLawful same lawful) (subst (λ x. IsSetOf x set r.atoms) same is) (λ h. wrong (subst (λ x. HasWeights x r.weights) (sym same) h))

pub rule_made : (r : RuleText) (p : PairTree) (set : AtomSet) → IsLawful (pair_of_text r) × (p ≡ pair_of_text r) → IsSetOf p set r.atoms → HasWeights p r.weights → IsRuleOf r p set
rule_made r p set made is weights = record { pair = sym made.1; lawful = subst IsLawful (sym made.1) made.0; atoms = is; weights = weights }

pub line_given : (version : Version) (line : List ℕ) (r : RuleText) (result : Result Rule RuleLineError) → IsLine version r line → Judges r result → GivesRule version line result
line_given version line r (Ok rule) is judged = record { text = r; is_line = is; is_rule = judged }
line_given version line r (Err (Fault f)) is judged = has_fault is judged
line_given version line r (Err Memory) is judged = tt
