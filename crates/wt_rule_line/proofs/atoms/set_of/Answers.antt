use Rattle.std.proofs.Common.{◌≡◌, ◌∙◌, sym, subst, refl}
use Rattle.wt_bag.specs.Bags.{Each}
use Rattle.wt_bag.specs.Choices.{Has}
use Rattle.wt_symbol.specs.Sides.{pair_of}
use Rattle.wt_rule_line.proofs.SetLaws.{apart_all, found_set, found_none}
use Rattle.wt_rule_line.proofs.atoms.set_of.Goals as goal

pub number_of-requires-clause-apart : goal.number_of-requires-clause-apart
number_of-requires-clause-apart c = apart_all (pair_of c.args.pair.now) c.requires.lawful c.deref-2.result.now (c.deref-2.ensures.value ∙ c.in_ok-all.ensures.atoms)

pub returns-in-Some : goal.returns-in-Some
returns-in-Some c =
    found_set (pair_of c.args.pair.now) c.deref-2.result.now c.args.atoms.now c.in-Some.number (c.deref-2.ensures.value ∙ c.in_ok-all.ensures.atoms) c.in-Some.ensures.picked c.in-Some.ensures.small

pub returns : goal.returns
returns c =
    let among : Each (λ a. Has a c.deref.result.now) c.args.atoms.now = c.if-not-are_among.ensures.0 refl in
    let same : c.deref.result.now ≡ c.deref-2.result.now = c.deref.ensures.value ∙ sym c.deref-2.ensures.value in
    found_none (pair_of c.args.pair.now) c.deref-2.result.now c.args.atoms.now (c.deref-2.ensures.value ∙ c.in_ok-all.ensures.atoms)
    (subst (λ l. Each (λ a. Has a l) c.args.atoms.now) same among) c.in-None.ensures.picked
