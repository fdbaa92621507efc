use Rattle.std.proofs.Common.{◌≡◌, ◌∷◌, ◌++◌, [], sym, ◌∙◌, rules}
use Rattle.wt_rule_text.proofs.AtomLists.{next_kept, stopped}
use Rattle.wt_rule_text.proofs.atom.push_more.Goals as goal

pub returns-in_default-clause-atoms : goal.returns-in_default-clause-atoms
returns-in_default-clause-atoms c =
    (stopped c.args.line.now c.args.from c.args.atoms.now.items c.atoms.atoms.items c.atoms.counter c.atoms.at (sym c.spaced_atom.ensures ∙ c.in_default.is) c.atoms.invariant).0

pub returns-in_default-clause-end : goal.returns-in_default-clause-end
returns-in_default-clause-end c =
    (stopped c.args.line.now c.args.from c.args.atoms.now.items c.atoms.atoms.items c.atoms.counter c.atoms.at (sym c.spaced_atom.ensures ∙ c.in_default.is) c.atoms.invariant).1

pub atoms-preserved : goal.atoms-preserved
atoms-preserved c =
    let more : c.push.new.self.items ≡ c.atoms.atoms.items ++ c.in-Some.atom ∷ [] = search rules in
    next_kept c.args.line.now c.args.from c.args.atoms.now.items c.atoms.atoms.items c.push.new.self.items c.atoms.counter c.atoms.at (c.in-Some.atom, c.in-Some.next)
    c.atoms-test.true (sym c.spaced_atom.ensures ∙ c.in-Some.is) more c.atoms.invariant
