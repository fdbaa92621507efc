use Rattle.std.proofs.Common.{◌≡◌, false, refl, sym, ◌∙◌, rules}
use Rattle.std.proofs.lemmas.Bool.{false≢true}
use Rattle.wt_symbol.specs.Sides.{pair_of}
use Rattle.wt_cores.proofs.Searching.{no_cores, cores_between}
use Rattle.wt_cores.proofs.rules.find_cores.Goals as goal

pub returns-then-not-branch-clause-all : goal.returns-then-not-branch-clause-all
returns-then-not-branch-clause-all g c =
    let no : c.in_ok-prove.field-0 ≡ false = search rules in
    no_cores (pair_of c.args.pair.now) c.args.steps c.args.all _ (λ h. false≢true (sym no ∙ c.in_ok-prove.ensures.exact.1 h))

pub returns-clause-all : goal.returns-clause-all
returns-clause-all g c = cores_between (pair_of c.args.pair.now) c.args.steps (record { 0 = 0 }) c.args.all _ refl c.in_ok-search.ensures.all
