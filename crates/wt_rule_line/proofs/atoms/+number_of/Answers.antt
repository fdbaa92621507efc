use Rattle.std.proofs.Common.{◌≡◌, ℕ, subst, sym}
use Rattle.std.specs.Prelude.{MatchOption}
use Rattle.wt_rule_line.specs.Sets.{picked}
use Rattle.wt_rule_line.proofs.Picked.{took_none_at}
use Rattle.wt_rule_line.proofs.atoms.+number_of.Goals as goal

pub returns-in_err-higher-in-len1-up-atoms-clause-picked :
    goal.returns-in_err-higher-in-len1-up-atoms-clause-picked
returns-in_err-higher-in-len1-up-atoms-clause-picked t c =
    subst (λ r. MatchOption r ((n : ℕ) → picked n c.args.all.now ≡ c.args.atoms.now → ⊥) (λ n. picked n c.args.all.now ≡ c.args.atoms.now)) (sym c.from_residual.ensures)
    (took_none_at c.args.all.now c.args.atoms.now _ _ c.in-len1-up.len_at_least c.in-len1-up-atoms.len_at_least (c.are_same.ensures.0 c.if-are_same.true) c.requires.apart c.in_err-higher-in-len1-up-atoms.ensures.picked)
