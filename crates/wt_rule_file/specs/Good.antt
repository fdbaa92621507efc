-- Rules that are read.
use Rattle.std.specs.Prelude.{ℕ, ◌^◌, ◌<◌, length}
use Rattle.wt_symbol.specs.Lawful.{IsLawful}
use Rattle.wt_constraint.specs.Atoms.{atoms_of_pair}
use Rattle.wt_form.specs.Under.{Provable}
use Rattle.wt_rule_file.specs.Files.{RuleTree}

-- the pair is lawful, so that its destination weighs less; the set is one of its atoms; and it is provable within so many steps
pub record IsGoodWithin (steps : ℕ) (rule : RuleTree) : Type 0 where
  pub lawful : IsLawful rule.pair
  pub within : rule.set.0 < 2 ^ length (atoms_of_pair rule.pair)
  pub proved : Provable rule.pair rule.set steps
