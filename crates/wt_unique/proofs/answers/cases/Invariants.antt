use Rattle.std.proofs.Common.{◌≡◌, ◌++◌, length}
use Rattle.wt_unique.specs.Answering.{cases_each}
use Rattle.wt_unique.proofs.answers.cases.Given as goal

abbrev pub invariant-lefts : goal.invariant-lefts
invariant-lefts l = l.out ++ cases_each l.left_list l.right_list l.lefts l.rights ≡ cases_each l.left_list l.right_list l.initial.lefts l.initial.rights

abbrev pub decreases-lefts : goal.decreases-lefts
decreases-lefts l = length l.lefts
