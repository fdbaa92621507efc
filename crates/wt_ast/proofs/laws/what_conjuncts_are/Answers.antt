use Rattle.wt_ast.proofs.Conjuncts.{none_is_and, one_conjunct, marked_first, their_marks}
use Rattle.wt_ast.proofs.laws.what_conjuncts_are.Goals as goal

pub returns : goal.returns
returns c = record { no_and = none_is_and; whole = one_conjunct; marked = marked_first; marks = their_marks }
