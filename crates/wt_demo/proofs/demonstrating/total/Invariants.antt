use Rattle.wt_demo.specs.Demo.{IsTotal}
use Rattle.wt_demo.proofs.demonstrating.total.Given as goal

abbrev pub invariant-statements : goal.invariant-statements
invariant-statements g l = IsTotal l.schema.tables l.book.rules l.first l.n l.all
