use Rattle.wt_rewriting.specs.Making.{Between}
use Rattle.wt_rewriting.proofs.making.lines_between.Given as goal

abbrev pub invariant-statements : goal.invariant-statements
invariant-statements g l = Between l.source.schema.now.tables l.source.book.now.rules l.source.queries.now l.from l.n l.text.items l.refused
