use Rattle.std.proofs.Common.{◌<◌, ◌+◌, length, arith}
use Rattle.wt_rewriting.proofs.Lining.{both_between, none_between, one_between, some_at}
use Rattle.wt_rewriting.proofs.making.lines_between.Goals as goal

pub statements-init : goal.statements-init
statements-init g c =
    rw c.new-text.ensures.items (none_between c.args.source.now.schema.now.tables c.args.source.now.book.now.rules c.args.source.now.queries.now c.args.from)

pub statements-preserved : goal.statements-preserved
statements-preserved g c =
    let within : c.statements.n < length c.args.source.now.queries.now.statements = omega (arith, c.statements.auto.n-end, c.statements-test.true, c.requires.within) in
    let (s, at) = some_at c.args.source.now.queries.now.statements c.statements.n within in
    rw (c.in_ok-extend_from_slice.ensures.items, c.as_slice.ensures) (both_between c.args.source.now.schema.now.tables c.args.source.now.book.now.rules c.args.source.now.queries.now c.args.from c.statements.n (c.statements.n + 1) c.statements.text.items _
    c.statements.refused c.in_ok-line.line.refused c.statements.invariant (one_between _ _ c.args.source.now.queries.now c.statements.n s c.in_ok-line.line at (c.in_ok-line.ensures s at)))
