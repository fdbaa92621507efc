use Rattle.std.proofs.Common.{◌∙◌, ap, arith, drop}
use Rattle.wt_ddl.proofs.Marks.{after_is}
use Rattle.wt_ddl.proofs.rest.Rest.after.Goals as goal

pub returns-clause-value : goal.returns-clause-value
returns-clause-value c =
    after_is c.self.inside.bytes.now c.self.inside.tokens.now c.self.inside.at c.args.n c.min.result (omega (arith, c.min.ensures, c.len.ensures)) c.self.invariant
    ∙ ap (drop c.args.n) c.self.view_is
