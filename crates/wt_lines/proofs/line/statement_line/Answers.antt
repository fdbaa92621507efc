use Rattle.std.proofs.Common.{◌∙◌, ap, sym}
use Rattle.std.specs.Prelude.{Ok}
use Rattle.wt_ast.specs.Tree.{query_tree}
use Rattle.wt_lines.proofs.Lined.{if_ok, line_read}
use Rattle.wt_lines.proofs.line.statement_line.Goals as goal

pub returns-in-Ok : goal.returns-in-Ok
returns-in-Ok g c =
    if_ok c.query_line.result _ _
    (λ line is s at. line_read c.args.schema.now.tables c.args.book.now.rules c.args.queries.now.bytes s (query_tree c.deref.result.now) line
    (c.in-Ok.ensures.exact s at ∙ ap (λ q. Ok (query_tree q)) (sym c.deref.ensures)) is)
    c.query_line.ensures
