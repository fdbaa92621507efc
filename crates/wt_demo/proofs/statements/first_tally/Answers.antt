use Rattle.std.proofs.Common.{◌∙◌, ap, subst, sym}
use Rattle.std.specs.Prelude.{Err, Ok}
use Rattle.wt_grammar.specs.Statements.{answer}
use Rattle.wt_ast.specs.Tree.{query_tree}
use Rattle.wt_lines.proofs.Lined.{if_ok}
use Rattle.wt_parse.specs.Outcomes.{Answers}
use Rattle.wt_demo.proofs.Counting.{first_of, first_read, first_refused}
use Rattle.wt_demo.proofs.statements.first_tally.Goals as goal

pub returns-in-Ok : goal.returns-in-Ok
returns-in-Ok g c =
    let (s, at) = first_of c.args.queries.now.statements c.count.result c.count.ensures c.if-count-eq0.false in
    if_ok c.query_tally.result _ _ (λ t h. first_read c.args.schema.now.tables c.args.book.now.rules c.args.queries.now s at (query_tree c.deref.result.now) t
    (c.in-Ok.ensures.exact s at ∙ ap (λ q. Ok (query_tree q)) (sym c.deref.ensures)) h) c.query_tally.ensures

pub returns-in-Err-Refused : goal.returns-in-Err-Refused
returns-in-Err-Refused g c =
    let (s, at) = first_of c.args.queries.now.statements c.count.result c.count.ensures c.if-count-eq0.false in
    first_refused c.args.schema.now.tables c.args.book.now.rules c.args.queries.now s at _ (subst (λ e. Answers (Err e) (answer c.args.queries.now.bytes s)) c.in-Err-Refused.field-0-is (c.in-Err-Refused.ensures.exact s at))

pub returns-in-Err-Lex : goal.returns-in-Err-Lex
returns-in-Err-Lex g c =
    let (s, at) = first_of c.args.queries.now.statements c.count.result c.count.ensures c.if-count-eq0.false in
    first_refused c.args.schema.now.tables c.args.book.now.rules c.args.queries.now s at _ (subst (λ e. Answers (Err e) (answer c.args.queries.now.bytes s)) c.in-Err-Lex.field-0-is (c.in-Err-Lex.ensures.exact s at))
