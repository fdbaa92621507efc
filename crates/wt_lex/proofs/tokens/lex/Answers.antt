use Rattle.std.proofs.Common.{◌∙◌}
use Rattle.wt_lex.proofs.Lexing.{lexed_long, lexed_not_text, lexed_text}
use Rattle.wt_lex.proofs.tokens.lex.Goals as goal

pub returns-then-bytes-gt-MOST_BYTES-clause-exact : goal.returns-then-bytes-gt-MOST_BYTES-clause-exact
returns-then-bytes-gt-MOST_BYTES-clause-exact c = lexed_long c.args.bytes.now c.if-bytes-gt-MOST_BYTES.true

pub returns-in-Err-clause-exact : goal.returns-in-Err-clause-exact
returns-in-Err-clause-exact c =
    lexed_not_text c.args.bytes.now c.valid_up_to.result c.if-bytes-gt-MOST_BYTES.false c.in-Err.ensures.cases.0 (c.valid_up_to.ensures ∙ c.in-Err.ensures.valid_len)

pub returns-clause-exact : goal.returns-clause-exact
returns-clause-exact c =
    rw (lexed_text c.args.bytes.now c.if-bytes-gt-MOST_BYTES.false c.in_default.ensures.cases.1) c.cut.ensures.exact
