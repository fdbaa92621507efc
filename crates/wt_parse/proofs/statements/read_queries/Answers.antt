use Rattle.std.proofs.lemmas.List.{length-map}
use Rattle.std.proofs.Common.{arith}
use Rattle.wt_parse.proofs.Pieces.{is_short}
use Rattle.wt_parse.proofs.statements.read_queries.Goals as goal

pub overflow_cast-bytes : goal.overflow_cast-bytes
overflow_cast-bytes c = let short = is_short c.args.bytes.now c.in_ok-tokens.tokens c.in_ok-tokens.ensures.exact in omega arith

pub returns-clause-few : goal.returns-clause-few
returns-clause-few c =
    let short = is_short c.args.bytes.now c.in_ok-tokens.tokens c.in_ok-tokens.ensures.exact in
    simp length-map (omega (arith, short, c.in_ok-tokens.ensures.few, c.in_ok-pieces.ensures.few))
