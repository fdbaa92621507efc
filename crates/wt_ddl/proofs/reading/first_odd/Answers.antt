use Rattle.std.proofs.Common.{◌∙◌, ◌+◌, sym, ap, arith, drop}
use Rattle.wt_ddl.specs.Schemas.{odd_by, first_odd}
use Rattle.wt_ddl.proofs.Odds.{odd_here, not_odd}
use Rattle.wt_ddl.proofs.reading.first_odd.Goals as goal

pub returns-in-Odd : goal.returns-in-Odd
returns-in-Odd c =
    sym c.tokens.invariant.exact
    ∙ odd_here c.args.tokens.now c.tokens.i c.get-token.result c.get-token.ensures
    ∙ ap (λ k. odd_by k c.get-token.result.start (first_odd (drop (c.tokens.i + 1) c.args.tokens.now))) c.in-Odd.is

pub tokens-preserved : goal.tokens-preserved
tokens-preserved c = record {
  exact = sym (not_odd c.get-token.result.kind c.get-token.result.start (first_odd (drop (c.tokens.i + 1) c.args.tokens.now)) c.in_default.not-Odd)
      ∙ sym (odd_here c.args.tokens.now c.tokens.i c.get-token.result c.get-token.ensures)
      ∙ c.tokens.invariant.exact;
  within = omega arith;
}
