use Rattle.std.proofs.Common.{◌∙◌}
use Rattle.wt_ddl.proofs.Schemed.{lex_exit, odd_fails, none_odd, tables_exit, schema_is, schema_law, text_law}
use Rattle.wt_ddl.proofs.reading.read_schema.Goals as goal

pub returns-in_err-tokens-clause-exact : goal.returns-in_err-tokens-clause-exact
returns-in_err-tokens-clause-exact c = lex_exit c.args.bytes.now c.in_err-tokens.field-0.0 c.from_residual.result c.from_residual.ensures.1 c.in_err-tokens.ensures

pub returns-in-Some-clause-exact : goal.returns-in-Some-clause-exact
returns-in-Some-clause-exact c = odd_fails c.args.bytes.now c.in_ok-tokens.tokens c.in-Some.error c.in_ok-tokens.ensures c.in-Some.ensures

pub returns-in_err-tables-clause-exact : goal.returns-in_err-tables-clause-exact
returns-in_err-tables-clause-exact c =
    tables_exit c.args.bytes.now c.in_ok-tokens.tokens c.in_err-tables.field-0.0 c.from_residual-in_err-tables.result c.in_ok-tokens.ensures (none_odd _ _ c.in_default.not-Some c.first_odd.ensures)
    c.from_residual-in_err-tables.ensures.1 c.in_err-tables.ensures

pub invariant_of-result : goal.invariant_of-result
invariant_of-result c = record {
  lawful = schema_law c.args.bytes.now c.in_ok-tables.tables (schema_is c.args.bytes.now c.in_ok-tokens.tokens c.in_ok-tokens.ensures (none_odd _ _ c.in_default.not-Some c.first_odd.ensures) ∙ c.in_ok-tables.ensures);
}

pub returns-clause-exact : goal.returns-clause-exact
returns-clause-exact c = schema_is c.args.bytes.now c.in_ok-tokens.tokens c.in_ok-tokens.ensures (none_odd _ _ c.in_default.not-Some c.first_odd.ensures) ∙ c.in_ok-tables.ensures

pub returns-clause-sentence : goal.returns-clause-sentence
returns-clause-sentence c =
    text_law c.args.bytes.now c.in_ok-tables.tables (schema_is c.args.bytes.now c.in_ok-tokens.tokens c.in_ok-tokens.ensures (none_odd _ _ c.in_default.not-Some c.first_odd.ensures) ∙ c.in_ok-tables.ensures)
