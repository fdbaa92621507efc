use Rattle.wt_lex.proofs.Lexing.{lexed_ok}
use Rattle.wt_ddl.proofs.Schemed.{tables_few}
use Rattle.wt_ddl.proofs.reading.tables_of.Goals as goal

pub new-text-requires : goal.new-text-requires
new-text-requires c = (lexed_ok c.args.bytes.now c.args.tokens.now c.requires).0

pub linked_tables-requires-clause-few : goal.linked_tables-requires-clause-few
linked_tables-requires-clause-few c = (tables_few c.new-text.result c.new.result c.in_ok-tables.tables c.in_ok-tables.field-0-1 c.in_ok-tables.ensures).0

pub linked_tables-requires-clause-narrow : goal.linked_tables-requires-clause-narrow
linked_tables-requires-clause-narrow c = (tables_few c.new-text.result c.new.result c.in_ok-tables.tables c.in_ok-tables.field-0-1 c.in_ok-tables.ensures).1
