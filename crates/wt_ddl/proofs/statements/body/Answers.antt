use Rattle.wt_ddl.proofs.Lawful.{few_columns}
use Rattle.wt_ddl.proofs.statements.body.Goals as goal

pub settled-requires : goal.settled-requires
settled-requires c = few_columns c.args.text.now c.in_ok-elements.elements c.args.rest.now c.in_ok-elements.n c.in_ok-elements.ensures.exact
