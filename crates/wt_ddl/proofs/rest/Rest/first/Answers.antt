use Rattle.std.proofs.Common.{◌∙◌, sym, ap}
use Rattle.wt_reading.specs.Lexemes.{kind}
use Rattle.wt_lex.specs.Names.{keyword}
use Rattle.wt_ddl.specs.Fronts.{first}
use Rattle.wt_ddl.proofs.Marks.{first-drop, kind-drop}
use Rattle.wt_ddl.proofs.rest.Rest.first.Goals as goal

pub returns-then-self-len-clause-value : goal.returns-then-self-len-clause-value
returns-then-self-len-clause-value c =
    sym (first-drop c.self.inside.bytes.now c.self.inside.tokens.now c.self.inside.at c.get.result c.get.ensures) ∙ ap first c.self.view_is

pub returns-then-self-len-clause-kind : goal.returns-then-self-len-clause-kind
returns-then-self-len-clause-kind c = (
  keyword c.self.inside.bytes.now c.get.result,
  ap kind (sym c.self.view_is) ∙ kind-drop c.self.inside.bytes.now c.self.inside.tokens.now c.self.inside.at c.get.result c.get.ensures,
)
